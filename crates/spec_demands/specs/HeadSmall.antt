-- The head that is read back can be told as numbers: its texts lie in a room, its length has 32 bits, its date is one.
use Rattle.std.specs.Prelude.{ℕ, ◌≤◌, ◌<◌, Bool, true, false, List, ◌≡◌, refl, ltb, length, take, drop, Option, Some, None}
use Rattle.std.proofs.Common.{arith, length-take, length-drop, leb-true, ltb-false}
use Rattle.spec_format.specs.Impossible.{impossible}
use Rattle.spec_format.specs.Record.{most}
use Rattle.spec_format.specs.Rooms.{Rooms, table_of, rooms_fine, lengths_fine, head_of, text_at, source_at, contig_text_at, length_of, may_text, may_source, may_contig, may_length}
use Rattle.spec_format.specs.WellFormed.{date_fine, locus_fine, well_formed}
use Rattle.spec_format.specs.declared.Date.{Date}
use Rattle.spec_format.specs.declared.Span.{Span}
use Rattle.spec_format.specs.declared.ContigText.{ContigText}
use Rattle.spec_format.specs.declared.Head.{Head}
use Rattle.spec_format.specs.declared.SourceText.{SourceText}
use Rattle.spec_rooms.specs.LayoutLengths.{and_left, and_right}
use Rattle.spec_contracts.specs.Numbers.{largest}
use Rattle.spec_contracts.specs.Writes.{LengthFits}
use Rattle.api_head.specs.Back.{TextSmall, SourceSmall, ContigSmall, LengthSmall, DateSmall, Small}

cut_short : (store : List ℕ) (start n : ℕ) → length store ≤ most → length (take n (drop start store)) < largest
cut_short store start n m =
    let a = length-take n (drop start store) in
    let b = length-drop start store in
    omega (arith, m)

module _ (store : List ℕ) (m : length store ≤ most) where
  text_small : (at : ℕ) (t : Option Span) → TextSmall (text_at at (may_text store t))
  text_small at None = tt
  text_small at (Some s) = cut_short store s.start s.length m

  source_small : (at o : ℕ) (t : Option SourceText) → SourceSmall (source_at at o (may_source store t))
  source_small at o None = tt
  source_small at o (Some s) = (cut_short store s.text.start s.text.length m, text_small o s.organism)

contig_small : (r : Rooms) → length r.texts ≤ most → (at row : ℕ) (c : Option ContigText) → ContigSmall (contig_text_at at row (may_contig r c))
contig_small r m at row None = tt
contig_small r m at row (Some c) = cut_short r.texts c.text.start c.text.length m

length_small : (l : Option ℕ) → LengthFits l → LengthSmall (length_of (may_length l))
length_small None f = tt
length_small (Some n) f = f

date_small : (d : Option Date) → date_fine d ≡ true → DateSmall d
date_small None e = tt
date_small (Some d) e = go (ltb d.day 1) refl (ltb 31 d.day) refl (ltb d.month 1) refl (ltb 12 d.month) refl (ltb 9999 d.year) refl
  where
    go : (a : Bool) → ltb d.day 1 ≡ a → (b : Bool) → ltb 31 d.day ≡ b → (c : Bool) → ltb d.month 1 ≡ c → (f : Bool) → ltb 12 d.month ≡ f → (g : Bool) → ltb 9999 d.year ≡ g →
        DateSmall (Some d)
    go false p false q false s false u false v =
        let x = ltb-false d.day 1 p in
        let y = ltb-false 31 d.day q in
        let z = ltb-false 12 d.month u in
        let w = ltb-false 9999 d.year v in
        (omega arith, (omega arith, (omega arith, omega arith)))
    go true p b q c s f u g v = impossible cc
    go false p true q c s f u g v = impossible cc
    go false p false q true s f u g v = impossible cc
    go false p false q false s true u g v = impossible cc
    go false p false q false s false u true v = impossible cc

texts_short : (r : Rooms) (h : Head) → rooms_fine r h ≡ true → length r.texts ≤ most
unfolding rooms_fine lengths_fine
texts_short r h e = leb-true (length r.texts) most (and_left _ _ (and_left _ _ e))

dated_fine : (W : ℕ) (truncate escape : Bool) (r : Rooms) (h : Head) → well_formed W truncate escape (table_of r h) ≡ true → date_fine h.date ≡ true
unfolding well_formed locus_fine table_of
dated_fine W truncate escape r h e = search (and_left, and_right)

pub head_small : (W : ℕ) (truncate escape : Bool) (r : Rooms) (h : Head) → rooms_fine r h ≡ true → well_formed W truncate escape (table_of r h) ≡ true → LengthFits h.length →
    Small (head_of (table_of r h))
unfolding head_of table_of
head_small W truncate escape r h f g l =
    let m = texts_short r h f in
    record {
      name = text_small r.texts m _ h.name;
      length = length_small h.length l;
      molecule = text_small r.texts m _ h.molecule;
      date = date_small h.date (dated_fine W truncate escape r h g);
      definition = text_small r.texts m _ h.definition;
      accession = text_small r.texts m _ h.accession;
      version = text_small r.texts m _ h.version;
      dblink = text_small r.texts m _ h.dblink;
      keywords = text_small r.texts m _ h.keywords;
      source = source_small r.texts m _ _ h.source;
      contig = contig_small r m _ _ h.contig;
    }
