-- A reference from its parts: one law for each way out of each function. Assumes nothing.
use Prim.Native.Nat.{ℕ, ◌+◌, ◌≤◌}
use mathlib.Core.Path.{◌≡◌, refl, sym, ◌∙◌, subst}
use mathlib.Core.Bool.{true, false}
use mathlib.Core.List.{List}
use native.Mathlib.Omega.{arith}
use lib.ListN.{length, drop, length-append}
use Rattle.spec_format.specs.Bytes.{bytes}
use Rattle.spec_format.specs.Readers.{Ans, got, no, cut, bind}
use Rattle.spec_format.specs.Header.{field, maybe_field, reference}
use Rattle.spec_format.specs.Table.{Reference}
use Rattle.spec_format.specs.Rooms.{piece_text, perhaps, pieces_text, reference_pieces}
use Rattle.read_field_entry.specs.declared.Entry.{Entry}
use Rattle.read_field_entry.specs.declared.EntryAt.{EntryAt}
use Rattle.read_field_entry.specs.declared.EntryAt.TheVariants as entry
use Rattle.read_field_entry.specs.Entries.{Enters}
use Rattle.read_field_optional.specs.declared.MayEntry.{MayEntry}
use Rattle.read_field_optional.specs.declared.MayEntryAt.{MayEntryAt}
use Rattle.read_field_optional.specs.declared.MayEntryAt.TheVariants as may_at
use Rattle.read_field_optional.specs.Fields.{may_length, MayEnter}
use Rattle.read_field_optional.specs.Knowing.{known_entry, no_entry, cut_entry, entry_stands, known_may, cut_may, then_got}
use Rattle.read_field_reference.specs.declared.PairAt.{PairAt}
use Rattle.read_field_reference.specs.declared.PairAt.TheVariants as pair
use Rattle.read_field_reference.specs.declared.Front.{Front}
use Rattle.read_field_reference.specs.declared.FrontAt.{FrontAt}
use Rattle.read_field_reference.specs.declared.FrontAt.TheVariants as front
use Rattle.read_field_reference.specs.declared.EndAt.{EndAt}
use Rattle.read_field_reference.specs.declared.EndAt.TheVariants as end
use Rattle.read_field_reference.specs.declared.Back.{Back}
use Rattle.read_field_reference.specs.declared.BackAt.{BackAt}
use Rattle.read_field_reference.specs.declared.BackAt.TheVariants as back
use Rattle.read_field_reference.specs.declared.ReferenceEntries.{ReferenceEntries}
use Rattle.read_field_reference.specs.declared.ReferenceAt.TheVariants as reference'
use Rattle.read_field_reference.specs.Standing.{stands_from, may_from, may_sized}
use Rattle.read_field_reference.specs.Parts.{Pair, pair_of, PairKnown, PairAs, Pairs, FrontTexts, up_to_consrtm, FrontKnown, FrontAs, Fronts, EndTexts, after_journal, EndKnown, EndAs, Ends, BackTexts, from_title, BackKnown, BackAs, Backs, joined_entries}
use Rattle.read_field_reference.specs.References.{References}

-- ---- an entry, and one that may follow it

module _ (s : List ℕ) (at indent : ℕ) (word after : List ℕ) (r : EntryAt) (h : Enters s at true (field indent word true (drop at s)) r) where
  pub pair_no : r ≡ entry.No → Pairs s at (pair_of indent word after (drop at s)) pair.No
  unfolding pair_of
  pair_no e = record { is = rw (no_entry h e) }

  pub pair_cut : r ≡ entry.Cut → Pairs s at (pair_of indent word after (drop at s)) pair.Cut
  unfolding pair_of
  pair_cut e = record { is = rw (cut_entry h e) }

  module _ (e : Entry) (q : MayEntryAt) (k : r ≡ entry.Got e) (m : MayEnter s e.next true (maybe_field 2 after true (drop e.next s)) q) where
    pub more_cut : q ≡ may_at.Cut → Pairs s at (pair_of indent word after (drop at s)) pair.Cut
    unfolding pair_of
    more_cut f = record { is = then_got _ (known_entry h k).is (rw (cut_may m f)) }

    pub pair_got :
        (more : MayEntry) (next n : ℕ) → q ≡ may_at.Got more next → n ≡ may_length more →
        Pairs s at (pair_of indent word after (drop at s)) (pair.Got e more (e.length + n) next)
    unfolding pair_of
    pair_got more next n f b =
        let w = known_entry h k in
        let v = known_may m f in
        let l : at ≤ e.next = omega (arith, w.from, w.ahead) in
        record {
          is = record {
            the = record { text = w.the; more = v.the };
            is = then_got _ w.is (then_got _ v.is refl);
            stands = entry_stands w;
            may = may_from s at e.next true v.the more l v.stands;
            sized = omega (arith, b, may_sized s e.next true v.the more v.stands, w.sized);
            small = omega (arith, b, w.small, w.from, v.small);
            ahead = omega (arith, w.from, w.ahead, v.from);
            within = v.within;
          };
        }

pub ruleset pairing = (pair_no, pair_cut, more_cut, pair_got)

module _ {s : List ℕ} {at : ℕ} {o : Ans Pair} where
  pub known_pair : {r : PairAt} {text : Entry} {more : MayEntry} {n next : ℕ} → Pairs s at o r → r ≡ pair.Got text more n next → PairKnown s at o text more n next
  known_pair h q = subst (λ (x : PairAt). PairAs s at o x) q h.is

  no_pair : {r : PairAt} → Pairs s at o r → r ≡ pair.No → o ≡ no
  no_pair h q = subst (λ (x : PairAt). PairAs s at o x) q h.is

  cut_pair : {r : PairAt} → Pairs s at o r → r ≡ pair.Cut → o ≡ cut
  cut_pair h q = subst (λ (x : PairAt). PairAs s at o x) q h.is

-- ---- up to CONSRTM

module _ (s : List ℕ) (at : ℕ) (r : PairAt) (h : Pairs s at (pair_of 0 (bytes "REFERENCE") (bytes "AUTHORS") (drop at s)) r) where
  pub front_no : r ≡ pair.No → Fronts s at (up_to_consrtm (drop at s)) front.No
  unfolding up_to_consrtm
  front_no e = record { is = rw (no_pair h e) }

  pub front_cut : r ≡ pair.Cut → Fronts s at (up_to_consrtm (drop at s)) front.Cut
  unfolding up_to_consrtm
  front_cut e = record { is = rw (cut_pair h e) }

  module _
      (text : Entry) (authors : MayEntry) (n start : ℕ) (q : MayEntryAt) (k : r ≡ pair.Got text authors n start)
      (m : MayEnter s start true (maybe_field 2 (bytes "CONSRTM") true (drop start s)) q) where
    pub consrtm_cut : q ≡ may_at.Cut → Fronts s at (up_to_consrtm (drop at s)) front.Cut
    unfolding up_to_consrtm
    consrtm_cut f = record { is = then_got _ (known_pair h k).is (rw (cut_may m f)) }

    pub front_got :
        (consrtm : MayEntry) (next i : ℕ) → q ≡ may_at.Got consrtm next → i ≡ may_length consrtm →
        Fronts s at (up_to_consrtm (drop at s)) (front.Got (record { text = text; authors = authors; consrtm = consrtm }) (n + i) next)
    unfolding up_to_consrtm
    front_got consrtm next i f b =
        let w = known_pair h k in
        let v = known_may m f in
        let l : at ≤ start = omega (arith, w.ahead) in
        record {
          is = record {
            the = record { text = w.the.text; authors = w.the.more; consrtm = v.the };
            is = then_got _ w.is (then_got _ v.is refl);
            text = w.stands;
            authors = w.may;
            consrtm = may_from s at start true v.the consrtm l v.stands;
            sized = omega (arith, b, may_sized s start true v.the consrtm v.stands, w.sized);
            small = omega (arith, b, w.small, v.small);
            ahead = omega (arith, w.ahead, v.from);
            within = v.within;
          };
        }

pub ruleset fronting = (front_no, front_cut, consrtm_cut, front_got)

module _ {s : List ℕ} {at : ℕ} {o : Ans FrontTexts} where
  pub known_front : {r : FrontAt} {e : Front} {n next : ℕ} → Fronts s at o r → r ≡ front.Got e n next → FrontKnown s at o e n next
  known_front h q = subst (λ (x : FrontAt). FrontAs s at o x) q h.is

  no_front : {r : FrontAt} → Fronts s at o r → r ≡ front.No → o ≡ no
  no_front h q = subst (λ (x : FrontAt). FrontAs s at o x) q h.is

  cut_front : {r : FrontAt} → Fronts s at o r → r ≡ front.Cut → o ≡ cut
  cut_front h q = subst (λ (x : FrontAt). FrontAs s at o x) q h.is

-- ---- after JOURNAL

module _ (s : List ℕ) (at : ℕ) (r : MayEntryAt) (h : MayEnter s at false (maybe_field 3 (bytes "PUBMED") false (drop at s)) r) where
  pub end_cut : r ≡ may_at.Cut → Ends s at (after_journal (drop at s)) end.Cut
  unfolding after_journal
  end_cut e = record { is = rw (cut_may h e) }

  module _
      (pubmed : MayEntry) (start : ℕ) (q : MayEntryAt) (k : r ≡ may_at.Got pubmed start)
      (m : MayEnter s start true (maybe_field 2 (bytes "REMARK") true (drop start s)) q) where
    pub remark_cut : q ≡ may_at.Cut → Ends s at (after_journal (drop at s)) end.Cut
    unfolding after_journal
    remark_cut f = record { is = then_got _ (known_may h k).is (rw (cut_may m f)) }

    pub end_got :
        (remark : MayEntry) (next n i : ℕ) → q ≡ may_at.Got remark next → n ≡ may_length pubmed → i ≡ may_length remark →
        Ends s at (after_journal (drop at s)) (end.Got pubmed remark (n + i) next)
    unfolding after_journal
    end_got remark next n i f a b =
        let w = known_may h k in
        let v = known_may m f in
        record {
          is = record {
            the = record { pubmed = w.the; remark = v.the };
            is = then_got _ w.is (then_got _ v.is refl);
            first = w.stands;
            last = may_from s at start true v.the remark w.from v.stands;
            sized = rw (a, b, may_sized s at false w.the pubmed w.stands, may_sized s start true v.the remark v.stands);
            small = omega (arith, a, b, w.small, v.small);
            within = v.within;
          };
        }

pub ruleset ending = (end_cut, remark_cut, end_got)

module _ {s : List ℕ} {at : ℕ} {o : Ans EndTexts} where
  pub known_end : {r : EndAt} {pubmed remark : MayEntry} {n next : ℕ} → Ends s at o r → r ≡ end.Got pubmed remark n next → EndKnown s at o pubmed remark n next
  known_end h q = subst (λ (x : EndAt). EndAs s at o x) q h.is

  cut_end : {r : EndAt} → Ends s at o r → r ≡ end.Cut → o ≡ cut
  cut_end h q = subst (λ (x : EndAt). EndAs s at o x) q h.is

-- ---- from TITLE on

module _ (s : List ℕ) (at : ℕ) (r : PairAt) (h : Pairs s at (pair_of 2 (bytes "TITLE") (bytes "JOURNAL") (drop at s)) r) where
  pub back_no : r ≡ pair.No → Backs s at (from_title (drop at s)) back.No
  unfolding from_title
  back_no e = record { is = rw (no_pair h e) }

  pub back_cut : r ≡ pair.Cut → Backs s at (from_title (drop at s)) back.Cut
  unfolding from_title
  back_cut e = record { is = rw (cut_pair h e) }

  module _
      (title : Entry) (journal : MayEntry) (n start : ℕ) (q : EndAt) (k : r ≡ pair.Got title journal n start) (m : Ends s start (after_journal (drop start s)) q) where
    pub ends_cut : q ≡ end.Cut → Backs s at (from_title (drop at s)) back.Cut
    unfolding from_title
    ends_cut f = record { is = then_got _ (known_pair h k).is (rw (cut_end m f)) }

    pub back_got :
        (pubmed remark : MayEntry) (i next : ℕ) → q ≡ end.Got pubmed remark i next →
        Backs s at (from_title (drop at s)) (back.Got (record { title = title; journal = journal; pubmed = pubmed; remark = remark }) (n + i) next)
    unfolding from_title
    back_got pubmed remark i next f =
        let w = known_pair h k in
        let v = known_end m f in
        let l : at ≤ start = omega (arith, w.ahead) in
        record {
          is = record {
            the = record { title = w.the.text; journal = w.the.more; pubmed = v.the.pubmed; remark = v.the.remark };
            is = then_got _ w.is (then_got _ v.is refl);
            title = w.stands;
            journal = w.may;
            pubmed = may_from s at start false v.the.pubmed pubmed l v.first;
            remark = may_from s at start true v.the.remark remark l v.last;
            sized = omega (arith, w.sized, v.sized);
            small = omega (arith, w.small, v.small);
            within = v.within;
          };
        }

pub ruleset backing = (back_no, back_cut, ends_cut, back_got)

module _ {s : List ℕ} {at : ℕ} {o : Ans BackTexts} where
  pub known_back : {r : BackAt} {e : Back} {n next : ℕ} → Backs s at o r → r ≡ back.Got e n next → BackKnown s at o e n next
  known_back h q = subst (λ (x : BackAt). BackAs s at o x) q h.is

  no_back : {r : BackAt} → Backs s at o r → r ≡ back.No → o ≡ no
  no_back h q = subst (λ (x : BackAt). BackAs s at o x) q h.is

  cut_back : {r : BackAt} → Backs s at o r → r ≡ back.Cut → o ≡ cut
  cut_back h q = subst (λ (x : BackAt). BackAs s at o x) q h.is

-- ---- the whole

abbrev joined_texts : FrontTexts → BackTexts → Reference
joined_texts f b =
    record {
      text = f.text;
      authors = f.authors;
      consrtm = f.consrtm;
      title = b.title;
      journal = b.journal;
      pubmed = b.pubmed;
      remark = b.remark;
    }

bind_assoc : {A B C : Type 0} (o : Ans A) (f : A → List ℕ → Ans B) (g : B → List ℕ → Ans C) → bind (bind o f) g ≡ bind o (λ a s. bind (f a s) g)
bind_assoc (got a s) f g = refl
bind_assoc no f g = refl
bind_assoc cut f g = refl

-- the sequence of the seven is the sequence of the parts
in_parts : (s : List ℕ) → reference s ≡ (bind (up_to_consrtm s) λ f s. bind (from_title s) λ b s. got (joined_texts f b) s)
unfolding reference up_to_consrtm from_title after_journal pair_of
in_parts s = sym (simp bind_assoc)

parts_length : (f : FrontTexts) (b : BackTexts) → length (pieces_text (reference_pieces (joined_texts f b))) ≡ length f.text + length (piece_text (perhaps f.authors)) + length (piece_text (perhaps f.consrtm)) + (length b.title + length (piece_text (perhaps b.journal)) + (length (piece_text (perhaps b.pubmed)) + length (piece_text (perhaps b.remark))))
unfolding pieces_text
parts_length f b = simp length-append (omega arith)

module _ (s : List ℕ) (at : ℕ) (r : FrontAt) (h : Fronts s at (up_to_consrtm (drop at s)) r) where
  pub reference_no : r ≡ front.No → References s at (reference (drop at s)) reference'.No
  reference_no e = record { is = in_parts (drop at s) ∙ rw (no_front h e) }

  pub reference_cut : r ≡ front.Cut → References s at (reference (drop at s)) reference'.Cut
  reference_cut e = record { is = in_parts (drop at s) ∙ rw (cut_front h e) }

  module _ (f : Front) (n start : ℕ) (q : BackAt) (k : r ≡ front.Got f n start) (m : Backs s start (from_title (drop start s)) q) where
    pub title_no : q ≡ back.No → References s at (reference (drop at s)) reference'.No
    title_no e = record { is = in_parts (drop at s) ∙ then_got _ (known_front h k).is (rw (no_back m e)) }

    pub title_cut : q ≡ back.Cut → References s at (reference (drop at s)) reference'.Cut
    title_cut e = record { is = in_parts (drop at s) ∙ then_got _ (known_front h k).is (rw (cut_back m e)) }

    pub reference_got :
        (b : Back) (i next : ℕ) (e : ReferenceEntries) → q ≡ back.Got b i next → e ≡ joined_entries f b →
        References s at (reference (drop at s)) (reference'.Got e (n + i) next)
    reference_got b i next e u j =
        let w = known_front h k in
        let v = known_back m u in
        let l : at ≤ start = omega (arith, w.ahead) in
        rw j
        (record {
          is = record {
            the = joined_texts w.the v.the;
            is = in_parts (drop at s) ∙ then_got _ w.is (then_got _ v.is refl);
            known = record {
              stands = record {
                text = w.text;
                authors = w.authors;
                consrtm = w.consrtm;
                title = stands_from s at start true v.the.title b.title l v.title;
                journal = may_from s at start true v.the.journal b.journal l v.journal;
                pubmed = may_from s at start false v.the.pubmed b.pubmed l v.pubmed;
                remark = may_from s at start true v.the.remark b.remark l v.remark;
              };
              sized = omega (arith, parts_length w.the v.the, w.sized, v.sized);
              small = omega (arith, w.small, v.small);
            };
            ahead = omega (arith, w.ahead, v.small);
            within = v.within;
          };
        })

pub ruleset referring = (reference_no, reference_cut, title_no, title_cut, reference_got)
