-- CONTIG in a slice: its text where its entry stands, its rows, and what its finder promises.
use Rattle.std.specs.Prelude.{ℕ, ◌+◌, ◌-◌, ◌≤◌, ◌<◌, ◌≡◌, Bool, true, false, List, length, take, drop}
use Rattle.std.proofs.Common.{arith, ap, sym, ◌∙◌, length-drop}
use Rattle.spec_format.specs.Bytes.{May, absent, is, bytes}
use Rattle.spec_format.specs.Readers.{Ans, got, cut, bind, spaces1}
use Rattle.spec_format.specs.Table.{Contig}
use Rattle.spec_format.specs.Header.{field_text}
use Rattle.spec_format.specs.Location.{locates}
use Rattle.spec_format.specs.Deep.{so_far, deep_from, asked}
use Rattle.spec_format.specs.Record.{contig_of}
use Rattle.spec_format.specs.WellFormed.{if_is}
use Rattle.spec_format.specs.Rooms.{contig_rows}
use Rattle.spec_location.specs.SoFar.{so_far_front}
use Rattle.scan_bytes.specs.Places.{part}
use Rattle.read_field_text.specs.Texts.{text_in}
use Rattle.read_field_entry.specs.declared.Entry.{Entry}
use Rattle.read_field_optional.specs.declared.MayEntry.{MayEntry}
use Rattle.read_field_optional.specs.declared.MayEntry.TheVariants as may
use Rattle.read_field_optional.specs.Fields.{MayStand, may_length}
use Rattle.read_contig.specs.declared.ContigAt.{ContigAt}
use Rattle.read_contig.specs.declared.ContigAt.TheVariants as contig

-- `deep_contig` from the spaces after the word on
abbrev pub deep_gap : List ℕ → Bool
deep_gap s = asked (bind (spaces1 s) λ gap s. deep_from true (length gap + length (bytes "CONTIG")) s)

-- the text that an entry says, joined without line ends
abbrev pub contig_in : List ℕ → MayEntry → May (List ℕ)
contig_in s may.Absent = absent
contig_in s (may.Is e) = is (text_in (field_text e.columns false (drop e.text s)))

-- a text with its rows
abbrev pub contig_as : May (List ℕ) → May Contig
contig_as absent = absent
contig_as (is t) = is (contig_of t)

-- CONTIG's text stands where its entry says, and has a reading of this many rows, no more than bytes
pub record ContigStands (s : List ℕ) (entry : MayEntry) (rows : ℕ) : Type 0 where
  pub text : MayStand s 0 false (contig_in s entry) entry
  pub read : if_is (locates true) (contig_in s entry) ≡ true
  pub counted : rows ≡ length (contig_rows (contig_as (contig_in s entry)))
  pub few : rows ≤ may_length entry

pub record ContigKnown (s : List ℕ) (deep : Bool) (o : Ans (May Contig)) (entry : MayEntry) (rows next : ℕ) : Type 0 where
  pub shallow : deep ≡ false
  pub is : o ≡ got (contig_as (contig_in s entry)) (drop next s)
  pub stands : ContigStands s entry rows
  pub within : next ≤ length s

abbrev pub ContigReadAs : List ℕ → Bool → Ans (May Contig) → ContigAt → Type 0
ContigReadAs s deep o (contig.Got entry rows next) = ContigKnown s deep o entry rows next
ContigReadAs s deep o contig.Cut = (deep ≡ false) × (o ≡ cut)
ContigReadAs s deep o contig.Deep = deep ≡ true

pub record ContigRead (s : List ℕ) (deep : Bool) (o : Ans (May Contig)) (r : ContigAt) : Type 0 where
  pub is : ContigReadAs s deep o r

-- up to where the entry ends, the text so far is its text
pub entry_text_lem : (s : List ℕ) (e : Entry) (t : List ℕ) → field_text e.columns false (drop e.text s) ≡ got t (drop e.next s) → e.text < e.next → e.next ≤ length s →
    so_far true e.columns (part e.text e.next s) ≡ t
entry_text_lem s e t h a b =
    let n : length (drop e.text s) - length (drop e.next s) ≡ e.next - e.text = omega (arith, length-drop e.text s, length-drop e.next s) in
    ap (λ (k : ℕ). so_far true e.columns (take k (drop e.text s))) (sym n) ∙ so_far_front e.columns (drop e.text s) t (drop e.next s) h
