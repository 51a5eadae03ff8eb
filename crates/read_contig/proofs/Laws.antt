-- CONTIG by its word, its spaces, its entry and the reading of its text. Assumes nothing.
use Prim.Native.Nat.{ℕ, ◌+◌, ◌-◌, ◌≤◌}
use native.Mathlib.Omega.{arith}
use mathlib.Core.Path.{◌≡◌, refl, sym, ap, subst, ◌∙◌}
use mathlib.Core.Bool.{Bool, true, false}
use mathlib.Core.List.{List}
use lib.ListN.{length, drop}
use Rattle.spec_format.specs.Bytes.{bytes, is}
use Rattle.spec_format.specs.Readers.{Ans, got, no, cut, optional, tag, spaces1}
use Rattle.spec_format.specs.Header.{field_text, field_bytes}
use Rattle.spec_format.specs.Location.{Reading, reading, is_deep, is_one, locates, rows_in}
use Rattle.spec_format.specs.Deep.{so_far, deep_contig}
use Rattle.spec_format.specs.Record.{contig, contig_of}
use Rattle.spec_location.specs.Bytes.{locates_most}
use Rattle.scan_bytes.specs.declared.Step.{Step}
use Rattle.scan_bytes.specs.declared.Step.TheVariants as step
use Rattle.scan_bytes.specs.Places.{part}
use Rattle.scan_bytes.specs.Parts.{length_part}
use Rattle.scan_bytes.specs.Views.{Stepped, Texted}
use Rattle.scan_bytes.specs.Sequence.{step_places, text_places}
use Rattle.read_location.specs.declared.Location.{Location}
use Rattle.read_location.specs.declared.Location.TheVariants as location
use Rattle.read_location.specs.Reads.{Answered}
use Rattle.read_field_text.specs.Texts.{text_in}
use Rattle.read_field_entry.specs.declared.Entry.{Entry}
use Rattle.read_field_entry.specs.declared.EntryAt.{EntryAt}
use Rattle.read_field_entry.specs.declared.EntryAt.TheVariants as entry
use Rattle.read_field_entry.specs.Entries.{Known, Enters}
use Rattle.read_field_optional.specs.declared.MayEntry.TheVariants as may
use Rattle.read_field_optional.specs.Fields.{Stands}
use Rattle.read_field_optional.specs.Knowing.{known_entry, no_entry, cut_entry, entry_stands}
use Rattle.read_field_reference.specs.Standing.{stands_from}
use Rattle.read_feature_location.specs.Answers.{answer_rows, answer_none, answer_deep}
use Rattle.read_contig.specs.declared.ContigAt.{ContigAt}
use Rattle.read_contig.specs.declared.ContigAt.TheVariants as contig'
use Rattle.read_contig.specs.Contigs.{deep_gap, ContigRead, entry_text_lem}

-- ---- number 14

module _ (s : List ℕ) (at : ℕ) (r : Step) (h : Texted s at (spaces1 (drop at s)) r) where
  pub gap_no : r ≡ step.No → false ≡ deep_gap (drop at s)
  gap_no e = rw (← h.is, e)

  pub gap_cut : r ≡ step.Cut → false ≡ deep_gap (drop at s)
  gap_cut e = rw (← h.is, e)

  module _ (n : ℕ) (e : r ≡ step.Got n) where
    pub gap_ahead : at ≤ n
    gap_ahead = (text_places h e).0

    pub gap_within : n ≤ length s
    gap_within = (text_places h e).1

    pub gap_got : (b : Bool) → b ≡ is_deep (reading true (so_far true (n - at + 6) (drop n s))) → b ≡ deep_gap (drop at s)
    gap_got b k =
        let l : length (part at n s) ≡ n - at = length_part s at n gap_ahead gap_within in
        k ∙ sym (rw (← h.is, e, l))

pub ruleset gaps = (gap_no, gap_cut, gap_ahead, gap_within, gap_got)

module _ (s : List ℕ) (at : ℕ) (r : Step) (h : Stepped s at (tag (bytes "CONTIG") (drop at s)) r) where
  pub word_no : r ≡ step.No → false ≡ deep_contig (drop at s)
  unfolding deep_contig
  word_no e = rw (← h.is, e)

  pub word_cut : r ≡ step.Cut → false ≡ deep_contig (drop at s)
  unfolding deep_contig
  word_cut e = rw (← h.is, e)

  pub word_within : (n : ℕ) → r ≡ step.Got n → n ≤ length s
  word_within n e = (step_places h e).1

  pub word_got : (n : ℕ) (b : Bool) → r ≡ step.Got n → b ≡ deep_gap (drop n s) → b ≡ deep_contig (drop at s)
  unfolding deep_contig
  word_got n b e k = k ∙ sym (rw (← h.is, e))

pub ruleset words = (word_no, word_cut, word_within, word_got)

-- ---- the entry

abbrev as_entry : List ℕ → Ans (List ℕ)
as_entry x = field_bytes 0 (bytes "CONTIG") false x

module _ (s : List ℕ) (at : ℕ) (e : Entry) (w : Known s at false (as_entry (drop at s)) e) where
  pub entry_ordered : e.text ≤ e.next
  entry_ordered = omega (arith, w.ahead)

  pub entry_within : e.next ≤ length s
  entry_within = w.within

  module _ (h : at ≤ length s) (seen old : List ℕ) (first : ℕ) (new : List ℕ) (x : Location)
      (k : Answered (reading true (so_far true e.columns (part e.text e.next s))) seen old first new x) where
    read : Answered (reading true w.the) seen old first new x
    read = rw (entry_text_lem s e w.the w.again w.ahead w.within) at k

    untaken : locates true w.the ≡ false → ContigRead s false (optional (drop at s) (contig (drop at s))) (contig'.Got may.Absent 0 at)
    untaken f =
        record {
          is = record {
            shallow = refl;
            is = rw (w.is, f);
            stands = record { text = tt; read = refl; counted = refl; few = omega arith };
            within = h;
          };
        }

    pub contig_none : x ≡ location.None → ContigRead s false (optional (drop at s) (contig (drop at s))) (contig'.Got may.Absent 0 at)
    contig_none e = untaken (answer_none read e)

    pub contig_deep : x ≡ location.TooDeep → ContigRead s false (optional (drop at s) (contig (drop at s))) (contig'.Got may.Absent 0 at)
    contig_deep e = untaken (answer_deep read e)

    pub contig_got : (rows : ℕ) (same : Bool) → x ≡ location.Read rows same →
        ContigRead s false (optional (drop at s) (contig (drop at s))) (contig'.Got (may.Is e) rows e.next)
    contig_got rows same q =
        let a = answer_rows read q in
        let z : w.the ≡ text_in (field_text e.columns false (drop e.text s)) = sym (ap text_in w.again) in
        let d : Stands s 0 false w.the e = stands_from s 0 at false w.the e (omega arith) (entry_stands w) in
        record {
          is = record {
            shallow = refl;
            is = taken a.0 ∙ ap (λ (t : List ℕ). got (is (contig_of t)) (drop e.next s)) z;
            stands = record {
              text = subst (λ (t : List ℕ). Stands s 0 false t e) z d;
              read = subst (λ (t : List ℕ). locates true t ≡ true) z a.0;
              counted = a.1 ∙ ap (λ (t : List ℕ). length (rows_in true t)) z;
              few = omega (arith, a.1, w.sized, locates_most true w.the a.0);
            };
            within = w.within;
          };
        }
      where
        taken : locates true w.the ≡ true → optional (drop at s) (contig (drop at s)) ≡ got (is (contig_of w.the)) (drop e.next s)
        taken f = rw (w.is, f)

pub ruleset entries = (entry_ordered, entry_within, contig_none, contig_deep, contig_got)

-- ---- where no seventeenth word opens

module _ (s : List ℕ) (at : ℕ) (b : Bool) (g : b ≡ deep_contig (drop at s)) where
  pub deep_there : b ≡ true → ContigRead s (deep_contig (drop at s)) (optional (drop at s) (contig (drop at s))) contig'.Deep
  deep_there f = record { is = sym g ∙ f }

  module _ (f : b ≡ false) (r : EntryAt) (h : Enters s at false (as_entry (drop at s)) r) where
    pub entry_cut : r ≡ entry.Cut → ContigRead s (deep_contig (drop at s)) (optional (drop at s) (contig (drop at s))) contig'.Cut
    entry_cut e = record { is = (sym g ∙ f, rw (cut_entry h e)) }

    pub entry_no : at ≤ length s → r ≡ entry.No → ContigRead s (deep_contig (drop at s)) (optional (drop at s) (contig (drop at s))) (contig'.Got may.Absent 0 at)
    entry_no l e =
        record {
          is = record {
            shallow = sym g ∙ f;
            is = rw (no_entry h e);
            stands = record { text = tt; read = refl; counted = refl; few = omega arith };
            within = l;
          };
        }

    pub entry_known : (x : Entry) → r ≡ entry.Got x → Known s at false (as_entry (drop at s)) x
    entry_known x e = known_entry h e

    pub entry_got : (q : ContigAt) → ContigRead s false (optional (drop at s) (contig (drop at s))) q →
        ContigRead s (deep_contig (drop at s)) (optional (drop at s) (contig (drop at s))) q
    entry_got q w = subst (λ (d : Bool). ContigRead s d (optional (drop at s) (contig (drop at s))) q) (sym (sym g ∙ f)) w

pub ruleset whole = (deep_there, entry_cut, entry_no, entry_known, entry_got)
