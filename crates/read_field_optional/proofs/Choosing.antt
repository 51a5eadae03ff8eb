-- One reader or else another, lines that are dropped, and entries that may be missing. Assumes nothing.
use Prim.Native.Nat.{ℕ, ◌≤◌}
use mathlib.Core.Path.{◌≡◌, refl, sym, ap, ◌∙◌}
use mathlib.Core.Bool.{Bool, true}
use mathlib.Core.List.{List}
use native.Mathlib.Omega.{arith}
use lib.ListN.{length, drop}
use Rattle.spec_format.specs.Bytes.{absent, is, bytes}
use Rattle.spec_format.specs.Readers.{Ans, got, no, cut, or_else, optional, unless, tag, line, utf8_of}
use Rattle.spec_format.specs.Header.{field, maybe_field, source, ignored_line}
use Rattle.scan_bytes.specs.declared.Step.{Step}
use Rattle.scan_bytes.specs.declared.Step.TheVariants as step
use Rattle.scan_bytes.specs.declared.Line.{Line}
use Rattle.scan_bytes.specs.declared.Line.TheVariants as line'
use Rattle.scan_bytes.specs.Views.{Stepped, Lined}
use Rattle.scan_bytes.specs.Sequence.{step_places}
use Rattle.read_field_entry.specs.declared.Entry.{Entry}
use Rattle.read_field_entry.specs.declared.EntryAt.{EntryAt}
use Rattle.read_field_entry.specs.declared.EntryAt.TheVariants as entry
use Rattle.read_field_entry.specs.Entries.{Enters}
use Rattle.read_field_optional.specs.declared.MayEntry.TheVariants as may
use Rattle.read_field_optional.specs.declared.MayEntryAt.TheVariants as may_at
use Rattle.read_field_optional.specs.declared.MayEntryAt.{MayEntryAt}
use Rattle.read_field_optional.specs.declared.MayEntry.{MayEntry}
use Rattle.read_field_optional.specs.declared.SourceAt.TheVariants as source'
use Rattle.read_field_optional.specs.Fields.{section_word, MayEnter, Sources}
use Rattle.read_field_optional.specs.Knowing.{known_entry, no_entry, cut_entry, entry_stands, known_may, cut_may, then_got}

module _ (s : List ℕ) (at : ℕ) (o p : Ans Unit) (r : Step) (h : Stepped s at o r) where
  pub else_got : (n : ℕ) → r ≡ step.Got n → Stepped s at (or_else o p) (step.Got n)
  else_got n e = record { is = rw (← h.is, e); place = step_places h e }

  pub else_cut : r ≡ step.Cut → Stepped s at (or_else o p) step.Cut
  else_cut e = record { is = rw (← h.is, e); place = tt }

  pub else_no : (q : Step) → r ≡ step.No → Stepped s at p q → Stepped s at (or_else o p) q
  else_no q e k = record { is = rw (← h.is, e) k.is; place = k.place }

pub ruleset choosing = (else_got, else_cut, else_no)

both_unless : {A B : Type 0} (a b : Ans A) (x : Ans B) → unless a (unless b x) ≡ unless (or_else a b) x
both_unless (got u r) b x = refl
both_unless no b x = refl
both_unless cut b x = refl

ignored_as : (s : List ℕ) → ignored_line s ≡ unless (section_word s) (utf8_of (line s))
unfolding ignored_line section_word
ignored_as s =
    both_unless (tag (bytes "ORIGIN") s) (tag (bytes "CONTIG") s) (unless (tag (bytes "FEATURES") s) (unless (tag (bytes "//") s) (utf8_of (line s))))
    ∙ ap (unless (or_else (tag (bytes "ORIGIN") s) (tag (bytes "CONTIG") s))) (both_unless (tag (bytes "FEATURES") s) (tag (bytes "//") s) (utf8_of (line s)))
    ∙ both_unless (or_else (tag (bytes "ORIGIN") s) (tag (bytes "CONTIG") s)) (or_else (tag (bytes "FEATURES") s) (tag (bytes "//") s)) (utf8_of (line s))

module _ (s : List ℕ) (at : ℕ) (r : Step) (h : Stepped s at (section_word (drop at s)) r) where
  pub drop_got : (n : ℕ) → r ≡ step.Got n → Lined s at (ignored_line (drop at s)) line'.No
  drop_got n e = record { is = sym (ignored_as (drop at s) ∙ rw (← h.is, e)); place = tt }

  pub drop_cut : r ≡ step.Cut → Lined s at (ignored_line (drop at s)) line'.Cut
  drop_cut e = record { is = sym (ignored_as (drop at s) ∙ rw (← h.is, e)); place = tt }

  pub drop_no : (q : Line) → r ≡ step.No → Lined s at (utf8_of (line (drop at s))) q → Lined s at (ignored_line (drop at s)) q
  drop_no q e k = record { is = k.is ∙ sym (ignored_as (drop at s) ∙ rw (← h.is, e)); place = k.place }

pub ruleset dropping = (drop_got, drop_cut, drop_no)

-- ---- entries that may be missing

module _ (s : List ℕ) (at : ℕ) (keep : Bool) (o : Ans (List ℕ)) (r : EntryAt) (h : Enters s at keep o r) where
  pub may_cut : r ≡ entry.Cut → MayEnter s at keep (optional (drop at s) o) may_at.Cut
  may_cut e = record { is = rw (cut_entry h e) }

  pub may_absent : at ≤ length s → r ≡ entry.No → MayEnter s at keep (optional (drop at s) o) (may_at.Got may.Absent at)
  may_absent l e = record { is = record { the = absent; is = rw (no_entry h e); stands = tt; from = omega arith; within = l; small = omega arith } }

  pub may_is : (e : Entry) → r ≡ entry.Got e → MayEnter s at keep (optional (drop at s) o) (may_at.Got (may.Is e) e.next)
  may_is e q =
      let w = known_entry h q in
      record {
        is = record {
          the = is w.the;
          is = ap (optional (drop at s)) w.is;
          stands = entry_stands w;
          from = omega (arith, w.from, w.ahead);
          within = w.within;
          small = omega (arith, w.from, w.small);
        };
      }

pub ruleset maying = (may_cut, may_absent, may_is)

-- ---- SOURCE

module _ (s : List ℕ) (at : ℕ) (r : EntryAt) (h : Enters s at true (field 0 (bytes "SOURCE") true (drop at s)) r) where
  pub source_no : r ≡ entry.No → Sources s at (source (drop at s)) source'.No
  unfolding source
  source_no e = record { is = rw (no_entry h e) }

  pub source_cut : r ≡ entry.Cut → Sources s at (source (drop at s)) source'.Cut
  unfolding source
  source_cut e = record { is = rw (cut_entry h e) }

  module _ (e : Entry) (q : MayEntryAt) (k : r ≡ entry.Got e) (m : MayEnter s e.next true (maybe_field 2 (bytes "ORGANISM") true (drop e.next s)) q) where
    pub organism_cut : q ≡ may_at.Cut → Sources s at (source (drop at s)) source'.Cut
    unfolding source
    organism_cut f = record { is = rw ((known_entry h k).is, cut_may m f) }

    pub source_got : (organism : MayEntry) (next : ℕ) → q ≡ may_at.Got organism next → Sources s at (source (drop at s)) (source'.Got e organism next)
    unfolding source
    source_got organism next f =
        let w = known_may m f in
        record {
          is = record {
            the = record { text = (known_entry h k).the; organism = w.the };
            is = then_got _ (known_entry h k).is (then_got _ w.is refl);
            stands = entry_stands (known_entry h k);
            may = w.stands;
            from = w.from;
            within = w.within;
          };
        }

pub ruleset sourcing = (source_no, source_cut, organism_cut, source_got)
