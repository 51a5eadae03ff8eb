-- The laws of the parts of a record: each answer by the answer of the part before.
use Rattle.std.specs.Prelude.{Option}
use Prim.Native.Nat.{ℕ, ◌≤◌}
use mathlib.Core.Bool.{Bool, true, false}
use mathlib.Core.Path.{◌≡◌, refl, sym, ap, subst, ◌∙◌}
use mathlib.Core.List.{List}
use lib.ListN.{length, drop}
use lib.Dec.{ltb, leb}
use borrow.Author.Tests.{ltb-true, ltb-false, le-leb, lt-leb}
use Rattle.spec_format.specs.Bytes.{bytes}
use Rattle.spec_format.specs.Readers.{got}
use Rattle.spec_format.specs.Table.{Locus}
use Rattle.spec_format.specs.Locus.{preamble, locus}
use Rattle.spec_format.specs.Header.{Field, every, text_in}
use Rattle.spec_format.specs.Record.{Middle, not_read, middle, deep_in, table_from, read_record}
use Rattle.spec_format.specs.Strict.{letters_from, record_by}
use Rattle.spec_format.specs.Rooms.{may_length}
use Rattle.spec_format.specs.declared.Unread.{Unread}
use Rattle.spec_format.specs.declared.Unread.TheVariants as unread
use Rattle.spec_strict.specs.Laws.{strictly_none}
use Rattle.scan_bytes.specs.Views.{Stepped}
use Rattle.scan_bytes.specs.Sequence.{step_within}
use Rattle.scan_bytes.specs.declared.Step.{Step}
use Rattle.scan_bytes.specs.declared.Step.TheVariants as step
use Rattle.read_locus.specs.declared.LocusPlan.{LocusPlan}
use Rattle.read_locus.specs.declared.LocusPlan.TheVariants as plans
use Rattle.read_locus.specs.Plans.{planned, PlanEnds}
use Rattle.read_locus_at.specs.declared.LocusAt.{LocusAt}
use Rattle.read_locus_at.specs.declared.LocusAt.TheVariants as read
use Rattle.read_locus_at.specs.Reads.{LocusEnds, LocusRead}
use Rattle.read_field_optional.specs.declared.MayEntry.{MayEntry}
use Rattle.read_field_all.specs.declared.Header.{Header}
use Rattle.read_field_all.specs.Gathered.{fields_at, Gathered}
use Rattle.read_feature_table.specs.declared.Features.{Features}
use Rattle.read_record_middle.specs.declared.MiddleAt.{MiddleAt}
use Rattle.read_record_middle.specs.declared.MiddleAt.TheVariants as mid
use Rattle.read_record_middle.specs.Middles.{middle_in, MiddleKnown, MiddleAs, Middles}
use Rattle.read_origin.specs.declared.EndAt.{EndAt}
use Rattle.read_origin.specs.declared.EndAt.TheVariants as ended
use Rattle.read_origin.specs.Ends.{origin_then, Before, EndKnown, EndAs, Ends}
use Rattle.read_record_plan.specs.declared.Rest.{Rest}
use Rattle.read_record_plan.specs.declared.RestAt.{RestAt}
use Rattle.read_record_plan.specs.declared.RestAt.TheVariants as rest
use Rattle.read_record_plan.specs.declared.PlanAt.{PlanAt}
use Rattle.read_record_plan.specs.declared.PlanAt.TheVariants as plan
use Rattle.read_record_plan.specs.Plans.{length_in, rest_then, table_with, RestKnown, RestAs, Rests, header_then, locus_then, Plans}

-- ---- after the header

-- a table of what was read up to here has no letters yet
table_before : (given : Option ℕ) (l : Locus) (fs : List Field) (m : Middle) → l.length ≡ may_length given → Before given (table_from l fs m)
unfolding table_from
table_before given l fs m e = record { none = refl; length = e }

module _ (s : List ℕ) (at : ℕ) (given : Option ℕ) (strict : Bool) (r : MiddleAt) (h : Middles s (deep_in (drop at s)) (middle (drop at s)) r) where
  as_told : (x : MiddleAt) → r ≡ x → MiddleAs s (deep_in (drop at s)) (middle (drop at s)) x
  as_told x e = subst (λ (x : MiddleAt). MiddleAs s (deep_in (drop at s)) (middle (drop at s)) x) e h.is

  pub rest_cut : r ≡ mid.Cut → Rests s given (rest_then strict (drop at s)) (rest.Refused unread.Unended)
  unfolding rest_then
  rest_cut e = let k = as_told mid.Cut e in record { is = λ l fs _. rw (k.0, k.1) (strictly_none strict (not_read unread.Unended)) }

  pub rest_deep : r ≡ mid.Deep → Rests s given (rest_then strict (drop at s)) (rest.Refused unread.TooDeep)
  unfolding rest_then
  rest_deep e = let k : deep_in (drop at s) ≡ true = as_told mid.Deep e in record { is = λ l fs _. rw k (strictly_none strict (not_read unread.TooDeep)) }

  module _ (first : ℕ) (counts : Features) (entry : MayEntry) (rows next : ℕ) (e : r ≡ mid.Got first counts entry rows next) where
    known : MiddleKnown s (deep_in (drop at s)) (middle (drop at s)) first counts entry rows next
    known = as_told (mid.Got first counts entry rows next) e

    pub middle_within : next ≤ length s
    middle_within = known.within

    then_origin : (l : Locus) (fs : List Field) → rest_then strict (drop at s) l fs ≡ origin_then strict (drop next s) (table_from l fs (middle_in s first entry))
    unfolding rest_then origin_then
    then_origin l fs = rw (known.shallow, known.is)

    module _ (q : EndAt) (w : Ends s given (origin_then strict (drop next s)) q) where
      pub rest_refused : (why : Unread) → q ≡ ended.Refused why → Rests s given (rest_then strict (drop at s)) (rest.Refused why)
      rest_refused why f =
          let k : EndAs s given (origin_then strict (drop next s)) (ended.Refused why) = subst (λ (x : EndAt). EndAs s given (origin_then strict (drop next s)) x) f w.is in
          record { is = λ l fs d. then_origin l fs ∙ k (table_from l fs (middle_in s first entry)) (table_before given l fs (middle_in s first entry) d) }

      pub rest_got : (lettersAt n place : ℕ) → q ≡ ended.Got lettersAt n place →
          Rests s given (rest_then strict (drop at s))
          (rest.Got (record { features_at = first; features = counts; contig = entry; contig_rows = rows; letters_at = lettersAt; letters = n; place = place }))
      unfolding table_with
      rest_got lettersAt n place f =
          let k : EndKnown s given (origin_then strict (drop next s)) lettersAt n place = subst (λ (x : EndAt). EndAs s given (origin_then strict (drop next s)) x) f w.is in
          record {
            is = record {
              is = λ l fs d. then_origin l fs ∙ k.is (table_from l fs (middle_in s first entry)) (table_before given l fs (middle_in s first entry) d);
              stands = record { middle = known.stands; counted = k.counted; lettered = k.lettered; within = k.within };
            };
          }

pub ruleset resting = (rest_cut, rest_deep, middle_within, rest_refused, rest_got)

-- ---- the header

length_in_lem : (s : List ℕ) (p : LocusPlan) → (planned s p).length ≡ may_length (length_in p)
length_in_lem s plans.Unknown = refl
length_in_lem s (plans.Known name n molecule circular division date) = refl

once : (n : ℕ) (b : Bool) → b ≡ ltb 1 n → b ≡ false → leb n 1 ≡ true
once n b e f = le-leb n 1 (ltb-false 1 n (sym e ∙ f))

more_than_once : (n : ℕ) (b : Bool) → b ≡ ltb 1 n → b ≡ true → leb n 1 ≡ false
more_than_once n b e f = lt-leb n 1 (ltb-true 1 n (sym e ∙ f))

module _ (s : List ℕ) (at : ℕ) (p : LocusPlan) (strict : Bool) (h : Header) (g : Gathered s at (fields_at (drop at s)) h) where
  abbrev names : ℕ
  names = length (every (text_in (bytes "DEFINITION")) (fields_at (drop at s)))

  pub header_twice : h.twice ≡ true → Plans s (header_then strict (planned s p) (drop at s)) (plan.Refused unread.TwoDefinitions)
  unfolding header_then
  header_twice e = record { is = rw (g.ended, more_than_once names h.twice g.twice e) (strictly_none strict (not_read unread.TwoDefinitions)) }

  pub header_within : h.next ≤ length s
  header_within = g.within

  module _ (r : RestAt) (n : Option ℕ) (e : h.twice ≡ false) (m : n ≡ length_in p) (w : Rests s n (rest_then strict (drop h.next s)) r) where
    then_rest : header_then strict (planned s p) (drop at s) ≡ rest_then strict (drop h.next s) (planned s p) (fields_at (drop at s))
    unfolding header_then rest_then
    then_rest = rw (g.ended, once names h.twice g.twice e)

    given : (planned s p).length ≡ may_length n
    given = length_in_lem s p ∙ ap may_length (sym m)

    pub header_refused : (why : Unread) → r ≡ rest.Refused why → Plans s (header_then strict (planned s p) (drop at s)) (plan.Refused why)
    header_refused why f =
        let k : RestAs s n (rest_then strict (drop h.next s)) (rest.Refused why) = subst (λ (x : RestAt). RestAs s n (rest_then strict (drop h.next s)) x) f w.is in
        record { is = then_rest ∙ k (planned s p) (fields_at (drop at s)) given }

    pub header_ready : (x : Rest) → r ≡ rest.Got x → at ≤ length s → PlanEnds (length s) p →
        Plans s (header_then strict (planned s p) (drop at s)) (plan.Ready (record { locus = p; header_at = at; header = h; rest = x }))
    header_ready x f l b =
        let k : RestKnown s n (rest_then strict (drop h.next s)) x = subst (λ (y : RestAt). RestAs s n (rest_then strict (drop h.next s)) y) f w.is in
        record {
          is = record {
            is = then_rest ∙ k.is (planned s p) (fields_at (drop at s)) given;
            stands = record { locus = b; headed = l; header = g; rest = k.stands };
          };
        }

pub ruleset heading = (header_twice, header_within, header_refused, header_ready)

-- ---- LOCUS, and the lines before it

module _ (s : List ℕ) (at : ℕ) (strict : Bool) (r : LocusAt) (h : LocusRead s at (locus (drop at s)) r) where
  pub locus_no : r ≡ read.No → Plans s (locus_then strict (drop at s)) (plan.Refused unread.NoLocus)
  unfolding locus_then
  locus_no e = record { is = rw (← h.is, e) (strictly_none strict (not_read unread.NoLocus)) }

  pub locus_cut : r ≡ read.Cut → Plans s (locus_then strict (drop at s)) (plan.Refused unread.Unended)
  unfolding locus_then
  locus_cut e = record { is = rw (← h.is, e) (strictly_none strict (not_read unread.Unended)) }

  module _ (p : LocusPlan) (n : ℕ) (e : r ≡ read.Got p n) where
    ends : LocusEnds s at (read.Got p n)
    ends = subst (λ (x : LocusAt). LocusEnds s at x) e h.place

    pub locus_within : n ≤ length s
    locus_within = ends.1

    pub locus_ends : PlanEnds (length s) p
    locus_ends = ends.2

    pub locus_then_lem : (q : PlanAt) → Plans s (header_then strict (planned s p) (drop n s)) q → Plans s (locus_then strict (drop at s)) q
    unfolding header_then locus_then
    locus_then_lem q w = let k : locus (drop at s) ≡ got (planned s p) (drop n s) = rw (← h.is, e) in rw k w

pub ruleset locating = (locus_no, locus_cut, locus_within, locus_ends, locus_then_lem)

module _ (s : List ℕ) (at : ℕ) (strict : Bool) (r : Step) (h : Stepped s at (preamble (drop at s)) r) where
  pub before_no : r ≡ step.No → Plans s (record_by strict (drop at s)) (plan.Refused unread.NoLocus)
  unfolding read_record record_by letters_from
  before_no e = record { is = rw (← h.is, e) (strictly_none strict (not_read unread.NoLocus)) }

  pub before_cut : r ≡ step.Cut → Plans s (record_by strict (drop at s)) (plan.Refused unread.NoLocus)
  unfolding read_record record_by letters_from
  before_cut e = record { is = rw (← h.is, e) (strictly_none strict (not_read unread.NoLocus)) }

  pub before_then : (n : ℕ) (q : PlanAt) → r ≡ step.Got n → Plans s (locus_then strict (drop n s)) q → Plans s (record_by strict (drop at s)) q
  unfolding locus_then read_record record_by letters_from
  before_then n q e w = rw (← h.is, e) w

pub ruleset starting = (before_no, before_cut, before_then, step_within)
