-- The laws of the answer: what refuses it, and that a planned record is the one that is read.
use Prim.Native.Nat.{ℕ, ◌≤◌, ◌<◌}
use native.Mathlib.Omega.{arith}
use mathlib.Core.Bool.{Bool}
use mathlib.Core.Path.{◌≡◌, sym, ap, subst, ◌∙◌}
use mathlib.Core.List.{List}
use lib.ListN.{length, drop}
use borrow.Author.Tests.{eq-eqb, ne_eqb, le-leb, lt-leb}
use Rattle.spec_format.specs.Record.{was_read, not_read, most}
use Rattle.spec_format.specs.Strict.{record_by, read_by}
use Rattle.spec_format.specs.Rooms.{Rooms, answer_of, read_answer, rooms_of, rooms_after}
use Rattle.spec_format.specs.declared.Unread.{Unread}
use Rattle.spec_format.specs.declared.Unread.TheVariants as unread
use Rattle.spec_format.specs.declared.ReadAnswer.{ReadAnswer}
use Rattle.spec_format.specs.declared.ReadAnswer.TheVariants as answer
use Rattle.spec_contracts.specs.Reads.{Answered}
use Rattle.read_record_plan.specs.declared.Plan.{Plan}
use Rattle.read_record_plan.specs.declared.PlanAt.{PlanAt}
use Rattle.read_record_plan.specs.declared.PlanAt.TheVariants as plan
use Rattle.read_record_plan.specs.Plans.{plan_table, Ready, PlanIs, PlanAs, Plans}
use Rattle.read_record_prepared.specs.Prepares.{Answering}

-- ---- the place

module _ (strict : Bool) (s : List ℕ) (at : ℕ) where
  pub too_long : most < length s → read_by strict s at ≡ not_read unread.BadPlace
  unfolding read_by
  too_long h = rw (lt-leb (length s) most h)

  pub beyond : length s ≤ most → length s < at → read_by strict s at ≡ not_read unread.BadPlace
  unfolding read_by
  beyond l h = rw (le-leb (length s) most l, lt-leb at (length s) h)

  pub at_end_lem : length s ≤ most → length s ≤ at → at ≤ length s → read_by strict s at ≡ not_read unread.AtEnd
  unfolding read_by
  at_end_lem l h w = let e : at ≡ length s = omega arith in rw (le-leb (length s) most l, le-leb at (length s) w, eq-eqb at (length s) e)

  pub inside : length s ≤ most → at < length s → read_by strict s at ≡ record_by strict (drop at s)
  unfolding read_by
  inside l h = rw (le-leb (length s) most l, le-leb at (length s) (omega arith), ne_eqb at (length s) (λ e. omega arith))

-- ---- refusals

module _ (strict : Bool) (s : List ℕ) (at : ℕ) (old : Rooms) (why : Unread) where
  pub refused : read_by strict s at ≡ not_read why → Answered strict s at old old (answer.Refused why)
  unfolding read_answer answer_of rooms_after rooms_of
  refused e = record { is = rw e; texts = rw e; references = rw e; comments = rw e; features = rw e; qualifiers = rw e; locations = rw e; letters = rw e }

module _ (strict : Bool) (s : List ℕ) (at : ℕ) (old : Rooms) where
  pub refused_long : most < length s → Answered strict s at old old (answer.Refused unread.BadPlace)
  refused_long h = refused strict s at old unread.BadPlace (too_long strict s at h)

  pub refused_beyond : length s ≤ most → length s < at → Answered strict s at old old (answer.Refused unread.BadPlace)
  refused_beyond l h = refused strict s at old unread.BadPlace (beyond strict s at l h)

  pub refused_end : length s ≤ most → length s ≤ at → at ≤ length s → Answered strict s at old old (answer.Refused unread.AtEnd)
  refused_end l h w = refused strict s at old unread.AtEnd (at_end_lem strict s at l h w)

-- ---- a plan

module _ (strict : Bool) (s : List ℕ) (at : ℕ) (q : PlanAt) (h : Plans s (record_by strict (drop at s)) q) (l : length s ≤ most) (w : at < length s) where
  pub refused_plan : (old : Rooms) (why : Unread) → q ≡ plan.Refused why → Answered strict s at old old (answer.Refused why)
  refused_plan old why e =
      let k : record_by strict (drop at s) ≡ not_read why = subst (λ (x : PlanAt). PlanAs s (record_by strict (drop at s)) x) e h.is in
      refused strict s at old why (inside strict s at l w ∙ k)

  module _ (p : Plan) (e : q ≡ plan.Ready p) where
    known : PlanIs s (record_by strict (drop at s)) p
    known = subst (λ (x : PlanAt). PlanAs s (record_by strict (drop at s)) x) e h.is

    pub plan_ready : Ready s p
    plan_ready = record { stands = known.stands; most = l }

    pub answered : (old new : Rooms) (r : ReadAnswer) → Answering s p old new r → Answered strict s at old new r
    unfolding read_answer rooms_after
    answered old new r a =
        let k : read_by strict s at ≡ was_read (plan_table s p) (drop p.rest.place s) = inside strict s at l w ∙ known.is in
        let m : new ≡ rooms_of old (read_by strict s at) = a.rooms ∙ ap (rooms_of old) (sym k) in
        record {
          is = a.is ∙ ap (answer_of (length s) old) (sym k);
          texts = ap (λ (x : Rooms). x.texts) m;
          references = ap (λ (x : Rooms). x.references) m;
          comments = ap (λ (x : Rooms). x.comments) m;
          features = ap (λ (x : Rooms). x.features) m;
          qualifiers = ap (λ (x : Rooms). x.qualifiers) m;
          locations = ap (λ (x : Rooms). x.locations) m;
          letters = ap (λ (x : Rooms). x.letters) m;
        }
