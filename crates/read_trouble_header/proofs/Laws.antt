-- The laws of the places: what stands from one place on is what the next is looked for in.
use Prim.Native.Nat.{ℕ, ◌≤◌, ◌<◌}
use native.Mathlib.Omega.{arith}
use mathlib.Core.Path.{◌≡◌, subst}
use mathlib.Core.List.{List}
use lib.ListN.{length, drop}
use Rattle.spec_format.specs.Readers.{no, cut}
use Rattle.spec_format.specs.Header.{header_field}
use Rattle.spec_format.specs.Locus.{locus}
use Rattle.spec_format.specs.Record.{left_by}
use Rattle.spec_lines.specs.Stands.{Stands}
use Rattle.spec_lines.specs.Troubles.{searched, header_begins, header_ends, definition, second_definition}
use Rattle.read_locus.specs.Plans.{PlanEnds}
use Rattle.read_locus.specs.declared.LocusPlan.{LocusPlan}
use Rattle.read_locus_at.specs.Reads.{LocusEnds, LocusRead}
use Rattle.read_locus_at.specs.declared.LocusAt.{LocusAt}
use Rattle.read_locus_at.specs.declared.LocusAt.TheVariants as line
use Rattle.read_field_any.specs.Fields.{FieldKnown, FieldAs, FieldRead}
use Rattle.read_field_any.specs.declared.Field.{Field}
use Rattle.read_field_any.specs.declared.FieldAt.{FieldAt}
use Rattle.read_field_any.specs.declared.FieldAt.TheVariants as read
use Rattle.read_field_all.specs.Gathered.{fields_at, Gathered}
use Rattle.read_field_all.specs.declared.Header.{Header}

-- ---- where the header begins and ends

module _ (s : List ℕ) (at p : ℕ) (r : LocusAt) (h : Stands s at (searched (drop at s)) p) (k : LocusRead s p (locus (drop p s)) r) where
  pub begins_after : (plan : LocusPlan) (n : ℕ) → r ≡ line.Got plan n → Stands s at (header_begins (drop at s)) n
  unfolding header_begins
  begins_after plan n e =
      let w : (p < n) × (n ≤ length s) × PlanEnds (length s) plan = subst (λ (x : LocusAt). LocusEnds s p x) e k.place in
      record { is = rw (← h.is, ← k.is, e); from = omega (arith, h.from, w.0); within = w.1 }

  pub begins_no : r ≡ line.No → Stands s at (header_begins (drop at s)) p
  unfolding header_begins
  begins_no e = record { is = rw (← h.is, ← k.is, e); from = h.from; within = h.within }

  pub begins_cut : r ≡ line.Cut → Stands s at (header_begins (drop at s)) p
  unfolding header_begins
  begins_cut e = record { is = rw (← h.is, ← k.is, e); from = h.from; within = h.within }

pub ends_after : (s : List ℕ) (at p : ℕ) (x : Header) → Stands s at (header_begins (drop at s)) p → Gathered s p (fields_at (drop p s)) x → Stands s at (header_ends (drop at s)) x.next
unfolding header_ends
ends_after s at p x h k = record { is = rw (← h.is, k.ended); from = omega (arith, h.from, k.from); within = k.within }

pub ruleset header = (begins_after, begins_no, begins_cut, ends_after)

-- ---- the second DEFINITION

module _ (s : List ℕ) (at : ℕ) (r : FieldAt) (h : FieldRead s at (header_field (drop at s)) r) (w : at ≤ length s) where
  pub field_after : (f : Field) (n : ℕ) → r ≡ read.Got f n → Stands s at (left_by (drop at s) (header_field (drop at s))) n
  field_after f n e =
      let k : FieldKnown s at (header_field (drop at s)) f n = subst (λ (x : FieldAt). FieldAs s at (header_field (drop at s)) x) e h.is in
      record { is = rw k.is; from = omega (arith, k.ahead); within = k.within }

  pub field_no : r ≡ read.No → Stands s at (left_by (drop at s) (header_field (drop at s))) at
  field_no e =
      let k : header_field (drop at s) ≡ no = subst (λ (x : FieldAt). FieldAs s at (header_field (drop at s)) x) e h.is in
      record { is = rw k; from = omega arith; within = w }

  pub field_cut : r ≡ read.Cut → Stands s at (left_by (drop at s) (header_field (drop at s))) at
  field_cut e =
      let k : header_field (drop at s) ≡ cut = subst (λ (x : FieldAt). FieldAs s at (header_field (drop at s)) x) e h.is in
      record { is = rw k; from = omega arith; within = w }

pub second_is :
    (s : List ℕ) (at p q r : ℕ) → Stands s at (definition (drop at s)) p → Stands s p (left_by (drop p s) (header_field (drop p s))) q → Stands s q (definition (drop q s)) r →
    Stands s at (second_definition (drop at s)) r
unfolding second_definition
second_is s at p q r h k l = record { is = rw (← h.is, ← k.is, l.is); from = omega (arith, h.from, k.from, l.from); within = l.within }

pub ruleset fields = (field_after, field_no, field_cut, second_is)
