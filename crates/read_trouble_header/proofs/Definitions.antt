-- The laws of one turn of the search for a DEFINITION: a field of the header that is none is passed.
use Prim.Native.Nat.{ℕ, ◌<◌}
use mathlib.Core.Bool.{Bool, true, false}
use mathlib.Core.Path.{◌≡◌, refl, sym, subst, ◌∙◌}
use mathlib.Core.List.{List}
use lib.ListN.{length, drop}
use Rattle.spec_format.specs.Bytes.{pick, May, absent, is, bytes}
use Rattle.spec_format.specs.Readers.{Ans, got, no, cut, more, stop}
use Rattle.spec_format.specs.Header as format
use Rattle.spec_format.specs.Header.{header_field, text_in}
use Rattle.spec_format.specs.Impossible.{impossible}
use Rattle.spec_format.specs.Record.{is_there}
use Rattle.spec_lines.specs.Troubles.{up_to, to_definition}
use Rattle.spec_loops.specs.Loops.{Shrinks}
use Rattle.spec_loops.specs.Stopped.{stopped_stop}
use Rattle.spec_loops.proofs.Stopped.{stopped_more}
use Rattle.spec_loops.proofs.Shrinks.{header_small}
use Rattle.read_preamble.specs.Onwards.{Onwards}
use Rattle.read_preamble.specs.declared.Onward.TheVariants as onward
use Rattle.read_field_entry.specs.declared.Entry.{Entry}
use Rattle.read_field_optional.specs.Fields.{MayStand}
use Rattle.read_field_optional.specs.declared.MayEntry.{MayEntry}
use Rattle.read_field_optional.specs.declared.MayEntry.TheVariants as may
use Rattle.read_field_any.specs.Fields.{FieldKnown, FieldAs, FieldRead}
use Rattle.read_field_any.specs.declared.Field.{Field}
use Rattle.read_field_any.specs.declared.FieldAt.{FieldAt}
use Rattle.read_field_any.specs.declared.FieldAt.TheVariants as read
use Rattle.read_field_all.specs.Notes.{entry_in}
use Rattle.read_field_all.proofs.Noting.{entry_stands}

-- a field that is passed takes a byte at least
definition_small : Shrinks to_definition
definition_small s a r e = go (header_field s) refl e
  where
    go : (o : Ans format.Field) → header_field s ≡ o → up_to s o ≡ got (more a) r → length r < length s
    go (got b z) f g = passed (is_there (text_in (bytes "DEFINITION") b)) g
      where
        passed : (x : Bool) → pick x (got stop s) (got (more b) z) ≡ got (more a) r → length r < length s
        passed true k = impossible cc
        passed false k = header_small s a r (cc)
    go no f g = impossible cc
    go cut f g = impossible cc

-- a DEFINITION has its text where its entry stands
there : (s : List ℕ) (at : ℕ) (m : May (List ℕ)) (e : Entry) → MayStand s at true m (may.Is e) → is_there m ≡ true
there s at absent e h = absurd h
there s at (is t) e h = refl

none : (s : List ℕ) (at : ℕ) (m : May (List ℕ)) → MayStand s at true m may.Absent → is_there m ≡ false
none s at absent h = refl
none s at (is t) h = absurd h

module _ (s : List ℕ) (at : ℕ) (r : FieldAt) (h : FieldRead s at (header_field (drop at s)) r) where
  known : (x : FieldAt) → r ≡ x → FieldAs s at (header_field (drop at s)) x
  known x e = subst (λ (y : FieldAt). FieldAs s at (header_field (drop at s)) y) e h.is

  module _ (f : Field) (n : ℕ) (m : MayEntry) (e : r ≡ read.Got f n) (g : m ≡ entry_in 0 f) where
    field : FieldKnown s at (header_field (drop at s)) f n
    field = known (read.Got f n) e

    stands : (x : MayEntry) → m ≡ x → MayStand s at true (text_in (bytes "DEFINITION") field.the) x
    stands x k =
        subst (λ (y : MayEntry). MayStand s at true (text_in (bytes "DEFINITION") field.the) y) (sym g ∙ k)
        (entry_stands s at n field.the 0 (bytes "DEFINITION") (refl, refl, refl, refl, refl, refl) f field.one)

    pub past_other : m ≡ may.Absent → Onwards to_definition s at (onward.To n)
    past_other k =
        let w = field in
        record {
          is = (
            stopped_more to_definition definition_small (drop at s) w.the (drop n s) (rw (w.is, none s at (text_in (bytes "DEFINITION") w.the) (stands may.Absent k))),
            w.ahead,
            w.within,
          );
        }

    pub at_definition : (d : Entry) → m ≡ may.Is d → Onwards to_definition s at onward.Stop
    at_definition d k =
        let w = field in
        record { is = stopped_stop to_definition (drop at s) (drop at s) (rw (w.is, there s at (text_in (bytes "DEFINITION") w.the) d (stands (may.Is d) k))) }

  pub at_no : r ≡ read.No → Onwards to_definition s at onward.Stop
  at_no e = let k : header_field (drop at s) ≡ no = known read.No e in record { is = stopped_stop to_definition (drop at s) (drop at s) (rw k) }

  pub at_cut : r ≡ read.Cut → Onwards to_definition s at onward.Stop
  at_cut e = let k : header_field (drop at s) ≡ cut = known read.Cut e in record { is = stopped_stop to_definition (drop at s) (drop at s) (rw k) }

pub ruleset turns = (past_other, at_definition, at_no, at_cut)
