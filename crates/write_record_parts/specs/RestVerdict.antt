-- Numbers 11 and 13, in that order: of the features and CONTIG, which `fine` and `kept` say, and of the table without them.
use Rattle.std.specs.Prelude.{ℕ, ◌≡◌, refl, Bool, true, false, ◌&&◌, not, Result, Ok, Err}
use Rattle.std.proofs.Common.{ap, ◌∙◌}
use mathlib.Core.List.{List, []}
use borrow.Author.Tests.{not-true, not-false}
use Rattle.spec_format.specs.Bytes.{pick}
use Rattle.spec_format.specs.Keeping.{keeps}
use Rattle.spec_format.specs.Rooms.{may_length, table_of, rooms_in}
use Rattle.spec_format.specs.Table.{Table}
use Rattle.spec_format.specs.WellFormed.{well_formed}
use Rattle.spec_format.specs.Write.{length_or, printed_name}
use Rattle.spec_format.specs.declared.Head.{Head}
use Rattle.spec_format.specs.declared.How.{How}
use Rattle.spec_format.specs.declared.Unwritten.{Unwritten}
use Rattle.spec_format.specs.declared.Unwritten.TheVariants as unwritten
use Rattle.judge_record.specs.Rest.{rest_table, RestKnown}
use Rattle.judge_record.specs.Rules.{well_formed_if, well_formed_is}
use Rattle.judge_rooms.specs.Parts.{reference_rooms, rest_head}
use Rattle.write_locus.specs.Line.{name_with, name_is}
use Rattle.write_locus_name.specs.Names.{name_test}

abbrev pub table_fine : How → Table → Bool
table_fine how t = well_formed how.width how.truncate how.escape t

abbrev pub table_kept : How → Table → Bool
table_kept how t = keeps how.width how.truncate how.escape t

-- what is answered to `formed` (11) and to `rules` (13), of which the plain writer asks nothing
abbrev pub verdict_by : Bool → Bool → Bool → Result Unit Unwritten
verdict_by keeping formed rules =
    pick formed (pick keeping (pick rules (Ok tt) (Err unwritten.NotKept)) (Ok tt)) (Err unwritten.NoLayout)

unfoldable pub rest_verdict : How → Bool → Bool → Table → Result Unit Unwritten
rest_verdict how fine kept t = verdict_by how.keeping (table_fine how t && fine) (table_kept how t && kept)

-- ---- number 11 by the tests of the code, which has tested the printed name before

module _ (t rf cm l : List ℕ) (h : Head) (k : RestKnown t rf cm l h) (how : How) where
  name_of_rest : name_with how.truncate how.escape (length_or (may_length h.length) h.letters) (table_of (reference_rooms t []) h) ≡
      printed_name how.truncate how.escape (rest_table t rf cm l h)
  unfolding name_with table_of
  name_of_rest = name_is (rooms_in t rf cm [] [] [] l) (rest_head h) k.letters how.truncate how.escape

  pub formed_rest : (named b : Bool)
      → named ≡ name_test (name_with how.truncate how.escape (length_or (may_length h.length) h.letters) (table_of (reference_rooms t []) h))
      → b ≡ well_formed_if named how.width (rest_table t rf cm l h) → b ≡ table_fine how (rest_table t rf cm l h)
  formed_rest named b n e =
      e ∙ well_formed_is named how.truncate how.escape how.width (rest_table t rf cm l h) (n ∙ ap name_test name_of_rest)

-- ---- the ways out

and_no : (x : Bool) → (x && false) ≡ false
and_no true = refl
and_no false = refl

module _ (how : How) (fine kept : Bool) (t : Table) where
  pub rows_unfit : not fine ≡ true → Err unwritten.NoLayout ≡ rest_verdict how fine kept t
  unfolding rest_verdict
  rows_unfit h = rw (not-true fine h, and_no (table_fine how t))

  module _ (f : not fine ≡ false) (a : Bool) (e : a ≡ table_fine how t) where
    pub rest_unfit : not a ≡ true → Err unwritten.NoLayout ≡ rest_verdict how fine kept t
    unfolding rest_verdict
    rest_unfit h = rw (← e, not-true a h)

    module _ (g : not a ≡ false) where
      pub plain_fit : not how.keeping ≡ true → Ok tt ≡ rest_verdict how fine kept t
      unfolding rest_verdict
      plain_fit h = rw (not-false fine f, ← e, not-false a g, not-true how.keeping h)

      module _ (k : not how.keeping ≡ false) where
        pub rows_broken : not kept ≡ true → Err unwritten.NotKept ≡ rest_verdict how fine kept t
        unfolding rest_verdict
        rows_broken h = rw (not-false fine f, ← e, not-false a g, not-false how.keeping k, not-true kept h, and_no (table_kept how t))

        module _ (l : not kept ≡ false) (b : Bool) (d : b ≡ table_kept how t) where
          pub rest_broken : not b ≡ true → Err unwritten.NotKept ≡ rest_verdict how fine kept t
          unfolding rest_verdict
          rest_broken h = rw (not-false fine f, ← e, not-false a g, not-false how.keeping k, ← d, not-true b h)

          pub keeping_fit : not b ≡ false → Ok tt ≡ rest_verdict how fine kept t
          unfolding rest_verdict
          keeping_fit h = rw (not-false fine f, ← e, not-false a g, not-false how.keeping k, not-false kept l, ← d, not-false b h)
