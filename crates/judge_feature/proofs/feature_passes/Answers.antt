-- The rows of the qualifiers are tested one after the other.
use Rattle.std.proofs.Common.{◌+◌, ◌≡◌, get_or, rules, arith}
use Rattle.std.proofs.lemmas.Iterator.{YieldsList-from_range}
use Rattle.std.proofs.lemmas.Iterator.Search.{all_from_yields_List}
use Rattle.spec_format.specs.Bytes.{all}
use Rattle.spec_format.specs.Rooms.{rows_from, qualifier_in, feature_in}
use Rattle.judge_rooms.specs.Parts.{qualifier_rooms}
use Rattle.judge_header.specs.Rows.{rows_pass}
use Rattle.judge_feature.specs.Rules.{qualifier_of, feature_of}
use Rattle.judge_feature.proofs.feature_passes.Goals as goal

pub returns-then-first_passes : goal.returns-then-first_passes
unfolding feature_of feature_in qualifier_in
returns-then-first_passes c =
    let a = c.args in
    let first = get_or a.features.now (a.at + 4) 0 in
    let count = get_or a.features.now (a.at + 5) 0 in
    let rows : c.all.result ≡ all (qualifier_of a.rule) (rows_from (qualifier_in (qualifier_rooms a.texts.now a.qualifiers.now)) 4 first count) =
    rows_pass _ _ 4 first count _ (all_from_yields_List _ _ _ _ c.all.ensures.ran (YieldsList-from_range first (first + count) count (cc) (omega arith)) (λ x b q k. search rules)) in
    search rules
