-- The rows from `first` on are tested one after the other.
use Rattle.std.proofs.Common.{◌+◌, ◌≡◌, rules, arith}
use Rattle.std.proofs.lemmas.Iterator.{YieldsList-from_range}
use Rattle.std.proofs.lemmas.Iterator.Search.{all_from_yields_List}
use Rattle.spec_format.specs.Rooms.{rows_fine, qualifier_row_fine, qualifiers_fine}
use Rattle.judge_rooms.specs.Parts.{qualifier_rooms}
use Rattle.judge_rooms.specs.Steps.{rows_all}
use Rattle.judge_rooms.proofs.qualifiers_fine.Goals as goal

pub returns-then-span_fine-clause-same : goal.returns-then-span_fine-clause-same
unfolding qualifiers_fine
returns-then-span_fine-clause-same c =
    let a = c.args in
    let rows : c.all.result ≡ rows_fine (qualifier_row_fine (qualifier_rooms a.texts.now a.qualifiers.now)) 4 a.first a.count =
    rows_all _ 4 a.first a.count _ (all_from_yields_List _ _ _ _ c.all.ensures.ran (YieldsList-from_range a.first (a.first + a.count) a.count (cc) (omega arith)) (λ x b q k. search rules)) in
    search rules
