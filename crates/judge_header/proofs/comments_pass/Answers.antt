-- The rows from the first on are tested one after the other.
use Rattle.std.proofs.Common.{rules, arith}
use Rattle.std.proofs.lemmas.Iterator.{YieldsList-from_range}
use Rattle.std.proofs.lemmas.Iterator.Search.{all_from_yields_List}
use Rattle.spec_format.specs.Rooms.{comment_in}
use Rattle.judge_header.specs.Rows.{rows_pass}
use Rattle.judge_header.proofs.comments_pass.Goals as goal

pub returns : goal.returns
unfolding comment_in
returns c = rows_pass _ _ 2 0 c.args.n _ (all_from_yields_List _ _ _ _ c.all.ensures.ran (YieldsList-from_range 0 c.args.n c.args.n (cc) (omega arith)) (λ x b q k. search rules))
