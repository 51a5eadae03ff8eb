-- `read_feature_bare::over_lines` meets its contract. Assumes nothing.
use Rattle.std.proofs.Common.{rules}
use Rattle.read_feature_bare.proofs.Stretches.{over_got}
use Rattle.read_feature_bare.proofs.over_lines.Goals as goal

pub returns-in-Got : goal.returns-in-Got
returns-in-Got c = search (over_got, rules)
