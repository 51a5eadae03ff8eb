-- `put_text`: a text in one line is a part of the slice.
use Rattle.std.proofs.Common.{rules}
use Rattle.read_feature_row.proofs.Laws.{told_put}
use Rattle.read_feature_row.proofs.put_text.Goals as goal

pub returns-then-line : goal.returns-then-line
returns-then-line c = search (told_put, rules)
