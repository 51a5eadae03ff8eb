-- `header_ends`: after the fields that stand where the header begins.
use Rattle.std.proofs.Common.{rules}
use Rattle.read_trouble_header.proofs.Laws.{header}
use Rattle.read_trouble_header.proofs.header_ends.Goals as goal

pub returns : goal.returns
returns c = search (header, rules)
