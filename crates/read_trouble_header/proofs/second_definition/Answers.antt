-- `second_definition`: the next DEFINITION after the first.
use Rattle.std.proofs.Common.{rules}
use Rattle.read_trouble_header.proofs.Laws.{fields}
use Rattle.read_trouble_header.proofs.second_definition.Goals as goal

pub returns : goal.returns
returns c = search (fields, rules)
