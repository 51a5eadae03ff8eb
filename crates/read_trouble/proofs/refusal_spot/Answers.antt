-- `read_trouble::refusal_spot` meets its contract. Assumes nothing.
use Rattle.std.proofs.Common.{rules}
use Rattle.read_trouble.proofs.Told.{refusing}
use Rattle.read_trouble.proofs.refusal_spot.Goals as goal

pub has_line-requires : goal.has_line-requires
has_line-requires c = search (refusing, rules)

pub no_spot-requires : goal.no_spot-requires
no_spot-requires c = search (refusing, rules)

pub returns-then-not-has_line : goal.returns-then-not-has_line
returns-then-not-has_line c = search (refusing, rules)

pub trouble_at-trouble-requires : goal.trouble_at-trouble-requires
trouble_at-trouble-requires c = search (refusing, rules)

pub spot_at-requires : goal.spot_at-requires
spot_at-requires c = search (refusing, rules)

pub returns : goal.returns
returns c = search (refusing, rules)
