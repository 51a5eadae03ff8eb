-- `write_locus_name::kept` meets its contract.
use Rattle.std.proofs.Common.{rules}
use Rattle.write_locus_name.specs.Names.{kept_cut, kept_short, kept_all}
use Rattle.write_locus_name.proofs.kept.Goals as goal

pub returns-then-name-d-gt28 : goal.returns-then-name-d-gt28
returns-then-name-d-gt28 c = simp c.if-truncate.true (kept_cut c.args.d c.args.name.now (search rules) c.if-name-d-gt28.true)

pub returns-then-truncate : goal.returns-then-truncate
returns-then-truncate c = simp c.if-truncate.true (kept_short c.args.d c.args.name.now c.if-name-d-gt28.false)

pub returns : goal.returns
returns c = simp c.if-truncate.false (kept_all c.args.d c.args.name.now)
