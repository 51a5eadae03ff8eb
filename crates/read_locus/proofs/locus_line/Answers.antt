-- `read_locus::locus_line` meets its contract. Assumes nothing.
use Rattle.std.proofs.Common.{◌-◌}
use Rattle.read_locus.proofs.Lines.{not_plain, is_plain}
use Rattle.std.proofs.lemmas.Bool.{not_from_false, not_from_true}
use Rattle.read_locus.proofs.locus_line.Goals as goal

pub returns-then-not-plain : goal.returns-then-not-plain
returns-then-not-plain c = record { is = not_plain _ _ c.plain.ensures (not_from_false _ c.if-not-plain.true); within = tt }

pub returns : goal.returns
returns c = rw (← is_plain _ _ c.plain.ensures (not_from_true _ c.if-not-plain.false)) c.from_name.ensures
