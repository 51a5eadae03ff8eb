-- `read_feature_qualifier_rows::put_qualifiers` meets its contract: what was put and what is still to be put are the whole.
use Rattle.std.proofs.Common.{◌-◌, length}
use Rattle.read_feature_qualifier_rows.proofs.Qualifiers.{Putting}
use Rattle.read_feature_qualifier_rows.proofs.put_qualifiers.Given as goal

abbrev pub invariant-loop-first : goal.invariant-loop-first
invariant-loop-first l = Putting l.s l.at l.indent l.initial.texts l.place l.initial.rows l.row l.i l.texts l.p l.rows l.q l.n

abbrev pub decreases-loop-first : goal.decreases-loop-first
decreases-loop-first l = length l.s - l.i
