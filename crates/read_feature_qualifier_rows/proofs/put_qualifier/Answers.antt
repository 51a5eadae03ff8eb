-- `read_feature_qualifier_rows::put_qualifier` meets its contract: one law for a qualifier with a value, one for a qualifier without.
use Rattle.std.proofs.Common.{arith, rules}
use Rattle.read_feature_qualifier_rows.proofs.Qualifiers.{value_fits, qualifying}
use Rattle.read_feature_qualifier_rows.proofs.put_qualifier.Goals as goal

pub put_value-stop-requires : goal.put_value-stop-requires
put_value-stop-requires c = search (qualifying, rules)

pub overflow_add-length : goal.overflow_add-length
overflow_add-length c =
    omega
    (arith, value_fits _ _ _ _ _ _ _ c.requires _ _ _ c.in-With.is)

pub returns-in-Absent : goal.returns-in-Absent
returns-in-Absent c = search (qualifying, rules)

pub returns-in-With : goal.returns-in-With
returns-in-With c = search (qualifying, rules)
