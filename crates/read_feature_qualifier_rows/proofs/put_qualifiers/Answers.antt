-- The goals of `put_qualifiers` that are answered by hand; what its loop keeps, and what falls, is in Invariants.antt.
use Rattle.std.proofs.Common.{◌-◌, rules}
use Rattle.read_feature_qualifier_rows.proofs.Qualifiers.{puttings}
use Rattle.read_feature_qualifier_rows.proofs.put_qualifiers.Goals as goal

pub loop-first-init : goal.loop-first-init
loop-first-init c = search (puttings, rules)

pub qualifier_at-requires : goal.qualifier_at-requires
qualifier_at-requires c = search (puttings, rules)

pub enum_known-first : goal.enum_known-first
enum_known-first c = search (puttings, rules)

pub put_qualifier-put-requires : goal.put_qualifier-put-requires
put_qualifier-put-requires c = search (puttings, rules)

pub overflow_add-n : goal.overflow_add-n
overflow_add-n c = search (puttings, rules)

pub loop-first-smaller : goal.loop-first-smaller
loop-first-smaller c = search (puttings, rules)

pub loop-first-preserved : goal.loop-first-preserved
loop-first-preserved c = search (puttings, rules)

pub enum_told-1 : goal.enum_told-1
enum_told-1 c = search (puttings, rules)

pub shape_of-texts-in-No : goal.shape_of-texts-in-No
shape_of-texts-in-No c = search (puttings, rules)

pub shape_of-rows-in-No : goal.shape_of-rows-in-No
shape_of-rows-in-No c = search (puttings, rules)

pub returns-in-No : goal.returns-in-No
returns-in-No c = search (puttings, rules)

pub enum_told-in-Cut : goal.enum_told-in-Cut
enum_told-in-Cut c = search (puttings, rules)

pub shape_of-texts-in-Cut : goal.shape_of-texts-in-Cut
shape_of-texts-in-Cut c = search (puttings, rules)

pub shape_of-rows-in-Cut : goal.shape_of-rows-in-Cut
shape_of-rows-in-Cut c = search (puttings, rules)

pub returns-in-Cut : goal.returns-in-Cut
returns-in-Cut c = search (puttings, rules)
