-- The head of a plan's table stands where LOCUS and the header say.
use Rattle.std.specs.Prelude.{ℕ, List, drop}
use Rattle.read_field_all.specs.Gathered.{fields_at}
use Rattle.read_record_head.specs.Stands.{HeadStands, head_gathered}
use Rattle.read_record_plan.specs.declared.Plan.{Plan}
use Rattle.read_record_plan.specs.Plans.{plan_table, PlanStands}
use Rattle.read_record_plan.specs.Parts.{TableParts, table_parts}

pub plan_head : (s : List ℕ) (p : Plan) → PlanStands s p → HeadStands s p.header_at p.locus p.header (plan_table s p)
plan_head s p h =
    let q : TableParts s p = table_parts s p in
    head_gathered s p.header_at (fields_at (drop p.header_at s)) p.locus p.header (plan_table s p) h.header q.locus h.locus q.definition
    q.accession q.version q.dblink q.keywords q.source
