-- `read_field_rows::put_if_reference` meets its contract. Assumes nothing.
use Rattle.read_field_row.specs.Putting.{puts_none}
use Rattle.read_field_rows.proofs.Walking.{reference_entries_lem, reference_room}
use Rattle.read_field_rows.proofs.put_if_reference.Goals as goal

pub put_reference-requires : goal.put_reference-requires
put_reference-requires c =
    let a = c.args in
    let pre = c.requires in
    let field = c.in-Reference.is in
    (reference_entries_lem a.s.now _ _ _ field pre.0, reference_room a.s.now _ _ _ field _ pre.1)

pub returns-in-Reference : goal.returns-in-Reference
returns-in-Reference c = rw c.in-Reference.is c.put_reference.ensures

pub returns-in-Definition : goal.returns-in-Definition
returns-in-Definition c = rw c.in-Definition.is (puts_none _ _ _)

pub returns-in-Accession : goal.returns-in-Accession
returns-in-Accession c = rw c.in-Accession.is (puts_none _ _ _)

pub returns-in-Version : goal.returns-in-Version
returns-in-Version c = rw c.in-Version.is (puts_none _ _ _)

pub returns-in-Dblink : goal.returns-in-Dblink
returns-in-Dblink c = rw c.in-Dblink.is (puts_none _ _ _)

pub returns-in-Keywords : goal.returns-in-Keywords
returns-in-Keywords c = rw c.in-Keywords.is (puts_none _ _ _)

pub returns-in-Source : goal.returns-in-Source
returns-in-Source c = rw c.in-Source.is (puts_none _ _ _)

pub returns-in-Comment : goal.returns-in-Comment
returns-in-Comment c = rw c.in-Comment.is (puts_none _ _ _)

pub returns-in-Dropped : goal.returns-in-Dropped
returns-in-Dropped c = rw c.in-Dropped.is (puts_none _ _ _)
