-- `read_field_all::reference_amount` meets its contract. Assumes nothing.
use Rattle.read_field_all.proofs.reference_amount.Goals as goal

pub returns-in-Reference : goal.returns-in-Reference
returns-in-Reference c = rw c.in-Reference.is

pub returns-in-Definition : goal.returns-in-Definition
returns-in-Definition c = rw c.in-Definition.is

pub returns-in-Accession : goal.returns-in-Accession
returns-in-Accession c = rw c.in-Accession.is

pub returns-in-Version : goal.returns-in-Version
returns-in-Version c = rw c.in-Version.is

pub returns-in-Dblink : goal.returns-in-Dblink
returns-in-Dblink c = rw c.in-Dblink.is

pub returns-in-Keywords : goal.returns-in-Keywords
returns-in-Keywords c = rw c.in-Keywords.is

pub returns-in-Source : goal.returns-in-Source
returns-in-Source c = rw c.in-Source.is

pub returns-in-Comment : goal.returns-in-Comment
returns-in-Comment c = rw c.in-Comment.is

pub returns-in-Dropped : goal.returns-in-Dropped
returns-in-Dropped c = rw c.in-Dropped.is
