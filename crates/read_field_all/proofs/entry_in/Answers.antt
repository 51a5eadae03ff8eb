-- `read_field_all::entry_in` meets its contract. Assumes nothing.
use Rattle.read_field_all.proofs.entry_in.Goals as goal

pub returns-in-Definition : goal.returns-in-Definition
returns-in-Definition c = rw c.in-Definition.is c.only_if.ensures

pub returns-in-Accession : goal.returns-in-Accession
returns-in-Accession c = rw c.in-Accession.is c.only_if-in-Accession.ensures

pub returns-in-Version : goal.returns-in-Version
returns-in-Version c = rw c.in-Version.is c.only_if-in-Version.ensures

pub returns-in-Dblink : goal.returns-in-Dblink
returns-in-Dblink c = rw c.in-Dblink.is c.only_if-in-Dblink.ensures

pub returns-in-Keywords : goal.returns-in-Keywords
returns-in-Keywords c = rw c.in-Keywords.is c.only_if-in-Keywords.ensures

pub returns-in-Comment : goal.returns-in-Comment
returns-in-Comment c = rw c.in-Comment.is c.only_if-in-Comment.ensures
