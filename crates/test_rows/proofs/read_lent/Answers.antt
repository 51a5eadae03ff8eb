-- The first n rows come back from the reader; the others stayed.
use Rattle.std.proofs.Common.{◌≡◌, ◌≤◌, ◌++◌, length, take, drop, length-append, length-drop, length-take-le, arith, rules}
use Rattle.spec_format.specs.Rooms.{rooms_in}
use Rattle.test_rows.specs.Through.{through}
use Rattle.test_rows.proofs.read_lent.Goals as goal

pub returns : goal.returns
returns c =
    let a = c.args in
    let r = c.read-reported in
    let q = c.requires in
    let many : length a.rows ≡ 33 = search rules in
    let joined = length-append r.new.rows (drop a.n a.rows) in
    let others = length-drop a.n a.rows in
    let first = length-take-le a.n a.rows (omega (arith, many, q.0)) in
    let back = r.auto.rows in
    let all : length (r.new.rows ++ drop a.n a.rows) ≡ 33 = omega (arith, joined, others, first, back, many, q.0) in
    let old = rooms_in a.texts.now a.references.now a.comments.now a.features.now a.qualifiers.now a.locations.now a.letters.now in
    let new = rooms_in r.new.texts r.new.references r.new.comments c.put_rows.new.features r.new.qualifiers r.new.locations r.new.letters in
    through a.strict a.s.now a.at a.n a.rows r.new.rows old new r.result many q.0 q.1 q.2 all r.ensures c.put_rows.ensures
