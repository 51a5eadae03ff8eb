-- `prepare` has the answer and all but the features; `store_rows` puts these; `spot_told` has the line.
use Rattle.std.proofs.Common.{refl}
use Rattle.spec_format.specs.Rooms.{rooms_in}
use Rattle.base_rows.specs.Rows.{flat}
use Rattle.base_rows.specs.Flat.{flat_length}
use Rattle.read_record.proofs.read.Goals as goal

pub returns : goal.returns
returns c =
    let a = c.args in
    let p = c.prepare-p in
    let r = c.store_rows in
    let answered = p.ensures.answers r.new.texts (flat a.rows.now) (flat r.new.rows) a.qualifiers.now r.new.qualifiers r.new.locations r.result (flat_length a.rows.now) refl r.ensures in
    let old = rooms_in a.texts.now a.references.now a.comments.now (flat a.rows.now) a.qualifiers.now a.locations.now a.letters.now in
    record { answered = answered; told = c.spot_told-spot.ensures.is a.strict old answered.is }
