-- Five texts, each where it is there.
use Rattle.std.proofs.Common.{rules}
use Rattle.spec_format.specs.Rooms.{table_of}
use Rattle.write_header.specs.Header.{first_texts}
use Rattle.base_pen.specs.Pen.{writes_append}
use Rattle.write_header.proofs.put_first_texts.Goals as goal

pub put_maybe-requires : goal.put_maybe-requires
put_maybe-requires c =
    let c24 = c in
    (search rules, c24.requires.0.small, c24.requires.0.keywords, c24.requires.1, c24.requires.2)

pub returns : goal.returns
unfolding first_texts table_of
returns c =
    let c7 = c in
    let c12 = c7 in
    let c17 = c12 in
    let c22 = c17 in
    writes_append (writes_append (writes_append (writes_append c22.put_maybe-a.ensures c17.put_maybe-b.ensures) c12.put_maybe-d.ensures) c7.put_maybe-e.ensures) c.put_maybe.ensures
