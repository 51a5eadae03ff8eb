-- The texts before SOURCE, SOURCE, references, comments.
use Rattle.spec_format.specs.Rooms.{table_of, reference_in, comment_in}
use Rattle.spec_format.specs.Write.{header_lines}
use Rattle.write_header.specs.Header.{first_texts}
use Rattle.base_pen.specs.Pen.{writes_append}
use Rattle.write_header.proofs.put_header.Goals as goal

pub put_first_texts-a-requires : goal.put_first_texts-a-requires
put_first_texts-a-requires c =
    let c5 = c in
    (record { small = c5.requires.0.small; definition = c5.requires.0.definition; accession = c5.requires.0.accession; version = c5.requires.0.version; dblink = c5.requires.0.dblink; keywords = c5.requires.0.keywords }, c5.requires.1, c5.requires.2)

pub put_source-b-requires : goal.put_source-b-requires
put_source-b-requires c =
    let c9 = c in
    (c9.requires.0.small, c9.requires.0.source, c9.requires.1, c9.requires.2)

pub put_references-d-requires : goal.put_references-d-requires
put_references-d-requires c =
    let c13 = c in
    (c13.requires.0.references_are, c13.requires.1, c13.requires.2)

pub put_comments-requires : goal.put_comments-requires
put_comments-requires c =
    let c17 = c in
    (c17.requires.0.comments_are, c17.requires.1, c17.requires.2)

pub returns : goal.returns
unfolding header_lines first_texts table_of reference_in comment_in
returns c =
    let c6 = c in
    let c10 = c6 in
    let c14 = c10 in
    writes_append (writes_append (writes_append c14.put_first_texts-a.ensures c10.put_source-b.ensures) c6.put_references-d.ensures) c.put_comments.ensures
