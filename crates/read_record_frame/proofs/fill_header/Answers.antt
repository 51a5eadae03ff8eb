-- `read_record_frame::fill_header` meets its contract. Assumes nothing.
use Rattle.read_record_frame.proofs.Laws.{header_within, head_there, head_bound, references_texts, references_rows_lem, comments_texts, comments_rows_lem, header_filled}
use Rattle.read_record_frame.proofs.fill_header.Goals as goal

pub put_head-first-requires : goal.put_head-first-requires
put_head-first-requires c = (head_there _ _ c.requires, head_bound _ _ c.requires)

pub put_references-second-requires : goal.put_references-second-requires
put_references-second-requires c = (
  header_within _ _ c.requires,
  references_texts _ _ c.requires _ _ _ c.put_head-first.ensures,
  references_rows_lem _ _ c.requires _ _ _ c.put_head-first.ensures,
)

pub put_comments-requires : goal.put_comments-requires
put_comments-requires c =
    let pre = c.requires in
    let put-head = c.put_head-first.ensures in
    let put-references = c.put_references-second.ensures in (
      header_within _ _ pre,
      comments_texts _ _ pre _ _ _ put-head _ _ _ _ put-references,
      comments_rows_lem _ _ pre _ _ _ put-head _ _ _ _ put-references,
    )

pub returns : goal.returns
returns c =
    let pre = c.requires in
    let put-head = c.put_head-first.ensures in
    let put-references = c.put_references-second.ensures in
    let put-comments = c.put_comments.ensures in
    header_filled _ _ pre _ _ _ put-head _ _ _ _ put-references _ _ _ _ put-comments
