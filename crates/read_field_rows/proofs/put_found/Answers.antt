-- `read_field_rows::put_found` meets its contract. Assumes nothing.
use Rattle.read_field_rows.proofs.Walking.{comment_ready, comment_room, comment_put}
use Rattle.read_field_rows.proofs.put_found.Goals as goal

pub put_comment-requires : goal.put_comment-requires
put_comment-requires c =
    let a = c.args in
    let pre = c.requires in
    let comment-in = c.comment_in.ensures in
    let if1 = c.if-comments in
    (rw comment-in (comment_ready a.s.now a.field pre.0), comment_room a.s.now _ _ _ if1.true comment-in _ pre.1)

pub returns-then-comments : goal.returns-then-comments
returns-then-comments c =
    let a = c.args in
    let comment-in = c.comment_in.ensures in
    let if1 = c.if-comments in
    let put-comment = c.put_comment.ensures in
    comment_put a.s.now _ _ _ if1.true comment-in put-comment

pub put_if_reference-requires : goal.put_if_reference-requires
put_if_reference-requires c = (c.requires.0, rw c.if-comments.false at c.requires.1)

pub returns : goal.returns
returns c = rw c.if-comments.false c.put_if_reference.ensures
