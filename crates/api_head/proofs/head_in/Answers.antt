-- A head of what is found at each of its places.
use Rattle.api_head.proofs.Laws.{head_is}
use Rattle.api_head.proofs.head_in.Goals as goal

pub returns : goal.returns
returns c =
    let c3 = c in
    let c4 = c3 in
    let c5 = c4 in
    let c6 = c5 in
    let c7 = c6 in
    let c8 = c7 in
    let c9 = c8 in
    let c10 = c9 in
    let c11 = c10 in
    let c12 = c11 in
    let c13 = c12 in
    let c14 = c13 in
    let c15 = c14 in
    let c17 = c15 in
    head_is _ _ _ _ _ _ _ _ _ _ _ _ _ _ _ _ _ _ c17.requires c15.text_at.ensures c14.text_at-2.ensures c13.number_at.ensures c12.span_at.ensures c11.date_at.ensures c10.text_at-3.ensures
    c9.text_at-4.ensures c8.text_at-5.ensures c7.text_at-6.ensures c6.text_at-7.ensures c5.source_at.ensures c4.number_at-2.ensures
    c3.number_at-3.ensures c.number_at-4.ensures c.contig_at.ensures c.number_at-5.ensures
