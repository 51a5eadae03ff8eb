-- `write_locus_words::next_place` meets its contract.
use Rattle.write_locus_words.proofs.Laws.{place_blank, place_byte}
use Rattle.write_locus_words.proofs.next_place.Goals as goal

pub returns-then-is_blank : goal.returns-then-is_blank
returns-then-is_blank c = place_blank c.args.place c.args.b _ c.is_blank.ensures _ c.if-is_blank.true c.closed_place.ensures

pub returns : goal.returns
returns c = place_byte c.args.place c.args.b _ c.is_blank.ensures c.if-is_blank.false
