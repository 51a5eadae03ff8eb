-- The months from the last to the first, three at a time.
use Rattle.std.proofs.Common.{refl, [], arith, drop}
use Rattle.spec_format.specs.Dates.{months}
use Rattle.read_locus_tokens.proofs.Placing.{place_among}
use Rattle.read_locus_tokens.proofs.month_in.Goals as goal

pub place_from-july-requires : goal.place_from-july-requires
place_from-july-requires c = omega (arith, c.place_from-october.ensures.within)

pub place_from-april-requires : goal.place_from-april-requires
place_from-april-requires c = omega (arith, c.place_from-october.ensures.within, c.place_from-july.ensures.within)

pub place_from-requires : goal.place_from-requires
place_from-requires c =
    let c3 = c in
    let c7 = c3 in
    let c11 = c7 in
    omega (arith, c11.place_from-october.ensures.within, c7.place_from-july.ensures.within, c3.place_from-april.ensures.within)

pub returns : goal.returns
returns c =
    let c4 = c in
    let c8 = c4 in
    let c12 = c8 in
    place_among _ _ _ _ (drop 3 months) _ _ c.place_from.ensures (place_among _ _ _ _ (drop 6 months) _ _ c4.place_from-april.ensures (place_among _ _ _ _ (drop 9 months) _ _ c8.place_from-july.ensures (place_among _ _ _ _ [] _ _ c12.place_from-october.ensures refl)))
