-- `scan_bases::is_common` meets its contract. Assumes nothing.
use Rattle.std.proofs.Common.{◌<◌, arith}
use Rattle.spec_bases.specs.Bases.{set_of}
use Rattle.scan_bases.proofs.Tested.{common_tested}
use Rattle.scan_bases.proofs.is_common.Goals as goal

pub returns : goal.returns
unfolding set_of
returns c =
    let c1 = c in
    let c2 = c1 in
    let c3 = c2 in
    let c4 = c3 in
    let c5 = c4 in
    let h : c5.args.b < 256 = omega (arith, c5.ranges.b) in
    rw (c.either-5.ensures, c1.either-4.ensures, c2.either-3.ensures, c3.either-2.ensures, c4.either.ensures)
    (search (common_tested, h))
