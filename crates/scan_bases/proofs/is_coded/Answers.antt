-- `scan_bases::is_coded` meets its contract. Assumes nothing.
use Rattle.std.proofs.Common.{◌<◌, arith}
use Rattle.spec_bases.specs.Bases.{set_of}
use Rattle.scan_bases.proofs.Tested.{coded_tested}
use Rattle.scan_bases.proofs.is_coded.Goals as goal

pub returns : goal.returns
unfolding set_of
returns c =
    let c1 = c in
    let c2 = c1 in
    let c3 = c2 in
    let c4 = c3 in
    let c5 = c4 in
    let c6 = c5 in
    let c7 = c6 in
    let c8 = c7 in
    let c9 = c8 in
    let h : c9.args.b < 256 = omega (arith, c9.ranges.b) in
    rw (
      c.either-5.ensures,
      c1.either-4.ensures,
      c2.either-3.ensures,
      c3.either-2.ensures,
      c4.either.ensures,
      c5.is_between-r_to_w.ensures,
      c6.is_between-m_to_n.ensures,
      c7.is_between-g_to_h.ensures,
      c8.is_between-a_to_d.ensures,
    ) (search (coded_tested, h))
