-- `read_field_row::put_front` meets its contract. Assumes nothing.
use Rattle.std.proofs.Common.{arith}
use Rattle.read_field_row.specs.Putting.{puts_append}
use Rattle.read_field_row.proofs.put_front.Goals as goal

pub put_perhaps-requires : goal.put_perhaps-requires
put_perhaps-requires c =
    let pre = c.requires in
    let put-always = c.put_always-first.ensures in
    let put-perhaps = c.put_perhaps-second.ensures in
    (pre.0.consrtm, record { text = omega (arith, put-always.text, put-perhaps.text, pre.1.text); row = omega (arith, put-always.row, put-perhaps.row, pre.1.row) })

pub returns : goal.returns
returns c =
    let put-always = c.put_always-first.ensures in
    let put-perhaps = c.put_perhaps-second.ensures in
    let put-perhaps2 = c.put_perhaps.ensures in
    puts_append (puts_append put-always put-perhaps) put-perhaps2
