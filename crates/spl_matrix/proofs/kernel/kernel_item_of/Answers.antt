use Rattle.std.proofs.Common.{◌≤◌, length, get_or, arith}
use Rattle.spl_matrix.proofs.KernelRows.{kernel_item-past}
use Rattle.spl_matrix.proofs.kernel.kernel_item_of.Goals as goal

pub returns-then-s-rows-clause-value : goal.returns-then-s-rows-clause-value
returns-then-s-rows-clause-value g c =
    let o = g.F.Field.ops c.args.f.now in
    let L = g.met.F.Field.laws c.args.f.now in
    let past : length c.args.rows.now ≤ get_or c.args.places.now c.args.l 0 = omega arith in
    kernel_item-past o L c.args.rows.now c.args.places.now c.args.j c.args.l c.in_ok-unit.unit past
    c.in_ok-unit.ensures.elem c.in_ok-unit.ensures.value
