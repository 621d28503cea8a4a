use Rattle.std.proofs.Common.{arith}
use Rattle.spl_matrix.proofs.KernelRows.{AreKernelRows-pivot, AreKernelRows-push}
use Rattle.spl_matrix.proofs.kernel.add_kernel_row.Goals as goal

pub returns-else-places-j : goal.returns-else-places-j
returns-else-places-j g c =
    let o = g.F.Field.ops c.args.f.now in
    let L = g.met.F.Field.laws c.args.f.now in
    AreKernelRows-pivot o L c.args.w c.args.rows.now c.args.vectors.now.items c.args.places.now c.args.j (omega arith)
    c.requires.vectors

pub returns-in_ok-push : goal.returns-in_ok-push
returns-in_ok-push g c =
    let o = g.F.Field.ops c.args.f.now in
    let L = g.met.F.Field.laws c.args.f.now in
    AreKernelRows-push o L c.args.w c.args.rows.now c.args.vectors.now.items c.push.new.self.items c.args.places.now
    c.args.j c.in_ok-kernel_row_of.field-0 c.requires.column c.in_ok-kernel_row_of.ensures c.in_ok-push.ensures.items
    c.requires.vectors
