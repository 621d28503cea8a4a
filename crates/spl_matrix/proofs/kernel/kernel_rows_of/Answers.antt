use Rattle.std.proofs.Common.{◌≡◌, ℕ, subst, arith}
use Rattle.spl_matrix.specs.Spanning.{AreKernelRows}
use Rattle.spl_matrix.proofs.KernelRows.{AreKernelRows-none}
use Rattle.spl_matrix.proofs.kernel.kernel_rows_of.Goals as goal

pub loop-j-init : goal.loop-j-init
loop-j-init g c =
    let o = g.F.Field.ops c.args.f.now in
    let L = g.met.F.Field.laws c.args.f.now in
    AreKernelRows-none o L c.args.w c.args.rows.now c.new-vectors.result.items c.args.places.now
    c.new-vectors.ensures.items

pub loop-j-preserved : goal.loop-j-preserved
loop-j-preserved g c = c.in_ok-add_kernel_row.ensures

pub returns : goal.returns
returns g c =
    let o = g.F.Field.ops c.args.f.now in
    let ended : c.loop-j.j ≡ c.args.w = omega arith in
    let P : ℕ → Type 0 = λ n. AreKernelRows o c.args.w c.args.rows.now c.args.places.now n c.loop-j.vectors.items in
    subst P ended c.loop-j.invariant
