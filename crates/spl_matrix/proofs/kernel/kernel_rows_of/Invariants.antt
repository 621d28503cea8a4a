use Rattle.spl_matrix.specs.Spanning.{AreKernelRows}
use Rattle.spl_matrix.proofs.kernel.kernel_rows_of.Given as goal

abbrev pub invariant-loop-j : goal.invariant-loop-j
invariant-loop-j g l = let o = g.F.Field.ops l.f in AreKernelRows o l.w l.rows l.places l.j l.vectors.items
