use Rattle.std.proofs.Common.{◌≡◌}
use Rattle.theory_rings.specs.Sum.{table}
use Rattle.spl_matrix.specs.Spanning.{kernel_item}
use Rattle.spl_matrix.proofs.kernel.kernel_row_of.Given as goal

abbrev pub invariant-loop-l : goal.invariant-loop-l
invariant-loop-l g l = let o = g.F.Field.ops l.f in l.items ≡ table l.l (kernel_item o l.rows l.places l.j)
