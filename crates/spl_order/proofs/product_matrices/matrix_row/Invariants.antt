use Rattle.std.proofs.Common.{◌≡◌}
use Rattle.theory_rings.specs.Sum.{table}
use Rattle.theory_spaces.specs.Tuples.{constant}
use Rattle.spl_residue.specs.Residue.{residue_ops}
use Rattle.spl_order.proofs.product_matrices.matrix_row.Given as goal

abbrev pub invariant-loop-i : goal.invariant-loop-i
invariant-loop-i l = l.row ≡ table l.i (λ i. constant (residue_ops l.k) l.n l.constants i l.j l.l)
