use Rattle.std.proofs.Common.{◌≡◌, ◌/◌, ◌%◌}
use Rattle.theory_rings.specs.Sum.{table}
use Rattle.theory_spaces.specs.Tuples.{constant}
use Rattle.spl_residue.specs.Residue.{residue_ops}
use Rattle.spl_order.proofs.product_matrices.product_matrix.Given as goal

abbrev pub invariant-loop-number : goal.invariant-loop-number
invariant-loop-number l =
    l.rows ≡ table l.number (λ t. table l.n (λ i. constant (residue_ops l.k) l.n l.constants i (t / l.n) (t % l.n)))
