use Rattle.std.proofs.Common.{length}
use Rattle.spl_field.specs.SmallField.{small_ops}
use Rattle.spl_order.specs.Values.{HasMatrix, fraction_entry}
use Rattle.spl_order.proofs.matrices.transposed.Given as goal

abbrev pub invariant-loop-j : goal.invariant-loop-j
invariant-loop-j l = let o = small_ops l.f in
    HasMatrix o (λ j i. fraction_entry o l.rows i j) l.j (length l.rows) l.columns
