use Rattle.std.proofs.Common.{◌<◌, ℕ, [], get_or}
use Rattle.theory_tables.specs.Subspace.{InSpan}
use Rattle.spl_check.specs.Sides.{side_product_of}
use Rattle.spl_check.proofs.ideal.is_closed.Given as goal

abbrev pub invariant-loop-r : goal.invariant-loop-r
invariant-loop-r g l = let o = g.F.Field.ops l.f in
    (r : ℕ) → r < l.r → (i : ℕ) → i < l.algebra.dim
    → InSpan o l.algebra.dim l.tuples (side_product_of o l.algebra l.is_left (get_or l.tuples r []) i)
