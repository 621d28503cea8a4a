use Rattle.std.proofs.Common.{◌<◌, ℕ}
use Rattle.theory_tables.specs.Subspace.{InSpan}
use Rattle.spl_check.specs.Sides.{side_product_of}
use Rattle.spl_check.proofs.ideal.holds_products.Given as goal

abbrev pub invariant-loop-i : goal.invariant-loop-i
invariant-loop-i g l = let o = g.F.Field.ops l.f in
    (i : ℕ) → i < l.i → InSpan o l.algebra.dim l.space.rows (side_product_of o l.algebra l.is_left l.v i)
