use Rattle.spl_algebra.specs.Products.{AddsEach}
use Rattle.spl_algebra.proofs.Rows.{parts_of_product}
use Rattle.spl_algebra.proofs.products.product_of_slices.Given as goal

abbrev pub invariant-loop-i : goal.invariant-loop-i
invariant-loop-i g l = let o = g.F.Field.ops l.f in
    AddsEach o l.initial.sums l.sums (parts_of_product o l.m l.constants l.a l.b l.i)
