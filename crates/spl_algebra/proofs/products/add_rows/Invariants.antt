use Rattle.spl_algebra.specs.Products.{AddsEach, scaled_rows}
use Rattle.spl_algebra.proofs.products.add_rows.Given as goal

abbrev pub invariant-loop-l : goal.invariant-loop-l
invariant-loop-l g l = let o = g.F.Field.ops l.f in
    AddsEach o l.initial.sums l.sums (scaled_rows o l.l l.x l.b l.rows l.stride)
