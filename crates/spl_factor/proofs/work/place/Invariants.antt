use Rattle.std.proofs.Common.{◌≡◌, ℕ, List, ◌<◌, slice_index_or}
use Rattle.std.specs.declared.cmp.Ordering.TheVariants.{Less}
use Rattle.spl_poly.specs.Order.{poly_cmp}
use Rattle.spl_factor.proofs.work.place.Given as goal

abbrev pub invariant-loop-i : goal.invariant-loop-i
invariant-loop-i l =
    (j : ℕ) (d : (List ℕ) × ℕ) → j < l.i → poly_cmp (slice_index_or l.list j d).0 l.p ≡ Less
