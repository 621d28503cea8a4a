use Rattle.std.proofs.Common.{◌≡◌, ◌<◌, ℕ}
use Rattle.theory_rings.specs.Sum.{sum_of}
use Rattle.theory_spaces.specs.Tuples.{constant}
use Rattle.theory_tables.specs.Conditions.{map_entry}
use Rattle.spl_check.proofs.split.maps_multiply.Given as goal

abbrev pub invariant-loop-i : goal.invariant-loop-i
invariant-loop-i g l = let o = g.F.Field.ops l.f in
    (i : ℕ) → i < l.i → (j r s : ℕ) → j < l.algebra.dim → r < l.n → s < l.n
    → sum_of o l.n (λ t. o.mul (map_entry o l.maps i r t) (map_entry o l.maps j t s)) ≡ sum_of o l.algebra.dim
    (λ k. o.mul (constant o l.algebra.dim l.algebra.constants i j k) (map_entry o l.maps k r s))
