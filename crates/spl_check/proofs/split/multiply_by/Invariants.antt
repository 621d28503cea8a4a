use Rattle.std.proofs.Common.{◌≡◌, ◌<◌, ℕ}
use Rattle.theory_rings.specs.Sum.{sum_of}
use Rattle.theory_spaces.specs.Tuples.{constant}
use Rattle.theory_tables.specs.Conditions.{map_entry}
use Rattle.spl_check.proofs.split.multiply_by.Given as goal

abbrev pub invariant-loop-j : goal.invariant-loop-j
invariant-loop-j g l = let o = g.F.Field.ops l.f in
    (j : ℕ) → j < l.j → (r s : ℕ) → r < l.n → s < l.n
    → sum_of o l.n (λ t. o.mul (map_entry o l.maps l.i r t) (map_entry o l.maps j t s)) ≡ sum_of o l.algebra.dim
    (λ k. o.mul (constant o l.algebra.dim l.algebra.constants l.i j k) (map_entry o l.maps k r s))
