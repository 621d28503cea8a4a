use Rattle.std.proofs.Common.{◌≡◌, ◌-◌, get_or}
use Rattle.theory_rings.specs.Ops.{IsElem}
use Rattle.theory_rings.specs.Sum.{sum_of}
use Rattle.spl_field.specs.SmallField.{small_ops}
use Rattle.spl_poly.proofs.rows.product_coefficient.Given as goal

abbrev pub invariant-loop-i : goal.invariant-loop-i
invariant-loop-i l = record {
  elem : IsElem (small_ops l.f) l.total;
  value : l.total ≡ sum_of (small_ops l.f) l.i (λ i. (small_ops l.f).mul (get_or l.x i 0) (get_or l.y (l.k - i) 0));
}
