use Rattle.std.proofs.Common.{◌≡◌, ◌<◌, ℕ, get_or}
use Rattle.theory_rings.specs.Sum.{at}
use Rattle.theory_rings.specs.Polynomial.{convolution_of}
use Rattle.spl_field.specs.SmallField.{small_ops}
use Rattle.spl_poly.specs.Operations.{IsOver}
use Rattle.spl_poly.proofs.rows.write_product.Given as goal

abbrev pub invariant-loop-k : goal.invariant-loop-k
invariant-loop-k l = record {
  over : IsOver (small_ops l.f) l.out;
  done : (k : ℕ) → k < l.k
      → get_or l.out k 0 ≡ convolution_of (small_ops l.f) (at (small_ops l.f) l.x) (at (small_ops l.f) l.y) k;
}
