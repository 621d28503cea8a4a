-- Traces: additive maps that are the same on both orders of a product.
use Rattle.std.specs.Prelude.{◌≡◌}
use Rattle.theory_rings.specs.Ring.{AddCommGroupOn, RingOn}

-- t keeps sums, and sends x·y and y·x to one value
pub record IsTrace {K V : Type 0} (R : RingOn K) (G : AddCommGroupOn V) (t : K → V) : Type 0 where
  pub map-add : (x y : K) → t (R.◌⊕◌ x y) ≡ G.◌⊕◌ (t x) (t y)
  pub map-mul_comm : (x y : K) → t (R.◌⊗◌ x y) ≡ t (R.◌⊗◌ y x)
