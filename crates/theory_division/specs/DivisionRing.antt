-- Inverses from the left, and elements that have none.
use Rattle.std.specs.Prelude.{◌≡◌}
use Rattle.theory_rings.specs.Ring.{RingOn}

module _ {D : Type 0} (R : RingOn D) where
  -- each element but 0 has a left inverse; where 1 is not 0 this is a division ring
  abbrev pub HasLeftInverses : Type 0
  HasLeftInverses = (x : D) → (x ≡ R.zero → ⊥) → (y : D) × (R.◌⊗◌ y x ≡ R.one)

  -- x is not 0 and has no left inverse
  pub record Nonunit (x : D) : Type 0 where
    pub not_zero : x ≡ R.zero → ⊥
    pub no_inverse : (y : D) → R.◌⊗◌ y x ≡ R.one → ⊥
