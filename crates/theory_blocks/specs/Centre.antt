-- The centre of an algebra. (Pierce, Associative Algebras, chapter 12.)
use Rattle.std.specs.Prelude.{◌≡◌}
use Rattle.theory_rings.specs.Ring.{RingOn}
use Rattle.theory_spaces.specs.Module.{AlgebraOn}

module _ {K V : Type 0} {R : RingOn K} (A : AlgebraOn R V) where
  -- x commutes with all elements
  abbrev pub Centre : V → Type 0
  Centre x = (y : V) → A.◌⊗◌ x y ≡ A.◌⊗◌ y x

  -- each element of the centre but 0 has an inverse in the centre
  abbrev pub CentreIsField : Type 0
  CentreIsField = (x : V) → Centre x → (x ≡ A.zero → ⊥) → (y : V) × Centre y × (A.◌⊗◌ x y ≡ A.one)
