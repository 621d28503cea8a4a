-- Multiples of a number in a commutative monoid, and congruence modulo a number.
use Rattle.std.specs.Prelude.{◌≡◌, ℕ}
use Rattle.theory_rings.specs.Ring.{AddCommMonoidOn}
use Rattle.theory_rings.specs.Power.{times}

module _ {V : Type 0} (M : AddCommMonoidOn V) (n : ℕ) where
  -- x is n times an element
  pub record MultipleOf (x : V) : Type 0 where
    pub part : V
    pub is : x ≡ times M n part

  -- x and y differ by n times an element
  pub record CongruentMod (x y : V) : Type 0 where
    pub part : V
    pub is : x ≡ M.◌⊕◌ y (times M n part)
