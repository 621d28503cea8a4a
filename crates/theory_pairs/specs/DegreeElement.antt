-- The first greatest degree of a common basis, and what holds of the product of its basis vector and the dual one.
use Rattle.std.specs.Prelude.{◌≡◌, ℕ, ◌<◌, ℤ, ◌≤ℤ◌, ◌<ℤ◌}
use Rattle.theory_rings.specs.Ring.{FieldOn}
use Rattle.theory_spaces.specs.Module.{AlgebraOn}
use Rattle.theory_lattices.specs.Degree.{DegreeOn}
use Rattle.theory_lattices.specs.SelfDual.{Middle}

-- the first place of the greatest of a 0, .., a (n − 1)
pub record FirstGreatest (n : ℕ) (a : ℕ → ℤ) : Type 0 where
  pub place : ℕ
  pub within : place < n
  pub most : (i : ℕ) → i < n → a i ≤ℤ a place
  pub before : (i : ℕ) → i < place → a i <ℤ a place

-- w is in both orders, has trace 1, and is neither nilpotent nor a unit, of the orders or of the algebra
pub record DegreeElement {K V : Type 0} (F : FieldOn K) (W : DegreeOn F.ring) (A : AlgebraOn F.ring V) (P : K → Type 0)
    (finite infinite : V → Type 0)
    (tr : V → K) (w : V) : Type 0 where
  pub middle : Middle F W A P finite infinite w
  pub trace-one : tr w ≡ F.one
  pub no_right_inverse : (y : V) → A.◌⊗◌ w y ≡ A.one → ⊥
