-- The valuation of an element at a discrete valuation ring. (Reiner, Maximal Orders, section 5.)
use Rattle.std.specs.Prelude.{◌≡◌, ℕ, ℤ, pos, ◌+ℤ◌, ◌-ℤ◌, ◌≤ℤ◌, ◌⊎◌, ◌↔◌}
use Rattle.theory_rings.specs.Ring.{FieldOn}
use Rattle.theory_rings.specs.Power.{power}
use Rattle.theory_spaces.specs.Valuation.{ValuationOn}
use Rattle.theory_orders.specs.Uniformizer.{IsIntegral, IsUnit}

module _ {K : Type 0} (F : FieldOn K) (Z : ValuationOn F) (p : K) where
  -- x is p^n times a unit, where n is s − t: p^t · x is p^s times a unit
  pub record HasValuation (n : ℤ) (x : K) : Type 0 where
    pub above : ℕ
    pub below : ℕ
    pub number : n ≡ pos above -ℤ pos below
    pub unit : K
    pub integral : IsIntegral F Z unit
    pub is_unit : IsUnit F Z unit
    pub gives : F.◌⊗◌ (power F.ring p below) x ≡ F.◌⊗◌ (power F.ring p above) unit

  -- each element but 0 has one valuation, and just those with one that is not negative are integral; that of a product
  -- is the sum, and that of a sum is not below both
  pub record AreValuations : Type 0 where
    pub exists : (x : K) → (x ≡ F.zero → ⊥) → (n : ℤ) × HasValuation n x
    pub nonzero : (n : ℤ) (x : K) → HasValuation n x → x ≡ F.zero → ⊥
    pub only : (m n : ℤ) (x : K) → HasValuation m x → HasValuation n x → m ≡ n
    pub integral : (n : ℤ) (x : K) → HasValuation n x → IsIntegral F Z x ↔ (pos 0 ≤ℤ n)
    pub product : (m n : ℤ) (x y : K) → HasValuation m x → HasValuation n y → HasValuation (m +ℤ n) (F.◌⊗◌ x y)
    pub sum : (m n l : ℤ) (x y : K) → HasValuation m x → HasValuation n y → HasValuation l (F.◌⊕◌ x y) → (m ≤ℤ l)
        ⊎ (n ≤ℤ l)
