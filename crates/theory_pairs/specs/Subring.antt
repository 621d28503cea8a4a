-- Subrings of a field, as conditions on its elements: where they are the elements that are integral at each of some
-- places, and where the field has their fractions alone. (Lang, Algebra, sections II.4 and VII.1; Reiner, Maximal
-- Orders, section 4.)
use Rattle.std.specs.Prelude.{◌≡◌, ◌↔◌}
use Rattle.theory_rings.specs.Ring.{FieldOn}
use Rattle.theory_spaces.specs.Valuation.{ValuationOn}
use Rattle.theory_orders.specs.Uniformizer.{IsIntegral}

module _ {K : Type 0} (F : FieldOn K) (P : K → Type 0) where
  -- P holds of the elements that are integral at each of the places, the ring of the integral elements of all of them
  abbrev pub IsIntersection : {Place : Type 0} → (Place → ValuationOn F) → Type 0
  IsIntersection Z = (c : K) → P c ↔ ((π : _) → IsIntegral F (Z π) c)

  -- each element of the field is a fraction: some d in P other than 0 carries it into P
  pub record IsDenominator (x d : K) : Type 0 where
    pub inside : P d
    pub nonzero : d ≡ F.zero → ⊥
    pub clears : P (F.◌⊗◌ d x)

  abbrev pub HasFractions : Type 0
  HasFractions = (x : K) → (d : K) × IsDenominator x d
