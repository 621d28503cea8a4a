-- The finite places of the rational functions over a field: the monic irreducible polynomials, with their valuation
-- rings. (Reiner, Maximal Orders, section 4; Stichtenoth, Algebraic Function Fields and Codes, section 1.2.)
use Rattle.theory_rings.specs.Ring.{FieldOn}
use Rattle.theory_rings.specs.Polynomial.{Poly}
use Rattle.theory_spaces.specs.Valuation.{ValuationOn}
use Rattle.theory_lattices.specs.RationalFunctions.{Rational}
use Rattle.theory_places.specs.Places.{Finite, IsPlace, PlaceValuation}

-- the polynomials of finite places
abbrev pub FinitePlace : {k : Type 0} → FieldOn k → Type 0
FinitePlace F = (m : Poly F.cring) × IsPlace F (Finite m)

-- a valuation ring for each
abbrev pub FiniteValuations : {k : Type 0} (F : FieldOn k) → FieldOn (Rational F) → Type 0
FiniteValuations F Q = (m : Poly F.cring) → IsPlace F (Finite m) → PlaceValuation F Q (Finite m)

abbrev pub valuation_at : {k : Type 0} (F : FieldOn k) (Q : FieldOn (Rational F)) → FiniteValuations F Q
    → FinitePlace F → ValuationOn Q
valuation_at F Q V π = let v = V π.0 π.1 in v.valuation
