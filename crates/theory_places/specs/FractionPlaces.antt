-- The places of the fractions over a program's field, where polynomials are lists of coefficients. (Reiner, Maximal
-- Orders, section 4.)
use Rattle.std.specs.Prelude.{◌≡◌, ℕ, ◌≤◌, IsTrue, ◌⊎◌, ◌↔◌, List, [], ◌∷◌}
use Rattle.theory_rings.specs.Ring.{FieldOn}
use Rattle.theory_rings.specs.Ops.{Ops, FieldLaws}
use Rattle.theory_rings.specs.Elements.{Elem, elements}
use Rattle.theory_rings.specs.Sum.{at}
use Rattle.theory_rings.specs.Polynomial.{degree}
use Rattle.theory_rings.specs.Remainder.{Remainder, IsRemainderRing}
use Rattle.theory_lattices.specs.RationalFunctions.{polynomial_ring}
use Rattle.theory_spaces.specs.Valuation.{ValuationOn}
use Rattle.theory_orders.specs.Uniformizer.{IsIntegral, UniformizerOn}
use Rattle.theory_tables.specs.Structure as structures
use Rattle.theory_tables.specs.Structure.{Structure}
use Rattle.theory_tables.specs.Ramified.{RamifiedTable}
use Rattle.theory_tables.specs.Split.{IsSplit}
use Rattle.theory_residue.specs.Residue.{ResidueOn}
use Rattle.theory_fractions.specs.PolynomialLists.{IsPolynomialList, Divides}
use Rattle.theory_fractions.specs.Fraction.{Pair, IsFraction}
use Rattle.theory_fractions.specs.FractionOps.{polynomial_of, fraction_ops}
use Rattle.theory_remainders.specs.Irreducible.{IsIrreducible}
use Rattle.theory_places.specs.Places.{PlaceOf, Finite, Infinite}

module _ {E : Type 0} (o : Ops E) where
  -- the same as some u/v where m does not divide v
  pub record IsIntegralOff (m : List E) (w : Pair E) : Type 0 where
    pub u : List E
    pub v : List E
    pub numerator : IsPolynomialList o u
    pub denominator : IsPolynomialList o v
    pub value : IsFraction o w u v
    pub off : Divides o m v → ⊥

  -- u/v, where u is 0 or deg u ≤ deg v
  abbrev pub IsIntegralAtInfinity : Pair E → Type 0
  IsIntegralAtInfinity w = (w.0 ≡ []) ⊎ (degree w.0 ≤ degree w.1)

  -- integral at a polynomial, or at infinity
  abbrev pub IsIntegralAt : PlaceOf (List E) → Pair E → Type 0
  IsIntegralAt (Finite m) w = IsIntegralOff m w
  IsIntegralAt Infinite w = IsIntegralAtInfinity w

  -- monic, of degree at least 1, and no product of two polynomials of smaller degree
  pub record IsMonicIrreducible (m : List E) : Type 0 where
    pub irreducible : IsIrreducible o m
    pub open irreducible use {polynomial, positive, no_factors}
    pub monic : at o m (degree m) ≡ o.one

  -- the polynomial of a place is monic and irreducible
  abbrev pub IsPlace : PlaceOf (List E) → Type 0
  IsPlace (Finite m) = IsMonicIrreducible m
  IsPlace Infinite = Unit {0}

  -- the polynomial of a place, or 1/x
  abbrev pub uniformizer_at : PlaceOf (List E) → Pair E
  uniformizer_at (Finite m) = (m, o.one ∷ [])
  uniformizer_at Infinite = (o.one ∷ [], o.zero ∷ o.one ∷ [])

module _ {E : Type 0} (o : Ops E) (L : FieldLaws o) (M : FieldLaws (fraction_ops o L)) where
  -- the field of fractions
  abbrev pub fractions : FieldOn (Elem (fraction_ops o L))
  fractions = elements (fraction_ops o L) M

  -- what is integral at the place is a discrete valuation ring with this uniformizer, which is no unit
  pub record FractionPlaceValuation (place : PlaceOf (List E)) : Type 0 where
    pub valuation : ValuationOn fractions
    pub tells : (a : Elem (fraction_ops o L)) → IsTrue (valuation.integral a) ↔ IsIntegralAt o place a.0
    pub p : Elem (fraction_ops o L)
    pub p_is : p.0 ≡ uniformizer_at o place
    pub uniformizer : UniformizerOn fractions valuation p (fractions.inv p)
    pub not_unit : IsIntegral fractions valuation (fractions.inv p) → ⊥

  -- each place has its valuation ring
  abbrev pub FractionPlacesAreValuationRings : Type 0
  FractionPlacesAreValuationRings = (place : PlaceOf (List E)) → IsPlace o place → FractionPlaceValuation place

  -- the residue field of a polynomial is that of its remainders
  abbrev pub FractionFiniteResidues : Type 0
  FractionFiniteResidues = (m : List E) → IsPlace o (Finite m) → (V : FractionPlaceValuation (Finite m))
      → (k : FieldOn (Remainder (elements o L).cring (polynomial_of o L m)))
      → IsRemainderRing (elements o L).cring (polynomial_of o L m) (polynomial_ring (elements o L)) k.cring
      → ResidueOn fractions V.valuation (fractions.inv V.p) k

  -- that of infinity is the field of the coefficients
  abbrev pub FractionInfiniteResidue : Type 0
  FractionInfiniteResidue = (V : FractionPlaceValuation Infinite)
      → ResidueOn fractions V.valuation (fractions.inv V.p) (elements o L)

  -- the claim of a ramified place: the algebra has it at the valuation ring of the place, with the order spanned by os
  -- and the radical spanned by js
  pub record RamifiedAtPlace (A : Structure (Pair E)) (place : PlaceOf (List E))
      (os js : List (List (Pair E))) : Type 0 where
    pub at_place : FractionPlaceValuation place
    pub ramified : RamifiedTable (fraction_ops o L) M A at_place.valuation at_place.p os js

  -- it excludes a splitting by matrices of each size from 1 on
  abbrev pub RamifiedPlaceExcludesSplit : Type 0
  RamifiedPlaceExcludesSplit = (A : Structure (Pair E)) → structures.IsOver (fraction_ops o L) A
      → (place : PlaceOf (List E)) (os js : List (List (Pair E))) → RamifiedAtPlace A place os js
      → (m : ℕ) → 1 ≤ m → IsSplit (fraction_ops o L) A m → ⊥
