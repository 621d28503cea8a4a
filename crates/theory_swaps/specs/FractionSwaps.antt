-- The fraction with 1/x put for x, as an automorphism of the fractions over a program's field. (Stichtenoth, Algebraic
-- Function Fields and Codes, section 1.2.)
use Rattle.std.specs.Prelude.{◌≡◌, ◌≤◌, ◌↔◌, ℕ, List, [], ◌∷◌, length}
use Rattle.theory_rings.specs.Ops.{Ops, FieldLaws}
use Rattle.theory_fractions.specs.PolynomialLists.{IsPolynomialList}
use Rattle.theory_fractions.specs.Fraction.{Pair}
use Rattle.theory_fractions.specs.FractionOps.{fraction_ops}
use Rattle.theory_fractions.specs.CommonDenominator.{as_fraction}
use Rattle.theory_places.specs.Places.{PlaceOf, Finite, Infinite}
use Rattle.theory_places.specs.FractionPlaces.{IsPlace, IsIntegralAt, uniformizer_at, RamifiedAtPlace}
use Rattle.theory_tables.specs.Structure as structures
use Rattle.theory_tables.specs.Structure.{Structure}
use Rattle.theory_swaps.specs.Involutions.{IsInvolution, AreImages, images, image_structure}
use Rattle.theory_swaps.specs.CarriedAlgebras.{CarriesAlgebra}
use Rattle.theory_swaps.specs.CarriedLattices.{CarriesLattices, CarriesOrders}

module _ {E : Type 0} (o : Ops E) where
  -- the place x
  abbrev pub place_x : PlaceOf (List E)
  place_x = Finite (o.zero ∷ o.one ∷ [])

module _ {E : Type 0} (o : Ops E) (L : FieldLaws o) where
  -- an automorphism that is its own inverse, keeps constants, and takes x to 1/x; it carries what is integral at
  -- infinity to what is integral at x
  pub record IsFractionSwap (s : Pair E → Pair E) : Type 0 where
    pub involution : IsInvolution (fraction_ops o L) s
    pub constants : (c : List E) → IsPolynomialList o c → length c ≤ 1 → s (as_fraction o c) ≡ as_fraction o c
    pub variable : s (uniformizer_at o (place_x o)) ≡ uniformizer_at o Infinite
    pub integral : AreImages (fraction_ops o L) s (IsIntegralAt o Infinite) (IsIntegralAt o (place_x o))

  -- there is one, and x is a place
  pub record HasFractionSwap : Type 0 where
    pub place : IsPlace o (place_x o)
    pub swap : Pair E → Pair E
    pub is_swap : IsFractionSwap swap

  -- an algebra goes to that with the images of the constants; its lattices and orders at infinity, their duals and the
  -- own duals among them, go to those of the images at x
  pub record CarriesInfinityToX (s : Pair E → Pair E) : Type 0 where
    pub algebras : (A : Structure (Pair E)) → structures.IsOver (fraction_ops o L) A
        → CarriesAlgebra (fraction_ops o L) s A
    pub lattices : (w : ℕ)
        → CarriesLattices (fraction_ops o L) s (IsIntegralAt o Infinite) (IsIntegralAt o (place_x o)) w
    pub orders : (A : Structure (Pair E)) → structures.IsOver (fraction_ops o L) A
        → CarriesOrders (fraction_ops o L) s (IsIntegralAt o Infinite) (IsIntegralAt o (place_x o)) A

  abbrev pub InfinityIsThePlaceX : Type 0
  InfinityIsThePlaceX = (s : Pair E → Pair E) → IsFractionSwap s → CarriesInfinityToX s

  -- a claim of a ramified place at infinity holds exactly where that of the images at x does
  abbrev pub RamifiedAtInfinityAtX : FieldLaws (fraction_ops o L) → Type 0
  RamifiedAtInfinityAtX M = (s : Pair E → Pair E) → IsFractionSwap s → (A : Structure (Pair E))
      → structures.IsOver (fraction_ops o L) A → (os js : List (List (Pair E)))
      → RamifiedAtPlace o L M A Infinite os js
      ↔ RamifiedAtPlace o L M (image_structure s A) (place_x o) (images s os) (images s js)
