-- Growth of first orders at all places of the rational functions, one after the other, until one is ramified or none is
-- left. (Reiner, Maximal Orders, sections 8, 25 and 39.)
use Rattle.std.specs.Prelude.{◌≡◌, ◌≢◌, ◌<◌, ◌≤◌, ℕ, List, [], ◌∷◌, length, get_or}
use Rattle.std.specs.declared.cmp.Ordering.TheVariants.{Less}
use Rattle.theory_spaces.specs.Sets.{Within}
use Rattle.theory_tables.specs.Matrix.{IsMatrix}
use Rattle.theory_tables.specs.Structure.{Structure}
use Rattle.theory_fractions.specs.Fraction.{Pair}
use Rattle.theory_places.specs.Places as places
use Rattle.theory_places.specs.Places.{PlaceOf, Infinite}
use Rattle.theory_places.specs.FractionPlaces.{IsIntegralAt, IsMonicIrreducible, IsPlace, RamifiedAtPlace}
use Rattle.theory_bases.specs.TupleLattices.{TupleLattice, SpanOrder, IsTraceDualOfItself}
use Rattle.theory_bases.specs.Bases.{BasisForm, IsBasis, IsPolynomialFraction}
use Rattle.theory_bases.specs.StartOrders.{SpansStart}
use Rattle.theory_growth.specs.Growths.{PolynomialLattice}
use Rattle.theory_swaps.specs.Involutions.{image, images, image_structure}
use Rattle.theory_swaps.specs.FractionSwaps.{IsFractionSwap}
use Rattle.spl_field.specs.declared.small.SmallField.{SmallField}
use Rattle.spl_field.specs.SmallField.{small_ops, small_laws}
use Rattle.spl_factor.specs.Factorisation.{Powers}
use Rattle.spl_fraction.specs.declared.place.Place.{Place}
use Rattle.spl_fraction.specs.declared.place.Place.TheVariants.{Finite, Infinity}
use Rattle.spl_fraction.specs.FractionsOver.{fractions_over, fractions_laws}
use Rattle.spl_fraction.specs.Place.{place_of, place_cmp}
use Rattle.spl_local.specs.declared.settle.State.{State}
use Rattle.spl_local.specs.declared.settle.State.TheVariants as states
use Rattle.spl_local.specs.declared.everywhere.FinitePlaces.{FinitePlaces}
use Rattle.spl_local.specs.declared.everywhere.FinitePlaces.TheVariants as finite_places
use Rattle.spl_local.specs.declared.everywhere.Everywhere.{Everywhere}
use Rattle.spl_local.specs.declared.everywhere.Everywhere.TheVariants.{Ramified, Unimodular}
use Rattle.spl_local.specs.Growth.{small_tuples, IsOverorder, IsUnimodular, IsRamifiedBy, IsState}

-- m is none of the factors from place i on
abbrev pub IsNoFactorFrom : ℕ → List ℕ → Powers → Type 0
IsNoFactorFrom i m factors =
    (j : ℕ) (d : List ℕ × ℕ) → i ≤ j → j < length factors → (get_or factors j d).0 ≢ m

module _ (f : SmallField) (A : Structure (Pair ℕ)) where
  -- the tuples span an order at the place that is its own dual for the trace there
  pub record IsUnimodularAt (p : PlaceOf (List ℕ)) (tuples : List (List (Pair ℕ))) : Type 0 where
    pub order : SpanOrder (fractions_over f) A (IsIntegralAt (small_ops f) p) tuples
    pub own_dual : IsTraceDualOfItself (fractions_over f) A (IsIntegralAt (small_ops f) p) tuples

  -- the tuples of some order are so at each place before this one
  abbrev pub IsFirstRamified : Place → Type 0
  IsFirstRamified place = (p : Place) → IsPlace (small_ops f) (place_of p) → place_cmp p place ≡ Less
      → (tuples : List (List (Pair ℕ))) × IsUnimodularAt (place_of p) tuples

  -- the first place in the order of places that is ramified, with bases of the order and of the radical
  pub record IsRamifiedFirst (place : Place) (order radical : BasisForm ℕ) : Type 0 where
    pub is_place : IsPlace (small_ops f) (place_of place)
    pub order_basis : IsBasis (small_ops f) (small_laws f) A.dim order
    pub radical_basis : IsBasis (small_ops f) (small_laws f) A.dim radical
    pub ramified : RamifiedAtPlace (small_ops f) (small_laws f) (fractions_laws f) A (place_of place)
        (small_tuples f order) (small_tuples f radical)
    pub first : IsFirstRamified place

  -- a basis of an order over the polynomials that is its own dual for the trace at each finite place
  pub record IsUnimodularOrder (finite : BasisForm ℕ) : Type 0 where
    pub basis : IsBasis (small_ops f) (small_laws f) A.dim finite
    pub order : SpanOrder (fractions_over f) A (IsPolynomialFraction (small_ops f)) (small_tuples f finite)
    pub own_dual : (m : List ℕ) → IsMonicIrreducible (small_ops f) m → IsUnimodular f A m finite

  -- such a basis, and one of an order at infinity that is its own dual there
  pub record IsUnimodularEverywhere (finite infinite : BasisForm ℕ) : Type 0 where
    pub over_polynomials : IsUnimodularOrder finite
    pub basis : IsBasis (small_ops f) (small_laws f) A.dim infinite
    pub at_infinity : IsUnimodularAt Infinite (small_tuples f infinite)

  -- orders that are their own duals at all places, or else the first place that is ramified
  abbrev pub IsEverywhere : Everywhere → Type 0
  IsEverywhere (Ramified place order radical) = IsRamifiedFirst place order radical
  IsEverywhere (Unimodular finite infinite) = IsUnimodularEverywhere finite infinite

  -- the same of the finite places alone
  abbrev pub IsAtFinitePlaces : FinitePlaces → Type 0
  IsAtFinitePlaces (finite_places.Ramified place order radical) = IsRamifiedFirst (Finite place) order radical
  IsAtFinitePlaces (finite_places.Unimodular order) = IsUnimodularOrder order

  -- an order that grew at m until it is its own dual there, or ramified
  abbrev pub IsSettledAt : List ℕ → BasisForm ℕ → FinitePlaces → Type 0
  IsSettledAt m first (finite_places.Ramified place order radical) =
      (place ≡ m) × IsOverorder f A m first order × IsRamifiedBy f A m order radical
  IsSettledAt m first (finite_places.Unimodular order) = IsOverorder f A m first order × IsUnimodular f A m order

  -- the order is its own dual at each finite place that is none of the factors from place i on
  abbrev pub IsUnimodularOff : ℕ → Powers → BasisForm ℕ → Type 0
  IsUnimodularOff i factors order = (m : List ℕ) → IsMonicIrreducible (small_ops f) m → IsNoFactorFrom i m factors
      → IsUnimodular f A m order

  -- a basis of an order over the polynomials that holds the lattice of the first
  pub record IsLargerOrder (first larger : BasisForm ℕ) : Type 0 where
    pub basis : IsBasis (small_ops f) (small_laws f) A.dim larger
    pub order : SpanOrder (fractions_over f) A (IsPolynomialFraction (small_ops f)) (small_tuples f larger)
    pub within : Within (PolynomialLattice (small_ops f) (small_laws f) A (small_tuples f first))
        (PolynomialLattice (small_ops f) (small_laws f) A (small_tuples f larger))

  -- the order of the answer is such an order
  abbrev pub HoldsLattice : BasisForm ℕ → FinitePlaces → Type 0
  HoldsLattice first (finite_places.Ramified place order radical) = IsLargerOrder first order
  HoldsLattice first (finite_places.Unimodular order) = IsLargerOrder first order

  -- what an order at infinity is there
  abbrev pub IsStateAtInfinity : BasisForm ℕ → State → Type 0
  IsStateAtInfinity order states.Unimodular = IsUnimodularAt Infinite (small_tuples f order)
  IsStateAtInfinity order (states.Ramified radical) = IsBasis (small_ops f) (small_laws f) A.dim radical
      × RamifiedAtPlace (small_ops f) (small_laws f) (fractions_laws f) A Infinite (small_tuples f order)
      (small_tuples f radical)

  module _ (one : List (Pair ℕ)) where
    -- the lattice of the basis over the polynomials holds that of each first order
    abbrev pub HoldsStarts : BasisForm ℕ → Type 0
    HoldsStarts order = (tuples : List (List (Pair ℕ))) → SpansStart (small_ops f) (small_laws f) A one tuples
        → Within (PolynomialLattice (small_ops f) (small_laws f) A tuples)
        (PolynomialLattice (small_ops f) (small_laws f) A (small_tuples f order))

    -- the lattice of the basis at the place holds that of each first order; at infinity a first order is that of the
    -- algebra with 1/x put for x, with 1/x put for x
    abbrev pub HoldsStartsAt : Place → BasisForm ℕ → Type 0
    HoldsStartsAt (Finite m) order = (tuples : List (List (Pair ℕ))) → IsMatrix (fractions_over f) A.dim tuples
        → SpansStart (small_ops f) (small_laws f) A one tuples
        → Within (TupleLattice (fractions_over f) (IsIntegralAt (small_ops f) (places.Finite m)) A.dim tuples)
        (TupleLattice (fractions_over f) (IsIntegralAt (small_ops f) (places.Finite m)) A.dim (small_tuples f order))
    HoldsStartsAt Infinity order = (s : Pair ℕ → Pair ℕ) → IsFractionSwap (small_ops f) (small_laws f) s
        → (tuples : List (List (Pair ℕ))) → IsMatrix (fractions_over f) A.dim tuples
        → SpansStart (small_ops f) (small_laws f) (image_structure s A) (image s one) tuples
        → Within (TupleLattice (fractions_over f) (IsIntegralAt (small_ops f) Infinite) A.dim (images s tuples))
        (TupleLattice (fractions_over f) (IsIntegralAt (small_ops f) Infinite) A.dim (small_tuples f order))

    -- the orders of the answer hold the first orders, at their places
    abbrev pub HoldFirstOrders : Everywhere → Type 0
    HoldFirstOrders (Ramified place order radical) = HoldsStartsAt place order
    HoldFirstOrders (Unimodular finite infinite) = HoldsStarts finite × HoldsStartsAt Infinity infinite

    -- the same of the finite places alone
    abbrev pub HoldsFiniteStarts : FinitePlaces → Type 0
    HoldsFiniteStarts (finite_places.Ramified place order radical) = HoldsStartsAt (Finite place) order
    HoldsFiniteStarts (finite_places.Unimodular order) = HoldsStarts order

  -- an order over the polynomials at the place x that holds each first order, and what it is there
  pub record IsSettledAtX (one : List (Pair ℕ)) (larger : BasisForm ℕ) (found : State) : Type 0 where
    pub basis : IsBasis (small_ops f) (small_laws f) A.dim larger
    pub order : SpanOrder (fractions_over f) A (IsPolynomialFraction (small_ops f)) (small_tuples f larger)
    pub state : IsState f A (0 ∷ 1 ∷ []) larger found
    pub holds : HoldsStarts one larger

-- the second is the first with 1/x put for x in the tuples of the radical
abbrev pub AreSwapped : SmallField → State → State → Type 0
AreSwapped f states.Unimodular states.Unimodular = Unit {0}
AreSwapped f states.Unimodular (states.Ramified k) = ⊥
AreSwapped f (states.Ramified j) states.Unimodular = ⊥
AreSwapped f (states.Ramified j) (states.Ramified k) =
    ((n : ℕ) → IsBasis (small_ops f) (small_laws f) n j → IsBasis (small_ops f) (small_laws f) n k)
    × ((s : Pair ℕ → Pair ℕ) → IsFractionSwap (small_ops f) (small_laws f) s
    → small_tuples f k ≡ images s (small_tuples f j))

-- a radical has a basis
abbrev pub HasBasis : SmallField → ℕ → State → Type 0
HasBasis f n states.Unimodular = Unit {0}
HasBasis f n (states.Ramified radical) = IsBasis (small_ops f) (small_laws f) n radical

-- the answer by that of the finite places and that at infinity
abbrev pub joined : BasisForm ℕ → BasisForm ℕ → State → Everywhere
joined finite order states.Unimodular = Unimodular finite order
joined finite order (states.Ramified radical) = Ramified Infinity order radical
