-- A first order at infinity by one at the place x, and the answer by the finite places and infinity.
use Rattle.std.specs.Prelude.{◌≡◌, ℕ, List, [], ◌∷◌}
use Rattle.std.specs.declared.cmp.Ordering.TheVariants.{Less}
use Rattle.std.proofs.Common.{sym, subst}
use Rattle.theory_rings.specs.Ops.{Ops, FieldLaws}
use Rattle.theory_spaces.specs.Sets.{Within}
use Rattle.theory_tables.specs.Matrix.{IsMatrix}
use Rattle.theory_tables.specs.Structure.{Structure, IsOver, IsAssociative}
use Rattle.theory_tables.specs.Algebras.{IsIdentity, HasSmallCentre}
use Rattle.theory_tables.specs.Traces.{IsNondegenerate}
use Rattle.theory_fractions.specs.Fraction.{Pair}
use Rattle.theory_places.specs.Places.{Infinite}
use Rattle.theory_places.specs.FractionPlaces.{IsIntegralAt, IsPlace, RamifiedAtPlace}
use Rattle.theory_bases.specs.TupleLattices.{TupleLattice, SpanOrder, IsTraceDualOfItself}
use Rattle.theory_bases.specs.Bases.{BasisForm, IsBasis}
use Rattle.theory_bases.specs.StartOrders.{SpansStart}
use Rattle.theory_swaps.specs.Involutions.{image, images, image_structure}
use Rattle.theory_swaps.specs.CarriedAlgebras.{CarriesAlgebra}
use Rattle.theory_swaps.specs.FractionSwaps.{IsFractionSwap, HasFractionSwap}
use Rattle.theory_swaps.proofs.FractionSwaps.{x_place, has_fraction_swap}
use Rattle.spl_field.specs.declared.small.SmallField.{SmallField}
use Rattle.spl_field.specs.SmallField.{small_ops, small_laws}
use Rattle.spl_fraction.specs.declared.place.Place.TheVariants.{Infinity}
use Rattle.spl_fraction.specs.FractionsOver.{fractions_over, fractions_laws}
use Rattle.spl_fraction.specs.Place.{place_of, place_cmp}
use Rattle.spl_local.specs.declared.settle.State.{State}
use Rattle.spl_local.specs.declared.settle.State.TheVariants.{Unimodular, Ramified}
use Rattle.spl_local.specs.declared.everywhere.FinitePlaces.{FinitePlaces}
use Rattle.spl_local.specs.declared.everywhere.FinitePlaces.TheVariants as finite_places
use Rattle.spl_local.specs.Growth.{small_tuples, IsState}
use Rattle.spl_local.specs.Everywhere.{IsUnimodularAt, IsUnimodularOrder, IsEverywhere, IsAtFinitePlaces, HoldsLattice}
use Rattle.spl_local.specs.Everywhere.{IsStateAtInfinity, HoldsStarts, HoldsStartsAt, HoldFirstOrders}
use Rattle.spl_local.specs.Everywhere.{HoldsFiniteStarts, IsSettledAtX, AreSwapped, HasBasis, joined}
use Rattle.spl_local.proofs.PlaceSteps.{within_at, order_at, by_place, equal_less, unimodular_at}
use Rattle.spl_local.proofs.StartLattices.{starts_within}
use Rattle.spl_local.proofs.SwappedGrowth.{algebra, small_centre, order_back, own_dual_back, ramified_back, within_back}

module _ (f : SmallField) (A : Structure (Pair ℕ)) (over : IsOver (fractions_over f) A)
    (assoc : IsAssociative (fractions_over f) A) where
  abbrev o : Ops ℕ
  o = small_ops f

  abbrev L : FieldLaws o
  L = small_laws f

  abbrev k : Ops (Pair ℕ)
  k = fractions_over f

  abbrev T : BasisForm ℕ → List (List (Pair ℕ))
  T = small_tuples f

  -- ---- the algebra with 1/x put for x

  module _ (B : Structure (Pair ℕ)) (is : (s : Pair ℕ → Pair ℕ) → IsFractionSwap o L s → B ≡ image_structure s A) where
    abbrev w : HasFractionSwap o L
    w = has_fraction_swap o L

    here : B ≡ image_structure w.swap A
    here = is w.swap w.is_swap

    carries : CarriesAlgebra k w.swap A
    carries = algebra o L w.swap w.is_swap A over

    pub swapped_associative : IsAssociative k B
    swapped_associative = subst (IsAssociative k) (sym here) (carries.associative.0 assoc)

    pub swapped_centre : HasSmallCentre k A → HasSmallCentre k B
    swapped_centre h = subst (HasSmallCentre k) (sym here) (small_centre o L w.swap w.is_swap A over h)

    pub swapped_form : IsNondegenerate k A → IsNondegenerate k B
    swapped_form h = subst (IsNondegenerate k) (sym here) (carries.trace_form.0 h)

    module _ (one one' : List (Pair ℕ))
        (same : (s : Pair ℕ → Pair ℕ) → IsFractionSwap o L s → one' ≡ image s one) where
      pub swapped_identity : IsIdentity k A one → IsIdentity k B one'
      swapped_identity h = subst (λ C. IsIdentity k C one') (sym here)
          (subst (IsIdentity k (image_structure w.swap A)) (sym (same w.swap w.is_swap)) ((carries.identity one).0 h))

      pub settled_image : (order : BasisForm ℕ) (state : State) → IsSettledAtX f B one' order state
          → (s : Pair ℕ → Pair ℕ) → IsFractionSwap o L s
          → IsSettledAtX f (image_structure s A) (image s one) order state
      settled_image order state h s S = subst (λ e. IsSettledAtX f (image_structure s A) e order state) (same s S)
          (subst (λ C. IsSettledAtX f C one' order state) (is s S) h)

  module _ (one : List (Pair ℕ)) (is_one : IsIdentity k A one) where
    -- ---- finite places

    -- an order that holds a first order holds all of them
    pub holds_finite : (first : BasisForm ℕ) → IsBasis o L A.dim first → SpansStart o L A one (T first)
        → (r : FinitePlaces) → IsAtFinitePlaces f A r → HoldsLattice f A first r → HoldsFiniteStarts f A one r
    holds_finite first B S (finite_places.Ramified place order radical) r h = λ tuples m t.
        let i = r.order_basis.independent in
        within_at o L A over assoc place r.is_place one is_one tuples (T order) m i.shape
        (λ x w. h.within x (starts_within o L A one tuples (T first) t S x w))
    holds_finite first B S (finite_places.Unimodular order) r h = λ tuples t x w.
        h.within x (starts_within o L A one tuples (T first) t S x w)

    -- ---- infinity

    module _ (s : Pair ℕ → Pair ℕ) (swap : IsFractionSwap o L s) (order order' : BasisForm ℕ) (state : State)
        (H : IsSettledAtX f (image_structure s A) (image s one) order state)
        (e : T order' ≡ images s (T order)) where
      abbrev B : Structure (Pair ℕ)
      B = image_structure s A

      carried : CarriesAlgebra k s A
      carried = algebra o L s swap A over

      shape : IsMatrix k A.dim (T order)
      shape = let i = H.basis.independent in i.shape

      states : (state state' : State) → IsState f B (0 ∷ 1 ∷ []) order state → AreSwapped f state state'
          → IsStateAtInfinity f A order' state'
      states Unimodular Unimodular u h = record {
        order = subst (SpanOrder k A (IsIntegralAt o Infinite)) (sym e) (order_back o L s swap A over (T order)
            (order_at o L B carried.over (carried.associative.0 assoc) (0 ∷ 1 ∷ []) (x_place o L) (T order) H.order));
        own_dual = subst (IsTraceDualOfItself k A (IsIntegralAt o Infinite)) (sym e)
            (own_dual_back o L s swap A over (T order) shape u);
      }
      states Unimodular (Ramified j) u h = absurd h
      states (Ramified i) Unimodular u h = absurd h
      states (Ramified i) (Ramified j) u h = (
        h.0 A.dim u.basis,
        subst (λ t. RamifiedAtPlace o L (fractions_laws f) A Infinite t (T j)) (sym e)
            (subst (RamifiedAtPlace o L (fractions_laws f) A Infinite (images s (T order))) (sym (h.1 s swap))
            (ramified_back o L s swap A over (fractions_laws f) (T order) (T i) u.ramified)),
      )

      pub state_at_infinity : (state' : State) → AreSwapped f state state' → IsStateAtInfinity f A order' state'
      state_at_infinity state' h = states state state' H.state h

      pub holds_at_infinity : (tuples : List (List (Pair ℕ))) → IsMatrix k A.dim tuples
          → SpansStart o L B (image s one) tuples
          → Within (TupleLattice k (IsIntegralAt o Infinite) A.dim (images s tuples))
          (TupleLattice k (IsIntegralAt o Infinite) A.dim (T order'))
      holds_at_infinity tuples m t =
          subst (λ r. Within (TupleLattice k (IsIntegralAt o Infinite) A.dim (images s tuples))
          (TupleLattice k (IsIntegralAt o Infinite) A.dim r)) (sym e)
          (within_back o L s swap A over tuples (T order) m shape
          (within_at o L B carried.over (carried.associative.0 assoc) (0 ∷ 1 ∷ []) (x_place o L) (image s one)
          ((carried.identity one).0 is_one) tuples (T order) m shape (H.holds tuples t)))

    -- ---- both

    pub first_joined : (finite order : BasisForm ℕ) (state : State) → HoldsStarts f A one finite
        → HoldsStartsAt f A one Infinity order → HoldFirstOrders f A one (joined finite order state)
    first_joined finite order Unimodular h g = (h, g)
    first_joined finite order (Ramified radical) h g = g

  pub everywhere_joined : (finite order : BasisForm ℕ) (state : State) → IsUnimodularOrder f A finite
      → IsBasis o L A.dim order → IsStateAtInfinity f A order state → IsEverywhere f A (joined finite order state)
  everywhere_joined finite order Unimodular u b i = record { over_polynomials = u; basis = b; at_infinity = i }
  everywhere_joined finite order (Ramified radical) u b i = record {
    is_place = tt;
    order_basis = b;
    radical_basis = i.0;
    ramified = i.1;
    first = by_place (λ p. IsPlace o (place_of p) → place_cmp p Infinity ≡ Less
        → (tuples : List (List (Pair ℕ))) × IsUnimodularAt f A (place_of p) tuples)
        (λ m s _. (T finite, unimodular_at f A over assoc m s finite u.order (u.own_dual m s)))
        (λ _ q. absurd (equal_less q));
  }

  -- a state has a basis
  pub has_basis : (m : List ℕ) (order : BasisForm ℕ) (state : State) → IsState f A m order state
      → HasBasis f A.dim state
  has_basis m order Unimodular h = tt
  has_basis m order (Ramified radical) h = h.basis
