-- The places of the fractions over a program's field, by those of the rational functions.
use Rattle.std.specs.Prelude.{◌≡◌, ◌≢◌, ℕ, zero, suc, ◌≤◌, IsTrue, ◌↔◌, List, [], ◌∷◌, length}
use Rattle.std.proofs.Common.{refl, sym, ◌∙◌, ap, ap₂, subst, arith, inl, inr, ⊎_elim}
use Rattle.theory_rings.specs.Ring.{FieldOn, CommRingOn}
use Rattle.theory_rings.specs.Ops.{Ops, IsElem, FieldLaws}
use Rattle.std.proofs.lemmas.List.Elements.{All-nil, All-cons}
use Rattle.theory_rings.specs.Elements.{Elem, Elem-path, elements}
use Rattle.theory_rings.specs.Sum.{at}
use Rattle.theory_rings.specs.Polynomial.{Poly, coefficient, lead, degree, convolution_of, constant_coefficients}
use Rattle.theory_rings.specs.Division.{Divides as DividesIn}
use Rattle.theory_rings.specs.Fraction.{IsFractionField, IsLowest, IsValue}
use Rattle.theory_rings.proofs.Polynomials.PolynomialRing.{Poly-path, zero-list, series_prepend}
use Rattle.theory_rings.proofs.Polynomials.Constants.{variable, coefficient-variable}
use Rattle.theory_rings.proofs.Polynomials.Degrees.{degree_le_length}
use Rattle.theory_rings.proofs.Polynomials.Bezout.{field_polynomials}
use Rattle.theory_rings.proofs.Polynomials.ElementLists.{values, at-values}
use Rattle.theory_rings.proofs.Fractions.Lowest.{polynomial_reduction, rational_functions, is_rational_functions}
use Rattle.theory_lattices.specs.RationalFunctions.{Rational, of_polynomial, power_of_x}
use Rattle.theory_lattices.proofs.Degree.FractionDegrees.{eq_of_value}
use Rattle.theory_spaces.specs.Valuation.{ValuationOn}
use Rattle.theory_orders.specs.Uniformizer.{IsIntegral, UniformizerOn}
use Rattle.theory_residue.specs.Residue.{ResidueOn}
use Rattle.theory_rings.specs.Power.{power}
use Rattle.theory_rings.specs.Homomorphism.{IsRingHom}
use Rattle.theory_rings.proofs.Rings.RingLaws.{zero-mul}
use Rattle.theory_rings.proofs.Rings.Fields.{mul-inv}
use Rattle.theory_rings.proofs.Polynomials.Irreducible.{irreducible-ne-zero}
use Rattle.theory_rings.proofs.Fractions.Fractions.{fraction_of_value, value_unique}
use Rattle.theory_fractions.specs.PolynomialLists.{Divides, IsPolynomialList}
use Rattle.theory_fractions.specs.Fraction.{Pair, IsFraction}
use Rattle.theory_fractions.specs.FractionOps.{polynomial_of, rational_function, pair_of, fraction_ops}
use Rattle.theory_fractions.specs.FractionLaws.{FractionsAreRational}
use Rattle.theory_fractions.proofs.RationalFractions.{fractions_are_rational}
use Rattle.theory_fractions.proofs.Lifting.{values-over, coefficients_of_eq, has-mul}
use Rattle.theory_fractions.proofs.FractionField.{polynomial_of-nil, polynomial_of-one, polynomial_of-values}
use Rattle.theory_fractions.proofs.FractionField.{is_fraction-parts, rational_function_eq}
use Rattle.theory_fractions.proofs.ListPolynomials.{is_polynomial-gives, IsPolynomialList-values}
use Rattle.theory_fractions.proofs.ListPolynomials.{has_polynomial_of, degree-polynomial_of, divides_polynomial_of}
use Rattle.theory_fractions.proofs.ListPolynomials.{divides_values, values_back}
use Rattle.theory_fractions.proofs.Reducing.{fraction_of_eq, eq_of_fraction, lowest_of_monic, lowest_over_one}
use Rattle.theory_fractions.proofs.Reducing.{coprime_of_constant_left}
use Rattle.theory_fractions.proofs.LowestTerms.{lead_value}
use Rattle.theory_fractions.proofs.ElementClauses.{elem_of_lowest}
use Rattle.theory_places.specs.Places.{PlaceOf, Finite, Infinite}
use Rattle.theory_places.specs.Places as rational
use Rattle.theory_places.specs.FractionPlaces.{IsIntegralOff, IsIntegralAtInfinity, IsIntegralAt}
use Rattle.theory_places.specs.FractionPlaces.{IsMonicIrreducible, IsPlace, uniformizer_at, fractions}
use Rattle.theory_places.specs.FractionPlaces.{FractionPlaceValuation, FractionPlacesAreValuationRings}
use Rattle.theory_places.specs.FractionPlaces.{FractionFiniteResidues, FractionInfiniteResidue}
use Rattle.theory_places.proofs.Rationals.{inv_value}
use Rattle.theory_places.proofs.PlaceValuations.{place_valuation, x_ne}
use Rattle.theory_places.proofs.SwapPlaces.{variable_place}
use Rattle.theory_places.proofs.PlaceResidues.{residue_at, finite_residues, infinite_residues}
use Rattle.theory_places.proofs.PulledBack.{h-zero, h-inv, pulled, pulled_uniformizer, pulled_residue}

module _ {E : Type 0} (o : Ops E) (L : FieldLaws o) where
  abbrev F : FieldOn (Elem o)
  F = elements o L

  abbrev P : CommRingOn (Poly F.cring)
  P = field_polynomials F

  abbrev Q : FieldOn (Rational F)
  Q = rational_functions F

  abbrev poly : List E → Poly F.cring
  poly = polynomial_of o L

  abbrev map : Pair E → Rational F
  map = rational_function o L

  abbrev Frac : Pair E → Type 0
  Frac w = IsElem (fraction_ops o L) w

  -- numerator and denominator of a fraction
  num_path : (w : Pair E) → Frac w → (map w).0.0 ≡ poly w.0
  unfolding fraction_ops
  num_path w h = ap (λ (x : Rational F). x.0.0) (rational_function_eq o L w h)

  den_path : (w : Pair E) → Frac w → (map w).0.1 ≡ poly w.1
  unfolding fraction_ops
  den_path w h = ap (λ (x : Rational F). x.0.1) (rational_function_eq o L w h)

  num_is : (w : Pair E) → Frac w → IsPolynomialList o w.0
  unfolding fraction_ops
  num_is w h = is_polynomial-gives o L w.0 (is_fraction-parts o L w h).0

  den_is : (w : Pair E) → Frac w → IsPolynomialList o w.1
  unfolding fraction_ops
  den_is w h = is_polynomial-gives o L w.1 (is_fraction-parts o L w h).1

  abbrev Is : Rational F → Poly F.cring → Poly F.cring → Type 0
  Is = IsValue P (IsLowest F.cring P)

  -- the values of a fraction
  value_of : (w : Pair E) (u v : List E) → Frac w → IsPolynomialList o u → IsPolynomialList o v → IsFraction o w u v
      → Is (map w) (poly u) (poly v)
  value_of w u v h hu hv e =
      let n = num_is w h in
      let d = den_is w h in
      ap (λ t. P.◌⊗◌ t (poly v)) (num_path w h) ∙ eq_of_fraction o L w u v n.over d.over hu.over hv.over e
      ∙ ap (P.◌⊗◌ (poly u)) (sym (den_path w h))

  of_value : (w : Pair E) (u v : Poly F.cring) → Frac w → Is (map w) u v
      → IsFraction o w (values o L u.0) (values o L v.0)
  of_value w u v h e =
      let n = num_is w h in
      let d = den_is w h in
      fraction_of_eq o L w (values o L u.0) (values o L v.0) n.over d.over (values-over o L u.0) (values-over o L v.0)
      (ap₂ P.◌⊗◌ (sym (num_path w h)) (polynomial_of-values o L v) ∙ e
      ∙ ap₂ P.◌⊗◌ (sym (polynomial_of-values o L u)) (den_path w h))

  -- integral at a polynomial
  integral_off : (m : List E) → IsPolynomialList o m → (w : Pair E) → Frac w
      → rational.IsIntegralOff F (poly m) (map w) ↔ IsIntegralOff o m w
  integral_off m hm w h = (
    λ s. record {
      u = values o L s.0.0;
      v = values o L s.1.0;
      numerator = IsPolynomialList-values o L s.0;
      denominator = IsPolynomialList-values o L s.1;
      value = of_value w s.0 s.1 h s.2;
      off = λ d. s.3 (subst (DividesIn P (poly m)) (polynomial_of-values o L s.1)
          (divides_polynomial_of o L m (values o L s.1.0) hm (IsPolynomialList-values o L s.1) d));
    },
    λ s. (
      poly s.u,
      poly s.v,
      value_of w s.u s.v h s.numerator s.denominator s.value,
      λ d. s.off (subst (Divides o m) (values_back o L s.v s.denominator)
          (subst (λ t. Divides o t (values o L (poly s.v).0)) (values_back o L m hm)
          (divides_values o L (poly m) (poly s.v) d))),
    ),
  )

  -- integral at infinity
  zero_values : values o L P.zero.0 ≡ []
  zero_values = ap (values o L) (zero-list F.cring F.zero_test)

  integral_infinity : (w : Pair E) → Frac w → rational.IsIntegralAtInfinity F (map w) ↔ IsIntegralAtInfinity o w
  integral_infinity w h =
      let n = ap (λ (u : Poly F.cring). degree u.0) (num_path w h) ∙ degree-polynomial_of o L w.0 (num_is w h) in
      let d = ap (λ (u : Poly F.cring). degree u.0) (den_path w h) ∙ degree-polynomial_of o L w.1 (den_is w h) in (
        ⊎_elim
            (λ (z : (map w).0.0 ≡ P.zero). inl (sym (values_back o L w.0 (num_is w h))
            ∙ ap (λ (u : Poly F.cring). values o L u.0) (sym (num_path w h) ∙ z) ∙ zero_values))
            (λ (l : degree (map w).0.0.0 ≤ degree (map w).0.1.0). inr (omega arith)),
        ⊎_elim
            (λ (z : w.0 ≡ []). inl (num_path w h ∙ ap poly z ∙ polynomial_of-nil o L))
            (λ (l : degree w.0 ≤ degree w.1). inr (omega arith)),
      )

  -- the polynomial of a place
  degree_values : (u : Poly F.cring) → degree (values o L u.0) ≡ degree u.0
  degree_values u = sym (degree-polynomial_of o L (values o L u.0) (IsPolynomialList-values o L u))
      ∙ ap (λ (t : Poly F.cring). degree t.0) (polynomial_of-values o L u)

  finite_place : (m : List E) → IsMonicIrreducible o m → rational.IsPlace F (Finite (poly m))
  finite_place m s =
      let hm = s.polynomial in
      let d = degree-polynomial_of o L m hm in
      let l = degree_le_length F.cring (poly m) in
      let g = s.positive in (
        record {
          nonzero = omega arith;
          leading = Elem-path o (lead F.cring (poly m)) F.one (sym (lead_value o L m hm) ∙ s.monic);
        },
        record {
          positive = omega arith;
          no_factors = λ a b la lb e.
              let da = degree_values a in
              let db = degree_values b in
              s.no_factors (values o L a.0) (values o L b.0) (IsPolynomialList-values o L a)
              (IsPolynomialList-values o L b) (omega arith) (omega arith)
              (coefficients_of_eq o L (poly m) (P.◌⊗◌ a b) (at o m)
              (convolution_of o (at o (values o L a.0)) (at o (values o L b.0)))
              (has_polynomial_of o L m hm.over)
              (has-mul o L a b (at o (values o L a.0)) (at o (values o L b.0)) (at-values o L a.0)
              (at-values o L b.0)) e);
        },
      )

  abbrev pub place_of : PlaceOf (List E) → PlaceOf (Poly F.cring)
  place_of (Finite m) = Finite (poly m)
  place_of Infinite = Infinite

  pub is_place_of : (place : PlaceOf (List E)) → IsPlace o place → rational.IsPlace F (place_of place)
  is_place_of (Finite m) s = finite_place m s
  is_place_of Infinite s = tt

  pub integral_at : (place : PlaceOf (List E)) → IsPlace o place → (w : Pair E) → Frac w
      → rational.IsIntegralAt F (place_of place) (map w) ↔ IsIntegralAt o place w
  integral_at (Finite m) s = integral_off m s.polynomial
  integral_at Infinite s = integral_infinity

  -- ---- uniformizers

  one_list : IsPolynomialList o (o.one ∷ [])
  one_list = record { over = All-cons (IsElem o) o.one [] L.one-elem (All-nil (IsElem o)); trimmed = L.one-nonzero }

  unfoldable pub x_list : List E
  x_list = o.zero ∷ o.one ∷ []

  x_is : IsPolynomialList o x_list
  unfolding x_list
  x_is = record { over = All-cons (IsElem o) o.zero (o.one ∷ []) L.zero-elem one_list.over; trimmed = L.one-nonzero }

  pub x_poly : poly x_list ≡ variable F.cring F.zero_test
  unfolding x_list
  x_poly = Poly-path F.cring (poly x_list) T
      (λ k. Elem-path o (coefficient F.cring (poly x_list) k) (coefficient F.cring T k)
      (sym (has_polynomial_of o L x_list x_is.over k) ∙ each k
      ∙ ap (λ (t : Elem o). t.0) (sym (coefficient-variable F.cring F.zero_test k))))
    where
      T : Poly F.cring
      T = variable F.cring F.zero_test

      each : (k : ℕ) → at o (o.zero ∷ o.one ∷ []) k ≡ (series_prepend F.zero (constant_coefficients F.zero F.one) k).0
      each zero = refl
      each (suc zero) = refl
      each (suc (suc k)) = refl

  pub uniformizer_frac : (place : PlaceOf (List E)) → IsPlace o place → Frac (uniformizer_at o place)
  unfolding x_list
  uniformizer_frac (Finite m) s =
      elem_of_lowest o L (m, o.one ∷ []) (lowest_over_one o L m s.polynomial)
  uniformizer_frac Infinite s = elem_of_lowest o L (o.one ∷ [], x_list)
      (lowest_of_monic o L (o.one ∷ []) x_list one_list x_is (λ e. let f = ap length e in omega arith) refl
      (coprime_of_constant_left o L (o.one ∷ []) x_list one_list refl))

  abbrev H : IsFractionField P (IsLowest F.cring P) Q
  H = is_rational_functions F

  abbrev X : Rational F
  X = power_of_x F 1

  abbrev T : Poly F.cring
  T = variable F.cring F.zero_test

  -- a polynomial over 1
  pub over_one_path : (m : List E) → Frac (m, o.one ∷ []) → map (m, o.one ∷ []) ≡ of_polynomial F (poly m)
  over_one_path m h =
      let w : Pair E = (m, o.one ∷ []) in
      eq_of_value P (IsLowest F.cring P) (polynomial_reduction F) Q H (map w) (poly m)
      (ap (λ t. P.◌⊗◌ t P.one) (num_path w h)
      ∙ ap (P.◌⊗◌ (poly m)) (sym (den_path w h ∙ polynomial_of-one o L)))

  pub uniformizer_path : (place : PlaceOf (List E)) → IsPlace o place
      → map (uniformizer_at o place) ≡ rational.uniformizer_at F Q (place_of place)
  unfolding x_list
  uniformizer_path (Finite m) s = over_one_path m (uniformizer_frac (Finite m) s)
  uniformizer_path Infinite s =
      let w : Pair E = (o.one ∷ [], x_list) in
      let h = uniformizer_frac Infinite s in
      let t1 = power P.ring T 1 in
      let ht : T ≢ P.zero = irreducible-ne-zero F T (variable_place F Q H).1 in
      value_unique P (IsLowest F.cring P) (polynomial_reduction F) (map w) (Q.inv X) P.one T P.one t1 ht
      (λ e. ht (sym (P.mul-one T) ∙ e))
      (ap₂ P.◌⊗◌ (num_path w h ∙ polynomial_of-one o L) (sym (den_path w h ∙ x_poly)))
      (inv_value F Q H X t1 P.one (fraction_of_value P (IsLowest F.cring P) (polynomial_reduction F) t1) (x_ne F Q H))
      (ap (P.◌⊗◌ P.one) (P.mul-one T))

  module _ (M : FieldLaws (fraction_ops o L)) where
    abbrev K : FieldOn (Elem (fraction_ops o L))
    K = fractions o L M

    abbrev h : Elem (fraction_ops o L) → Rational F
    h a = map a.0

    abbrev R : FractionsAreRational o L M
    R = fractions_are_rational o L M

    hom : IsRingHom K.ring Q.ring h
    hom = R.hom

    abbrev back : Rational F → Elem (fraction_ops o L)
    back x = (pair_of o L x, R.element x)

    module _ (place : PlaceOf (List E)) (s : IsPlace o place) where
      abbrev V : rational.PlaceValuation F Q (place_of place)
      V = place_valuation F Q H (place_of place) (is_place_of place s)

      abbrev u : Rational F
      u = rational.uniformizer_at F Q (place_of place)

      abbrev Z : ValuationOn K
      Z = pulled K Q h hom V.valuation

      tells : (a : Elem (fraction_ops o L)) → IsTrue (Z.integral a) ↔ IsIntegralAt o place a.0
      tells a =
          let e = V.tells (h a) in
          let f = integral_at place s a.0 a.1 in
          (λ i. f.0 (e.0 i), λ i. e.1 (f.1 i))

      -- the inverse of what goes to the uniformizer
      nonzero : (p : Elem (fraction_ops o L)) → h p ≡ u → p ≢ K.zero
      nonzero p e z = Q.one-nonzero (let w = V.uniformizer in
          sym w.pq ∙ ap (λ t. Q.◌⊗◌ t (Q.inv u)) (sym e ∙ ap h z ∙ h-zero K Q h hom V.valuation)
          ∙ zero-mul Q.ring (Q.inv u))

      pub inverse_path : (p : Elem (fraction_ops o L)) → h p ≡ u → h (K.inv p) ≡ Q.inv u
      inverse_path p e = h-inv K Q h hom V.valuation p (nonzero p e) ∙ ap Q.inv e

      pub fraction_place : FractionPlaceValuation o L M place
      fraction_place =
          let p : Elem (fraction_ops o L) = (uniformizer_at o place, uniformizer_frac place s) in
          let e : h p ≡ u = uniformizer_path place s in
          record {
            valuation = Z;
            tells = tells;
            p = p;
            p_is = refl;
            uniformizer = pulled_uniformizer K Q h hom V.valuation p (K.inv p) (mul-inv K p (nonzero p e))
                (subst (λ t. UniformizerOn Q V.valuation (h p) t) (sym (inverse_path p e))
                (subst (λ t. UniformizerOn Q V.valuation t (Q.inv u)) (sym e) V.uniformizer));
            not_unit = λ i. V.not_unit (subst (IsIntegral Q V.valuation) (inverse_path p e) i);
          }

      -- the residue field of the rational functions
      pub fraction_residue : {A : Type 0} (k : FieldOn A) → ResidueOn Q V.valuation (Q.inv u) k
          → (W : FractionPlaceValuation o L M place) → ResidueOn K W.valuation (K.inv W.p) k
      fraction_residue k D W =
          let e : h W.p ≡ u = ap map W.p_is ∙ uniformizer_path place s in
          let B : ResidueOn Q V.valuation (h (K.inv W.p)) k =
          subst (λ t. ResidueOn Q V.valuation t k) (sym (inverse_path W.p e)) D in
          residue_at K Z W.valuation (K.inv W.p) k
          (λ a. (λ i. (W.tells a).1 ((tells a).0 i), λ i. (tells a).1 ((W.tells a).0 i)))
          (pulled_residue K Q h hom V.valuation k (K.inv W.p) back R.function B)

    pub fraction_places : FractionPlacesAreValuationRings o L M
    fraction_places place s = fraction_place place s

    pub finite_fraction_residues : FractionFiniteResidues o L M
    finite_fraction_residues m s W k I =
        let V = place_valuation F Q H (Finite (poly m)) (is_place_of (Finite m) s) in
        let D = finite_residues F Q H (poly m) (is_place_of (Finite m) s) V k I in
        fraction_residue (Finite m) s k D.residue W

    pub infinite_fraction_residue : FractionInfiniteResidue o L M
    infinite_fraction_residue W =
        let V = place_valuation F Q H Infinite tt in
        let D = infinite_residues F Q H V in
        fraction_residue Infinite tt F D.residue W
