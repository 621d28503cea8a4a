-- The fraction with 1/x put for x: there is such an automorphism of fractions as pairs of lists, and it is the quotient
-- of the polynomials with the coefficients in the other order.
use Rattle.std.specs.Prelude.{◌≡◌, ◌≢◌, ◌≤◌, ℕ, List, [], ◌∷◌, length}
use Rattle.std.proofs.Common.{refl, sym, ◌∙◌, ap, ap₂, subst, arith, ⊎_elim}
use Rattle.std.proofs.lemmas.List.Elements.{All-nil, All-cons, All-head}
use Rattle.theory_rings.specs.Ring.{FieldOn, CommRingOn}
use Rattle.theory_rings.specs.Ops.{Ops, IsElem, FieldLaws}
use Rattle.theory_rings.specs.Elements.{Elem, Elem-path, elements}
use Rattle.theory_rings.specs.Homomorphism.{IsRingHom}
use Rattle.theory_rings.specs.Division.{IsIrreducible}
use Rattle.theory_rings.specs.Fraction.{IsFractionField, IsLowest, IsValue}
use Rattle.theory_rings.specs.Polynomial.{Poly}
use Rattle.theory_rings.proofs.Rings.ZeroTests.{eq_zero_or}
use Rattle.theory_rings.proofs.Rings.Fields.{mul_left_cancel}
use Rattle.theory_rings.proofs.Rings.Homomorphisms.{map-zero, comp_hom}
use Rattle.theory_rings.proofs.Rings.Solver.{◌⊠◌, unit, ring2, ring3}
use Rattle.theory_rings.proofs.Polynomials.Constants.{variable, constant-zero}
use Rattle.theory_rings.proofs.Polynomials.Bezout.{field_polynomials, poly_one-ne-zero}
use Rattle.theory_rings.proofs.Fractions.Fractions.{fraction_of_value, value_unique}
use Rattle.theory_rings.proofs.Fractions.Lowest.{polynomial_reduction, rational_functions, is_rational_functions}
use Rattle.theory_lattices.specs.RationalFunctions.{Rational, of_polynomial, of_constant, power_of_x}
use Rattle.theory_lattices.proofs.Degree.FractionDegrees.{of_hom, of-ne-zero}
use Rattle.theory_fractions.specs.PolynomialLists.{IsPolynomialList}
use Rattle.theory_fractions.specs.Fraction.{Pair, IsFraction}
use Rattle.theory_fractions.specs.FractionOps.{polynomial_of, rational_function, pair_of, fraction_ops}
use Rattle.theory_fractions.specs.FractionLaws.{FractionsAreRational}
use Rattle.theory_fractions.specs.CommonDenominator.{as_fraction}
use Rattle.theory_fractions.proofs.FractionField.{fraction_laws, is_fraction-parts, rational_function_eq}
use Rattle.theory_fractions.proofs.ListPolynomials.{is_polynomial-gives}
use Rattle.theory_fractions.proofs.PolynomialFractions.{as_fraction-elem}
use Rattle.theory_fractions.proofs.RationalFractions.{fractions_are_rational}
use Rattle.theory_fractions.proofs.Reducing.{eq_of_fraction}
use Rattle.theory_remainders.proofs.IrreducibleLists.{irreducible_list}
use Rattle.theory_places.specs.Places.{Finite, Infinite}
use Rattle.theory_places.specs.Places as rational
use Rattle.theory_places.specs.FractionPlaces.{IsPlace, IsIntegralAt, uniformizer_at}
use Rattle.theory_places.specs.PlaceLaws.{HasSwap}
use Rattle.theory_places.proofs.Rationals.{low}
use Rattle.theory_places.proofs.PlaceResidues.{has_swap}
use Rattle.theory_places.proofs.FractionPlaces.{x_list, x_poly, uniformizer_frac, uniformizer_path, over_one_path}
use Rattle.theory_places.proofs.FractionPlaces.{integral_at}
use Rattle.theory_swaps.specs.Involutions.{IsInvolution, AreImages}
use Rattle.theory_swaps.specs.FractionSwaps.{place_x, IsFractionSwap, HasFractionSwap, InfinityIsThePlaceX}
use Rattle.theory_swaps.proofs.MappedTuples.{h, hom}
use Rattle.theory_swaps.proofs.CarriedAlgebras.{involutions_carry_algebras}
use Rattle.theory_swaps.proofs.CarriedLattices.{involutions_carry_lattices, involutions_carry_orders}
use Rattle.theory_swaps.proofs.Extended.{extend, extend-elem, extend_is}
use Rattle.theory_swaps.proofs.ReversedPolynomials.{turn, turn-over, val, val-nil, val-single, turned_quotient}

module _ {E : Type 0} (o : Ops E) (L : FieldLaws o) where
  abbrev F : FieldOn (Elem o)
  F = elements o L

  abbrev P : CommRingOn (Poly F.cring)
  P = field_polynomials F

  abbrev Q : FieldOn (Rational F)
  Q = rational_functions F

  abbrev H : IsFractionField P (IsLowest F.cring P) Q
  H = is_rational_functions F

  abbrev k : Ops (Pair E)
  k = fraction_ops o L

  abbrev M : FieldLaws k
  M = fraction_laws o L

  abbrev K : FieldOn (Elem k)
  K = elements k M

  abbrev R : FractionsAreRational o L M
  R = fractions_are_rational o L M

  abbrev rat : Pair E → Rational F
  rat = rational_function o L

  abbrev X : Rational F
  X = power_of_x F 1

  -- to the fractions and back
  abbrev back : Rational F → Elem k
  back x = (pair_of o L x, R.element x)

  same : (a b : Elem k) → rat a.0 ≡ rat b.0 → a ≡ b
  same a b e = Elem-path k a b (sym (R.pair a) ∙ ap (pair_of o L) e ∙ R.pair b)

  back_hom : IsRingHom Q.ring K.ring back
  back_hom = record {
    map-one = same (back Q.one) K.one (R.function Q.one ∙ sym R.hom.map-one);
    map-add = λ x y. same (back (Q.◌⊕◌ x y)) (K.◌⊕◌ (back x) (back y))
        (R.function (Q.◌⊕◌ x y)
        ∙ sym (R.hom.map-add (back x) (back y) ∙ ap₂ Q.◌⊕◌ (R.function x) (R.function y)));
    map-mul = λ x y. same (back (Q.◌⊗◌ x y)) (K.◌⊗◌ (back x) (back y))
        (R.function (Q.◌⊗◌ x y)
        ∙ sym (R.hom.map-mul (back x) (back y) ∙ ap₂ Q.◌⊗◌ (R.function x) (R.function y)));
  }

  -- ---- the place x

  x_is : IsPolynomialList o (o.zero ∷ o.one ∷ [])
  x_is = record {
    over = All-cons (IsElem o) o.zero (o.one ∷ []) L.zero-elem
        (All-cons (IsElem o) o.one [] L.one-elem (All-nil (IsElem o)));
    trimmed = L.one-nonzero;
  }

  x_variable : polynomial_of o L (o.zero ∷ o.one ∷ []) ≡ variable F.cring F.zero_test
  unfolding x_list
  x_variable = x_poly o L

  abbrev W : HasSwap F Q
  W = has_swap F Q H

  pub x_place : IsPlace o (place_x o)
  x_place = record {
    irreducible = irreducible_list o L (o.zero ∷ o.one ∷ []) x_is
        (subst (IsIrreducible F.cring P) (sym x_variable) (let p = W.place in p.1));
    monic = refl;
  }

  abbrev x : Pair E
  x = uniformizer_at o (place_x o)

  x_frac : IsElem k x
  x_frac = uniformizer_frac o L (place_x o) x_place

  abbrev y : Pair E
  y = uniformizer_at o Infinite

  y_frac : IsElem k y
  y_frac = uniformizer_frac o L Infinite tt

  x_path : rat x ≡ X
  x_path = uniformizer_path o L (place_x o) x_place ∙ ap (of_polynomial F) x_variable
      ∙ ap (of_polynomial F) (sym (P.mul-one (variable F.cring F.zero_test)))

  y_path : rat y ≡ Q.inv X
  y_path = uniformizer_path o L Infinite tt

  -- ---- the map

  abbrev t : Elem k → Elem k
  t a = back (W.swap (rat a.0))

  t_hom : IsRingHom K.ring K.ring t
  t_hom = let w = W.is_swap in
      comp_hom K.ring Q.ring K.ring (λ a. W.swap (rat a.0)) back
      (comp_hom K.ring Q.ring Q.ring (λ a. rat a.0) W.swap R.hom w.hom) back_hom

  t_twice : (a : Elem k) → t (t a) ≡ a
  t_twice a = let w = W.is_swap in same (t (t a)) a
      (R.function (W.swap (rat (t a).0)) ∙ ap W.swap (R.function (W.swap (rat a.0))) ∙ w.twice (rat a.0))

  pub swap : Pair E → Pair E
  swap = extend k t

  rat-swap : (a : Pair E) → IsElem k a → rat (swap a) ≡ W.swap (rat a)
  unfolding swap
  rat-swap a e = ap rat (extend-elem k t a e) ∙ R.function (W.swap (rat a))

  swap_is : IsInvolution k swap
  unfolding swap
  swap_is = extend_is k t M t_hom t_twice

  -- the value of a map of fractions
  value : (a b : Pair E) → IsElem k a → IsElem k b → rat (swap a) ≡ rat b → swap a ≡ b
  value a b ha hb e = ap (λ (x : Elem k). x.0) (same (swap a, swap_is.elem a ha) (b, hb) e)

  constant_value : (c : List E) → IsPolynomialList o c → length c ≤ 1 → W.swap (val o L c) ≡ val o L c
  constant_value [] h l = let w = W.is_swap in ap W.swap (val-nil o L) ∙ map-zero Q.ring Q.ring W.swap w.hom
      ∙ sym (val-nil o L)
  constant_value (c ∷ []) h l =
      let w = W.is_swap in
      let hc : IsElem o c = All-head (IsElem o) c [] h.over in
      ap W.swap (val-single o L c hc) ∙ w.constants (c, hc) ∙ sym (val-single o L c hc)
  constant_value (c ∷ d ∷ cs) h l = absurd (omega arith)

  integral_images : AreImages k swap (IsIntegralAt o Infinite) (IsIntegralAt o (place_x o))
  integral_images a h =
      let w = W.is_swap in
      let i = integral_at o L Infinite tt a h in
      let j = integral_at o L (place_x o) x_place (swap a) (swap_is.elem a h) in
      let f = w.from_infinity (rat a) in
      let to : rational.IsIntegralAt F (Finite (variable F.cring F.zero_test)) (W.swap (rat a))
      → rational.IsIntegralAt F (Finite (polynomial_of o L (o.zero ∷ o.one ∷ []))) (rat (swap a)) =
      λ z. subst (λ m. rational.IsIntegralAt F (Finite m) (rat (swap a))) (sym x_variable)
      (subst (rational.IsIntegralAt F (Finite (variable F.cring F.zero_test))) (sym (rat-swap a h)) z) in
      let from : rational.IsIntegralAt F (Finite (polynomial_of o L (o.zero ∷ o.one ∷ []))) (rat (swap a))
      → rational.IsIntegralAt F (Finite (variable F.cring F.zero_test)) (W.swap (rat a)) =
      λ z. subst (rational.IsIntegralAt F (Finite (variable F.cring F.zero_test))) (rat-swap a h)
      (subst (λ m. rational.IsIntegralAt F (Finite m) (rat (swap a))) x_variable z) in (
        λ z. j.0 (to (f.0 (i.1 z))),
        λ z. i.0 (f.1 (from (j.1 z))),
      )

  pub has_fraction_swap : HasFractionSwap o L
  has_fraction_swap = record {
    place = x_place;
    swap = swap;
    is_swap = record {
      involution = swap_is;
      constants = λ c h l.
          let e : IsElem k (as_fraction o c) = as_fraction-elem o L c h in
          let p = over_one_path o L c e in
          value (as_fraction o c) (as_fraction o c) e e
          (rat-swap (as_fraction o c) e ∙ ap W.swap p ∙ constant_value c h l ∙ sym p);
      variable = let w = W.is_swap in
          value x y x_frac y_frac (rat-swap x x_frac ∙ ap W.swap x_path ∙ w.variable ∙ sym y_path);
      integral = integral_images;
    };
  }

  pub infinity_is_the_place_x : InfinityIsThePlaceX o L
  infinity_is_the_place_x s S =
      let P = IsIntegralAt o Infinite in
      let X = IsIntegralAt o (place_x o) in
      record {
        algebras = involutions_carry_algebras k M s S.involution;
        lattices = involutions_carry_lattices k M s P X S.involution S.integral;
        orders = involutions_carry_orders k M s P X S.involution S.integral;
      }

  -- ---- values

  abbrev Is : Rational F → Poly F.cring → Poly F.cring → Type 0
  Is = IsValue P (IsLowest F.cring P)

  abbrev of : Poly F.cring → Rational F
  of = of_polynomial F

  abbrev homs : IsRingHom P.ring Q.ring of
  homs = of_hom P (IsLowest F.cring P) (polynomial_reduction F) Q H

  module _ (w : Pair E) (e : IsElem k w) where
    den-ne : polynomial_of o L w.1 ≢ P.zero
    unfolding fraction_ops
    den-ne z = low F Q H (rat w) (ap (λ (x : Rational F). x.0.1) (rational_function_eq o L w e) ∙ z)

    pub den_val-ne : val o L w.1 ≢ Q.zero
    den_val-ne = of-ne-zero P (IsLowest F.cring P) (polynomial_reduction F) Q H (polynomial_of o L w.1) den-ne

    own : Is (rat w) (polynomial_of o L w.0) (polynomial_of o L w.1)
    unfolding fraction_ops
    own = let p = rational_function_eq o L w e in
        ap (λ (x : Rational F). P.◌⊗◌ x.0.0 (polynomial_of o L w.1)) p
        ∙ ap (λ (x : Rational F). P.◌⊗◌ (polynomial_of o L w.0) x.0.1) (sym p)

    -- the fraction times its denominator is its numerator
    pub cleared : Q.◌⊗◌ (rat w) (val o L w.1) ≡ val o L w.0
    cleared =
        let u = polynomial_of o L w.0 in
        let v = polynomial_of o L w.1 in
        value_unique P (IsLowest F.cring P) (polynomial_reduction F) (Q.◌⊗◌ (rat w) (of v)) (of u)
        (P.◌⊗◌ u v) (P.◌⊗◌ v P.one) u P.one
        (λ z. den-ne (sym (P.mul-one v) ∙ z)) (poly_one-ne-zero F)
        (H.mul_value (rat w) (of v) u v v P.one own
        (fraction_of_value P (IsLowest F.cring P) (polynomial_reduction F) v))
        (fraction_of_value P (IsLowest F.cring P) (polynomial_reduction F) u)
        (ring2 P (λ u v. ((u ⊠ v) ⊠ unit, u ⊠ (v ⊠ unit))) refl u v)

    pub num_list : IsPolynomialList o w.0
    unfolding fraction_ops
    num_list = is_polynomial-gives o L w.0 (is_fraction-parts o L w e).0

    pub den_list : IsPolynomialList o w.1
    unfolding fraction_ops
    den_list = is_polynomial-gives o L w.1 (is_fraction-parts o L w e).1

  module _ (s : Pair E → Pair E) (S : IsFractionSwap o L s) where
    abbrev I : IsInvolution k s
    I = S.involution

    abbrev sr : Rational F → Rational F
    sr z = rat (s (pair_of o L z))

    sr_hom : IsRingHom Q.ring Q.ring sr
    sr_hom = comp_hom Q.ring K.ring Q.ring (λ z. h k M s I (back z)) (λ a. rat a.0)
        (comp_hom Q.ring K.ring K.ring back (h k M s I) back_hom (hom k M s I)) R.hom

    sr-rat : (a : Pair E) → IsElem k a → sr (rat a) ≡ rat (s a)
    sr-rat a e = ap (λ z. rat (s z)) (R.pair (a, e))

    sr-constant : (a : Elem o) → sr (of_constant F a) ≡ of_constant F a
    sr-constant a = ⊎_elim
        (λ (z : a ≡ F.zero).
        let e : of_constant F a ≡ Q.zero = ap (of_constant F) z
        ∙ ap of (constant-zero F.cring F.zero_test) ∙ map-zero P.ring Q.ring of homs in
        ap sr e ∙ map-zero Q.ring Q.ring sr sr_hom ∙ sym e)
        (λ (n : a ≢ F.zero).
        let c : List E = a.0 ∷ [] in
        let hc : IsPolynomialList o c = record {
          over = All-cons (IsElem o) a.0 [] a.1 (All-nil (IsElem o));
          trimmed = λ z. n (Elem-path o a F.zero z);
        } in
        let e = as_fraction-elem o L c hc in
        let p : rat (as_fraction o c) ≡ of_constant F a = over_one_path o L c e ∙ val-single o L a.0 a.1 in
        ap sr (sym p) ∙ sr-rat (as_fraction o c) e ∙ ap rat (S.constants c hc (omega arith)) ∙ p)
        (eq_zero_or F.zero_test a)

    sr-variable : sr X ≡ Q.inv X
    sr-variable = ap sr (sym x_path) ∙ sr-rat x x_frac ∙ ap rat S.variable ∙ y_path

    -- the quotient of numerator and denominator with coefficients in the other order is the image
    pub turned_is : (w c : Pair E) → IsElem k w → IsElem k c → (n : ℕ) → length w.0 ≤ n → length w.1 ≤ n
        → IsFraction o c (turn o n w.0) (turn o n w.1) → c ≡ s w
    turned_is w c hw hc n l0 l1 f =
        let nw = num_list w hw in
        let dw = den_list w hw in
        let nc = num_list c hc in
        let dc = den_list c hc in
        let u = turn o n w.0 in
        let v = turn o n w.1 in
        let hu = turn-over o L n w.0 nw.over in
        let hv = turn-over o L n w.1 dw.over in
        let p = polynomial_of o L in
        let d = val o L c.1 in
        let q : Q.◌⊗◌ (val o L c.0) (val o L v) ≡ Q.◌⊗◌ (val o L u) d =
        sym (homs.map-mul (p c.0) (p v)) ∙ ap of (eq_of_fraction o L c u v nc.over dc.over hu hv f)
        ∙ homs.map-mul (p u) (p c.1) in
        let r : Q.◌⊗◌ (rat c) (val o L v) ≡ val o L u =
        mul_left_cancel Q d (Q.◌⊗◌ (rat c) (val o L v)) (val o L u) (den_val-ne c hc)
        (ring3 Q.cring (λ d a v. (d ⊠ (a ⊠ v), (a ⊠ d) ⊠ v)) refl d (rat c) (val o L v)
        ∙ ap (λ z. Q.◌⊗◌ z (val o L v)) (cleared c hc) ∙ q ∙ Q.mul_comm (val o L u) d) in
        ap (λ (x : Elem k). x.0) (same (c, hc) (s w, I.elem w hw)
        (turned_quotient o L sr sr_hom sr-constant sr-variable n w.0 w.1 nw.over dw.over l0 l1 (den_val-ne w hw)
        (rat w) (rat c) (cleared w hw) r ∙ sr-rat w hw))
