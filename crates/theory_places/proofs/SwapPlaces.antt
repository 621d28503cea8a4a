-- Putting 1/x for x: an automorphism of the field of fractions, which carries the place x to infinity.
use Rattle.std.specs.Prelude.{◌≡◌, ◌≢◌, ◌<◌, IsTrue, ◌↔◌, List, [], ◌∷◌, length}
use Rattle.std.proofs.Common.{refl, sym, ◌∙◌, ap, ap₂, subst, arith, ⊎_elim}
use Rattle.theory_rings.specs.Ring.{FieldOn, CommRingOn}
use Rattle.theory_rings.specs.Polynomial.{Poly, IsTrimmed, coefficient, degree}
use Rattle.theory_rings.specs.Division.{Divides}
use Rattle.theory_rings.specs.Evaluation.{evaluate}
use Rattle.theory_rings.specs.Power.{power}
use Rattle.theory_rings.specs.Homomorphism.{IsRingHom}
use Rattle.theory_rings.specs.Fraction.{IsFractionField, IsLowest, IsValue}
use Rattle.theory_rings.proofs.Rings.RingLaws.{add-zero, zero-mul, mul-zero, left_ne_zero_of_mul, right_ne_zero_of_mul}
use Rattle.theory_rings.proofs.Rings.Fields.{mul-inv, inv-ne-zero, mul_left_cancel, inv_mul_cancel_right}
use Rattle.theory_rings.proofs.Rings.Solver.{◌⊠◌, unit, ring2, ring3}
use Rattle.theory_rings.proofs.Rings.Homomorphisms.{map-zero, comp_hom}
use Rattle.theory_rings.proofs.Polynomials.PolynomialRing.{constant, IsTrimmed-tail, Poly-path, prepend, prepend-tail}
use Rattle.theory_rings.proofs.Polynomials.PolynomialRing.{coefficient-zero, coefficient-prepend}
use Rattle.theory_rings.proofs.Polynomials.Constants.{variable, prepend_eq, prepend-zero, constant-zero}
use Rattle.theory_rings.proofs.Polynomials.Constants.{degree-variable, coefficient-variable}
use Rattle.theory_rings.proofs.Polynomials.Degrees.{degree_le_length, ne_zero_of_length}
use Rattle.theory_rings.proofs.Polynomials.Evaluation.{evaluate_hom, evaluate-constant, evaluate-variable}
use Rattle.theory_rings.proofs.Polynomials.Evaluation.{evaluate-prepend}
use Rattle.theory_rings.proofs.Polynomials.Bezout.{field_polynomials, field_degree-mul, poly_mul-ne-zero}
use Rattle.theory_rings.proofs.Polynomials.Bezout.{poly_one-ne-zero}
use Rattle.theory_rings.proofs.Polynomials.Irreducible.{divides_or}
use Rattle.theory_rings.proofs.Fractions.Fractions.{fraction_of_value, value_unique}
use Rattle.theory_rings.proofs.Fractions.Lowest.{polynomial_reduction}
use Rattle.theory_spaces.specs.Valuation.{ValuationOn}
use Rattle.theory_orders.specs.Uniformizer.{IsUnit}
use Rattle.theory_lattices.specs.RationalFunctions.{Rational, of_polynomial, of_constant, power_of_x}
use Rattle.theory_lattices.proofs.Degree.FractionDegrees.{of_hom, of-ne-zero, rational_degree, rational_degree-is}
use Rattle.theory_lattices.proofs.Common.RationalMembers.{constants_hom}
use Rattle.theory_places.specs.Places.{Finite, Infinite, IsPlace, IsIntegralOff, IsIntegralAtInfinity, PlaceValuation}
use Rattle.theory_places.proofs.Rationals.{low}
use Rattle.theory_places.proofs.Quotients.{quotient_same, quotient_add, quotient_mul}
use Rattle.theory_places.proofs.PlaceValuations.{infinite_valuation, x_ne}
use Rattle.theory_places.proofs.InfiniteResidue.{res, res-lift, lift_in, map-add, res_lower, lower, q_x}

module _ {k : Type 0} (F : FieldOn k) (Q : FieldOn (Rational F))
    (H : IsFractionField (field_polynomials F) (IsLowest F.cring (field_polynomials F)) Q) where
  infixl 70 ◌⊗◌
  abbrev P : CommRingOn (Poly F.cring)
  P = field_polynomials F

  open Q use {◌⊗◌}

  abbrev D : Type 0
  D = Poly F.cring

  abbrev Is : Rational F → D → D → Type 0
  Is = IsValue P (IsLowest F.cring P)

  abbrev T : D
  T = variable F.cring F.zero_test

  abbrev X : Rational F
  X = power_of_x F 1

  -- 1/x
  abbrev Y : Rational F
  Y = Q.inv X

  abbrev h : k → Rational F
  h = of_constant F

  h_hom : IsRingHom F.ring Q.ring h
  h_hom = constants_hom F Q H (rational_degree F Q H) (rational_degree-is F Q H)

  -- the value at 1/x
  abbrev ev : D → Rational F
  ev = evaluate F.cring Q.cring h Y

  ev_hom : IsRingHom P.ring Q.ring ev
  ev_hom = evaluate_hom F.cring F.zero_test Q.cring h h_hom Y

  ev-prepend : (c : k) (a : D) → ev (prepend F.cring F.zero_test c a) ≡ Q.◌⊕◌ (h c) (Y ⊗ ev a)
  ev-prepend = evaluate-prepend F.cring F.zero_test Q.cring h h_hom Y

  ev-zero : ev P.zero ≡ Q.zero
  ev-zero = map-zero P.ring Q.ring ev ev_hom

  -- ---- values at 1/x are integral at infinity, and their residue is the constant term

  abbrev V : PlaceValuation F Q Infinite
  V = infinite_valuation F Q H

  abbrev Z : ValuationOn Q
  Z = V.valuation

  abbrev In : Rational F → Type 0
  In x = IsTrue (Z.integral x)

  y_in : In Y
  y_in = let u = V.uniformizer in u.p_in

  y_ne : Y ≢ Q.zero
  y_ne = inv-ne-zero Q X (x_ne F Q H)

  x_y : X ⊗ Y ≡ Q.one
  x_y = mul-inv Q X (x_ne F Q H)

  x-y : (a : Rational F) → X ⊗ (Y ⊗ a) ≡ a
  x-y a = sym (Q.mul_assoc X Y a) ∙ ap (λ t. t ⊗ a) x_y ∙ Q.one-mul a

  -- a polynomial is 0, or its constant term and the rest
  by_terms : (S : D → Type 0) → S P.zero → ((c : k) (a : D) → S a → S (prepend F.cring F.zero_test c a)) → (v : D) → S v
  by_terms S z s v = go v.0 v.1
    where
      go : (xs : List k) (t : IsTrimmed F.zero xs) → S (xs, t)
      go [] t = subst S (Poly-path F.cring P.zero ([], t) (λ k. coefficient-zero F.cring F.zero_test k)) z
      go (c ∷ xs) t = subst S (prepend-tail F.cring F.zero_test c xs t)
          (s c (xs, IsTrimmed-tail F.zero c xs t) (go xs (IsTrimmed-tail F.zero c xs t)))

  ev_in : (v : D) → In (ev v)
  ev_in = by_terms (λ v. In (ev v)) (subst In (sym ev-zero) Z.zero_in)
      (λ c a i. subst In (sym (ev-prepend c a))
      (Z.add_in (h c) (Y ⊗ ev a) (lift_in F Q H c) (Z.mul_in Y (ev a) y_in i)))

  -- what 1/x divides has the residue 0
  res-multiple : (a : Rational F) → In a → res F Q H (Y ⊗ a) ≡ F.zero
  res-multiple a i = res_lower F Q H (Y ⊗ a) (lower F Q H (Y ⊗ a) (subst In (sym (x-y a)) i))

  res-step : (c : k) (a : D) → res F Q H (ev (prepend F.cring F.zero_test c a)) ≡ c
  res-step c a =
      ap (res F Q H) (ev-prepend c a)
      ∙ map-add F Q H (h c) (Y ⊗ ev a) (lift_in F Q H c) (Z.mul_in Y (ev a) y_in (ev_in a))
      ∙ ap₂ F.◌⊕◌ (res-lift F Q H c) (res-multiple (ev a) (ev_in a)) ∙ add-zero F.monoid c

  res-zero : res F Q H Q.zero ≡ F.zero
  res-zero = res_lower F Q H Q.zero (lower F Q H Q.zero (subst In (sym (mul-zero Q.ring X)) Z.zero_in))

  -- a polynomial whose value at 1/x is 0 is 0
  ev-injective : (v : D) → ev v ≡ Q.zero → v ≡ P.zero
  ev-injective = by_terms (λ v. ev v ≡ Q.zero → v ≡ P.zero) (λ _. refl) step
    where
      step : (c : k) (a : D) → (ev a ≡ Q.zero → a ≡ P.zero)
          → ev (prepend F.cring F.zero_test c a) ≡ Q.zero → prepend F.cring F.zero_test c a ≡ P.zero
      step c a r e =
          let z : c ≡ F.zero = sym (res-step c a) ∙ ap (res F Q H) e ∙ res-zero in
          let f : Y ⊗ ev a ≡ Q.zero =
          sym (ev-prepend c a ∙ ap (λ t. Q.◌⊕◌ t (Y ⊗ ev a)) (ap h z ∙ map-zero F.ring Q.ring h h_hom)
          ∙ Q.zero-add (Y ⊗ ev a)) ∙ e in
          let g : ev a ≡ Q.zero = sym (x-y (ev a)) ∙ ap (λ t. X ⊗ t) f ∙ mul-zero Q.ring X in
          prepend_eq F.cring F.zero_test c a
          ∙ ap₂ P.◌⊕◌ (ap (constant F.cring F.zero_test) z ∙ constant-zero F.cring F.zero_test)
          (ap (P.◌⊗◌ T) (r g) ∙ mul-zero P.ring T)
          ∙ P.zero-add P.zero

  ev_ne : (v : D) → v ≢ P.zero → ev v ≢ Q.zero
  ev_ne v n e = n (ev-injective v e)

  -- ---- the map

  pub swap : Rational F → Rational F
  swap x = ev x.0.0 ⊗ Q.inv (ev x.0.1)

  swap_value : (x : Rational F) (u v : D) → Is x u v → v ≢ P.zero → swap x ≡ ev u ⊗ Q.inv (ev v)
  unfolding swap
  swap_value x u v e n = quotient_same Q (ev x.0.0) (ev x.0.1) (ev u) (ev v) (ev_ne x.0.1 (low F Q H x)) (ev_ne v n)
      (sym (ev_hom.map-mul x.0.0 v) ∙ ap ev e ∙ ev_hom.map-mul u x.0.1)

  over_one : (x : Rational F) (u : D) → Is x u P.one → swap x ≡ ev u
  over_one x u e = swap_value x u P.one e (poly_one-ne-zero F)
      ∙ ap (λ t. ev u ⊗ Q.inv t) ev_hom.map-one
      ∙ ap (λ t. ev u ⊗ t) (sym (Q.mul-one (Q.inv Q.one)) ∙ Q.inv-mul Q.one Q.one-nonzero) ∙ Q.mul-one (ev u)

  products : (a b : Rational F) → P.◌⊗◌ a.0.1 b.0.1 ≢ P.zero
  products a b = poly_mul-ne-zero F a.0.1 b.0.1 (low F Q H a) (low F Q H b)

  pub swap_hom : IsRingHom Q.ring Q.ring swap
  unfolding swap
  swap_hom = record {
    map-one = over_one Q.one P.one H.one_value ∙ ev_hom.map-one;
    map-add = λ a b.
        let l = P.◌⊗◌ a.0.0 b.0.1 in
        let r = P.◌⊗◌ b.0.0 a.0.1 in
        swap_value (Q.◌⊕◌ a b) (P.◌⊕◌ l r) (P.◌⊗◌ a.0.1 b.0.1)
        (H.add_value a b a.0.0 a.0.1 b.0.0 b.0.1 refl refl) (products a b)
        ∙ ap₂ (λ s t. s ⊗ Q.inv t)
        (ev_hom.map-add l r ∙ ap₂ Q.◌⊕◌ (ev_hom.map-mul a.0.0 b.0.1) (ev_hom.map-mul b.0.0 a.0.1))
        (ev_hom.map-mul a.0.1 b.0.1)
        ∙ quotient_add Q (ev a.0.0) (ev a.0.1) (ev b.0.0) (ev b.0.1)
        (ev_ne a.0.1 (low F Q H a)) (ev_ne b.0.1 (low F Q H b));
    map-mul = λ a b.
        swap_value (a ⊗ b) (P.◌⊗◌ a.0.0 b.0.0) (P.◌⊗◌ a.0.1 b.0.1)
        (H.mul_value a b a.0.0 a.0.1 b.0.0 b.0.1 refl refl) (products a b)
        ∙ ap₂ (λ s t. s ⊗ Q.inv t) (ev_hom.map-mul a.0.0 b.0.0) (ev_hom.map-mul a.0.1 b.0.1)
        ∙ quotient_mul Q (ev a.0.0) (ev a.0.1) (ev b.0.0) (ev b.0.1)
        (ev_ne a.0.1 (low F Q H a)) (ev_ne b.0.1 (low F Q H b));
  }

  abbrev of : D → Rational F
  of = of_polynomial F

  of_value : (u : D) → Is (of u) u P.one
  of_value u = fraction_of_value P (IsLowest F.cring P) (polynomial_reduction F) u

  of_is_hom : IsRingHom P.ring Q.ring of
  of_is_hom = of_hom P (IsLowest F.cring P) (polynomial_reduction F) Q H

  pub swap_constant : (c : k) → swap (h c) ≡ h c
  swap_constant c = over_one (h c) (constant F.cring F.zero_test c) (of_value (constant F.cring F.zero_test c))
      ∙ evaluate-constant F.cring F.zero_test Q.cring h h_hom Y c

  abbrev T1 : D
  T1 = power P.ring T 1

  pub swap_variable : swap X ≡ Y
  swap_variable = over_one X T1 (of_value T1) ∙ ap ev (P.mul-one T)
      ∙ evaluate-variable F.cring F.zero_test Q.cring h h_hom Y

  -- ---- twice the map

  abbrev twice : Rational F → Rational F
  twice x = swap (swap x)

  twice_hom : IsRingHom Q.ring Q.ring twice
  twice_hom = comp_hom Q.ring Q.ring Q.ring swap swap swap_hom swap_hom

  twice-variable : twice X ≡ X
  twice-variable = ap swap swap_variable ∙ mul_left_cancel Q Y (swap Y) X y_ne
      (ap (λ t. t ⊗ swap Y) (sym swap_variable) ∙ sym (swap_hom.map-mul X Y) ∙ ap swap x_y ∙ swap_hom.map-one
      ∙ sym (Q.mul_comm Y X ∙ x_y))

  twice-constant : (c : k) → twice (h c) ≡ h c
  twice-constant c = ap swap (swap_constant c) ∙ swap_constant c

  of_variable : of T ≡ X
  of_variable = ap of (sym (P.mul-one T))

  of-prepend : (c : k) (a : D) → of (prepend F.cring F.zero_test c a) ≡ Q.◌⊕◌ (h c) (X ⊗ of a)
  of-prepend c a =
      ap of (prepend_eq F.cring F.zero_test c a)
      ∙ of_is_hom.map-add (constant F.cring F.zero_test c) (P.◌⊗◌ T a)
      ∙ ap (Q.◌⊕◌ (h c)) (of_is_hom.map-mul T a ∙ ap (λ t. t ⊗ of a) of_variable)

  twice-of : (u : D) → twice (of u) ≡ of u
  twice-of = by_terms (λ u. twice (of u) ≡ of u)
      (let z = map-zero P.ring Q.ring of of_is_hom in
      ap twice z ∙ map-zero Q.ring Q.ring twice twice_hom ∙ sym z)
      (λ c a e. ap twice (of-prepend c a) ∙ twice_hom.map-add (h c) (X ⊗ of a)
      ∙ ap₂ Q.◌⊕◌ (twice-constant c) (twice_hom.map-mul X (of a) ∙ ap₂ (λ s t. s ⊗ t) twice-variable e)
      ∙ sym (of-prepend c a))

  -- the denominator takes an element to its numerator
  cleared : (x : Rational F) → of x.0.1 ⊗ x ≡ of x.0.0
  cleared x =
      let v = x.0.1 in
      value_unique P (IsLowest F.cring P) (polynomial_reduction F) (of v ⊗ x) (of x.0.0)
      (P.◌⊗◌ v x.0.0) (P.◌⊗◌ P.one v) x.0.0 P.one
      (λ e. low F Q H x (sym (P.one-mul v) ∙ e)) (poly_one-ne-zero F)
      (H.mul_value (of v) x v P.one x.0.0 v (of_value v) refl) (of_value x.0.0)
      (ring2 P (λ v u. ((v ⊠ u) ⊠ unit, u ⊠ (unit ⊠ v))) refl v x.0.0)

  pub swap_twice : (x : Rational F) → swap (swap x) ≡ x
  swap_twice x = mul_left_cancel Q (of x.0.1) (twice x) x
      (of-ne-zero P (IsLowest F.cring P) (polynomial_reduction F) Q H x.0.1 (low F Q H x))
      (ap (λ t. t ⊗ twice x) (sym (twice-of x.0.1)) ∙ sym (twice_hom.map-mul (of x.0.1) x)
      ∙ ap twice (cleared x) ∙ twice-of x.0.0 ∙ sym (cleared x))

  -- ---- the place x

  degree_t : degree T.0 ≡ 1
  degree_t = degree-variable F.cring F.zero_test F.one-nonzero

  t_length : 0 < length T.0
  t_length = let l = degree_le_length F.cring T in let e = degree_t in omega arith

  t_ne : T ≢ P.zero
  t_ne = ne_zero_of_length F.cring F.zero_test T t_length

  pub variable_place : IsPlace F (Finite T)
  variable_place = (
    record {
      nonzero = t_length;
      leading = ap (coefficient F.cring T) degree_t ∙ coefficient-variable F.cring F.zero_test 1;
    },
    record {
      positive = let e = degree_t in omega arith;
      no_factors = λ a b la lb e.
          let ha = left_ne_zero_of_mul P.ring a b (λ z. t_ne (e ∙ z)) in
          let hb = right_ne_zero_of_mul P.ring a b (λ z. t_ne (e ∙ z)) in
          let s = field_degree-mul F a b ha hb in
          let d = ap (λ (t : D). degree t.0) e in
          let f = degree_t in
          omega arith;
    },
  )

  res_value : (v : D) → res F Q H (ev v) ≡ coefficient F.cring v 0
  res_value = by_terms (λ v. res F Q H (ev v) ≡ coefficient F.cring v 0)
      (ap (res F Q H) ev-zero ∙ res-zero ∙ sym (coefficient-zero F.cring F.zero_test 0))
      (λ c a _. res-step c a ∙ sym (coefficient-prepend F.cring F.zero_test c a 0))

  divides_of_zero : (v : D) → coefficient F.cring v 0 ≡ F.zero → Divides P T v
  divides_of_zero = by_terms (λ v. coefficient F.cring v 0 ≡ F.zero → Divides P T v)
      (λ _. (P.zero, sym (zero-mul P.ring T)))
      (λ c a _ e. (
        a,
        ap (λ t. prepend F.cring F.zero_test t a) (sym (coefficient-prepend F.cring F.zero_test c a 0) ∙ e)
            ∙ sym (prepend-zero F.cring F.zero_test a) ∙ P.mul_comm T a,
      ))

  -- a value with a constant term is a unit at infinity
  unit_value : (v : D) → (Divides P T v → ⊥) → In (Q.inv (ev v))
  unit_value v off =
      let u = V.uniformizer in
      ⊎_elim
      (λ (m : In (Q.inv Y ⊗ ev v)). absurd (off (divides_of_zero v (sym (res_value v)
      ∙ res_lower F Q H (ev v) (lower F Q H (ev v) (subst (λ t. In (t ⊗ ev v)) (q_x F Q H) m))))))
      (λ (w : IsUnit Q Z (ev v)). w.1)
      (u.multiple_or_unit (ev v) (ev_in v))

  to_infinity : (a : Rational F) → IsIntegralOff F T a → In (swap a)
  to_infinity a w =
      let n : w.1 ≢ P.zero = λ e. w.3 (P.zero, e ∙ sym (zero-mul P.ring T)) in
      subst In (sym (swap_value a w.0 w.1 w.2 n)) (Z.mul_in (ev w.0) (Q.inv (ev w.1)) (ev_in w.0) (unit_value w.1 w.3))

  both : (a : Rational F) → In (swap a) → Divides P T a.0.1 → Divides P T a.0.0
  unfolding swap
  both a i d =
      let c : ev a.0.1 ≡ Y ⊗ ev d.0 =
      ap ev (d.1 ∙ P.mul_comm d.0 T) ∙ ev_hom.map-mul T d.0
      ∙ ap (λ t. t ⊗ ev d.0) (evaluate-variable F.cring F.zero_test Q.cring h h_hom Y) in
      let e : ev a.0.0 ≡ Y ⊗ (swap a ⊗ ev d.0) =
      sym (inv_mul_cancel_right Q (ev a.0.0) (ev a.0.1) (ev_ne a.0.1 (low F Q H a))) ∙ ap (λ t. swap a ⊗ t) c
      ∙ ring3 Q.cring (λ s y d. (s ⊠ (y ⊠ d), y ⊠ (s ⊠ d))) refl (swap a) Y (ev d.0) in
      divides_of_zero a.0.0 (sym (res_value a.0.0) ∙ ap (res F Q H) e
      ∙ res-multiple (swap a ⊗ ev d.0) (Z.mul_in (swap a) (ev d.0) i (ev_in d.0)))

  from_infinity : (a : Rational F) → In (swap a) → IsIntegralOff F T a
  from_infinity a i = ⊎_elim
      (λ (d : Divides P T a.0.1).
      let z = a.1.coprime T (both a i d) d in let e = degree_t in absurd (omega arith))
      (λ (o : Divides P T a.0.1 → ⊥). (a.0.0, a.0.1, refl, o))
      (divides_or F T a.0.1 t_ne)

  pub swap_place : (a : Rational F) → IsIntegralOff F T a ↔ IsIntegralAtInfinity F (swap a)
  swap_place a = let t = V.tells (swap a) in (λ h. t.0 (to_infinity a h), λ h. from_infinity a (t.1 h))
