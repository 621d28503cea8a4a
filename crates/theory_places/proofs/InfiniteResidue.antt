-- The residue field at infinity: the constants, by the coefficients of the numerator at the degree of the denominator.
use Rattle.std.specs.Prelude.{◌≡◌, ◌≢◌, ℕ, ◌+◌, ◌<◌, ◌≤◌, IsTrue, ◌⊎◌, pos, ◌-ℤ◌, ◌<ℤ◌}
use Rattle.std.proofs.Common.{refl, sym, ◌∙◌, ap, ap₂, subst, arith, inl, inr, ⊎_elim}
use Rattle.std.proofs.lemmas.Bool.{cases_lt}
use Rattle.std.proofs.lemmas.Int.{ints}
use Rattle.theory_rings.specs.Ring.{FieldOn, CommRingOn}
use Rattle.theory_rings.specs.Polynomial.{Poly, IsMonic, coefficient, lead, degree}
use Rattle.theory_rings.specs.Fraction.{IsFractionField, IsLowest, IsValue}
use Rattle.theory_rings.proofs.Rings.RingLaws.{mul-zero}
use Rattle.theory_rings.proofs.Polynomials.PolynomialRing.{constant, coefficient-zero, coefficient-add, coefficient-mul}
use Rattle.theory_rings.proofs.Polynomials.PolynomialRing.{coefficient-constant}
use Rattle.theory_rings.proofs.Polynomials.Degrees.{coefficient_above, convolution-top, convolution_above, lead-ne-zero}
use Rattle.theory_rings.proofs.Polynomials.Degrees.{length_pos}
use Rattle.theory_rings.proofs.Polynomials.Bezout.{field_polynomials, field_degree-mul, field_lead-mul}
use Rattle.theory_rings.proofs.Polynomials.Bezout.{poly_mul-ne-zero, poly_one-ne-zero, degree-one}
use Rattle.theory_rings.proofs.Polynomials.Constants.{constant-one}
use Rattle.theory_rings.proofs.Polynomials.Degrees.{lead-constant, degree-constant, poly_eq_zero_or}
use Rattle.theory_rings.proofs.Fractions.Fractions.{fraction_of_value}
use Rattle.theory_rings.proofs.Fractions.Lowest.{IsMonic-ne-zero, polynomial_reduction}
use Rattle.theory_rings.proofs.Rings.ZeroTests.{eq_zero_or}
use Rattle.theory_spaces.specs.Valuation.{ValuationOn}
use Rattle.theory_lattices.specs.Degree.{DegreeOn, HasDegree}
use Rattle.theory_lattices.specs.RationalFunctions.{Rational, of_constant, power_of_x}
use Rattle.theory_lattices.proofs.Degree.FractionDegrees.{rational_degree, rational_degree-is}
use Rattle.theory_lattices.proofs.Degree.Degrees.{has_degree-mul, below_of_degree}
use Rattle.theory_lattices.proofs.Common.RationalMembers.{polynomials_of}
use Rattle.theory_places.specs.Places.{Infinite, PlaceValuation}
use Rattle.theory_residue.specs.Residue.{ResidueOn}
use Rattle.theory_places.proofs.Rationals.{inv_inv, zero_num, zero_of_num}
use Rattle.theory_places.proofs.Infinity.{x_degree}
use Rattle.theory_places.proofs.PlaceValuations.{at_infinity, infinite_valuation, x_ne}

module _ {k : Type 0} (F : FieldOn k) where
  infixl 70 ◌⊗◌
  abbrev R : CommRingOn k
  R = F.cring

  abbrev P : CommRingOn (Poly F.cring)
  P = field_polynomials F

  open P use {◌⊗◌}

  abbrev D : Type 0
  D = Poly F.cring

  abbrev cf : D → ℕ → k
  cf = coefficient R

  -- no coefficient past n
  abbrev pub Bounded : D → ℕ → Type 0
  Bounded u n = (j : ℕ) → n < j → cf u j ≡ F.zero

  top : (u v : D) (m n : ℕ) → Bounded u m → Bounded v n → cf (u ⊗ v) (m + n) ≡ F.◌⊗◌ (cf u m) (cf v n)
  top u v m n hu hv = coefficient-mul R F.zero_test u v (m + n) ∙ convolution-top R m n (cf u) (cf v) hu hv

  bounded-mul : (u v : D) (m n : ℕ) → Bounded u m → Bounded v n → Bounded (u ⊗ v) (m + n)
  bounded-mul u v m n hu hv j l = coefficient-mul R F.zero_test u v j ∙ convolution_above R m n (cf u) (cf v) hu hv j l

  bounded-add : (u v : D) (n : ℕ) → Bounded u n → Bounded v n → Bounded (P.◌⊕◌ u v) n
  bounded-add u v n hu hv j l = coefficient-add R F.zero_test u v j ∙ ap₂ F.◌⊕◌ (hu j l) (hv j l) ∙ F.zero-add F.zero

  bounded_monic : (v : D) → Bounded v (degree v.0)
  bounded_monic v = coefficient_above R v

  monic_mul : (a b : D) → IsMonic R a → IsMonic R b → IsMonic R (a ⊗ b)
  monic_mul a b h g =
      let na = IsMonic-ne-zero F a h in
      let nb = IsMonic-ne-zero F b g in
      record {
        nonzero = length_pos R F.zero_test (a ⊗ b) (poly_mul-ne-zero F a b na nb);
        leading = field_lead-mul F a b na nb ∙ ap₂ F.◌⊗◌ h.leading g.leading ∙ F.one-mul F.one;
      }

  degree_mul : (a b : D) → IsMonic R a → IsMonic R b → degree (a ⊗ b).0 ≡ degree a.0 + degree b.0
  degree_mul a b h g = field_degree-mul F a b (IsMonic-ne-zero F a h) (IsMonic-ne-zero F b g)

  monic_one : IsMonic R P.one
  monic_one = record {
    nonzero = length_pos R F.zero_test P.one (poly_one-ne-zero F);
    leading = ap (lead R) (sym (constant-one R F.zero_test)) ∙ lead-constant R F.zero_test F.one;
  }

  module _ (Q : FieldOn (Rational F)) (H : IsFractionField P (IsLowest R P) Q) where
    abbrev Is : Rational F → D → D → Type 0
    Is = IsValue P (IsLowest R P)

    abbrev X : Rational F
    X = power_of_x F 1

    abbrev V : PlaceValuation F Q Infinite
    V = infinite_valuation F Q H

    abbrev Z : ValuationOn Q
    Z = V.valuation

    abbrev In : Rational F → Type 0
    In x = IsTrue (Z.integral x)

    abbrev W : DegreeOn Q.ring
    W = rational_degree F Q H

    -- the coefficient of the numerator at the degree of the denominator
    abbrev pub res : Rational F → k
    res x = cf x.0.0 (degree x.0.1.0)

    bounded : (x : Rational F) → In x → Bounded x.0.0 (degree x.0.1.0)
    bounded x h = ⊎_elim
        (λ (e : x.0.0 ≡ P.zero). λ j l. ap (λ t. cf t j) e ∙ coefficient-zero R F.zero_test j)
        (λ (g : degree x.0.0.0 ≤ degree x.0.1.0). λ j l. coefficient_above R x.0.0 j (omega arith))
        ((V.tells x).0 h)

    res_value : (x : Rational F) (u v : D) → Is x u v → In x → Bounded u (degree v.0) → IsMonic R v
        → res x ≡ cf u (degree v.0)
    res_value x u v e h b m =
        let d = degree x.0.1.0 in
        let n = degree v.0 in
        let s : d + n ≡ n + d = omega arith in
        let left : cf (x.0.0 ⊗ v) (d + n) ≡ res x =
        top x.0.0 v d n (bounded x h) (bounded_monic v) ∙ ap (F.◌⊗◌ (res x)) m.leading ∙ F.mul-one (res x) in
        let monic = x.1.monic in
        let right : cf (u ⊗ x.0.1) (n + d) ≡ cf u n =
        top u x.0.1 n d b (bounded_monic x.0.1) ∙ ap (F.◌⊗◌ (cf u n)) monic.leading ∙ F.mul-one (cf u n) in
        sym left ∙ ap₂ cf e s ∙ right

    one_in : In Q.one
    one_in = Z.one_in

    map-one : res Q.one ≡ F.one
    map-one =
        res_value Q.one P.one P.one H.one_value one_in (bounded_monic P.one) monic_one ∙ monic_one.leading

    pub map-add : (a b : Rational F) → In a → In b → res (Q.◌⊕◌ a b) ≡ F.◌⊕◌ (res a) (res b)
    map-add a b ha hb =
        let v = a.0.1 ⊗ b.0.1 in
        let u = P.◌⊕◌ (a.0.0 ⊗ b.0.1) (b.0.0 ⊗ a.0.1) in
        let ma = a.1.monic in
        let mb = b.1.monic in
        let m = monic_mul a.0.1 b.0.1 ma mb in
        let da = degree a.0.1.0 in
        let db = degree b.0.1.0 in
        let e : degree v.0 ≡ da + db = degree_mul a.0.1 b.0.1 ma mb in
        let s : db + da ≡ da + db = omega arith in
        let one = top a.0.0 b.0.1 da db (bounded a ha) (bounded_monic b.0.1) in
        let two = top b.0.0 a.0.1 db da (bounded b hb) (bounded_monic a.0.1) in
        let f : Bounded (a.0.0 ⊗ b.0.1) (da + db) =
        bounded-mul a.0.0 b.0.1 da db (bounded a ha) (bounded_monic b.0.1) in
        let g : Bounded (b.0.0 ⊗ a.0.1) (db + da) =
        bounded-mul b.0.0 a.0.1 db da (bounded b hb) (bounded_monic a.0.1) in
        let g' : Bounded (b.0.0 ⊗ a.0.1) (da + db) = subst (Bounded (b.0.0 ⊗ a.0.1)) s g in
        let l : Bounded u (degree v.0) =
        subst (Bounded u) (sym e) (bounded-add (a.0.0 ⊗ b.0.1) (b.0.0 ⊗ a.0.1) (da + db) f g') in
        res_value (Q.◌⊕◌ a b) u v (H.add_value a b a.0.0 a.0.1 b.0.0 b.0.1 refl refl) (Z.add_in a b ha hb) l m
        ∙ ap (cf u) e
        ∙ coefficient-add R F.zero_test (a.0.0 ⊗ b.0.1) (b.0.0 ⊗ a.0.1) (da + db)
        ∙ ap₂ F.◌⊕◌
        (one ∙ ap (F.◌⊗◌ (res a)) mb.leading ∙ F.mul-one (res a))
        (ap (cf (b.0.0 ⊗ a.0.1)) (sym s) ∙ two ∙ ap (F.◌⊗◌ (res b)) ma.leading ∙ F.mul-one (res b))

    pub map-mul : (a b : Rational F) → In a → In b → res (Q.◌⊗◌ a b) ≡ F.◌⊗◌ (res a) (res b)
    map-mul a b ha hb =
        let v = a.0.1 ⊗ b.0.1 in
        let u = a.0.0 ⊗ b.0.0 in
        let ma = a.1.monic in
        let mb = b.1.monic in
        let da = degree a.0.1.0 in
        let db = degree b.0.1.0 in
        let e : degree v.0 ≡ da + db = degree_mul a.0.1 b.0.1 ma mb in
        let l : Bounded u (degree v.0) =
        subst (Bounded u) (sym e) (bounded-mul a.0.0 b.0.0 da db (bounded a ha) (bounded b hb)) in
        res_value (Q.◌⊗◌ a b) u v (H.mul_value a b a.0.0 a.0.1 b.0.0 b.0.1 refl refl) (Z.mul_in a b ha hb) l
        (monic_mul a.0.1 b.0.1 ma mb)
        ∙ ap (cf u) e ∙ top a.0.0 b.0.0 da db (bounded a ha) (bounded b hb)

    -- constants
    abbrev const : k → D
    const c = constant R F.zero_test c

    lift_value : (c : k) → Is (of_constant F c) (const c) P.one
    lift_value c = fraction_of_value P (IsLowest R P) (polynomial_reduction F) (const c)

    bounded_const : (c : k) → Bounded (const c) (degree P.one.0)
    bounded_const c j l = coefficient_above R (const c) j (let e = degree-constant R F.zero_test c in omega arith)

    pub lift_in : (c : k) → In (of_constant F c)
    lift_in c =
        let p = polynomials_of F Q H W (rational_degree-is F Q H) in
        let a = of_constant F c in
        ⊎_elim
        (λ (z : a ≡ Q.zero). subst In (sym z) Z.zero_in)
        (λ (h : HasDegree W (pos 0) a).
        (V.tells a).1 ((at_infinity F Q H a).0 (below_of_degree W (pos 0) (pos 1) a (omega (arith, ints)) h)))
        (p.ι-degree c)

    pub res-lift : (c : k) → res (of_constant F c) ≡ c
    res-lift c =
        res_value (of_constant F c) (const c) P.one (lift_value c) (lift_in c) (bounded_const c) monic_one
        ∙ ap (cf (const c)) (degree-one F) ∙ coefficient-constant R F.zero_test c 0

    degree-is : (x : Rational F) → W.deg x ≡ pos (degree x.0.0.0) -ℤ pos (degree x.0.1.0)
    degree-is = let E = rational_degree-is F Q H in E.degree-is

    -- where x · a is integral, and a not 0, the degree of a is below 0
    pub lower : (a : Rational F) → In (Q.◌⊗◌ X a) → (a.0.0 ≡ P.zero) ⊎ (degree a.0.0.0 < degree a.0.1.0)
    lower a h = ⊎_elim
        (λ (z : a ≡ Q.zero). inl (ap (λ (t : Rational F). t.0.0) z ∙ zero_num F Q H))
        (λ (n : a ≢ Q.zero).
        let g = has_degree-mul W (pos 1) (W.deg a) X a (x_degree F Q H) (record { nonzero = n; degree = refl }) in
        let e = g.degree in
        let d = degree-is a in
        ⊎_elim
        (λ (z : Q.◌⊗◌ X a ≡ Q.zero). absurd (g.nonzero z))
        (λ (l : W.deg (Q.◌⊗◌ X a) <ℤ pos 1). inr (omega (arith, ints)))
        ((at_infinity F Q H (Q.◌⊗◌ X a)).1 ((V.tells (Q.◌⊗◌ X a)).0 h)))
        (eq_zero_or Q.zero_test a)

    pub raise : (a : Rational F) → (a.0.0 ≡ P.zero) ⊎ (degree a.0.0.0 < degree a.0.1.0) → In (Q.◌⊗◌ X a)
    raise a h = ⊎_elim
        (λ (z : a ≡ Q.zero). subst In (sym (ap (Q.◌⊗◌ X) z ∙ mul-zero Q.ring X)) Z.zero_in)
        (λ (n : a ≢ Q.zero).
        let g = has_degree-mul W (pos 1) (W.deg a) X a (x_degree F Q H) (record { nonzero = n; degree = refl }) in
        let e = g.degree in
        let d = degree-is a in
        ⊎_elim
        (λ (z : a.0.0 ≡ P.zero). absurd (n (zero_of_num F Q H a z)))
        (λ (l : degree a.0.0.0 < degree a.0.1.0).
        let b : W.deg (Q.◌⊗◌ X a) <ℤ pos 1 = omega (arith, ints) in
        (V.tells (Q.◌⊗◌ X a)).1 ((at_infinity F Q H (Q.◌⊗◌ X a)).0 (inr b)))
        h)
        (eq_zero_or Q.zero_test a)

    abbrev q : Rational F
    q = Q.inv (Q.inv X)

    pub q_x : q ≡ X
    q_x = inv_inv Q X (x_ne F Q H)

    pub res_lower : (a : Rational F) → (a.0.0 ≡ P.zero) ⊎ (degree a.0.0.0 < degree a.0.1.0) → res a ≡ F.zero
    res_lower a (inl z) = ap (λ t. cf t (degree a.0.1.0)) z ∙ coefficient-zero R F.zero_test (degree a.0.1.0)
    res_lower a (inr l) = coefficient_above R a.0.0 (degree a.0.1.0) l

    pub lower_res : (a : Rational F) → In a → res a ≡ F.zero → (a.0.0 ≡ P.zero) ⊎ (degree a.0.0.0 < degree a.0.1.0)
    lower_res a h e = ⊎_elim
        (λ (z : a.0.0 ≡ P.zero). inl z)
        (λ (n : a.0.0 ≢ P.zero). ⊎_elim
        (λ (z : a.0.0 ≡ P.zero). inl z)
        (λ (g : degree a.0.0.0 ≤ degree a.0.1.0). ⊎_elim
        (λ (l : degree a.0.0.0 < degree a.0.1.0). inr l)
        (λ (l : degree a.0.1.0 ≤ degree a.0.0.0).
        let s : degree a.0.0.0 ≡ degree a.0.1.0 = omega arith in
        absurd (lead-ne-zero R F.zero_test a.0.0 n (ap (cf a.0.0) s ∙ e)))
        (cases_lt (degree a.0.0.0) (degree a.0.1.0)))
        ((V.tells a).0 h))
        (poly_eq_zero_or R F.zero_test a.0.0)

    pub infinite_residue : ResidueOn Q Z q F
    infinite_residue = record {
      res = res;
      lift = of_constant F;
      lift_in = lift_in;
      res-lift = res-lift;
      map-one = map-one;
      map-add = map-add;
      map-mul = map-mul;
      kernel = λ a h. (
        λ e. subst (λ t. In (Q.◌⊗◌ t a)) (sym q_x) (raise a (lower_res a h e)),
        λ g. res_lower a (lower a (subst (λ t. In (Q.◌⊗◌ t a)) q_x g)),
      );
    }

    pub infinite_residue-res : (x : Rational F) → infinite_residue.res x ≡ coefficient F.cring x.0.0 (degree x.0.1.0)
    unfolding infinite_residue
    infinite_residue-res x = refl
