-- The degree of polynomials over a field, and of fractions, from that of a ring without divisors of 0: that of the
-- numerator less that of the denominator.
use Rattle.std.specs.Prelude.{◌≡◌, pred, ◌<◌, List, [], ◌∷◌, length, ℤ, pos, negsuc, ◌+ℤ◌, ◌-ℤ◌, ◌<ℤ◌}
use Rattle.std.proofs.Common.{refl, sym, ◌∙◌, ap, subst, arith, ⊎_elim, inl, inr}
use Rattle.std.proofs.lemmas.Int.{ints}
use Rattle.theory_rings.specs.Ring.{CommRingOn, FieldOn}
use Rattle.theory_rings.specs.Polynomial.{Poly, degree}
use Rattle.theory_rings.specs.Homomorphism.{IsRingHom}
use Rattle.theory_rings.specs.Fraction.{Fraction, IsValue, IsFractionField, IsLowest}
use Rattle.theory_rings.proofs.Rings.RingLaws.{add-zero, zero-mul, neg_zero, neg_neg}
use Rattle.theory_rings.proofs.Rings.ZeroTests.{eq_zero_or}
use Rattle.theory_rings.proofs.Rings.Fields.{field_mul-ne-zero}
use Rattle.theory_rings.proofs.Rings.Homomorphisms.{map-zero}
use Rattle.theory_rings.proofs.Rings.Solver.{◌⊞◌, ◌⊠◌, unit, ring2}
use Rattle.theory_rings.proofs.Polynomials.Degrees.{poly_eq_zero_or, length_le_suc-degree, length-add_le, length-neg_le}
use Rattle.theory_rings.proofs.Polynomials.Bezout.{field_polynomials, field_degree-mul, poly_mul-ne-zero}
use Rattle.theory_rings.proofs.Polynomials.Bezout.{poly_one-ne-zero}
use Rattle.theory_rings.proofs.Fractions.Fractions.{IsReduction, Fraction-path, denominator-ne-zero, product-ne-zero}
use Rattle.theory_rings.proofs.Fractions.Fractions.{value_unique, fraction_of, fraction_of_value, fraction_of_injective}
use Rattle.theory_rings.proofs.Fractions.Lowest.{polynomial_reduction}
use Rattle.theory_lattices.specs.Degree.{DegreeOn, BelowBy}
use Rattle.theory_lattices.specs.RationalFunctions.{IsPolynomialDegree, IsRationalDegree, Rational}

module _ {k : Type 0} (F : FieldOn k) where
  abbrev R : CommRingOn k
  R = F.cring

  abbrev P : CommRingOn (Poly F.cring)
  P = field_polynomials F

  abbrev deg : Poly R → ℤ
  deg a = pos (degree a.0)

  degree-length : (xs : List k) → degree xs ≡ pred (length xs)
  degree-length [] = refl
  degree-length (x ∷ xs) = omega arith

  length-neg : (a : Poly R) → length (P.neg a).0 ≡ length a.0
  length-neg a =
      let l = length-neg_le R F.zero_test a (length a.0) (omega arith) in
      let g = length-neg_le R F.zero_test (P.neg a) (length (P.neg a).0) (omega arith) in
      let e : length (P.neg (P.neg a)).0 ≡ length a.0 = ap (λ (t : Poly R). length t.0) (neg_neg P.additive a) in
      omega arith

  deg-add_lt : (n : ℤ) (a b : Poly R) → deg a <ℤ n → deg b <ℤ n → deg (P.◌⊕◌ a b) <ℤ n
  deg-add_lt (negsuc n) a b h g = absurd (omega (arith, ints))
  deg-add_lt (pos n) a b h g =
      let ha : degree a.0 < n = omega (arith, ints) in
      let hb : degree b.0 < n = omega (arith, ints) in
      let la = length_le_suc-degree R a in
      let lb = length_le_suc-degree R b in
      let l = length-add_le R F.zero_test a b n (omega arith) (omega arith) in
      let e = degree-length (P.◌⊕◌ a b).0 in
      let r : degree (P.◌⊕◌ a b).0 < n = omega arith in
      omega (arith, ints)

  deg-add : (n : ℤ) (a b : Poly R) → BelowBy P.zero deg n a → BelowBy P.zero deg n b → BelowBy P.zero deg n (P.◌⊕◌ a b)
  deg-add n a b (inl e) h = let S : Poly R
      → Type 0 = λ x. BelowBy P.zero deg n x in subst S (sym (ap (λ x. P.◌⊕◌ x b) e ∙ P.zero-add b)) h
  deg-add n a b (inr h) (inl e) = let S : Poly R
      → Type 0 = λ x. BelowBy P.zero deg n x in subst S (sym (ap (λ x. P.◌⊕◌ a x) e ∙ add-zero P.monoid a)) (inr h)
  deg-add n a b (inr h) (inr g) = inr (deg-add_lt n a b h g)

  pub polynomial_degree : DegreeOn P.ring
  polynomial_degree = record {
    deg = deg;
    eq_zero_or = poly_eq_zero_or R F.zero_test;
    one-ne-zero = poly_one-ne-zero F;
    mul-ne-zero = poly_mul-ne-zero F;
    deg-mul = λ a b h g. let e = field_degree-mul F a b h g in omega (arith, ints);
    deg-neg = λ a. ap pos (degree-length (P.neg a).0 ∙ ap pred (length-neg a) ∙ sym (degree-length a.0));
    add-below = deg-add;
  }

  pub polynomial_degree-is : IsPolynomialDegree F polynomial_degree
  unfolding polynomial_degree
  polynomial_degree-is = record { degree-is = λ a. refl }

module _ {D : Type 0} (C : CommRingOn D) (Low : D → D → Type 0) (I : IsReduction C Low) (Q : FieldOn (Fraction Low))
    (H : IsFractionField C Low Q) where
  infixl 65 ◌⊕◌
  infixl 70 ◌⊗◌
  open C use {◌⊕◌, ◌⊗◌}

  abbrev Fr : Type 0
  Fr = Fraction Low

  abbrev Is : Fr → D → D → Type 0
  Is = IsValue C Low

  low : (x : Fr) → x.0.1 ≡ C.zero → ⊥
  low x = denominator-ne-zero C Low I x

  zero_numerator : Q.zero.0.0 ≡ C.zero
  zero_numerator = sym (C.mul-one Q.zero.0.0) ∙ H.zero_value ∙ zero-mul C.ring Q.zero.0.1

  eq_zero_of_numerator : (x : Fr) → x.0.0 ≡ C.zero → x ≡ Q.zero
  eq_zero_of_numerator x e = Fraction-path C Low I x Q.zero
      (ap (λ t. t ⊗ Q.zero.0.1) e ∙ zero-mul C.ring Q.zero.0.1
      ∙ sym (ap (λ t. t ⊗ x.0.1) zero_numerator ∙ zero-mul C.ring x.0.1))

  -- the ring in the field of fractions
  abbrev of : D → Fr
  of a = fraction_of C Low I a

  pub eq_of_value : (x : Fr) (u : D) → Is x u C.one → x ≡ of u
  eq_of_value x u e = value_unique C Low I x (of u) u C.one u C.one I.one-nonzero I.one-nonzero e
      (fraction_of_value C Low I u) refl

  pub of_hom : IsRingHom C.ring Q.ring of
  of_hom = record {
    map-one = value_unique C Low I (of C.one) Q.one C.one C.one C.one C.one I.one-nonzero I.one-nonzero
        (fraction_of_value C Low I C.one) H.one_value refl;
    map-add = λ a b. value_unique C Low I (of (a ⊕ b)) (Q.◌⊕◌ (of a) (of b)) (a ⊕ b) C.one (a ⊗ C.one ⊕ b ⊗ C.one)
        (C.one ⊗ C.one)
        I.one-nonzero one-one (fraction_of_value C Low I (a ⊕ b))
        (H.add_value (of a) (of b) a C.one b C.one (fraction_of_value C Low I a) (fraction_of_value C Low I b))
        (ring2 C (λ a b. ((a ⊞ b) ⊠ (unit ⊠ unit), (a ⊠ unit ⊞ b ⊠ unit) ⊠ unit)) refl a b);
    map-mul = λ a b. value_unique C Low I (of (a ⊗ b)) (Q.◌⊗◌ (of a) (of b)) (a ⊗ b) C.one (a ⊗ b) (C.one ⊗ C.one)
        I.one-nonzero one-one (fraction_of_value C Low I (a ⊗ b))
        (H.mul_value (of a) (of b) a C.one b C.one (fraction_of_value C Low I a) (fraction_of_value C Low I b))
        (ring2 C (λ a b. (a ⊠ b ⊠ (unit ⊠ unit), a ⊠ b ⊠ unit)) refl a b);
  }
    where
      one-one : C.one ⊗ C.one ≡ C.zero → ⊥
      one-one = product-ne-zero C Low I C.one C.one I.one-nonzero I.one-nonzero

  pub of-zero : of C.zero ≡ Q.zero
  of-zero = map-zero C.ring Q.ring of of_hom

  pub of-ne-zero : (u : D) → (u ≡ C.zero → ⊥) → of u ≡ Q.zero → ⊥
  of-ne-zero u h e = h (fraction_of_injective C Low I u C.zero (e ∙ sym of-zero))

  module _ (W : DegreeOn C.ring) where
    abbrev fdeg : Fr → ℤ
    fdeg x = W.deg x.0.0 -ℤ W.deg x.0.1

    numerator-ne-zero : (x : Fr) (u v : D) → Is x u v → (u ≡ C.zero → ⊥) → x.0.0 ≡ C.zero → ⊥
    numerator-ne-zero x u v e h z = W.mul-ne-zero u x.0.1 h (low x) (sym e ∙ ap (λ t. t ⊗ v) z ∙ zero-mul C.ring v)

    degree_of_value : (x : Fr) (u v : D) → Is x u v → (u ≡ C.zero → ⊥) → (v ≡ C.zero → ⊥) → fdeg x ≡ W.deg u -ℤ W.deg v
    degree_of_value x u v e h g =
        let a = W.deg-mul x.0.0 v (numerator-ne-zero x u v e h) g in
        let b = W.deg-mul u x.0.1 h (low x) in
        let c = ap W.deg e in
        omega (arith, ints)

    zero_of_value : (x : Fr) (u v : D) → Is x u v → u ≡ C.zero → (v ≡ C.zero → ⊥) → x ≡ Q.zero
    zero_of_value x u v e h g = eq_zero_of_numerator x (⊎_elim (λ (z : x.0.0 ≡ C.zero). z)
        (λ (n : x.0.0 ≡ C.zero → ⊥).
        absurd (W.mul-ne-zero x.0.0 v n g (e ∙ ap (λ t. t ⊗ x.0.1) h ∙ zero-mul C.ring x.0.1)))
        (W.eq_zero_or x.0.0))

    nonzero_numerator : (x : Fr) → (x ≡ Q.zero → ⊥) → x.0.0 ≡ C.zero → ⊥
    nonzero_numerator x h e = h (eq_zero_of_numerator x e)

    denominators : (x y : Fr) → x.0.1 ⊗ y.0.1 ≡ C.zero → ⊥
    denominators x y = W.mul-ne-zero x.0.1 y.0.1 (low x) (low y)

    fdeg-mul : (x y : Fr) → (x ≡ Q.zero → ⊥) → (y ≡ Q.zero → ⊥) → fdeg (Q.◌⊗◌ x y) ≡ fdeg x +ℤ fdeg y
    fdeg-mul x y h g =
        let nx = nonzero_numerator x h in
        let ny = nonzero_numerator y g in
        let e = degree_of_value (Q.◌⊗◌ x y) (x.0.0 ⊗ y.0.0) (x.0.1 ⊗ y.0.1)
        (H.mul_value x y x.0.0 x.0.1 y.0.0 y.0.1 refl refl)
        (W.mul-ne-zero x.0.0 y.0.0 nx ny) (denominators x y) in
        let a = W.deg-mul x.0.0 y.0.0 nx ny in
        let b = W.deg-mul x.0.1 y.0.1 (low x) (low y) in
        omega (arith, ints)

    fdeg-neg : (x : Fr) → fdeg (Q.neg x) ≡ fdeg x
    fdeg-neg x = ⊎_elim
        (λ (z : x.0.0 ≡ C.zero).
        ap fdeg (zero_of_value (Q.neg x) (C.neg x.0.0) x.0.1 (H.neg_value x x.0.0 x.0.1 refl)
        (ap C.neg z ∙ neg_zero C.additive) (low x)
        ∙ sym (eq_zero_of_numerator x z)))
        (λ (n : x.0.0 ≡ C.zero → ⊥).
        let e = degree_of_value (Q.neg x) (C.neg x.0.0) x.0.1 (H.neg_value x x.0.0 x.0.1 refl)
        (λ q. n (sym (neg_neg C.additive x.0.0) ∙ ap C.neg q ∙ neg_zero C.additive)) (low x) in
        let a = W.deg-neg x.0.0 in
        omega (arith, ints)) (W.eq_zero_or x.0.0)

    both_proper : (n : ℤ) (x y : Fr) → (x.0.0 ≡ C.zero → ⊥) → (y.0.0 ≡ C.zero → ⊥) → fdeg x <ℤ n → fdeg y <ℤ n
        → BelowBy Q.zero fdeg n (Q.◌⊕◌ x y)
    both_proper n x y nx ny h g =
        let s = x.0.0 ⊗ y.0.1 ⊕ y.0.0 ⊗ x.0.1 in
        let v = x.0.1 ⊗ y.0.1 in
        let val = H.add_value x y x.0.0 x.0.1 y.0.0 y.0.1 refl refl in
        ⊎_elim
        (λ (z : s ≡ C.zero). inl (zero_of_value (Q.◌⊕◌ x y) s v val z (denominators x y)))
        (λ (ns : s ≡ C.zero → ⊥).
        let e = degree_of_value (Q.◌⊕◌ x y) s v val ns (denominators x y) in
        let a = W.deg-mul x.0.0 y.0.1 nx (low y) in
        let b = W.deg-mul y.0.0 x.0.1 ny (low x) in
        let c = W.deg-mul x.0.1 y.0.1 (low x) (low y) in
        let u = W.add-below ((n +ℤ W.deg x.0.1) +ℤ W.deg y.0.1) (x.0.0 ⊗ y.0.1) (y.0.0 ⊗ x.0.1)
        (inr (omega (arith, ints))) (inr (omega (arith, ints))) in
        ⊎_elim (λ (z : s ≡ C.zero). absurd (ns z))
        (λ (l : W.deg s <ℤ ((n +ℤ W.deg x.0.1) +ℤ W.deg y.0.1)). inr (omega (arith, ints))) u)
        (W.eq_zero_or s)

    left_zero : (n : ℤ) (x y : Fr) → x ≡ Q.zero → BelowBy Q.zero fdeg n y → BelowBy Q.zero fdeg n (Q.◌⊕◌ x y)
    left_zero n x y e h = let S : Fr
        → Type 0 = λ x. BelowBy Q.zero fdeg n x in subst S (sym (ap (λ t. Q.◌⊕◌ t y) e ∙ Q.zero-add y)) h

    right_zero : (n : ℤ) (x y : Fr) → y ≡ Q.zero → BelowBy Q.zero fdeg n x → BelowBy Q.zero fdeg n (Q.◌⊕◌ x y)
    right_zero n x y e h = let S : Fr
        → Type 0 = λ x. BelowBy Q.zero fdeg n x in subst S (sym (ap (λ t. Q.◌⊕◌ x t) e ∙ add-zero Q.monoid x)) h

    fdeg-add : (n : ℤ) (x y : Fr) → BelowBy Q.zero fdeg n x → BelowBy Q.zero fdeg n y
        → BelowBy Q.zero fdeg n (Q.◌⊕◌ x y)
    fdeg-add n x y (inl e) h = left_zero n x y e h
    fdeg-add n x y (inr h) (inl e) = right_zero n x y e (inr h)
    fdeg-add n x y (inr h) (inr g) = ⊎_elim
        (λ (zx : x.0.0 ≡ C.zero). left_zero n x y (eq_zero_of_numerator x zx) (inr g))
        (λ (nx : x.0.0 ≡ C.zero → ⊥). ⊎_elim
        (λ (zy : y.0.0 ≡ C.zero). right_zero n x y (eq_zero_of_numerator y zy) (inr h))
        (λ (ny : y.0.0 ≡ C.zero → ⊥). both_proper n x y nx ny h g) (W.eq_zero_or y.0.0)) (W.eq_zero_or x.0.0)

    pub fraction_degree : DegreeOn Q.ring
    fraction_degree = record {
      deg = fdeg;
      eq_zero_or = eq_zero_or Q.zero_test;
      one-ne-zero = Q.one-nonzero;
      mul-ne-zero = field_mul-ne-zero Q;
      deg-mul = fdeg-mul;
      deg-neg = fdeg-neg;
      add-below = fdeg-add;
    }

    pub fraction_degree-is : (x : Fr) → fraction_degree.deg x ≡ W.deg x.0.0 -ℤ W.deg x.0.1
    unfolding fraction_degree
    fraction_degree-is x = refl

    -- an element of the ring keeps its degree
    pub degree_of : (u : D) → (u ≡ C.zero → ⊥) → W.deg (of u).0.0 -ℤ W.deg (of u).0.1 ≡ W.deg u
    degree_of u h =
        let e = degree_of_value (of u) u C.one (fraction_of_value C Low I u) h I.one-nonzero in
        let o = W.deg-mul C.one C.one I.one-nonzero I.one-nonzero in
        let q = ap W.deg (C.mul-one C.one) in
        omega (arith, ints)

-- the degree of rational functions
module _ {k : Type 0} (F : FieldOn k) (Q : FieldOn (Rational F))
    (H : IsFractionField (field_polynomials F) (IsLowest F.cring (field_polynomials F)) Q) where
  pub rational_degree : DegreeOn Q.ring
  rational_degree = fraction_degree (field_polynomials F) (IsLowest F.cring (field_polynomials F))
      (polynomial_reduction F) Q H (polynomial_degree F)

  pub rational_degree-is : IsRationalDegree F Q rational_degree
  unfolding polynomial_degree fraction_degree rational_degree
  rational_degree-is = record { degree-is = λ x. refl }
