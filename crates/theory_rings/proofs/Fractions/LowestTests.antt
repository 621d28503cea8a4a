-- Tests that decide whether polynomials over a field are coprime, and whether a fraction is in lowest terms.
use Rattle.std.specs.Prelude.{◌≡◌, suc, Bool, true, ◌&&◌, eqb, length}
use Rattle.std.proofs.Common.{◌∙◌, ap, arith}
use Rattle.std.proofs.lemmas.Bool.{eqb-true, eq-eqb, and_from, and_parts}
use Rattle.theory_rings.specs.Ring.{FieldOn, CommRingOn}
use Rattle.theory_rings.specs.Polynomial.{Poly, lead, degree, IsMonic}
use Rattle.theory_rings.specs.Division.{IsCoprime, IsGcd}
use Rattle.theory_rings.proofs.Rings.ZeroTests.{eq_of_sub_eq_zero, sub_eq_zero_of_eq}
use Rattle.theory_rings.proofs.Polynomials.PolynomialRing.{constant}
use Rattle.theory_rings.proofs.Polynomials.Degrees.{length-degree, ne_zero_of_length, length-degree_of_ne_zero}
use Rattle.theory_rings.proofs.Polynomials.Bezout.{field_polynomials, gcd, combination_one, coprime_of_bezout}
use Rattle.theory_rings.proofs.Polynomials.Bezout.{coprime_gcd-ne-zero}
use Rattle.theory_rings.proofs.Fractions.Lowest.{Lowest}

module _ {K : Type 0} (F : FieldOn K) where
  abbrev R : CommRingOn K
  R = F.cring

  abbrev P : CommRingOn (Poly F.cring)
  P = field_polynomials F

  -- the greatest common divisor is a constant that is not 0
  pub is_coprime : Poly R → Poly R → Bool
  is_coprime a b = eqb (length (gcd F a b).0.0) 1

  pub is_coprime-sound : (a b : Poly R) → is_coprime a b ≡ true → IsCoprime R P a b
  unfolding is_coprime
  is_coprime-sound a b e = go (gcd F a b).0 (gcd F a b).1 (eqb-true (length (gcd F a b).0.0) 1 e)
    where
      go : (g : Poly R) → IsGcd P a b g → length g.0 ≡ 1 → IsCoprime R P a b
      go g d l =
          let k : Poly R = constant R F.zero_test (F.inv (lead R g)) in
          let flat : degree g.0 ≡ 0 = omega (arith, length-degree R g (omega arith)) in
          coprime_of_bezout F a b (P.◌⊗◌ k d.s) (P.◌⊗◌ k d.t)
          (combination_one F a b g d (ne_zero_of_length R F.zero_test g (omega arith)) flat)

  pub is_coprime-complete : (a b : Poly R) → IsCoprime R P a b → is_coprime a b ≡ true
  unfolding is_coprime
  is_coprime-complete a b c = eq-eqb (length (gcd F a b).0.0) 1 (go (gcd F a b).0 (gcd F a b).1)
    where
      go : (g : Poly R) → IsGcd P a b g → length g.0 ≡ 1
      go g d = omega (
        arith,
        length-degree_of_ne_zero R F.zero_test g (coprime_gcd-ne-zero F a b g c d),
        c g d.left d.right,
      )

  -- not empty, and the leading coefficient less 1 is 0
  pub is_monic : Poly R → Bool
  is_monic v = eqb (length v.0) (suc (degree v.0)) && F.is_zero (F.◌⊕◌ (lead R v) (F.neg F.one))

  pub is_monic-sound : (v : Poly R) → is_monic v ≡ true → IsMonic R v
  unfolding is_monic
  is_monic-sound v e =
      let a : Bool = eqb (length v.0) (suc (degree v.0)) in
      let b : Bool = F.is_zero (F.◌⊕◌ (lead R v) (F.neg F.one)) in
      record {
        nonzero = omega (arith, eqb-true (length v.0) (suc (degree v.0)) (and_parts a b e).0);
        leading = eq_of_sub_eq_zero F.additive (lead R v) F.one
            (F.is_zero-sound (F.◌⊕◌ (lead R v) (F.neg F.one)) (and_parts a b e).1);
      }

  pub is_monic-complete : (v : Poly R) → IsMonic R v → is_monic v ≡ true
  unfolding is_monic
  is_monic-complete v h =
      and_from (eqb (length v.0) (suc (degree v.0))) (F.is_zero (F.◌⊕◌ (lead R v) (F.neg F.one)))
      (eq-eqb (length v.0) (suc (degree v.0)) (length-degree R v h.nonzero))
      (ap F.is_zero (sub_eq_zero_of_eq F.additive (lead R v) F.one h.leading) ∙ F.is_zero-zero)

  pub is_lowest : Poly R → Poly R → Bool
  is_lowest u v = is_monic v && is_coprime u v

  pub is_lowest-sound : (u v : Poly R) → is_lowest u v ≡ true → Lowest F u v
  unfolding is_lowest
  is_lowest-sound u v e = record {
    monic = is_monic-sound v (and_parts (is_monic v) (is_coprime u v) e).0;
    coprime = is_coprime-sound u v (and_parts (is_monic v) (is_coprime u v) e).1;
  }

  pub is_lowest-complete : (u v : Poly R) → Lowest F u v → is_lowest u v ≡ true
  unfolding is_lowest
  is_lowest-complete u v h =
      and_from (is_monic v) (is_coprime u v) (is_monic-complete v h.monic) (is_coprime-complete u v h.coprime)
