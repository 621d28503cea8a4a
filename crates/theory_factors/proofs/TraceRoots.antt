-- In a finite field with more than q^n elements not every element is a root of t + t^q + .. + t^(q^n).
use Rattle.std.specs.Prelude.{◌≡◌, ◌≢◌, ℕ, zero, suc, ◌+◌, ◌-◌, ◌^◌, ◌<◌, ◌≤◌}
use Rattle.std.proofs.Common.{sym, ◌∙◌, ap, ap₂, arith}
use Rattle.theory_rings.specs.Ring.{FieldOn, CommRingOn}
use Rattle.theory_rings.specs.Sum.{sum}
use Rattle.theory_rings.specs.Power.{power}
use Rattle.theory_rings.specs.Enumerated.{Enumerated}
use Rattle.theory_rings.specs.Polynomial.{Poly, coefficient, degree, constant_coefficients}
use Rattle.theory_rings.proofs.Rings.Homomorphisms.{id_hom}
use Rattle.theory_rings.proofs.Sums.Sums.{map-sum, sum_congr}
use Rattle.theory_rings.proofs.Powers.Powers.{map-power}
use Rattle.theory_rings.proofs.Polynomials.Series.{shift-above}
use Rattle.theory_rings.proofs.Polynomials.PolynomialRing.{constant_past, coefficient-zero, coefficient-add}
use Rattle.theory_rings.proofs.Polynomials.Degrees.{length_le, length-degree, lt_length}
use Rattle.theory_rings.proofs.Polynomials.Constants.{variable, coefficient-power_variable}
use Rattle.theory_rings.proofs.Polynomials.Evaluation.{evaluate-variable, evaluate_hom, evaluate-zero}
use Rattle.theory_rings.proofs.Polynomials.Bezout.{field_polynomials}
use Rattle.theory_rings.proofs.Polynomials.Roots.{value, eq_zero_of_roots}
use Rattle.theory_factors.proofs.Powers.{pow_lt}

module _ {K : Type 0} (F : FieldOn K) (q : ℕ) (two : 2 ≤ q) where
  abbrev R : CommRingOn K
  R = F.cring

  abbrev P : CommRingOn (Poly F.cring)
  P = field_polynomials F

  abbrev t : Poly R
  t = variable R F.zero_test

  -- t + t^q + .., n terms
  abbrev D : ℕ → Poly R
  D n = sum P.monoid n (λ i. power P.ring t (q ^ i))

  term : (i k j : ℕ) → k ≡ q ^ i + j → coefficient R (power P.ring t (q ^ i)) k ≡ constant_coefficients F.zero F.one j
  term i k j e = coefficient-power_variable R F.zero_test (q ^ i) k
      ∙ shift-above F.zero (q ^ i) (constant_coefficients F.zero F.one) k j e

  past : (n k : ℕ) → q ^ n ≤ k → coefficient R (D n) k ≡ F.zero
  past zero k l = coefficient-zero R F.zero_test k
  past (suc n) k l =
      let less = pow_lt q n (suc n) two (omega arith) in
      let e : k ≡ q ^ n + (k - q ^ n) = omega arith in
      coefficient-add R F.zero_test (D n) (power P.ring t (q ^ n)) k
      ∙ ap₂ F.◌⊕◌ (past n k (omega arith))
      (term n k (k - q ^ n) e ∙ constant_past F.zero F.one (k - q ^ n) (omega arith))
      ∙ F.zero-add F.zero

  leading : (n : ℕ) → coefficient R (D (suc n)) (q ^ n) ≡ F.one
  leading n =
      let e : q ^ n ≡ q ^ n + 0 = omega arith in
      coefficient-add R F.zero_test (D n) (power P.ring t (q ^ n)) (q ^ n)
      ∙ ap₂ F.◌⊕◌ (past n (q ^ n) (omega arith)) (term n (q ^ n) 0 e)
      ∙ F.zero-add F.one

  after : (n k : ℕ) → suc (q ^ n) ≤ k → coefficient R (D (suc n)) k ≡ F.zero
  after n k l =
      let e : k ≡ q ^ n + (k - q ^ n) = omega arith in
      coefficient-add R F.zero_test (D n) (power P.ring t (q ^ n)) k
      ∙ ap₂ F.◌⊕◌ (past n k (omega arith))
      (term n k (k - q ^ n) e ∙ constant_past F.zero F.one (k - q ^ n) (omega arith))
      ∙ F.zero-add F.zero

  low : (n : ℕ) → degree (D (suc n)).0 ≤ q ^ n
  low n =
      let short = length_le R (D (suc n)) (suc (q ^ n)) (after n) in
      let long = length-degree R (D (suc n))
      (omega (arith, lt_length R (D (suc n)) (q ^ n) (λ z. F.one-nonzero (sym (leading n) ∙ z)))) in
      omega arith

  nonzero : (n : ℕ) → D (suc n) ≢ P.zero
  nonzero n null = F.one-nonzero (sym (leading n) ∙ ap (λ (b : Poly R). coefficient R b (q ^ n)) null
      ∙ coefficient-zero R F.zero_test (q ^ n))

  value-D : (n : ℕ) (x : K) → value F x (D n) ≡ sum F.monoid n (λ i. power F.ring x (q ^ i))
  value-D n x =
      let H = evaluate_hom R F.zero_test R (λ c. c) (id_hom F.ring) x in
      let v = evaluate-variable R F.zero_test R (λ c. c) (id_hom F.ring) x in
      map-sum P.monoid F.monoid (value F x) zero_value H.map-add n (λ i. power P.ring t (q ^ i))
      ∙ sum_congr F.monoid n (λ i. value F x (power P.ring t (q ^ i))) (λ i. power F.ring x (q ^ i))
      (λ i _. map-power P.ring F.ring (value F x) H.map-one H.map-mul t (q ^ i) ∙ ap (λ y. power F.ring y (q ^ i)) v)
    where
      zero_value : value F x P.zero ≡ F.zero
      zero_value = evaluate-zero R F.zero_test R (λ c. c) (id_hom F.ring) x

  pub some_nonzero_trace : (N : Enumerated K) (n : ℕ) → q ^ n < N.size
      → ((a : K) → sum F.monoid (suc n) (λ i. power F.ring a (q ^ i)) ≡ F.zero) → ⊥
  some_nonzero_trace N n less null = nonzero n
      (eq_zero_of_roots F (q ^ n) (D (suc n)) N.member (low n)
      (λ i j li lj e. sym (N.number-member i (omega (arith, li, less))) ∙ ap N.number e
      ∙ N.number-member j (omega (arith, lj, less)))
      (λ i l. value-D (suc n) (N.member i) ∙ null (N.member i)))
