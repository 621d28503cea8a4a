-- The numbers are the polynomials over the integers modulo p, by their digits in base p; those below p ^ d are those of
-- degree below d.
use Rattle.std.specs.Prelude.{◌≡◌, ℕ, zero, suc, ◌+◌, ◌-◌, ◌*◌, ◌^◌, ◌<◌, ◌≤◌, length}
use Rattle.std.proofs.Common.{sym, ◌∙◌, ap, arith, ⊎_elim}
use Rattle.std.proofs.Math.Nat.{mod-eq_of_lt, pow-le-pow_right, div-eq_of_lt, mul-add-div, mul-add-mod_self_left}
use Rattle.std.proofs.lemmas.Bool.{cases_lt}
use Rattle.theory_rings.specs.Ring.{CommRingOn}
use Rattle.theory_rings.specs.IntegersMod.{Fin, value-lt, residue, integers_mod}
use Rattle.theory_rings.specs.Digits.{digit, of_digits}
use Rattle.theory_rings.specs.Polynomial.{Poly, coefficient, convolution, constant_coefficients}
use Rattle.theory_rings.specs.FieldByDigits.{product_coefficient}
use Rattle.theory_rings.proofs.Sums.Sums.{sum_congr}
use Rattle.theory_rings.proofs.Numbers.IntegersMod.{residue-value, residue-zero, residue-one, residue-mul, residue-sum}
use Rattle.theory_rings.proofs.Numbers.IntegersMod.{residue_zero_test}
use Rattle.theory_rings.proofs.Numbers.Digits.{digit-zero, digit-suc, digit-suc_of_lt, zero-digit, digit_lt, digit_past}
use Rattle.theory_rings.proofs.Numbers.Digits.{digit_injective, digit-of_digits, of_digits_lt, lt_pow_self}
use Rattle.theory_rings.proofs.Polynomials.Degrees.{length_le}
use Rattle.theory_rings.proofs.Polynomials.PolynomialRing.{Poly-path, coefficient_past, polynomial}
use Rattle.theory_rings.proofs.Polynomials.PolynomialRing.{coefficient-polynomial, polynomials, coefficient-zero}
use Rattle.theory_rings.proofs.Polynomials.PolynomialRing.{coefficient-one, constant, coefficient-constant}
use Rattle.theory_rings.proofs.Polynomials.PolynomialRing.{series_prepend, prepend, coefficient-prepend}

module _ (p : ℕ) (two_le : 2 ≤ p) where
  pos : 0 < p
  pos = omega arith

  abbrev R : CommRingOn (Fin p)
  R = integers_mod p two_le

  abbrev pub DigitPoly : Type 0
  DigitPoly = Poly R

  -- the ring of the polynomials over the integers modulo p
  abbrev pub digit_polynomials : CommRingOn DigitPoly
  digit_polynomials = polynomials R (residue_zero_test p two_le)

  -- the polynomial whose coefficients are the residues of n numbers
  pub residues_polynomial : ℕ → (ℕ → ℕ) → DigitPoly
  residues_polynomial n f = polynomial R (residue_zero_test p two_le) n (λ k. residue p two_le (f k))

  pub coefficient-residues : (n : ℕ) (f : ℕ → ℕ) → ((k : ℕ) → n ≤ k → f k ≡ 0) → (k : ℕ)
      → coefficient R (residues_polynomial n f) k ≡ residue p two_le (f k)
  unfolding residues_polynomial
  coefficient-residues n f h k =
      coefficient-polynomial R (residue_zero_test p two_le) n (λ k. residue p two_le (f k))
      (λ k l. ap (residue p two_le) (h k l) ∙ residue-zero p two_le) k

  -- the polynomial whose coefficients are the digits of a
  pub polynomial_of : ℕ → DigitPoly
  polynomial_of a = residues_polynomial a (digit p a)

  pub coefficient-polynomial_of : (a k : ℕ) → coefficient R (polynomial_of a) k ≡ residue p two_le (digit p a k)
  unfolding polynomial_of
  coefficient-polynomial_of a k =
      coefficient-residues a (digit p a) (λ k l. digit_past p pos a a k (lt_pow_self p a two_le) l) k

  -- the number whose digits are the coefficients of f
  pub number_of : DigitPoly → ℕ
  number_of f = of_digits p (length f.0) (λ k. (coefficient R f k).0)

  number_of_lt_length : (f : DigitPoly) → number_of f < p ^ length f.0
  unfolding number_of
  number_of_lt_length f =
      of_digits_lt p pos (length f.0) (λ k. (coefficient R f k).0) (λ k l. value-lt p (coefficient R f k))

  pub digit-number_of : (f : DigitPoly) (k : ℕ) → digit p (number_of f) k ≡ (coefficient R f k).0
  unfolding number_of
  digit-number_of f k = ⊎_elim within past (cases_lt k (length f.0))
    where
      within : k < length f.0 → digit p (number_of f) k ≡ (coefficient R f k).0
      within l =
          digit-of_digits p pos (length f.0) (λ k. (coefficient R f k).0) (λ k l. value-lt p (coefficient R f k)) k l

      past : length f.0 ≤ k → digit p (number_of f) k ≡ (coefficient R f k).0
      past l =
          digit_past p pos (length f.0) (number_of f) k (number_of_lt_length f) l
          ∙ sym (ap (λ x. x.0) (coefficient_past R f k l))

  pub polynomial_of-number_of : (f : DigitPoly) → polynomial_of (number_of f) ≡ f
  polynomial_of-number_of f = Poly-path R (polynomial_of (number_of f)) f
      (λ k. coefficient-polynomial_of (number_of f) k ∙ ap (residue p two_le) (digit-number_of f k)
      ∙ residue-value p two_le (coefficient R f k))

  -- the digits of a number, from its polynomial
  pub value-coefficient : (a k : ℕ) → (coefficient R (polynomial_of a) k).0 ≡ digit p a k
  value-coefficient a k = ap (λ x. x.0) (coefficient-polynomial_of a k) ∙ mod-eq_of_lt (digit_lt p pos a k)

  pub number_of-polynomial_of : (a : ℕ) → number_of (polynomial_of a) ≡ a
  number_of-polynomial_of a =
      let b : ℕ = number_of (polynomial_of a) in
      digit_injective p (a + b) b a (wide b (omega arith)) (wide a (omega arith))
      (λ k _. digit-number_of (polynomial_of a) k ∙ value-coefficient a k)
    where
      wide : (c : ℕ) {n : ℕ} → c ≤ n → c < p ^ n
      wide c {n} l = let h = lt_pow_self p c two_le in let g = pow-le-pow_right pos l in omega arith

  -- the numbers below p ^ d are the polynomials of degree below d
  pub length-polynomial_of : (d a : ℕ) → a < p ^ d → length (polynomial_of a).0 ≤ d
  length-polynomial_of d a l = length_le R (polynomial_of a) d
      (λ k h. coefficient-polynomial_of a k ∙ ap (residue p two_le) (digit_past p pos d a k l h)
      ∙ residue-zero p two_le)

  pub number_of_lt : (d : ℕ) (f : DigitPoly) → length f.0 ≤ d → number_of f < p ^ d
  number_of_lt d f l = let h = number_of_lt_length f in let g = pow-le-pow_right pos l in omega arith

  pub residue-product_coefficient : (f g : ℕ → ℕ) (k : ℕ)
      → residue p two_le (product_coefficient f g k)
      ≡ convolution R.ring (λ i. residue p two_le (f i)) (λ i. residue p two_le (g i)) k
  residue-product_coefficient f g k =
      residue-sum p two_le (suc k) (λ i. f i * g (k - i))
      ∙ sum_congr R.monoid (suc k) (λ i. residue p two_le (f i * g (k - i)))
      (λ i. R.◌⊗◌ (residue p two_le (f i)) (residue p two_le (g (k - i))))
      (λ i l. residue-mul p two_le (f i) (g (k - i)))

  pub polynomial_of-injective : (a b : ℕ) → polynomial_of a ≡ polynomial_of b → a ≡ b
  polynomial_of-injective a b e = sym (number_of-polynomial_of a) ∙ ap number_of e ∙ number_of-polynomial_of b

  pub polynomial_of-zero : polynomial_of 0 ≡ digit_polynomials.zero
  polynomial_of-zero = Poly-path R (polynomial_of 0) digit_polynomials.zero
      (λ k. coefficient-polynomial_of 0 k ∙ ap (residue p two_le) (zero-digit p k) ∙ residue-zero p two_le
      ∙ sym (coefficient-zero R (residue_zero_test p two_le) k))

  -- a number below p is a constant
  pub polynomial_of-constant : (a : ℕ) → a < p
      → polynomial_of a ≡ constant R (residue_zero_test p two_le) (residue p two_le a)
  polynomial_of-constant a l =
      Poly-path R (polynomial_of a) (constant R (residue_zero_test p two_le) (residue p two_le a))
      (λ k. coefficient-polynomial_of a k ∙ each k
      ∙ sym (coefficient-constant R (residue_zero_test p two_le) (residue p two_le a) k))
    where
      each : (k : ℕ) → residue p two_le (digit p a k) ≡ constant_coefficients R.zero (residue p two_le a) k
      each zero = ap (residue p two_le) (digit-zero p a ∙ mod-eq_of_lt l)
      each (suc k) = ap (residue p two_le) (digit-suc_of_lt p a k l) ∙ residue-zero p two_le

  pub polynomial_of-one : polynomial_of 1 ≡ digit_polynomials.one
  polynomial_of-one = Poly-path R (polynomial_of 1) digit_polynomials.one
      (λ k. ap (λ f. coefficient R f k) (polynomial_of-constant 1 (omega arith))
      ∙ coefficient-constant R (residue_zero_test p two_le) (residue p two_le 1) k
      ∙ ap (λ x. constant_coefficients R.zero x k) (residue-one p two_le)
      ∙ sym (coefficient-one R (residue_zero_test p two_le) k))

  -- p · b + c is c + t · b
  pub polynomial_of-prepend : (b c : ℕ) → c < p
      → polynomial_of (p * b + c) ≡ prepend R (residue_zero_test p two_le) (residue p two_le c) (polynomial_of b)
  polynomial_of-prepend b c l =
      Poly-path R (polynomial_of (p * b + c))
      (prepend R (residue_zero_test p two_le) (residue p two_le c) (polynomial_of b))
      (λ k. coefficient-polynomial_of (p * b + c) k ∙ each k
      ∙ sym (coefficient-prepend R (residue_zero_test p two_le) (residue p two_le c) (polynomial_of b) k))
    where
      each : (k : ℕ) → residue p two_le (digit p (p * b + c) k) ≡ series_prepend (residue p two_le c)
          (coefficient R (polynomial_of b)) k
      each zero = ap (residue p two_le) (digit-zero p (p * b + c) ∙ mul-add-mod_self_left p b c ∙ mod-eq_of_lt l)
      each (suc k) =
          ap (residue p two_le)
          (digit-suc p (p * b + c) k
          ∙ ap (λ x. digit p x k) (mul-add-div (omega arith) b c ∙ ap (λ x. b + x) (div-eq_of_lt l) ∙ omega arith))
          ∙ sym (coefficient-polynomial_of b k)
