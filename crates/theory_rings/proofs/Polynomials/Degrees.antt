-- Degrees and leading coefficients of polynomials.
use Rattle.std.specs.Prelude.{◌≡◌, ◌≢◌, ℕ, zero, suc, ◌+◌, ◌-◌, ◌<◌, ◌≤◌, Bool, List, [], ◌∷◌, length, get_or, ◌⊎◌}
use Rattle.std.proofs.Common.{refl, sym, ◌∙◌, ap, ap₂, arith, ⊎_elim}
use Rattle.std.proofs.lemmas.Bool.{cases_lt}
use Rattle.theory_rings.specs.Ring.{CommRingOn, ZeroTest}
use Rattle.theory_rings.specs.Polynomial.{IsTrimmed, Poly, coefficient, lead, degree, convolution}
use Rattle.theory_rings.proofs.Rings.RingLaws.{zero-mul, mul-zero, neg_zero}
use Rattle.theory_rings.proofs.Rings.ZeroTests.{eq_zero_or}
use Rattle.theory_rings.proofs.Sums.Sums.{sum_eq_single}
use Rattle.theory_rings.proofs.Polynomials.Series.{convolution_eq_zero}
use Rattle.theory_rings.proofs.Polynomials.PolynomialRing.{last-ne-zero, Poly-path, coefficient_past, polynomials}
use Rattle.theory_rings.proofs.Polynomials.PolynomialRing.{zero-list, coefficient-zero, coefficient-add}
use Rattle.theory_rings.proofs.Polynomials.PolynomialRing.{coefficient-neg, coefficient-mul, constant}
use Rattle.theory_rings.proofs.Polynomials.PolynomialRing.{coefficient-constant, zero_poly_test, constant_past}

module _ {K : Type 0} (R : CommRingOn K) where
  -- coefficients that are 0 from n on bound the length
  pub length_le : (a : Poly R) (n : ℕ) → ((k : ℕ) → n ≤ k → coefficient R a k ≡ R.zero) → length a.0 ≤ n
  length_le a n h = go a.0 a.1 h
    where
      go : (xs : List K) → IsTrimmed R.zero xs → ((k : ℕ) → n ≤ k → get_or xs k R.zero ≡ R.zero) → length xs ≤ n
      go [] t e = omega arith
      go (x ∷ xs) t e = low (length xs) (λ l. last-ne-zero R.zero x xs t (e (length xs) l))
        where
          low : (m : ℕ) → (n ≤ m → ⊥) → suc m ≤ n
          low m h = omega arith

  pub length-degree : (a : Poly R) → 0 < length a.0 → length a.0 ≡ suc (degree a.0)
  length-degree a h = go a.0 h
    where
      go : (xs : List K) → 0 < length xs → length xs ≡ suc (degree xs)
      go [] l = absurd (omega arith)
      go (x ∷ xs) l = refl

  pub length_le_suc-degree : (a : Poly R) → length a.0 ≤ suc (degree a.0)
  length_le_suc-degree a = go a.0
    where
      go : (xs : List K) → length xs ≤ suc (degree xs)
      go [] = omega arith
      go (x ∷ xs) = omega arith

  pub degree_le_length : (a : Poly R) → degree a.0 ≤ length a.0
  degree_le_length a = go a.0
    where
      go : (xs : List K) → degree xs ≤ length xs
      go [] = omega arith
      go (x ∷ xs) = omega arith

  pub lead-ne-zero_of_length : (a : Poly R) → 0 < length a.0 → lead R a ≢ R.zero
  lead-ne-zero_of_length a h = go a.0 a.1 h
    where
      go : (xs : List K) → IsTrimmed R.zero xs → 0 < length xs → get_or xs (degree xs) R.zero ≢ R.zero
      go [] t l = absurd (omega arith)
      go (x ∷ xs) t l = last-ne-zero R.zero x xs t

  pub coefficient_above : (a : Poly R) (k : ℕ) → degree a.0 < k → coefficient R a k ≡ R.zero
  coefficient_above a k l = coefficient_past R a k (omega (arith, length_le_suc-degree a))

  -- a coefficient that is not 0 stands below the length
  pub lt_length : (a : Poly R) (n : ℕ) → coefficient R a n ≢ R.zero → n < length a.0
  lt_length a n h = go (λ l. h (coefficient_past R a n l))
    where
      go : (length a.0 ≤ n → ⊥) → n < length a.0
      go f = omega arith

  -- the last coefficient that is not 0 is that of the degree
  pub degree_eq : (a : Poly R) (n : ℕ) → coefficient R a n ≢ R.zero → ((k : ℕ) → n < k → coefficient R a k ≡ R.zero)
      → degree a.0 ≡ n
  degree_eq a n h past =
      let low = lt_length a n h in
      let high = length_le a (suc n) past in
      let e : length a.0 ≡ suc (degree a.0) = length-degree a (omega arith) in
      omega arith

  -- the highest coefficient of a product
  pub convolution-top : (m n : ℕ) (f g : ℕ → K) → ((k : ℕ) → m < k → f k ≡ R.zero) → ((k : ℕ) → n < k → g k ≡ R.zero)
      → convolution R.ring f g (m + n) ≡ R.◌⊗◌ (f m) (g n)
  convolution-top m n f g hf hg =
      sum_eq_single R.monoid (suc (m + n)) m (λ i. R.◌⊗◌ (f i) (g (m + n - i))) (omega arith) other
      ∙ ap (λ j. R.◌⊗◌ (f m) (g j)) (omega arith)
    where
      other : (i : ℕ) → i < suc (m + n) → (i ≡ m → ⊥) → R.◌⊗◌ (f i) (g (m + n - i)) ≡ R.zero
      other i l d =
          ⊎_elim
          (λ b. ap (R.◌⊗◌ (f i)) (hg (m + n - i) (omega arith)) ∙ mul-zero R.ring (f i))
          (λ b. ap (λ x. R.◌⊗◌ x (g (m + n - i))) (hf i (omega arith)) ∙ zero-mul R.ring (g (m + n - i)))
          (cases_lt i m)

  pub convolution_above : (m n : ℕ) (f g : ℕ → K) → ((k : ℕ) → m < k → f k ≡ R.zero) → ((k : ℕ) → n < k → g k ≡ R.zero)
      → (k : ℕ) → m + n < k → convolution R.ring f g k ≡ R.zero
  convolution_above m n f g hf hg k h =
      convolution_eq_zero R.ring f g k (λ i l. ⊎_elim
      (λ b. ap (λ x. R.◌⊗◌ x (g (k - i))) (hf i b) ∙ zero-mul R.ring (g (k - i)))
      (λ b. ap (R.◌⊗◌ (f i)) (hg (k - i) (omega arith)) ∙ mul-zero R.ring (f i))
      (cases_lt m i))

module _ {K : Type 0} (R : CommRingOn K) {is_zero : K → Bool} (Z : ZeroTest R.zero is_zero) where
  abbrev P : CommRingOn (Poly R)
  P = polynomials R Z

  pub poly_eq_zero_or : (a : Poly R) → (a ≡ P.zero) ⊎ (a ≢ P.zero)
  poly_eq_zero_or a = eq_zero_or (zero_poly_test R Z) a

  pub zero-length : length P.zero.0 ≡ 0
  zero-length = ap length (zero-list R Z)

  pub length-eq-zero : (a : Poly R) → length a.0 ≤ 0 → a ≡ P.zero
  length-eq-zero a h =
      Poly-path R a P.zero (λ k. coefficient_past R a k (omega arith) ∙ sym (coefficient-zero R Z k))

  pub length_pos : (a : Poly R) → a ≢ P.zero → 0 < length a.0
  length_pos a h = go (λ l. h (length-eq-zero a l))
    where
      go : (length a.0 ≤ 0 → ⊥) → 0 < length a.0
      go f = omega arith

  pub ne_zero_of_length : (a : Poly R) → 0 < length a.0 → a ≢ P.zero
  ne_zero_of_length a l e = omega (arith, ap (λ x. length x.0) e, zero-length)

  -- a polynomial is 0 where its leading coefficient is
  pub lead-ne-zero : (a : Poly R) → a ≢ P.zero → lead R a ≢ R.zero
  lead-ne-zero a h = lead-ne-zero_of_length R a (length_pos a h)

  pub ne_zero_of_lead : (a : Poly R) → lead R a ≢ R.zero → a ≢ P.zero
  ne_zero_of_lead a h = ne_zero_of_length a (omega (arith, lt_length R a (degree a.0) h))

  pub length-degree_of_ne_zero : (a : Poly R) → a ≢ P.zero → length a.0 ≡ suc (degree a.0)
  length-degree_of_ne_zero a h = length-degree R a (length_pos a h)

  pub length-add_le : (a b : Poly R) (n : ℕ) → length a.0 ≤ n → length b.0 ≤ n → length (P.◌⊕◌ a b).0 ≤ n
  length-add_le a b n la lb =
      length_le R (P.◌⊕◌ a b) n (λ k l. coefficient-add R Z a b k
      ∙ ap₂ R.◌⊕◌ (coefficient_past R a k (omega arith)) (coefficient_past R b k (omega arith)) ∙ R.zero-add R.zero)

  pub length-neg_le : (a : Poly R) (n : ℕ) → length a.0 ≤ n → length (P.neg a).0 ≤ n
  length-neg_le a n la =
      length_le R (P.neg a) n
      (λ k l. coefficient-neg R Z a k ∙ ap R.neg (coefficient_past R a k (omega arith)) ∙ neg_zero R.additive)

  pub coefficient-mul_top : (a b : Poly R)
      → coefficient R (P.◌⊗◌ a b) (degree a.0 + degree b.0) ≡ R.◌⊗◌ (lead R a) (lead R b)
  coefficient-mul_top a b =
      coefficient-mul R Z a b (degree a.0 + degree b.0)
      ∙ convolution-top R (degree a.0) (degree b.0) (coefficient R a) (coefficient R b) (coefficient_above R a)
      (coefficient_above R b)

  pub coefficient-mul_above : (a b : Poly R) (k : ℕ) → degree a.0 + degree b.0 < k
      → coefficient R (P.◌⊗◌ a b) k ≡ R.zero
  coefficient-mul_above a b k l =
      coefficient-mul R Z a b k
      ∙ convolution_above R (degree a.0) (degree b.0) (coefficient R a) (coefficient R b) (coefficient_above R a)
      (coefficient_above R b) k l

  -- degrees add up where the leading coefficients do not multiply to 0
  pub degree-mul : (a b : Poly R) → R.◌⊗◌ (lead R a) (lead R b) ≢ R.zero
      → degree (P.◌⊗◌ a b).0 ≡ degree a.0 + degree b.0
  degree-mul a b h =
      degree_eq R (P.◌⊗◌ a b) (degree a.0 + degree b.0) (λ e. h (sym (coefficient-mul_top a b) ∙ e))
      (coefficient-mul_above a b)

  pub lead-mul : (a b : Poly R) → R.◌⊗◌ (lead R a) (lead R b) ≢ R.zero
      → lead R (P.◌⊗◌ a b) ≡ R.◌⊗◌ (lead R a) (lead R b)
  lead-mul a b h = ap (coefficient R (P.◌⊗◌ a b)) (degree-mul a b h) ∙ coefficient-mul_top a b

  pub mul-ne-zero : (a b : Poly R) → R.◌⊗◌ (lead R a) (lead R b) ≢ R.zero → P.◌⊗◌ a b ≢ P.zero
  mul-ne-zero a b h = ne_zero_of_lead (P.◌⊗◌ a b) (λ e. h (sym (lead-mul a b h) ∙ e))

  pub degree-constant : (c : K) → degree (constant R Z c).0 ≡ 0
  degree-constant c =
      omega (
        arith,
        length_le R (constant R Z c) 1 (λ k l. coefficient-constant R Z c k ∙ constant_past R.zero c k l),
        degree_lt (constant R Z c),
      )
    where
      degree_lt : (a : Poly R) → length a.0 ≤ 1 → degree a.0 ≡ 0
      degree_lt a l = go a.0 l
        where
          go : (xs : List K) → length xs ≤ 1 → degree xs ≡ 0
          go [] l = refl
          go (x ∷ xs) l = omega arith

  pub lead-constant : (c : K) → lead R (constant R Z c) ≡ c
  lead-constant c = ap (coefficient R (constant R Z c)) (degree-constant c) ∙ coefficient-constant R Z c 0

  -- a polynomial of degree 0 is a constant
  pub eq_constant : (a : Poly R) → degree a.0 ≡ 0 → a ≡ constant R Z (coefficient R a 0)
  eq_constant a d = Poly-path R a (constant R Z (coefficient R a 0)) each
    where
      each : (k : ℕ) → coefficient R a k ≡ coefficient R (constant R Z (coefficient R a 0)) k
      each zero = sym (coefficient-constant R Z (coefficient R a 0) 0)
      each (suc k) = coefficient_above R a (suc k) (omega arith)
          ∙ sym (coefficient-constant R Z (coefficient R a 0) (suc k))
