-- Constants and the variable as polynomials.
use Rattle.std.specs.Prelude.{◌≡◌, ◌≢◌, ℕ, zero, suc, ◌<◌, Bool}
use Rattle.std.proofs.Common.{refl, sym, ◌∙◌, ap, ap₂, arith}
use Rattle.theory_rings.specs.Ring.{CommRingOn, ZeroTest}
use Rattle.theory_rings.specs.Polynomial.{Poly, coefficient, degree, IsConstant, IsVariable, convolution}
use Rattle.theory_rings.specs.Polynomial.{constant_coefficients}
use Rattle.theory_rings.specs.Homomorphism.{IsRingHom}
use Rattle.theory_rings.specs.Power.{power}
use Rattle.theory_rings.proofs.Rings.RingLaws.{add-zero, zero-mul, mul-zero}
use Rattle.theory_rings.proofs.Polynomials.Series.{shift, tail, constant-convolution, convolution_congr}
use Rattle.theory_rings.proofs.Polynomials.Series.{convolution-zero, convolution-suc}
use Rattle.theory_rings.proofs.Polynomials.PolynomialRing.{series_prepend, Poly-path, polynomials, coefficient-zero}
use Rattle.theory_rings.proofs.Polynomials.PolynomialRing.{coefficient-one, coefficient-add, coefficient-mul, constant}
use Rattle.theory_rings.proofs.Polynomials.PolynomialRing.{coefficient-constant, prepend, coefficient-prepend}
use Rattle.theory_rings.proofs.Polynomials.Degrees.{degree_eq}

module _ {K : Type 0} (R : CommRingOn K) {is_zero : K → Bool} (Z : ZeroTest R.zero is_zero) where
  abbrev P : CommRingOn (Poly R)
  P = polynomials R Z

  -- a constant times a polynomial
  pub coefficient-constant_mul : (c : K) (a : Poly R) (k : ℕ)
      → coefficient R (P.◌⊗◌ (constant R Z c) a) k ≡ R.◌⊗◌ c (coefficient R a k)
  coefficient-constant_mul c a k =
      coefficient-mul R Z (constant R Z c) a k
      ∙ convolution_congr R.ring (coefficient R (constant R Z c)) (coefficient R a) (constant_coefficients R.zero c)
      (coefficient R a) (coefficient-constant R Z c) (λ i. refl) k
      ∙ constant-convolution R.ring c (coefficient R a) k

  -- the polynomial t
  pub variable : Poly R
  variable = prepend R Z R.zero P.one

  -- t times a polynomial
  pub prepend-zero : (a : Poly R) → P.◌⊗◌ variable a ≡ prepend R Z R.zero a
  unfolding variable
  prepend-zero a = Poly-path R (P.◌⊗◌ variable a) (prepend R Z R.zero a) (λ k.
      coefficient-mul R Z variable a k ∙ each k ∙ sym (coefficient-prepend R Z R.zero a k))
    where
      each : (k : ℕ) → convolution R.ring (coefficient R variable) (coefficient R a) k ≡ series_prepend R.zero
          (coefficient R a) k
      each zero =
          convolution-zero R.ring (coefficient R variable) (coefficient R a)
          ∙ ap (λ x. R.◌⊗◌ x (coefficient R a 0)) (coefficient-prepend R Z R.zero P.one 0)
          ∙ zero-mul R.ring (coefficient R a 0)
      each (suc k) =
          convolution-suc R.ring (coefficient R variable) (coefficient R a) k
          ∙ ap₂ R.◌⊕◌
          (ap (λ x. R.◌⊗◌ x (coefficient R a (suc k))) (coefficient-prepend R Z R.zero P.one 0)
          ∙ zero-mul R.ring (coefficient R a (suc k)))
          (convolution_congr R.ring (tail (coefficient R variable)) (coefficient R a) (coefficient R P.one)
          (coefficient R a)
          (λ i. coefficient-prepend R Z R.zero P.one (suc i)) (λ i. refl) k
          ∙ sym (coefficient-mul R Z P.one a k) ∙ ap (λ x. coefficient R x k) (P.one-mul a))
          ∙ R.zero-add (coefficient R a k)

  pub prepend_eq : (c : K) (a : Poly R) → prepend R Z c a ≡ P.◌⊕◌ (constant R Z c) (P.◌⊗◌ variable a)
  prepend_eq c a = Poly-path R (prepend R Z c a) (P.◌⊕◌ (constant R Z c) (P.◌⊗◌ variable a)) (λ k.
      coefficient-prepend R Z c a k ∙ each k
      ∙ sym (coefficient-add R Z (constant R Z c) (P.◌⊗◌ variable a) k
      ∙ ap₂ R.◌⊕◌ (coefficient-constant R Z c k)
      (ap (λ x. coefficient R x k) (prepend-zero a) ∙ coefficient-prepend R Z R.zero a k)))
    where
      each : (k : ℕ) → series_prepend c (coefficient R a) k
          ≡ R.◌⊕◌ (constant_coefficients R.zero c k) (series_prepend R.zero (coefficient R a) k)
      each zero = sym (add-zero R.monoid c)
      each (suc k) = sym (R.zero-add (coefficient R a k))

  pub constant-zero : constant R Z R.zero ≡ P.zero
  constant-zero = Poly-path R (constant R Z R.zero) P.zero
      (λ k. coefficient-constant R Z R.zero k ∙ each k ∙ sym (coefficient-zero R Z k))
    where
      each : (k : ℕ) → constant_coefficients R.zero R.zero k ≡ R.zero
      each zero = refl
      each (suc k) = refl

  pub constant-one : constant R Z R.one ≡ P.one
  constant-one = Poly-path R (constant R Z R.one) P.one
      (λ k. coefficient-constant R Z R.one k ∙ sym (coefficient-one R Z k))

  -- the constants are a copy of R
  pub constant_hom : IsRingHom R.ring P.ring (constant R Z)
  constant_hom = record {
    map-one = constant-one;
    map-add = λ c d. Poly-path R (constant R Z (R.◌⊕◌ c d)) (P.◌⊕◌ (constant R Z c) (constant R Z d)) (λ k.
        coefficient-constant R Z (R.◌⊕◌ c d) k ∙ sum c d k
        ∙ sym (coefficient-add R Z (constant R Z c) (constant R Z d) k
        ∙ ap₂ R.◌⊕◌ (coefficient-constant R Z c k) (coefficient-constant R Z d k)));
    map-mul = λ c d. Poly-path R (constant R Z (R.◌⊗◌ c d)) (P.◌⊗◌ (constant R Z c) (constant R Z d)) (λ k.
        coefficient-constant R Z (R.◌⊗◌ c d) k ∙ product c d k
        ∙ sym (coefficient-constant_mul c (constant R Z d) k ∙ ap (R.◌⊗◌ c) (coefficient-constant R Z d k)));
  }
    where
      sum : (c d : K) (k : ℕ) → constant_coefficients R.zero (R.◌⊕◌ c d) k
          ≡ R.◌⊕◌ (constant_coefficients R.zero c k) (constant_coefficients R.zero d k)
      sum c d zero = refl
      sum c d (suc k) = sym (R.zero-add R.zero)

      product : (c d : K) (k : ℕ)
          → constant_coefficients R.zero (R.◌⊗◌ c d) k ≡ R.◌⊗◌ c (constant_coefficients R.zero d k)
      product c d zero = refl
      product c d (suc k) = sym (mul-zero R.ring c)

  pub coefficient-variable : (k : ℕ)
      → coefficient R variable k ≡ series_prepend R.zero (constant_coefficients R.zero R.one) k
  unfolding variable
  coefficient-variable k = coefficient-prepend R Z R.zero P.one k ∙ each k
    where
      each : (k : ℕ) → series_prepend R.zero (coefficient R P.one) k ≡ series_prepend R.zero
          (constant_coefficients R.zero R.one) k
      each zero = refl
      each (suc k) = coefficient-one R Z k

  -- there is one constant c, and one variable
  pub constant_unique : (c : K) (a : Poly R) → IsConstant R c a → a ≡ constant R Z c
  constant_unique c a h = Poly-path R a (constant R Z c) (λ k. h k ∙ sym (coefficient-constant R Z c k))

  pub variable_unique : (a : Poly R) → IsVariable R a → a ≡ variable
  variable_unique a h = Poly-path R a variable each
    where
      each : (k : ℕ) → coefficient R a k ≡ coefficient R variable k
      each zero = h zero ∙ sym (coefficient-variable zero)
      each (suc k) = h (suc k) ∙ sym (coefficient-variable (suc k))

  pub degree-variable : R.one ≢ R.zero → degree variable.0 ≡ 1
  degree-variable h = degree_eq R variable 1 (λ e. h (sym (coefficient-variable 1) ∙ e)) past
    where
      past : (k : ℕ) → 1 < k → coefficient R variable k ≡ R.zero
      past zero l = absurd (omega arith)
      past (suc zero) l = absurd (omega arith)
      past (suc (suc k)) l = coefficient-variable (suc (suc k))

  -- the powers of the variable
  pub coefficient-power_variable : (n k : ℕ)
      → coefficient R (power P.ring variable n) k ≡ shift R.zero n (constant_coefficients R.zero R.one) k
  coefficient-power_variable zero k = coefficient-one R Z k
  coefficient-power_variable (suc n) k =
      ap (λ a. coefficient R a k) (prepend-zero (power P.ring variable n))
      ∙ coefficient-prepend R Z R.zero (power P.ring variable n) k ∙ each k (coefficient-power_variable n)
    where
      each : (k : ℕ) → ((k : ℕ)
          → coefficient R (power P.ring variable n) k ≡ shift R.zero n (constant_coefficients R.zero R.one) k)
          → series_prepend R.zero (coefficient R (power P.ring variable n)) k ≡ shift R.zero (suc n)
          (constant_coefficients R.zero R.one) k
      each zero h = refl
      each (suc k) h = h k
