-- A remainder by a monic polynomial times the class of the variable, and times a constant, coefficient by coefficient:
-- the coefficients move up by one, and the top one comes back with the coefficients of the modulus.
use Rattle.std.specs.Prelude.{◌≡◌, ℕ, zero, suc, ◌<◌, ◌≤◌, ◌⊎◌, Bool}
use Rattle.std.proofs.Common.{refl, sym, ◌∙◌, ap, ap₂, arith, ⊎_elim}
use Rattle.std.proofs.lemmas.Bool.{cases_lt, cases_eq}
use Rattle.theory_rings.specs.Ring.{CommRingOn, ZeroTest}
use Rattle.theory_rings.specs.Homomorphism.{IsRingHom}
use Rattle.theory_rings.specs.Polynomial.{Poly, coefficient, degree, IsMonic}
use Rattle.theory_rings.specs.Remainder.{Remainder}
use Rattle.theory_rings.proofs.Rings.RingLaws.{mul-zero}
use Rattle.theory_rings.proofs.Rings.Solver.{◌⊞◌, minus, ring2}
use Rattle.theory_rings.proofs.Polynomials.PolynomialRing.{series_prepend, Poly-path, polynomials, coefficient-add}
use Rattle.theory_rings.proofs.Polynomials.PolynomialRing.{constant, prepend, coefficient-prepend, coefficient_past}
use Rattle.theory_rings.proofs.Polynomials.Constants.{coefficient-constant_mul, variable, prepend-zero}
use Rattle.theory_rings.proofs.Polynomials.Degrees.{length-degree}
use Rattle.theory_rings.proofs.Polynomials.Remainders.{remainders, remainder, remainder_hom, remainder-small}
use Rattle.theory_rings.proofs.Polynomials.Remainders.{remainder_eq}
use Rattle.theory_rings.proofs.Polynomials.RemainderRings.{remainder-past, small_remainder, small_remainder-coefficient}
use Rattle.theory_rings.proofs.Polynomials.RemainderRings.{small_remainder-all}

module _ {K : Type 0} (R : CommRingOn K) {is_zero : K → Bool} (Z : ZeroTest R.zero is_zero) (m : Poly R)
    (monic : IsMonic R m) where
  infixl 65 ◌⊕◌
  infixl 70 ◌⊗◌
  open R use {◌⊕◌, ◌⊗◌, neg}

  abbrev P : CommRingOn (Poly R)
  P = polynomials R Z

  abbrev X : CommRingOn (Remainder R m)
  X = remainders R Z m monic

  abbrev coef : Remainder R m → ℕ → K
  coef y k = coefficient R y.0 k

  -- the class of the variable, and that of a constant
  pub variable_class : Remainder R m
  variable_class = remainder R Z m monic (variable R Z)

  pub constant_class : K → Remainder R m
  constant_class c = remainder R Z m monic (constant R Z c)

  abbrev hom : IsRingHom P.ring X.ring (remainder R Z m monic)
  hom = remainder_hom R Z m monic

  pub constant_class-mul : (c : K) (y : Remainder R m) (k : ℕ) → coef (X.◌⊗◌ (constant_class c) y) k ≡ c ⊗ coef y k
  unfolding constant_class
  constant_class-mul c y k =
      let r = small_remainder R Z m monic (λ k. c ⊗ coef y k) in
      let r_is : (k : ℕ) → coef r k ≡ c ⊗ coef y k = small_remainder-all R Z m monic (λ k. c ⊗ coef y k)
      (λ k l. ap (λ x. c ⊗ x) (remainder-past R m monic y k l) ∙ mul-zero R.ring c) in
      let e : r.0 ≡ P.◌⊗◌ (constant R Z c) y.0 = Poly-path R r.0 (P.◌⊗◌ (constant R Z c) y.0)
      (λ k. r_is k ∙ sym (coefficient-constant_mul R Z c y.0 k)) in
      ap (λ (x : Remainder R m). coef x k)
      (ap (X.◌⊗◌ (remainder R Z m monic (constant R Z c))) (sym (remainder-small R Z m monic y))
      ∙ sym (hom.map-mul (constant R Z c) y.0) ∙ ap (remainder R Z m monic) (sym e) ∙ remainder-small R Z m monic r)
      ∙ r_is k

  module _ (c : ℕ) (height : degree m.0 ≡ suc c) where
    -- coefficient k of the product by the class of the variable
    abbrev shifted : Remainder R m → ℕ → K
    shifted y k = series_prepend R.zero (coef y) k ⊕ neg (coef y c ⊗ coefficient R m k)

    lead-one : coefficient R m (suc c) ≡ R.one
    lead-one = ap (coefficient R m) (sym height) ∙ monic.leading

    module _ (y : Remainder R m) where
      abbrev r : Remainder R m
      r = small_remainder R Z m monic (shifted y)

      each : (k : ℕ) → series_prepend R.zero (coef y) k ≡ coef r k ⊕ coef y c ⊗ coefficient R m k
      each k = ⊎_elim
          (λ (l : k < suc c).
          ring2 R (λ a b. (a, a ⊞ minus b ⊞ b)) refl (series_prepend R.zero (coef y) k) (coef y c ⊗ coefficient R m k)
          ∙ ap (λ x. x ⊕ coef y c ⊗ coefficient R m k)
          (sym (small_remainder-coefficient R Z m monic (shifted y) k (let h = height in omega arith))))
          (λ (l : suc c ≤ k). above k l (cases_eq k (suc c)))
          (cases_lt k (suc c))
        where
          past : (k : ℕ) → suc c ≤ k → coef r k ≡ R.zero
          past k l = remainder-past R m monic r k (let h = height in omega arith)

          top : (k : ℕ) → k ≡ suc c → series_prepend R.zero (coef y) k ≡ coef r k ⊕ coef y c ⊗ coefficient R m k
          top k e = ap (series_prepend R.zero (coef y)) e
              ∙ sym (ap₂ (λ a b. a ⊕ coef y c ⊗ b) (past k (omega arith)) (ap (coefficient R m) e ∙ lead-one)
              ∙ ap (λ x. R.zero ⊕ x) (R.mul-one (coef y c)) ∙ R.zero-add (coef y c))

          beyond : (k : ℕ) → suc c < suc k
              → series_prepend R.zero (coef y) (suc k) ≡ coef r (suc k) ⊕ coef y c ⊗ coefficient R m (suc k)
          beyond k l = remainder-past R m monic y k (let h = height in omega arith)
              ∙ sym (ap₂ (λ a b. a ⊕ coef y c ⊗ b) (past (suc k) (omega arith))
              (coefficient_past R m (suc k)
              (let h = height in let e = length-degree R m monic.nonzero in omega arith))
              ∙ ap (λ x. R.zero ⊕ x) (mul-zero R.ring (coef y c)) ∙ R.zero-add R.zero)

          further : (k : ℕ) → suc c < k
              → series_prepend R.zero (coef y) k ≡ coef r k ⊕ coef y c ⊗ coefficient R m k
          further zero l = absurd (omega arith)
          further (suc k) l = beyond k l

          strictly : (k : ℕ) → suc c ≤ k → (k ≡ suc c → ⊥) → suc c < k
          strictly k l n = ⊎_elim (λ (h : suc c < k). h) (λ (h : k ≤ suc c). absurd (n (omega arith)))
              (cases_lt (suc c) k)

          above : (k : ℕ) → suc c ≤ k → (k ≡ suc c) ⊎ (k ≡ suc c → ⊥)
              → series_prepend R.zero (coef y) k ≡ coef r k ⊕ coef y c ⊗ coefficient R m k
          above k l d = ⊎_elim (λ (e : k ≡ suc c). top k e)
              (λ (n : k ≡ suc c → ⊥). further k (strictly k l n)) d

    pub variable_class-mul : (y : Remainder R m) (k : ℕ) → k ≤ c → coef (X.◌⊗◌ variable_class y) k ≡ shifted y k
    unfolding variable_class
    variable_class-mul y k l =
        let x = variable R Z in
        let q = constant R Z (coef y c) in
        let s : Remainder R m = r y in
        let e : P.◌⊗◌ x y.0 ≡ P.◌⊕◌ s.0 (P.◌⊗◌ q m) = prepend-zero R Z y.0
        ∙ Poly-path R (prepend R Z R.zero y.0) (P.◌⊕◌ s.0 (P.◌⊗◌ q m)) (λ k.
        coefficient-prepend R Z R.zero y.0 k ∙ each y k
        ∙ sym (coefficient-add R Z s.0 (P.◌⊗◌ q m) k
        ∙ ap (λ a. coef s k ⊕ a) (coefficient-constant_mul R Z (coef y c) m k))) in
        ap (λ (z : Remainder R m). coef z k)
        (ap (X.◌⊗◌ (remainder R Z m monic x)) (sym (remainder-small R Z m monic y))
        ∙ sym (hom.map-mul x y.0) ∙ remainder_eq R Z m monic (P.◌⊗◌ x y.0) s.0 (q, e) ∙ remainder-small R Z m monic s)
        ∙ small_remainder-coefficient R Z m monic (shifted y) k (let h = height in omega arith)
