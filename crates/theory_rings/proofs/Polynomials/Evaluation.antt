-- Evaluation at a point is a homomorphism of rings.
use Rattle.std.specs.Prelude.{◌≡◌, ℕ, suc, ◌+◌, ◌-◌, ◌≤◌, Bool, List, [], ◌∷◌, length}
use Rattle.std.proofs.Common.{refl, sym, ◌∙◌, ap, ap₂, subst, arith}
use Rattle.theory_rings.specs.Ring.{CommRingOn, ZeroTest}
use Rattle.theory_rings.specs.Sum.{sum}
use Rattle.theory_rings.specs.Polynomial.{IsTrimmed, Poly, coefficient}
use Rattle.theory_rings.specs.Homomorphism.{IsRingHom}
use Rattle.theory_rings.specs.Power.{power}
use Rattle.theory_rings.specs.Evaluation.{evaluate}
use Rattle.theory_rings.proofs.Rings.RingLaws.{add-zero, zero-mul}
use Rattle.theory_rings.proofs.Sums.Sums.{sum_congr, sum_eq_zero, sum-add, sum-split, sum_first, mul-sum}
use Rattle.theory_rings.proofs.Rings.Solver.{◌⊞◌, ◌⊠◌, ring3, ring4}
use Rattle.theory_rings.proofs.Rings.Homomorphisms.{map-zero}
use Rattle.theory_rings.proofs.Polynomials.PolynomialRing.{IsTrimmed-tail, Poly-path, coefficient_past, polynomials}
use Rattle.theory_rings.proofs.Polynomials.PolynomialRing.{zero-list, coefficient-zero, coefficient-add}
use Rattle.theory_rings.proofs.Polynomials.PolynomialRing.{coefficient-constant, constant, constant_past, prepend}
use Rattle.theory_rings.proofs.Polynomials.PolynomialRing.{coefficient-prepend, prepend-tail}
use Rattle.theory_rings.proofs.Polynomials.Degrees.{length_le}
use Rattle.theory_rings.proofs.Polynomials.Constants.{coefficient-constant_mul, variable, prepend-zero, prepend_eq}
use Rattle.theory_rings.proofs.Polynomials.Constants.{constant-one}

module _ {K L : Type 0} (R : CommRingOn K) {is_zero : K → Bool} (Z : ZeroTest R.zero is_zero)
    (S : CommRingOn L) (h : K → L) (H : IsRingHom R.ring S.ring h) (x : L) where
  abbrev P : CommRingOn (Poly R)
  P = polynomials R Z

  abbrev term : (ℕ → K) → ℕ → L
  term f k = S.◌⊗◌ (h (f k)) (power S.ring x k)

  abbrev value : Poly R → L
  value = evaluate R S h x

  term-zero : (f : ℕ → K) (k : ℕ) → f k ≡ R.zero → term f k ≡ S.zero
  term-zero f k e =
      ap (λ c. S.◌⊗◌ (h c) (power S.ring x k)) e
      ∙ ap (λ c. S.◌⊗◌ c (power S.ring x k)) (map-zero R.ring S.ring h H) ∙ zero-mul S.ring (power S.ring x k)

  -- terms past the length change nothing
  pub evaluate_long : (a : Poly R) (n : ℕ) → length a.0 ≤ n → value a ≡ sum S.monoid n (term (coefficient R a))
  evaluate_long a n l =
      let m : ℕ = length a.0 in
      let e : m + (n - m) ≡ n = omega arith in
      sym (ap (λ k. sum S.monoid k (term (coefficient R a))) (sym e)
      ∙ sum-split S.monoid m (n - m) (term (coefficient R a))
      ∙ ap (S.◌⊕◌ (value a)) (sum_eq_zero S.monoid (n - m) (λ i. term (coefficient R a) (m + i))
      (λ i b. term-zero (coefficient R a) (m + i) (coefficient_past R a (m + i) (omega arith))))
      ∙ add-zero S.monoid (value a))

  pub evaluate-add : (a b : Poly R) → value (P.◌⊕◌ a b) ≡ S.◌⊕◌ (value a) (value b)
  evaluate-add a b =
      let n : ℕ = length (P.◌⊕◌ a b).0 + (length a.0 + length b.0) in
      evaluate_long (P.◌⊕◌ a b) n (omega arith)
      ∙ sum_congr S.monoid n (term (coefficient R (P.◌⊕◌ a b)))
      (λ k. S.◌⊕◌ (term (coefficient R a) k) (term (coefficient R b) k))
      (λ k l. ap (λ c. S.◌⊗◌ (h c) (power S.ring x k)) (coefficient-add R Z a b k)
      ∙ ap (λ c. S.◌⊗◌ c (power S.ring x k)) (H.map-add (coefficient R a k) (coefficient R b k))
      ∙ S.add-mul (h (coefficient R a k)) (h (coefficient R b k)) (power S.ring x k))
      ∙ sum-add S.monoid n (term (coefficient R a)) (term (coefficient R b))
      ∙ sym (ap₂ S.◌⊕◌ (evaluate_long a n (omega arith)) (evaluate_long b n (omega arith)))

  pub evaluate-constant : (c : K) → value (constant R Z c) ≡ h c
  evaluate-constant c =
      evaluate_long (constant R Z c) 1
      (length_le R (constant R Z c) 1 (λ k l. coefficient-constant R Z c k ∙ constant_past R.zero c k l))
      ∙ S.zero-add (term (coefficient R (constant R Z c)) 0)
      ∙ S.mul-one (h (coefficient R (constant R Z c) 0)) ∙ ap h (coefficient-constant R Z c 0)

  pub evaluate-constant_mul : (c : K) (a : Poly R) → value (P.◌⊗◌ (constant R Z c) a) ≡ S.◌⊗◌ (h c) (value a)
  evaluate-constant_mul c a =
      let n : ℕ = length (P.◌⊗◌ (constant R Z c) a).0 + length a.0 in
      evaluate_long (P.◌⊗◌ (constant R Z c) a) n (omega arith)
      ∙ sum_congr S.monoid n (term (coefficient R (P.◌⊗◌ (constant R Z c) a)))
      (λ k. S.◌⊗◌ (h c) (term (coefficient R a) k))
      (λ k l. ap (λ b. S.◌⊗◌ (h b) (power S.ring x k)) (coefficient-constant_mul R Z c a k)
      ∙ ap (λ b. S.◌⊗◌ b (power S.ring x k)) (H.map-mul c (coefficient R a k))
      ∙ S.mul_assoc (h c) (h (coefficient R a k)) (power S.ring x k))
      ∙ sym (mul-sum S.ring n (h c) (term (coefficient R a)))
      ∙ ap (S.◌⊗◌ (h c)) (sym (evaluate_long a n (omega arith)))

  -- the value of c + t · a
  pub evaluate-prepend : (c : K) (a : Poly R) → value (prepend R Z c a) ≡ S.◌⊕◌ (h c) (S.◌⊗◌ x (value a))
  evaluate-prepend c a =
      let n : ℕ = length (prepend R Z c a).0 + length a.0 in
      evaluate_long (prepend R Z c a) (suc n) (omega arith)
      ∙ sum_first S.monoid n (term (coefficient R (prepend R Z c a)))
      ∙ ap₂ S.◌⊕◌ (S.mul-one (h (coefficient R (prepend R Z c a) 0)) ∙ ap h (coefficient-prepend R Z c a 0))
      (sum_congr S.monoid n (λ k. term (coefficient R (prepend R Z c a)) (suc k))
      (λ k. S.◌⊗◌ x (term (coefficient R a) k))
      (λ k l. ap (λ b. S.◌⊗◌ (h b) (power S.ring x (suc k))) (coefficient-prepend R Z c a (suc k))
      ∙ ring3 S (λ b p x. (b ⊠ (x ⊠ p), x ⊠ (b ⊠ p))) refl (h (coefficient R a k)) (power S.ring x k) x)
      ∙ sym (mul-sum S.ring n x (term (coefficient R a)))
      ∙ ap (S.◌⊗◌ x) (sym (evaluate_long a n (omega arith))))

  pub evaluate-zero : value P.zero ≡ S.zero
  evaluate-zero = evaluate_long P.zero 0 (omega (arith, ap length (zero-list R Z)))

  pub evaluate-mul : (a b : Poly R) → value (P.◌⊗◌ a b) ≡ S.◌⊗◌ (value a) (value b)
  evaluate-mul a b = go a.0 a.1
    where
      step : (c : K) (d : Poly R) → value (P.◌⊗◌ d b) ≡ S.◌⊗◌ (value d) (value b)
          → value (P.◌⊗◌ (prepend R Z c d) b) ≡ S.◌⊗◌ (value (prepend R Z c d)) (value b)
      step c d e =
          ap (λ y. value (P.◌⊗◌ y b)) (prepend_eq R Z c d)
          ∙ ap value (ring4 P (λ c t d b. ((c ⊞ t ⊠ d) ⊠ b, c ⊠ b ⊞ t ⊠ (d ⊠ b))) refl (constant R Z c)
          (variable R Z) d b
          ∙ ap (P.◌⊕◌ (P.◌⊗◌ (constant R Z c) b)) (prepend-zero R Z (P.◌⊗◌ d b)))
          ∙ evaluate-add (P.◌⊗◌ (constant R Z c) b) (prepend R Z R.zero (P.◌⊗◌ d b))
          ∙ ap₂ S.◌⊕◌ (evaluate-constant_mul c b)
          (evaluate-prepend R.zero (P.◌⊗◌ d b)
          ∙ ap₂ S.◌⊕◌ (map-zero R.ring S.ring h H) (ap (S.◌⊗◌ x) e) ∙ S.zero-add (S.◌⊗◌ x (S.◌⊗◌ (value d) (value b))))
          ∙ ring4 S (λ c x d b. (c ⊠ b ⊞ x ⊠ (d ⊠ b), (c ⊞ x ⊠ d) ⊠ b)) refl (h c) x (value d) (value b)
          ∙ ap (λ y. S.◌⊗◌ y (value b)) (sym (evaluate-prepend c d))

      go : (xs : List K) (t : IsTrimmed R.zero xs)
          → (let c : Poly R = (xs, t) in value (P.◌⊗◌ c b) ≡ S.◌⊗◌ (value c) (value b))
      go [] t =
          let c : Poly R = ([], t) in
          let e : c ≡ P.zero = Poly-path R c P.zero (λ k. sym (coefficient-zero R Z k)) in
          ap value (ap (λ y. P.◌⊗◌ y b) e ∙ zero-mul P.ring b) ∙ evaluate-zero ∙ sym (zero-mul S.ring (value b))
      go (c ∷ xs) t =
          subst (λ y. value (P.◌⊗◌ y b) ≡ S.◌⊗◌ (value y) (value b)) (prepend-tail R Z c xs t)
          (step c (xs, IsTrimmed-tail R.zero c xs t) (go xs (IsTrimmed-tail R.zero c xs t)))

  -- evaluation at x keeps 1, sums and products
  pub evaluate_hom : IsRingHom P.ring S.ring value
  evaluate_hom = record {
    map-one = ap value (sym (constant-one R Z)) ∙ evaluate-constant R.one ∙ H.map-one;
    map-add = evaluate-add;
    map-mul = evaluate-mul;
  }

  -- and takes the variable to x
  pub evaluate-variable : value (variable R Z) ≡ x
  evaluate-variable =
      ap value (sym (P.mul-one (variable R Z)) ∙ prepend-zero R Z P.one)
      ∙ evaluate-prepend R.zero P.one
      ∙ ap₂ S.◌⊕◌ (map-zero R.ring S.ring h H)
      (ap (S.◌⊗◌ x) (ap value (sym (constant-one R Z)) ∙ evaluate-constant R.one ∙ H.map-one) ∙ S.mul-one x)
      ∙ S.zero-add x
