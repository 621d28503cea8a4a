-- Binomial coefficients, and the binomial theorem.
use Rattle.std.specs.Prelude.{◌≡◌, ℕ, zero, suc, ◌-◌, ◌*◌, ◌<◌}
use Rattle.std.specs.Int.{◌∣◌}
use Rattle.std.proofs.Common.{refl, sym, ◌∙◌, ap, ap₂, subst, arith, ⊎_elim}
use Rattle.std.proofs.Math.Nat.{dvd-mul_right}
use Rattle.theory_rings.specs.Ring.{CommRingOn}
use Rattle.theory_rings.specs.Prime.{IsPrime}
use Rattle.theory_rings.specs.Sum.{sum}
use Rattle.theory_rings.specs.Power.{times}
use Rattle.theory_rings.specs.Binomial.{choose, BinomialLaw}
use Rattle.theory_rings.proofs.Rings.RingLaws.{add-zero, add_left_comm}
use Rattle.theory_rings.proofs.Sums.Sums.{sum_congr, sum-add, sum_first}
use Rattle.theory_rings.proofs.Powers.Times.{one-times, add-times}
use Rattle.theory_rings.proofs.Numbers.Primes.{IsPrime-dvd-mul, IsPrime-not_dvd}
use Rattle.theory_rings.proofs.Rings.Semirings.{CommSemiringOn, semiring, power_in, add-mul, mul-sum, mul-times_comm}
use Rattle.theory_rings.proofs.Rings.Semirings.{mul_left_comm}

pub choose-eq-zero_of_lt : (n k : ℕ) → n < k → choose n k ≡ 0
choose-eq-zero_of_lt n zero l = absurd (omega arith)
choose-eq-zero_of_lt zero (suc k) l = refl
choose-eq-zero_of_lt (suc n) (suc k) l =
    let a = choose-eq-zero_of_lt n k (omega arith) in let b = choose-eq-zero_of_lt n (suc k) (omega arith) in
    omega arith

pub choose_self : (n : ℕ) → choose n n ≡ 1
choose_self zero = refl
choose_self (suc n) = let a = choose_self n in let b = choose-eq-zero_of_lt n (suc n) (omega arith) in omega arith

-- absorption
pub suc-mul-choose : (n k : ℕ) → suc k * choose (suc n) (suc k) ≡ suc n * choose n k
suc-mul-choose zero zero = refl
suc-mul-choose zero (suc k) = omega arith
suc-mul-choose (suc n) zero = let a = suc-mul-choose n zero in omega arith
suc-mul-choose (suc n) (suc k) = let a = suc-mul-choose n k in let b = suc-mul-choose n (suc k) in omega arith

-- a prime divides its inner coefficients
pub IsPrime-dvd-choose : (p : ℕ) → IsPrime p → (k : ℕ) → 0 < k → k < p → p ∣ choose p k
IsPrime-dvd-choose zero prime k h l = absurd (omega arith)
IsPrime-dvd-choose (suc n) prime zero h l = absurd (omega arith)
IsPrime-dvd-choose (suc n) prime (suc k) h l = ⊎_elim
    (λ (d : suc n ∣ suc k). absurd (IsPrime-not_dvd (suc n) prime (suc k) h l d))
    (λ (d : suc n ∣ choose (suc n) (suc k)). d)
    (IsPrime-dvd-mul (suc n) prime (suc k) (choose (suc n) (suc k))
    (subst (λ x. suc n ∣ x) (sym (suc-mul-choose n k)) (dvd-mul_right (suc n) (choose n k))))

module _ {K : Type 0} (S : CommSemiringOn K) (a b : K) where
  infixl 65 ◌⊕◌
  infixl 70 ◌⊗◌
  open S use {monoid, ◌⊕◌, ◌⊗◌}

  -- the term of the n-th power of a + b with k factors a
  abbrev pub binomial_term : ℕ → ℕ → K
  binomial_term n k = times monoid (choose n k) (power_in S a k ⊗ power_in S b (n - k))

  -- a times a term, and what b times the next one comes to
  abbrev more_left : ℕ → ℕ → K
  more_left n k = times monoid (choose n k) (power_in S a (suc k) ⊗ power_in S b (n - k))

  abbrev more_right : ℕ → ℕ → K
  more_right n k = times monoid (choose n (suc k)) (power_in S a (suc k) ⊗ power_in S b (n - k))

  mul-term_left : (n k : ℕ) → a ⊗ binomial_term n k ≡ more_left n k
  mul-term_left n k =
      mul-times_comm S (choose n k) a (power_in S a k ⊗ power_in S b (n - k))
      ∙ ap (times monoid (choose n k)) (sym (S.mul_assoc a (power_in S a k) (power_in S b (n - k))))

  mul-term_right : (n k : ℕ)
      → b ⊗ binomial_term n k ≡ times monoid (choose n k) (power_in S a k ⊗ power_in S b (suc (n - k)))
  mul-term_right n k =
      mul-times_comm S (choose n k) b (power_in S a k ⊗ power_in S b (n - k))
      ∙ ap (times monoid (choose n k)) (mul_left_comm S b (power_in S a k) (power_in S b (n - k)))

  term-first : (n : ℕ) → b ⊗ binomial_term n 0 ≡ binomial_term (suc n) 0
  term-first n = let e : suc (n - 0) ≡ suc n - 0 = omega arith in
      mul-term_right n 0 ∙ ap (λ m. times monoid 1 (S.one ⊗ power_in S b m)) e

  term-next : (n k : ℕ) → k < n → b ⊗ binomial_term n (suc k) ≡ more_right n k
  term-next n k l = let e : suc (n - suc k) ≡ n - k = omega arith in
      mul-term_right n (suc k) ∙ ap (λ m. times monoid (choose n (suc k)) (power_in S a (suc k) ⊗ power_in S b m)) e

  term-suc : (n k : ℕ) → binomial_term (suc n) (suc k) ≡ more_left n k ⊕ more_right n k
  term-suc n k = let e : suc n - suc k ≡ n - k = omega arith in
      ap (λ m. times monoid (choose (suc n) (suc k)) (power_in S a (suc k) ⊗ power_in S b m)) e
      ∙ add-times monoid (choose n k) (choose n (suc k)) (power_in S a (suc k) ⊗ power_in S b (n - k))

  -- the terms that b brings, but for the first
  right-sum : (n : ℕ) → b ⊗ sum monoid (suc n) (binomial_term n) ≡ binomial_term (suc n) 0 ⊕ sum monoid (suc n)
      (more_right n)
  right-sum n =
      mul-sum S (suc n) b (binomial_term n)
      ∙ sum_first monoid n (λ k. b ⊗ binomial_term n k)
      ∙ ap₂ (λ x y. x ⊕ y) (term-first n)
      (sum_congr monoid n (λ k. b ⊗ binomial_term n (suc k)) (more_right n) (term-next n)
      ∙ sym (add-zero monoid (sum monoid n (more_right n)))
      ∙ ap (λ x. sum monoid n (more_right n) ⊕ x)
      (ap (λ m. times monoid m (power_in S a (suc n) ⊗ power_in S b (n - n)))
      (sym (choose-eq-zero_of_lt n (suc n) (omega arith)))))

  -- the binomial theorem
  pub add-power : (n : ℕ) → power_in S (a ⊕ b) n ≡ sum monoid (suc n) (binomial_term n)
  add-power zero = sym (S.zero-add (binomial_term 0 0) ∙ one-times monoid (S.one ⊗ S.one) ∙ S.one-mul S.one)
  add-power (suc n) =
      let P = sum monoid (suc n) (binomial_term n) in
      let A = sum monoid (suc n) (more_left n) in
      let D = sum monoid (suc n) (more_right n) in
      let t = binomial_term (suc n) in
      ap (λ x. (a ⊕ b) ⊗ x) (add-power n) ∙ add-mul S a b P
      ∙ ap₂ (λ x y. x ⊕ y) (mul-sum S (suc n) a (binomial_term n)
      ∙ sum_congr monoid (suc n) (λ k. a ⊗ binomial_term n k) (more_left n) (λ k _. mul-term_left n k))
      (right-sum n)
      ∙ add_left_comm monoid A (t 0) D
      ∙ ap (λ x. t 0 ⊕ x) (sym (sum-add monoid (suc n) (more_left n) (more_right n))
      ∙ sum_congr monoid (suc n) (λ k. more_left n k ⊕ more_right n k) (λ k. t (suc k)) (λ k _. sym (term-suc n k)))
      ∙ sym (sum_first monoid (suc n) t)

-- the binomial theorem in a commutative ring
pub binomial_theorem : {K : Type 0} (C : CommRingOn K) → BinomialLaw C
binomial_theorem C a b n = add-power (semiring C) a b n
