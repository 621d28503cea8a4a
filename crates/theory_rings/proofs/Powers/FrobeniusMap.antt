-- The Frobenius map x ↦ x^p, where p is prime and p times 1 is 0: it keeps sums, and in a field it is one to one.
use Rattle.std.specs.Prelude.{◌≡◌, ℕ, zero, suc, ◌-◌, ◌/◌, ◌^◌, ◌<◌}
use Rattle.std.proofs.Common.{sym, ◌∙◌, ap, ap₂, arith}
use Rattle.std.proofs.Math.Nat.{mul-div_cancel', pow-zero, pow-suc, one-le-pow}
use Rattle.theory_rings.specs.Ring.{CommRingOn, FieldOn}
use Rattle.theory_rings.specs.Homomorphism.{IsRingHom}
use Rattle.theory_rings.specs.Prime.{IsPrime}
use Rattle.theory_rings.specs.Sum.{sum}
use Rattle.theory_rings.specs.Power.{power, times}
use Rattle.theory_rings.specs.Binomial.{choose}
use Rattle.theory_rings.proofs.Rings.RingLaws.{add-zero, add_cancel_left}
use Rattle.theory_rings.proofs.Sums.Sums.{sum_congr, sum_first, map-sum}
use Rattle.theory_rings.proofs.Powers.Powers.{power-one, power-mul, power_first, power-zero, power-power}
use Rattle.theory_rings.proofs.Powers.Powers.{power_only_zero}
use Rattle.theory_rings.proofs.Powers.Times.{one-times, mul-times, times-sum, times_char}
use Rattle.theory_rings.proofs.Rings.Semirings.{CommSemiringOn, semiring, power_in}
use Rattle.theory_rings.proofs.Powers.Binomial.{binomial_term, add-power, choose_self, IsPrime-dvd-choose}

module _ {K : Type 0} (S : CommSemiringOn K) (a b : K) where
  infixl 65 ◌⊕◌
  infixl 70 ◌⊗◌
  open S use {monoid, ◌⊕◌, ◌⊗◌}

  -- the terms of the binomial theorem for p = n + 1, and those between the first and the last over p
  module _ (n : ℕ) (prime : IsPrime (suc n)) where
    abbrev term : ℕ → K
    term = binomial_term S a b (suc n)

    abbrev part : ℕ → K
    part i = times monoid (choose (suc n) (suc i) / suc n) (power_in S a (suc i) ⊗ power_in S b (suc n - suc i))

    term-first : term 0 ≡ power_in S b (suc n)
    term-first = let e : suc n - 0 ≡ suc n = omega arith in
        one-times monoid (S.one ⊗ power_in S b (suc n - 0)) ∙ S.one-mul (power_in S b (suc n - 0)) ∙ ap (power_in S b) e

    term-last : term (suc n) ≡ power_in S a (suc n)
    term-last = let e : suc n - suc n ≡ 0 = omega arith in
        let x = power_in S a (suc n) in
        ap₂ (λ k m. times monoid k (x ⊗ power_in S b m)) (choose_self (suc n)) e
        ∙ one-times monoid (x ⊗ S.one) ∙ S.mul_comm x S.one ∙ S.one-mul x

    term-inner : (i : ℕ) → i < n → term (suc i) ≡ times monoid (suc n) (part i)
    term-inner i l =
        let x = power_in S a (suc i) ⊗ power_in S b (suc n - suc i) in
        ap (λ k. times monoid k x)
        (sym (mul-div_cancel' (suc n) (IsPrime-dvd-choose (suc n) prime (suc i) (omega arith) (omega arith))))
        ∙ mul-times monoid (suc n) (choose (suc n) (suc i) / suc n) x

    add-power_suc : power_in S (a ⊕ b) (suc n) ≡ power_in S a (suc n) ⊕ power_in S b (suc n) ⊕ times monoid (suc n)
        (sum monoid n part)
    add-power_suc =
        let x = power_in S a (suc n) in
        let y = power_in S b (suc n) in
        let z = times monoid (suc n) (sum monoid n part) in
        add-power S a b (suc n)
        ∙ ap₂ (λ u v. u ⊕ v)
        (sum_first monoid n term
        ∙ ap₂ (λ u v. u ⊕ v) term-first
        (sum_congr monoid n (λ i. term (suc i)) (λ i. times monoid (suc n) (part i)) term-inner
        ∙ sym (times-sum monoid (suc n) n part)))
        term-last
        ∙ S.add_comm (y ⊕ z) x ∙ sym (S.add_assoc x y z)

  -- in any commutative semiring the p-th power of a sum is the sum of the p-th powers and a multiple of p
  pub add-power_prime : (p : ℕ) → IsPrime p
      → (c : K) × (power_in S (a ⊕ b) p ≡ power_in S a p ⊕ power_in S b p ⊕ times monoid p c)
  add-power_prime zero prime = let h = prime.two_le in absurd (omega arith)
  add-power_prime (suc n) prime = (sum monoid n (part n prime), add-power_suc n prime)

module _ {K : Type 0} (C : CommRingOn K) (p : ℕ) (prime : IsPrime p) (char : times C.monoid p C.one ≡ C.zero) where
  infixl 65 ◌⊕◌
  open C use {ring, monoid, ◌⊕◌}

  -- the p-th power of a sum is the sum of the p-th powers
  pub frobenius-add : (a b : K) → power ring (a ⊕ b) p ≡ power ring a p ⊕ power ring b p
  frobenius-add a b =
      let r = add-power_prime (semiring C) a b p prime in
      r.1 ∙ ap (λ x. power ring a p ⊕ power ring b p ⊕ x) (times_char ring p char r.0)
      ∙ add-zero monoid (power ring a p ⊕ power ring b p)

  -- the map is a homomorphism
  pub frobenius_hom : IsRingHom ring ring (λ x. power ring x p)
  frobenius_hom = record {
    map-one = power-one ring p;
    map-add = frobenius-add;
    map-mul = λ a b. power-mul ring a b (C.mul_comm a b) p;
  }

  frobenius_iterate : (x : K) (i : ℕ) → power ring x (p ^ suc i) ≡ power ring (power ring x (p ^ i)) p
  frobenius_iterate x i = ap (power ring x) (pow-suc p i) ∙ sym (power-power ring x (p ^ i) p)

  -- the same of the map taken i times
  pub frobenius_iterate-add : (i : ℕ) (a b : K)
      → power ring (a ⊕ b) (p ^ i) ≡ power ring a (p ^ i) ⊕ power ring b (p ^ i)
  frobenius_iterate-add zero a b =
      let once : (x : K) → power ring x (p ^ 0) ≡ x = λ x. ap (power ring x) (pow-zero p) ∙ power_first ring x in
      once (a ⊕ b) ∙ sym (ap₂ (λ x y. x ⊕ y) (once a) (once b))
  frobenius_iterate-add (suc i) a b =
      frobenius_iterate (a ⊕ b) i ∙ ap (λ x. power ring x p) (frobenius_iterate-add i a b)
      ∙ frobenius-add (power ring a (p ^ i)) (power ring b (p ^ i))
      ∙ sym (ap₂ (λ x y. x ⊕ y) (frobenius_iterate a i) (frobenius_iterate b i))

  pub frobenius_iterate-sum : (i n : ℕ) (f : ℕ → K)
      → power ring (sum monoid n f) (p ^ i) ≡ sum monoid n (λ k. power ring (f k) (p ^ i))
  frobenius_iterate-sum i n f =
      let h = prime.two_le in
      let l = one-le-pow i p (omega arith) in
      map-sum monoid monoid (λ x. power ring x (p ^ i)) (power-zero ring (p ^ i) (omega arith))
      (frobenius_iterate-add i) n f

module _ {K : Type 0} (F : FieldOn K) (p : ℕ) (prime : IsPrime p) (char : times F.monoid p F.one ≡ F.zero) where
  infixl 65 ◌⊕◌
  open F use {ring, monoid, ◌⊕◌, neg}

  -- the map is one to one
  pub frobenius_injective : (a b : K) → power ring a p ≡ power ring b p → a ≡ b
  frobenius_injective a b e =
      let d = a ⊕ neg b in
      let whole : d ⊕ b ≡ a = F.add_assoc a (neg b) b ∙ ap (λ x. a ⊕ x) (F.neg-add b) ∙ add-zero monoid a in
      let gone : power ring d p ≡ F.zero = add_cancel_left F.additive (power ring b p) (power ring d p) F.zero
      (F.add_comm (power ring b p) (power ring d p) ∙ sym (frobenius-add F.cring p prime char d b)
      ∙ ap (λ x. power ring x p) whole
      ∙ e ∙ sym (add-zero monoid (power ring b p))) in
      sym whole ∙ ap (λ x. x ⊕ b) (power_only_zero F d p gone) ∙ F.zero-add b
