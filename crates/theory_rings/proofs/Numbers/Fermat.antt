-- Powers modulo a number, Fermat's little theorem, and inverses modulo a prime.
use Rattle.std.specs.Prelude.{◌≡◌, ℕ, zero, suc, ◌+◌, ◌-◌, ◌*◌, ◌%◌, ◌^◌, ◌<◌, ◌≤◌}
use Rattle.std.proofs.Common.{sym, ◌∙◌, ap, ap₂, arith}
use Rattle.std.proofs.Math.Nat as nat
use Rattle.std.proofs.lemmas.Nat.{mod_below, mul-mod_second}
use Rattle.theory_rings.specs.Prime.{IsPrime, HasInversesMod, PrimeLaw}
use Rattle.theory_rings.specs.Power.{power_by_ops}
use Rattle.theory_rings.proofs.Sums.NaturalSums.{sum_const}
use Rattle.theory_rings.proofs.Numbers.Primes.{IsPrime-not_dvd, IsPrime-mul_mod_cancel, IsPrime_of_inverses}
use Rattle.theory_rings.proofs.Rings.Semirings.{naturals, power_in-one, power-naturals}
use Rattle.theory_rings.proofs.Powers.FrobeniusMap.{add-power_prime}

-- a power by the product modulo n is the power modulo n
pub power-mod : (n : ℕ) → 2 ≤ n → (a k : ℕ) → power_by_ops 1 (λ x y. (x * y) % n) a k ≡ a ^ k % n
power-mod n l a zero = sym (ap (λ x. x % n) (nat.pow-zero a) ∙ nat.mod-eq_of_lt l)
power-mod n l a (suc k) =
    ap (λ x. (a * x) % n) (power-mod n l a k) ∙ mul-mod_second a (a ^ k) n ∙ ap (λ x. x % n) (sym (nat.pow-succ' a k))

module _ (p : ℕ) (prime : IsPrime p) where
  suc-pow : (a : ℕ) → (c : ℕ) × (suc a ^ p ≡ a ^ p + 1 + p * c)
  suc-pow a =
      let r = add-power_prime naturals a 1 p prime in
      let e : a + 1 ≡ suc a = omega arith in (
        r.0,
        sym (ap (λ x. x ^ p) e) ∙ sym (power-naturals (a + 1) p) ∙ r.1
            ∙ ap₂ (λ x y. x + y) (ap₂ (λ x y. x + y) (power-naturals a p) (power_in-one naturals p)) (sum_const p r.0),
      )

  -- Fermat's little theorem
  pub fermat : (a : ℕ) → a ^ p % p ≡ a % p
  fermat zero = ap (λ x. x % p) (nothing p prime.two_le)
    where
      nothing : (k : ℕ) → 2 ≤ k → 0 ^ k ≡ 0
      nothing zero l = absurd (omega arith)
      nothing (suc k) l = nat.pow-suc 0 k ∙ nat.mul-zero (0 ^ k)
  fermat (suc a) =
      let r = suc-pow a in
      let e : a + 1 ≡ suc a = omega arith in
      ap (λ x. x % p) r.1 ∙ nat.add-mul-mod_self_left (a ^ p + 1) p r.0
      ∙ sym (nat.mod-add-mod (a ^ p) p 1) ∙ ap (λ x. (x + 1) % p) (fermat a) ∙ nat.mod-add-mod a p 1 ∙ ap (λ x. x % p) e

  -- so the (p - 2)-th power of a number that p does not divide is its inverse modulo p
  pub fermat_inverse : (a : ℕ) → 0 < a → a < p → (a * a ^ (p - 2)) % p ≡ 1
  fermat_inverse a h l =
      let two_le = prime.two_le in
      let e : p ≡ suc (suc (p - 2)) = omega arith in
      let whole : a * (a * a ^ (p - 2)) ≡ a ^ p =
      ap (λ x. a * x) (sym (nat.pow-succ' a (p - 2))) ∙ sym (nat.pow-succ' a (suc (p - 2))) ∙ ap (λ k. a ^ k) (sym e) in
      IsPrime-mul_mod_cancel p prime a (a * a ^ (p - 2)) 1 (IsPrime-not_dvd p prime a h l)
      (ap (λ x. x % p) whole ∙ fermat a ∙ ap (λ x. x % p) (sym (nat.mul-one a)))
      ∙ nat.mod-eq_of_lt two_le

-- modulo a prime each number but 0 has an inverse
pub inverses_of_prime : (p : ℕ) → IsPrime p → HasInversesMod p
inverses_of_prime p prime a h l = (
  a ^ (p - 2) % p,
  mod_below (a ^ (p - 2)) p (omega arith),
  mul-mod_second a (a ^ (p - 2)) p ∙ fermat_inverse p prime a h l,
)

pub prime_law : PrimeLaw
prime_law n = (
  inverses_of_prime n,
  λ two_le inverses.
      IsPrime_of_inverses n two_le (λ a h l. let i = inverses a h l in (i.0, i.2)),
)
