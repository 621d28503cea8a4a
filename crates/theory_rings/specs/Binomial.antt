-- Binomial coefficients and the binomial theorem.
use Rattle.std.specs.Prelude.{◌≡◌, ℕ, zero, suc, ◌+◌, ◌-◌}
use Rattle.theory_rings.specs.Ring.{CommRingOn}
use Rattle.theory_rings.specs.Sum.{sum}
use Rattle.theory_rings.specs.Power.{power, times}

-- the number of ways to take k of n things, by Pascal's rule
abbrev pub choose : ℕ → ℕ → ℕ
choose n zero = 1
choose zero (suc k) = 0
choose (suc n) (suc k) = choose n k + choose n (suc k)

-- a power of a sum is the sum of its terms
abbrev pub BinomialLaw : {K : Type 0} → CommRingOn K → Type 0
BinomialLaw {K} C = (a b : K) (n : ℕ) → power C.ring (C.◌⊕◌ a b) n
    ≡ sum C.monoid (suc n) (λ k. times C.monoid (choose n k) (C.◌⊗◌ (power C.ring a k) (power C.ring b (n - k))))
