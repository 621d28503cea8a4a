-- Numbers by their digits in base p, lowest first.
use Rattle.std.specs.Prelude.{◌≡◌, ℕ, ◌*◌, ◌/◌, ◌%◌, ◌^◌, ◌<◌, ◌≤◌}
use Rattle.theory_rings.specs.Sum.{sum}
use Rattle.theory_rings.specs.Naturals.{nat_monoid}

-- digit k of a, which counts how often p ^ k is taken
abbrev pub digit : ℕ → ℕ → ℕ → ℕ
digit p a k = a / p ^ k % p

-- the number with the d digits f 0, .., f (d − 1)
abbrev pub of_digits : ℕ → ℕ → (ℕ → ℕ) → ℕ
of_digits p d f = sum nat_monoid d (λ k. f k * p ^ k)

-- a number below p ^ d is made of its digits, and any d numbers below p are the digits of one below p ^ d
abbrev pub DigitsLaw : Type 0
DigitsLaw = (p d : ℕ) → 2 ≤ p
    → ((a : ℕ) → a < p ^ d → of_digits p d (digit p a) ≡ a)
    × ((a k : ℕ) → digit p a k < p)
    × ((f : ℕ → ℕ) → ((k : ℕ) → k < d → f k < p) → of_digits p d f < p ^ d)
    × ((f : ℕ → ℕ) → ((k : ℕ) → k < d → f k < p) → (k : ℕ) → k < d → digit p (of_digits p d f) k ≡ f k)
