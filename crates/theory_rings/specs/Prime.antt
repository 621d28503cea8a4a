-- Prime numbers, inverses modulo a prime, and Fermat's little theorem.
use Rattle.std.specs.Prelude.{◌≡◌, ℕ, ◌*◌, ◌%◌, ◌^◌, ◌<◌, ◌≤◌, ◌⊎◌}
use Rattle.std.specs.Int.{◌∣◌}

-- at least 2, and only 1 and itself divide it
pub record IsPrime (p : ℕ) : Type 0 where
  pub two_le : 2 ≤ p
  pub divisors : (d : ℕ) → d ∣ p → (d ≡ 1) ⊎ (d ≡ p)

-- each number below n but 0 has an inverse modulo n
abbrev pub HasInversesMod : ℕ → Type 0
HasInversesMod n = (a : ℕ) → 0 < a → a < n → (b : ℕ) × (b < n) × ((a * b) % n ≡ 1)

-- a number from 2 on is prime just where it has these inverses
abbrev pub PrimeLaw : Type 0
PrimeLaw = (n : ℕ) → ((IsPrime n → HasInversesMod n) × (2 ≤ n → HasInversesMod n → IsPrime n))

-- Fermat's little theorem
abbrev pub FermatLaw : Type 0
FermatLaw = (p : ℕ) → IsPrime p → (a : ℕ) → a ^ p % p ≡ a % p
