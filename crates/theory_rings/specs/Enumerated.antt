-- Finite sets, their members numbered.
use Rattle.std.specs.Prelude.{◌≡◌, ℕ, ◌<◌, ◌/◌}
use Rattle.std.specs.Int.{◌∣◌}
use Rattle.theory_rings.specs.Ring.{FieldOn}
use Rattle.theory_rings.specs.Power.{power}

-- the members are those of the numbers below the size
pub record Enumerated (X : Type 0) : Type 0 where
  pub size : ℕ
  pub member : ℕ → X
  pub number : X → ℕ
  pub number-lt : (x : X) → number x < size
  pub member-number : (x : X) → member (number x) ≡ x
  pub number-member : (i : ℕ) → i < size → number (member i) ≡ i

-- in a field of q elements the q-th power of each is itself
abbrev pub PowerOfSize : {K : Type 0} → FieldOn K → Enumerated K → Type 0
PowerOfSize {K} F E = (a : K) → power F.ring a E.size ≡ a

-- so the (q / p)-th power of each is its p-th root, for each p that divides q
abbrev pub RootByPower : {K : Type 0} → FieldOn K → Enumerated K → Type 0
RootByPower {K} F E = (p : ℕ) (a : K) → p ∣ E.size → power F.ring (power F.ring a (E.size / p)) p ≡ a
