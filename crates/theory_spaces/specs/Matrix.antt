-- Matrices as functions of a row and a column, of which the first rows and columns count: the product, the unit matrix,
-- the trace.
use Rattle.std.specs.Prelude.{◌≡◌, ℕ, ◌≤◌, ◌⊎◌, cond, eqb}
use Rattle.theory_rings.specs.Ring.{RingOn}
use Rattle.theory_rings.specs.Sum.{sum}

abbrev pub Matrix : Type 0 → Type 0
Matrix K = ℕ → ℕ → K

module _ {K : Type 0} (R : RingOn K) where
  -- the product over n middle indices
  abbrev pub mat_mul : ℕ → Matrix K → Matrix K → Matrix K
  mat_mul n A B i j = sum R.monoid n (λ k. R.◌⊗◌ (A i k) (B k j))

  -- one on the diagonal, and else zero
  abbrev pub delta : Matrix K
  delta i j = cond (eqb i j) R.one R.zero

  -- the sum of the first n entries of the diagonal
  abbrev pub mat_trace : ℕ → Matrix K → K
  mat_trace n A = sum R.monoid n (λ i. A i i)

  -- 0 outside the first n rows and columns
  abbrev pub Within : ℕ → Matrix K → Type 0
  Within n A = (i j : ℕ) → (n ≤ i) ⊎ (n ≤ j) → A i j ≡ R.zero

  -- the n by n matrices
  abbrev pub Mat : ℕ → Type 0
  Mat n = (A : Matrix K) × Within n A
