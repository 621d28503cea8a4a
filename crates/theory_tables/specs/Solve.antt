-- Linear systems.
use Rattle.std.specs.Prelude.{◌≡◌, ◌≢◌, ◌⊎◌, ◌<◌, ℕ, List, length, get_or}
use Rattle.theory_rings.specs.Ops.{Ops}
use Rattle.theory_rings.specs.Sum.{sum_of, at}
use Rattle.theory_spaces.specs.Tuples.{IsTuple}
use Rattle.theory_tables.specs.Matrix.{entry, IsMatrix}

module _ {E : Type 0} (o : Ops E) where
  -- a·v = right, for an h by w matrix a
  pub record IsSolved (h w : ℕ) (a : List (List E)) (right v : List E) : Type 0 where
    pub tuple : IsTuple o w v
    pub solves : (i : ℕ) → i < h → sum_of o w (λ j. o.mul (entry o a i j) (at o v j)) ≡ at o right i

  -- multipliers·a = 0 and multipliers·right = 1
  pub record IsRefuted (h w : ℕ) (a : List (List E)) (right multipliers : List E) : Type 0 where
    pub tuple : IsTuple o h multipliers
    pub kills : (j : ℕ) → j < w → sum_of o h (λ i. o.mul (at o multipliers i) (entry o a i j)) ≡ o.zero
    pub refutes : sum_of o h (λ i. o.mul (at o multipliers i) (at o right i)) ≡ o.one

  -- no system has both a solution and multipliers that refute it
  abbrev pub NotBoth : Type 0
  NotBoth = (h w : ℕ) (a : List (List E)) (right v multipliers : List E) → IsMatrix o w a
      → IsSolved h w a right v → IsRefuted h w a right multipliers → ⊥

  -- the item x at j is that of the pivot s, in column j
  pub record Lands (pivots : List ℕ) (c : List E) (j : ℕ) (x : E) (s : ℕ) : Type 0 where
    pub is_pivot : s < length pivots
    pub column : get_or pivots s 0 ≡ j
    pub item : x ≡ at o c s

  -- no pivot is in column j, and the item x there is 0
  pub record Misses (pivots : List ℕ) (j : ℕ) (x : E) : Type 0 where
    pub none : (s : ℕ) → s < length pivots → get_or pivots s 0 ≢ j
    pub item : x ≡ o.zero

  -- the item x at j is that of the pivot in column j, or 0
  abbrev pub IsScattered : List ℕ → List E → ℕ → E → Type 0
  IsScattered pivots c j x = ((s : ℕ) × Lands pivots c j x s) ⊎ Misses pivots j x
