-- Rows with further columns, by which the reduction of the first ones keeps what became of the rows.
use Rattle.std.specs.Prelude.{ℕ, List, [], ◌∷◌, ◌++◌, length, get_or, take, drop, cond, nat_eq}
use Rattle.theory_rings.specs.Sum.{table}

-- the columns of the rows up to w, and those from w on
abbrev pub heads_of : {X : Type 0} → ℕ → List (List X) → List (List X)
heads_of w rows = table (length rows) (λ i. take w (get_or rows i []))

abbrev pub tails_of : {X : Type 0} → ℕ → List (List X) → List (List X)
tails_of w rows = table (length rows) (λ i. drop w (get_or rows i []))

-- each row, and then the row of the second list at the same place
abbrev pub extended_by : {X : Type 0} → List (List X) → List (List X) → List (List X)
extended_by rows tails = table (length rows) (λ i. get_or rows i [] ++ get_or tails i [])

module _ {E : Type 0} where
  -- n polynomials 0
  abbrev pub zero_row : ℕ → List (List E)
  zero_row n = table n (λ _. [])

  -- n polynomials, of which that at place i is 1 and the others are 0, by a 1
  abbrev pub unit_row : E → ℕ → ℕ → List (List E)
  unit_row one n i = table n (λ k. cond (nat_eq k i) (one ∷ []) [])

  -- n rows of w zeros, and the n unit rows
  abbrev pub zero_rows : ℕ → ℕ → List (List (List E))
  zero_rows n w = table n (λ _. zero_row w)

  abbrev pub unit_rows : E → ℕ → List (List (List E))
  unit_rows one n = table n (λ i. unit_row one n i)
