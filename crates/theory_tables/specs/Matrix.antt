-- Matrices over a program's field, as lists of rows of one length.
use Rattle.std.specs.Prelude.{◌≡◌, ℕ, List, [], length, get_or, cond, nat_eq}
use Rattle.std.specs.List.{All}
use Rattle.theory_rings.specs.Ops.{Ops}
use Rattle.theory_rings.specs.Sum.{sum_of, table, at}
use Rattle.theory_spaces.specs.Tuples.{IsTuple}

-- the number of columns, and 0 where there is no row
abbrev pub width_of : {E : Type 0} → List (List E) → ℕ
width_of rows = length (get_or rows 0 [])

-- all rows have one length
abbrev pub IsRectangular : {E : Type 0} → List (List E) → Type 0
IsRectangular rows = All (λ row. length row ≡ width_of rows) rows

module _ {E : Type 0} (o : Ops E) where
  -- rows of w elements
  abbrev pub IsMatrix : ℕ → List (List E) → Type 0
  IsMatrix w rows = All (IsTuple o w) rows

  -- the entry in row i and column j
  abbrev pub entry : List (List E) → ℕ → ℕ → E
  entry rows i j = at o (get_or rows i []) j

  -- the sum over k < n of a_k·b_k
  abbrev pub dot : ℕ → List E → List E → E
  dot n a b = sum_of o n (λ k. o.mul (at o a k) (at o b k))

  -- the product of an h by n and an n by w matrix
  abbrev pub product : ℕ → ℕ → ℕ → List (List E) → List (List E) → List (List E)
  product h n w a b = table h (λ i. table w (λ j. sum_of o n (λ k. o.mul (entry a i k) (entry b k j))))

  -- the product of an h by n matrix and a column of n elements
  abbrev pub image : ℕ → ℕ → List (List E) → List E → List E
  image h n m v = table h (λ i. sum_of o n (λ k. o.mul (entry m i k) (at o v k)))

  -- the h by h matrix with one on the diagonal, and else zero
  abbrev pub identity : ℕ → List (List E)
  identity h = table h (λ i. table h (λ j. cond (nat_eq j i) o.one o.zero))

  -- the sum of the diagonal
  abbrev pub trace_of : ℕ → List (List E) → E
  trace_of h m = sum_of o h (λ i. entry m i i)
