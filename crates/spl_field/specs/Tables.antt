-- Tables of the answers of a field of q elements, which are the numbers below q. A table of two places goes row by row.
use Rattle.std.specs.Prelude.{ℕ, ◌+◌, ◌*◌, ◌<◌, List, slice_index, nat_lt, nat_eq}
use Rattle.theory_rings.specs.Ops.{Ops}
use Rattle.theory_rings.specs.Power.{power_by_ops}
use Rattle.theory_rings.specs.FieldByDigits.{IsSumByDigits, IsProductByDigits}

-- the entry in row a and column b
abbrev pub entry_at : ℕ → List ℕ → ℕ → ℕ → ℕ
entry_at q table a b = slice_index table (a * q + b)

-- the operations that are read from the tables of the sums, negatives, products and inverses
abbrev pub table_ops : ℕ → List ℕ → List ℕ → List ℕ → List ℕ → Ops ℕ
table_ops q sums negatives products inverses = record {
  is_elem = λ a. nat_lt a q;
  is_zero = λ a. nat_eq a 0;
  zero = 0;
  one = 1;
  add = entry_at q sums;
  neg = λ a. slice_index negatives a;
  mul = entry_at q products;
  inv = λ a. slice_index inverses a;
}

-- the n-th power of r, by the table of the products
abbrev pub table_power : ℕ → List ℕ → ℕ → ℕ → ℕ
table_power q products r n = power_by_ops 1 (entry_at q products) r n

-- the n entries are elements
abbrev pub AreElements : ℕ → ℕ → List ℕ → Type 0
AreElements q n table = (i : ℕ) → i < n → slice_index table i < q

module _ (p : ℕ) (modulus : List ℕ) (q : ℕ) where
  -- the entries are the sums
  abbrev pub AreSums : List ℕ → Type 0
  AreSums table = (a b : ℕ) → a < q → b < q → IsSumByDigits p modulus a b (entry_at q table a b)

  -- the entries are the negatives
  abbrev pub AreNegatives : List ℕ → Type 0
  AreNegatives table = (a : ℕ) → a < q → IsSumByDigits p modulus a (slice_index table a) 0

  -- the entries are the products; that there is a quotient is told, and not which
  abbrev pub AreProducts : List ℕ → Type 0
  AreProducts table = (a b : ℕ) → a < q → b < q → ∥ IsProductByDigits p modulus a b (entry_at q table a b) ∥₁

  -- the entries but the first are the inverses
  abbrev pub AreInverses : List ℕ → Type 0
  AreInverses table = (a : ℕ) → 0 < a → a < q → ∥ IsProductByDigits p modulus a (slice_index table a) 1 ∥₁
