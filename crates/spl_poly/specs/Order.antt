-- The order of polynomials whose coefficients are numbers.
use Rattle.std.specs.Prelude.{◌≡◌, ℕ, List, length, reverse}
use Rattle.std.specs.Ordering.{nat_cmp, ordering_then}
use Rattle.std.specs.Cmp.{IsTotalOrder}
use Rattle.std.specs.Cmp.Lexicographic.{slice_cmp}
use Rattle.std.specs.declared.cmp.Ordering.{Ordering}
use Rattle.std.specs.declared.cmp.Ordering.TheVariants.{Equal}

-- by degree, where 0 comes first, and then by the coefficients as numbers, from the highest down
abbrev pub poly_cmp : List ℕ → List ℕ → Ordering
poly_cmp a b = ordering_then (nat_cmp (length a) (length b)) (slice_cmp nat_cmp (reverse a) (reverse b))

-- it is a total order, in which only equal lists are equal
pub record IsPolynomialOrder (cmp : List ℕ → List ℕ → Ordering) : Type 0 where
  pub total : IsTotalOrder cmp
  pub equal : (a b : List ℕ) → cmp a b ≡ Equal → a ≡ b
