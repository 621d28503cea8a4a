-- A reduced basis as a value.
use Rattle.std.specs.Prelude.{ℤ, List}

-- reduced rows, their degrees, and the weights by which they are combined from the rows that were reduced
pub record ReducedForm (E : Type 0) : Type 0 where
  pub basis : List (List (List E))
  pub degrees : List ℤ
  pub transform : List (List (List E))
