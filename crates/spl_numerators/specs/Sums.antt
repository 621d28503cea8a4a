-- Sums of products of polynomials that stand in lists, and the coefficients of (b_i·b_j)·b_k and b_i·(b_j·b_k), where
-- the constants are such a list.
use Rattle.std.specs.Prelude.{◌+◌, ◌*◌, ℕ, List, [], get_or}
use Rattle.theory_rings.specs.Ops.{Ops, FieldLaws}
use Rattle.theory_rings.specs.Sum.{sum_of}
use Rattle.theory_fractions.specs.Fraction.{Pair}
use Rattle.theory_fractions.specs.FractionOps.{fraction_ops}
use Rattle.theory_fractions.specs.CommonDenominator.{as_fraction}

module _ {E : Type 0} (o : Ops E) (L : FieldLaws o) where
  -- the polynomial at the place p of a list, as a fraction
  abbrev pub fraction_at : List (List E) → ℕ → Pair E
  fraction_at xs p = as_fraction o (get_or xs p [])

  -- the sum over l of the products of those at first + l of one list and at second + l·stride of another
  abbrev pub sum_of_products : List (List E) → List (List E) → ℕ → ℕ → ℕ → ℕ → Pair E
  sum_of_products lefts rights m first second stride =
      let K : Ops (Pair E) = fraction_ops o L in
      sum_of K m (λ l. K.mul (fraction_at lefts (first + l)) (fraction_at rights (second + l * stride)))

  module _ (entries : List (List E)) where
    -- the coefficient of b_t in (b_i·b_j)·b_k
    abbrev pub left_item : ℕ → ℕ → ℕ → ℕ → ℕ → Pair E
    left_item m i j k t = sum_of_products entries entries m ((i * m + j) * m) (k * m + t) (m * m)

    -- the coefficient of b_t in b_i·(b_j·b_k)
    abbrev pub right_item : ℕ → ℕ → ℕ → ℕ → ℕ → Pair E
    right_item m i j k t = sum_of_products entries entries m ((j * m + k) * m) (i * m * m + t) m
