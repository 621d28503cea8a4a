-- What is verified of a guess at an identity: weights over one denominator, on polynomials over another.
use Rattle.std.specs.Prelude.{◌≡◌, ◌+◌, ◌*◌, ◌<◌, Bool, ℕ, List, [], length, get_or, nat_eq, cond}
use Rattle.theory_rings.specs.Ops.{Ops, IsElem, FieldLaws}
use Rattle.theory_fractions.specs.Fraction.{Pair}
use Rattle.theory_fractions.specs.FractionOps.{fraction_ops}
use Rattle.theory_fractions.specs.CommonDenominator.{as_fraction}
use Rattle.spl_numerators.specs.Sums.{sum_of_products}

-- `scale`, where `here`, and else 0
abbrev pub unit : {E : Type 0} → List E → Bool → List E
unit scale here = cond here scale []

module _ {E : Type 0} (o : Ops E) (L : FieldLaws o) where
  -- w is u/v: w·v is u
  pub record IsQuotient (u v : List E) (w : Pair E) : Type 0 where
    pub elem : IsElem (fraction_ops o L) w
    pub value : (fraction_ops o L).mul w (as_fraction o v) ≡ as_fraction o u

  module _ (weights : List (List E)) where
    -- the first m weights over the next
    pub record AreQuotients (m : ℕ) (items : List (Pair E)) : Type 0 where
      pub count : length items ≡ m
      pub quotient : (l : ℕ) → l < m
          → IsQuotient (get_or weights l []) (get_or weights m []) (get_or items l (fraction_ops o L).zero)

    module _ (entries : List (List E)) (m : ℕ) where
      -- the sums of the weights and of the coefficients of b_k in all b_l·b_j, and in all b_j·b_l, are `scale` where k
      -- is j, and else 0
      pub record SolvesAt (scale : List E) (j k : ℕ) : Type 0 where
        pub left : sum_of_products o L weights entries m 0 (j * m + k) (m * m) ≡ as_fraction o (unit scale (nat_eq k j))
        pub right : sum_of_products o L weights entries m 0 (j * m * m + k) m ≡ as_fraction o (unit scale (nat_eq k j))
