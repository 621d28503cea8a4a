-- Rows of polynomials that are multiples of tuples of fractions.
use Rattle.std.specs.Prelude.{◌≡◌, ◌<◌, ℕ, List, [], length, get_or}
use Rattle.theory_rings.specs.Ops.{Ops, FieldLaws}
use Rattle.theory_fractions.specs.Fraction.{Pair}
use Rattle.spl_numerators.specs.Numerators.{HasMultiples}

module _ {E : Type 0} (o : Ops E) (L : FieldLaws o) (c : List E) where
  -- the n rows are c times the first n tuples
  pub record AreNumeratorRows (tuples : List (List (Pair E))) (n : ℕ) (rows : List (List (List E))) : Type 0 where
    pub count : length rows ≡ n
    pub each : (i : ℕ) → i < n
        → HasMultiples o L c (get_or tuples i []) (length (get_or tuples i [])) (get_or rows i [])
