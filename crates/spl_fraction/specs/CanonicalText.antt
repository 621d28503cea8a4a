-- The canonical text of a fraction over a small field: the coefficients of the numerator, and after `/` those of the
-- denominator where that is not 1; in lowest terms, with a monic denominator.
use Rattle.std.specs.Prelude.{◌≡◌, ℕ, List, [], ◌∷◌, ◌++◌, codes}
use Rattle.theory_rings.specs.Ops.{Ops}
use Rattle.spl_text.specs.Text.{coefficients_text}
use Rattle.theory_fractions.specs.Fraction.{Pair, IsLowestTerms}

-- what stands after the numerator; a monic denominator with one coefficient is 1
abbrev pub denominator_text : List ℕ → List ℕ
denominator_text [] = []
denominator_text (c ∷ []) = []
denominator_text (c ∷ d ∷ ds) = codes "/" ++ coefficients_text (c ∷ d ∷ ds)

abbrev pub canonical_text : Pair ℕ → List ℕ
canonical_text w = coefficients_text w.0 ++ denominator_text w.1

-- the bytes are the canonical text of the fraction
pub record IsCanonicalText (o : Ops ℕ) (bytes : List ℕ) (w : Pair ℕ) : Type 0 where
  pub lowest : IsLowestTerms o w.0 w.1
  pub text : bytes ≡ canonical_text w
