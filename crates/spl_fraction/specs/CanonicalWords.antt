-- The numbers of a canonical text: those of the numerator, and of the denominator where that is not 1.
use Rattle.std.specs.Prelude.{ℕ, ◌<◌, List, [], ◌∷◌, length, Option, Some, None}
use Rattle.theory_rings.specs.Ops.{Ops}
use Rattle.spl_text.specs.Text.{FractionText}
use Rattle.theory_fractions.specs.Fraction.{Pair, IsLowestTerms}

-- the coefficients of a polynomial as a text has them; 0 is the number 0
abbrev pub numbers_of : List ℕ → List ℕ
numbers_of [] = 0 ∷ []
numbers_of (c ∷ cs) = c ∷ cs

-- a denominator with one coefficient is left out
abbrev pub denominator_of : List ℕ → Option (List ℕ)
denominator_of [] = None
denominator_of (c ∷ []) = None
denominator_of (c ∷ d ∷ ds) = Some (c ∷ d ∷ ds)

abbrev pub words_of : Pair ℕ → FractionText
words_of w = record { numerator = numbers_of w.0; denominator = denominator_of w.1 }

-- u / v is in lowest terms, and v is not 1
pub record IsProper (o : Ops ℕ) (u v : List ℕ) : Type 0 where
  pub long : 1 < length v
  pub lowest : IsLowestTerms o u v
