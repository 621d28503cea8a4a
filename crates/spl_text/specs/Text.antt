-- Which bytes a text holds, and how numbers, lists of numbers and fractions are spelled in it. A word spells one
-- number, one list, one fraction.
use Rattle.std.specs.Prelude.{◌≡◌, ◌≢◌, ◌⊎◌, ℕ, ◌^◌, ◌<◌, ◌≤◌, ◌==◌, List, [], ◌∷◌, ◌++◌, length, slice_index, count_by}
use Rattle.std.specs.Prelude.{codes, decimal, Option, Some, None, IfSome}
use Rattle.std.specs.List.{AllByRecursion}
use Rattle.theory_rings.specs.Polynomial.{IsTrimmed}

-- ---- the bytes of a text

-- a byte from the space to the tilde, or a newline
abbrev pub IsTextByte : ℕ → Type 0
IsTextByte b = (32 ≤ b × b ≤ 126) ⊎ (b ≡ 10)

-- each byte is one of a text
abbrev pub IsText : List ℕ → Type 0
IsText bytes = (k : ℕ) → k < length bytes → IsTextByte (slice_index bytes k)

-- the byte at the place is none of a text, and all before it are
pub record IsFirstNoText (bytes : List ℕ) (place : ℕ) : Type 0 where
  pub within : place < length bytes
  pub no_text : ¬ IsTextByte (slice_index bytes place)
  pub before : (k : ℕ) → k < place → IsTextByte (slice_index bytes k)

-- no byte of the list is this one
abbrev pub Lacks : ℕ → List ℕ → Type 0
Lacks separator bytes = (k : ℕ) → k < length bytes → slice_index bytes k ≢ separator

-- how many newlines there are
abbrev pub newlines : List ℕ → ℕ
newlines bytes = count_by (λ b. b == 10) bytes

-- a text, and a newline
abbrev pub line : List ℕ → List ℕ
line text = text ++ 10 ∷ []

-- the text begins with the front
abbrev pub HasFront : List ℕ → List ℕ → Type 0
HasFront front text = (rest : List ℕ) × (text ≡ front ++ rest)

-- ---- numbers and fractions

-- a number as a text may have it: at most nine digits
abbrev pub IsNumber : ℕ → Type 0
IsNumber n = n < 10 ^ 9

-- the numbers in decimal, joined by commas
abbrev pub numbers_text : List ℕ → List ℕ
numbers_text [] = []
numbers_text (n ∷ []) = decimal n
numbers_text (n ∷ m ∷ ms) = decimal n ++ codes "," ++ numbers_text (m ∷ ms)

-- one or more numbers
pub record AreNumbers (ns : List ℕ) : Type 0 where
  pub some : 0 < length ns
  pub each : AllByRecursion IsNumber ns

-- a list of numbers as a text has it: the last is not 0, unless it is the single number 0
pub record IsNumberList (ns : List ℕ) : Type 0 where
  pub numbers : AreNumbers ns
  pub last : (ns ≡ 0 ∷ []) ⊎ IsTrimmed 0 ns

-- a fraction as a text has it: one list, or two
pub record FractionText : Type 0 where
  pub numerator : List ℕ
  pub denominator : Option (List ℕ)

-- what stands after the numerator
abbrev pub denominator_text : Option (List ℕ) → List ℕ
denominator_text None = []
denominator_text (Some ns) = codes "/" ++ numbers_text ns

abbrev pub fraction_text : FractionText → List ℕ
fraction_text t = numbers_text t.numerator ++ denominator_text t.denominator

-- both are lists of numbers
pub record IsFractionText (t : FractionText) : Type 0 where
  pub numerator : IsNumberList t.numerator
  pub denominator : IfSome t.denominator IsNumberList

-- the lists of numbers of a fraction
abbrev pub lists_of : FractionText → List (List ℕ)
lists_of t = t.numerator ∷ denominators t.denominator
  where
    denominators : Option (List ℕ) → List (List ℕ)
    denominators None = []
    denominators (Some d) = d ∷ []

-- the coefficients of a polynomial as a text has them; 0 is `0`
abbrev pub coefficients_text : List ℕ → List ℕ
coefficients_text [] = codes "0"
coefficients_text (c ∷ cs) = numbers_text (c ∷ cs)
