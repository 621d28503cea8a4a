-- The tuples of k members of a set of n members are numbered by the numbers below n ^ k: member i is that of digit i.
use Rattle.std.specs.Prelude.{◌≡◌, ℕ, ◌^◌, ◌<◌}
use Rattle.std.proofs.Common.{sym, ◌∙◌, ap}
use Rattle.theory_rings.specs.Digits.{digit, of_digits}
use Rattle.theory_rings.specs.Enumerated.{Enumerated}
use Rattle.theory_rings.proofs.Numbers.Digits.{digit_lt, digit_injective, digit-of_digits, of_digits_lt}

module _ {X : Type 0} (E : Enumerated X) where
  abbrev pub tuple : ℕ → ℕ → X
  tuple t i = E.member (digit E.size t i)

  -- numbers below n ^ k with the same tuple are one
  pub tuple_injective : 0 < E.size → (k t u : ℕ) → t < E.size ^ k → u < E.size ^ k
      → ((i : ℕ) → i < k → tuple t i ≡ tuple u i) → t ≡ u
  tuple_injective pos k t u lt lu h = digit_injective E.size k t u lt lu
      (λ i l. sym (E.number-member (digit E.size t i) (digit_lt E.size pos t i)) ∙ ap E.number (h i l)
      ∙ E.number-member (digit E.size u i) (digit_lt E.size pos u i))

  -- each tuple has a number
  abbrev pub number_of_tuple : ℕ → (ℕ → X) → ℕ
  number_of_tuple k w = of_digits E.size k (λ i. E.number (w i))

  pub number_of_tuple_lt : 0 < E.size → (k : ℕ) (w : ℕ → X) → number_of_tuple k w < E.size ^ k
  number_of_tuple_lt pos k w = of_digits_lt E.size pos k (λ i. E.number (w i)) (λ i l. E.number-lt (w i))

  pub tuple-number_of_tuple : 0 < E.size → (k : ℕ) (w : ℕ → X) (i : ℕ) → i < k → tuple (number_of_tuple k w) i ≡ w i
  tuple-number_of_tuple pos k w i l =
      ap E.member (digit-of_digits E.size pos k (λ i. E.number (w i)) (λ i l. E.number-lt (w i)) i l)
      ∙ E.member-number (w i)
