-- Numbers give a field, or don't fit one, or leave a first element without inverse.
use Rattle.std.proofs.Common.{◌≡◌, ◌≢◌, ◌⊎◌, ℕ, zero, suc, ◌^◌, ◌<◌, ◌≤◌, List, [], ◌∷◌, length, sym, subst, inl, inr}
use Rattle.std.proofs.Common.{arith}
use Rattle.std.specs.List.{All}
use Rattle.std.proofs.lemmas.Bool.{cases_lt, cases_eq, lt-ltb}
use Rattle.std.proofs.lemmas.List.Elements.{All-nil, All-cons, All-tail}
use Rattle.theory_rings.specs.IntegersMod.{Fin}
use Rattle.theory_rings.specs.FieldByDigits.{size_by_digits, IsProductByDigits, DigitsAreRemainders}
use Rattle.theory_rings.proofs.FiniteFields.RingByDigits.{digits_are_remainders}
use Rattle.spl_field.specs.FieldByDigits.{FitsField, IsInverse, HasInverse, IsAdmitted, IsFirstWithoutInverse}

-- ---- the numbers fit

all_below : (p : ℕ) (m : List ℕ) → All (λ c. c < p) m ⊎ (All (λ c. c < p) m → ⊥)
all_below p [] = inl (All-nil (λ c. c < p))
all_below p (c ∷ m) = go (cases_lt c p) (all_below p m)
  where
    go : (c < p) ⊎ (p ≤ c) → All (λ k. k < p) m ⊎ (All (λ k. k < p) m → ⊥)
        → All (λ k. k < p) (c ∷ m) ⊎ (All (λ k. k < p) (c ∷ m) → ⊥)
    go (inl here) (inl rest) = inl (All-cons (λ k. k < p) c m here rest)
    go (inr past) rest = inr (λ all. omega (arith, past, all 0 0 (omega arith)))
    go (inl here) (inr some) = inr (λ all. some (All-tail (λ k. k < p) c m all))

fits : (p : ℕ) (m : List ℕ) → FitsField p m ⊎ (FitsField p m → ⊥)
fits p m = go (cases_lt p 2) (cases_lt 0 (length m)) (cases_lt 256 (p ^ length m)) (all_below p m)
  where
    go : (p < 2) ⊎ (2 ≤ p) → (0 < length m) ⊎ (length m ≤ 0) → (256 < p ^ length m) ⊎ (p ^ length m ≤ 256)
        → All (λ c. c < p) m ⊎ (All (λ c. c < p) m → ⊥) → FitsField p m ⊎ (FitsField p m → ⊥)
    go (inl low) b c d = inr (λ f. omega (arith, low, f.least))
    go (inr two) (inr none) c d = inr (λ f. omega (arith, none, f.some_number))
    go (inr two) (inl some) (inl many) d = inr (λ f. omega (arith, many, f.most))
    go (inr two) (inl some) (inr few) (inr other) = inr (λ f. other f.below)
    go (inr two) (inl some) (inr few) (inl below) =
        inl (record { least = two; some_number = some; most = few; below = below })

-- ---- each element has an inverse, or a first one has none

module _ (p : ℕ) (m : List ℕ) (is : FitsField p m) where
  ring : DigitsAreRemainders p is.least m
  ring = digits_are_remainders p is.least m is.some_number

  number : (a : ℕ) → a < size_by_digits p m → Fin (size_by_digits p m)
  number a below = (a, lt-ltb a (size_by_digits p m) below)

  -- one of the numbers below n is the inverse of a, or none
  inverse_below : (a : ℕ) → a < size_by_digits p m → (n : ℕ) → n ≤ size_by_digits p m
      → HasInverse p m a ⊎ ((b : ℕ) → b < n → IsInverse p m a b → ⊥)
  unfolding number
  inverse_below a below zero low = inr (λ b none. absurd (omega arith))
  inverse_below a below (suc n) low =
      go (inverse_below a below n (omega (arith, low)))
      (cases_eq (ring.F.◌⊗◌ (number a below) (number n (omega (arith, low)))).0 1)
    where
      x : Fin (size_by_digits p m)
      x = number a below

      y : Fin (size_by_digits p m)
      y = number n (omega (arith, low))

      go : HasInverse p m a ⊎ ((b : ℕ) → b < n → IsInverse p m a b → ⊥)
          → ((ring.F.◌⊗◌ x y).0 ≡ 1) ⊎ ((ring.F.◌⊗◌ x y).0 ≢ 1)
          → HasInverse p m a ⊎ ((b : ℕ) → b < suc n → IsInverse p m a b → ⊥)
      go (inl found) here = inl found
      go (inr none) (inl one) = inl (
        n,
        record {
          element = omega (arith, low);
          product_one = subst (IsProductByDigits p m a n) one (ring.by_digits.mul x y);
        },
      )
      go (inr none) (inr other) = inr (λ b before w. last b before w (cases_lt b n))
        where
          last : (b : ℕ) → b < suc n → IsInverse p m a b → (b < n) ⊎ (n ≤ b) → ⊥
          last b before w (inl lower) = none b lower w
          last b before w (inr same) =
              let at : b ≡ n = omega (arith, before, same) in
              other (sym (ring.by_digits.mul_only x y 1 (subst (λ k. IsProductByDigits p m a k 1) at w.product_one)))

  has_inverse : (a : ℕ) → a < size_by_digits p m → HasInverse p m a ⊎ (HasInverse p m a → ⊥)
  has_inverse a below = go (inverse_below a below (size_by_digits p m) (omega arith))
    where
      go : HasInverse p m a ⊎ ((b : ℕ) → b < size_by_digits p m → IsInverse p m a b → ⊥)
          → HasInverse p m a ⊎ (HasInverse p m a → ⊥)
      go (inl found) = inl found
      go (inr none) = inr (λ w. none w.0 w.1.element w.1)

  abbrev AreInvertible : ℕ → Type 0
  AreInvertible n = (a : ℕ) → 0 < a → a < n → HasInverse p m a

  first_without : (n : ℕ) → n ≤ size_by_digits p m → AreInvertible n ⊎ ((a : ℕ) × IsFirstWithoutInverse p m a)
  first_without zero low = inl (λ a some below. absurd (omega arith))
  first_without (suc n) low =
      go (first_without n (omega (arith, low))) (cases_lt 0 n) (has_inverse n (omega (arith, low)))
    where
      more : AreInvertible n → (0 < n → HasInverse p m n) → AreInvertible (suc n)
      more before here a some below = step (cases_lt a n)
        where
          step : (a < n) ⊎ (n ≤ a) → HasInverse p m a
          step (inl lower) = before a some lower
          step (inr same) =
              let at : n ≡ a = omega (arith, below, same) in subst (HasInverse p m) at (here (omega (arith, at, some)))

      go : AreInvertible n ⊎ ((a : ℕ) × IsFirstWithoutInverse p m a) → (0 < n) ⊎ (n ≤ 0)
          → HasInverse p m n ⊎ (HasInverse p m n → ⊥) → AreInvertible (suc n) ⊎ ((a : ℕ) × IsFirstWithoutInverse p m a)
      go (inr found) some here = inr found
      go (inl before) (inr none) here = inl (more before (λ some. absurd (omega (arith, none, some))))
      go (inl before) (inl some) (inl here) = inl (more before (λ _. here))
      go (inl before) (inl some) (inr without) = inr (
        n,
        record {
          fits = is;
          nonzero = some;
          below = omega (arith, low);
          without = without;
          before = before;
        },
      )

-- the numbers give a field, or don't fit one, or a first element has no inverse
pub field_decided : (p : ℕ) (m : List ℕ) → IsAdmitted p m ⊎ (FitsField p m → ⊥)
    ⊎ ((a : ℕ) × IsFirstWithoutInverse p m a)
field_decided p m = go (fits p m)
  where
    laws : (is : FitsField p m) → AreInvertible p m is (size_by_digits p m) ⊎ ((a : ℕ) × IsFirstWithoutInverse p m a)
        → IsAdmitted p m ⊎ (FitsField p m → ⊥) ⊎ ((a : ℕ) × IsFirstWithoutInverse p m a)
    laws is (inl each) = inl (record { fits = is; invertible = each })
    laws is (inr found) = inr (inr found)

    go : FitsField p m ⊎ (FitsField p m → ⊥) → IsAdmitted p m ⊎ (FitsField p m → ⊥)
        ⊎ ((a : ℕ) × IsFirstWithoutInverse p m a)
    go (inl is) = laws is (first_without p m is (size_by_digits p m) (omega arith))
    go (inr other) = inr (inl other)
