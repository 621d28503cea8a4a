-- The common denominator of a list of the fractions of all tuples, as that of the tuples.
use Rattle.std.specs.Prelude.{◌≡◌, ◌<◌, ◌≤◌, ℕ, zero, suc, List, [], ◌∷◌, ◌++◌, length, get_or}
use Rattle.std.specs.List.{All}
use Rattle.std.proofs.Common.{subst, arith, length-append, ⊎_elim}
use Rattle.std.proofs.lemmas.Bool.{cases_lt}
use Rattle.std.proofs.Math.ListN.{get_or-append}
use Rattle.std.proofs.lemmas.List.Elements.{All-nil, All-append, All-from_get_or, All-get_or}
use Rattle.theory_rings.specs.Ops.{Ops}
use Rattle.theory_fractions.specs.Fraction.{Pair}
use Rattle.theory_fractions.specs.CommonDenominator.{Clears, IsCommonDenominator}
use Rattle.theory_bases.specs.Bases.{IsDenominatorOf}
use Rattle.theory_bases.specs.Joined.{joined}

-- what holds of the items of all lists holds of those of the joined one, and back
pub All-joined : {X : Type 0} (P : X → Type 0) (n : ℕ) (f : ℕ → List X) → ((i : ℕ) → i < n → All P (f i))
    → All P (joined n f)
All-joined P zero f h = All-nil P
All-joined P (suc n) f h = All-append P (joined n f) (f n) (All-joined P n f (λ i l. h i (omega arith)))
    (h n (omega arith))

All-left : {X : Type 0} (P : X → Type 0) (xs ys : List X) → All P (xs ++ ys) → All P xs
All-left P xs ys h k d l =
    subst P (get_or-append xs ys d k l) (h k d (omega (arith, l, length-append xs ys)))

All-right : {X : Type 0} (P : X → Type 0) (xs ys : List X) → All P (xs ++ ys) → All P ys
All-right P [] ys h = h
All-right P (x ∷ xs) ys h = All-right P xs ys (λ k d l. h (suc k) d (omega (arith, l)))

pub joined-All : {X : Type 0} (P : X → Type 0) (n : ℕ) (f : ℕ → List X) → All P (joined n f)
    → (i : ℕ) → i < n → All P (f i)
joined-All P zero f h i l = absurd (omega arith)
joined-All P (suc n) f h i l = ⊎_elim
    (λ (low : i < n). joined-All P n f (All-left P (joined n f) (f n) h) i low)
    (λ (high : n ≤ i). let e : n ≡ i = omega arith in
    subst (λ k. All P (f k)) e (All-right P (joined n f) (f n) h))
    (cases_lt i n)

module _ {E : Type 0} (o : Ops E) (tuples : List (List (Pair E))) (c : List E) where
  abbrev row : ℕ → List (Pair E)
  row i = get_or tuples i []

  abbrev list : List (Pair E)
  list = joined (length tuples) row

  all_of_list : (P : Pair E → Type 0) → All P list → All (All P) tuples
  all_of_list P h = All-from_get_or (All P) tuples [] (joined-All P (length tuples) row h)

  list_of_all : (P : Pair E → Type 0) → All (All P) tuples → All P list
  list_of_all P h = All-joined P (length tuples) row (λ i l. All-get_or (All P) tuples i [] l h)

  pub denominator_of_tuples : IsCommonDenominator o list c → IsDenominatorOf o tuples c
  denominator_of_tuples h = record {
    monic = h.monic;
    clears = all_of_list (Clears o c) (All-from_get_or (Clears o c) list ([], []) h.clears);
    least = λ d hd all. h.least d hd (λ i l. All-get_or (Clears o d) list i ([], []) l (list_of_all (Clears o d) all));
  }
