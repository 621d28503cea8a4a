-- Lists without zeros at their end.
use Rattle.std.specs.Prelude.{◌≡◌, ◌≢◌, ℕ, suc, ◌-◌, ◌<◌, ◌≤◌, List, [], ◌∷◌, length, get_or, take, ◌++◌}
use Rattle.std.proofs.Common.{refl, sym, ◌∙◌, ap, arith, subst, ⊎_elim, length-take}
use Rattle.std.proofs.lemmas.Bool.{eqb-true, cases_lt}
use Rattle.std.proofs.lemmas.List.{get_or_past, get_or-take, take_all, drop_all, append-nil}
use Rattle.std.specs.List.{refill}
use Rattle.theory_rings.specs.Ring.{ZeroTest}
use Rattle.theory_rings.specs.Polynomial.{IsTrimmed}
use Rattle.theory_rings.proofs.Polynomials.PolynomialRing.{last-ne-zero, IsTrimmed-injective, IsTrimmed-trim}
use Rattle.theory_rings.proofs.Polynomials.PolynomialRing.{get_or-trim}
use Rattle.spl_poly.specs.Operations.{is_nought, without_zeros}

pub number_test : ZeroTest 0 is_nought
number_test = record { is_zero-sound = λ a e. eqb-true a 0 e; is_zero-zero = refl }

module _ {X : Type 0} (nought : X) where
  -- a list that ends with an item other than 0
  pub IsTrimmed_of_last : (xs : List X) → (0 < length xs → get_or xs (length xs - 1) nought ≢ nought)
      → IsTrimmed nought xs
  IsTrimmed_of_last [] h = tt
  IsTrimmed_of_last (x ∷ []) h = λ e. h (omega arith) e
  IsTrimmed_of_last (x ∷ y ∷ ys) h = IsTrimmed_of_last (y ∷ ys) (λ l e. h (omega arith) (go (length ys) e))
    where
      go : (n : ℕ) → get_or (y ∷ ys) (suc n - 1) nought ≡ nought → get_or (x ∷ y ∷ ys) (suc (suc n) - 1) nought ≡ nought
      go n e = let p : suc n - 1 ≡ n = omega arith in let q : suc (suc n) - 1 ≡ suc n = omega arith in
          ap (λ i. get_or (x ∷ y ∷ ys) i nought) q ∙ ap (λ i. get_or (y ∷ ys) i nought) (sym p) ∙ e

  pub last-ne-zero_of_pos : (xs : List X) → IsTrimmed nought xs → 0 < length xs
      → get_or xs (length xs - 1) nought ≢ nought
  last-ne-zero_of_pos [] t l = absurd (omega arith)
  last-ne-zero_of_pos (x ∷ xs) t l =
      let p : suc (length xs) - 1 ≡ length xs = omega arith in
      λ e. last-ne-zero nought x xs t (ap (λ i. get_or (x ∷ xs) i nought) (sym p) ∙ e)

  -- items that are 0 from n on bound the length
  pub length_le_of_zeros : (xs : List X) (n : ℕ) → IsTrimmed nought xs
      → ((k : ℕ) → n ≤ k → get_or xs k nought ≡ nought) → length xs ≤ n
  length_le_of_zeros [] n t h = omega arith
  length_le_of_zeros (x ∷ xs) n t h = low (length xs) (λ l. last-ne-zero nought x xs t (h (length xs) l))
    where
      low : (m : ℕ) → (n ≤ m → ⊥) → suc m ≤ n
      low m h = omega arith

-- a trimmed list with the items of another is that one without its zeros
pub without_zeros_unique : (xs ys : List ℕ) → IsTrimmed 0 ys → ((k : ℕ) → get_or ys k 0 ≡ get_or xs k 0)
    → ys ≡ without_zeros xs
without_zeros_unique xs ys t e =
    IsTrimmed-injective 0 ys (without_zeros xs) t (IsTrimmed-trim number_test xs)
    (λ k. e k ∙ sym (get_or-trim number_test xs k))

-- the first n items, where those past them are 0 and the last of them is not
module _ (xs : List ℕ) (n : ℕ) (within : n ≤ length xs) (past : (k : ℕ) → n ≤ k → get_or xs k 0 ≡ 0)
    (last : 0 < n → get_or xs (n - 1) 0 ≢ 0) where
  cut : length (take n xs) ≡ n
  cut = omega (arith, length-take n xs)

  pub IsTrimmed-take : IsTrimmed 0 (take n xs)
  IsTrimmed-take = IsTrimmed_of_last 0 (take n xs) (λ l e. last (omega (arith, cut)) (go (omega (arith, cut)) e))
    where
      go : 0 < n → get_or (take n xs) (length (take n xs) - 1) 0 ≡ 0 → get_or xs (n - 1) 0 ≡ 0
      go p e = sym (get_or-take n xs (n - 1) 0 (omega arith)) ∙ ap (λ m. get_or (take n xs) (m - 1) 0) (sym cut) ∙ e

  pub take-without_zeros : take n xs ≡ without_zeros xs
  take-without_zeros = without_zeros_unique xs (take n xs) IsTrimmed-take (λ k. ⊎_elim
      (λ (l : k < n). get_or-take n xs k 0 l)
      (λ (l : n ≤ k). get_or_past (take n xs) k 0 (omega (arith, cut)) ∙ sym (past k l))
      (cases_lt k n))

  -- the same, for a list that is such a beginning
  pub IsTrimmed-cut : (ys : List ℕ) → ys ≡ take n xs → IsTrimmed 0 ys
  IsTrimmed-cut ys e = subst (IsTrimmed 0) (sym e) IsTrimmed-take

  pub cut-without_zeros : (ys zs : List ℕ) → zs ≡ xs → ys ≡ take n xs → ys ≡ without_zeros zs
  cut-without_zeros ys zs ez e = e ∙ take-without_zeros ∙ ap without_zeros (sym ez)

pub get_or-without_zeros : (xs : List ℕ) (k : ℕ) → get_or (without_zeros xs) k 0 ≡ get_or xs k 0
get_or-without_zeros xs k = get_or-trim number_test xs k

pub IsTrimmed-without_zeros : (xs : List ℕ) → IsTrimmed 0 (without_zeros xs)
IsTrimmed-without_zeros xs = IsTrimmed-trim number_test xs

-- a list that is not empty has an item
pub length_pos_of_ne : (xs : List ℕ) → (xs ≡ [] → ⊥) → 0 < length xs
length_pos_of_ne [] h = absurd (h refl)
length_pos_of_ne (x ∷ xs) h = omega arith

-- the elements written back in full
pub refill_same : (xs ws : List ℕ) → length ws ≡ length xs → refill (length xs) xs ws ≡ ws
refill_same xs ws e =
    ap (take (length xs)) (ap (λ l. ws ++ l) (drop_all (length ws) xs (omega arith)) ∙ append-nil ws)
    ∙ take_all (length xs) ws (omega arith)
