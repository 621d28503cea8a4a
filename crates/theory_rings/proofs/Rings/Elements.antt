-- Sums, multiples and powers of elements of a program's field are elements, and are those of the field of its elements.
use Rattle.std.specs.Prelude.{◌≡◌, ℕ, zero, suc, ◌<◌, ◌≤◌, List, length}
use Rattle.std.specs.List.{All}
use Rattle.std.proofs.Common.{refl, sym, ap, subst, arith, ⊎_elim}
use Rattle.std.proofs.lemmas.Bool.{cases_lt}
use Rattle.std.proofs.lemmas.List.{get_or_past}
use Rattle.std.proofs.lemmas.List.Elements.{All-get_or}
use Rattle.theory_rings.specs.Ops.{Ops, IsElem, FieldLaws}
use Rattle.theory_rings.specs.Elements.{Elem, elements}
use Rattle.theory_rings.specs.Sum.{sum, sum_of, at}
use Rattle.theory_rings.specs.Power.{power, power_of, times, times_of}
use Rattle.theory_rings.proofs.Sums.Sums.{sum_by_ops_congr}

pub sum_of_congr : {E : Type 0} (o : Ops E) (n : ℕ) (f g : ℕ → E) → ((i : ℕ) → i < n → f i ≡ g i)
    → sum_of o n f ≡ sum_of o n g
sum_of_congr o n f g h = sum_by_ops_congr o.zero o.add n f g h

module _ {E : Type 0} (o : Ops E) (L : FieldLaws o) where
  -- items of a list of elements are elements, past its end too
  pub at-elem : (xs : List E) → All (IsElem o) xs → (i : ℕ) → IsElem o (at o xs i)
  at-elem xs h i = ⊎_elim
      (λ (l : i < length xs). All-get_or (IsElem o) xs i o.zero l h)
      (λ (l : length xs ≤ i). subst (IsElem o) (sym (get_or_past xs i o.zero l)) L.zero-elem)
      (cases_lt i (length xs))

  pub sum_of-elem : (n : ℕ) (f : ℕ → E) → ((i : ℕ) → i < n → IsElem o (f i)) → IsElem o (sum_of o n f)
  sum_of-elem zero f h = L.zero-elem
  sum_of-elem (suc n) f h =
      L.add-elem (sum_of o n f) (f n) (sum_of-elem n f (λ i l. h i (omega arith))) (h n (omega arith))

  pub sum_of-elements : (n : ℕ) (f : ℕ → Elem o) → sum_of o n (λ i. (f i).0) ≡ (sum (elements o L).monoid n f).0
  sum_of-elements zero f = refl
  sum_of-elements (suc n) f = ap (λ x. o.add x (f n).0) (sum_of-elements n f)

  pub times_of-elements : (n : ℕ) (x : Elem o) → times_of o n x.0 ≡ (times (elements o L).monoid n x).0
  times_of-elements n x = sum_of-elements n (λ _. x)

  pub power_of-elem : (x : E) (n : ℕ) → IsElem o x → IsElem o (power_of o x n)
  power_of-elem x zero e = L.one-elem
  power_of-elem x (suc n) e = L.mul-elem x (power_of o x n) e (power_of-elem x n e)

  pub power_of-elements : (x : Elem o) (n : ℕ) → power_of o x.0 n ≡ (power (elements o L).ring x n).0
  power_of-elements x zero = refl
  power_of-elements x (suc n) = ap (o.mul x.0) (power_of-elements x n)
