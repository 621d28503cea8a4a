-- Zeros, ones and sums in a program's field.
use Rattle.std.specs.Prelude.{◌≡◌, ℕ, zero, suc, ◌+◌, ◌<◌, List, length, get_or}
use Rattle.std.proofs.Common.{refl, ◌∙◌, ap, ap₂, arith, add-one, ⊎_elim}
use Rattle.std.proofs.lemmas.Bool.{cases_lt}
use Rattle.std.proofs.lemmas.List.{get_or_default}
use Rattle.theory_rings.specs.Ops.{Ops, IsElem, FieldLaws}
use Rattle.theory_rings.specs.Elements.{elements}
use Rattle.theory_rings.specs.Sum.{at, sum_of}
use Rattle.theory_rings.proofs.Rings.RingLaws as ring

module _ {E : Type 0} (o : Ops E) where
  -- one more term
  pub sum_of-next : (n : ℕ) (f : ℕ → E) → sum_of o (n + 1) f ≡ o.add (sum_of o n f) (f n)
  sum_of-next n f = rw add-one refl

module _ {E : Type 0} (o : Ops E) (L : FieldLaws o) where
  pub add-zero : (a : E) → IsElem o a → o.add a o.zero ≡ a
  add-zero a h = L.add_comm a o.zero h L.zero-elem ∙ L.zero-add a h

  pub mul-one : (a : E) → IsElem o a → o.mul a o.one ≡ a
  mul-one a h = L.mul_comm a o.one h L.one-elem ∙ L.one-mul a h

  pub mul-zero : (a : E) → IsElem o a → o.mul a o.zero ≡ o.zero
  mul-zero a h = ap (λ x. x.0) (ring.mul-zero (elements o L).ring (a, h))

  pub zero-mul : (a : E) → IsElem o a → o.mul o.zero a ≡ o.zero
  zero-mul a h = ap (λ x. x.0) (ring.zero-mul (elements o L).ring (a, h))

  -- a multiple of zero adds nothing
  pub add-mul_zero : (a x y : E) → IsElem o a → IsElem o x → y ≡ o.zero → o.add a (o.mul x y) ≡ a
  add-mul_zero a x y h k e = ap (o.add a) (ap (o.mul x) e ∙ mul-zero x k) ∙ add-zero a h

  pub sum_of_eq_zero : (n : ℕ) (f : ℕ → E) → ((i : ℕ) → i < n → f i ≡ o.zero) → sum_of o n f ≡ o.zero
  sum_of_eq_zero zero f h = refl
  sum_of_eq_zero (suc n) f h =
      ap₂ o.add (sum_of_eq_zero n f (λ i l. h i (omega arith))) (h n (omega arith)) ∙ L.zero-add o.zero L.zero-elem

  -- all terms but one are zero
  pub sum_of_eq_single : (n k : ℕ) (f : ℕ → E) → k < n → IsElem o (f k)
      → ((i : ℕ) → i < n → (i ≡ k → ⊥) → f i ≡ o.zero) → sum_of o n f ≡ f k
  sum_of_eq_single zero k f l h z = absurd (omega arith)
  sum_of_eq_single (suc n) k f l h z = ⊎_elim
      (λ g. ap₂ o.add (sum_of_eq_single n k f g h (λ i m. z i (omega arith))) (z n (omega arith) (λ e. omega arith))
      ∙ add-zero (f k) h)
      (λ g.
      let e : n ≡ k = omega arith in
      ap₂ (λ x i. o.add x (f i)) (sum_of_eq_zero n f (λ i m. z i (omega arith) (λ e. omega arith))) e
      ∙ L.zero-add (f k) h)
      (cases_lt k n)

-- an item that was read, whatever stands past the end
pub read-at : {E : Type 0} (o : Ops E) (xs : List E) (k : ℕ) (x : E) → k < length xs → x ≡ get_or xs k x → x ≡ at o xs k
read-at o xs k x l e = e ∙ get_or_default xs k x o.zero l
