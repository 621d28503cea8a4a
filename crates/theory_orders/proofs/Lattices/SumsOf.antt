-- Finite sums of members of a set.
use Rattle.std.specs.Prelude.{ℕ, zero, suc, ◌+◌, ◌<◌}
use Rattle.std.proofs.Common.{refl, sym, ◌∙◌, ap, ap₂, subst, arith}
use Rattle.theory_rings.specs.Ring.{RingOn}
use Rattle.theory_rings.specs.Sum.{sum}
use Rattle.theory_rings.proofs.Sums.Sums.{sum_congr, sum-split, mul-sum, sum-mul}
use Rattle.theory_spaces.specs.Module.{AlgebraOn}
use Rattle.theory_spaces.proofs.Linear.Families.{join, join-below, join-above, each_join}
use Rattle.theory_orders.specs.Orders.{IsOrder, IsIdeal, SumOf, Within}

module _ {K V : Type 0} {R : RingOn K} (A : AlgebraOn R V) where
  infixl 65 ◌⊕◌
  infixl 70 ◌⊗◌
  open A use {◌⊕◌, ◌⊗◌}

  -- what holds 0 and sums holds finite sums
  pub sum_in : (Q : V → Type 0) → Q A.zero → ((x y : V) → Q x → Q y → Q (x ⊕ y)) → (n : ℕ) (f : ℕ → V)
      → ((i : ℕ) → i < n → Q (f i)) → Q (sum A.monoid n f)
  sum_in Q z a zero f h = z
  sum_in Q z a (suc n) f h =
      a (sum A.monoid n f) (f n) (sum_in Q z a n f (λ i l. h i (omega arith))) (h n (omega arith))

  -- a sum of members of P lies in what holds the members, 0 and sums
  pub SumOf_in : (P Q : V → Type 0) → Q A.zero → ((x y : V) → Q x → Q y → Q (x ⊕ y)) → Within P Q → Within (SumOf A P) Q
  SumOf_in P Q z a h x s = subst Q (sym s.gives) (sum_in Q z a s.size s.term (λ i l. h (s.term i) (s.each i l)))

  pub SumOf_map : (P Q : V → Type 0) → Within P Q → Within (SumOf A P) (SumOf A Q)
  SumOf_map P Q h x s =
      record { size = s.size; term = s.term; each = λ i l. h (s.term i) (s.each i l); gives = s.gives }

  pub SumOf_zero : (P : V → Type 0) → SumOf A P A.zero
  SumOf_zero P = record { size = zero; term = λ i. A.zero; each = λ i l. absurd (omega arith); gives = refl }

  pub SumOf_one : (P : V → Type 0) → Within P (SumOf A P)
  SumOf_one P x h = record { size = suc zero; term = λ i. x; each = λ i l. h; gives = sym (A.zero-add x) }

  pub SumOf_add : (P : V → Type 0) (x y : V) → SumOf A P x → SumOf A P y → SumOf A P (x ⊕ y)
  SumOf_add P x y s t =
      let f = join s.size s.term t.term in
      record {
        size = s.size + t.size;
        term = f;
        each = each_join s.size t.size s.term t.term P s.each t.each;
        gives = ap₂ A.◌⊕◌
            (s.gives ∙ sum_congr A.monoid s.size s.term f (λ i l. sym (join-below s.size s.term t.term i l)))
            (t.gives ∙ sum_congr A.monoid t.size t.term (λ i. f (s.size + i))
            (λ i l. sym (join-above s.size s.term t.term i)))
            ∙ sym (sum-split A.monoid s.size t.size f);
      }

  pub SumOf_left : (P Q : V → Type 0) (l : V) → ((x : V) → P x → Q (l ⊗ x)) → (x : V) → SumOf A P x → SumOf A Q (l ⊗ x)
  SumOf_left P Q l h x s = record {
    size = s.size;
    term = λ i. l ⊗ s.term i;
    each = λ i b. h (s.term i) (s.each i b);
    gives = ap (λ z. l ⊗ z) s.gives ∙ mul-sum A.ring s.size l s.term;
  }

  pub SumOf_right : (P Q : V → Type 0) (r : V) → ((x : V) → P x → Q (x ⊗ r)) → (x : V) → SumOf A P x → SumOf A Q (x ⊗ r)
  SumOf_right P Q r h x s = record {
    size = s.size;
    term = λ i. s.term i ⊗ r;
    each = λ i b. h (s.term i) (s.each i b);
    gives = ap (λ z. z ⊗ r) s.gives ∙ sum-mul A.ring s.size r s.term;
  }

  -- sums of a set closed under products with L from both sides are an ideal
  pub SumOf_ideal : (L P : V → Type 0) → IsOrder A L → Within P L → ((a x : V) → L a → P x → P (a ⊗ x))
      → ((a x : V) → L a → P x → P (x ⊗ a))
      → IsIdeal A L (SumOf A P)
  SumOf_ideal L P O inside left right = record {
    inside = SumOf_in P L O.zero_in O.add_in inside;
    zero_in = SumOf_zero P;
    add_in = SumOf_add P;
    left = λ a x l s. SumOf_left P P a (λ y h. left a y l h) x s;
    right = λ a x l s. SumOf_right P P a (λ y h. right a y l h) x s;
  }
