-- The tables of sums, negatives, products and inverses by digits are a field.
use Rattle.std.specs.Prelude.{◌≡◌, ℕ, ◌^◌, ◌<◌, ◌≤◌, List, length, slice_index, nat_lt}
use Rattle.std.proofs.Common.{refl, sym, ap, subst}
use Rattle.std.proofs.Math.Logic.{∥∥₁_elim}
use Rattle.std.proofs.Math.Nat.{ℕ_set, pos_of_ne-zero}
use Rattle.theory_rings.specs.Ops.{Ops, FieldLaws}
use Rattle.theory_rings.specs.FieldByDigits.{IsProductByDigits, IsFieldByDigits}
use Rattle.theory_rings.proofs.FiniteFields.FieldByDigits.{product_exists, product_unique}
use Rattle.theory_rings.proofs.FiniteFields.RingByDigits.{field_by_digits_laws}
use Rattle.spl_field.specs.Tables.{entry_at, table_ops, AreElements, AreSums, AreNegatives, AreProducts, AreInverses}

-- a product is known where it is known that there is one
pub product_of_merely : (p : ℕ) (two_le : 2 ≤ p) (m : List ℕ) (a b c : ℕ) → ∥ IsProductByDigits p m a b c ∥₁
    → IsProductByDigits p m a b c
product_of_merely p two_le m a b c h =
    let s = product_exists p two_le m a b in
    subst (IsProductByDigits p m a b)
    (∥∥₁_elim h (ℕ_set s.0 c) (λ t. product_unique p two_le m a b s.0 c s.1 t)) s.1

module _ (p : ℕ) (two_le : 2 ≤ p) (m : List ℕ) (d : 1 ≤ length m) (q : ℕ) (size : q ≡ p ^ length m)
    (sums negatives products inverses : List ℕ)
    (S : AreSums p m q sums) (below_negatives : AreElements q q negatives) (N : AreNegatives p m q negatives)
    (P : AreProducts p m q products) (below_inverses : AreElements q q inverses) (I : AreInverses p m q inverses) where
  abbrev o : Ops ℕ
  o = table_ops q sums negatives products inverses

  within : (a : ℕ) → a < p ^ length m → a < q
  within a l = subst (λ n. a < n) (sym size) l

  pub is_field_by_digits : IsFieldByDigits p m o
  is_field_by_digits = record {
    is_elem = λ a. ap (nat_lt a) size;
    is_zero = λ a. refl;
    zero = refl;
    one = refl;
    add = λ a b la lb. S a b (within a la) (within b lb);
    neg = λ a la. subst (λ n. slice_index negatives a < n) size (below_negatives a (within a la));
    add-neg = λ a la. N a (within a la);
    mul = λ a b la lb. product_of_merely p two_le m a b (entry_at q products a b) (P a b (within a la) (within b lb));
    inv = λ a la. subst (λ n. slice_index inverses a < n) size (below_inverses a (within a la));
    mul-inv = λ a la n. product_of_merely p two_le m a (slice_index inverses a) 1
        (I a (pos_of_ne-zero n) (within a la));
  }

  pub field_laws : FieldLaws o
  field_laws = field_by_digits_laws p two_le m d o is_field_by_digits
