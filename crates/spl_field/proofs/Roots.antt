-- In a field with such tables each element is the p-th power of one.
use Rattle.std.specs.Prelude.{◌≡◌, ℕ, ◌^◌, ◌<◌, ◌≤◌, List, length, slice_index}
use Rattle.std.proofs.Common.{subst}
use Rattle.std.proofs.lemmas.Bool.{ltb-true, lt-ltb}
use Rattle.theory_rings.specs.Ops.{Ops, FieldLaws}
use Rattle.theory_rings.specs.FieldByDigits.{IsFieldByDigits}
use Rattle.theory_rings.proofs.FiniteFields.ElementsByDigits.{prime_by_digits, characteristic_by_digits}
use Rattle.theory_rings.proofs.FiniteFields.FrobeniusRoots.{frobenius_root-exists}
use Rattle.spl_field.specs.Tables.{table_ops, table_power, AreElements, AreSums, AreNegatives, AreProducts, AreInverses}
use Rattle.spl_field.specs.TableField.{is_field_by_digits, field_laws}

module _ (p : ℕ) (two_le : 2 ≤ p) (m : List ℕ) (d : 1 ≤ length m) (q : ℕ) (size : q ≡ p ^ length m)
    (sums negatives products inverses : List ℕ)
    (S : AreSums p m q sums) (below_negatives : AreElements q q negatives) (N : AreNegatives p m q negatives)
    (P : AreProducts p m q products) (below_inverses : AreElements q q inverses) (I : AreInverses p m q inverses) where
  abbrev o : Ops ℕ
  o = table_ops q sums negatives products inverses

  abbrev F : IsFieldByDigits p m o
  F = is_field_by_digits p two_le m d q size sums negatives products inverses S below_negatives N P below_inverses I

  abbrev L : FieldLaws o
  L = field_laws p two_le m d q size sums negatives products inverses S below_negatives N P below_inverses I

  -- each element is the p-th power of one
  pub root_exists : (a : ℕ) → a < q → (r : ℕ) × (r < q) × (table_power q products r p ≡ a)
  root_exists a l = frobenius_root-exists o L q (λ b. (λ e. ltb-true b q e, λ h. lt-ltb b q h)) p
      (prime_by_digits p two_le m d o F) (characteristic_by_digits p two_le m d o F) a l

  -- a table that has a root of each p-th power has one of each element
  pub roots_of_powers : (roots : List ℕ)
      → ((r : ℕ) → r < q → table_power q products
      (slice_index roots (table_power q products r p)) p ≡ table_power q products r p)
      → (a : ℕ) → a < q → table_power q products (slice_index roots a) p ≡ a
  roots_of_powers roots h a l =
      let r = root_exists a l in
      subst (λ n. table_power q products (slice_index roots n) p ≡ n) r.2 (h r.0 r.1)
