-- A row of zeros, and one of zeros and a one.
use Rattle.std.specs.Prelude.{◌≡◌, ℕ, Bool, true, false, cond, eqb, List}
use Rattle.theory_rings.specs.Ops.{Ops, IsElem, FieldLaws}
use Rattle.theory_rings.specs.Sum.{table}
use Rattle.theory_spaces.specs.Tuples.{IsTuple, basis}
use Rattle.theory_spaces.proofs.Tuples.Tuples.{IsTuple-table}

module _ {E : Type 0} (o : Ops E) (L : FieldLaws o) where
  one_or_zero-elem : (b : Bool) → IsElem o (cond b o.one o.zero)
  one_or_zero-elem true = L.one-elem
  one_or_zero-elem false = L.zero-elem

  pub IsTuple-of_zeros : (m : ℕ) (xs : List E) → xs ≡ table m (λ _. o.zero) → IsTuple o m xs
  IsTuple-of_zeros m xs e = rw e (IsTuple-table o m (λ _. o.zero) (λ _ _. L.zero-elem))

  pub IsTuple-of_basis : (m i : ℕ) (xs : List E) → xs ≡ basis o m i → IsTuple o m xs
  IsTuple-of_basis m i xs e =
      rw e (IsTuple-table o m (λ k. cond (eqb k i) o.one o.zero) (λ k _. one_or_zero-elem (eqb k i)))
