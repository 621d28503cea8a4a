-- Modulo p^(i + 1) the trace of the p^i-th power of a lift of a multiplication does not depend on the lift.
use Rattle.std.specs.Prelude.{◌≡◌, ℕ, suc, List}
use Rattle.std.proofs.Common.{sym, ◌∙◌}
use Rattle.theory_rings.specs.Ops.{IsElem, FieldLaws}
use Rattle.theory_rings.specs.Elements.{Elem, Elem-path}
use Rattle.theory_rings.specs.Sum.{at}
use Rattle.theory_rings.proofs.Rings.Elements.{at-elem}
use Rattle.theory_rings.proofs.FiniteFields.ElementsByDigits.{prime_by_digits}
use Rattle.theory_spaces.proofs.Tuples.TupleProducts.{IsTuple-product, IsTuple-basis}
use Rattle.theory_radical.proofs.Chain.ChainLaws.{traces_of_matrix_powers}
use Rattle.theory_radical.proofs.Lifts.LiftRings.{congruent_of_down}
use Rattle.theory_remainders.proofs.RemainderField.{remainder_laws}
use Rattle.theory_tables.specs.Structure.{Structure, IsOver, IsElement, product_of, basis_of}
use Rattle.theory_lifts.proofs.ElementLists.{two_le_power, digit_list-down}
use Rattle.spl_field.specs.SmallField.{small_ops, small_laws, modulus_of}
use Rattle.spl_residue.specs.Residue.{field_of, polynomial_of, residue_ops}
use Rattle.spl_residue.specs.declared.field.ResidueField.{ResidueField}
use Rattle.spl_radical.specs.LiftRing.{small_by_digits, prime_of, residue_field, lift_ring, lifted}
use Rattle.spl_radical.specs.TracePower.{lifted_matrix, IsIndependentOfLift}

module _ (k : ResidueField) (l : ℕ) (T : Structure (List ℕ)) (over : IsOver (residue_ops k) T) (a : List (List ℕ))
    (ha : IsElement (residue_ops k) T a) where
  laws : FieldLaws (residue_ops k)
  laws = remainder_laws (small_ops (field_of k)) (small_laws (field_of k)) (polynomial_of k) k.irreducible

  entry_elem : (r c : ℕ) → IsElem (residue_ops k)
      (at (residue_ops k) (product_of (residue_ops k) T a (basis_of (residue_ops k) T c)) r)
  entry_elem r c = let o = residue_ops k in
      at-elem o laws (product_of o T a (basis_of o T c))
      (IsTuple-product o laws T.dim T.constants over.of_elements a (basis_of o T c) ha
      (IsTuple-basis o laws T.dim T.constants over.of_elements c)).of_elements r

  lifted-down : (x : Elem (residue_ops k)) → (lift_ring k l).down (lifted k l x.0) ≡ x
  lifted-down x = let f = field_of k in digit_list-down (small_ops f) (small_laws f) (polynomial_of k) k.irreducible
      (prime_of k) f.least (modulus_of f) f.some_number (small_by_digits f) (suc l)
      (two_le_power (prime_of k) l f.least) x

  pub independent_of_lift : (i : ℕ) → IsIndependentOfLift k l T a i
  independent_of_lift i N h = let f = field_of k in
      let R = lift_ring k l in
      let o = residue_ops k in
      traces_of_matrix_powers R.ring R.set (prime_of k)
      (prime_by_digits (prime_of k) f.least (modulus_of f) f.some_number (small_ops f) (small_by_digits f)) T.dim i N
      (lifted_matrix k l T a) (λ r c rl cl.
      let x : Elem o = (at o (product_of o T a (basis_of o T c)) r, entry_elem r c) in
      congruent_of_down (residue_field k).cring R.ring (prime_of k) (suc l) R.down R.is_lift (N r c)
      (lifted k l x.0) (Elem-path o (R.down (N r c)) x (h r c rl cl) ∙ sym (lifted-down x)))
