-- What is said of an order modulo a place over the operations of its residue field, over the remainders by the place's
-- polynomial.
use Rattle.std.specs.Prelude.{◌≡◌, ℕ, List}
use Rattle.std.proofs.Common.{sym, subst}
use Rattle.theory_rings.specs.Ops.{Ops}
use Rattle.theory_remainders.specs.RemainderOps.{remainder_ops}
use Rattle.theory_remainders.proofs.RemainderField.{monic}
use Rattle.theory_tables.specs.Structure.{Structure}
use Rattle.theory_fractions.specs.Fraction.{Pair}
use Rattle.theory_places.specs.FractionPlaces.{IsMonicIrreducible}
use Rattle.spl_field.specs.declared.small.SmallField.{SmallField}
use Rattle.spl_field.specs.SmallField.{small_ops, small_laws}
use Rattle.spl_residue.specs.declared.field.ResidueField.{ResidueField}
use Rattle.spl_residue.specs.Residue.{field_of, polynomial_of, residue_ops}
use Rattle.spl_order.specs.Residues.{IsResidueAlgebra}
use Rattle.spl_order.proofs.ResidueValues.{same_remainders}

module _ (f : SmallField) (A : Structure (Pair ℕ)) (tuples : List (List (Pair ℕ))) (m : List ℕ)
    (s : IsMonicIrreducible (small_ops f) m) (k : ResidueField) (B : Structure (List ℕ))
    (C : IsResidueAlgebra f A tuples m k B) where
  abbrev r : Ops (List ℕ)
  r = remainder_ops (small_ops f) (small_laws f) m (monic (small_ops f) (small_laws f) m s.irreducible)

  operations_are : residue_ops k ≡ r
  operations_are =
      let F = C.field in
      same_remainders (small_ops (field_of k)) (small_ops f) (small_laws (field_of k)) (small_laws f)
      (polynomial_of k) m k.irreducible s.irreducible F.operations F.polynomial

  pub over_remainders : (P : Ops (List ℕ) → Structure (List ℕ) → Type 0) → P (residue_ops k) B
      → P r (record { dim = A.dim; constants = B.constants })
  over_remainders P h =
      subst (λ (r : Ops (List ℕ)). P r (record { dim = A.dim; constants = B.constants })) operations_are
      (subst (λ n. P (residue_ops k) (record { dim = n; constants = B.constants })) C.dim h)

  pub from_remainders : (P : Ops (List ℕ) → Structure (List ℕ) → Type 0)
      → P r (record { dim = A.dim; constants = B.constants }) → P (residue_ops k) B
  from_remainders P h =
      subst (λ n. P (residue_ops k) (record { dim = n; constants = B.constants })) (sym C.dim)
      (subst (λ (r : Ops (List ℕ)). P r (record { dim = A.dim; constants = B.constants })) (sym operations_are) h)
