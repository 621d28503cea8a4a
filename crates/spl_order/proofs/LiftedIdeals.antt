-- The preimage of an ideal of an order modulo a place, for the residue fields of a program.
use Rattle.std.specs.Prelude.{◌≡◌, ◌++◌, ℕ, List, []}
use Rattle.std.proofs.Common.{refl, subst}
use Rattle.theory_rings.specs.Ops.{Ops, FieldLaws}
use Rattle.theory_tables.specs.Matrix.{IsMatrix}
use Rattle.theory_tables.specs.Structure.{Structure}
use Rattle.theory_tables.specs.Algebras.{SpansIdeal}
use Rattle.theory_fractions.specs.Fraction.{Pair}
use Rattle.theory_fractions.specs.FractionOps.{fraction_ops}
use Rattle.theory_remainders.specs.RemainderOps.{remainder_ops}
use Rattle.theory_remainders.proofs.RemainderField.{monic}
use Rattle.theory_places.specs.FractionPlaces.{IsMonicIrreducible}
use Rattle.theory_rows.specs.Rows.{IsPolynomialMatrix}
use Rattle.theory_bases.specs.TupleLattices.{SameTupleLattice}
use Rattle.theory_bases.specs.Bases.{BasisForm, IsBasis, IsPolynomialFraction, tuples_of}
use Rattle.spl_field.specs.declared.small.SmallField.{SmallField}
use Rattle.spl_field.specs.SmallField.{small_ops, small_laws}
use Rattle.spl_residue.specs.declared.field.ResidueField.{ResidueField}
use Rattle.spl_residue.specs.Residue.{field_of, polynomial_of, residue_ops}
use Rattle.spl_order.specs.Lifts.{combined_tuples, multiple_tuples}
use Rattle.spl_order.specs.Residues.{AreProductResidues, LiftsIdeal}
use Rattle.spl_order.proofs.ResidueValues.{same_remainders}
use Rattle.spl_order.proofs.IdealPreimages.{weights_matrix, preimages}

-- the operations of a residue field are those of the remainders by its polynomial over each field that is equal to its
-- own
pub residues_are_remainders : (f : SmallField) (k : ResidueField) → small_ops (field_of k) ≡ small_ops f
    → (s : IsMonicIrreducible (small_ops f) (polynomial_of k))
    → residue_ops k ≡ remainder_ops (small_ops f) (small_laws f) (polynomial_of k)
    (monic (small_ops f) (small_laws f) (polynomial_of k) s.irreducible)
residues_are_remainders f k e s = same_remainders (small_ops (field_of k)) (small_ops f) (small_laws (field_of k))
    (small_laws f) (polynomial_of k) (polynomial_of k) k.irreducible s.irreducible e refl

module _ (f : SmallField) (order : BasisForm ℕ) (k : ResidueField) (rows : List (List (List ℕ)))
    (e : small_ops (field_of k) ≡ small_ops f) (s : IsMonicIrreducible (small_ops f) (polynomial_of k)) where
  abbrev o : Ops ℕ
  o = small_ops f

  abbrev L : FieldLaws (small_ops f)
  L = small_laws f

  abbrev K : Ops (Pair ℕ)
  K = fraction_ops (small_ops f) (small_laws f)

  abbrev m : List ℕ
  m = polynomial_of k

  abbrev r : Ops (List ℕ)
  r = remainder_ops (small_ops f) (small_laws f) m (monic (small_ops f) (small_laws f) m s.irreducible)

  -- rows over the residue field are rows of polynomials
  pub residue_rows_matrix : (n : ℕ) → IsBasis (small_ops f) (small_laws f) n order → IsMatrix (residue_ops k) n rows
      → IsPolynomialMatrix (small_ops f) n rows
  residue_rows_matrix n B shape =
      weights_matrix o L m s (record { dim = n; constants = [] }) order B rows
      (subst (λ r. IsMatrix r n rows) (residues_are_remainders f k e s) shape)

  -- a basis of the lattice of the combinations by them and of the multiples
  pub lifts_ideal : (B : Structure (List ℕ)) → IsBasis (small_ops f) (small_laws f) B.dim order
      → SpansIdeal (residue_ops k) B rows → (b : BasisForm ℕ)
      → IsBasis (small_ops f) (small_laws f) B.dim b
      → SameTupleLattice K (IsPolynomialFraction (small_ops f)) B.dim
      (combined_tuples (small_ops f) (small_laws f) B.dim order.denominator rows order.numerators
      ++ multiple_tuples (small_ops f) (small_laws f) B.dim order.denominator (polynomial_of k) order.numerators)
      (tuples_of (small_ops f) (small_laws f) b) → LiftsIdeal f order k B rows b
  lifts_ideal B H J b Hb same A over assoc T t =
      let d : B.dim ≡ A.dim = T.dim in
      let q = remainder_ops o L m (monic o L m t.irreducible) in
      let c : residue_ops k ≡ q = residues_are_remainders f k e t in
      let HA : IsBasis o L A.dim order = subst (λ n. IsBasis o L n order) d H in
      let HbA : IsBasis o L A.dim b = subst (λ n. IsBasis o L n b) d Hb in
      let JA : SpansIdeal q (record { dim = A.dim; constants = B.constants }) rows =
      subst (λ r. SpansIdeal r (record { dim = A.dim; constants = B.constants }) rows) c
      (subst (λ n. SpansIdeal (residue_ops k) (record { dim = n; constants = B.constants }) rows) d J) in
      let P : AreProductResidues o L m q A (tuples_of o L order) B.constants =
      subst (λ r. AreProductResidues o L m r A (tuples_of o L order) B.constants) c T.products in
      preimages o L m t A order HA rows JA.shape B.constants (tuples_of o L b) over assoc P JA
      (let i = HbA.independent in i.shape)
      (subst (λ n. SameTupleLattice K (IsPolynomialFraction o) n
      (combined_tuples o L n order.denominator rows order.numerators
      ++ multiple_tuples o L n order.denominator m order.numerators) (tuples_of o L b)) d same)
