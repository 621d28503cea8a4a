-- A basis that is found by lifts of a kernel over a residue field of the program spans a left order.
use Rattle.std.specs.Prelude.{◌≡◌, ◌*◌, ◌++◌, ℕ, List}
use Rattle.std.proofs.Common.{sym, subst}
use Rattle.theory_rings.specs.Ops.{Ops, FieldLaws}
use Rattle.theory_fractions.specs.PolynomialLists.{IsPolynomialList, IsProduct}
use Rattle.theory_fractions.specs.Fraction.{Pair}
use Rattle.theory_fractions.specs.FractionOps.{fraction_ops}
use Rattle.theory_fractions.specs.CommonDenominator.{as_fraction}
use Rattle.theory_fractions.proofs.PolynomialFractions.{as_fraction-mul}
use Rattle.theory_remainders.specs.RemainderOps.{remainder_ops}
use Rattle.theory_remainders.proofs.RemainderField.{monic}
use Rattle.theory_places.specs.FractionPlaces.{IsMonicIrreducible}
use Rattle.theory_tables.specs.Matrix.{IsMatrix}
use Rattle.theory_tables.specs.Subspace.{SpansKernel}
use Rattle.theory_rows.specs.Rows.{IsPolynomialMatrix}
use Rattle.theory_bases.specs.TupleLattices.{SameTupleLattice}
use Rattle.theory_bases.specs.Bases.{BasisForm, IsBasis, IsPolynomialFraction, tuples_of}
use Rattle.spl_field.specs.declared.small.SmallField.{SmallField}
use Rattle.spl_field.specs.SmallField.{small_ops, small_laws}
use Rattle.spl_residue.specs.declared.field.ResidueField.{ResidueField}
use Rattle.spl_residue.specs.Residue.{field_of, polynomial_of, residue_ops}
use Rattle.spl_order.specs.LeftOrders.{SpansLeftOrders, GivesLeftOrders, product_matrix}
use Rattle.spl_order.specs.Lifts.{combined_tuples, multiple_tuples}
use Rattle.spl_order.specs.Residues.{IsResidueField, AreProductResidues}
use Rattle.spl_order.proofs.ResidueValues.{same_remainders}
use Rattle.spl_order.proofs.RemainderRows.{lifted_matrix}
use Rattle.spl_order.proofs.GrownTuples.{spans_at_place, spans_over_polynomials}

module _ (f : SmallField) (m : List ℕ) (s : IsMonicIrreducible (small_ops f) m) (k : ResidueField)
    (h : IsResidueField f m k) where
  abbrev o : Ops ℕ
  o = small_ops f

  abbrev L : FieldLaws (small_ops f)
  L = small_laws f

  abbrev K : Ops (Pair ℕ)
  K = fraction_ops (small_ops f) (small_laws f)

  abbrev q : Ops (List ℕ)
  q = remainder_ops (small_ops f) (small_laws f) m (monic (small_ops f) (small_laws f) m s.irreducible)

  residues_are : residue_ops k ≡ q
  residues_are = same_remainders (small_ops (field_of k)) o (small_laws (field_of k)) L (polynomial_of k) m k.irreducible
      s.irreducible h.operations h.polynomial

  pub lifts-matrix : (n : ℕ) (rows : List (List (List ℕ))) → IsMatrix (residue_ops k) n rows → IsPolynomialMatrix o n rows
  lifts-matrix n rows shape = lifted_matrix o L m s n rows (subst (λ r. IsMatrix r n rows) residues_are shape)

  pub product-is : (d e c : List ℕ) → e ≡ d → IsPolynomialList o d → IsPolynomialList o c → IsProduct o m e c
      → as_fraction o c ≡ K.mul (as_fraction o m) (as_fraction o d)
  product-is d e c is hd hc p = as_fraction-mul o L m d c (let i = s.irreducible in i.polynomial) hd hc
      (subst (λ x. IsProduct o m x c) is p)

  module _ (b : BasisForm ℕ) (cs : List (List ℕ)) (rows : List (List (List ℕ))) (c : List ℕ) (out : BasisForm ℕ) where
    -- what a program has found
    pub record AreFound (n : ℕ) : Type 0 where
      pub basis : IsBasis o L n b
      pub shape : IsMatrix (residue_ops k) n rows
      pub spans : SpansKernel (residue_ops k) (n * n) n (product_matrix (residue_ops k) n cs) rows
      pub polynomial : IsPolynomialList o c
      pub product : as_fraction o c ≡ K.mul (as_fraction o m) (as_fraction o b.denominator)
      pub out_basis : IsBasis o L n out
      pub same : SameTupleLattice K (IsPolynomialFraction o) n
          (combined_tuples o L n c rows b.numerators ++ multiple_tuples o L n c m b.numerators) (tuples_of o L out)

    pub gives_left_orders : (n : ℕ) → AreFound n → GivesLeftOrders o L m (residue_ops k) n cs b out
    gives_left_orders n F A e over assoc R order =
        let G : AreFound A.dim = subst AreFound (sym e) F in
        subst (λ r. AreProductResidues o L m r A (tuples_of o L b) cs → IsMatrix r A.dim rows
        → SpansKernel r (A.dim * A.dim) A.dim (product_matrix r A.dim cs) rows
        → SpansLeftOrders o L m A order (tuples_of o L b) (tuples_of o L out))
        (sym residues_are) (λ R shape spans. record {
          at_place = spans_at_place o L m s A over assoc order b G.basis cs R.coordinate R.coordinates R.residues rows
              shape spans c G.polynomial G.product out G.out_basis G.same;
          over_polynomials = spans_over_polynomials o L m s A over assoc order b G.basis cs R.coordinate R.coordinates
              R.residues rows shape spans c G.polynomial G.product out G.out_basis G.same;
        }) R G.shape G.spans
