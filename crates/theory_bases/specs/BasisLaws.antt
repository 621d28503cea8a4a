-- Statements on tuples of fractions as rows of polynomials over a denominator.
use Rattle.std.specs.Prelude.{◌≡◌, ◌≢◌, ◌↔◌, ℕ, List, [], length}
use Rattle.theory_rings.specs.Ops.{Ops, FieldLaws}
use Rattle.theory_fractions.specs.PolynomialLists.{IsPolynomialList}
use Rattle.theory_fractions.specs.FractionOps.{fraction_ops}
use Rattle.theory_tables.specs.Subspace.{AreIndependent}
use Rattle.theory_rows.specs.Rows.{IsPolynomialMatrix, IsLatticeBasis, InRowKernel}
use Rattle.theory_bases.specs.Bases.{tuples_of}

module _ {E : Type 0} (o : Ops E) (L : FieldLaws o) where
  -- rows over a denominator other than 0 are independent tuples exactly where the weights that combine the rows to 0
  -- have the empty basis
  abbrev pub KernelsTellIndependence : Type 0
  KernelsTellIndependence = (w : ℕ) (c : List E) (rows kernel : List (List (List E))) → IsPolynomialList o c → c ≢ []
      → IsPolynomialMatrix o w rows → IsLatticeBasis o (length rows) (InRowKernel o rows) kernel
      → (kernel ≡ []) ↔ AreIndependent (fraction_ops o L) w
      (tuples_of o L (record { denominator = c; numerators = rows }))
