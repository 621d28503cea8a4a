-- Rows of numerators over the common denominator of tuples as a basis.
use Rattle.std.specs.Prelude.{◌≡◌, ◌≢◌, ℕ, List, [], ◌∷◌, length, get_or}
use Rattle.std.proofs.Common.{sym, ap, subst, arith}
use Rattle.std.proofs.lemmas.List.Elements.{All-get_or, All-nil}
use Rattle.theory_rings.specs.Ops.{Ops, FieldLaws}
use Rattle.theory_fractions.specs.PolynomialLists.{IsPolynomialList}
use Rattle.theory_fractions.specs.Fraction.{Pair}
use Rattle.theory_fractions.specs.FractionOps.{fraction_ops}
use Rattle.theory_fractions.specs.CommonDenominator.{IsCommonDenominator}
use Rattle.theory_fractions.proofs.CommonDenominators.{nonzero_of_monic}
use Rattle.theory_tables.specs.Matrix.{IsMatrix, width_of}
use Rattle.theory_tables.specs.Subspace.{AreIndependent}
use Rattle.theory_rows.specs.Rows.{IsPolynomialRow, IsPolynomialMatrix, IsLatticeBasis, InRowKernel}
use Rattle.theory_bases.specs.Bases.{BasisForm, IsBasis, IsDenominatorOf, tuples_of}
use Rattle.theory_bases.specs.Joined.{joined}
use Rattle.theory_bases.proofs.Denominators.{denominator_of_tuples}
use Rattle.theory_bases.proofs.KernelTests.{kernel_tells}
use Rattle.spl_order.specs.Rows.{AreNumeratorRows}
use Rattle.spl_order.proofs.NumeratorRows.{numerators-matrix, numerators-tuples}

-- rows of one width have that of the first
pub matrix-width : {E : Type 0} (o : Ops E) (w : ℕ) (rows : List (List (List E))) → IsPolynomialMatrix o w rows
    → IsPolynomialMatrix o (width_of rows) rows
matrix-width o w [] h = All-nil (IsPolynomialRow o 0)
matrix-width o w (x ∷ xs) h =
    let first = All-get_or (IsPolynomialRow o w) (x ∷ xs) 0 [] (omega arith) h in
    subst (λ n. IsPolynomialMatrix o n (x ∷ xs)) (sym first.width) h

module _ {E : Type 0} (o : Ops E) (L : FieldLaws o) (tuples : List (List (Pair E)))
    (ht : (let K : Ops (Pair E) = fraction_ops o L in IsMatrix K (length tuples) tuples)) (c : List E)
    (hc : IsPolynomialList o c)
    (common : IsCommonDenominator o (joined (length tuples) (λ i. get_or tuples i [])) c)
    (rows : List (List (List E))) (h : AreNumeratorRows o L c tuples (length tuples) rows) where
  abbrev n : ℕ
  n = length tuples

  abbrev K : Ops (Pair E)
  K = fraction_ops o L

  abbrev b : BasisForm E
  b = record { denominator = c; numerators = rows }

  nonzero : c ≢ []
  nonzero = nonzero_of_monic o L c common.monic

  pub rows-matrix : IsPolynomialMatrix o n rows
  rows-matrix = numerators-matrix o L c hc nonzero n tuples ht rows h

  pub rows-tuples : tuples_of o L b ≡ tuples
  rows-tuples = numerators-tuples o L c hc nonzero n tuples ht rows h

  module _ (kernel : List (List (List E))) (B : IsLatticeBasis o (length rows) (InRowKernel o rows) kernel) where
    pub basis_of_rows : kernel ≡ [] → IsBasis o L n b
    basis_of_rows e = record {
      rows = rows-matrix;
      polynomial = hc;
      least = subst (λ t. IsDenominatorOf o t c) (sym rows-tuples) (denominator_of_tuples o tuples c common);
      independent = record {
        count = ap length rows-tuples;
        shape = subst (IsMatrix K n) (sym rows-tuples) ht;
        independent = (kernel_tells o L n c rows kernel hc nonzero rows-matrix B).0 e;
      };
    }

    pub dependent_of_rows : AreIndependent K n tuples → kernel ≡ []
    dependent_of_rows f = (kernel_tells o L n c rows kernel hc nonzero rows-matrix B).1
        (subst (AreIndependent K n) (sym rows-tuples) f)
