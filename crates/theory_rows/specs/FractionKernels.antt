-- The kernel of rows of polynomials over the fractions of polynomials: tuples of fractions whose combination of the
-- rows is 0. (Lang, Algebra, chapter II, on fractions; Kailath, Linear Systems, section 6.3, on minimal bases.)
use Rattle.std.specs.Prelude.{ℕ, List, [], ◌∷◌, length, get_or}
use Rattle.theory_rings.specs.Ops.{Ops, FieldLaws}
use Rattle.theory_rings.specs.Sum.{table}
use Rattle.theory_fractions.specs.Fraction.{Pair}
use Rattle.theory_fractions.specs.FractionOps.{fraction_ops}
use Rattle.theory_tables.specs.Subspace.{SpansKernel, AreIndependent}
use Rattle.theory_rows.specs.Rows.{IsPolynomialMatrix, IsLatticeBasis, InRowKernel}

module _ {E : Type 0} (o : Ops E) where
  -- the polynomial over 1
  abbrev pub as_fraction : List E → Pair E
  as_fraction u = (u, o.one ∷ [])

  -- the matrix with the first w entries of each row as fractions
  abbrev pub fraction_rows : ℕ → List (List (List E)) → List (List (Pair E))
  fraction_rows w rows = table (length rows) (λ i. table w (λ j. as_fraction (get_or (get_or rows i []) j [])))

  -- the same, with columns and rows exchanged
  abbrev pub fraction_columns : ℕ → List (List (List E)) → List (List (Pair E))
  fraction_columns w rows = table w (λ j. table (length rows) (λ i. as_fraction (get_or (get_or rows i []) j [])))

module _ {E : Type 0} (o : Ops E) (L : FieldLaws o) where
  -- the rows are a basis, over the fractions, of the tuples of fractions with which the given rows combine to 0
  pub record IsFractionKernel (w : ℕ) (rows basis : List (List (List E))) : Type 0 where
    pub spans : SpansKernel (fraction_ops o L) w (length rows) (fraction_columns o w rows)
        (fraction_rows o (length rows) basis)
    pub independent : AreIndependent (fraction_ops o L) (length rows) (fraction_rows o (length rows) basis)

  -- a basis of the kernel over the polynomials is one over the fractions
  abbrev pub KernelIsBasisOverFractions : Type 0
  KernelIsBasisOverFractions = (w : ℕ) (rows basis : List (List (List E))) → IsPolynomialMatrix o w rows
      → IsLatticeBasis o (length rows) (InRowKernel o rows) basis → IsFractionKernel w rows basis
