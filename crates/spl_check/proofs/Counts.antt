-- Rows are independent where their span has as many dimensions as they are.
use Rattle.std.specs.Prelude.{◌≡◌, ℕ, List, length}
use Rattle.theory_rings.specs.Ops.{Ops, FieldLaws}
use Rattle.theory_tables.specs.Matrix.{IsMatrix}
use Rattle.theory_tables.specs.Subspace.{SameSpan, IsReducedBasis, AreIndependent}
use Rattle.theory_tables.proofs.Algebras.Dimensions.{dimension_unique, independent_of_dimension}
use Rattle.spl_matrix.proofs.ReducedBases.{reduced_basis_is_independent}

module _ {E : Type 0} (o : Ops E) (L : FieldLaws o) (w : ℕ) (rows tuples : List (List E))
    (basis : IsReducedBasis o w rows) (shape : IsMatrix o w tuples) (same : SameSpan o w rows tuples) where
  pub independent_of_count : length rows ≡ length tuples → AreIndependent o w tuples
  independent_of_count e = independent_of_dimension o L w rows tuples basis.shape shape
      (reduced_basis_is_independent o L w rows basis) same e

  pub count_of_independent : AreIndependent o w tuples → length rows ≡ length tuples
  count_of_independent h = dimension_unique o L w rows tuples basis.shape shape
      (reduced_basis_is_independent o L w rows basis) h same
