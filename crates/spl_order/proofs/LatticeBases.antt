-- Reduced rows with the lattice of rows whose tuples over a denominator span everything.
use Rattle.std.specs.Prelude.{◌≡◌, ◌≢◌, ℕ, List, [], length}
use Rattle.std.proofs.Common.{sym, subst}
use Rattle.theory_rings.specs.Ops.{Ops, FieldLaws}
use Rattle.theory_fractions.specs.PolynomialLists.{IsPolynomialList}
use Rattle.theory_fractions.specs.Fraction.{Pair}
use Rattle.theory_spaces.specs.Tuples.{IsTuple}
use Rattle.theory_tables.specs.Subspace.{InSpan, AreIndependent}
use Rattle.theory_rows.specs.LeadingPositions.{HaveLeadingPositions}
use Rattle.theory_rows.specs.Rows.{IsPolynomialMatrix, RowsAreIndependent, SameRowLattice}
use Rattle.theory_rows.proofs.Positions.{reduced_independent}
use Rattle.theory_bases.specs.TupleLattices.{SameTupleLattice}
use Rattle.theory_bases.specs.Bases.{IsBasis, IsPolynomialFraction, BasisForm, tuples_of}
use Rattle.theory_bases.proofs.FractionsOver.{K}
use Rattle.theory_bases.proofs.SpanningRows.{independent_of_rows, count_of_basis}
use Rattle.theory_bases.proofs.TupleRows.{same_tuples}

module _ {E : Type 0} (o : Ops E) (L : FieldLaws o) (w : ℕ) (c : List E) (rows : List (List (List E)))
    (hc : IsPolynomialList o c) (nonzero : c ≢ []) (hr : IsPolynomialMatrix o w rows) (basis : List (List (List E)))
    (hb : IsPolynomialMatrix o w basis) (same : SameRowLattice o w rows basis) (places : List ℕ)
    (positions : HaveLeadingPositions w basis places) where
  abbrev k : Ops (Pair E)
  k = K o L

  abbrev tuples : List (List (List E)) → List (List (Pair E))
  tuples xs = tuples_of o L (record { denominator = c; numerators = xs })

  free : RowsAreIndependent o basis
  free = reduced_independent o L w basis places hb positions

  module _ (spans : (v : List (Pair E)) → IsTuple k w v → InSpan k w (tuples rows) v) where
    pub basis_count : length basis ≡ w
    basis_count = count_of_basis o L w c hc nonzero rows hr basis hb same free spans

    pub basis_square : IsPolynomialMatrix o (length basis) basis
    basis_square = subst (λ n. IsPolynomialMatrix o n basis) (sym basis_count) hb

    pub basis_independent : AreIndependent k (length basis) (tuples basis)
    basis_independent = subst (λ n. AreIndependent k n (tuples basis)) (sym basis_count)
        (independent_of_rows o L w c hc nonzero basis hb free)

    module _ (b : BasisForm E) (B : IsBasis o L (length basis) b) (T : tuples_of o L b ≡ tuples basis) where
      pub basis_is : IsBasis o L w b
      basis_is = subst (λ n. IsBasis o L n b) basis_count B

      pub basis_lattice : SameTupleLattice k (IsPolynomialFraction o) w (tuples rows) (tuples_of o L b)
      basis_lattice = subst (SameTupleLattice k (IsPolynomialFraction o) w (tuples rows)) (sym T)
          (same_tuples o L w c hc nonzero rows basis hr hb same)
