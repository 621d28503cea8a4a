-- A row of one basis and the reduced rows of another, as calls hand them over.
use Rattle.std.specs.Prelude.{◌≡◌, ◌≢◌, ◌<◌, ◌↔◌, ℕ, List, [], Bool, length, get_or, map, IsTrue}
use Rattle.std.specs.List.{All}
use Rattle.std.proofs.Common.{sym, ◌∙◌, ap, subst}
use Rattle.std.proofs.lemmas.List.{get_or_default}
use Rattle.spl_field.specs.SmallField.{small_ops, small_laws}
use Rattle.spl_field.specs.declared.small.SmallField.{SmallField}
use Rattle.spl_fraction.specs.FractionsOver.{fractions_over}
use Rattle.theory_fractions.specs.PolynomialLists.{IsPolynomialList}
use Rattle.theory_rows.specs.Rows.{IsPolynomialMatrix, SameRowLattice}
use Rattle.theory_tables.specs.Matrix.{width_of}
use Rattle.theory_bases.specs.TupleLattices.{TupleLattice}
use Rattle.theory_bases.specs.Bases.{BasisForm, IsBasis, IsPolynomialFraction, fraction_over, tuples_of}
use Rattle.spl_order.proofs.Containments.{row_polynomials, row_matrix, row_in, own_nonzero, other_nonzero}

module _ (F : SmallField) (n : ℕ) (a b : BasisForm ℕ) (ha : IsBasis (small_ops F) (small_laws F) n a)
    (hb : IsBasis (small_ops F) (small_laws F) n b) (field : SmallField) (field_is : field ≡ F)
    (numerators : List (List (List ℕ))) (numerators_are : numerators ≡ b.numerators) (basis : List (List (List ℕ)))
    (matrix : IsPolynomialMatrix (small_ops field) (width_of numerators) basis)
    (lattice : SameRowLattice (small_ops field) (width_of numerators) numerators basis)
    (rows : List (List (List ℕ))) (rows_are : rows ≡ a.numerators) (i : ℕ) (i_in : i < length rows)
    (item row : List (List ℕ)) (item_is : item ≡ get_or rows i item) (row_is : row ≡ item)
    (g : SmallField) (g_is : g ≡ F) (d c : List ℕ) (d_is : d ≡ b.denominator) (c_is : c ≡ a.denominator) where
  own_matrix : IsPolynomialMatrix (small_ops F) (width_of b.numerators) basis
  own_matrix = subst (λ r. IsPolynomialMatrix (small_ops F) (width_of r) basis) numerators_are
      (subst (λ f. IsPolynomialMatrix (small_ops f) (width_of numerators) basis) field_is matrix)

  own_lattice : SameRowLattice (small_ops F) (width_of b.numerators) b.numerators basis
  own_lattice = subst (λ r. SameRowLattice (small_ops F) (width_of r) r basis) numerators_are
      (subst (λ f. SameRowLattice (small_ops f) (width_of numerators) numerators basis) field_is lattice)

  pub place_in : i < length a.numerators
  place_in = subst (λ r. i < length r) rows_are i_in

  own_row : row ≡ get_or a.numerators i []
  own_row = row_is ∙ item_is ∙ get_or_default rows i item [] i_in ∙ ap (λ r. get_or r i []) rows_are

  pub are_polynomials : All (IsPolynomialList (small_ops g)) row
  are_polynomials = subst (λ f. All (IsPolynomialList (small_ops f)) row) (sym g_is)
      (row_polynomials (small_ops F) (small_laws F) n a b ha hb basis own_matrix own_lattice i place_in row own_row)

  pub is_matrix : IsPolynomialMatrix (small_ops g) (length row) basis
  is_matrix = subst (λ f. IsPolynomialMatrix (small_ops f) (length row) basis) (sym g_is)
      (row_matrix (small_ops F) (small_laws F) n a b ha hb basis own_matrix own_lattice i place_in row own_row)

  pub d_is_polynomial : IsPolynomialList (small_ops g) d
  d_is_polynomial = subst (λ f. IsPolynomialList (small_ops f) d) (sym g_is)
      (subst (IsPolynomialList (small_ops F)) (sym d_is) hb.polynomial)

  pub c_is_polynomial : IsPolynomialList (small_ops g) c
  c_is_polynomial = subst (λ f. IsPolynomialList (small_ops f) c) (sym g_is)
      (subst (IsPolynomialList (small_ops F)) (sym c_is) ha.polynomial)

  pub d_is_nonzero : d ≢ []
  d_is_nonzero e = other_nonzero (small_ops F) (small_laws F) n a b ha hb (sym d_is ∙ e)

  pub c_is_nonzero : c ≢ []
  c_is_nonzero e = own_nonzero (small_ops F) (small_laws F) n a b ha hb (sym c_is ∙ e)

  -- what the test of the row tells of the row of the basis
  pub test_tells : (r : Bool)
      → (IsTrue r ↔ TupleLattice (fractions_over g) (IsPolynomialFraction (small_ops g)) (length row)
      (tuples_of (small_ops g) (small_laws g) (record { denominator = d; numerators = basis }))
      (map (fraction_over (small_ops g) (small_laws g) c) row))
      → IsTrue r ↔ TupleLattice (fractions_over F) (IsPolynomialFraction (small_ops F)) n
      (tuples_of (small_ops F) (small_laws F) b)
      (map (fraction_over (small_ops F) (small_laws F) a.denominator) (get_or a.numerators i []))
  test_tells r h =
      let Lat : SmallField → List ℕ → List ℕ → Type 0 = λ f x y. TupleLattice (fractions_over f)
      (IsPolynomialFraction (small_ops f)) (length row)
      (tuples_of (small_ops f) (small_laws f) (record { denominator = x; numerators = basis }))
      (map (fraction_over (small_ops f) (small_laws f) y) row) in
      let p = subst (λ y. IsTrue r ↔ Lat F b.denominator y) c_is
      (subst (λ x. IsTrue r ↔ Lat F x c) d_is (subst (λ f. IsTrue r ↔ Lat f d c) g_is h)) in
      let q = row_in (small_ops F) (small_laws F) n a b ha hb basis own_matrix own_lattice i place_in row own_row in
      ((λ t. q.0 (p.0 t)), (λ l. p.1 (q.1 l)))
