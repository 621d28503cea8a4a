-- Whether the products of two bases of tuples lie in the lattice of a third, by rows of polynomials over a denominator.
use Rattle.std.specs.Prelude.{◌≡◌, ◌<◌, ◌≤◌, ◌+◌, ◌*◌, ◌/◌, ◌%◌, ◌↔◌, ℕ, List, [], length, get_or, drop}
use Rattle.std.proofs.Common.{sym, ◌∙◌, subst, arith, mul-le-mul_right}
use Rattle.std.proofs.Math.Nat.{div-add-mod'}
use Rattle.std.proofs.lemmas.List.{length-take-le, length-drop, get_or-take, get_or-drop}
use Rattle.std.proofs.lemmas.List.Elements.{All-from_get_or}
use Rattle.theory_rings.specs.Ops.{Ops, FieldLaws}
use Rattle.theory_rings.specs.Elements.{Elem, elements}
use Rattle.theory_rings.specs.Polynomial.{IsTrimmed}
use Rattle.theory_spaces.specs.Lattice.{IsSubring}
use Rattle.theory_spaces.proofs.Matrices.PairIndex.{pair-lt, row-lt, column-lt}
use Rattle.theory_fractions.specs.PolynomialLists.{IsOver, IsPolynomialList}
use Rattle.theory_fractions.specs.Fraction.{Pair}
use Rattle.theory_places.specs.Places.{Finite}
use Rattle.theory_places.specs.FractionPlaces.{IsIntegralAt, IsMonicIrreducible}
use Rattle.theory_rows.specs.Rows.{IsPolynomialRow}
use Rattle.theory_tables.specs.Structure as structures
use Rattle.theory_tables.specs.Structure.{Structure, product_of}
use Rattle.theory_tables.specs.Algebras.{IsIdentity}
use Rattle.theory_bases.specs.TupleLattices.{TupleLattice, AreIndependentTuples, SpanOrder}
use Rattle.theory_bases.specs.Bases.{BasisForm, IsBasis, tuples_of}
use Rattle.theory_bases.proofs.FractionsOver.{K, M}
use Rattle.theory_left_orders.proofs.CoordinateOrders.{identity_is}
use Rattle.theory_left_orders.proofs.ProductLattices.{row_in_lattice, products_within, order_of_products}
use Rattle.spl_order.specs.Coordinates.{row_at, tuple_at, AreProductsOver}
use Rattle.spl_order.proofs.WithinAt.{place_subring}

-- the row i of h ends before the h rows do
pub row_fits : (n h i : ℕ) → i < h → i * n + n ≤ h * n
row_fits n h i l = omega (arith, mul-le-mul_right {m = i + 1} {n = h} n (omega (arith, l)))

module _ {E : Type 0} (o : Ops E) (n : ℕ) (items : List (List E))
    (polynomials : (p : ℕ) → p < length items → IsPolynomialList o (get_or items p [])) (i : ℕ)
    (fits : i * n + n ≤ length items) where
  abbrev line : List (List E)
  line = row_at n items i

  width : length line ≡ n
  width = length-take-le n (drop (i * n) items) (omega (arith, fits, length-drop (i * n) items))

  item : (j : ℕ) → j < length line → IsPolynomialList o (get_or line j [])
  item j l =
      let j_in : j < n = omega (arith, l, width) in
      subst (IsPolynomialList o) (sym (get_or-take n (drop (i * n) items) j [] j_in ∙ get_or-drop (i * n) items j []))
      (polynomials (i * n + j) (omega (arith, j_in, fits)))

  -- the row is one of polynomials
  pub row_at-row : IsPolynomialRow o n line
  row_at-row = record {
    width = width;
    over = All-from_get_or (IsOver o) line [] (λ j l. let p = item j l in p.over);
    trimmed = All-from_get_or (IsTrimmed o.zero) line [] (λ j l. let p = item j l in p.trimmed);
  }

module _ {E : Type 0} (o : Ops E) (L : FieldLaws o) (m : List E) (place : IsMonicIrreducible o m) where
  abbrev k : Ops (Pair E)
  k = K o L

  abbrev P : Pair E → Type 0
  P = IsIntegralAt o (Finite m)

  module _ (A : Structure (Pair E)) (over : structures.IsOver k A) where
    abbrev n : ℕ
    n = A.dim

    abbrev subring : IsSubring (let F = elements k (M o L) in F.ring) (λ (c : Elem k). P c.0)
    subring = place_subring o L m place

    abbrev Lat : BasisForm E → List (Pair E) → Type 0
    Lat b = TupleLattice k P n (tuples_of o L b)

    -- all products of members of two lattices lie in the third
    abbrev pub ProductsWithin : BasisForm E → BasisForm E → BasisForm E → Type 0
    ProductsWithin left right inside = (x y : List (Pair E)) → Lat left x → Lat right y → Lat inside (product_of k A x y)

    module _ (left right inside : BasisForm E) (hl : IsBasis o L n left) (hr : IsBasis o L n right)
        (hi : IsBasis o L n inside) (scale : List E) (items : List (List E))
        (C : AreProductsOver o L A (tuples_of o L left) (tuples_of o L right) scale items) where
      left_rows : AreIndependentTuples k n (tuples_of o L left)
      left_rows = hl.independent

      right_rows : AreIndependentTuples k n (tuples_of o L right)
      right_rows = hr.independent

      inside_rows : AreIndependentTuples k n (tuples_of o L inside)
      inside_rows = hi.independent

      pub rows_within : ((r : ℕ) → r < n * n → Lat inside (tuple_at o L scale n items r))
          ↔ ProductsWithin left right inside
      rows_within = (
        λ h. products_within k (M o L) P subring A over (tuples_of o L left) (tuples_of o L right)
            (tuples_of o L inside) left_rows.shape right_rows.shape inside_rows.shape
            (λ i j i_in j_in.
            let i_row : i < n = omega (arith, i_in, left_rows.count) in
            let j_row : j < n = omega (arith, j_in, right_rows.count) in
            subst (Lat inside) (sym (C.products i j i_row j_row))
            (h (i * n + j) (pair-lt n n i j i_row j_row))),
        λ w r r_in.
            let i = r / n in
            let j = r % n in
            let i_row : i < n = row-lt n n r r_in in
            let j_row : j < n = column-lt n n r r_in in
            subst (λ t. Lat inside (tuple_at o L scale n items t)) (div-add-mod' r n)
            (subst (Lat inside) (C.products i j i_row j_row)
            (w (get_or (tuples_of o L left) i []) (get_or (tuples_of o L right) j [])
            (row_in_lattice k (M o L) P subring A over (tuples_of o L left) left_rows.shape i
            (omega (arith, i_row, left_rows.count)))
            (row_in_lattice k (M o L) P subring A over (tuples_of o L right) right_rows.shape j
            (omega (arith, j_row, right_rows.count))))),
      )

    -- an order holds the one identity, and is closed under products
    pub order_tells : (order : BasisForm E) → IsBasis o L n order → (one : List (Pair E)) → IsIdentity k A one
        → SpanOrder k A P (tuples_of o L order) ↔ Lat order one × ProductsWithin order order order
    order_tells order h one is_one = (
      λ s. (
        subst (Lat order) (sym (identity_is k (M o L) P subring A over (tuples_of o L order) h.independent s one is_one))
            s.order.one_in,
        s.order.mul_in,
      ),
      λ p. order_of_products k (M o L) P subring A over (tuples_of o L order) h.independent one is_one p.0 p.1,
    )
