-- Which lattices of a basis of tuples hold a row of polynomials over a denominator, by its coordinates.
use Rattle.std.specs.Prelude.{◌≡◌, ◌≢◌, ◌<◌, ◌↔◌, ℕ, Bool, List, [], IsTrue, length, get_or, map}
use Rattle.std.proofs.Common.{refl, sym, ◌∙◌, ap, subst, arith}
use Rattle.std.proofs.lemmas.List.Elements.{All-get_or}
use Rattle.theory_rings.specs.Ring.{FieldOn}
use Rattle.theory_rings.specs.Ops.{Ops, IsElem, FieldLaws}
use Rattle.theory_rings.specs.Elements.{Elem}
use Rattle.theory_rings.specs.Sum.{sum, table}
use Rattle.theory_rings.proofs.Rings.Elements.{sum_of-elements}
use Rattle.theory_rings.proofs.Sums.Lists.{length-table, get_or-table}
use Rattle.theory_spaces.proofs.Linear.LatticeSpans.{sum_in}
use Rattle.theory_fractions.specs.PolynomialLists.{IsPolynomialList, Divides}
use Rattle.theory_fractions.specs.Fraction.{Pair}
use Rattle.theory_fractions.specs.CommonDenominator.{as_fraction}
use Rattle.theory_rows.specs.Rows.{IsPolynomialRow, IsPolynomialMatrix}
use Rattle.theory_rows.proofs.LiftedRows.{matrix-over, matrix-trimmed}
use Rattle.theory_bases.specs.TupleLattices.{TupleLattice, AreIndependentTuples}
use Rattle.theory_bases.specs.Bases.{IsPolynomialFraction, fraction_over}
use Rattle.theory_bases.proofs.FractionsOver.{K, M, over-elem, over_row-tuple}
use Rattle.theory_bases.proofs.PolynomialDivisors.{fraction_field, up}
use Rattle.theory_bases.proofs.PolynomialWeights.{numerator-is, polynomial-is, polynomials_are_subring}
use Rattle.theory_left_orders.proofs.TupleLattices.{lattice_by_weights}
use Rattle.spl_order.specs.Values.{HasRow}
use Rattle.spl_order.specs.Members.{row_product, AreCoordinateColumns, HasDividedProduct}
use Rattle.spl_order.proofs.ProductEntries.{polynomial_at}
use Rattle.spl_order.proofs.Values.{items_of, row_unique}

module _ {E : Type 0} (o : Ops E) (L : FieldLaws o) (n : ℕ) where
  abbrev k : Ops (Pair E)
  k = K o L

  abbrev Is : List E → Type 0
  Is = IsPolynomialList o

  abbrev F : FieldOn (Elem k)
  F = fraction_field o L

  -- the product of a row and a matrix of polynomials has polynomials as items
  module _ (line : List (List E)) (h : IsPolynomialRow o n line) (columns : List (List (List E)))
      (matrix : IsPolynomialMatrix o n columns) where
    abbrev term : ℕ → ℕ → Elem k
    term j c = F.◌⊗◌
        (up o L (get_or line c [])
        (polynomial_at o L line (λ c l. All-get_or Is line c [] l (items_of o n line h)) c))
        (up o L (get_or (get_or columns c []) j [])
        (record { over = matrix-over o L n columns matrix c j; trimmed = matrix-trimmed o L n columns matrix c j }))

    abbrev total : ℕ → Elem k
    total j = sum F.monoid (length columns) (term j)

    total-is : (j : ℕ) → row_product o L line columns j ≡ (total j).0
    total-is j = sum_of-elements k (M o L) (length columns) (term j)

    total-polynomial : (j : ℕ) → IsPolynomialFraction o (total j).0
    total-polynomial j =
        let S = polynomials_are_subring o L in
        sum_in F (λ c. IsPolynomialFraction o c.0) S (length columns) (term j)
        (λ c _. S.mul_in (up o L (get_or line c [])
        (polynomial_at o L line (λ c l. All-get_or Is line c [] l (items_of o n line h)) c))
        (up o L (get_or (get_or columns c []) j [])
        (record { over = matrix-over o L n columns matrix c j; trimmed = matrix-trimmed o L n columns matrix c j }))
        refl refl)

    abbrev items : List (List E)
    items = table n (λ j. (total j).0.0)

    item : (j : ℕ) → j < n → get_or items j [] ≡ (total j).0.0
    item j l = get_or-table n (λ j. (total j).0.0) j [] l

    items-are : HasRow o (row_product o L line columns) n items
    items-are = record {
      count = length-table n (λ j. (total j).0.0);
      polynomials = λ j l. subst Is (sym (item j l)) (numerator-is o L (total j).0 (total j).1);
      values = λ j l. ap (as_fraction o) (item j l) ∙ sym (polynomial-is o L (total j).0 (total-polynomial j))
          ∙ sym (total-is j);
    }

  module _ (tuples : List (List (Pair E))) (ind : AreIndependentTuples k n tuples) (d : List E)
      (hd : IsPolynomialList o d) (nd : d ≢ []) (scale : List E) (columns : List (List (List E)))
      (C : AreCoordinateColumns o L n tuples d scale columns) (line : List (List E))
      (h : IsPolynomialRow o n line) where
    abbrev x : List (Pair E)
    x = map (fraction_over o L d) line

    module _ (found : List (List E)) (H : HasRow o (row_product o L line columns) n found) where
      found-is : (l : ℕ) → Is (get_or found l [])
      found-is = polynomial_at o L found (λ l l_in. H.polynomials l (omega (arith, l_in, H.count)))

      pub coordinate-elem : (l : ℕ) → IsElem k (fraction_over o L scale (get_or found l []))
      coordinate-elem l = over-elem o L scale C.polynomial C.nonzero (get_or found l []) (found-is l)

      -- the lattice over P holds the row over d exactly where its coordinates are in P
      pub lattice_by_items : (P : Pair E → Type 0) → TupleLattice k P n tuples x
          ↔ ((l : ℕ) → l < n → P (fraction_over o L scale (get_or found l [])))
      lattice_by_items P = lattice_by_weights k (M o L) n tuples ind P x (over_row-tuple o L d hd nd n line h)
          (λ l. (fraction_over o L scale (get_or found l []), coordinate-elem l)) (C.combines line found h H)

    -- the test by a divisor
    pub divided_tells : (part : List E) (P : Pair E → Type 0)
        → ((u : List E) → Is u → Divides o part u ↔ P (fraction_over o L scale u))
        → HasDividedProduct o L part n columns line ↔ TupleLattice k P n tuples x
    divided_tells part P tells = (
      λ r. (lattice_by_items r.items r.product P).1
          (λ l l_in. (tells (get_or r.items l []) (found-is r.items r.product l)).0 (r.divided l l_in)),
      λ t.
          let e = items line h columns C.matrix in
          let H = items-are line h columns C.matrix in
          record {
            items = e;
            product = H;
            divided = λ l l_in. (tells (get_or e l []) (found-is e H l)).1 ((lattice_by_items e H P).0 t l l_in);
          },
    )

  -- the items that were computed are the only ones
  pub passes_tells : (part : List E) (columns : List (List (List E))) (line found : List (List E))
      → HasRow o (row_product o L line columns) n found → (r : Bool)
      → (IsTrue r ↔ ((p : ℕ) → p < length found → Divides o part (get_or found p [])))
      → IsTrue r ↔ HasDividedProduct o L part n columns line
  passes_tells part columns line found H r e = (
    λ t. record { items = found; product = H; divided = λ l l_in. e.0 t l (omega (arith, l_in, H.count)) },
    λ d. e.1 (λ p l. subst (λ z. Divides o part (get_or z p []))
        (row_unique o (row_product o L line columns) n d.items found d.product H)
        (d.divided p (omega (arith, l, H.count)))),
  )
