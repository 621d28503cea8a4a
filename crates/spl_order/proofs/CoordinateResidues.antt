-- The coordinates of the tuples of a basis in that of an order whose lattice at a place holds theirs, and the residues.
use Rattle.std.specs.Prelude.{◌≡◌, ◌≢◌, ◌<◌, ℕ, List, [], length, get_or, map}
use Rattle.std.proofs.Common.{refl, ◌∙◌, ap, subst, arith}
use Rattle.std.proofs.lemmas.List.{get_or_default, get_or-map}
use Rattle.std.proofs.lemmas.List.Elements.{All-from_get_or}
use Rattle.theory_rings.specs.Ops.{Ops, IsElem, FieldLaws}
use Rattle.theory_rings.specs.Sum.{at, sum_of}
use Rattle.theory_spaces.specs.Sets.{Within}
use Rattle.theory_spaces.specs.Tuples.{IsTuple}
use Rattle.theory_tables.specs.Matrix.{entry}
use Rattle.theory_fractions.specs.Fraction.{Pair}
use Rattle.theory_fractions.proofs.CommonDenominators.{nonzero_of_monic}
use Rattle.theory_places.specs.Places.{Finite}
use Rattle.theory_places.specs.FractionPlaces.{IsIntegralAt, IsMonicIrreducible}
use Rattle.theory_reductions.specs.Reductions.{IsResidueOf}
use Rattle.theory_rows.specs.Rows.{IsPolynomialRow, IsPolynomialMatrix}
use Rattle.theory_rows.proofs.LiftedRows.{matrix-over, matrix-trimmed}
use Rattle.theory_bases.specs.TupleLattices.{TupleLattice}
use Rattle.theory_bases.specs.Bases.{BasisForm, IsBasis, fraction_over, tuples_of}
use Rattle.theory_bases.proofs.FractionsOver.{K, over-elem}
use Rattle.spl_field.specs.declared.small.SmallField.{SmallField}
use Rattle.spl_field.specs.SmallField.{small_ops, small_laws}
use Rattle.spl_order.specs.Values.{HasMatrix, product_entry}
use Rattle.spl_order.specs.Members.{AreCoordinateColumns}
use Rattle.spl_order.specs.Residues.{AreResiduesOver}
use Rattle.spl_order.specs.Images.{AreCoordinateResidues}
use Rattle.spl_order.proofs.ProductEntries.{square_count}
use Rattle.spl_order.proofs.Values.{matrix_is}
use Rattle.spl_order.proofs.MemberTests.{lattice_by_items}
use Rattle.spl_order.proofs.WithinAt.{tuples_within, back}

module _ {E : Type 0} (o : Ops E) (L : FieldLaws o) (m : List E) (place : IsMonicIrreducible o m) (n : ℕ)
    (order inside : BasisForm E) (ho : IsBasis o L n order) (hi : IsBasis o L n inside) (scale : List E)
    (columns : List (List (List E)))
    (C : AreCoordinateColumns o L n (tuples_of o L order) inside.denominator scale columns)
    (rows : List (List (List E)))
    (R : HasMatrix o (product_entry o L (length columns) inside.numerators columns) (length inside.numerators) n rows)
  where
    abbrev k : Ops (Pair E)
    k = K o L

    abbrev N : List (List (List E))
    N = inside.numerators

    pub rows-matrix : IsPolynomialMatrix o n rows
    rows-matrix = matrix_is o (product_entry o L (length columns) N columns) (length N) n rows R

    line : (i : ℕ) → i < length N → IsPolynomialRow o n (get_or N i [])
    line i l = hi.rows i [] l

    abbrev coordinate : ℕ → ℕ → Pair E
    coordinate i l = fraction_over o L scale (get_or (get_or rows i []) l [])

    coordinate-elem : (i l : ℕ) → IsElem k (coordinate i l)
    coordinate-elem i l = over-elem o L scale C.polynomial C.nonzero (get_or (get_or rows i []) l []) (record {
      over = matrix-over o L n rows rows-matrix i l;
      trimmed = matrix-trimmed o L n rows rows-matrix i l;
    })

    ni : inside.denominator ≢ []
    ni = nonzero_of_monic o L inside.denominator (let l = hi.least in l.monic)

    combines : (i c : ℕ) → i < n → c < n → entry k (tuples_of o L inside) i c
        ≡ sum_of k n (λ l. k.mul (coordinate i l) (entry k (tuples_of o L order) l c))
    combines i c i_in c_in =
        let l : i < length N = omega (arith, i_in, square_count o L n inside hi) in
        ap (λ v. at k v c) (get_or-map (map (fraction_over o L inside.denominator)) N i [] [] l)
        ∙ C.combines (get_or N i []) (get_or rows i []) (line i l) (R.each i l) c c_in

    -- the coordinates are integral
    pub coordinates-integral : Within (TupleLattice k (IsIntegralAt o (Finite m)) n (tuples_of o L inside))
        (TupleLattice k (IsIntegralAt o (Finite m)) n (tuples_of o L order)) → (i l : ℕ) → i < length rows → l < n
        → IsIntegralAt o (Finite m) (coordinate i l)
    coordinates-integral within i l i_in l_in =
        let t : i < length N = omega (arith, i_in, R.count) in
        (lattice_by_items o L n (tuples_of o L order) ho.independent inside.denominator hi.polynomial ni scale columns C
        (get_or N i []) (line i t) (get_or rows i []) (R.each i t) (IsIntegralAt o (Finite m))).0
        ((tuples_within o L m place n inside order hi ho).1 within i t) l l_in

    pub residues-of : (r : Ops (List E)) (residues : List (List (List E))) → length residues ≡ length rows
        → ((i : ℕ) → i < length rows → AreResiduesOver o L m r scale (get_or rows i []) n (get_or residues i []))
        → AreCoordinateResidues o L m r n (tuples_of o L order) (tuples_of o L inside) residues
    residues-of r residues c each = record {
      count = total;
      shape = All-from_get_or (IsTuple r n) residues [] (λ i l.
          let e = each i (omega (arith, l, c)) in
          record {
            right_length = e.count;
            of_elements = All-from_get_or (IsElem r) (get_or residues i []) []
                (λ j j_in. e.elements j (omega (arith, j_in, e.count)));
          });
      coordinate = coordinate;
      elements_of = coordinate-elem;
      combines = combines;
      residues = λ i l i_in l_in.
          let e = each i (omega (arith, i_in, total, c)) in
          subst (IsResidueOf o m r (coordinate i l))
          (get_or_default (get_or residues i []) l [] r.zero (omega (arith, l_in, e.count))) (e.values l l_in);
    }
      where
        total : length residues ≡ n
        total = c ∙ R.count ∙ square_count o L n inside hi

-- what a program reads is what it is read of
module _ (F g : SmallField) (g-is : g ≡ F) (n : ℕ) where
  pub columns_of : (T : BasisForm ℕ) (d e scale : List ℕ) (columns : List (List (List ℕ))) → d ≡ e
      → AreCoordinateColumns (small_ops g) (small_laws g) n (tuples_of (small_ops g) (small_laws g) T) d scale columns
      → AreCoordinateColumns (small_ops F) (small_laws F) n (tuples_of (small_ops F) (small_laws F) T) e scale columns
  columns_of T d e scale columns d-is h =
      let S : List ℕ → SmallField → ℕ → Type 0 = λ d f n.
      AreCoordinateColumns (small_ops f) (small_laws f) n (tuples_of (small_ops f) (small_laws f) T) d scale columns in
      subst (λ d. S d F n) d-is (back F g g-is n n refl (S d) h)

  pub product_of : (z y u v rows : List (List (List ℕ))) → z ≡ y → u ≡ v
      → HasMatrix (small_ops g) (product_entry (small_ops g) (small_laws g) (length u) z u) (length z) n rows
      → HasMatrix (small_ops F) (product_entry (small_ops F) (small_laws F) (length v) y v) (length y) n rows
  product_of z y u v rows z-is u-is h =
      let S : List (List (List ℕ)) → List (List (List ℕ)) → SmallField → ℕ → Type 0 = λ z u f n.
      HasMatrix (small_ops f) (product_entry (small_ops f) (small_laws f) (length u) z u) (length z) n rows in
      subst (λ u. S y u F n) u-is (subst (λ z. S z u F n) z-is (back F g g-is n n refl (S z u) h))
