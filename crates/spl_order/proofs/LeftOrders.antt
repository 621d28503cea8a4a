-- The left order of the lattice of tuples by the residues of the coordinates of their products, at a place and over the
-- polynomials.
use Rattle.std.specs.Prelude.{◌≡◌, ◌<◌, ◌*◌, ◌+◌, ◌/◌, ◌%◌, ℕ, List, [], ◌++◌, length, get_or}
use Rattle.std.proofs.Common.{refl, sym, ◌∙◌, ap, subst, arith}
use Rattle.std.proofs.lemmas.Nat.{div-mul-add, mod-mul-add}
use Rattle.theory_rings.specs.Ops.{Ops, IsElem, FieldLaws}
use Rattle.theory_rings.specs.Elements.{Elem, elements}
use Rattle.theory_rings.specs.Sum.{at, sum_of, table}
use Rattle.theory_rings.proofs.Rings.Elements.{sum_of_congr}
use Rattle.theory_rings.proofs.Sums.Lists.{length-table, get_or-table, All-table}
use Rattle.theory_fractions.specs.PolynomialLists.{IsPolynomialList}
use Rattle.theory_fractions.specs.Fraction.{Pair}
use Rattle.theory_fractions.specs.FractionOps.{polynomial_of, fraction_ops}
use Rattle.theory_fractions.specs.CommonDenominator.{as_fraction}
use Rattle.theory_fractions.proofs.FractionField.{fraction_laws}
use Rattle.theory_fractions.proofs.ListPolynomials.{has_polynomial_of}
use Rattle.theory_fractions.proofs.PolynomialFractions.{as_fraction-elem}
use Rattle.theory_remainders.specs.RemainderLaws.{IsRemainderOf}
use Rattle.theory_remainders.specs.RemainderOps.{remainder_ops}
use Rattle.theory_remainders.proofs.RemainderField.{monic, remainder_laws}
use Rattle.theory_remainders.proofs.RemainderValues.{remainder_of_eq, of_elem}
use Rattle.theory_places.specs.Places.{Finite}
use Rattle.theory_places.specs.FractionPlaces.{IsIntegralAt, IsMonicIrreducible, fractions}
use Rattle.theory_reductions.specs.Reductions.{IsResidueOf}
use Rattle.theory_spaces.specs.Tuples.{IsTuple, constant, tuple_scale}
use Rattle.theory_spaces.proofs.Linear.LatticeSpans.{span-member}
use Rattle.theory_spaces.proofs.Matrices.PairIndex.{pair-lt}
use Rattle.theory_spaces.proofs.Tuples.Tuples.{IsTuple-table, at-table, tuples}
use Rattle.theory_tables.specs.Matrix.{entry, IsMatrix}
use Rattle.theory_tables.specs.Subspace.{SpansKernel}
use Rattle.theory_tables.specs.Structure.{Structure, IsOver, IsAssociative, product_of}
use Rattle.theory_tables.specs.Algebras.{IsIdentity}
use Rattle.theory_tables.proofs.Algebras.Bridge.{algebra, as_tuple, row, row-is}
use Rattle.theory_spaces.specs.Module.{module_of}
use Rattle.theory_tables.proofs.Rows.Sums.{entry-elem}
use Rattle.theory_bases.specs.TupleLattices.{TupleLattice, AreIndependentTuples}
use Rattle.theory_bases.specs.Bases.{IsPolynomialFraction}
use Rattle.theory_left_orders.specs.ResidueRings.{ResidueRingOn}
use Rattle.theory_left_orders.specs.FractionResidues.{ResidueRingsBy, HasResidues}
use Rattle.theory_left_orders.specs.TupleResidues.{AreProductCoordinates, IsProductMatrix, AreResidueRows}
use Rattle.theory_left_orders.specs.TupleResidues.{AreOverP, IsClosedTuples}
use Rattle.theory_left_orders.proofs.FractionResidues.{residue_rings, poly_loc}
use Rattle.theory_left_orders.proofs.ResidueRings.{coord_member}
use Rattle.theory_left_orders.proofs.TupleLattices.{from_lattice}
use Rattle.theory_left_orders.proofs.TupleLeftOrders.{B, to_basis, coord_of, left_order_of_tuples}
use Rattle.spl_order.proofs.ProductCoordinates.{products_inside}
use Rattle.spl_order.specs.LeftOrders.{SpansIdealOver, SpansLeftOrder, product_matrix}

pub product_matrix-entry : {R : Type 0} (r : Ops R) (n : ℕ) (cs : List R) (i j l : ℕ) → i < n → j < n → l < n
    → entry r (product_matrix r n cs) (j * n + l) i ≡ constant r n cs i j l
product_matrix-entry r n cs i j l i_in j_in l_in =
    ap (λ row. at r row i) (get_or-table (n * n) (λ t. table n (λ i. constant r n cs i (t / n) (t % n))) (j * n + l) []
    (pair-lt n n j l j_in l_in))
    ∙ at-table r n (λ i. constant r n cs i ((j * n + l) / n) ((j * n + l) % n)) i i_in
    ∙ ap (λ a. constant r n cs i a ((j * n + l) % n)) (div-mul-add j n l l_in)
    ∙ ap (constant r n cs i j) (mod-mul-add j n l l_in)

module _ {E : Type 0} (o : Ops E) (L : FieldLaws o) (m : List E) (s : IsMonicIrreducible o m) where
  abbrev K : Ops (Pair E)
  K = fraction_ops o L

  abbrev M : FieldLaws K
  M = fraction_laws o L

  abbrev r : Ops (List E)
  r = remainder_ops o L m (monic o L m s.irreducible)

  abbrev N : FieldLaws r
  N = remainder_laws o L m s.irreducible

  Res : ResidueRingsBy o L M m r N
  Res = residue_rings o L M m s N

  abbrev p : Elem K
  p = Res.p

  abbrev q : Elem K
  q = (let F = fractions o L M in F.inv p)

  -- an element of the residue field is its own remainder
  self_remainder : (u : List E) → IsElem r u → IsRemainderOf o (at o u) m u
  self_remainder u h =
      let t = of_elem o L m s.irreducible u h in
      remainder_of_eq o L m s.irreducible (polynomial_of o L u) (at o u)
      (has_polynomial_of o L u (let i = t.polynomial in i.over)) u t refl

  -- an ideal holds the products of its tuples
  pub ideal_products : (A : Structure (Pair E)) (order ideal : List (List (Pair E))) → AreIndependentTuples K A.dim ideal
      → SpansIdealOver o L (IsIntegralAt o (Finite m)) A m order ideal → (i j : ℕ) → i < A.dim → j < A.dim
      → TupleLattice K (IsIntegralAt o (Finite m)) A.dim ideal
      (product_of K A (get_or ideal i []) (get_or ideal j []))
  ideal_products A order ideal ind h =
      let I = h.is_ideal in
      products_inside K M (IsIntegralAt o (Finite m)) p q r N Res.at_place A ideal ind
      (λ x y hx hy. I.left x y (I.inside x hx) hy)

  module _ (A : Structure (Pair E)) (over : IsOver K A) (assoc : IsAssociative K A)
      (order ideal : List (List (Pair E))) (ind : AreIndependentTuples K A.dim ideal)
      (cs : List (List E)) (coordinate : ℕ → ℕ → ℕ → Pair E) (coordinates : AreProductCoordinates K A ideal coordinate)
      (residues : (i j l : ℕ) → i < A.dim → j < A.dim → l < A.dim
      → IsResidueOf o m r (coordinate i j l) (constant r A.dim cs i j l))
      (rows : List (List (List E))) (shape : IsMatrix r A.dim rows)
      (spans : SpansKernel r (A.dim * A.dim) A.dim (product_matrix r A.dim cs) rows)
      (grown : List (List (Pair E))) (grown_shape : IsMatrix K A.dim grown) (grown_count : length grown ≡ length rows)
      (grown_is : (i c : ℕ) → i < length rows → c < A.dim → K.mul (as_fraction o m) (entry K grown i c)
      ≡ sum_of K A.dim (λ l. K.mul (as_fraction o (entry r rows i l)) (entry K ideal l c))) where
    abbrev n : ℕ
    n = A.dim

    lift_list : (i l : ℕ) → IsPolynomialList o (entry r rows i l)
    lift_list i l =
        let t = of_elem o L m s.irreducible (entry r rows i l) (entry-elem r N n rows shape i l) in
        t.polynomial

    abbrev lifts : List (List (Pair E))
    lifts = table (length rows) (λ i. table n (λ l. as_fraction o (entry r rows i l)))

    lifts-entry : (i l : ℕ) → i < length rows → l < n → entry K lifts i l ≡ as_fraction o (entry r rows i l)
    lifts-entry i l i_in l_in =
        ap (λ row. at K row l)
        (get_or-table (length rows) (λ i. table n (λ l. as_fraction o (entry r rows i l))) i [] i_in)
        ∙ at-table K n (λ l. as_fraction o (entry r rows i l)) l l_in

    lifts-shape : IsMatrix K n lifts
    lifts-shape = All-table (IsTuple K n) (length rows) (λ i. table n (λ l. as_fraction o (entry r rows i l)))
        (λ i _. IsTuple-table K n (λ l. as_fraction o (entry r rows i l))
        (λ l _. as_fraction-elem o L (entry r rows i l) (lift_list i l)))

    lifts-count : length lifts ≡ length rows
    lifts-count = length-table (length rows) (λ i. table n (λ l. as_fraction o (entry r rows i l)))

    module _ (P : Pair E → Type 0) (D : ResidueRingOn (fractions o L M) (λ w. P w.0) p q (elements r N))
        (values : HasResidues o L M m r (λ w. P w.0) D.res)
        (polynomial_in : (u : List E) → IsPolynomialList o u → P (as_fraction o u))
        (I : SpansIdealOver o L P A m order ideal) where
      abbrev one : List (Pair E)
      one = (let S = I.is_order in S.one)

      closed : IsClosedTuples K M P p q r N D A ideal one
      closed = record {
        holds = I.over (tuple_scale K n p.0 one)
            (one, (let S = I.is_order in let t = S.order in t.one_in), ap (λ x. tuple_scale K n x one) Res.p_is);
        products = λ x y hx hy.
            let J = I.is_ideal in
            J.left x y (J.inside x hx) hy;
      }

      is_one : IsIdentity K A one
      is_one = (let S = I.is_order in S.is_one)

      member : (i : ℕ) → i < n → TupleLattice K P n ideal (get_or ideal i [])
      member i i_in =
          let low : i < length ideal = omega (arith, i_in, ind.count) in
          subst (TupleLattice K P n ideal) (row-is K M n ideal ind.shape i low)
          (from_lattice K M n ideal ind.shape P (row K M n ideal ind.shape i)
          (span-member (elements K M) (λ w. P w.0) D.subring (tuples K M n) (length ideal) (row K M n ideal ind.shape)
          i low))

      coordinate_in : (i j l : ℕ) → i < n → j < n → l < n → P (coordinate i j l)
      coordinate_in i j l i_in j_in l_in =
          let t = closed.products (get_or ideal i []) (get_or ideal j []) (member i i_in) (member j j_in) in
          let x = as_tuple K M n (product_of K A (get_or ideal i []) (get_or ideal j [])) t.0 in
          let c : ℕ → Elem K = λ l. (coordinate i j l, coordinates.elements_of i j l) in
          let b = B K M P p q r N D A over assoc one is_one ideal ind in
          let e = coord_of K M P p q r N D A over assoc one is_one ideal ind x c
          (λ t t_in. coordinates.products i j t i_in j_in t_in) l l_in in
          let h = to_basis K M P p q r N D A over assoc one is_one ideal ind x t in
          subst (λ w. P w.0) e (coord_member (elements K M) (λ w. P w.0) p q (elements r N) D
          (module_of (algebra K M A over.of_elements assoc one is_one)) n b x h l l_in)

      matrix_is : IsProductMatrix K M P p q r N D A ideal (product_matrix r n cs)
      matrix_is = record {
        coordinate = coordinate;
        coordinates = coordinates;
        residues = λ i j l i_in j_in l_in.
            let w : Elem K = (coordinate i j l, coordinates.elements_of i j l) in
            let inside = coordinate_in i j l i_in j_in l_in in
            record {
              elem = coordinates.elements_of i j l;
              allowed = inside;
              residue = values.value w (constant r n cs i j l) inside (residues i j l i_in j_in l_in)
                  ∙ sym (product_matrix-entry r n cs i j l i_in j_in l_in);
            };
      }

      lifts_are : AreResidueRows K M P p q r N D n lifts rows
      lifts_are = record {
        count = lifts-count;
        shape = lifts-shape;
        entries = λ i l i_in l_in.
            let u = entry r rows i l in
            let hu = lift_list i l in
            let e = lifts-entry i l (omega (arith, i_in, lifts-count)) l_in in
            let elem = entry-elem K M n lifts lifts-shape i l in
            let w : Elem K = (entry K lifts i l, elem) in
            let t = entry-elem r N n rows shape i l in
            record {
              elem = elem;
              allowed = subst P (sym e) (polynomial_in u hu);
              residue = values.polynomial_value w u u hu e (of_elem o L m s.irreducible u t) (self_remainder u t);
            };
      }

      over_p : AreOverP K M P p q r N D A ideal lifts grown
      over_p = record {
        count = grown_count ∙ sym lifts-count;
        shape = grown_shape;
        combines = λ i c i_in c_in.
            let low : i < length rows = omega (arith, i_in, lifts-count) in
            ap (λ x. K.mul x (entry K grown i c)) Res.p_is ∙ grown_is i c low c_in
            ∙ sum_of_congr K n (λ l. K.mul (as_fraction o (entry r rows i l)) (entry K ideal l c))
            (λ l. K.mul (entry K lifts i l) (entry K ideal l c))
            (λ l l_in. ap (λ x. K.mul x (entry K ideal l c)) (sym (lifts-entry i l low l_in)));
      }

      left_order_over : SpansLeftOrder o L P A ideal (grown ++ ideal)
      left_order_over = left_order_of_tuples K M P p q r N D A over assoc one is_one ideal ind closed
          (product_matrix r n cs) rows matrix_is shape spans lifts grown lifts_are over_p

    pub left_order_at_place : SpansIdealOver o L (IsIntegralAt o (Finite m)) A m order ideal
        → SpansLeftOrder o L (IsIntegralAt o (Finite m)) A ideal (grown ++ ideal)
    left_order_at_place = left_order_over (IsIntegralAt o (Finite m)) Res.at_place Res.at_place_values
        (λ u hu. poly_loc o L M m s (as_fraction o u, as_fraction-elem o L u hu) refl)

    pub left_order_over_polynomials : SpansIdealOver o L (IsPolynomialFraction o) A m order ideal
        → SpansLeftOrder o L (IsPolynomialFraction o) A ideal (grown ++ ideal)
    left_order_over_polynomials = left_order_over (IsPolynomialFraction o) Res.polynomials Res.polynomial_values
        (λ u hu. refl)
