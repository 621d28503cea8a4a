-- Orders of tuples modulo p, and the preimages of ideals.
use Rattle.std.specs.Prelude.{◌≡◌, ◌<◌, ℕ, List, [], ◌++◌, length, get_or}
use Rattle.std.proofs.Common.{refl, sym, ◌∙◌, ap, ap₂, subst, arith}
use Rattle.std.proofs.lemmas.List.Elements.{All-get_or}
use Rattle.theory_rings.specs.Ring.{FieldOn}
use Rattle.theory_rings.specs.Ops.{Ops, FieldLaws}
use Rattle.theory_rings.specs.Elements.{Elem, Elem-path, elements}
use Rattle.theory_rings.specs.Sum.{at, sum_of, table}
use Rattle.theory_rings.proofs.Rings.Elements.{at-elem, sum_of_congr}
use Rattle.theory_spaces.specs.Module.{ModuleOn, AlgebraOn, module_of}
use Rattle.theory_spaces.specs.Linear.{InSpan, Basis}
use Rattle.theory_spaces.specs.Space.{ProductOn, product_on, SpaceOn}
use Rattle.theory_spaces.specs.Sets.{ring_ops, IsOrder}
use Rattle.theory_spaces.specs.Tuples.{IsTuple, Tuple, product, basis, constant, IsTableAlgebra}
use Rattle.theory_spaces.proofs.Tuples.Tables.{space_basis, space_basis-coord, coord-unit_mul}
use Rattle.theory_spaces.proofs.Tuples.TupleProducts.{tuple_algebra, tuple_product, tuple_product-list, IsTuple-basis}
use Rattle.theory_spaces.proofs.Tuples.TupleProducts.{element_constant, product_basis}
use Rattle.theory_spaces.proofs.Tuples.Tuples.{at-table, IsTuple-table, IsTuple-ext, Tuple-path, tuples, tuple_space}
use Rattle.theory_tables.specs.Matrix.{entry}
use Rattle.theory_tables.specs.Subspace as rows_of
use Rattle.theory_tables.specs.Structure.{Structure, IsOver, IsAssociative, tuple_ops}
use Rattle.theory_tables.specs.Algebras.{IsIdentity, SpansIdeal}
use Rattle.theory_tables.proofs.Algebras.Bridge.{algebra, algebra_is, one-is, row, row-at, row-is, IsTuple-of, as_tuple}
use Rattle.theory_tables.proofs.Algebras.Bridge.{table_basis, vec-is as unit-is, coord-is, ideal_row, to_ideal}
use Rattle.theory_tables.proofs.Algebras.Bridge.{list_span}
use Rattle.theory_tables.proofs.Algebras.Bridge.{to_span}
use Rattle.theory_bases.specs.TupleLattices.{TupleLattice, AreIndependentTuples}
use Rattle.theory_residue.specs.Residue.{Lifted}
use Rattle.theory_left_orders.specs.ResidueRings.{ResidueRingOn}
use Rattle.theory_left_orders.specs.LeftOrders.{BasisLattice}
use Rattle.theory_left_orders.specs.ResidueAlgebras.{Over, ResidueProduct, HasAlgebraLaws, ReducesByCoordinates}
use Rattle.theory_left_orders.specs.ResidueAlgebras.{AreLifts, PreimageOf}
use Rattle.theory_left_orders.specs.TupleResidues.{HasResidue, AreResidueRows}
use Rattle.theory_left_orders.specs.TupleIdeals.{IsResidueTable, Preimage, AreCombinations, AreMultiples}
use Rattle.theory_left_orders.specs.TupleIdeals.{IsPreimage, ResidueTablesAreAlgebras, PreimagesOfRows}
use Rattle.theory_left_orders.proofs.ResidueRings.{coord_member, member_by_coord}
use Rattle.theory_left_orders.proofs.ResidueAlgebras.{residue_product_is_algebra, order_reduces_over}
use Rattle.theory_left_orders.proofs.ResidueAlgebras.{preimages_of_ideals}
use Rattle.theory_left_orders.proofs.TupleLattices.{row-sum, joined_to, joined_from}
use Rattle.theory_left_orders.proofs.TupleLeftOrders.{B, vec-is, to_basis, from_basis, coord_of, row_list}

module _ {E R : Type 0} (o : Ops E) (L : FieldLaws o) (P : E → Type 0) (p q : Elem o) (r : Ops R) (N : FieldLaws r)
    (D : ResidueRingOn (elements o L) (λ x. P x.0) p q (elements r N))
    (A : Structure E) (over : IsOver o A) (assoc : IsAssociative o A) (one : List E) (is_one : IsIdentity o A one)
    (rows : List (List E)) (ind : AreIndependentTuples o A.dim rows)
    (order : IsOrder (tuple_ops o A) one (TupleLattice o P A.dim rows))
    (cs : List R) (tab : IsResidueTable o L P p q r N D A rows cs) where
  abbrev n : ℕ
  n = A.dim

  abbrev K : FieldOn (Elem o)
  K = elements o L

  abbrev k : FieldOn (Elem r)
  k = elements r N

  abbrev Q : Elem o → Type 0
  Q x = P x.0

  abbrev V : Type 0
  V = Tuple o n

  abbrev W : Type 0
  W = Tuple r n

  abbrev Alg : AlgebraOn K.ring V
  Alg = algebra o L A over.of_elements assoc one is_one

  is : IsTableAlgebra o L n A.constants Alg
  is = algebra_is o L A over.of_elements assoc one is_one

  abbrev b : Basis (module_of Alg) n
  b = B o L P p q r N D A over assoc one is_one rows ind

  b-is : (i : ℕ) → b.vec i ≡ row o L n rows ind.shape i
  b-is = vec-is o L P p q r N D A over assoc one is_one rows ind

  abbrev T : List E → Type 0
  T = TupleLattice o P n rows

  abbrev BL : V → Type 0
  BL = BasisLattice K Q p q k D Alg n b

  to : (x : V) → T x.0 → BL x
  to = to_basis o L P p q r N D A over assoc one is_one rows ind

  from : (x : V) → BL x → T x.0
  from = from_basis o L P p q r N D A over assoc one is_one rows ind

  coordinates : (x : V) (c : ℕ → Elem o)
      → ((j : ℕ) → j < n → at o x.0 j ≡ sum_of o n (λ i. o.mul (c i).0 (entry o rows i j)))
      → (l : ℕ) → l < n → b.coord x l ≡ c l
  coordinates = coord_of o L P p q r N D A over assoc one is_one rows ind

  pub vectors_order : IsOrder (ring_ops Alg.ring) Alg.one BL
  vectors_order = record {
    one_in = to Alg.one (subst T (sym (one-is o L A over.of_elements assoc one is_one)) order.one_in);
    zero_in = to Alg.zero (subst T (sym is.zero-is) order.zero_in);
    add_in = λ x y g h. to (Alg.◌⊕◌ x y) (subst T (sym (is.add-is x y)) (order.add_in x.0 y.0 (from x g) (from y h)));
    neg_in = λ x g. to (Alg.neg x) (subst T (sym (is.neg-is x)) (order.neg_in x.0 (from x g)));
    mul_in = λ x y g h. to (Alg.◌⊗◌ x y)
        (subst T (sym (is.product-is x y)) (order.mul_in x.0 y.0 (from x g) (from y h)));
  }

  -- ---- the residues of the constants

  abbrev C : Structure R
  C = record { dim = n; constants = cs }

  abbrev g : ℕ → ℕ → ℕ → Elem o
  g i j l = (tab.coordinate i j l, tab.coordinates.elements_of i j l)

  abbrev e : ℕ → ℕ → V
  e i j = Alg.◌⊗◌ (b.vec i) (b.vec j)

  row_is : (i : ℕ) → i < n → (b.vec i).0 ≡ get_or rows i []
  row_is i l = ap (λ (x : V). x.0) (b-is i) ∙ row_list o L P p q r N D A over assoc one is_one rows ind i l

  residue_is : (i j l : ℕ) → i < n → j < n → l < n → (D.res (b.coord (e i j) l)).0 ≡ constant r n cs i j l
  residue_is i j l a_in b_in c_in =
      let h = tab.residues i j l a_in b_in c_in in
      ap (λ (x : Elem o). (D.res x).0) (coordinates (e i j) (g i j) (λ s s_in.
      ap (λ xs. at o xs s) (is.product-is (b.vec i) (b.vec j)
      ∙ ap₂ (product o n A.constants) (row_is i a_in) (row_is j b_in))
      ∙ tab.coordinates.products i j s a_in b_in s_in) l c_in
      ∙ Elem-path o (g i j l) (tab.coordinate i j l, h.elem) refl) ∙ h.residue

  abbrev M : ModuleOn k.ring W
  M = tuples r N n

  abbrev S : SpaceOn M n
  S = tuple_space r N n

  abbrev G : ProductOn M
  G = tuple_product r N n cs tab.shape.of_elements

  abbrev w : Basis M n
  w = space_basis M n S

  products : ResidueProduct K Q p q k D Alg n b M G w
  products i j l a_in b_in c_in =
      let c = element_constant r N n cs tab.shape.of_elements in
      space_basis-coord M n S (G.◌⊗◌ (w.vec i) (w.vec j)) l c_in
      ∙ coord-unit_mul k.cring M n S c i j l a_in b_in c_in
      ∙ sym (Elem-path r (D.res (b.coord (e i j) l)) (c i j l) (residue_is i j l a_in b_in c_in))

  pub laws : HasAlgebraLaws K Q p q k D Alg n b M G
  laws = residue_product_is_algebra K Q p q k D Alg n b W vectors_order M G w products

  -- by lists
  list : (x y : W) → (G.◌⊗◌ x y).0 ≡ product r n cs x.0 y.0
  list = tuple_product-list r N n cs tab.shape.of_elements

  abbrev unit : ℕ → W
  unit i = as_tuple r N n (basis r n i) (IsTuple-basis r N n cs tab.shape.of_elements i)

  pub associative : IsAssociative r C
  associative i j t a_in b_in c_in =
      let x = unit i in
      let y = unit j in
      let z = unit t in
      ap (λ u. product r n cs u z.0) (sym (list x y)) ∙ sym (list (G.◌⊗◌ x y) z)
      ∙ ap (λ (u : W). u.0) (laws.mul_assoc x y z)
      ∙ list x (G.◌⊗◌ y z) ∙ ap (product r n cs x.0) (list y z)

  pub residue_one : IsIdentity r C laws.one.0
  residue_one = record {
    tuple = IsTuple-of r N n laws.one;
    one-mul = λ i _. sym (list laws.one (unit i)) ∙ ap (λ (u : W). u.0) (laws.one-mul (unit i));
    mul-one = λ i _. sym (list (unit i) laws.one) ∙ ap (λ (u : W). u.0) (laws.mul-one (unit i));
  }

  -- ---- the algebra on the residues, and the map onto it

  abbrev RA : AlgebraOn k.ring W
  RA = algebra r N C tab.shape.of_elements associative laws.one.0 residue_one

  abbrev t : Basis (module_of RA) n
  t = table_basis r N C tab.shape.of_elements associative laws.one.0 residue_one

  ra_is : IsTableAlgebra r N n cs RA
  ra_is = algebra_is r N C tab.shape.of_elements associative laws.one.0 residue_one

  coord : (x : W) (j : ℕ) → j < n → (t.coord x j).0 ≡ at r x.0 j
  coord = coord-is r N C tab.shape.of_elements associative laws.one.0 residue_one

  pub ra_products : ResidueProduct K Q p q k D Alg n b (module_of RA) (product_on RA) t
  ra_products i j l a_in b_in c_in =
      let x = RA.◌⊗◌ (t.vec i) (t.vec j) in
      let vec = unit-is r N C tab.shape.of_elements associative laws.one.0 residue_one in
      Elem-path r (t.coord x l) (D.res (b.coord (e i j) l)) (coord x l c_in
      ∙ ap (λ xs. at r xs l) (ra_is.product-is (t.vec i) (t.vec j) ∙ ap₂ (product r n cs) (vec i) (vec j)
      ∙ product_basis r N n cs tab.shape.of_elements i j a_in b_in)
      ∙ at-table r n (λ u. constant r n cs i j u) l c_in ∙ sym (residue_is i j l a_in b_in c_in))

  pub reduces : ReducesByCoordinates K Q p q k D Alg n b RA t
  reduces = order_reduces_over K Q p q k D Alg n b W vectors_order RA t ra_products

  abbrev red : V → W
  red = reduces.reduction.red

  red-at : (x : V) (l : ℕ) → l < n → at r (red x).0 l ≡ (D.res (b.coord x l)).0
  red-at x l c_in = sym (coord (red x) l c_in) ∙ ap (λ (a : Elem r). a.0) (reduces.values x l c_in)

  -- ---- preimages

  -- residues of the coordinates
  residue_at : (x : V) (hx : BL x) (l : ℕ) → l < n
      → HasResidue o L P p q r N D (b.coord x l).0 (at r (red x).0 l)
  residue_at x hx l c_in = record {
    elem = (b.coord x l).1;
    allowed = coord_member K Q p q k D (module_of Alg) n b x hx l c_in;
    residue = sym (red-at x l c_in);
  }

  expands : (x : V) (c : ℕ) → c < n
      → at o x.0 c ≡ sum_of o n (λ l. o.mul (b.coord x l).0 (entry o rows l c))
  unfolding B tuple_algebra
  expands x c c_in = ap (λ (y : V). at o y.0 c) (b.expand x) ∙ row-sum o L n rows ind.shape n (b.coord x) c c_in

  -- a combination with weights that have residues
  module _ (x : V) (weights : List E) (residues : List R) (hw : IsTuple o n weights) (hr : IsTuple r n residues)
      (combines : (c : ℕ) → c < n → at o x.0 c ≡ sum_of o n (λ l. o.mul (at o weights l) (entry o rows l c)))
      (each : (l : ℕ) → l < n → HasResidue o L P p q r N D (at o weights l) (at r residues l)) where
    abbrev c : ℕ → Elem o
    c l = (at o weights l, at-elem o L weights hw.of_elements l)

    coord_c : (l : ℕ) → l < n → b.coord x l ≡ c l
    coord_c = coordinates x c combines

    pub comes_in : BL x
    comes_in = member_by_coord K Q p q k D (module_of Alg) n b x
        (λ l l_in. subst Q (sym (coord_c l l_in)) (each l l_in).allowed)

    pub comes_to : (red x).0 ≡ residues
    comes_to = IsTuple-ext r n (red x).0 residues (IsTuple-of r N n (red x)) hr (λ l l_in.
        let h = each l l_in in
        red-at x l l_in
        ∙ ap (λ (a : Elem o). (D.res a).0) (coord_c l l_in ∙ Elem-path o (c l) (at o weights l, h.elem) refl)
        ∙ h.residue)

  -- what comes from a combination of rows: the members of the order whose residues are one
  module _ (ideal : List (List R)) where
    pub preimage_of : (x : V) → BL x → rows_of.Combinations r n ideal (red x).0
        → Preimage o L P p q r N D A rows ideal x.0
    preimage_of x hx h =
        let c : ℕ → E = λ l. (b.coord x l).0 in (
          IsTuple-of o L n x,
          record {
            weights = table n c;
            tuple = IsTuple-table o n c (λ l _. (b.coord x l).1);
            combines = λ u u_in. expands x u u_in
                ∙ sum_of_congr o n (λ l. o.mul (c l) (entry o rows l u))
                (λ l. o.mul (at o (table n c) l) (entry o rows l u))
                (λ l l_in. ap (λ a. o.mul a (entry o rows l u)) (sym (at-table o n c l l_in)));
            residues = (red x).0;
            each = λ l l_in. subst (λ a. HasResidue o L P p q r N D a (at r (red x).0 l))
                (sym (at-table o n c l l_in)) (residue_at x hx l l_in);
            inside = h;
          },
        )

    pub of_preimage : (x : V) → Preimage o L P p q r N D A rows ideal x.0
        → BL x × rows_of.Combinations r n ideal (red x).0
    of_preimage x h =
        let f = h.1 in (
          comes_in x f.weights f.residues f.tuple f.inside.0 f.combines f.each,
          subst (rows_of.Combinations r n ideal)
              (sym (comes_to x f.weights f.residues f.tuple f.inside.0 f.combines f.each)) f.inside,
        )

  module _ (ideal : List (List R)) (spans : SpansIdeal r C ideal) where
    abbrev s : ℕ
    s = length ideal

    abbrev below : ℕ → W
    below = ideal_row r N C tab.shape.of_elements associative laws.one.0 residue_one ideal spans

    abbrev Up : V → Type 0
    Up = Lifted Alg BL (Over K Q p q k D Alg n b) RA reduces.reduction (InSpan (module_of RA) s below)

    pub in_span : (x : W) → rows_of.InSpan r n ideal x.0 → InSpan (module_of RA) s below x
    unfolding tuple_algebra
    in_span x h = to_span r N n ideal spans.shape x h

    pub up_to : (x : V) → Up x → Preimage o L P p q r N D A rows ideal x.0
    up_to x h = preimage_of ideal x h.0 (
      IsTuple-of r N n (red x),
      list_span r N C tab.shape.of_elements associative laws.one.0 residue_one ideal spans (red x) h.1,
    )

    pub up_from : (x : V) → Preimage o L P p q r N D A rows ideal x.0 → Up x
    up_from x h = let f = of_preimage ideal x h in (f.0, in_span (red x) f.1.1)

    module _ (lifts lifted multiples : List (List E)) (res : AreResidueRows o L P p q r N D n lifts ideal)
        (combs : AreCombinations o L P p q r N D A rows lifts lifted)
        (mults : AreMultiples o L P p q r N D A rows multiples) where
      abbrev up_row : ℕ → V
      up_row = row o L n lifted combs.shape

      -- the lifted rows, by their weights
      module _ (i : ℕ) (i_in : i < s) where
        l_in : i < length lifts
        l_in = omega (arith, i_in, res.count)

        up_combines : (c : ℕ) → c < n
            → at o (up_row i).0 c ≡ sum_of o n (λ l. o.mul (at o (get_or lifts i []) l) (entry o rows l c))
        up_combines c c_in = row-at o L n lifted combs.shape i c c_in ∙ combs.combines i c l_in c_in

        lift_tuple : IsTuple o n (get_or lifts i [])
        lift_tuple = All-get_or (IsTuple o n) lifts i [] l_in res.shape

        ideal_tuple : IsTuple r n (get_or ideal i [])
        ideal_tuple = All-get_or (IsTuple r n) ideal i [] i_in spans.shape

        up_inside : BL (up_row i)
        up_inside = comes_in (up_row i) (get_or lifts i []) (get_or ideal i []) lift_tuple ideal_tuple up_combines
            (λ l c_in. res.entries i l l_in c_in)

        up_becomes : red (up_row i) ≡ below i
        up_becomes = Tuple-path r N n (red (up_row i)) (below i)
            (comes_to (up_row i) (get_or lifts i []) (get_or ideal i []) lift_tuple ideal_tuple up_combines
            (λ l c_in. res.entries i l l_in c_in) ∙ sym (row-is r N n ideal spans.shape i i_in))

      are_lifts : AreLifts K Q p q k D Alg n b RA t reduces.reduction s below up_row
      are_lifts = record { inside = up_inside; becomes = up_becomes }

      abbrev pre : PreimageOf K Q p q k D Alg n b RA t reduces.reduction s below up_row
      pre = preimages_of_ideals K Q p q k D Alg n b W vectors_order RA t reduces s below
          (to_ideal r N C tab.shape.of_elements associative laws.one.0 residue_one ideal spans) up_row are_lifts

      small-is : (i : ℕ) → i < n → Alg.◌•◌ p (b.vec i) ≡ row o L n multiples mults.shape i
      small-is i i_in =
          let x = Alg.◌•◌ p (b.vec i) in
          let y = row o L n multiples mults.shape i in
          Tuple-path o L n x y (IsTuple-ext o n x.0 y.0 (IsTuple-of o L n x) (IsTuple-of o L n y) (λ c c_in.
          ap (λ xs. at o xs c) (is.scale-is p (b.vec i)) ∙ at-table o n (λ u. o.mul p.0 (at o (b.vec i).0 u)) c c_in
          ∙ ap (o.mul p.0) (ap (λ (z : V). at o z.0 c) (b-is i) ∙ row-at o L n rows ind.shape i c c_in)
          ∙ sym (mults.entries i c (omega (arith, i_in, ind.count)) c_in)
          ∙ sym (row-at o L n multiples mults.shape i c c_in)))

      lifted_count : length lifted ≡ s
      lifted_count = combs.count ∙ res.count

      small_count : length multiples ≡ n
      small_count = mults.count ∙ ind.count

      abbrev Pre : List E → Type 0
      Pre = Preimage o L P p q r N D A rows ideal

      pub preimage : IsPreimage o L P p q r N D A rows cs ideal (lifted ++ multiples)
      unfolding tuple_algebra
      preimage = record {
        lattice = (
          λ x h.
              let y = as_tuple o L n x h.0 in
              joined_to o L n lifted multiples combs.shape mults.shape s n lifted_count small_count up_row
              (λ i. Alg.◌•◌ p (b.vec i)) (λ i _. refl) small-is P y (pre.lattice.0 y (up_from y h)),
          λ x h.
              let y = as_tuple o L n x h.0 in
              up_to y (pre.lattice.1 y (joined_from o L n lifted multiples combs.shape mults.shape s n lifted_count
              small_count up_row (λ i. Alg.◌•◌ p (b.vec i)) (λ i _. refl) small-is P y h)),
        );
        ideal = record {
          inside = λ x h.
              let y = as_tuple o L n x h.0 in
              from y (pre.ideal.inside y (up_from y h));
          zero_in = subst Pre is.zero-is (up_to Alg.zero pre.ideal.zero_in);
          add_in = λ x y h g.
              let u = as_tuple o L n x h.0 in
              let v = as_tuple o L n y g.0 in
              subst Pre (is.add-is u v) (up_to (Alg.◌⊕◌ u v) (pre.ideal.add_in u v (up_from u h) (up_from v g)));
          left = λ x y h g.
              let u = as_tuple o L n x h.0 in
              let v = as_tuple o L n y g.0 in
              subst Pre (is.product-is u v) (up_to (Alg.◌⊗◌ u v) (pre.ideal.left u v (to u h) (up_from v g)));
          right = λ x y h g.
              let u = as_tuple o L n x h.0 in
              let v = as_tuple o L n y g.0 in
              subst Pre (is.product-is v u) (up_to (Alg.◌⊗◌ v u) (pre.ideal.right u v (to u h) (up_from v g)));
        };
        over = λ x h.
            let y = as_tuple o L n h.0 h.1.0 in
            let z = Alg.◌•◌ p y in
            subst Pre (is.scale-is p y ∙ sym h.2) (up_to z (pre.over z (y, to y h.1, refl)));
        whole = λ f v tuple.
            let y = as_tuple r N n v tuple in
            list_span r N C tab.shape.of_elements associative laws.one.0 residue_one ideal spans y
            (pre.whole (λ x h. up_from x (f x.0 (from x h))) y);
      }

module _ {E R : Type 0} (o : Ops E) (L : FieldLaws o) (P : E → Type 0) (p q : Elem o) (r : Ops R) (N : FieldLaws r)
    (D : ResidueRingOn (elements o L) (λ x. P x.0) p q (elements r N)) where
  pub residue_tables_are_algebras : ResidueTablesAreAlgebras o L P p q r N D
  residue_tables_are_algebras A over assoc one is_one rows ind order cs tab = (
    associative o L P p q r N D A over assoc one is_one rows ind order cs tab,
    record {
      one = (laws o L P p q r N D A over assoc one is_one rows ind order cs tab).one.0;
      is_one = residue_one o L P p q r N D A over assoc one is_one rows ind order cs tab;
    },
  )

  pub preimages_of_rows : PreimagesOfRows o L P p q r N D
  preimages_of_rows A over assoc one is_one rows ind order cs tab ideal spans lifts lifted multiples res combs mults =
      preimage o L P p q r N D A over assoc one is_one rows ind order cs tab ideal spans lifts lifted multiples res
      combs mults
