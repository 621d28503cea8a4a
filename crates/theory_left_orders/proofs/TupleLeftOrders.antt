-- The left order of a lattice of tuples.
use Rattle.std.specs.Prelude.{◌≡◌, ◌<◌, ℕ, ◌+◌, ◌*◌, ◌/◌, ◌%◌, List, [], ◌++◌, length, get_or}
use Rattle.std.proofs.Common.{refl, sym, ◌∙◌, ap, ap₂, subst, arith}
use Rattle.std.proofs.lemmas.Nat.{div-add-mod'}
use Rattle.std.proofs.lemmas.List.Elements.{All-get_or}
use Rattle.theory_rings.specs.Ring.{FieldOn}
use Rattle.theory_rings.specs.Ops.{Ops, FieldLaws}
use Rattle.theory_rings.specs.Elements.{Elem, Elem-path, elements}
use Rattle.theory_rings.specs.Sum.{at, sum, sum_of, table}
use Rattle.theory_rings.proofs.Rings.Elements.{at-elem, sum_of-elements, sum_of_congr}
use Rattle.theory_spaces.specs.Module.{ModuleOn, AlgebraOn, module_of}
use Rattle.theory_spaces.specs.Linear.{comb, Basis}
use Rattle.theory_spaces.specs.Lattice.{LatticeOver}
use Rattle.theory_spaces.specs.Sets.{ring_ops, Same, IsOrder, LeftOrder}
use Rattle.theory_rings.proofs.Rings.RingLaws.{zero-mul, neg-mul}
use Rattle.theory_spaces.proofs.Linear.LatticeSpans.{span-zero, span-add, span-neg}
use Rattle.theory_spaces.specs.Tuples.{IsTuple, Tuple, tuple_scale, product, IsTableAlgebra}
use Rattle.theory_spaces.proofs.Linear.Families.{join}
use Rattle.theory_spaces.proofs.Linear.Spaces.{Basis-coord}
use Rattle.theory_spaces.proofs.Matrices.PairIndex.{pair-lt, row-lt, column-lt}
use Rattle.theory_spaces.proofs.Tuples.TupleProducts.{tuple_algebra, one-product}
use Rattle.theory_spaces.proofs.Tuples.Tuples.{at-table, IsTuple-table, tuples, tuples-scale}
use Rattle.theory_tables.specs.Matrix.{entry, IsMatrix}
use Rattle.theory_tables.specs.Subspace.{SpansKernel, IsKilled}
use Rattle.theory_tables.specs.Structure.{Structure, IsOver, IsAssociative, tuple_ops}
use Rattle.theory_tables.specs.Algebras.{IsIdentity}
use Rattle.theory_tables.proofs.Algebras.Bridge.{algebra, algebra_is, one-is, row, row-at, row-is, IsTuple-of, as_tuple}
use Rattle.theory_tables.proofs.Rows.Sums.{entry-elem}
use Rattle.theory_tables.proofs.Rows.Spans.{InSpan-member}
use Rattle.theory_bases.specs.TupleLattices.{TupleLattice, AreIndependentTuples}
use Rattle.theory_left_orders.specs.ResidueRings.{ResidueRingOn}
use Rattle.theory_left_orders.specs.LeftOrders.{BasisLattice, IsClosedOver, InProductKernel, SpansProductKernel}
use Rattle.theory_left_orders.specs.TupleResidues.{AreResidueRows, IsProductMatrix, AreOverP}
use Rattle.theory_left_orders.specs.TupleResidues.{IsClosedTuples, LeftOrderOf, LeftOrderOfTuples}
use Rattle.theory_left_orders.specs.TupleResidues.{LeftOrdersAreOrders}
use Rattle.theory_left_orders.proofs.ResidueRings.{q-p_scale}
use Rattle.theory_left_orders.proofs.LeftOrders.{left_order_by_kernel}
use Rattle.theory_left_orders.proofs.TupleLattices.{is_comb, to_lattice, from_lattice, rows_basis, joined_to}
use Rattle.theory_left_orders.proofs.TupleLattices.{joined_from}

module _ {E R : Type 0} (o : Ops E) (L : FieldLaws o) (P : E → Type 0) (p q : Elem o) (r : Ops R) (N : FieldLaws r)
    (D : ResidueRingOn (elements o L) (λ x. P x.0) p q (elements r N))
    (A : Structure E) (over : IsOver o A) (assoc : IsAssociative o A) (one : List E) (is_one : IsIdentity o A one)
    (rows : List (List E)) (ind : AreIndependentTuples o A.dim rows) where
  abbrev n : ℕ
  n = A.dim

  abbrev K : FieldOn (Elem o)
  K = elements o L

  abbrev k : FieldOn (Elem r)
  k = elements r N

  abbrev Q : Elem o → Type 0
  Q x = P x.0

  abbrev V : Type 0
  V = Tuple o n

  abbrev M : ModuleOn K.ring V
  M = tuples o L n

  abbrev Alg : AlgebraOn K.ring V
  Alg = algebra o L A over.of_elements assoc one is_one

  is : IsTableAlgebra o L n A.constants Alg
  is = algebra_is o L A over.of_elements assoc one is_one

  abbrev v : ℕ → V
  v = row o L n rows ind.shape

  -- the rows as a basis of the algebra
  unfoldable pub B : Basis (module_of Alg) n
  unfolding tuple_algebra
  B = rows_basis o L n rows ind

  pub vec-is : (i : ℕ) → B.vec i ≡ v i
  unfolding B tuple_algebra
  vec-is i = refl

  abbrev T : List E → Type 0
  T = TupleLattice o P n rows

  abbrev BL : V → Type 0
  BL = BasisLattice K Q p q k D Alg n B

  pub to_basis : (x : V) → T x.0 → BL x
  unfolding B tuple_algebra
  to_basis x h = let S : ℕ → Type 0 = λ t. LatticeOver M Q t v x in
      subst S ind.count (to_lattice o L n rows ind.shape P x h.1)

  pub from_basis : (x : V) → BL x → T x.0
  unfolding B tuple_algebra
  from_basis x h = let S : ℕ → Type 0 = λ t. LatticeOver M Q t v x in
      from_lattice o L n rows ind.shape P x (subst S (sym ind.count) h)

  -- a product that is a combination, by its coordinates
  pub coord_of : (x : V) (c : ℕ → Elem o)
      → ((j : ℕ) → j < n → at o x.0 j ≡ sum_of o n (λ i. o.mul (c i).0 (entry o rows i j)))
      → (l : ℕ) → l < n → B.coord x l ≡ c l
  unfolding B tuple_algebra
  coord_of x c e l l_in = ap (λ y. B.coord y l) (is_comb o L n rows ind.shape x n c e) ∙ Basis-coord M n B c l l_in

  pub row_list : (i : ℕ) → i < n → (v i).0 ≡ get_or rows i []
  row_list i l = row-is o L n rows ind.shape i (omega (arith, l, ind.count))

  abbrev Left : V → Type 0
  Left = LeftOrder (ring_ops Alg.ring) BL

  left_to : (x : V) → Left x → LeftOrderOf o L P p q r N D A rows x.0
  left_to x h = (
    IsTuple-of o L n x,
    λ y hy.
        let z = as_tuple o L n y hy.0 in
        subst T (is.product-is x z) (from_basis (Alg.◌⊗◌ x z) (h z (to_basis z hy))),
  )

  left_from : (x : V) → LeftOrderOf o L P p q r N D A rows x.0 → Left x
  left_from x h y hy = to_basis (Alg.◌⊗◌ x y) (subst T (sym (is.product-is x y)) (h.1 y.0 (from_basis y hy)))

  -- the left order is a subring with the one
  pub left_is_order : IsOrder (tuple_ops o A) one (LeftOrderOf o L P p q r N D A rows)
  left_is_order =
      let S : List E → Type 0 = LeftOrderOf o L P p q r N D A rows in
      let M : ModuleOn K.ring V = module_of Alg in
      record {
        one_in = (
          is_one.tuple,
          λ y hy. subst T (sym (one-product o L n A.constants over.of_elements one is_one y hy.0)) hy,
        );
        zero_in = subst S is.zero-is (left_to Alg.zero (λ y hy.
            subst BL (sym (zero-mul Alg.ring y)) (span-zero K Q D.subring M n B.vec)));
        add_in = λ x y f g.
            let u = as_tuple o L n x f.0 in
            let w = as_tuple o L n y g.0 in
            subst S (is.add-is u w) (left_to (Alg.◌⊕◌ u w) (λ z hz. subst BL (sym (Alg.add-mul u w z))
            (span-add K Q D.subring M n B.vec (Alg.◌⊗◌ u z) (Alg.◌⊗◌ w z) (left_from u f z hz)
            (left_from w g z hz))));
        neg_in = λ x f.
            let u = as_tuple o L n x f.0 in
            subst S (is.neg-is u) (left_to (Alg.neg u) (λ z hz. subst BL (sym (neg-mul Alg.ring u z))
            (span-neg K Q D.subring M n B.vec (Alg.◌⊗◌ u z) (left_from u f z hz))));
        mul_in = λ x y f g.
            let u = as_tuple o L n x f.0 in
            let w = as_tuple o L n y g.0 in
            subst S (is.product-is u w) (left_to (Alg.◌⊗◌ u w) (λ z hz. subst BL (sym (Alg.mul_assoc u w z))
            (left_from u f (Alg.◌⊗◌ w z) (left_from w g z hz))));
      }

  module _ (closed : IsClosedTuples o L P p q r N D A rows one) where
    closed_over : IsClosedOver K Q p q k D Alg n B
    closed_over = record {
      holds = to_basis (Alg.◌•◌ p Alg.one) (subst T (sym (is.scale-is p Alg.one
          ∙ ap (tuple_scale o n p.0) (one-is o L A over.of_elements assoc one is_one))) closed.holds);
      products = λ x y hx hy. to_basis (Alg.◌⊗◌ x y)
          (subst T (sym (is.product-is x y)) (closed.products x.0 y.0 (from_basis x hx) (from_basis y hy)));
    }

    module _ (a : List (List R)) (kernel : List (List R)) (m : IsProductMatrix o L P p q r N D A rows a)
        (shape : IsMatrix r n kernel) (spans : SpansKernel r (n * n) n a kernel) where
      abbrev g : ℕ → ℕ → ℕ → Elem o
      g i j l = (m.coordinate i j l, m.coordinates.elements_of i j l)

      abbrev e : ℕ → ℕ → V
      e i j = Alg.◌⊗◌ (B.vec i) (B.vec j)

      coord_is : (i j l : ℕ) → i < n → j < n → l < n → B.coord (e i j) l ≡ g i j l
      coord_is i j l a_in b_in c_in = coord_of (e i j) (g i j) (λ s s_in.
          ap (λ xs. at o xs s) (is.product-is (B.vec i) (B.vec j)
          ∙ ap₂ (product o n A.constants) (ap (λ (x : V). x.0) (vec-is i) ∙ row_list i a_in)
          (ap (λ (x : V). x.0) (vec-is j) ∙ row_list j b_in))
          ∙ m.coordinates.products i j s a_in b_in s_in) l c_in

      residue_is : (i j l : ℕ) → i < n → j < n → l < n
          → (D.res (B.coord (e i j) l)).0 ≡ entry r a (j * n + l) i
      residue_is i j l a_in b_in c_in =
          let h = m.residues i j l a_in b_in c_in in
          ap (λ (x : Elem o). (D.res x).0) (coord_is i j l a_in b_in c_in
          ∙ Elem-path o (g i j l) (m.coordinate i j l, h.elem) refl) ∙ h.residue

      abbrev sum_at : (ℕ → Elem r) → ℕ → ℕ → Elem r
      sum_at c j l = sum k.monoid n (λ i. k.◌⊗◌ (D.res (B.coord (e i j) l)) (c i))

      -- the sum as one over the matrix
      sum_is : (c : ℕ → Elem r) (u : List R) → ((i : ℕ) → i < n → at r u i ≡ (c i).0) → (j l : ℕ) → j < n → l < n
          → sum_of r n (λ i. r.mul (entry r a (j * n + l) i) (at r u i)) ≡ (sum_at c j l).0
      sum_is c u h j l b_in c_in =
          sum_of_congr r n (λ i. r.mul (entry r a (j * n + l) i) (at r u i))
          (λ i. (k.◌⊗◌ (D.res (B.coord (e i j) l)) (c i)).0)
          (λ i a_in. ap₂ r.mul (sym (residue_is i j l a_in b_in c_in)) (h i a_in))
          ∙ sum_of-elements r N n (λ i. k.◌⊗◌ (D.res (B.coord (e i j) l)) (c i))

      abbrev Killed : (ℕ → Elem r) → Type 0
      Killed = InProductKernel K Q p q k D Alg n B

      to_kernel : (c : ℕ → Elem r) (u : List R) → ((i : ℕ) → i < n → at r u i ≡ (c i).0)
          → IsKilled r (n * n) n a u → Killed c
      to_kernel c u h z j l b_in c_in = Elem-path r (sum_at c j l) k.zero
          (sym (sum_is c u h j l b_in c_in) ∙ z (j * n + l) (pair-lt n n j l b_in c_in))

      from_kernel : (c : ℕ → Elem r) (u : List R) → ((i : ℕ) → i < n → at r u i ≡ (c i).0) → Killed c
          → IsKilled r (n * n) n a u
      from_kernel c u h z t t_in =
          let S : ℕ → Type 0 = λ t. sum_of r n (λ i. r.mul (entry r a t i) (at r u i)) ≡ r.zero in
          let j_in = row-lt n n t t_in in
          let l_in = column-lt n n t t_in in
          subst S (div-add-mod' t n) (sum_is c u h (t / n) (t % n) j_in l_in
          ∙ ap (λ (x : Elem r). x.0) (z (t / n) (t % n) j_in l_in))

      abbrev row_of : ℕ → ℕ → Elem r
      row_of s i = (entry r kernel s i, entry-elem r N n kernel shape s i)

      spans_kernel : SpansProductKernel K Q p q k D Alg n B (length kernel) row_of
      spans_kernel = record {
        inside = λ s s_in. to_kernel (row_of s) (get_or kernel s []) (λ i _. refl)
            ((spans (get_or kernel s []) (All-get_or (IsTuple r n) kernel s [] s_in shape)).0
            (InSpan-member r N n kernel shape s s_in));
        spans = λ c z.
            let w : ℕ → R = λ i. (c i).0 in
            let u = table n w in
            let h = (spans u (IsTuple-table r n w (λ i _. (c i).1))).1
            (from_kernel c u (λ i l. at-table r n w i l) z) in
            let d : ℕ → Elem r = λ s. (at r h.0 s, at-elem r N h.0 h.1.of_elements s) in
            let total : ℕ → Elem r = λ i. sum k.monoid (length kernel) (λ s. k.◌⊗◌ (d s) (row_of s i)) in (
              d,
              λ i l. Elem-path r (c i) (total i) (sym (at-table r n w i l) ∙ h.2 i l
                  ∙ sum_of-elements r N (length kernel) (λ s. k.◌⊗◌ (d s) (row_of s i))),
            );
      }

      module _ (lifts grown : List (List E)) (res : AreResidueRows o L P p q r N D n lifts kernel)
          (by_p : AreOverP o L P p q r N D A rows lifts grown) where
        abbrev s : ℕ
        s = length kernel

        abbrev lift_of : ℕ → ℕ → Elem o
        lift_of t i = (entry o lifts t i, entry-elem o L n lifts res.shape t i)

        lift_allowed : (t i : ℕ) → t < s → i < n → Q (lift_of t i)
        lift_allowed t i t_in i_in = (res.entries t i (omega (arith, t_in, res.count)) i_in).allowed

        lift_residue : (t i : ℕ) → t < s → i < n → D.res (lift_of t i) ≡ row_of t i
        lift_residue t i t_in i_in =
            let h = res.entries t i (omega (arith, t_in, res.count)) i_in in
            Elem-path r (D.res (lift_of t i)) (row_of t i)
            (ap (λ (x : Elem o). (D.res x).0) (Elem-path o (lift_of t i) (entry o lifts t i, h.elem) refl) ∙ h.residue)

        abbrev big : ℕ → V
        big = row o L n grown by_p.shape

        -- a row of grown is q times the combination by the lifts
        big-is : (t : ℕ) → t < s → Alg.◌•◌ q (comb (module_of Alg) n (lift_of t) B.vec) ≡ big t
        unfolding B tuple_algebra
        big-is t t_in =
            let x : V = M.◌•◌ p (big t) in
            ap (M.◌•◌ q) (sym (is_comb o L n rows ind.shape x n (lift_of t) (λ c c_in.
            ap (λ xs. at o xs c) (tuples-scale o L n p (big t))
            ∙ at-table o n (λ i. o.mul p.0 (at o (big t).0 i)) c c_in
            ∙ ap (o.mul p.0) (row-at o L n grown by_p.shape t c c_in)
            ∙ by_p.combines t c (omega (arith, t_in, res.count)) c_in)))
            ∙ q-p_scale K Q p q k D M (big t)

        grown_count : length grown ≡ s
        grown_count = by_p.count ∙ res.count

        abbrev scaled : ℕ → V
        scaled t = Alg.◌•◌ q (comb (module_of Alg) n (lift_of t) B.vec)

        abbrev Out : V → Type 0
        Out = LatticeOver (module_of Alg) Q (s + n) (join s scaled B.vec)

        out_to : (x : V) → Out x → TupleLattice o P n (grown ++ rows) x.0
        unfolding tuple_algebra
        out_to x h = joined_to o L n grown rows by_p.shape ind.shape s n grown_count ind.count scaled B.vec big-is
            (λ i _. vec-is i) P x h

        out_from : (x : V) → TupleLattice o P n (grown ++ rows) x.0 → Out x
        unfolding tuple_algebra
        out_from x h = joined_from o L n grown rows by_p.shape ind.shape s n grown_count ind.count scaled B.vec big-is
            (λ i _. vec-is i) P x h

        same : Same Left Out
        same = left_order_by_kernel K Q p q k D Alg n B closed_over s row_of spans_kernel lift_of lift_allowed
            lift_residue

        pub left_order : Same (LeftOrderOf o L P p q r N D A rows) (TupleLattice o P n (grown ++ rows))
        left_order = (
          λ x h.
              let y = as_tuple o L n x h.0 in
              out_to y (same.0 y (left_from y h)),
          λ x h.
              let y = as_tuple o L n x h.0 in
              left_to y (same.1 y (out_from y h)),
        )

module _ {E R : Type 0} (o : Ops E) (L : FieldLaws o) (P : E → Type 0) (p q : Elem o) (r : Ops R) (N : FieldLaws r)
    (D : ResidueRingOn (elements o L) (λ x. P x.0) p q (elements r N)) where
  pub left_order_of_tuples : LeftOrderOfTuples o L P p q r N D
  left_order_of_tuples A over assoc one is_one rows ind closed a kernel m shape spans lifts grown res by_p =
      left_order o L P p q r N D A over assoc one is_one rows ind closed a kernel m shape spans lifts grown res by_p

  pub left_orders_are_orders : LeftOrdersAreOrders o L P p q r N D
  left_orders_are_orders A over assoc one is_one order ideal ind is_order is_ideal above = record {
    is_order = left_is_order o L P p q r N D A over assoc one is_one ideal ind;
    holds = λ a h. (h.0, λ x hx. is_ideal.left a x h hx);
    closed = record {
      holds = above (tuple_scale o A.dim p.0 one) (one, is_order.one_in, refl);
      products = λ x y hx hy. is_ideal.left x y (is_ideal.inside x hx) hy;
    };
  }
