-- Lattices, orders, preimages and left orders of tuples over a subring, and over a larger one whose members a member of
-- the first carries into it that has an inverse in the second: as the polynomials, and what is integral at a place.
use Rattle.std.specs.Prelude.{◌≡◌, ◌<◌, ℕ, zero, suc, List, length}
use Rattle.std.proofs.Common.{refl, sym, ◌∙◌, ap, subst, arith}
use Rattle.theory_rings.specs.Ring.{FieldOn}
use Rattle.theory_rings.specs.Ops.{Ops, FieldLaws}
use Rattle.theory_rings.specs.Elements.{Elem, Elem-path, elements}
use Rattle.theory_rings.specs.Sum.{at, sum_of, table}
use Rattle.theory_rings.proofs.Rings.Elements.{at-elem, sum_of_congr}
use Rattle.theory_spaces.specs.Module.{ModuleOn, AlgebraOn}
use Rattle.theory_spaces.specs.Lattice.{LatticeOver}
use Rattle.theory_spaces.specs.Sets.{Within, Same, IsOrder}
use Rattle.theory_spaces.specs.Tuples.{Tuple, IsTableAlgebra, constant}
use Rattle.theory_spaces.proofs.Linear.Families.{below_suc}
use Rattle.theory_spaces.proofs.Linear.LatticeSpans.{span-scale, span-comb, span-member, span_order}
use Rattle.theory_spaces.proofs.Linear.Modules.{comb-scale, map-comb, left_linear, InSpan-scale}
use Rattle.theory_spaces.proofs.Tuples.TupleProducts.{tuple_algebra}
use Rattle.theory_spaces.proofs.Tuples.Tuples.{at-table, IsTuple-table, tuples, tuples-scale}
use Rattle.theory_tables.specs.Matrix.{entry, IsMatrix}
use Rattle.theory_tables.specs.Subspace.{Combinations}
use Rattle.theory_tables.specs.Structure.{Structure, IsOver, IsAssociative, tuple_ops}
use Rattle.theory_tables.specs.Algebras.{IsIdentity}
use Rattle.theory_tables.proofs.Algebras.Bridge.{algebra, algebra_is, one-is, row, IsTuple-of, as_tuple, to_span}
use Rattle.theory_tables.proofs.Algebras.Bridge.{from_span}
use Rattle.theory_bases.specs.TupleLattices.{TupleLattice}
use Rattle.theory_left_orders.specs.ResidueRings.{ResidueRingOn}
use Rattle.theory_left_orders.specs.TupleResidues.{HasResidue, LeftOrderOf}
use Rattle.theory_left_orders.specs.TupleIdeals.{IsResidueTable, ComesFrom, Preimage}
use Rattle.theory_left_orders.proofs.TupleLattices.{to_lattice, from_lattice, is_comb, row-sum}
use Rattle.theory_growth.specs.Steps.{DoesNotGrow}

module _ {E : Type 0} (o : Ops E) (L : FieldLaws o) (P P' : E → Type 0) where
  -- u in P, with an inverse w in P'
  pub record Multiplier : Type 0 where
    pub u : Elem o
    pub w : Elem o
    pub u_in : P u.0
    pub w_in : P' w.0
    pub inverse : (elements o L).◌⊗◌ w u ≡ (elements o L).one

  -- each member of P' is carried into P by a multiplier
  pub record Localizes : Type 0 where
    pub larger : (a : Elem o) → P a.0 → P' a.0
    pub clears : (a : Elem o) → P' a.0 → (s : Multiplier) × P ((elements o L).◌⊗◌ s.u a).0

module _ {E R : Type 0} (o : Ops E) (L : FieldLaws o) (P P' : E → Type 0) (p q : Elem o) (r : Ops R) (N : FieldLaws r)
    (D : ResidueRingOn (elements o L) (λ x. P x.0) p q (elements r N))
    (D' : ResidueRingOn (elements o L) (λ x. P' x.0) p q (elements r N))
    (loc : Localizes o L P P') (agree : (a : Elem o) → P a.0 → D'.res a ≡ D.res a)
    (A : Structure E) (over : IsOver o A) (assoc : IsAssociative o A) (one : List E) (is_one : IsIdentity o A one) where
  infixl 70 ◌⊗◌
  infixl 70 ◌•◌
  abbrev n : ℕ
  n = A.dim

  abbrev K : FieldOn (Elem o)
  K = elements o L

  abbrev k : FieldOn (Elem r)
  k = elements r N

  abbrev V : Type 0
  V = Tuple o n

  abbrev M : ModuleOn K.ring V
  M = tuples o L n

  abbrev W : Type 0
  W = Tuple r n

  abbrev MR : ModuleOn k.ring W
  MR = tuples r N n

  open M use {◌•◌}

  abbrev Alg : AlgebraOn K.ring V
  Alg = algebra o L A over.of_elements assoc one is_one

  abbrev ◌⊗◌ : V → V → V
  ◌⊗◌ = Alg.◌⊗◌

  is : IsTableAlgebra o L n A.constants Alg
  is = algebra_is o L A over.of_elements assoc one is_one

  abbrev Q : Elem o → Type 0
  Q x = P x.0

  abbrev Q' : Elem o → Type 0
  Q' x = P' x.0

  abbrev S : Type 0
  S = Multiplier o L P P'

  -- ---- multipliers

  one_multiplier : S
  one_multiplier = record {
    u = K.one;
    w = K.one;
    u_in = D.subring.one_in;
    w_in = D'.subring.one_in;
    inverse = K.mul-one K.one;
  }

  unfoldable pub times : S → S → S
  times s t = record {
    u = K.◌⊗◌ s.u t.u;
    w = K.◌⊗◌ t.w s.w;
    u_in = D.subring.mul_in s.u t.u s.u_in t.u_in;
    w_in = D'.subring.mul_in t.w s.w t.w_in s.w_in;
    inverse = K.mul_assoc t.w s.w (K.◌⊗◌ s.u t.u)
        ∙ ap (K.◌⊗◌ t.w) (sym (K.mul_assoc s.w s.u t.u) ∙ ap (λ a. K.◌⊗◌ a t.u) s.inverse ∙ K.one-mul t.u)
        ∙ t.inverse;
  }

  -- one for finitely many facts that stay true for a multiple
  module _ {X : Type 0} (G : S → X → Type 0) (more : (s t : S) (x : X) → G t x → G (times s t) x)
      (after : (s t : S) (x : X) → G s x → G (times s t) x) where
    common : (m : ℕ) (x : ℕ → X) → ((i : ℕ) → i < m → (s : S) × G s (x i))
        → (s : S) × ((i : ℕ) → i < m → G s (x i))
    common zero x h = (one_multiplier, λ i l. absurd (omega arith))
    common (suc m) x h =
        let a = common m x (λ i l. h i (omega arith)) in
        let c = h m (omega arith) in (
          times c.0 a.0,
          below_suc m (λ i. G (times c.0 a.0) (x i)) (λ i l. more c.0 a.0 (x i) (a.1 i l))
              (after c.0 a.0 (x m) c.1),
        )

  -- of finitely many members of P'
  pub clear_all : (m : ℕ) (c : ℕ → Elem o) → ((i : ℕ) → i < m → Q' (c i))
      → (s : S) × ((i : ℕ) → i < m → Q (K.◌⊗◌ s.u (c i)))
  unfolding times
  clear_all m c h = common (λ s x. Q (K.◌⊗◌ s.u x))
      (λ s t x g. subst Q (sym (K.mul_assoc s.u t.u x)) (D.subring.mul_in s.u (K.◌⊗◌ t.u x) s.u_in g))
      (λ s t x g. subst Q (sym (K.mul_assoc t.u s.u x) ∙ ap (λ a. K.◌⊗◌ a x) (K.mul_comm t.u s.u))
      (D.subring.mul_in t.u (K.◌⊗◌ s.u x) t.u_in g))
      m c (λ i l. loc.clears (c i) (h i l))

  back : (s : S) (x : V) → s.w • (s.u • x) ≡ x
  back s x = sym (M.mul-scale s.w s.u x) ∙ ap (λ a. a • x) s.inverse ∙ M.one-scale x

  -- ---- lattices

  module _ (rs : List (List E)) (sh : IsMatrix o n rs) where
    abbrev v : ℕ → V
    v = row o L n rs sh

    abbrev len : ℕ
    len = length rs

    abbrev T : V → Type 0
    T x = TupleLattice o P n rs x.0

    abbrev T' : V → Type 0
    T' x = TupleLattice o P' n rs x.0

    abbrev Lo : V → Type 0
    Lo = LatticeOver M Q len v

    abbrev Lo' : V → Type 0
    Lo' = LatticeOver M Q' len v

    to : (x : V) → T x → Lo x
    to x h = to_lattice o L n rs sh P x h.1

    to' : (x : V) → T' x → Lo' x
    to' x h = to_lattice o L n rs sh P' x h.1

    from : (x : V) → Lo x → T x
    from = from_lattice o L n rs sh P

    from' : (x : V) → Lo' x → T' x
    from' = from_lattice o L n rs sh P'

    pub enlarge : (x : V) → T x → T' x
    enlarge x h = let g = to x h in from' x
        (record { weights = g.weights; passes = λ i l. loc.larger (g.weights i) (g.passes i l); combines = g.combines })

    pub scale : (a : Elem o) (x : V) → Q a → T x → T (a • x)
    scale a x ha h = from (a • x) (span-scale K Q D.subring M len v a x ha (to x h))

    scale' : (a : Elem o) (x : V) → Q' a → T' x → T' (a • x)
    scale' a x ha h = from' (a • x) (span-scale K Q' D'.subring M len v a x ha (to' x h))

    pub clear : (x : V) → T' x → (s : S) × T (s.u • x)
    clear x h =
        let g = to' x h in
        let f = clear_all len g.weights g.passes in (
          f.0,
          from (f.0.u • x) (record {
            weights = λ i. K.◌⊗◌ f.0.u (g.weights i);
            passes = f.1;
            combines = ap (M.◌•◌ f.0.u) g.combines ∙ sym (comb-scale M len f.0.u g.weights v);
          }),
        )

    pub uncleared : (s : S) (x : V) → T (s.u • x) → T' x
    uncleared s x h = subst T' (back s x) (scale' s.w (s.u • x) s.w_in (enlarge (s.u • x) h))

    clear_family : (m : ℕ) (x : ℕ → V) → ((i : ℕ) → i < m → T' (x i))
        → (s : S) × ((i : ℕ) → i < m → T (s.u • x i))
    unfolding times
    clear_family m x h = common (λ s y. T (s.u • y))
        (λ s t y g. subst T (sym (M.mul-scale s.u t.u y)) (scale s.u (t.u • y) s.u_in g))
        (λ s t y g. subst T (sym (M.mul-scale t.u s.u y) ∙ ap (λ a. a • y) (K.mul_comm t.u s.u))
        (scale t.u (s.u • y) t.u_in g))
        m x (λ i l. clear (x i) (h i l))

    member' : (i : ℕ) → i < len → T' (v i)
    member' i l = from' (v i) (span-member K Q' D'.subring M len v i l)

    member : (i : ℕ) → i < len → T (v i)
    member i l = from (v i) (span-member K Q D.subring M len v i l)

    -- an order over P is one over P'
    pub order_of : IsOrder (tuple_ops o A) one (TupleLattice o P n rs)
        → IsOrder (tuple_ops o A) one (TupleLattice o P' n rs)
    unfolding tuple_algebra
    order_of h =
        let products : (i j : ℕ) → i < len → j < len → Lo' (v i ⊗ v j) = λ i j l g.
        to' (v i ⊗ v j) (enlarge (v i ⊗ v j) (subst (TupleLattice o P n rs) (sym (is.product-is (v i) (v j)))
        (h.mul_in (v i).0 (v j).0 (member i l) (member j g)))) in
        let one_is = one-is o L A over.of_elements assoc one is_one in
        let f = span_order K Q' D'.subring Alg len v products
        (to' Alg.one (enlarge Alg.one (subst (TupleLattice o P n rs) (sym one_is) h.one_in))) in
        let G : List E → Type 0 = TupleLattice o P' n rs in
        record {
          one_in = subst G one_is (from' Alg.one f.one_in);
          zero_in = subst G is.zero-is (from' Alg.zero f.zero_in);
          add_in = λ x y hx hy.
              let a = as_tuple o L n x hx.0 in
              let c = as_tuple o L n y hy.0 in
              subst G (is.add-is a c) (from' (Alg.◌⊕◌ a c) (f.add_in a c (to' a hx) (to' c hy)));
          neg_in = λ x hx.
              let a = as_tuple o L n x hx.0 in
              subst G (is.neg-is a) (from' (Alg.neg a) (f.neg_in a (to' a hx)));
          mul_in = λ x y hx hy.
              let a = as_tuple o L n x hx.0 in
              let c = as_tuple o L n y hy.0 in
              subst G (is.product-is a c) (from' (a ⊗ c) (f.mul_in a c (to' a hx) (to' c hy)));
        }

  -- ---- left orders

  module _ (rs : List (List E)) (sh : IsMatrix o n rs) (ms : List (List E)) (mh : IsMatrix o n ms)
      (left : Within (LeftOrderOf o L P p q r N D A ms) (TupleLattice o P n rs)) where
    abbrev g : ℕ → V
    g = row o L n ms mh

    pub left_order_of : Within (LeftOrderOf o L P' p q r N D' A ms) (TupleLattice o P' n rs)
    unfolding tuple_algebra
    left_order_of x h =
        let a = as_tuple o L n x h.0 in
        let f = clear_family ms mh (length ms) (λ i. a ⊗ g i) (λ i l.
        subst (TupleLattice o P' n ms) (sym (is.product-is a (g i))) (h.1 (g i).0 (member' ms mh i l))) in
        let u = f.0.u in
        uncleared rs sh f.0 a (left (u • a).0 (
          IsTuple-of o L n (u • a),
          λ y hy.
              let z = as_tuple o L n y hy.0 in
              let s = to ms mh z hy in
              let each : (i : ℕ) → i < length ms → Lo ms mh ((u • a) ⊗ g i) = λ i l.
              subst (Lo ms mh) (sym (Alg.scale-left u a (g i))) (to ms mh (u • (a ⊗ g i)) (f.1 i l)) in
              subst (TupleLattice o P n ms) (is.product-is (u • a) z) (from ms mh ((u • a) ⊗ z)
              (subst (Lo ms mh) (sym (ap (λ t. (u • a) ⊗ t) s.combines
              ∙ map-comb M M (λ t. (u • a) ⊗ t) (left_linear Alg (u • a)) (length ms) s.weights g))
              (span-comb K Q D.subring M (length ms) g (length ms) s.weights (λ i. (u • a) ⊗ g i) s.passes each))),
        ))

  -- ---- preimages

  residue_of : (a : E) (c : R) → HasResidue o L P p q r N D a c → HasResidue o L P' p q r N D' a c
  residue_of a c h = record {
    elem = h.elem;
    allowed = loc.larger (a, h.elem) h.allowed;
    residue = ap (λ (x : Elem r). x.0) (agree (a, h.elem) h.allowed) ∙ h.residue;
  }

  -- the residues of the constants
  pub table_of : (rs : List (List E)) (cs : List R) → IsResidueTable o L P p q r N D A rs cs
      → IsResidueTable o L P' p q r N D' A rs cs
  table_of rs cs h = record {
    shape = h.shape;
    coordinate = h.coordinate;
    coordinates = h.coordinates;
    residues = λ i j l a c d. residue_of (h.coordinate i j l) (constant r n cs i j l) (h.residues i j l a c d);
  }

  module _ (rs : List (List E)) (sh : IsMatrix o n rs) (ideal : List (List R)) (ih : IsMatrix r n ideal) where
    abbrev Pre : V → Type 0
    Pre x = Preimage o L P p q r N D A rs ideal x.0

    abbrev Pre' : V → Type 0
    Pre' x = Preimage o L P' p q r N D' A rs ideal x.0

    pre_enlarge : (x : V) → Pre x → Pre' x
    pre_enlarge x h =
        let f = h.1 in (
          h.0,
          record {
            weights = f.weights;
            tuple = f.tuple;
            combines = f.combines;
            residues = f.residues;
            each = λ l l_in. residue_of (at o f.weights l) (at r f.residues l) (f.each l l_in);
            inside = f.inside;
          },
        )

    -- multiples, by the weights
    module _ (x : V) (h : Pre' x) where
      abbrev f : ComesFrom o L P' p q r N D' A rs ideal x.0
      f = h.1

      abbrev c : ℕ → Elem o
      c l = (at o f.weights l, at-elem o L f.weights f.tuple.of_elements l)

      c_in : (l : ℕ) → l < n → Q' (c l)
      c_in l l_in = (f.each l l_in).allowed

      c_res : (l : ℕ) → l < n → (D'.res (c l)).0 ≡ at r f.residues l
      c_res l l_in = let g = f.each l l_in in
          ap (λ (y : Elem o). (D'.res y).0) (Elem-path o (c l) (at o f.weights l, g.elem) refl) ∙ g.residue

      abbrev residues : W
      residues = as_tuple r N n f.residues f.inside.0

      -- the residue of a weight that was multiplied
      res-mul : (a : Elem o) (ha : Q' a) (l : ℕ) → l < n
          → (D'.res (K.◌⊗◌ a (c l))).0 ≡ at r (MR.◌•◌ (D'.res a) residues).0 l
      res-mul a ha l l_in = ap (λ (y : Elem r). y.0) (D'.map-mul a (c l) ha (c_in l l_in))
          ∙ ap (r.mul (D'.res a).0) (c_res l l_in)
          ∙ sym (ap (λ xs. at r xs l) (tuples-scale r N n (D'.res a) residues)
          ∙ at-table r n (λ i. r.mul (D'.res a).0 (at r f.residues i)) l l_in)

      abbrev weights_by : Elem o → List E
      weights_by a = table n (λ l. (K.◌⊗◌ a (c l)).0)

      weights_combine : (a : Elem o) (j : ℕ) → j < n
          → at o (a • x).0 j ≡ sum_of o n (λ l. o.mul (at o (weights_by a) l) (entry o rs l j))
      weights_combine a j j_in =
          ap (λ (y : V). at o y.0 j) (ap (M.◌•◌ a) (is_comb o L n rs sh x n c f.combines)
          ∙ sym (comb-scale M n a c (v rs sh)))
          ∙ row-sum o L n rs sh n (λ l. K.◌⊗◌ a (c l)) j j_in
          ∙ sum_of_congr o n (λ l. o.mul (K.◌⊗◌ a (c l)).0 (entry o rs l j))
          (λ l. o.mul (at o (weights_by a) l) (entry o rs l j))
          (λ l l_in. ap (λ y. o.mul y (entry o rs l j)) (sym (at-table o n (λ l. (K.◌⊗◌ a (c l)).0) l l_in)))

      inside_by : (a : Elem o) → Combinations r n ideal (MR.◌•◌ (D'.res a) residues).0
      inside_by a =
          let y = MR.◌•◌ (D'.res a) residues in (
            IsTuple-of r N n y,
            from_span r N n ideal ih y (InSpan-scale MR (length ideal) (row r N n ideal ih) (D'.res a) residues
                (to_span r N n ideal ih residues f.inside.1)),
          )

      pre_scale' : (a : Elem o) → Q' a → Pre' (a • x)
      pre_scale' a ha = (
        IsTuple-of o L n (a • x),
        record {
          weights = weights_by a;
          tuple = IsTuple-table o n (λ l. (K.◌⊗◌ a (c l)).0) (λ l _. (K.◌⊗◌ a (c l)).1);
          combines = weights_combine a;
          residues = (MR.◌•◌ (D'.res a) residues).0;
          each = λ l l_in. subst (λ y. HasResidue o L P' p q r N D' y (at r (MR.◌•◌ (D'.res a) residues).0 l))
              (sym (at-table o n (λ l. (K.◌⊗◌ a (c l)).0) l l_in)) (record {
                elem = (K.◌⊗◌ a (c l)).1;
                allowed = D'.subring.mul_in a (c l) ha (c_in l l_in);
                residue = res-mul a ha l l_in;
              });
          inside = inside_by a;
        },
      )

      pre_clear : (s : S) × Pre (s.u • x)
      pre_clear =
          let g = clear_all n c c_in in
          let s = g.0 in
          let a = s.u in (
            s,
            (
              IsTuple-of o L n (a • x),
              record {
                weights = weights_by a;
                tuple = IsTuple-table o n (λ l. (K.◌⊗◌ a (c l)).0) (λ l _. (K.◌⊗◌ a (c l)).1);
                combines = weights_combine a;
                residues = (MR.◌•◌ (D'.res a) residues).0;
                each = λ l l_in. subst (λ y. HasResidue o L P p q r N D y (at r (MR.◌•◌ (D'.res a) residues).0 l))
                    (sym (at-table o n (λ l. (K.◌⊗◌ a (c l)).0) l l_in)) (record {
                      elem = (K.◌⊗◌ a (c l)).1;
                      allowed = g.1 l l_in;
                      residue = ap (λ (y : Elem r). y.0) (sym (agree (K.◌⊗◌ a (c l)) (g.1 l l_in)))
                          ∙ res-mul a (loc.larger a s.u_in) l l_in;
                    });
                inside = inside_by a;
              },
            ),
          )

    -- a lattice that is the preimage over P is that over P'
    pub preimage_of : (ms : List (List E)) → IsMatrix o n ms
        → Same (Preimage o L P p q r N D A rs ideal) (TupleLattice o P n ms)
        → Same (Preimage o L P' p q r N D' A rs ideal) (TupleLattice o P' n ms)
    preimage_of ms mh e = (
      λ x h.
          let y = as_tuple o L n x h.0 in
          let f = pre_clear y h in
          uncleared ms mh f.0 y (e.0 (f.0.u • y).0 f.1),
      λ x h.
          let y = as_tuple o L n x h.0 in
          let f = clear ms mh y h in
          let a = f.0.u in
          let g = pre_scale' (a • y) (pre_enlarge (a • y) (e.1 (a • y).0 f.1)) f.0.w f.0.w_in in
          subst Pre' (back f.0 y) g,
    )

  -- what does not grow over P does not over P'
  pub does_not_grow : (rs : List (List E)) → IsMatrix o n rs → (ideal : List (List R))
      → DoesNotGrow o L P p q r N D A rs ideal → DoesNotGrow o L P' p q r N D' A rs ideal
  does_not_grow rs sh ideal h = record {
    matrix = h.matrix;
    ideal = h.ideal;
    shape = h.shape;
    preimage = preimage_of rs sh ideal h.matrix h.ideal h.shape h.preimage;
    left_order = left_order_of rs sh h.ideal h.shape h.left_order;
  }
