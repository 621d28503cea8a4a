-- The reduction of an order over a subring with a residue field: the coordinates by its basis, and their residues.
use Rattle.std.specs.Prelude.{◌≡◌, ℕ, ◌+◌, ◌<◌}
use Rattle.std.proofs.Common.{refl, sym, ◌∙◌, ap, ap₂, subst}
use Rattle.theory_rings.specs.Ring.{FieldOn}
use Rattle.theory_rings.specs.Sum.{sum}
use Rattle.theory_rings.proofs.Rings.RingLaws.{add-zero}
use Rattle.theory_rings.proofs.Sums.Sums.{sum_congr}
use Rattle.theory_spaces.specs.Module.{ModuleOn, AlgebraOn, module_of}
use Rattle.theory_spaces.specs.Linear.{comb, InSpan, Basis, IsLinear}
use Rattle.theory_spaces.specs.Lattice.{LatticeOver}
use Rattle.theory_spaces.specs.Space.{ProductOn, product_on, sum2}
use Rattle.theory_spaces.specs.Algebra.{IdealSpan}
use Rattle.theory_spaces.specs.Sets.{ring_ops, Multiple, IsOrder}
use Rattle.theory_spaces.proofs.Linear.Families.{join, each_join}
use Rattle.theory_spaces.proofs.Linear.Modules.{InSpan-member, InSpan-scale, map-comb}
use Rattle.theory_spaces.proofs.Linear.Spaces.{Basis-coord, coords_of, coord-comb}
use Rattle.theory_spaces.proofs.Linear.LatticeSpans.{sum_in, span-add, span-scale, span-comb, span-member}
use Rattle.theory_spaces.proofs.Linear.LatticeSpans.{comb_in_closed}
use Rattle.theory_spaces.proofs.Tuples.Tables.{sum2_congr}
use Rattle.theory_residue.specs.Residue.{ReductionOn, Lifted, LiftedIdeal}
use Rattle.theory_residue.proofs.ResidueAlgebra.{coord-product, basis_ext}
use Rattle.theory_residue.proofs.Correspondence.{lifted_is, difference as reduced_difference}
use Rattle.theory_left_orders.specs.ResidueRings.{ResidueRingOn}
use Rattle.theory_left_orders.specs.LeftOrders.{BasisLattice}
use Rattle.theory_left_orders.specs.ResidueAlgebras.{ResidueProduct, HasAlgebraLaws, ReducesByCoordinates, PreimageOf}
use Rattle.theory_left_orders.specs.ResidueAlgebras.{AreLifts, ResidueProductIsAlgebra}
use Rattle.theory_left_orders.specs.ResidueLaws.{OrderReducesOver, PreimagesOfIdeals}
use Rattle.theory_left_orders.proofs.ResidueRings.{res-sum, res-multiple, p-q_scale}
use Rattle.theory_left_orders.proofs.ResidueRings.{span-join_left, span-join_right, coord_member, member_by_coord}

module _ {K E V : Type 0} (F : FieldOn K) (P : K → Type 0) (p q : K) (k : FieldOn E) (D : ResidueRingOn F P p q k)
    (A : AlgebraOn F.ring V) (n : ℕ) (b : Basis (module_of A) n)
    (O : IsOrder (ring_ops A.ring) A.one (BasisLattice F P p q k D A n b)) where
  infixl 65 ◌⊕◌
  infixl 70 ◌⊗◌
  infixl 70 ◌•◌
  open A use {◌⊕◌, ◌⊗◌, ◌•◌}
  open D use {res, subring}

  abbrev v : ℕ → V
  v = b.vec

  abbrev MA : ModuleOn F.ring V
  MA = module_of A

  abbrev L : V → Type 0
  L = BasisLattice F P p q k D A n b

  abbrev N : V → Type 0
  N = Multiple (ring_ops A.ring) A.◌•◌ p L

  coord_in : (x : V) → L x → (i : ℕ) → i < n → P (b.coord x i)
  coord_in = coord_member F P p q k D MA n b

  of_coords : (x : V) → ((i : ℕ) → i < n → P (b.coord x i)) → L x
  of_coords = member_by_coord F P p q k D MA n b

  vec_in : (i : ℕ) → i < n → L (v i)
  vec_in i l = span-member F P subring MA n v i l

  pub res-sum2 : (f : ℕ → ℕ → K) → ((i j : ℕ) → i < n → j < n → P (f i j))
      → res (sum2 F.ring n f) ≡ sum2 k.ring n (λ i j. res (f i j))
  res-sum2 f h =
      res-sum F P p q k D n (λ i. sum F.monoid n (f i)) (λ i a. sum_in F P subring n (f i) (λ j c. h i j a c))
      ∙ sum_congr k.monoid n (λ i. res (sum F.monoid n (f i))) (λ i. sum k.monoid n (λ j. res (f i j)))
      (λ i a. res-sum F P p q k D n (f i) (λ j c. h i j a c))

  module _ {W : Type 0} (M : ModuleOn k.ring W) (w : Basis M n) where
    unfoldable pub red : V → W
    red x = comb M n (λ i. res (b.coord x i)) w.vec

    pub coord-red : (x : V) (i : ℕ) → i < n → w.coord (red x) i ≡ res (b.coord x i)
    unfolding red
    coord-red x i l = Basis-coord M n w (λ i. res (b.coord x i)) i l

    unfoldable pub lift : W → V
    lift y = comb MA n (λ i. D.lift (w.coord y i)) v

    coord-lift : (y : W) (i : ℕ) → i < n → b.coord (lift y) i ≡ D.lift (w.coord y i)
    unfolding lift
    coord-lift y i l = Basis-coord MA n b (λ i. D.lift (w.coord y i)) i l

    pub lift_in : (y : W) → L (lift y)
    lift_in y = of_coords (lift y) (λ i l. subst P (sym (coord-lift y i l)) (D.lift_in (w.coord y i)))

    pub red-lift : (y : W) → red (lift y) ≡ y
    red-lift y = basis_ext M n w (red (lift y)) y
        (λ i l. coord-red (lift y) i l ∙ ap res (coord-lift y i l) ∙ D.res-lift (w.coord y i))

    pub red-add : (x y : V) → L x → L y → red (x ⊕ y) ≡ M.◌⊕◌ (red x) (red y)
    red-add x y hx hy = basis_ext M n w (red (x ⊕ y)) (M.◌⊕◌ (red x) (red y)) (λ i l.
        coord-red (x ⊕ y) i l ∙ ap res (b.coord-add x y i)
        ∙ D.map-add (b.coord x i) (b.coord y i) (coord_in x hx i l) (coord_in y hy i l)
        ∙ ap₂ k.◌⊕◌ (sym (coord-red x i l)) (sym (coord-red y i l)) ∙ sym (w.coord-add (red x) (red y) i))

    -- it is 0 at the multiples of p alone
    pub kernel_to : (x : V) → L x → red x ≡ M.zero → N x
    kernel_to x h e = (
      q • x,
      of_coords (q • x) (λ i l.
          let z : res (b.coord x i) ≡ k.zero = sym (coord-red x i l) ∙ ap (λ y. w.coord y i) e ∙ w.coord-zero i in
          subst P (sym (b.coord-scale q x i)) ((D.kernel (b.coord x i) (coord_in x h i l)).0 z)),
      sym (p-q_scale F P p q k D MA x),
    )

    pub kernel_from : (x : V) → N x → red x ≡ M.zero
    kernel_from x m = basis_ext M n w (red x) M.zero (λ i l.
        let c = b.coord m.0 i in
        coord-red x i l ∙ ap res (ap (λ y. b.coord y i) m.2 ∙ b.coord-scale p m.0 i)
        ∙ res-multiple F P p q k D c (coord_in m.0 m.1 i l) ∙ sym (w.coord-zero i))

    pub multiple_in : (x : V) → N x → L x
    multiple_in x m = subst L (sym m.2) (span-scale F P subring MA n v p m.0 D.p_in m.1)

    -- a product on W by the residues of the constants
    module _ (G : ProductOn M) (constants : ResidueProduct F P p q k D A n b M G w) where
      abbrev mul : W → W → W
      mul = G.◌⊗◌

      pub red-mul : (x y : V) → L x → L y → red (x ⊗ y) ≡ mul (red x) (red y)
      red-mul x y hx hy = basis_ext M n w (red (x ⊗ y)) (mul (red x) (red y)) (λ l c.
          let f : ℕ → ℕ → K = λ i j. F.◌⊗◌ (F.◌⊗◌ (b.coord x i) (b.coord y j)) (b.coord (v i ⊗ v j) l) in
          let in_xy : (i j : ℕ) → i < n → j < n → P (F.◌⊗◌ (b.coord x i) (b.coord y j)) =
          λ i j g h. subring.mul_in (b.coord x i) (b.coord y j) (coord_in x hx i g) (coord_in y hy j h) in
          let in_v : (i j : ℕ) → i < n → j < n → P (b.coord (v i ⊗ v j) l) =
          λ i j g h. coord_in (v i ⊗ v j) (O.mul_in (v i) (v j) (vec_in i g) (vec_in j h)) l c in
          coord-red (x ⊗ y) l c ∙ ap res (coord-product MA (product_on A) n b x y l)
          ∙ res-sum2 f (λ i j g h. subring.mul_in (F.◌⊗◌ (b.coord x i) (b.coord y j)) (b.coord (v i ⊗ v j) l)
          (in_xy i j g h) (in_v i j g h))
          ∙ sum2_congr k.ring n (λ i j. res (f i j))
          (λ i j. k.◌⊗◌ (k.◌⊗◌ (w.coord (red x) i) (w.coord (red y) j)) (w.coord (mul (w.vec i) (w.vec j)) l))
          (λ i j g h. D.map-mul (F.◌⊗◌ (b.coord x i) (b.coord y j)) (b.coord (v i ⊗ v j) l) (in_xy i j g h)
          (in_v i j g h)
          ∙ ap₂ k.◌⊗◌ (D.map-mul (b.coord x i) (b.coord y j) (coord_in x hx i g) (coord_in y hy j h)
          ∙ ap₂ k.◌⊗◌ (sym (coord-red x i g)) (sym (coord-red y j h))) (sym (constants i j l g h c)))
          ∙ sym (coord-product M G n w (red x) (red y) l))

      mul_lift : (x y : W) → mul x y ≡ red (lift x ⊗ lift y)
      mul_lift x y = ap₂ mul (sym (red-lift x)) (sym (red-lift y))
          ∙ sym (red-mul (lift x) (lift y) (lift_in x) (lift_in y))

      residue_assoc : (x y z : W) → mul (mul x y) z ≡ mul x (mul y z)
      residue_assoc x y z =
          let a = lift x in
          let c = lift y in
          let d = lift z in
          ap₂ mul (mul_lift x y) (sym (red-lift z))
          ∙ sym (red-mul (a ⊗ c) d (O.mul_in a c (lift_in x) (lift_in y)) (lift_in z))
          ∙ ap red (A.mul_assoc a c d)
          ∙ red-mul a (c ⊗ d) (lift_in x) (O.mul_in c d (lift_in y) (lift_in z))
          ∙ ap₂ mul (red-lift x) (sym (mul_lift y z))

      pub laws : HasAlgebraLaws F P p q k D A n b M G
      laws = record {
        one = red A.one;
        mul_assoc = residue_assoc;
        one-mul = λ x. ap (mul (red A.one)) (sym (red-lift x)) ∙ sym (red-mul A.one (lift x) O.one_in (lift_in x))
            ∙ ap red (A.one-mul (lift x)) ∙ red-lift x;
        mul-one = λ x. ap (λ y. mul y (red A.one)) (sym (red-lift x))
            ∙ sym (red-mul (lift x) A.one (lift_in x) O.one_in) ∙ ap red (A.mul-one (lift x)) ∙ red-lift x;
      }

  module _ {W : Type 0} (C : AlgebraOn k.ring W) (w : Basis (module_of C) n) where
    abbrev MC : ModuleOn k.ring W
    MC = module_of C

    pub reduces : ResidueProduct F P p q k D A n b MC (product_on C) w → ReducesByCoordinates F P p q k D A n b C w
    unfolding red laws
    reduces constants = record {
      reduction = record {
        red = red MC w;
        lift = lift MC w;
        lift_in = lift_in MC w;
        red-lift = red-lift MC w;
        map-one = sym (C.mul-one (red MC w A.one)) ∙ (laws MC w (product_on C) constants).one-mul C.one;
        map-add = red-add MC w;
        map-mul = red-mul MC w (product_on C) constants;
        kernel = λ x l. (kernel_to MC w x l, kernel_from MC w x);
        kernel_in = multiple_in MC w;
      };
      values = coord-red MC w;
    }

    module _ (r : ReducesByCoordinates F P p q k D A n b C w) where
      abbrev R : ReductionOn A L N C
      R = r.reduction

      pub red-scale : (a : K) (x : V) → P a → L x → R.red (a • x) ≡ C.◌•◌ (res a) (R.red x)
      red-scale a x ha hx = basis_ext MC n w (R.red (a • x)) (C.◌•◌ (res a) (R.red x)) (λ i l.
          r.values (a • x) i l ∙ ap res (b.coord-scale a x i) ∙ D.map-mul a (b.coord x i) ha (coord_in x hx i l)
          ∙ ap (k.◌⊗◌ (res a)) (sym (r.values x i l)) ∙ sym (w.coord-scale (res a) (R.red x) i))

      pub red-comb : (m : ℕ) (c : ℕ → K) (y : ℕ → V) → ((i : ℕ) → i < m → P (c i)) → ((i : ℕ) → i < m → L (y i))
          → R.red (comb MA m c y) ≡ comb MC m (λ i. res (c i)) (λ i. R.red (y i))
      red-comb m c y hc hy = basis_ext MC n w (R.red (comb MA m c y)) (comb MC m (λ i. res (c i)) (λ i. R.red (y i)))
          (λ i l. r.values (comb MA m c y) i l ∙ ap res (coord_comb_of i)
          ∙ res-sum F P p q k D m (λ t. F.◌⊗◌ (c t) (b.coord (y t) i))
          (λ t a. subring.mul_in (c t) (b.coord (y t) i) (hc t a) (coord_in (y t) (hy t a) i l))
          ∙ sum_congr k.monoid m (λ t. res (F.◌⊗◌ (c t) (b.coord (y t) i)))
          (λ t. k.◌⊗◌ (res (c t)) (w.coord (R.red (y t)) i))
          (λ t a. D.map-mul (c t) (b.coord (y t) i) (hc t a) (coord_in (y t) (hy t a) i l)
          ∙ ap (k.◌⊗◌ (res (c t))) (sym (r.values (y t) i l)))
          ∙ sym (coord-comb MC n (coords_of MC n w) m (λ i. res (c i)) (λ i. R.red (y i)) i))
        where
          coord_comb_of : (i : ℕ) → b.coord (comb MA m c y) i ≡ sum F.monoid m (λ t. F.◌⊗◌ (c t) (b.coord (y t) i))
          coord_comb_of i = coord-comb MA n (coords_of MA n b) m c y i

      module _ (s : ℕ) (rows : ℕ → W) (I : IdealSpan C s rows)
          (lifts : ℕ → V) (h : AreLifts F P p q k D A n b C w r.reduction s rows lifts) where
        abbrev Up : V → Type 0
        Up = Lifted A L N C R (InSpan MC s rows)

        abbrev small : ℕ → V
        small i = p • v i

        abbrev S : V → Type 0
        S = LatticeOver MA P (s + n) (join s lifts small)

        abbrev U : LiftedIdeal A L N C R (InSpan MC s rows)
        U = lifted_is A L N O C R (InSpan MC s rows) I

        small_in : (i : ℕ) → i < n → Up (small i)
        small_in i l = U.over (small i) (v i, vec_in i l, refl)

        lifts_in : (i : ℕ) → i < s → Up (lifts i)
        lifts_in i l = (h.inside i l, subst (InSpan MC s rows) (sym (h.becomes i l)) (InSpan-member MC s i rows l))

        -- a multiple of a member is one
        scale_in : (a : K) (x : V) → P a → Up x → Up (a • x)
        scale_in a x ha g = (
          span-scale F P subring MA n v a x ha g.0,
          subst (InSpan MC s rows) (sym (red-scale a x ha g.0)) (InSpan-scale MC s rows (res a) (R.red x) g.1),
        )

        down : (x : V) → S x → Up x
        down x g = subst Up (sym g.combines) (comb_in_closed F P MA Up U.ideal.zero_in U.ideal.add_in scale_in (s + n)
            g.weights (join s lifts small) g.passes (each_join s n lifts small Up lifts_in small_in))

        -- p times a member of the order
        multiple_of : (x : V) → N x → S x
        multiple_of x g = subst S (sym (g.2 ∙ ap (λ y. p • y) (b.expand g.0)
            ∙ map-comb MA MA (λ y. p • y) scale_p n (b.coord g.0) v))
            (span-comb F P subring MA (s + n) (join s lifts small) n (b.coord g.0) small (coord_in g.0 g.1)
            (span-join_right F P p q k D MA s n lifts small))
          where
            scale_p : IsLinear MA MA (λ x. p • x)
            scale_p = record {
              map-add = MA.scale-add p;
              map-scale = λ c x. sym (MA.mul-scale p c x) ∙ ap (λ t. t • x) (F.mul_comm p c) ∙ MA.mul-scale c p x;
            }

        up : (x : V) → Up x → S x
        up x g =
            let c : ℕ → K = λ i. D.lift (g.1.weights i) in
            let y = comb MA s c lifts in
            let y_in : L y = span-comb F P subring MA n v s c lifts (λ i _. D.lift_in (g.1.weights i)) h.inside in
            let same : R.red x ≡ R.red y = g.1.combines
            ∙ sym (red-comb s c lifts (λ i _. D.lift_in (g.1.weights i)) h.inside
            ∙ sum_congr C.monoid s (λ i. C.◌•◌ (res (c i)) (R.red (lifts i))) (λ i. C.◌•◌ (g.1.weights i) (rows i))
            (λ i l. ap₂ C.◌•◌ (D.res-lift (g.1.weights i)) (h.becomes i l))) in
            subst S (A.add_assoc x (A.neg y) y ∙ ap (λ z. x ⊕ z) (A.neg-add y) ∙ add-zero A.monoid x)
            (span-add F P subring MA (s + n) (join s lifts small) (x ⊕ A.neg y) y
            (multiple_of (x ⊕ A.neg y) (reduced_difference A L N O C R x y g.0 y_in same))
            (span-comb F P subring MA (s + n) (join s lifts small) s c lifts (λ i _. D.lift_in (g.1.weights i))
            (span-join_left F P p q k D MA s n lifts small)))

        pub preimage : PreimageOf F P p q k D A n b C w R s rows lifts
        preimage = record {
          lattice = (up, down);
          ideal = U.ideal;
          over = U.over;
          whole = λ f y. U.reduced.0 y (R.lift y, f (R.lift y) (R.lift_in y), R.red-lift y);
        }

module _ {K V E : Type 0} (F : FieldOn K) (P : K → Type 0) (p q : K) (k : FieldOn E) (D : ResidueRingOn F P p q k)
    (A : AlgebraOn F.ring V) (n : ℕ) (b : Basis (module_of A) n) (W : Type 0) where
  pub residue_product_is_algebra : ResidueProductIsAlgebra F P p q k D A n b W
  residue_product_is_algebra O M G w constants = laws F P p q k D A n b O M w G constants

  pub order_reduces_over : OrderReducesOver F P p q k D A n b W
  order_reduces_over O C w constants = reduces F P p q k D A n b O C w constants

  pub preimages_of_ideals : PreimagesOfIdeals F P p q k D A n b W
  preimages_of_ideals O C w r s rows I lifts h = preimage F P p q k D A n b O C w r s rows I lifts h
