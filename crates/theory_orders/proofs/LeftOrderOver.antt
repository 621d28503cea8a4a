-- The left order of an ideal over p·L is a lattice of full rank, whatever the trace form is. It is q times the set of
-- those members of L by which the coordinates of all products with a basis of the ideal are multiples of p; and what
-- is left of a lattice by the condition that a functional, integral on it, has a multiple of p as value is a lattice
-- again: where the value at a vector is a unit, a multiple of that vector corrects the others.
use Rattle.std.specs.Prelude.{◌≡◌, ℕ, zero, suc, ◌+◌, ◌*◌, ◌/◌, ◌%◌, ◌<◌}
use Rattle.std.proofs.Common.{refl, sym, ◌∙◌, ap, ap₂, subst, arith, ⊎_elim}
use Rattle.std.proofs.lemmas.Nat.{div-mul-add, mod-mul-add}
use Rattle.theory_rings.specs.Ring.{FieldOn}
use Rattle.theory_rings.proofs.Rings.RingLaws.{add-zero, add-neg, neg_add, add_add_add_comm, mul-zero, additive-zero}
use Rattle.theory_rings.proofs.Rings.RingLaws.{additive-neg}
use Rattle.theory_rings.proofs.Rings.Semirings.{semiring, mul_left_comm}
use Rattle.theory_spaces.specs.Module.{ModuleOn, AlgebraOn, module_of}
use Rattle.theory_spaces.specs.Linear.{InSpan, Independent, IsLinear, IsSubmodule, Basis, Coords}
use Rattle.theory_spaces.specs.Valuation.{ValuationOn, integers, restrict, LatticeBasis}
use Rattle.theory_spaces.proofs.Linear.Families.{join, each_join, below_suc}
use Rattle.theory_spaces.proofs.Linear.Modules.{scale-neg, map-comb, InSpan-scale}
use Rattle.theory_spaces.proofs.Linear.Modules.{InSpan_trans}
use Rattle.theory_spaces.proofs.Linear.Spaces.{basis_of, coords_of}
use Rattle.theory_spaces.proofs.Linear.Dimension.{dimension_unique}
use Rattle.theory_spaces.proofs.Linear.Lattices.{lattice_basis}
use Rattle.theory_spaces.proofs.Matrices.PairIndex.{pair-lt, row-lt, column-lt}
use Rattle.theory_orders.specs.Uniformizer.{IsIntegral, IsUnit, UniformizerOn}
use Rattle.theory_orders.specs.Orders.{IsIdeal, Multiple, LeftOrder, Within, Same}
use Rattle.theory_orders.specs.Lattices.{Lattice, IsOrderAt}
use Rattle.theory_spaces.proofs.Linear.LatticeTests.{all_or_not, integral_weights}
use Rattle.theory_orders.proofs.Ideals.SimpleQuotients.{mul_lattice}
use Rattle.theory_orders.proofs.Splitting.Ramified.{spanning}
use Rattle.theory_orders.proofs.LeftOrder.LeftOrders.{left_order_is_order, in_left_order, left_order_bounded}
use Rattle.theory_orders.proofs.LeftOrder.LeftOrderLattice.{order_same}
use Rattle.theory_spaces.specs.Lattice.{LatticeOver}
use Rattle.theory_spaces.proofs.Linear.LatticeSpans.{lattice_span, lattice-zero, lattice-add, lattice-scale}
use Rattle.theory_spaces.proofs.Linear.LatticeSpans.{lattice-neg, lattice-member, lattice_trans, lattice-join_left}
use Rattle.theory_spaces.proofs.Linear.LatticeSpans.{lattice-join_right, lattice_in}

module _ {K V : Type 0} (F : FieldOn K) (Z : ValuationOn F) (p q : K) (U : UniformizerOn F Z p q)
    (M : ModuleOn F.ring V) where
  infixl 65 ◌⊕◌
  infixl 70 ◌•◌
  infixl 70 ◌⊗◌
  open M use {◌⊕◌, ◌•◌, neg}
  open F use {◌⊗◌}

  abbrev RM : ModuleOn (integers F Z) V
  RM = restrict F Z M

  abbrev In : K → Type 0
  In = IsIntegral F Z

  abbrev Lat : ℕ → (ℕ → V) → V → Type 0
  Lat n g = LatticeOver M (IsIntegral F Z) n g

  qp : (a : K) → q ⊗ (p ⊗ a) ≡ a
  qp a = sym (F.mul_assoc q p a) ∙ ap (λ b. b ⊗ a) (F.mul_comm q p ∙ U.pq) ∙ F.one-mul a

  pq : (a : K) → p ⊗ (q ⊗ a) ≡ a
  pq a = sym (F.mul_assoc p q a) ∙ ap (λ b. b ⊗ a) U.pq ∙ F.one-mul a

  scale_linear : (c : K) → IsLinear M M (λ x. c • x)
  scale_linear c = record {
    map-add = M.scale-add c;
    map-scale = λ a x. sym (M.mul-scale c a x) ∙ ap (λ b. b • x) (F.mul_comm c a) ∙ M.mul-scale a c x;
  }

  -- a linear map sends a lattice to that of the images
  map_lattice : (h : V → V) → IsLinear M M h → (n : ℕ) (g : ℕ → V) (x : V) → Lat n g x → Lat n (λ i. h (g i)) (h x)
  map_lattice h l n g x s = record {
    weights = s.weights;
    passes = s.passes;
    combines = ap h s.combines ∙ map-comb M M h l n s.weights g;
  }

  -- c times a lattice
  pub scaled : (c d : K) → ((x : V) → d • (c • x) ≡ x) → (n : ℕ) (g : ℕ → V) (x : V) → Lat n g (c • x)
      → Lat n (λ i. d • g i) x
  scaled c d e n g x s = let P : V → Type 0 = Lat n (λ i. d • g i) in
      subst P (e x) (map_lattice (λ y. d • y) (scale_linear d) n g (c • x) s)

  module _ (f : V → K) (f-add : (x y : V) → f (x ⊕ y) ≡ F.◌⊕◌ (f x) (f y))
      (f-scale : (c : K) (x : V) → f (c • x) ≡ c ⊗ f x) where
    -- the members of S with a multiple of p as value
    abbrev Cut : (V → Type 0) → V → Type 0
    Cut S x = S x × In (q ⊗ f x)

    cut_submodule : (n : ℕ) (g : ℕ → V) → IsSubmodule RM (Cut (Lat n g))
    cut_submodule n g = record {
      zero-in = (
        lattice-zero F Z M n g,
        subst In (sym (ap (λ a. q ⊗ a) (additive-zero M.additive F.additive f f-add) ∙ mul-zero F.ring q)) Z.zero_in,
      );
      add-in = λ x y h k. (
        lattice-add F Z M n g x y h.0 k.0,
        subst In (sym (ap (λ a. q ⊗ a) (f-add x y) ∙ F.mul-add q (f x) (f y))) (Z.add_in (q ⊗ f x) (q ⊗ f y) h.1 k.1),
      );
      scale-in = λ c x h. (
        lattice-scale F Z M n g c x h.0,
        subst In (sym (ap (λ a. q ⊗ a) (f-scale c.0 x) ∙ mul_left_comm (semiring F.cring) q c.0 (f x)))
            (Z.mul_in c.0 (q ⊗ f x) c.1 h.1),
      );
    }

    pub record CutLattice (n : ℕ) (g : ℕ → V) : Type 0 where
      pub size : ℕ
      pub vec : ℕ → V
      pub same : Same (Cut (Lat n g)) (Lat size vec)

    module _ (n : ℕ) (g : ℕ → V) (int : (j : ℕ) → j < n → In (f (g j))) where
      cut_all : ((j : ℕ) → j < n → In (q ⊗ f (g j))) → CutLattice n g
      cut_all h = record {
        size = n;
        vec = g;
        same = (
          λ x c. c.0,
          lattice_in F Z M (Cut (Lat n g)) (cut_submodule n g) n g (λ j l. (lattice-member F Z M n j g l, h j l)),
        );
      }

      -- the value at g i is a unit
      module _ (i : ℕ) (l : i < n) (u : IsUnit F Z (f (g i))) where
        abbrev d : K
        d = F.inv (f (g i))

        -- x less the multiple of g i that has its value
        abbrev rest : V → V
        rest x = x ⊕ neg ((f x ⊗ d) • g i)

        rest_linear : IsLinear M M rest
        rest_linear = record {
          map-add = λ x y.
              ap (λ z. (x ⊕ y) ⊕ z) (ap neg (ap (λ a. (a ⊗ d) • g i) (f-add x y)
              ∙ ap (λ a. a • g i) (F.add-mul (f x) (f y) d)
              ∙ M.add-scale (f x ⊗ d) (f y ⊗ d) (g i)) ∙ neg_add M.additive ((f x ⊗ d) • g i) ((f y ⊗ d) • g i))
              ∙ add_add_add_comm M.monoid x y (neg ((f x ⊗ d) • g i)) (neg ((f y ⊗ d) • g i));
          map-scale = λ c x.
              ap (λ z. c • x ⊕ z) (ap neg (ap (λ a. (a ⊗ d) • g i) (f-scale c x)
              ∙ ap (λ a. a • g i) (F.mul_assoc c (f x) d)
              ∙ M.mul-scale c (f x ⊗ d) (g i)) ∙ sym (scale-neg M c ((f x ⊗ d) • g i)))
              ∙ sym (M.scale-add c x (neg ((f x ⊗ d) • g i)));
        }

        rest-value : (x : V) → f (rest x) ≡ F.zero
        rest-value x = f-add x (neg ((f x ⊗ d) • g i))
            ∙ ap (λ a. F.◌⊕◌ (f x) a) (additive-neg M.additive F.additive f f-add ((f x ⊗ d) • g i)
            ∙ ap F.neg (f-scale (f x ⊗ d) (g i) ∙ F.mul_assoc (f x) d (f (g i))
            ∙ ap (λ a. f x ⊗ a) (F.inv-mul (f (g i)) u.0)
            ∙ F.mul-one (f x)))
            ∙ add-neg F.additive (f x)

        abbrev corrected : ℕ → V
        corrected = join n (λ j. rest (g j)) (λ j. p • g j)

        back : (x : V) → rest x ⊕ ((q ⊗ f x) ⊗ d) • (p • g i) ≡ x
        back x =
            let y = (f x ⊗ d) • g i in
            let e : ((q ⊗ f x) ⊗ d) • (p • g i) ≡ y =
            sym (M.mul-scale ((q ⊗ f x) ⊗ d) p (g i))
            ∙ ap (λ a. a • g i) (F.mul_comm ((q ⊗ f x) ⊗ d) p ∙ ap (λ a. p ⊗ a) (F.mul_assoc q (f x) d)
            ∙ pq (f x ⊗ d)) in
            ap (λ z. rest x ⊕ z) e ∙ M.add_assoc x (neg y) y ∙ ap (λ z. x ⊕ z) (M.neg-add y) ∙ add-zero M.monoid x

        cut_unit : CutLattice n g
        cut_unit = record {
          size = n + n;
          vec = corrected;
          same = (
            λ x c.
                let P : V → Type 0 = Lat (n + n) corrected in
                subst P (back x) (lattice-add F Z M (n + n) corrected (rest x) (((q ⊗ f x) ⊗ d) • (p • g i))
                (lattice_trans F Z M n (n + n) (λ j. rest (g j)) corrected (rest x)
                (lattice-join_left F Z M n n (λ j. rest (g j)) (λ j. p • g j)) (map_lattice rest rest_linear n g x c.0))
                (lattice-scale F Z M (n + n) corrected ((q ⊗ f x) ⊗ d, Z.mul_in (q ⊗ f x) d c.1 u.1) (p • g i)
                (lattice-join_right F Z M n n (λ j. rest (g j)) (λ j. p • g j) i l))),
            lattice_in F Z M (Cut (Lat n g)) (cut_submodule n g) (n + n) corrected
                (each_join n n (λ j. rest (g j)) (λ j. p • g j) (Cut (Lat n g))
                (λ j b. (
                  lattice-add F Z M n g (g j) (neg ((f (g j) ⊗ d) • g i)) (lattice-member F Z M n j g b)
                      (lattice-neg F Z M n g ((f (g j) ⊗ d) • g i)
                      (lattice-scale F Z M n g (f (g j) ⊗ d, Z.mul_in (f (g j)) d (int j b) u.1) (g i)
                      (lattice-member F Z M n i g l))),
                  subst In (sym (ap (λ a. q ⊗ a) (rest-value (g j)) ∙ mul-zero F.ring q)) Z.zero_in,
                ))
                (λ j b. (
                  lattice-scale F Z M n g (p, U.p_in) (g j) (lattice-member F Z M n j g b),
                  subst In (sym (ap (λ a. q ⊗ a) (f-scale p (g j)) ∙ qp (f (g j)))) (int j b),
                ))),
          );
        }

      pub cut : CutLattice n g
      cut = ⊎_elim cut_all
          (λ (s : (i : ℕ) × (i < n) × (In (q ⊗ f (g i)) → ⊥)). ⊎_elim
          (λ (h : In (q ⊗ f (g s.0))). absurd (s.2 h))
          (λ (u : IsUnit F Z (f (g s.0))). cut_unit s.0 s.1 u)
          (U.multiple_or_unit (f (g s.0)) (int s.0 s.1)))
          (all_or_not n (λ j. Z.integral (q ⊗ f (g j))))

  -- several functionals
  module _ (f : ℕ → V → K) (f-add : (t : ℕ) (x y : V) → f t (x ⊕ y) ≡ F.◌⊕◌ (f t x) (f t y))
      (f-scale : (t : ℕ) (c : K) (x : V) → f t (c • x) ≡ c ⊗ f t x) (n : ℕ) (g : ℕ → V) where
    abbrev pub Cuts : ℕ → V → Type 0
    Cuts k x = Lat n g x × ((t : ℕ) → t < k → In (q ⊗ f t x))

    pub cuts : (k : ℕ) → ((t : ℕ) → t < k → (x : V) → Lat n g x → In (f t x))
        → (s : ℕ) × (w : ℕ → V) × Same (Cuts k) (Lat s w)
    cuts zero int = (n, g, (λ x h. h.0, λ x s. (s, λ t l. absurd (omega arith))))
    cuts (suc k) int =
        let r = cuts k (λ t l. int t (omega arith)) in
        let c = cut (f k) (f-add k) (f-scale k) r.0 r.1
        (λ j l. int k (omega arith) (r.1 j) (r.2.1 (r.1 j) (lattice-member F Z M r.0 j r.1 l)).0) in (
          c.size,
          c.vec,
          (
            λ x h. c.same.0 x (r.2.0 x (h.0, λ t l. h.1 t (omega arith)), h.1 k (omega arith)),
            λ x s. let a = c.same.1 x s in let b = r.2.1 x a.0 in (b.0, below_suc k (λ t. In (q ⊗ f t x)) b.1 a.1),
          ),
        )

-- the left order
module _ {K V : Type 0} (F : FieldOn K) (Z : ValuationOn F) (p q : K) (U : UniformizerOn F Z p q)
    (A : AlgebraOn F.ring V)
    (n : ℕ) (B : Basis (module_of A) n) (v : ℕ → V) (D : IsOrderAt F Z A n v) (m : ℕ) (w : ℕ → V)
    (I : IsIdeal A (Lattice F Z A n v) (Lattice F Z A m w))
    (over : Within (Multiple A p (Lattice F Z A n v)) (Lattice F Z A m w)) where
  infixl 70 ◌⊗◌
  infixl 70 ◌•◌
  open A use {◌⊗◌, ◌•◌}

  abbrev MA : ModuleOn F.ring V
  MA = module_of A

  abbrev RA : ModuleOn (integers F Z) V
  RA = restrict F Z MA

  abbrev C : Coords MA n
  C = coords_of MA n B

  abbrev L : V → Type 0
  L = Lattice F Z A n v

  abbrev J : V → Type 0
  J = Lattice F Z A m w

  abbrev JB : LatticeBasis F Z MA m w
  JB = lattice_basis F Z MA n C m w

  abbrev r : ℕ
  r = JB.rank

  abbrev b : ℕ → V
  b = JB.vec

  J_basis : Same J (Lattice F Z A r b)
  J_basis = (λ x. lattice_trans F Z MA m r w b x JB.spans, λ x. lattice_trans F Z MA r m b w x JB.within)

  -- what holds L spans everything over the field
  spans_all : (k : ℕ) (g : ℕ → V) → ((i : ℕ) → i < n → InSpan MA k g (v i)) → (x : V) → InSpan MA k g x
  spans_all k g h x = InSpan_trans MA n k v g x h (spanning F A n B v D.independent x)

  cancel : (x : V) → q • (p • x) ≡ x
  cancel x = sym (A.mul-scale q p x) ∙ ap (λ a. a • x) (F.mul_comm q p ∙ U.pq) ∙ A.one-scale x

  uncancel : (x : V) → p • (q • x) ≡ x
  uncancel x = sym (A.mul-scale p q x) ∙ ap (λ a. a • x) U.pq ∙ A.one-scale x

  basis_all : (x : V) → InSpan MA r b x
  basis_all = spans_all r b (λ i l.
      let s = lattice_span F Z MA r b (p • v i) (J_basis.0 (p • v i)
      (over (p • v i) (v i, lattice-member F Z MA n i v l, refl))) in
      let P : V → Type 0 = InSpan MA r b in
      subst P (cancel (v i)) (InSpan-scale MA r b q (p • v i) s))

  abbrev E : Basis MA r
  E = basis_of MA r b JB.independent basis_all

  -- coordinate k of the product with b j, where t is j·r + k
  abbrev f : ℕ → V → K
  f t x = E.coord (x ⊗ b (t / r)) (t % r)

  f-add : (t : ℕ) (x y : V) → f t (A.◌⊕◌ x y) ≡ F.◌⊕◌ (f t x) (f t y)
  f-add t x y = ap (λ z. E.coord z (t % r)) (A.add-mul x y (b (t / r)))
      ∙ E.coord-add (x ⊗ b (t / r)) (y ⊗ b (t / r)) (t % r)

  f-scale : (t : ℕ) (c : K) (x : V) → f t (c • x) ≡ F.◌⊗◌ c (f t x)
  f-scale t c x = ap (λ z. E.coord z (t % r)) (A.scale-left c x (b (t / r))) ∙ E.coord-scale c (x ⊗ b (t / r)) (t % r)

  -- members of the ideal have integral coordinates, and no others
  J_coord : (x : V) → J x → (k : ℕ) → k < r → IsIntegral F Z (E.coord x k)
  J_coord x h = integral_weights F Z MA r b JB.independent x (J_basis.0 x h) (E.coord x) (E.expand x)

  coord_J : (x : V) → ((k : ℕ) → k < r → IsIntegral F Z (E.coord x k)) → J x
  coord_J x h = J_basis.1 x (record { weights = E.coord x; passes = h; combines = E.expand x })

  b_in : (j : ℕ) → j < r → J (b j)
  b_in j l = J_basis.1 (b j) (lattice-member F Z MA r j b l)

  abbrev cut_out : (s : ℕ) × (g : ℕ → V) × Same (Cuts F Z p q U MA f f-add f-scale n v (r * r)) (Lattice F Z A s g)
  cut_out = cuts F Z p q U MA f f-add f-scale n v (r * r) (λ t l x h.
      J_coord (x ⊗ b (t / r)) (I.left x (b (t / r)) h (b_in (t / r) (row-lt r r t l))) (t % r) (column-lt r r t l))

  abbrev Left : V → Type 0
  Left = LeftOrder A J

  abbrev Kept : V → Type 0
  Kept = Cuts F Z p q U MA f f-add f-scale n v (r * r)

  -- a sends the ideal into itself just where p times a is in L and has multiples of p as coordinates of the products
  to_kept : (a : V) → Left a → Kept (p • a)
  to_kept a h = (
    left_order_bounded A L D.order J I p over a h,
    λ t l. subst (IsIntegral F Z) (sym (ap (F.◌⊗◌ q) (f-scale t p a) ∙ qp F Z p q U MA (f t a)))
        (J_coord (a ⊗ b (t / r)) (h (b (t / r)) (b_in (t / r) (row-lt r r t l))) (t % r) (column-lt r r t l)),
  )

  of_kept : (a : V) → Kept (p • a) → Left a
  of_kept a h x s = mul_lattice F Z A n C n v r b a x m w (λ j l. coord_J (a ⊗ b j) (λ k g.
      let t = j * r + k in
      let e : f t a ≡ E.coord (a ⊗ b j) k =
      ap₂ (λ y z. E.coord (a ⊗ b y) z) (div-mul-add j r k g) (mod-mul-add j r k g) in
      subst (IsIntegral F Z) (ap (F.◌⊗◌ q) (f-scale t p a) ∙ qp F Z p q U MA (f t a) ∙ e)
      (h.1 t (pair-lt r r j k l g))))
      (J_basis.0 x s)

  abbrev size : ℕ
  size = cut_out.0

  abbrev vec : ℕ → V
  vec i = q • cut_out.1 i

  left_spanned : Same Left (Lattice F Z A size vec)
  left_spanned = (
    λ a h. scaled F Z p q U MA p q cancel size cut_out.1 a (cut_out.2.0 (p • a) (to_kept a h)),
    λ a s. of_kept a (cut_out.2.1 (p • a) (let P : V → Type 0 = Lattice F Z A size cut_out.1 in
        let g : ℕ → V = λ i. p • vec i in
        lattice_trans F Z MA size size g cut_out.1 (p • a) (λ i l. subst P (sym (uncancel (cut_out.1 i)))
        (lattice-member F Z MA size i cut_out.1 l))
        (map_lattice F Z p q U MA (λ x. p • x) (scale_linear F Z p q U MA p) size vec a s))),
  )

  abbrev LB : LatticeBasis F Z MA size vec
  LB = lattice_basis F Z MA n C size vec

  basis_same : Same (Lattice F Z A size vec) (Lattice F Z A LB.rank LB.vec)
  basis_same = (
    λ x. lattice_trans F Z MA size LB.rank vec LB.vec x LB.spans,
    λ x.
        lattice_trans F Z MA LB.rank size LB.vec vec x LB.within,
  )

  rank-is : LB.rank ≡ n
  rank-is = dimension_unique F MA LB.rank n (basis_of MA LB.rank LB.vec LB.independent (spans_all LB.rank LB.vec (λ i l.
      lattice_span F Z MA LB.rank LB.vec (v i) (basis_same.0 (v i) (left_spanned.0 (v i)
      (in_left_order A L D.order J I (v i) (lattice-member F Z MA n i v l))))))) B

  -- independent vectors, as many as the dimension, span the left order
  pub left_order_over : (u : ℕ → V) × IsOrderAt F Z A n u × Same Left (Lattice F Z A n u)
  left_order_over =
      let to : Same Left (Lattice F Z A LB.rank LB.vec) = (
        λ a h. basis_same.0 a (left_spanned.0 a h),
        λ a h. left_spanned.1 a (basis_same.1 a h),
      ) in
      let same : Same Left (Lattice F Z A n LB.vec) = subst (λ k. Same Left (Lattice F Z A k LB.vec)) rank-is to in (
        LB.vec,
        record {
          independent = subst (λ k. Independent MA k LB.vec) rank-is LB.independent;
          order = order_same F A Left (Lattice F Z A n LB.vec) same (left_order_is_order A L D.order J I);
        },
        same,
      )
