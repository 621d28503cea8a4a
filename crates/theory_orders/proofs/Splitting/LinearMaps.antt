-- An order with a simple quotient by its radical, whose left order it is and which is more than p times it, is in no
-- algebra of all linear maps of a space.
use Rattle.std.specs.Prelude.{◌≡◌, ℕ, zero, suc, ◌<◌, IsTrue}
use Rattle.std.proofs.Common.{refl, sym, ◌∙◌, ap, subst, arith, ⊎_elim}
use Rattle.theory_rings.specs.Ring.{FieldOn}
use Rattle.theory_rings.specs.Sum.{sum}
use Rattle.theory_rings.proofs.Rings.RingLaws.{zero-mul, additive-neg}
use Rattle.theory_rings.proofs.Rings.Semirings.{semiring, mul_left_comm}
use Rattle.theory_rings.proofs.Sums.Sums.{sum_congr, map-sum}
use Rattle.theory_spaces.specs.Module.{ModuleOn, AlgebraOn, module_of}
use Rattle.theory_spaces.specs.Linear.{comb, InSpan, Independent, Coords}
use Rattle.theory_spaces.specs.Valuation.{ValuationOn, integers, restrict, LatticeBasis}
use Rattle.theory_spaces.proofs.Linear.Modules.{zero-scale, InSpan_trans}
use Rattle.theory_spaces.proofs.Linear.Spaces.{coord_in, coord_in-of, coord_in-expand, basis_of}
use Rattle.theory_spaces.proofs.Linear.Lattices.{lattice_basis}
use Rattle.theory_orders.specs.Uniformizer.{UniformizerOn}
use Rattle.theory_orders.specs.Orders.{IsOrder, IsIdeal, Multiple, Within}
use Rattle.theory_orders.proofs.Lattices.SumsOf.{sum_in}
use Rattle.theory_orders.specs.Lattices.{Lattice}
use Rattle.theory_orders.proofs.Lattices.Multiples.{uniform, up, up-right}
use Rattle.theory_orders.proofs.Lattices.Scaling.{Low_more, Low_sum, lowered}
use Rattle.theory_orders.proofs.LeftOrder.HereditaryOrders.{Hereditary, maximal}
use Rattle.theory_spaces.specs.Valuation.{IsIntegral}
use Rattle.theory_spaces.specs.Lattice.{LatticeOver}
use Rattle.theory_spaces.proofs.Linear.LatticeSpans.{lattice_span, lattice-add, lattice-scale, lattice-neg}
use Rattle.theory_spaces.proofs.Linear.LatticeSpans.{lattice-member, lattice_trans}

-- the elements of A are the linear maps of a space
pub record ActionOn {K V W : Type 0} (F : FieldOn K) (A : AlgebraOn F.ring V) (M : ModuleOn F.ring W) : Type 0 where
  pub act : V → W → W
  pub act-add : (a b : V) (x : W) → act (A.◌⊕◌ a b) x ≡ M.◌⊕◌ (act a x) (act b x)
  pub act-scale : (c : K) (a : V) (x : W) → act (A.◌•◌ c a) x ≡ M.◌•◌ c (act a x)
  pub act-mul : (a b : V) (x : W) → act (A.◌⊗◌ a b) x ≡ act a (act b x)
  pub act-one : (x : W) → act A.one x ≡ x
  pub on-add : (a : V) (x y : W) → act a (M.◌⊕◌ x y) ≡ M.◌⊕◌ (act a x) (act a y)
  pub on-scale : (a : V) (c : K) (x : W) → act a (M.◌•◌ c x) ≡ M.◌•◌ c (act a x)
  pub same : (a b : V) → ((x : W) → act a x ≡ act b x) → a ≡ b
  pub each_map : (f : W → W) → ((x y : W) → f (M.◌⊕◌ x y) ≡ M.◌⊕◌ (f x) (f y))
      → ((c : K) (x : W) → f (M.◌•◌ c x) ≡ M.◌•◌ c (f x))
      → (a : V) × ((x : W) → act a x ≡ f x)

module _ {K V W : Type 0} (F : FieldOn K) (Z : ValuationOn F) (p q : K) (U : UniformizerOn F Z p q)
    (A : AlgebraOn F.ring V) (M : ModuleOn F.ring W) (T : ActionOn F A M) (n : ℕ) (C : Coords M n)
    (e : W) (k : ℕ) (nonzero : C.coord e k ≡ F.zero → ⊥)
    (N : ℕ) (b : ℕ → V) (whole : (a : V) → InSpan (module_of A) N b a) where
  infixl 65 ◌⊕◌
  infixl 70 ◌⊗◌
  infixl 70 ◌•◌
  open A use {◌⊕◌, ◌⊗◌, ◌•◌}
  open T use {act}

  abbrev RA : ModuleOn (integers F Z) V
  RA = restrict F Z (module_of A)

  abbrev RM : ModuleOn (integers F Z) W
  RM = restrict F Z M

  abbrev pub Lam : V → Type 0
  Lam = Lattice F Z A N b

  act-zero : (x : W) → act A.zero x ≡ M.zero
  act-zero x = ap (λ a. act a x) (sym (zero-scale (module_of A) A.zero)) ∙ T.act-scale F.zero A.zero x
      ∙ zero-scale M (act A.zero x)

  on-zero : (a : V) → act a M.zero ≡ M.zero
  on-zero a = ap (act a) (sym (zero-scale M M.zero)) ∙ T.on-scale a F.zero M.zero ∙ zero-scale M (act a M.zero)

  act-sum : (m : ℕ) (f : ℕ → V) (x : W) → act (sum A.monoid m f) x ≡ sum M.monoid m (λ i. act (f i) x)
  act-sum m f x = map-sum A.monoid M.monoid (λ a. act a x) (act-zero x) (λ a b. T.act-add a b x) m f

  act-comb : (m : ℕ) (c : ℕ → K) (f : ℕ → V) (x : W) → act (comb (module_of A) m c f) x ≡ comb M m c (λ i. act (f i) x)
  act-comb m c f x = act-sum m (λ i. c i • f i) x
      ∙ sum_congr M.monoid m (λ i. act (c i • f i) x) (λ i. M.◌•◌ (c i) (act (f i) x))
      (λ i l. T.act-scale (c i) (f i) x)

  on-comb : (m : ℕ) (c : ℕ → K) (f : ℕ → W) (a : V) → act a (comb M m c f) ≡ comb M m c (λ i. act a (f i))
  on-comb m c f a = map-sum M.monoid M.monoid (act a) (on-zero a) (T.on-add a) m (λ i. M.◌•◌ (c i) (f i))
      ∙ sum_congr M.monoid m (λ i. act a (M.◌•◌ (c i) (f i))) (λ i. M.◌•◌ (c i) (act a (f i)))
      (λ i l. T.on-scale a (c i) (f i))

  -- each vector is reached from e
  reached : (x : W) → (a : V) × (act a e ≡ x)
  reached x =
      let d = F.inv (C.coord e k) in
      let h = T.each_map (λ y. M.◌•◌ (F.◌⊗◌ (C.coord y k) d) x)
      (λ y z. ap (λ a. M.◌•◌ (F.◌⊗◌ a d) x) (C.coord-add y z k)
      ∙ ap (λ a. M.◌•◌ a x) (F.add-mul (C.coord y k) (C.coord z k) d)
      ∙ M.add-scale (F.◌⊗◌ (C.coord y k) d) (F.◌⊗◌ (C.coord z k) d) x)
      (λ c y. ap (λ a. M.◌•◌ (F.◌⊗◌ a d) x) (C.coord-scale c y k) ∙ ap (λ a. M.◌•◌ a x) (F.mul_assoc c (C.coord y k) d)
      ∙ M.mul-scale c (F.◌⊗◌ (C.coord y k) d) x) in
      (h.0, h.1 e ∙ ap (λ a. M.◌•◌ a x) (F.mul_comm (C.coord e k) d ∙ F.inv-mul (C.coord e k) nonzero) ∙ M.one-scale x)

  abbrev gens : ℕ → W
  gens i = act (b i) e

  basis : LatticeBasis F Z M N gens
  basis = lattice_basis F Z M n C N gens

  r : ℕ
  r = basis.rank

  w : ℕ → W
  w = basis.vec

  ind : Independent M r w
  unfolding r w
  ind = basis.independent

  gens-span : (i : ℕ) → i < N → LatticeOver M (IsIntegral F Z) r w (gens i)
  unfolding r w
  gens-span i l = basis.spans i l

  w-span : (j : ℕ) → j < r → LatticeOver M (IsIntegral F Z) N gens (w j)
  unfolding r w
  w-span j l = basis.within j l

  span : (x : W) → InSpan M r w x
  span x =
      let a = reached x in
      let s = whole a.0 in
      InSpan_trans M N r gens w x (λ i l. lattice_span F Z M r w (gens i) (gens-span i l))
      (record { weights = s.weights; combines = sym a.1 ∙ ap (λ y. act y e) s.combines ∙ act-comb N s.weights b e })

  -- the lattice of the order in the space
  abbrev InL : W → Type 0
  InL x = LatticeOver M (IsIntegral F Z) r w x

  L-of : (y : V) → Lam y → InL (act y e)
  L-of y s = lattice_trans F Z M N r gens w (act y e) gens-span
      (record {
        weights = s.weights;
        passes = s.passes;
        combines = ap (λ z. act z e) s.combines ∙ act-comb N s.weights b e;
      })

  L-from : (x : W) → InL x → (y : V) × Lam y × (x ≡ act y e)
  L-from x s =
      let t = lattice_trans F Z M r N w gens x w-span s in (
        comb (module_of A) N t.weights b,
        record { weights = t.weights; passes = t.passes; combines = refl },
        t.combines
            ∙ sym (act-comb N t.weights b e),
      )

  c : W → ℕ → K
  c = coord_in M r w ind span

  c-expand : (x : W) → x ≡ comb M r (c x) w
  unfolding c
  c-expand x = coord_in-expand M r w ind span x

  c-add : (x y : W) (i : ℕ) → c (M.◌⊕◌ x y) i ≡ F.◌⊕◌ (c x i) (c y i)
  unfolding c
  c-add x y i = (basis_of M r w ind span).coord-add x y i

  c-scale : (a : K) (x : W) (i : ℕ) → c (M.◌•◌ a x) i ≡ F.◌⊗◌ a (c x i)
  unfolding c
  c-scale a x i = (basis_of M r w ind span).coord-scale a x i

  c-zero : (i : ℕ) → c M.zero i ≡ F.zero
  c-zero i = ap (λ x. c x i) (sym (zero-scale M M.zero)) ∙ c-scale F.zero M.zero i ∙ zero-mul F.ring (c M.zero i)

  L-coord : (x : W) → InL x → (i : ℕ) → i < r → IsTrue (Z.integral (c x i))
  unfolding c
  L-coord x s i l = subst (λ a. IsTrue (Z.integral a))
      (sym (coord_in-of M r w ind span x s.weights s.combines i l)) (s.passes i l)

  coord-L : (x : W) → ((i : ℕ) → i < r → IsTrue (Z.integral (c x i))) → InL x
  unfolding c
  coord-L x h = record { weights = c x; passes = h; combines = coord_in-expand M r w ind span x }

  L-comb : (m : ℕ) (d : ℕ → K) (f : ℕ → W) → ((i : ℕ) → i < m → IsTrue (Z.integral (d i)))
      → ((i : ℕ) → i < m → InL (f i)) → InL (comb M m d f)
  L-comb m d f h g = sum_M m (λ i. M.◌•◌ (d i) (f i)) (λ i l. lattice-scale F Z M r w (d i, h i l) (f i) (g i l))
    where
      sum_M : (m : ℕ) (f : ℕ → W) → ((i : ℕ) → i < m → InL (f i)) → InL (sum M.monoid m f)
      sum_M zero f h = coord-L M.zero (λ i l. subst (λ a. IsTrue (Z.integral a)) (sym (c-zero i)) Z.zero_in)
      sum_M (suc m) f h = lattice-add F Z M r w (sum M.monoid m f) (f m) (sum_M m f (λ i l. h i (omega arith)))
          (h m (omega arith))

  -- the elements that keep the lattice
  abbrev Gam : V → Type 0
  Gam a = (x : W) → InL x → InL (act a x)

  w-in : (j : ℕ) → j < r → InL (w j)
  w-in j l = lattice-member F Z M r j w l

  -- an element keeps the lattice where it keeps its basis
  keeps : (a : V) → ((j : ℕ) → j < r → InL (act a (w j))) → Gam a
  keeps a h x s = subst InL (sym (ap (act a) (c-expand x) ∙ on-comb r (c x) w a))
      (L-comb r (c x) (λ j. act a (w j)) (L-coord x s) h)

  -- the map that sends each vector to its coordinate at j times v
  rank_one_map : (v : W) (j : ℕ) → (a : V) × ((x : W) → act a x ≡ M.◌•◌ (c x j) v)
  rank_one_map v j = T.each_map (λ x. M.◌•◌ (c x j) v)
      (λ x y. ap (λ a. M.◌•◌ a v) (c-add x y j) ∙ M.add-scale (c x j) (c y j) v)
      (λ a x. ap (λ d. M.◌•◌ d v) (c-scale a x j) ∙ M.mul-scale a (c x j) v)

  rank_one : W → ℕ → V
  rank_one v j = (rank_one_map v j).0

  rank_one-act : (v : W) (j : ℕ) (x : W) → act (rank_one v j) x ≡ M.◌•◌ (c x j) v
  unfolding rank_one
  rank_one-act v j x = (rank_one_map v j).1 x

  -- the image of each coordinate vector
  columns : (a : V) → a ≡ sum A.monoid r (λ j. rank_one (act a (w j)) j)
  columns a = T.same a (sum A.monoid r (λ j. rank_one (act a (w j)) j)) (λ x.
      ap (act a) (c-expand x) ∙ on-comb r (c x) w a
      ∙ sum_congr M.monoid r (λ j. M.◌•◌ (c x j) (act a (w j))) (λ j. act (rank_one (act a (w j)) j) x)
      (λ j l. sym (rank_one-act (act a (w j)) j x))
      ∙ sym (act-sum r (λ j. rank_one (act a (w j)) j) x))

  module _ (J : V → Type 0) (H : Hereditary A p Lam J) where
    abbrev O : IsOrder A Lam
    O = H.order

    abbrev I : IsIdeal A Lam J
    I = H.ideal

    Lam-Gam : Within Lam Gam
    Lam-Gam a h x s =
        let y = L-from x s in
        subst InL (T.act-mul a y.0 e ∙ ap (act a) (sym y.2)) (L-of (a ⊗ y.0) (O.mul_in a y.0 h y.1))

    Gam-order : IsOrder A Gam
    Gam-order = record {
      one_in = λ x s. subst InL (sym (T.act-one x)) s;
      zero_in = Lam-Gam A.zero O.zero_in;
      add_in = λ a d h g x s. subst InL (sym (T.act-add a d x))
          (lattice-add F Z M r w (act a x) (act d x) (h x s) (g x s));
      neg_in = λ a h x s. subst InL
          (sym (additive-neg A.additive M.additive (λ y. act y x) (λ y z. T.act-add y z x) a))
          (lattice-neg F Z M r w (act a x) (h x s));
      mul_in = λ a d h g x s. subst InL (sym (T.act-mul a d x)) (h (act d x) (g x s));
    }

    abbrev Low : ℕ → V → Type 0
    Low s x = Lam (up A p s x)

    bound : (s : ℕ) × ((j : ℕ) → j < r → Low s (rank_one e j))
    bound = uniform (λ s j. Low s (rank_one e j)) (λ s t j. Low_more F Z p q U A N b s t (rank_one e j)) r
        (λ j l. lowered F Z p q U A N b whole (rank_one e j))

    Gam-bounded : (a : V) → Gam a → Low bound.0 a
    Gam-bounded a h = subst (Low bound.0) (sym (columns a))
        (Low_sum F Z p q U A N b bound.0 r (λ j. rank_one (act a (w j)) j) (λ j l.
        let y = L-from (act a (w j)) (h (w j) (w-in j l)) in
        let same : y.0 ⊗ rank_one e j ≡ rank_one (act a (w j)) j =
        T.same (y.0 ⊗ rank_one e j) (rank_one (act a (w j)) j) (λ x.
        T.act-mul y.0 (rank_one e j) x ∙ ap (act y.0) (rank_one-act e j x) ∙ T.on-scale y.0 (c x j) e
        ∙ ap (λ v. M.◌•◌ (c x j) v) (sym y.2)
        ∙ sym (rank_one-act (act a (w j)) j x)) in
        subst (Low bound.0) same
        (subst Lam (up-right A p bound.0 y.0 (rank_one e j))
        (O.mul_in y.0 (up A p bound.0 (rank_one e j)) y.1 (bound.1 j l)))))

    rank_one-Gam : (v : W) (j : ℕ) → j < r → InL v → Gam (rank_one v j)
    rank_one-Gam v j l h x s = subst InL (sym (rank_one-act v j x))
        (lattice-scale F Z M r w (c x j, L-coord x s j l) v h)

    -- where the order is all that keeps the lattice, J is p times it
    module _ (maximal : Within Gam Lam) (not_multiples : Within J (Multiple A p Lam) → ⊥) where
      -- no entry of a member of J is a unit
      module _ (x : V) (hx : J x) (i j : ℕ) (li : i < r) (lj : j < r) where
        entry : K
        entry = c (act x (w j)) i

        no_unit : (entry ≡ F.zero → ⊥) → IsTrue (Z.integral (F.inv entry)) → ⊥
        unfolding entry
        no_unit d h =
            let f : ℕ → V = λ k. rank_one (w k) i ⊗ (x ⊗ (F.inv entry • rank_one (w j) k)) in
            let each : (k : ℕ) → k < r → J (f k) = λ k l.
            I.left (rank_one (w k) i) (x ⊗ (F.inv entry • rank_one (w j) k))
            (maximal (rank_one (w k) i) (rank_one-Gam (w k) i li (w-in k l)))
            (I.right (F.inv entry • rank_one (w j) k) x
            (lattice-scale F Z (module_of A) N b (F.inv entry, h) (rank_one (w j) k)
            (maximal (rank_one (w j) k) (rank_one-Gam (w j) k l (w-in j lj)))) hx) in
            let value : (k : ℕ) (y : W) → act (f k) y ≡ M.◌•◌ (c y k) (w k) = λ k y.
            let v = act x (w j) in
            T.act-mul (rank_one (w k) i) (x ⊗ (F.inv entry • rank_one (w j) k)) y
            ∙ rank_one-act (w k) i (act (x ⊗ (F.inv entry • rank_one (w j) k)) y)
            ∙ ap (λ z. M.◌•◌ (c z i) (w k)) (T.act-mul x (F.inv entry • rank_one (w j) k) y
            ∙ ap (act x) (T.act-scale (F.inv entry) (rank_one (w j) k) y
            ∙ ap (λ z. M.◌•◌ (F.inv entry) z) (rank_one-act (w j) k y))
            ∙ T.on-scale x (F.inv entry) (M.◌•◌ (c y k) (w j))
            ∙ ap (λ z. M.◌•◌ (F.inv entry) z) (T.on-scale x (c y k) (w j)))
            ∙ ap (λ a. M.◌•◌ a (w k))
            (c-scale (F.inv entry) (M.◌•◌ (c y k) v) i ∙ ap (λ a. F.◌⊗◌ (F.inv entry) a) (c-scale (c y k) v i)
            ∙ mul_left_comm (semiring F.cring) (F.inv entry) (c y k) entry
            ∙ ap (λ a. F.◌⊗◌ (c y k) a) (F.inv-mul entry d) ∙ F.mul-one (c y k)) in
            H.simple.proper (subst J (sym (T.same A.one (sum A.monoid r f) (λ y.
            T.act-one y ∙ c-expand y
            ∙ sum_congr M.monoid r (λ k. M.◌•◌ (c y k) (w k)) (λ k. act (f k) y) (λ k l. sym (value k y))
            ∙ sym (act-sum r f y))))
            (sum_in A J I.zero_in I.add_in r f each))

        entry-multiple : IsTrue (Z.integral (F.◌⊗◌ q entry))
        unfolding entry
        entry-multiple = ⊎_elim (λ h. h)
            (λ (h : (entry ≡ F.zero → ⊥) × IsTrue (Z.integral (F.inv entry))). absurd (no_unit h.0 h.1))
            (U.multiple_or_unit entry (L-coord (act x (w j)) (Lam-Gam x (I.inside x hx) (w j) (w-in j lj)) i li))

        entry-scale : c (act (q • x) (w j)) i ≡ F.◌⊗◌ q entry
        unfolding entry
        entry-scale = ap (λ z. c z i) (T.act-scale q x (w j)) ∙ c-scale q (act x (w j)) i

      J-multiple : Within J (Multiple A p Lam)
      J-multiple x hx = (
        q • x,
        maximal (q • x) (keeps (q • x) (λ j lj. coord-L (act (q • x) (w j)) (λ i li.
            subst (λ a. IsTrue (Z.integral a)) (sym (entry-scale x hx i j li lj)) (entry-multiple x hx i j li lj)))),
        sym (sym (A.mul-scale p q x) ∙ ap (λ a. a • x) U.pq ∙ A.one-scale x),
      )

      all_split : ⊥
      all_split = not_multiples J-multiple

    pub not_split : (Within J (Multiple A p Lam) → ⊥) → ⊥
    not_split d = maximal A p q U.pq (F.mul_comm q p ∙ U.pq) Lam J H Gam Gam-order Lam-Gam bound.0 Gam-bounded
        (λ m. all_split m d)
