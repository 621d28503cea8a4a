-- An element on which linear functionals are nearly 0 is near to one on which they are 0, with one loss for all; so an
-- element that nearly commutes with a basis is near to a scalar, where the centre is the scalars.
use Rattle.std.specs.Prelude.{◌≡◌, ℕ, zero, suc, ◌+◌, ◌*◌, ◌/◌, ◌%◌, ◌<◌}
use Rattle.std.proofs.Common.{refl, sym, ◌∙◌, ap, ap₂, subst, arith, ⊎_elim}
use Rattle.std.proofs.lemmas.Nat.{div-mul-add, mod-mul-add}
use Rattle.theory_rings.specs.Ring.{FieldOn}
use Rattle.theory_rings.specs.Power.{power}
use Rattle.theory_rings.proofs.Rings.RingLaws.{add_add_add_comm, add-neg, neg_add, neg_neg, additive-zero, additive-neg}
use Rattle.theory_rings.proofs.Rings.RingLaws.{mul-zero, mul-neg}
use Rattle.theory_rings.proofs.Rings.Semirings.{semiring, mul_left_comm}
use Rattle.theory_rings.proofs.Rings.Solver.{◌⊞◌, minus, ring2}
use Rattle.theory_rings.proofs.Rings.ZeroTests.{eq_zero_or, eq_of_sub_eq_zero}
use Rattle.theory_rings.proofs.Powers.Powers.{power-add, power-mul, power-one}
use Rattle.theory_spaces.specs.Module.{ModuleOn, AlgebraOn, module_of}
use Rattle.theory_spaces.specs.Linear.{InSpan, Independent, Basis, IsSubmodule}
use Rattle.theory_spaces.specs.Algebra.{Central}
use Rattle.theory_spaces.specs.Valuation.{ValuationOn}
use Rattle.theory_spaces.proofs.Linear.Families.{below_suc}
use Rattle.theory_spaces.proofs.Linear.Modules.{scale-zero, scale-neg, neg_one-scale, comb_zero, left_linear}
use Rattle.theory_spaces.proofs.Linear.Modules.{right_linear, linear_ext}
use Rattle.theory_spaces.proofs.Linear.Spaces.{basis_of}
use Rattle.theory_spaces.proofs.Matrices.PairIndex.{pair-lt, row-lt, column-lt}
use Rattle.theory_orders.specs.Uniformizer.{IsIntegral, UniformizerOn}
use Rattle.theory_orders.specs.Orders.{IsOrder}
use Rattle.theory_orders.specs.Lattices.{Lattice}
use Rattle.theory_orders.proofs.Lattices.Multiples.{uniform, up, up-power}
use Rattle.theory_spaces.proofs.Linear.LatticeTests.{integral_weights}
use Rattle.theory_orders.proofs.Lattices.Scaling.{Lam_scale, lowered}
use Rattle.theory_spaces.proofs.Linear.LatticeSpans.{lattice_in}

module _ {K V : Type 0} (F : FieldOn K) (Z : ValuationOn F) (p q : K) (U : UniformizerOn F Z p q)
    (A : AlgebraOn F.ring V) (N : ℕ) (os : ℕ → V) (O : IsOrder A (Lattice F Z A N os)) where
  infixl 65 ◌⊕◌
  infixl 70 ◌⊗◌
  infixl 70 ◌•◌
  open A use {◌⊕◌, ◌⊗◌, ◌•◌, neg}

  abbrev M : ModuleOn F.ring V
  M = module_of A

  abbrev L : V → Type 0
  L = Lattice F Z A N os

  abbrev In : K → Type 0
  In = IsIntegral F Z

  abbrev pw : K → ℕ → K
  pw = power F.ring

  pq_power : (k : ℕ) → F.◌⊗◌ (pw p k) (pw q k) ≡ F.one
  pq_power k = sym (power-mul F.ring p q (F.mul_comm p q) k) ∙ ap (λ x. pw x k) U.pq ∙ power-one F.ring k

  lower : (k s : ℕ) → F.◌⊗◌ (pw p k) (pw q (k + s)) ≡ pw q s
  lower k s = ap (F.◌⊗◌ (pw p k)) (power-add F.ring q k s) ∙ sym (F.mul_assoc (pw p k) (pw q k) (pw q s))
      ∙ ap (λ x. F.◌⊗◌ x (pw q s)) (pq_power k) ∙ F.one-mul (pw q s)

  p_power_in : (k : ℕ) → In (pw p k)
  p_power_in zero = Z.one_in
  p_power_in (suc k) = Z.mul_in p (pw p k) U.p_in (p_power_in k)

  -- x is p to the s times a member of the order
  pub Near : ℕ → V → Type 0
  Near s x = L (pw q s • x)

  Near_less : (k s : ℕ) (x : V) → Near (k + s) x → Near s x
  unfolding Near
  Near_less k s x h = subst L (sym (A.mul-scale (pw p k) (pw q (k + s)) x) ∙ ap (λ a. a • x) (lower k s))
      (Lam_scale F Z p q U A N os (pw p k) (pw q (k + s) • x) (p_power_in k) h)

  pub Near_add : (s : ℕ) (x y : V) → Near s x → Near s y → Near s (x ⊕ y)
  unfolding Near
  Near_add s x y h g = subst L (sym (A.scale-add (pw q s) x y)) (O.add_in (pw q s • x) (pw q s • y) h g)

  pub near_up : (s : ℕ) (x y : V) → L y → x ≡ up A p s y → Near s x
  unfolding Near
  near_up s x y l e = subst L (sym (ap (λ z. pw q s • z) (e ∙ up-power A p s y) ∙ sym (A.mul-scale (pw q s) (pw p s) y)
      ∙ ap (λ a. a • y) (F.mul_comm (pw q s) (pw p s) ∙ pq_power s) ∙ A.one-scale y)) l

  pub near_one : (x : V) → Near 1 x → L (q • x)
  unfolding Near
  near_one x h = subst L (ap (λ a. a • x) (F.mul-one q)) h

  -- c is p to the s times an integral scalar
  abbrev Div : ℕ → K → Type 0
  Div s c = In (F.◌⊗◌ (pw q s) c)

  Div_less : (k s : ℕ) (c : K) → Div (k + s) c → Div s c
  Div_less k s c h = subst In (sym (F.mul_assoc (pw p k) (pw q (k + s)) c) ∙ ap (λ a. F.◌⊗◌ a c) (lower k s))
      (Z.mul_in (pw p k) (F.◌⊗◌ (pw q (k + s)) c) (p_power_in k) h)

  pub record IsFunctional (l : V → K) : Type 0 where
    pub map-add : (x y : V) → l (x ⊕ y) ≡ F.◌⊕◌ (l x) (l y)
    pub map-scale : (a : K) (x : V) → l (a • x) ≡ F.◌⊗◌ a (l x)

  module _ (l : V → K) (h : IsFunctional l) where
    l-zero : l A.zero ≡ F.zero
    l-zero = additive-zero A.additive F.additive l h.map-add

    l-neg : (x : V) → l (neg x) ≡ F.neg (l x)
    l-neg = additive-neg A.additive F.additive l h.map-add

    -- a functional is integral on the order up to a power of p
    bounded_on : (m : ℕ) × ((y : V) → L y → In (F.◌⊗◌ (pw p m) (l y)))
    bounded_on =
        let u = uniform (λ s i. In (F.◌⊗◌ (pw p s) (l (os i))))
        (λ s t i g. subst In (sym
        (ap (λ a. F.◌⊗◌ a (l (os i))) (power-add F.ring p t s) ∙ F.mul_assoc (pw p t) (pw p s) (l (os i))))
        (Z.mul_in (pw p t) (F.◌⊗◌ (pw p s) (l (os i))) (p_power_in t) g)) N (λ i _. U.reach (l (os i))) in
        let m = u.0 in (
          m,
          λ y. lattice_in F Z M (λ y. In (F.◌⊗◌ (pw p m) (l y))) (record {
            zero-in = subst In (sym (ap (F.◌⊗◌ (pw p m)) l-zero ∙ mul-zero F.ring (pw p m))) Z.zero_in;
            add-in = λ x y a b. subst In (sym (ap (F.◌⊗◌ (pw p m)) (h.map-add x y) ∙ F.mul-add (pw p m) (l x) (l y)))
                (Z.add_in (F.◌⊗◌ (pw p m) (l x)) (F.◌⊗◌ (pw p m) (l y)) a b);
            scale-in = λ c x a. subst In
                (sym (ap (F.◌⊗◌ (pw p m)) (h.map-scale c.0 x) ∙ mul_left_comm (semiring F.cring) (pw p m) c.0 (l x)))
                (Z.mul_in c.0 (F.◌⊗◌ (pw p m) (l x)) c.1 a);
          }) N os u.1 y,
        )

  Div_sub : (s : ℕ) (a b : K) → Div s a → Div s b → Div s (F.◌⊕◌ a (F.neg b))
  Div_sub s a b h g = subst In (sym (F.mul-add (pw q s) a (F.neg b)))
      (Z.add_in (F.◌⊗◌ (pw q s) a) (F.◌⊗◌ (pw q s) (F.neg b)) h
      (subst In (sym (mul-neg F.ring (pw q s) b)) (Z.neg_in (F.◌⊗◌ (pw q s) b) g)))

  -- a functional at what is near to 0
  near_value : (l : V → K) → IsFunctional l → (m : ℕ) → ((y : V) → L y → In (F.◌⊗◌ (pw p m) (l y))) → (r : ℕ) (x : V)
      → Near (m + r) x → Div r (l x)
  unfolding Near
  near_value l h m b r x g = subst In
      (ap (F.◌⊗◌ (pw p m)) (h.map-scale (pw q (m + r)) x) ∙ sym (F.mul_assoc (pw p m) (pw q (m + r)) (l x))
      ∙ ap (λ z. F.◌⊗◌ z (l x)) (lower m r))
      (b (pw q (m + r) • x) g)

  -- a vector that p to the t brings into the order, times a scalar that is a multiple of a power of p
  near_scale : (t s : ℕ) (k : K) (v : V) → L (up A p t v) → Div (t + s) k → Near s (k • v)
  unfolding Near
  near_scale t s k v l d =
      let c = F.◌⊗◌ (pw q (t + s)) k in
      subst L
      (ap (λ z. c • z) (up-power A p t v) ∙ sym (A.mul-scale c (pw p t) v)
      ∙ ap (λ z. z • v) (F.mul_comm c (pw p t) ∙ sym (F.mul_assoc (pw p t) (pw q (t + s)) k)
      ∙ ap (λ z. F.◌⊗◌ z k) (lower t s)) ∙ A.mul-scale (pw q s) k v)
      (Lam_scale F Z p q U A N os c (up A p t v) d l)

  -- what is in D at c + s is in W up to p to the s times the order
  pub Bounded : (V → Type 0) → (ℕ → V → Type 0) → Type 0
  Bounded W D = (c : ℕ) × ((s : ℕ) (a : V) → D (c + s) a → (u : V) × W u × Near s (a ⊕ neg u))

  module _ (whole : (a : V) → InSpan M N os a) where
    module _ (W : V → Type 0) (SW : IsSubmodule M W) (D : ℕ → V → Type 0) (l : V → K) (h : IsFunctional l) where
      abbrev W' : V → Type 0
      W' u = W u × (l u ≡ F.zero)

      abbrev D' : ℕ → V → Type 0
      D' s a = D s a × Div s (l a)

      -- from a member of W near to a to one where the functional is 0
      cut_at : (c m t s : ℕ) → ((y : V) → L y → In (F.◌⊗◌ (pw p m) (l y))) → (v : V) → W v → l v ≡ F.one
          → L (up A p t v)
          → (a u : V) → W u → Near (m + (t + s)) (a ⊕ neg u) → Div (c + (m + (t + s))) (l a) → (w : V) × W' w
          × Near s (a ⊕ neg w)
      cut_at c m t s bound v hv one low a u hu near d =
          let x = a ⊕ neg u in
          let k = l u in
          let y = k • v in
          let la : Div (t + s) (l a) = Div_less m (t + s) (l a) (Div_less c (m + (t + s)) (l a) d) in
          let lx : Div (t + s) (l x) = near_value l h m bound (t + s) x near in
          let is : F.◌⊕◌ (l a) (F.neg (l x)) ≡ k =
          ap (λ z. F.◌⊕◌ (l a) (F.neg z)) (h.map-add a (neg u) ∙ ap (F.◌⊕◌ (l a)) (l-neg l h u))
          ∙ ring2 F.cring (λ a k. (a ⊞ minus (a ⊞ minus k), k)) refl (l a) k in
          let second : Near s y = near_scale t s k v low (subst (Div (t + s)) is (Div_sub (t + s) (l a) (l x) la lx)) in
          let first : Near s x = Near_less t s x (Near_less m (t + s) x near) in
          let sum : x ⊕ y ≡ a ⊕ neg (u ⊕ neg y) =
          A.add_assoc a (neg u) y
          ∙ ap (λ z. a ⊕ z) (ap (λ z. neg u ⊕ z) (sym (neg_neg A.additive y))
          ∙ sym (neg_add A.additive u (neg y))) in (
            u ⊕ neg y,
            (
              SW.add-in u (neg y) hu (subst W (neg_one-scale M y) (SW.scale-in (F.neg F.one) y (SW.scale-in k v hv))),
              h.map-add u (neg y) ∙ ap (F.◌⊕◌ k)
                  (l-neg l h y ∙ ap F.neg (h.map-scale k v ∙ ap (F.◌⊗◌ k) one ∙ F.mul-one k)) ∙ add-neg F.additive k,
            ),
            subst (Near s) sum (Near_add s x y first second),
          )

      regroup : (c m t s : ℕ) (X : ℕ → Type 0) → X (c + (m + t) + s) → X (c + (m + (t + s)))
      regroup c m t s X h = let e : c + (m + t) + s ≡ c + (m + (t + s)) = omega arith in subst X e h

      -- a functional that is not 0 on W
      cut : Bounded W D → (v : V) → W v → l v ≡ F.one → Bounded W' D'
      unfolding Bounded
      cut B v hv one =
          let b = bounded_on l h in
          let low = lowered F Z p q U A N os whole v in (
            B.0 + (b.0 + low.0),
            λ s a d.
                let r = B.1 (b.0 + (low.0 + s)) a (regroup B.0 b.0 low.0 s (λ k. D k a) d.0) in
                cut_at B.0 b.0 low.0 s b.1 v hv one low.1 a r.0 r.1 r.2
                (regroup B.0 b.0 low.0 s (λ k. Div k (l a)) d.1),
          )

      pub cut_more : Bounded W D → (Bounded W' D' → ⊥) → ⊥
      unfolding Bounded
      cut_more B stop =
          let none : (u : V) → W u → l u ≡ F.zero = λ u hu. ⊎_elim (λ e. e)
          (λ (d : l u ≡ F.zero → ⊥).
          absurd (stop (cut B (F.inv (l u) • u) (SW.scale-in (F.inv (l u)) u hu)
          (h.map-scale (F.inv (l u)) u ∙ F.inv-mul (l u) d))))
          (eq_zero_or F.zero_test (l u)) in
          stop (B.0, λ s a d. let r = B.1 s a d.0 in (r.0, (r.1, none r.0 r.1), r.2))

    module _ (l : ℕ → V → K) (h : (i : ℕ) → IsFunctional (l i)) where
      abbrev Zeros : ℕ → V → Type 0
      Zeros n u = (i : ℕ) → i < n → l i u ≡ F.zero

      abbrev Nearly : ℕ → ℕ → V → Type 0
      Nearly n s a = (i : ℕ) → i < n → Div s (l i a)

      Zeros_sub : (n : ℕ) → IsSubmodule M (Zeros n)
      Zeros_sub n = record {
        zero-in = λ i _. l-zero (l i) (h i);
        add-in = λ x y a b i g. (h i).map-add x y ∙ ap₂ F.◌⊕◌ (a i g) (b i g) ∙ F.zero-add F.zero;
        scale-in = λ c x a i g. (h i).map-scale c x ∙ ap (F.◌⊗◌ c) (a i g) ∙ mul-zero F.ring c;
      }

      pub all_bounded : (n : ℕ) → (Bounded (Zeros n) (Nearly n) → ⊥) → ⊥
      unfolding Bounded Near
      all_bounded zero stop = stop (
        zero,
        λ s a d. (
          a,
          λ i g. absurd (omega arith),
          subst L (sym (ap (λ z. pw q s • z) (add-neg A.additive a) ∙ scale-zero M (pw q s))) O.zero_in,
        ),
      )
      all_bounded (suc n) stop =
          all_bounded n (λ B. cut_more (Zeros n) (Zeros_sub n) (Nearly n) (l n) (h n) B (λ C. stop (
            C.0,
            λ s a d.
                let r = C.1 s a (λ i g. d i (omega arith), d n (omega arith)) in
                (r.0, below_suc n (λ i. l i r.0 ≡ F.zero) r.1.0 r.1.1, r.2),
          )))

    module _ (ind : Independent M N os) (ct : Central A) where
      abbrev E : Basis M N
      E = basis_of M N os ind whole

      abbrev bracket : V → V → V
      bracket a b = a ⊗ b ⊕ neg (b ⊗ a)

      abbrev ell : ℕ → V → K
      ell t a = E.coord (bracket a (os (t / N))) (t % N)

      ell_functional : (t : ℕ) → IsFunctional (ell t)
      ell_functional t =
          let b = os (t / N) in
          let j = t % N in
          record {
            map-add = λ x y. ap (λ z. E.coord z j)
                (ap₂ (λ a c. a ⊕ neg c) (A.add-mul x y b) (A.mul-add b x y)
                ∙ ap (λ z. x ⊗ b ⊕ y ⊗ b ⊕ z) (neg_add A.additive (b ⊗ x) (b ⊗ y))
                ∙ add_add_add_comm A.monoid (x ⊗ b) (y ⊗ b) (neg (b ⊗ x)) (neg (b ⊗ y)))
                ∙ E.coord-add (bracket x b) (bracket y b) j;
            map-scale = λ c x. ap (λ z. E.coord z j)
                (ap₂ (λ a d. a ⊕ neg d) (A.scale-left c x b) (A.scale-right c b x)
                ∙ ap (λ z. c • (x ⊗ b) ⊕ z) (sym (scale-neg M c (b ⊗ x)))
                ∙ sym (A.scale-add c (x ⊗ b) (neg (b ⊗ x))))
                ∙ E.coord-scale c (bracket x b) j;
          }

      commutes : (u : V) → Zeros ell ell_functional (N * N) u → (y : V) → u ⊗ y ≡ y ⊗ u
      commutes u h y = linear_ext M M (λ y. u ⊗ y) (λ y. y ⊗ u) (left_linear A u) (right_linear A u) N os (λ i g.
          eq_of_sub_eq_zero A.additive (u ⊗ os i) (os i ⊗ u)
          (E.expand (bracket u (os i)) ∙ comb_zero M N (E.coord (bracket u (os i))) os (λ j k.
          ap₂ (λ a b. E.coord (bracket u (os a)) b) (sym (div-mul-add i N j k)) (sym (mod-mul-add i N j k))
          ∙ h (i * N + j) (pair-lt N N i j g k)))) y (whole y)

      -- the coordinates of what is p to the s times a member of the order
      near_coord : (s : ℕ) (x : V) → Near s x → (j : ℕ) → j < N → Div s (E.coord x j)
      unfolding Near
      near_coord s x h j l =
          let y = pw q s • x in
          subst In (E.coord-scale (pw q s) x j) (integral_weights F Z M N os ind y h (E.coord y) (E.expand y) j l)

      nearly_zero : (c : ℕ) (a : V) → ((i : ℕ) → i < N → Near (suc c) (bracket a (os i)))
          → Nearly ell ell_functional (N * N) (c + 1) a
      nearly_zero c a h t g =
          let b = bracket a (os (t / N)) in
          let e : suc c ≡ c + 1 = omega arith in
          subst (λ k. Div k (E.coord b (t % N))) e
          (near_coord (suc c) b (h (t / N) (row-lt N N t g)) (t % N) (column-lt N N t g))

      scalar_near : (a u : V) → Zeros ell ell_functional (N * N) u → Near 1 (a ⊕ neg u) → (k : K)
          × Near 1 (a ⊕ neg (k • A.one))
      scalar_near a u z near = let k = ct.multiple u (commutes u z) in (k.0, subst (λ z. Near 1 (a ⊕ neg z)) k.1 near)

      -- what commutes with the basis up to a fixed power of p is a scalar up to p
      pub near_scalar : ((c : ℕ)
          → ((a : V) → ((i : ℕ) → i < N → Near (suc c) (bracket a (os i))) → (k : K) × Near 1 (a ⊕ neg (k • A.one)))
          → ⊥) → ⊥
      unfolding Bounded
      near_scalar stop = all_bounded ell ell_functional (N * N) (λ B. stop B.0 (λ a h.
          let r = B.1 1 a (nearly_zero B.0 a h) in
          scalar_near a r.0 r.1 r.2))
