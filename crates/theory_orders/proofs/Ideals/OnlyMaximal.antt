-- Where no maximal ideal over p times an order has a larger left order there is exactly one; it is the radical and
-- invertible, and p times the order is a power of it.
use Rattle.std.specs.Prelude.{◌≡◌, ℕ, zero, suc, ◌+◌, ◌*◌, ◌/◌, ◌%◌, ◌<◌, ◌≤◌, List, [], ◌∷◌, Bool, IsTrue, ◌⊎◌}
use Rattle.std.proofs.Common.{refl, sym, ◌∙◌, ap, subst, arith, inl, inr, ⊎_elim}
use Rattle.std.proofs.lemmas.Bool.{cases_lt}
use Rattle.theory_rings.specs.Ring.{FieldOn}
use Rattle.theory_spaces.specs.Module.{ModuleOn, AlgebraOn, module_of}
use Rattle.theory_spaces.specs.Linear.{Basis, Coords, IsSubmodule}
use Rattle.theory_spaces.specs.Algebra.{Central}
use Rattle.theory_spaces.specs.Valuation.{ValuationOn, integers, restrict}
use Rattle.theory_spaces.proofs.Linear.Modules.{scale-zero}
use Rattle.theory_spaces.proofs.Linear.Spaces.{coords_of}
use Rattle.theory_spaces.proofs.Matrices.PairIndex.{pair-lt, row-lt, column-lt}
use Rattle.theory_orders.specs.Uniformizer.{UniformizerOn}
use Rattle.theory_orders.specs.Orders.{IsOrder, IsIdeal, SumOf, Product, Products, Power, Multiple, WordProduct}
use Rattle.theory_orders.specs.Orders.{Generated, Radical, LeftOrder, Inverse, SimpleByElements, IsMaximalIdeal}
use Rattle.theory_orders.specs.Orders.{IsInvertibleIdeal, OnlyMaximalIdeal, Within, Same, Test}
use Rattle.theory_orders.specs.Lattices.{Lattice, IsOrderAt, NothingGrows}
use Rattle.theory_orders.specs.Ramified.{IsRamified}
use Rattle.theory_orders.proofs.Lattices.SumsOf.{SumOf_in, SumOf_zero, SumOf_one, SumOf_add, SumOf_left, SumOf_right}
use Rattle.theory_orders.proofs.Ideals.Ideals.{ideal_same, whole, generated_in}
use Rattle.theory_orders.proofs.Lattices.Multiples.{Multiple-ideal, cancel_scale, of-Multiple}
use Rattle.theory_orders.proofs.Splitting.Chains.{Chain, Chain_last, Chain_unlast, chain_in_power, power_in_chains}
use Rattle.theory_orders.proofs.Splitting.Chains.{power_chains, Chain_fewer}
use Rattle.theory_orders.proofs.LeftOrder.LeftOrders.{Power_map}
use Rattle.theory_spaces.proofs.Linear.LatticeTests.{decided, pairs_of, pairs_of-at, lattice_test, lattice_test-in}
use Rattle.theory_spaces.proofs.Linear.LatticeTests.{in-lattice_test, lattice_within}
use Rattle.theory_orders.proofs.Ideals.SimpleQuotients.{simple_by_elements, radical_of_simple, one_or_within}
use Rattle.theory_orders.proofs.Ideals.SimpleQuotients.{mul_lattice, lattice_mul}
use Rattle.theory_orders.proofs.Lattices.Scaling.{Lam_scale}
use Rattle.theory_orders.proofs.Ideals.InvertibleIdeals.{MaximalIdeal, LeftUnit, RightUnit, M_X, X_left}
use Rattle.theory_orders.proofs.Ideals.InvertibleIdeals.{some_invertible}
use Rattle.theory_orders.proofs.Splitting.Composition.{NotNot, decide_in, multiple_same, MaximalLattice, members}
use Rattle.theory_orders.proofs.Splitting.Composition.{some_word}
use Rattle.theory_orders.proofs.Ideals.MaximalPowers.{S, S_over, bounded, power_of_nilpotent, power_of_central}
use Rattle.theory_spaces.proofs.Linear.LatticeSpans.{lattice-zero, lattice-add, lattice-member, lattice_in}

-- the first n numbers are searched for one that has a property
find_below : (n : ℕ) (Q : ℕ → Type 0) → ((k : ℕ) → Q k ⊎ (Q k → ⊥)) → ((k : ℕ) × Q k) ⊎ ((k : ℕ) → k < n → Q k → ⊥)
find_below zero Q d = inr (λ k l h. absurd (omega arith))
find_below (suc n) Q d = ⊎_elim inl
    (λ (none : (k : ℕ) → k < n → Q k → ⊥). ⊎_elim (λ h. inl (n, h))
    (λ (out : Q n → ⊥). inr
    (λ k l h. ⊎_elim (λ (g : k < n). none k g h) (λ (g : n ≤ k). let e : k ≡ n = omega arith in out (subst Q e h))
    (cases_lt k n))) (d n))
    (find_below n Q d)

module _ {K V : Type 0} (F : FieldOn K) (Z : ValuationOn F) (p q : K) (U : UniformizerOn F Z p q)
    (A : AlgebraOn F.ring V) (N : ℕ) (B : Basis (module_of A) N) (os : ℕ → V) (D : IsOrderAt F Z A N os) where
  infixl 65 ◌⊕◌
  infixl 70 ◌⊗◌
  infixl 70 ◌•◌
  open A use {◌⊕◌, ◌⊗◌, ◌•◌}

  abbrev M : ModuleOn F.ring V
  M = module_of A

  abbrev RA : ModuleOn (integers F Z) V
  RA = restrict F Z M

  abbrev C : Coords M N
  C = coords_of M N B

  abbrev L : V → Type 0
  L = Lattice F Z A N os

  abbrev O : IsOrder A L
  O = D.order

  abbrev P : V → Type 0
  P = Multiple A p L

  abbrev qp : F.◌⊗◌ q p ≡ F.one
  qp = F.mul_comm q p ∙ U.pq

  abbrev Lat : ℕ → (ℕ → V) → V → Type 0
  Lat = Lattice F Z A

  P_ideal : IsIdeal A L P
  P_ideal = Multiple-ideal A p L O (λ x l. Lam_scale F Z p q U A N os p x U.p_in l)

  stable : (n : ℕ) (g : ℕ → V) (x : V) → NotNot (Lat n g x) → Lat n g x
  stable n g x h = ⊎_elim (λ l. l) (λ out. absurd (h out)) (decide_in F Z p q U A N B os O n g x)

  to_maximal : (n : ℕ) (g : ℕ → V) → IsMaximalIdeal A p L (Lat n g) → Within (LeftOrder A (Lat n g)) L
      → MaximalIdeal A p q U.pq qp L O (Lat n g)
  to_maximal n g m left = record {
    ideal = m.ideal;
    over = λ x l. m.over (p • x) (x, l, refl);
    simple = simple_by_elements F Z A N C N os n g O m.ideal m.simple;
    left_order = left;
  }

  pub not_one : (J : V → Type 0) → IsMaximalIdeal A p L J → J A.one → ⊥
  not_one J m h = m.simple.proper (whole A L J O J m.ideal h)

  p_not_one : (J : V → Type 0) → IsMaximalIdeal A p L J → P A.one → ⊥
  p_not_one J m h = not_one J m (m.over A.one h)

  test : (n : ℕ) (g : ℕ → V) → V → Bool
  test n g = lattice_test F Z M N C n g

  test_same : (n : ℕ) (g : ℕ → V) → Same (Lat n g) (Test (test n g))
  unfolding test
  test_same n g = (in-lattice_test F Z M N C n g, lattice_test-in F Z M N C n g)

  power_same : (I J : V → Type 0) → Same I J → (k : ℕ) → Same (Power A I k) (Power A J k)
  power_same I J e k = (Power_map A L O I J e.0 k, Power_map A L O J I e.1 k)

  -- a lattice is in a maximal ideal that it holds, unless it is everything
  pub within_maximal : (J : V → Type 0) → IsMaximalIdeal A p L J → (n : ℕ) (g : ℕ → V) → IsIdeal A L (Lat n g)
      → (Lat n g A.one → ⊥) → Within J (Lat n g) → Within (Lat n g) J
  within_maximal J m n g I proper h x l =
      let e = test_same n g in
      ⊎_elim (λ (w : Within (Test (test n g)) J). w x (e.0 x l))
      (λ (w : Within L (Test (test n g))). absurd (proper (e.1 A.one (w A.one O.one_in))))
      (m.simple.nothing_between (test n g) (ideal_same A L (Lat n g) (Test (test n g)) e I) (λ y hy. e.0 y (h y hy)))

  -- a maximal lattice with a power that is p times the order
  module _ (n : ℕ) (g : ℕ → V) (m : IsMaximalIdeal A p L (Lat n g)) (left : Within (LeftOrder A (Lat n g)) L) where
    abbrev J : V → Type 0
    J = Lat n g

    abbrev I : IsIdeal A L J
    I = m.ideal

    abbrev H : MaximalIdeal A p q U.pq qp L O J
    H = to_maximal n g m left

    S_J : SimpleByElements A L J
    S_J = simple_by_elements F Z A N C N os n g O I m.simple

    module _ (e : ℕ) (pw : Same (Power A J e) P) where
      only : (T : V → Type 0) → IsMaximalIdeal A p L T → Same T J
      only T t =
          let inside : Within T J = λ x h. ⊎_elim (λ w. w) (λ (w : T A.one). absurd (not_one T t w))
          (one_or_within A L J O S_J p I m.over e pw.0 T t.ideal t.over x h) in
          (inside, within_maximal T t n g I (not_one J m) inside)

      -- q times a product of e members carries J into the order
      carries : (y : V) → Chain A J L e y → Inverse A L J (q • y)
      carries y c j hj = subst L (sym (A.scale-left q y j))
          (of-Multiple A p q U.pq qp L (y ⊗ j)
          (pw.0 (y ⊗ j) (chain_in_power A L O J I e (y ⊗ j) (Chain_last A L O J I e y j c hj))))

      p_chain : SumOf A (Chain A J L (suc e)) (p • A.one)
      p_chain = power_in_chains A L O J I e (p • A.one) (pw.1 (p • A.one) (A.one, O.one_in, refl))

      one_of : (Q : V → Type 0) → ((v : V) → Chain A J L (suc e) v → SumOf A Q (q • v)) → SumOf A Q A.one
      one_of Q h = subst (SumOf A Q) (cancel_scale A p q U.pq qp A.one)
          (SumOf_in A (Chain A J L (suc e)) (λ v. SumOf A Q (q • v))
          (subst (SumOf A Q) (sym (scale-zero M q)) (SumOf_zero A Q))
          (λ a b ha hb. subst (SumOf A Q) (sym (A.scale-add q a b)) (SumOf_add A Q (q • a) (q • b) ha hb)) h
          (p • A.one) p_chain)

      abbrev X : V → Type 0
      X = Inverse A L J

      right_one : Products A J X A.one
      right_one = one_of (Product A J X) (λ v c. SumOf_one A (Product A J X) (q • v)
          (c.0, q • c.1, c.2, carries c.1 c.3, ap (λ z. q • z) c.4 ∙ sym (A.scale-right q c.0 c.1)))

      left_one : Products A X J A.one
      left_one = one_of (Product A X J) (λ v c.
          let d = Chain_unlast A L O J I e v c in
          SumOf_one A (Product A X J) (q • v)
          (q • d.0, d.1, carries d.0 d.2, d.3, ap (λ z. q • z) d.4 ∙ sym (A.scale-left q d.0 d.1)))

      invertible : IsInvertibleIdeal A L J
      invertible = record {
        left = (
          SumOf_in A (Product A X J) L O.zero_in O.add_in (λ x w. subst L (sym w.4) (w.2 w.1 w.3)),
          λ x l. subst (Products A X J) (A.mul-one x) (SumOf_left A (Product A X J) (Product A X J) x
              (λ y w. (
                x ⊗ w.0,
                w.1,
                X_left A p q U.pq qp L O J H x w.0 l w.2,
                w.3,
                ap (λ z. x ⊗ z) w.4
                    ∙ sym (A.mul_assoc x w.0 w.1),
              )) A.one left_one),
        );
        right = (
          SumOf_in A (Product A J X) L O.zero_in O.add_in
              (λ x w. subst L (sym w.4) (M_X A p q U.pq qp L O J H w.0 w.1 w.2 w.3)),
          λ x l. subst (Products A J X) (A.mul-one x) (SumOf_left A (Product A J X) (Product A J X) x
              (λ y w. (
                x ⊗ w.0,
                w.1,
                I.left x w.0 l w.2,
                w.3,
                ap (λ z. x ⊗ z) w.4
                    ∙ sym (A.mul_assoc x w.0 w.1),
              )) A.one right_one),
        );
      }

      only_maximal : OnlyMaximalIdeal A p L J
      only_maximal = record {
        maximal = m;
        only = λ t. only (Test t);
        radical = radical_of_simple A L J O S_J p I m.over e pw.0;
        invertible = invertible;
        exponent = e;
        power = pw;
      }

    -- the powers are lattices
    power_lattice : (k : ℕ) → (r : ℕ) × (v : ℕ → V) × Same (Power A J k) (Lat r v)
    power_lattice zero = (n, g, ((λ x h. h), λ x h. h))
    power_lattice (suc k) =
        let w = power_lattice k in
        let r = w.0 in
        let v = w.1 in
        let e = w.2 in
        let G : ℕ → V = pairs_of A.◌⊗◌ n v g in
        let Q : V → Type 0 = Product A (Power A J k) J in
        let Q_sub : IsSubmodule RA (SumOf A Q) = record {
          zero-in = SumOf_zero A Q;
          add-in = SumOf_add A Q;
          scale-in = λ c x h. subst (SumOf A Q) (A.scale-right c.0 x A.one ∙ ap (λ z. c.0 • z) (A.mul-one x))
              (SumOf_right A Q Q (c.0 • A.one) (λ y d. (
                d.0,
                d.1 ⊗ (c.0 • A.one),
                d.2,
                I.right (c.0 • A.one) d.1 (Lam_scale F Z p q U A N os c.0 A.one c.1 O.one_in) d.3,
                ap (λ z. z ⊗ (c.0 • A.one)) d.4 ∙ A.mul_assoc d.0 d.1 (c.0 • A.one),
              )) x h);
        } in (
          r * n,
          G,
          (
            SumOf_in A Q (Lat (r * n) G) (lattice-zero F Z M (r * n) G) (lattice-add F Z M (r * n) G) (λ x d.
                let P : V → Type 0 = Lat (r * n) G in
                subst P (sym d.4) (mul_lattice F Z A N C N os n g d.0 d.1 (r * n) G (λ j lj.
                lattice_mul F Z A N C N os r v (g j) d.0 (r * n) G (λ i li.
                subst P (pairs_of-at A.◌⊗◌ n v g i j lj)
                (lattice-member F Z M (r * n) (i * n + j) G (pair-lt r n i j li lj))) (e.0 d.0 d.2)) d.3)),
            λ x h. lattice_in F Z M (SumOf A Q) Q_sub (r * n) G (λ t lt. SumOf_one A Q (G t) (
              v (t / n),
              g (t % n),
              e.1 (v (t / n)) (lattice-member F Z M r (t / n) v (row-lt r n t lt)),
              lattice-member F Z M n (t % n) g (column-lt r n t lt),
              refl,
            )) x h,
          ),
        )

    -- whether a power is p times the order
    decide_power : (k : ℕ) → Same (Power A J k) P ⊎ (Same (Power A J k) P → ⊥)
    decide_power k =
        let w = power_lattice k in
        let e = w.2 in
        let d = multiple_same F Z p q U A N B os O in
        ⊎_elim
        (λ (h : Within (Lat w.0 w.1) (Lat N (λ i. p • os i))). ⊎_elim
        (λ (h' : Within (Lat N (λ i. p • os i)) (Lat w.0 w.1)). inl
        ((λ x y. d.1 x (h x (e.0 x y))), λ x y. e.1 x (h' x (d.0 x y))))
        (λ (out : Within (Lat N (λ i. p • os i)) (Lat w.0 w.1) → ⊥). inr (λ s. out (λ x y. e.0 x (s.1 x (d.1 x y)))))
        (lattice_within F Z M N C N (λ i. p • os i) w.0 w.1))
        (λ (out : Within (Lat w.0 w.1) (Lat N (λ i. p • os i)) → ⊥). inr (λ s. out (λ x y. d.0 x (s.0 x (e.1 x y)))))
        (lattice_within F Z M N C w.0 w.1 N (λ i. p • os i))

    pub only_of : (((e : ℕ) → e < N → Same (Power A J e) P → ⊥) → ⊥) → OnlyMaximalIdeal A p L J
    only_of h = ⊎_elim
        (λ (w : (e : ℕ) × Same (Power A J e) P). only_maximal w.0 w.1)
        (λ (none : (e : ℕ) → e < N → Same (Power A J e) P → ⊥). absurd (h none))
        (find_below N (λ e. Same (Power A J e) P) decide_power)

    -- a power, from a sum of products
    power_from : LeftUnit A p q U.pq qp L O J H → ((e : ℕ) → e < N → Same (Power A J e) P → ⊥)
        → (e : ℕ) → S F Z p q U A N B os D J H (stable n g) e (p • A.one) → Within (Chain A J L e) P → ⊥
    power_from l stop zero at falls = p_not_one J m (falls A.one O.one_in)
    power_from l stop (suc e) at falls =
        let b = bounded F Z p q U A N B os D J H (stable n g) l (suc e) at in
        let c = power_chains A L O J I e in
        stop e (omega arith) (
          (λ x h. SumOf_in A (Chain A J L (suc e)) P P_ideal.zero_in P_ideal.add_in falls x (c.0 x h)),
          λ x h. c.1 x (S_over F Z p q U A N B os D J H (stable n g) (suc e) at x h),
        )

    power_of_units : Central A → LeftUnit A p q U.pq qp L O J H → RightUnit A p q U.pq qp L O J H
        → ((e : ℕ) → e < N → Same (Power A J e) P → ⊥) → ⊥
    power_of_units ct l r stop = power_of_central F Z p q U A N B os D J H (stable n g) ct l r (power_from l stop)

    power_of_falling : (k : ℕ) → Within (Chain A J L k) P → ((e : ℕ) → e < N → Same (Power A J e) P → ⊥) → ⊥
    power_of_falling k falls stop =
        some_invertible A p q U.pq qp L O (λ (i : Unit {0}). J) (λ i. H) (p_not_one J m) (rep k)
        (λ x w. falls x (chain_of k x w))
        (λ i l r. power_of_nilpotent F Z p q U A N B os D J H (stable n g) k falls l r (power_from l stop))
      where
        rep : ℕ → List (Unit {0})
        rep zero = []
        rep (suc k) = tt ∷ rep k

        chain_of : (k : ℕ) (x : V) → WordProduct A L (λ (i : Unit {0}). J) (rep k) x → Chain A J L k x
        chain_of zero x w = w
        chain_of (suc k) x w =
            subst (Chain A J L (suc k)) (sym w.4) (Chain_last A L O J I k w.0 w.1 (chain_of k w.0 w.2) w.3)

  -- where nothing grows, a power of some maximal ideal is p times the order
  pub some_power : Central A → NothingGrows F Z A p L → (P A.one → ⊥)
      → ((i : MaximalLattice F Z p q U A N B os O) (e : ℕ) → e < N
      → Same (Power A (members F Z p q U A N B os O i) e) P → ⊥) → ⊥
  some_power ct ng proper stop = some_word F Z p q U A N B os O (λ w falls.
      some_invertible A p q U.pq qp L O (members F Z p q U A N B os O)
      (λ i. to_maximal i.0 i.1 i.2 (ng i.0 i.1 i.2)) proper w falls
      (λ i l r. power_of_units i.0 i.1 i.2 (ng i.0 i.1 i.2) ct l r (stop i)))

  -- of two maximal lattices one has the powers of the other
  shared_power : (n : ℕ) (g : ℕ → V) → IsMaximalIdeal A p L (Lat n g) → (k : ℕ) (h : ℕ → V)
      → IsMaximalIdeal A p L (Lat k h) → Within (LeftOrder A (Lat k h)) L
      → (e : ℕ) → Same (Power A (Lat k h) e) P → Same (Power A (Lat n g) e) P
  shared_power n g m k h d left e pw =
      let s = only k h d left e pw (Lat n g) m in
      let t = power_same (Lat n g) (Lat k h) s e in
      (λ x y. pw.0 x (t.0 x y), λ x y. t.1 x (pw.1 x y))

  -- each maximal ideal is that one
  pub exactly_one : Central A → NothingGrows F Z A p L → (n : ℕ) (g : ℕ → V) → IsMaximalIdeal A p L (Lat n g)
      → OnlyMaximalIdeal A p L (Lat n g)
  exactly_one ct ng n g m = only_of n g m (ng n g m) (λ stop. some_power ct ng (p_not_one (Lat n g) m) (λ i e l pw.
      stop e l (shared_power n g m i.0 i.1 i.2 (ng i.0 i.1 i.2) e pw)))

  -- the maximal ideals of a family with a product in p times the order are one
  pub one_in_family : Central A → (size : ℕ → ℕ) (gen : ℕ → ℕ → V)
      → ((i : ℕ) → IsMaximalIdeal A p L (Lat (size i) (gen i)))
      → ((i : ℕ) → Within (LeftOrder A (Lat (size i) (gen i))) L)
      → (w : List ℕ) → Within (WordProduct A L (λ i. Lat (size i) (gen i)) w) P → (i : ℕ)
      → OnlyMaximalIdeal A p L (Lat (size i) (gen i))
  one_in_family ct size gen m left w falls i = only_of (size i) (gen i) (m i) (left i) (λ stop.
      some_invertible A p q U.pq qp L O (λ k. Lat (size k) (gen k)) (λ k. to_maximal (size k) (gen k) (m k) (left k))
      (p_not_one (Lat (size i) (gen i)) (m i)) w falls
      (λ k l r. power_of_units (size k) (gen k) (m k) (left k) ct l r
      (λ e b pw. stop e b (shared_power (size i) (gen i) (m i) (size k) (gen k) (m k) (left k) e pw))))

  -- maximal ideals by elements, of which some product lies in p times the order, are one
  module _ (ct : Central A) {Y : Type 0} (G : Y → V → Type 0) (I : (i : Y) → IsIdeal A L (G i))
      (over : (i : Y) → Within P (G i))
      (E : (i : Y) → SimpleByElements A L (G i)) (left : (i : Y) → Within (LeftOrder A (G i)) L) where
    as_maximal : (i : Y) → MaximalIdeal A p q U.pq qp L O (G i)
    as_maximal i = record { ideal = I i; over = λ x l. over i (p • x) (x, l, refl); simple = E i; left_order = left i }

    -- such an ideal is stable
    ideal_stable : (i : Y) (x : V) → NotNot (G i x) → G i x
    ideal_stable i x h =
        let lx : L x = stable N os x (λ out. h (λ w. out ((I i).inside x w))) in
        ⊎_elim (λ w. w) (λ (r : Generated A L (G i) x A.one).
        absurd (h (λ w. (E i).proper (generated_in A L (G i) O (G i) (I i) (λ y j. j) x w A.one r))))
        ((E i).generates x lx)

    pub same_in_family : (w : List Y) → Within (WordProduct A L G w) P → (i k : Y) → Same (G i) (G k)
    same_in_family w falls i k = (half i k, half k i)
      where
        half : (i k : Y) → Within (G i) (G k)
        half i k x h = ideal_stable k x (λ out.
            some_invertible A p q U.pq qp L O G as_maximal (λ m. (E i).proper (over i A.one m)) w falls (λ j l r.
            power_of_central F Z p q U A N B os D (G j) (as_maximal j) (ideal_stable j) ct l r (λ e at fall.
            let Jp : Within (Power A (G j) e) P = λ y hy.
            SumOf_in A (Chain A (G j) L (suc e)) P P_ideal.zero_in P_ideal.add_in
            (λ z c. fall z (Chain_fewer A L O (G j) (I j) e z c)) y (power_in_chains A L O (G j) (I j) e y hy) in
            let to_j : (t : Y) → Within (G t) (G j) = λ t y hy.
            ⊎_elim (λ v. v) (λ (v : G t A.one). absurd ((E t).proper v))
            (one_or_within A L (G j) O (E j) p (I j) (over j) e Jp (G t) (I t) (over t) y hy) in
            ⊎_elim out (λ (r : Generated A L (G k) x A.one).
            (E j).proper (generated_in A L (G k) O (G j) (I j) (to_j k) x (to_j i x h) A.one r))
            ((E k).generates x ((I i).inside x h)))))

  -- the radical is maximal
  pub maximal_of_radical : Central A → NothingGrows F Z A p L → (n : ℕ) (g : ℕ → V) → Radical A p L (Lat n g)
      → (Lat n g A.one → ⊥) → IsMaximalIdeal A p L (Lat n g)
  maximal_of_radical ct ng n g R proper = record {
    over = R.over;
    maximal = record {
      ideal = R.ideal;
      simple = record {
        proper = λ h. proper (h A.one O.one_in);
        nothing_between = λ t I j. ⊎_elim
            (λ (h : IsTrue (t A.one)). inr (whole A L (Test t) O (Test t) I h))
            (λ (h : IsTrue (t A.one) → ⊥). inl (λ x tx. stable n g x (λ out.
            some_power ct ng (λ h. proper (R.over A.one h)) (λ i e l pw.
            let m = i.2 in
            let J = Lat i.0 i.1 in
            let S_i = simple_by_elements F Z A N C N os i.0 i.1 O m.ideal m.simple in
            let t_same = test_same i.0 i.1 in
            let tp = power_same (Test (test i.0 i.1)) J (t_same.1, t_same.0) e in
            let in_radical : Within J (Lat n g) = λ y hy.
            R.largest (test i.0 i.1) e (ideal_same A L J (Test (test i.0 i.1)) t_same m.ideal)
            (λ z hz. t_same.0 z (m.over z hz)) (λ z hz. pw.0 z (tp.0 z hz)) y (t_same.0 y hy) in
            ⊎_elim (λ (w : J x). out (in_radical x w)) (λ (w : IsTrue (t A.one)). h w)
            (one_or_within A L J O S_i p m.ideal m.over e pw.0 (Test t) I (λ z hz. j z (R.over z hz)) x tx)))))
            (decided (t A.one));
      };
    };
  }

  -- the radical is that one
  pub radical_is_one : Central A → NothingGrows F Z A p L → (n : ℕ) (g : ℕ → V) → Radical A p L (Lat n g)
      → (Lat n g A.one → ⊥) → OnlyMaximalIdeal A p L (Lat n g)
  radical_is_one ct ng n g R proper = exactly_one ct ng n g (maximal_of_radical ct ng n g R proper)

  -- the radical of a ramified place
  pub ramified_radical : (js : ℕ → V) → IsRamified F Z p A N os js → OnlyMaximalIdeal A p L (Lat N js)
  ramified_radical js R =
      let m : IsMaximalIdeal A p L (Lat N js) =
      record { maximal = record { ideal = R.radical.ideal; simple = R.simple }; over = R.radical.over } in
      only_of N js m R.left_order.0 (power_of_falling N js m R.left_order.0 (suc R.radical.exponent)
      (λ x c. R.radical.falls x (chain_in_power A L O (Lat N js) R.radical.ideal R.radical.exponent x c)))
