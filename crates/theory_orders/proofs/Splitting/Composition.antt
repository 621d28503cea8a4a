-- A chain of right ideals between an order and p times it, each maximal in the one before: what carries one into the
-- next is a maximal two-sided ideal, and the product of these lies in p times the order. All of it is said of
-- absurdity, since nothing decides whether an ideal is maximal.
use Rattle.std.specs.Prelude.{◌≡◌, ℕ, zero, suc, ◌+◌, ◌<◌, List, [], ◌∷◌, IsTrue, ◌⊎◌}
use Rattle.std.proofs.Common.{refl, sym, ◌∙◌, ap, ap₂, subst, arith, inl, inr, ⊎_elim}
use Rattle.theory_rings.specs.Ring.{FieldOn}
use Rattle.theory_rings.proofs.Rings.RingLaws.{add-neg, add-zero, add_add_add_comm, mul-zero, zero-mul, mul-neg}
use Rattle.theory_rings.proofs.Rings.RingLaws.{neg-mul}
use Rattle.theory_rings.proofs.Sums.Sums.{sum_congr}
use Rattle.theory_rings.proofs.Rings.Solver.{◌⊞◌, ◌⊠◌, minus, words3}
use Rattle.theory_spaces.specs.Module.{ModuleOn, AlgebraOn, module_of}
use Rattle.theory_spaces.specs.Linear.{Basis}
use Rattle.theory_spaces.specs.Valuation.{ValuationOn, integers, restrict}
use Rattle.theory_spaces.proofs.Linear.Families.{push, push-below, push-at, below_suc, join, each_join}
use Rattle.theory_spaces.proofs.Linear.Modules.{scale-sum}
use Rattle.theory_spaces.proofs.Linear.Spaces.{coords_of}
use Rattle.theory_orders.specs.Uniformizer.{UniformizerOn}
use Rattle.theory_orders.specs.Orders.{IsOrder, IsIdeal, SumOf, Around, Generated, Multiple, WordProduct, Within, Same}
use Rattle.theory_orders.specs.Orders.{Test, IsMaximalIdeal}
use Rattle.theory_orders.specs.Lattices.{Lattice}
use Rattle.theory_orders.proofs.Lattices.SumsOf.{SumOf_map, SumOf_one, SumOf_add, SumOf_ideal}
use Rattle.theory_orders.proofs.Lattices.Multiples.{Multiple-ideal, Multiple-of, of-Multiple}
use Rattle.theory_spaces.proofs.Linear.LatticeTests.{decided, in_lattice}
use Rattle.theory_orders.proofs.Ideals.Ideals.{ideal_same, whole, generated_in}
use Rattle.theory_orders.proofs.Lattices.Scaling.{Lam_scale}
use Rattle.theory_orders.proofs.Lattices.Independence.{IsSublattice, IndependentMod, right_sublattice, ideal_sublattice}
use Rattle.theory_orders.proofs.Lattices.Independence.{sub_neg, grow_up, grow_down, at_most}
use Rattle.theory_spaces.proofs.Linear.LatticeSpans.{lattice-zero, lattice-add, lattice-scale, lattice-member}
use Rattle.theory_spaces.proofs.Linear.LatticeSpans.{lattice_trans, lattice-join_left, lattice-join_right, lattice_in}

-- not refutable
abbrev pub NotNot : Type 0 → Type 0
NotNot X = (X → ⊥) → ⊥

module _ {K V : Type 0} (F : FieldOn K) (Z : ValuationOn F) (p q : K) (U : UniformizerOn F Z p q)
    (A : AlgebraOn F.ring V) (N : ℕ) (B : Basis (module_of A) N) (os : ℕ → V) (O : IsOrder A (Lattice F Z A N os)) where
  infixl 65 ◌⊕◌
  infixl 70 ◌⊗◌
  infixl 70 ◌•◌
  open A use {◌⊕◌, ◌⊗◌, ◌•◌, neg}

  abbrev M : ModuleOn F.ring V
  M = module_of A

  abbrev RA : ModuleOn (integers F Z) V
  RA = restrict F Z M

  abbrev L : V → Type 0
  L = Lattice F Z A N os

  abbrev P : V → Type 0
  P = Multiple A p L

  abbrev qp : F.◌⊗◌ q p ≡ F.one
  qp = F.mul_comm q p ∙ U.pq

  abbrev Sub : (V → Type 0) → Type 0
  Sub = IsSublattice F Z p q U A N os

  abbrev Indep : (V → Type 0) → ℕ → (ℕ → V) → Type 0
  Indep = IndependentMod F Z p q U A N os

  p_in : (x : V) → L x → L (p • x)
  p_in x l = Lam_scale F Z p q U A N os p x U.p_in l

  pub P_ideal : IsIdeal A L P
  P_ideal = Multiple-ideal A p L O p_in

  P_sub : Sub P
  P_sub = ideal_sublattice F Z p q U A N os O P P_ideal

  -- membership in lattices can be told
  pub decide_in : (n : ℕ) (g : ℕ → V) (x : V) → Lattice F Z A n g x ⊎ (Lattice F Z A n g x → ⊥)
  decide_in = in_lattice F Z M N (coords_of M N B)

  pub P_stable : (x : V) → NotNot (P x) → P x
  P_stable x h = ⊎_elim (λ l. Multiple-of A p q U.pq qp L x l)
      (λ (n : L (q • x) → ⊥). absurd (h (λ m. n (of-Multiple A p q U.pq qp L x m)))) (decide_in N os (q • x))

  pub record RightIdeal (C : V → Type 0) : Type 0 where
    pub inside : Within C L
    pub over : Within P C
    pub zero_in : C A.zero
    pub add_in : (x y : V) → C x → C y → C (x ⊕ y)
    pub right : (x l : V) → C x → L l → C (x ⊗ l)
    pub stable : (x : V) → NotNot (C x) → C x

  sub_of : (C : V → Type 0) → RightIdeal C → Sub C
  sub_of C R = right_sublattice F Z p q U A N os O C R.zero_in R.add_in R.right

  neg_of : (C : V → Type 0) → RightIdeal C → (x : V) → C x → C (neg x)
  neg_of C R = sub_neg F Z p q U A N os C (sub_of C R)

  P_right : RightIdeal P
  P_right = record {
    inside = P_ideal.inside;
    over = λ x h. h;
    zero_in = P_ideal.zero_in;
    add_in = P_ideal.add_in;
    right = λ x l h hl. P_ideal.right l x hl h;
    stable = P_stable;
  }

  L_right : RightIdeal L
  L_right = record {
    inside = λ x h. h;
    over = P_ideal.inside;
    zero_in = O.zero_in;
    add_in = O.add_in;
    right = O.mul_in;
    stable = λ x h. ⊎_elim (λ l. l) (λ n. absurd (h n)) (decide_in N os x);
  }

  sub_add : (w c : V) → (w ⊕ c) ⊕ neg w ≡ c
  sub_add w c = ap (λ z. z ⊕ neg w) (A.add_comm w c) ∙ A.add_assoc c w (neg w)
      ∙ ap (λ z. c ⊕ z) (add-neg A.additive w) ∙ add-zero A.monoid c

  -- each member of D outside of C generates D up to C
  abbrev Covers : (V → Type 0) → (V → Type 0) → Type 0
  Covers D C = (s : V) → D s → (C s → ⊥) → (y : V) → D y → NotNot ((l : V) × L l × C (y ⊕ neg (s ⊗ l)))

  -- C with one more generator
  module _ (C : V → Type 0) (RC : RightIdeal C) (s : V) (ls : L s) where
    abbrev More : V → Type 0
    More z = NotNot ((l : V) × (c : V) × L l × C c × (z ≡ s ⊗ l ⊕ c))

    More_of : Within C More
    More_of c h stop = stop (A.zero, c, O.zero_in, h, sym (ap (λ z. z ⊕ c) (mul-zero A.ring s) ∙ A.zero-add c))

    More_at : More s
    More_at stop = stop (
      A.one,
      A.zero,
      O.one_in,
      RC.zero_in,
      sym (ap (λ z. z ⊕ A.zero) (A.mul-one s) ∙ add-zero A.monoid s),
    )

    More_right : RightIdeal More
    More_right = record {
      inside = λ x h. L_right.stable x
          (λ n. h (λ w. n (subst L (sym w.4) (O.add_in (s ⊗ w.0) w.1 (O.mul_in s w.0 ls w.2) (RC.inside w.1 w.3)))));
      over = λ x h. More_of x (RC.over x h);
      zero_in = More_of A.zero RC.zero_in;
      add_in = λ x y h g stop. h (λ v. g (λ w. stop (
        v.0 ⊕ w.0,
        v.1 ⊕ w.1,
        O.add_in v.0 w.0 v.2 w.2,
        RC.add_in v.1 w.1 v.3 w.3,
        ap₂ A.◌⊕◌ v.4 w.4 ∙ add_add_add_comm A.monoid (s ⊗ v.0) v.1 (s ⊗ w.0) w.1
            ∙ ap (λ z. z ⊕ (v.1 ⊕ w.1)) (sym (A.mul-add s v.0 w.0)),
      )));
      right = λ x r h hr stop. h (λ v. stop (
        v.0 ⊗ r,
        v.1 ⊗ r,
        O.mul_in v.0 r v.2 hr,
        RC.right v.1 r v.3 hr,
        ap (λ z. z ⊗ r) v.4 ∙ A.add-mul (s ⊗ v.0) v.1 r ∙ ap (λ z. z ⊕ v.1 ⊗ r) (A.mul_assoc s v.0 r),
      ));
      stable = λ x h stop. h (λ m. m stop);
    }

  -- a right ideal that is maximal in D
  cover : (f k : ℕ) → N < k + f → (D : V → Type 0) → RightIdeal D → (C : V → Type 0) → RightIdeal C → Within C D
      → (x : ℕ → V) → Indep P k x → ((i : ℕ) → i < k → C (x i)) → (b : V) → D b → (C b → ⊥)
      → ((C' : V → Type 0) → RightIdeal C' → Within C' D → Covers D C' → (s : V) → D s → (C' s → ⊥) → ⊥) → ⊥
  cover zero k lt D RD C RC CD x ind inside b hb nb stop = let l =
      at_most F Z p q U A N os B P P_ideal.zero_in k x ind in absurd (omega arith)
  cover (suc f) k lt D RD C RC CD x ind inside b hb nb stop = stop C RC CD
      (λ s hs ns y hy none.
      let ls = RD.inside s hs in
      cover f (suc k) (omega arith) D RD (More C RC s ls) (More_right C RC s ls)
      (λ z h. RD.stable z (λ n.
      h (λ w. n (subst D (sym w.4) (RD.add_in (s ⊗ w.0) w.1 (RD.right s w.0 hs w.2) (CD w.1 w.3))))))
      (push k s x) (grow_up F Z p q U A N os P_sub k x ind C (sub_of C RC) RC.over inside s ls ns)
      (below_suc k (λ i. More C RC s ls (push k s x i))
      (λ i l. subst (More C RC s ls) (sym (push-below k s x i l)) (More_of C RC s ls (x i) (inside i l)))
      (subst (More C RC s ls) (sym (push-at k s x)) (More_at C RC s ls)))
      y hy (λ m. m (λ w. none
      (w.0, w.2, subst C (sym (ap (λ z. z ⊕ neg (s ⊗ w.0)) w.4 ∙ sub_add (s ⊗ w.0) w.1)) w.3))) stop)
      b hb nb

  -- what carries D into a right ideal C that is maximal in it
  module _ (D : V → Type 0) (RD : RightIdeal D) (C : V → Type 0) (RC : RightIdeal C) (CD : Within C D)
      (covers : Covers D C) (s : V) (hs : D s) (ns : C s → ⊥) where
    abbrev Ann : V → Type 0
    Ann a = L a × ((b : V) → D b → C (b ⊗ a))

    pub Ann_ideal : IsIdeal A L Ann
    Ann_ideal = record {
      inside = λ x h. h.0;
      zero_in = (O.zero_in, λ b hb. subst C (sym (mul-zero A.ring b)) RC.zero_in);
      add_in = λ x y h g. (
        O.add_in x y h.0 g.0,
        λ b hb.
            subst C (sym (A.mul-add b x y)) (RC.add_in (b ⊗ x) (b ⊗ y) (h.1 b hb) (g.1 b hb)),
      );
      left = λ l x hl h. (O.mul_in l x hl h.0, λ b hb. subst C (A.mul_assoc b l x) (h.1 (b ⊗ l) (RD.right b l hb hl)));
      right = λ l x hl h. (O.mul_in x l h.0 hl, λ b hb. subst C (A.mul_assoc b x l) (RC.right (b ⊗ x) l (h.1 b hb) hl));
    }

    pub Ann_over : Within P Ann
    Ann_over x m = (P_ideal.inside x m, λ b hb. RC.over (b ⊗ x) (P_ideal.left b x (RD.inside b hb) m))

    pub Ann_proper : Ann A.one → ⊥
    Ann_proper h = ns (subst C (A.mul-one s) (h.1 s hs))

    module _ (a : V) (la : L a) where
      abbrev T : V → Type 0
      T = SumOf A (Around A L a)

      T_ideal : IsIdeal A L T
      T_ideal = SumOf_ideal A L (Around A L a) O
          (λ x w. subst L (sym w.4) (O.mul_in (w.0 ⊗ a) w.1 (O.mul_in w.0 a w.2 la) w.3))
          (λ l x hl w. (
            l ⊗ w.0,
            w.1,
            O.mul_in l w.0 hl w.2,
            w.3,
            ap (λ z. l ⊗ z) w.4
                ∙ sym (A.mul_assoc l (w.0 ⊗ a) w.1) ∙ ap (λ z. z ⊗ w.1) (sym (A.mul_assoc l w.0 a)),
          ))
          (λ l x hl w. (w.0, w.1 ⊗ l, w.2, O.mul_in w.1 l w.3 hl, ap (λ z. z ⊗ l) w.4 ∙ A.mul_assoc (w.0 ⊗ a) w.1 l))

      -- t is one on b up to C
      abbrev Fixes : V → V → Type 0
      Fixes t b = C (b ⊕ neg (b ⊗ t))

      fixed : (b0 : V) → D b0 → (C (b0 ⊗ a) → ⊥) → (b : V) → D b → NotNot ((t : V) × T t × Fixes t b)
      fixed b0 h0 n0 b hb stop =
          let zero_case : C b → ⊥ = λ h. stop (
            A.zero,
            T_ideal.zero_in,
            subst C (sym (ap (λ z. b ⊕ neg z) (mul-zero A.ring b)))
                (RC.add_in b (neg A.zero) h (neg_of C RC A.zero RC.zero_in)),
          ) in
          covers b hb zero_case b0 h0 (λ w.
          let l = w.0 in
          let la' = O.mul_in l a w.1 la in
          let bla = b ⊗ (l ⊗ a) in
          let out : C bla → ⊥ = λ h. n0 (subst C
          (ap (λ z. z ⊕ bla) (A.add-mul b0 (neg (b ⊗ l)) a
          ∙ ap (λ z. b0 ⊗ a ⊕ z) (neg-mul A.ring (b ⊗ l) a ∙ ap neg (A.mul_assoc b l a)))
          ∙ A.add_assoc (b0 ⊗ a) (neg bla) bla ∙ ap (λ z. b0 ⊗ a ⊕ z) (A.neg-add bla) ∙ add-zero A.monoid (b0 ⊗ a))
          (RC.add_in ((b0 ⊕ neg (b ⊗ l)) ⊗ a) bla (RC.right (b0 ⊕ neg (b ⊗ l)) a w.2 la) h)) in
          covers bla (RD.right b (l ⊗ a) hb la') out b hb (λ v.
          let t = (l ⊗ a) ⊗ v.0 in
          stop (
            t,
            SumOf_one A (Around A L a) t (l, v.0, w.1, v.1, refl),
            subst C (ap (λ z. b ⊕ neg z) (A.mul_assoc b (l ⊗ a) v.0)) v.2,
          )))

      -- one t for finitely many
      all_fixed : (b0 : V) → D b0 → (C (b0 ⊗ a) → ⊥) → (n : ℕ) (b : ℕ → V) → ((i : ℕ) → i < n → D (b i))
          → NotNot ((t : V) × T t × ((i : ℕ) → i < n → Fixes t (b i)))
      all_fixed b0 h0 n0 zero b hb stop = stop (A.zero, T_ideal.zero_in, λ i l. absurd (omega arith))
      all_fixed b0 h0 n0 (suc n) b hb stop = all_fixed b0 h0 n0 n b (λ i l. hb i (omega arith)) (λ r.
          let t = r.0 in
          let lt = T_ideal.inside t r.1 in
          let d : V → V = λ x. x ⊕ neg (x ⊗ t) in
          let bn = b n in
          let hn = hb n (omega arith) in
          fixed b0 h0 n0 (d bn) (RD.add_in bn (neg (bn ⊗ t)) hn (neg_of D RD (bn ⊗ t) (RD.right bn t hn lt))) (λ w.
          let u = w.0 in
          let lu = T_ideal.inside u w.1 in
          let step : V = t ⊕ (u ⊕ neg (t ⊗ u)) in
          let same : (x : V) → d x ⊕ neg (d x ⊗ u) ≡ x ⊕ neg (x ⊗ step) = λ x.
          words3 A.ring (λ x t u. (
            (x ⊞ minus (x ⊠ t)) ⊞ minus ((x ⊞ minus (x ⊠ t)) ⊠ u),
            x ⊞ minus (x ⊠ (t ⊞ (u ⊞ minus (t ⊠ u)))),
          )) refl x t u in
          stop (
            step,
            T_ideal.add_in t (u ⊕ neg (t ⊗ u)) r.1
                (T_ideal.add_in u (neg (t ⊗ u)) w.1
                (sub_neg F Z p q U A N os T (ideal_sublattice F Z p q U A N os O T T_ideal) (t ⊗ u)
                (T_ideal.right u t lu r.1))),
            below_suc n (λ i. Fixes step (b i))
                (λ i l. let di = d (b i) in
                subst C (same (b i)) (RC.add_in di (neg (di ⊗ u)) (r.2 i l)
                (neg_of C RC (di ⊗ u) (RC.right di u (r.2 i l) lu))))
                (subst C (same bn) w.2),
          )))

      pub Ann_generates : (Ann a → ⊥) → NotNot (Generated A L Ann a A.one)
      Ann_generates out stop = out (
        la,
        λ b0 h0. RC.stable (b0 ⊗ a) (λ n0.
            all_fixed b0 h0 n0 N (λ i. s ⊗ os i) (λ i l. RD.right s (os i) hs (lattice-member F Z M N i os l)) (λ r.
            let t = r.0 in
            let e = A.one ⊕ neg t in
            let le : L e = O.add_in A.one (neg t) O.one_in (neg_of L L_right t (T_ideal.inside t r.1)) in
            let times : (x : V) → x ⊗ e ≡ x ⊕ neg (x ⊗ t) = λ x. A.mul-add x A.one (neg t)
            ∙ ap₂ A.◌⊕◌ (A.mul-one x) (mul-neg A.ring x t) in
            let kills : (l : V) → L l → C ((s ⊗ l) ⊗ e) = λ l.
            lattice_in F Z M (λ l. C ((s ⊗ l) ⊗ e)) (record {
              zero-in = subst C (sym (ap (λ z. z ⊗ e) (mul-zero A.ring s) ∙ zero-mul A.ring e)) RC.zero_in;
              add-in = λ x y h g. subst C (sym (ap (λ z. z ⊗ e) (A.mul-add s x y) ∙ A.add-mul (s ⊗ x) (s ⊗ y) e))
                  (RC.add_in ((s ⊗ x) ⊗ e) ((s ⊗ y) ⊗ e) h g);
              scale-in = λ c x h. subst C (sym (ap (λ z. z ⊗ e) (A.scale-right c.0 s x) ∙ A.scale-left c.0 (s ⊗ x) e))
                  ((sub_of C RC).scale-in c ((s ⊗ x) ⊗ e) h);
            }) N os (λ i l. subst C (sym (times (s ⊗ os i))) (r.2 i l)) l in
            let ann : Ann e = (
              le,
              λ b hb. RC.stable (b ⊗ e) (λ n. covers s hs ns b hb (λ w.
                  let sl = s ⊗ w.0 in
                  n (subst C (sym (A.add-mul (b ⊕ neg sl) sl e)
                  ∙ ap (λ z. z ⊗ e) (A.add_assoc b (neg sl) sl ∙ ap (λ z. b ⊕ z) (A.neg-add sl)
                  ∙ add-zero A.monoid b))
                  (RC.add_in ((b ⊕ neg sl) ⊗ e) (sl ⊗ e) (RC.right (b ⊕ neg sl) e w.2 le) (kills w.0 w.1))))),
            ) in
            let Q : V → Type 0 = λ x. Around A L a x ⊎ Ann x in
            stop (subst (SumOf A Q)
            (A.add_comm t e ∙ A.add_assoc A.one (neg t) t ∙ ap (λ z. A.one ⊕ z) (A.neg-add t)
            ∙ add-zero A.monoid A.one)
            (SumOf_add A Q t e (SumOf_map A (Around A L a) Q (λ x w. inl w) t r.1) (SumOf_one A Q e (inr ann)))))),
      )

  -- an ideal over p·L is a lattice
  abbrev gens : ℕ → (ℕ → V) → ℕ → V
  gens k x = join N (λ i. p • os i) x

  pub multiple_lattice : Within P (Lattice F Z A N (λ i. p • os i))
  multiple_lattice x m = record {
    weights = m.1.weights;
    passes = m.1.passes;
    combines = m.2 ∙ ap (λ z. p • z) m.1.combines ∙ scale-sum M N p (λ i. (m.1.weights i) • os i)
        ∙ sum_congr A.monoid N (λ i. p • (m.1.weights i • os i)) (λ i. (m.1.weights i) • (p • os i)) (λ i l.
        sym (A.mul-scale p (m.1.weights i) (os i)) ∙ ap (λ a. a • os i) (F.mul_comm p (m.1.weights i))
        ∙ A.mul-scale (m.1.weights i) p (os i));
  }

  pub multiple_same : Same P (Lattice F Z A N (λ i. p • os i))
  multiple_same = (
    multiple_lattice,
    λ x h. lattice_in F Z M P P_sub N (λ i. p • os i) (λ i l. (os i, lattice-member F Z M N i os l, refl)) x h,
  )

  module _ (Q : V → Type 0) (I : IsIdeal A L Q) (over : Within P Q) where
    Q_sub : Sub Q
    Q_sub = ideal_sublattice F Z p q U A N os O Q I

    spanned : (f k : ℕ) → N < k + f → (x : ℕ → V) → Indep P k x → ((i : ℕ) → i < k → Q (x i))
        → ((n : ℕ) (g : ℕ → V) → Same Q (Lattice F Z A n g) → ⊥) → ⊥
    spanned zero k lt x ind inside stop = let l = at_most F Z p q U A N os B P P_ideal.zero_in k x ind in
        absurd (omega arith)
    spanned (suc f) k lt x ind inside stop =
        let G : V → Type 0 = Lattice F Z A (N + k) (gens k x) in
        let G_sub : Sub G = record {
          zero-in = lattice-zero F Z M (N + k) (gens k x);
          add-in = λ a b h g. lattice-add F Z M (N + k) (gens k x) a b h g;
          scale-in = λ c a h. lattice-scale F Z M (N + k) (gens k x) c a h;
        } in
        let P_G : Within P G = λ y m.
        lattice_trans F Z M N (N + k) (λ i. p • os i) (gens k x) y
        (λ i l. lattice-join_left F Z M N k (λ i. p • os i) x i l) (multiple_lattice y m) in
        stop (N + k) (gens k x) (
          (λ y hy. ⊎_elim (λ g. g) (λ (out : G y → ⊥). absurd (
              spanned f (suc k) (omega arith) (push k y x)
              (grow_up F Z p q U A N os P_sub k x ind G G_sub P_G
              (λ i l. lattice-join_right F Z M N k (λ i. p • os i) x i l) y (I.inside y hy) out)
              (below_suc k (λ i. Q (push k y x i)) (λ i l. subst Q (sym (push-below k y x i l)) (inside i l))
              (subst Q (sym (push-at k y x)) hy)) stop)) (decide_in (N + k) (gens k x) y)),
          λ y g. lattice_in F Z M Q Q_sub (N + k) (gens k x)
              (each_join N k (λ i. p • os i) x Q
              (λ i l. over (p • os i) (os i, lattice-member F Z M N i os l, refl)) inside) y g,
        )

    pub is_lattice : ((n : ℕ) (g : ℕ → V) → Same Q (Lattice F Z A n g) → ⊥) → ⊥
    is_lattice = spanned (suc N) zero (omega arith) os (record { no_unit = λ c int h i l u. absurd (omega arith) })
        (λ i l. absurd (omega arith))

  -- the maximal ideals that are lattices
  abbrev pub MaximalLattice : Type 0
  MaximalLattice = (n : ℕ) × (g : ℕ → V) × IsMaximalIdeal A p L (Lattice F Z A n g)

  abbrev pub members : MaximalLattice → V → Type 0
  members i = Lattice F Z A i.0 i.1

  -- an ideal over p·L that is a lattice is maximal where each element outside cannot but generate one with it
  pub maximal_of : (Q : V → Type 0) → IsIdeal A L Q → Within P Q → (Q A.one → ⊥)
      → ((a : V) → L a → (Q a → ⊥) → NotNot (Generated A L Q a A.one))
      → (n : ℕ) (g : ℕ → V) → Same Q (Lattice F Z A n g) → IsMaximalIdeal A p L (Lattice F Z A n g)
  maximal_of Q I over proper generates n g e = record {
    over = λ x h. e.0 x (over x h);
    maximal = record {
      ideal = ideal_same A L Q (Lattice F Z A n g) e I;
      simple = record {
        proper = λ h. proper (e.1 A.one (h A.one O.one_in));
        nothing_between = λ t IT j. ⊎_elim
            (λ (h : IsTrue (t A.one)). inr (whole A L Q O (Test t) IT h))
            (λ (h : IsTrue (t A.one) → ⊥). inl (λ x tx. ⊎_elim (λ w. w)
            (λ (out : Lattice F Z A n g x → ⊥). absurd (generates x (IT.inside x tx) (λ w. out (e.0 x w))
            (λ r. h (generated_in A L Q O (Test t) IT (λ y w. j y (e.0 y w)) x tx A.one r))))
            (decide_in n g x)))
            (decided (t A.one));
      };
    };
  }

  abbrev W : List MaximalLattice → V → Type 0
  W = WordProduct A L members

  descend : (f k : ℕ) → N < k + f → (D : V → Type 0) → RightIdeal D → (u : List MaximalLattice) → Within (W u) D
      → (x : ℕ → V) → Indep D k x → ((i : ℕ) → i < k → L (x i))
      → ((w : List MaximalLattice) → Within (W w) P → ⊥) → ⊥
  descend zero k lt D RD u inside x ind lx stop = let l = at_most F Z p q U A N os B D RD.zero_in k x ind in
      absurd (omega arith)
  descend (suc f) k lt D RD u inside x ind lx stop = stop u (λ y hy. P_stable y (λ out.
      cover (suc N) zero (omega arith) D RD P P_right RD.over os
      (record { no_unit = λ c int h i l v. absurd (omega arith) }) (λ i l. absurd (omega arith)) y (inside y hy) out
      (λ C RC CD covers s hs ns.
      is_lattice (Ann D RD C RC CD covers s hs ns) (Ann_ideal D RD C RC CD covers s hs ns)
      (Ann_over D RD C RC CD covers s hs ns) (λ n g e.
      let m : IsMaximalIdeal A p L (Lattice F Z A n g) =
      maximal_of (Ann D RD C RC CD covers s hs ns) (Ann_ideal D RD C RC CD covers s hs ns)
      (Ann_over D RD C RC CD covers s hs ns)
      (Ann_proper D RD C RC CD covers s hs ns) (Ann_generates D RD C RC CD covers s hs ns) n g e in
      descend f (suc k) (omega arith) C RC ((n, g, m) ∷ u)
      (λ z w. subst C (sym w.4) ((e.1 w.1 w.3).1 w.0 (inside w.0 w.2)))
      (push k s x) (grow_down F Z p q U A N os P_sub k x C D ind lx (sub_of C RC) (sub_of D RD) RC.over CD s
      (RD.inside s hs) hs ns)
      (below_suc k (λ i. L (push k s x i)) (λ i l. subst L (sym (push-below k s x i l)) (lx i l))
      (subst L (sym (push-at k s x)) (RD.inside s hs))) stop))))

  -- some product of maximal ideals lies in p·L
  pub some_word : ((w : List MaximalLattice) → Within (W w) P → ⊥) → ⊥
  some_word = descend (suc N) zero (omega arith) L L_right [] (λ x h. h) os
      (record { no_unit = λ c int h i l u. absurd (omega arith) }) (λ i l. absurd (omega arith))
