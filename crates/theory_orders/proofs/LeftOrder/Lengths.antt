-- The length of a chain of lattices between one and another is bounded: by the dimension times the power of p that
-- brings the larger into the smaller.
use Rattle.std.specs.Prelude.{◌≡◌, ℕ, zero, suc, ◌+◌, ◌-◌, ◌*◌, ◌<◌, ◌≤◌, IsTrue, ◌⊎◌}
use Rattle.std.proofs.Common.{refl, sym, ◌∙◌, ap, ap₂, subst, arith, inl, inr, ⊎_elim}
use Rattle.std.proofs.lemmas.Bool.{cases_lt}
use Rattle.theory_rings.specs.Ring.{FieldOn}
use Rattle.theory_rings.specs.Sum.{sum}
use Rattle.theory_rings.specs.Naturals.{nat_monoid}
use Rattle.theory_rings.proofs.Rings.RingLaws.{add-zero, add_add_add_comm}
use Rattle.theory_spaces.specs.Module.{ModuleOn, AlgebraOn, module_of}
use Rattle.theory_spaces.specs.Linear.{Basis, Independent}
use Rattle.theory_spaces.specs.Algebra.{Nondegenerate}
use Rattle.theory_spaces.specs.Valuation.{ValuationOn, integers, restrict}
use Rattle.theory_spaces.proofs.Linear.Families.{push, push-below, push-at, below_suc, choose_each}
use Rattle.theory_spaces.proofs.Linear.Modules.{scale-zero}
use Rattle.theory_spaces.proofs.Linear.Spaces.{coords_of}
use Rattle.theory_orders.specs.Uniformizer.{UniformizerOn}
use Rattle.theory_orders.specs.Orders.{Multiple, Within}
use Rattle.theory_orders.specs.Lattices.{Lattice, LatticeChain}
use Rattle.theory_orders.specs.Dual.{Dual}
use Rattle.theory_orders.proofs.Lattices.Multiples.{uniform, up}
use Rattle.theory_spaces.proofs.Linear.LatticeTests.{all_or_not, lattice_test, lattice_test-in, in-lattice_test}
use Rattle.theory_orders.proofs.Lattices.Scaling.{Lam_scale, Lam_up, Low, Low_sub, Low_more, lowered}
use Rattle.theory_orders.proofs.Lattices.Independence.{IsSublattice, IndependentMod, sub_cancel, grow_up, at_most}
use Rattle.theory_orders.proofs.Splitting.Composition.{NotNot}
use Rattle.theory_orders.proofs.Splitting.Ramified.{spanning}
use Rattle.theory_orders.proofs.Lattices.DualLattices.{dual_vec, dual_lattice}
use Rattle.theory_spaces.proofs.Linear.LatticeSpans.{lattice-zero, lattice-add, lattice-scale, lattice-member}
use Rattle.theory_spaces.proofs.Linear.LatticeSpans.{lattice_trans, lattice_in}

-- finitely many facts that cannot be refuted cannot be refuted together
all_not_not : (k : ℕ) (Q : ℕ → Type 0) → ((i : ℕ) → i < k → NotNot (Q i)) → NotNot ((i : ℕ) → i < k → Q i)
all_not_not zero Q h stop = stop (λ i l. absurd (omega arith))
all_not_not (suc k) Q h stop =
    all_not_not k Q (λ i l. h i (omega arith)) (λ f. h k (omega arith) (λ q. stop (below_suc k Q f q)))

count : ℕ → (ℕ → ℕ) → ℕ
count k t = sum nat_monoid k t

count-suc : (k : ℕ) (t : ℕ → ℕ) → count (suc k) t ≡ count k t + t k
unfolding count
count-suc k t = refl

count-zero : (t : ℕ → ℕ) → count zero t ≡ 0
unfolding count
count-zero t = refl

count_none : (k : ℕ) (t : ℕ → ℕ) → ((i : ℕ) → i < k → t i ≡ 0) → count k t ≡ 0
count_none zero t h = count-zero t
count_none (suc k) t h = let a = count-suc k t in let b = count_none k t (λ i l. h i (omega arith)) in let c =
    h k (omega arith) in omega arith

count_le : (k : ℕ) (t a b : ℕ → ℕ) → ((i : ℕ) → i < k → t i ≤ a i + b i) → count k t ≤ count k a + count k b
count_le zero t a b h = let x = count-zero t in omega arith
count_le (suc k) t a b h =
    let x = count-suc k t in
    let y = count-suc k a in
    let z = count-suc k b in
    let r = count_le k t a b (λ i l. h i (omega arith)) in
    let l = h k (omega arith) in omega arith

count_ones : (k : ℕ) → count k (λ _. 1) ≡ k
count_ones zero = count-zero (λ _. 1)
count_ones (suc k) = let a = count-suc k (λ _. 1) in let b = count_ones k in omega arith

module _ {K V : Type 0} (F : FieldOn K) (Z : ValuationOn F) (p q : K) (U : UniformizerOn F Z p q)
    (A : AlgebraOn F.ring V) (n : ℕ) (B : Basis (module_of A) n) (js : ℕ → V) where
  infixl 65 ◌⊕◌
  infixl 70 ◌•◌
  open A use {◌⊕◌, ◌•◌, neg}

  abbrev RA : ModuleOn (integers F Z) V
  RA = restrict F Z (module_of A)

  abbrev J : V → Type 0
  J = Lattice F Z A n js

  abbrev P : V → Type 0
  P = Multiple A p J

  abbrev Sub : (V → Type 0) → Type 0
  Sub = IsSublattice F Z p q U A n js

  p_in : (x : V) → J x → J (p • x)
  p_in x h = Lam_scale F Z p q U A n js p x U.p_in h

  -- a scalar goes past p
  past : (c : K) (x : V) → p • (c • x) ≡ c • (p • x)
  past c x = sym (A.mul-scale p c x) ∙ ap (λ a. a • x) (F.mul_comm p c) ∙ A.mul-scale c p x

  P_sub : Sub P
  P_sub = record {
    zero-in = (A.zero, lattice-zero F Z (module_of A) n js, sym (scale-zero (module_of A) p));
    add-in = λ x y h g. (
      h.0 ⊕ g.0,
      lattice-add F Z (module_of A) n js h.0 g.0 h.1 g.1,
      ap₂ A.◌⊕◌ h.2 g.2
          ∙ sym (A.scale-add p h.0 g.0),
    );
    scale-in = λ c x h. (
      c.0 • h.0,
      lattice-scale F Z (module_of A) n js c h.0 h.1,
      ap (λ z. c.0 • z) h.2 ∙ sym (past c.0 h.0),
    );
  }

  -- a rising family of sublattices of J, with J at its end
  record Rising (k : ℕ) (C : ℕ → V → Type 0) : Type 0 where
    sublattice : (i : ℕ) → Sub (C i)
    rises : (i : ℕ) → i < k → Within (C i) (C (suc i))
    inside : (i : ℕ) → i < suc k → Within (C i) J
    top : Within J (C k)

  -- a member of C (i + 1) outside of C i
  abbrev Step : (ℕ → V → Type 0) → ℕ → Type 0
  Step C i = (x : V) × C (suc i) x × (C i x → ⊥)

  module _ (k : ℕ) (C : ℕ → V → Type 0) (R : Rising k C) where
    -- C i and p·J together, and what p carries into C i
    Plus : ℕ → V → Type 0
    Plus i x = NotNot ((c : V) × (y : V) × C i c × J y × (x ≡ c ⊕ p • y))

    Under : ℕ → V → Type 0
    Under i z = J z × C i (p • z)

    Plus_of : (i : ℕ) → Within (C i) (Plus i)
    unfolding Plus
    Plus_of i x h stop = stop (
      x,
      A.zero,
      h,
      lattice-zero F Z (module_of A) n js,
      sym (ap (λ z. x ⊕ z) (scale-zero (module_of A) p) ∙ add-zero A.monoid x),
    )

    Plus_over : (i : ℕ) → Within P (Plus i)
    unfolding Plus
    Plus_over i x m stop = stop (A.zero, m.0, (R.sublattice i).zero-in, m.1, m.2 ∙ sym (A.zero-add (p • m.0)))

    Plus_sub : (i : ℕ) → Sub (Plus i)
    unfolding Plus
    Plus_sub i = record {
      zero-in = Plus_of i A.zero (R.sublattice i).zero-in;
      add-in = λ x y h g stop. h (λ v. g (λ w. stop (
        v.0 ⊕ w.0,
        v.1 ⊕ w.1,
        (R.sublattice i).add-in v.0 w.0 v.2 w.2,
        lattice-add F Z (module_of A) n js v.1 w.1 v.3 w.3,
        ap₂ A.◌⊕◌ v.4 w.4 ∙ add_add_add_comm A.monoid v.0 (p • v.1) w.0 (p • w.1)
            ∙ ap (λ z. v.0 ⊕ w.0 ⊕ z) (sym (A.scale-add p v.1 w.1)),
      )));
      scale-in = λ c x h stop. h (λ v. stop (
        c.0 • v.0,
        c.0 • v.1,
        (R.sublattice i).scale-in c v.0 v.2,
        lattice-scale F Z (module_of A) n js c v.1 v.3,
        ap (λ z. c.0 • z) v.4 ∙ A.scale-add c.0 v.0 (p • v.1) ∙ ap (λ z. c.0 • v.0 ⊕ z) (sym (past c.0 v.1)),
      ));
    }

    Plus_rises : (i : ℕ) → i < k → Within (Plus i) (Plus (suc i))
    unfolding Plus
    Plus_rises i l x h stop = h (λ v. stop (v.0, v.1, R.rises i l v.0 v.2, v.3, v.4))

    Under_rising : Rising k Under
    unfolding Under
    Under_rising = record {
      sublattice = λ i. record {
        zero-in = (
          lattice-zero F Z (module_of A) n js,
          subst (C i) (sym (scale-zero (module_of A) p)) (R.sublattice i).zero-in,
        );
        add-in = λ x y h g. (
          lattice-add F Z (module_of A) n js x y h.0 g.0,
          subst (C i) (sym (A.scale-add p x y)) ((R.sublattice i).add-in (p • x) (p • y) h.1 g.1),
        );
        scale-in = λ c x h. (
          lattice-scale F Z (module_of A) n js c x h.0,
          subst (C i) (sym (past c.0 x)) ((R.sublattice i).scale-in c (p • x) h.1),
        );
      };
      rises = λ i l x h. (h.0, R.rises i l (p • x) h.1);
      inside = λ i l x h. h.0;
      top = λ x h. (h, R.top (p • x) (p_in x h));
    }

    Under_low : (s : ℕ) → ((x : V) → J x → C zero (up A p (suc s) x)) → (x : V) → J x → Under zero (up A p s x)
    unfolding Under
    Under_low s low x h = (Lam_up F Z p q U A n js s x h, low x h)

    -- a step is one of the sums with p·J, or one of what p carries into the members
    split : (i : ℕ) → i < k → Step C i → NotNot (((x : V) × C (suc i) x × (Plus i x → ⊥)) ⊎ Step Under i)
    unfolding Plus Under
    split i l w stop =
        let S : Sub (C (suc i)) = R.sublattice (suc i) in
        let all : (x : V) → C (suc i) x → Plus i x = λ x h out. stop (inl (x, h, λ m. m out)) in
        all w.0 w.1 (λ v.
        let pz : C (suc i) (p • v.1) = sub_cancel F Z p q U A n js (C (suc i)) S (p • v.1) v.0
        (subst (C (suc i)) (v.4 ∙ A.add_comm v.0 (p • v.1)) w.1) (R.rises i l v.0 v.2) in
        stop (inr (v.1, (v.3, pz), λ u. w.2 (subst (C i) (sym v.4) ((R.sublattice i).add-in v.0 (p • v.1) v.2 u.1)))))

    -- there are at most n steps of the sums with p·J
    module _ (a : ℕ → ℕ) (flags : (i : ℕ) → i < k → (a i ≡ 0)
        ⊎ ((a i ≡ 1) × ((x : V) × C (suc i) x × (Plus i x → ⊥)))) where
      family : (i : ℕ) → i < suc k
          → ((x : ℕ → V) → IndependentMod F Z p q U A n js P (count i a) x → ((j : ℕ) → j < count i a → Plus i (x j))
          → ⊥) → ⊥
      family zero l stop = let e = count-zero a in
          stop js (record { no_unit = λ c int h i g u. absurd (omega arith) }) (λ j g. absurd (omega arith))
      family (suc i) l stop = family i (omega arith) (λ x ind inside.
          let e = count-suc i a in
          let Q : ℕ → Type 0 = λ m.
          ((x : ℕ → V) → IndependentMod F Z p q U A n js P m x → ((j : ℕ) → j < m → Plus (suc i) (x j)) → ⊥) → ⊥ in
          let same : Q (count i a) = λ s. s x ind (λ j g. Plus_rises i (omega arith) (x j) (inside j g)) in
          ⊎_elim
          (λ (z : a i ≡ 0). let d : count i a ≡ count (suc i) a = omega arith in subst Q d same stop)
          (λ (o : (a i ≡ 1) × ((x : V) × C (suc i) x × (Plus i x → ⊥))).
          let o0 = o.0 in
          let d : suc (count i a) ≡ count (suc i) a = omega arith in
          let m = count i a in
          let b = o.1.0 in
          subst Q d (λ s. s (push m b x)
          (grow_up F Z p q U A n js P_sub m x ind (Plus i) (Plus_sub i) (Plus_over i) inside b
          (R.inside (suc i) (omega arith) b o.1.1) o.1.2)
          (below_suc m (λ j. Plus (suc i) (push m b x j))
          (λ j g. subst (Plus (suc i)) (sym (push-below m b x j g)) (Plus_rises i (omega arith) (x j) (inside j g)))
          (subst (Plus (suc i)) (sym (push-at m b x)) (Plus_of (suc i) b o.1.1)))) stop)
          (flags i (omega arith)))

      at_most_n : (count k a ≤ n → ⊥) → ⊥
      at_most_n stop = family k (omega arith)
          (λ x ind inside. stop (at_most F Z p q U A n js B P P_sub.zero-in (count k a) x ind))

  -- there are at most n·s steps, where p to the s brings J into the first
  bound : (s k : ℕ) (C : ℕ → V → Type 0) → Rising k C → ((x : V) → J x → C zero (up A p s x)) → (t : ℕ → ℕ)
      → ((i : ℕ) → i < k → (t i ≡ 0) ⊎ ((t i ≡ 1) × Step C i)) → (count k t ≤ n * s → ⊥) → ⊥
  bound zero k C R low t flags stop =
      let up_to : (i : ℕ) → i < suc k → Within J (C i) = go in
      let none : (i : ℕ) → i < k → t i ≡ 0 = λ i l. ⊎_elim (λ z. z)
      (λ (w : (t i ≡ 1) × Step C i).
      absurd (w.1.2 (up_to i (omega arith) w.1.0 (R.inside (suc i) (omega arith) w.1.0 w.1.1)))) (flags i l) in
      let e = count_none k t none in stop (omega arith)
    where
      go : (i : ℕ) → i < suc k → Within J (C i)
      go zero l x h = low x h
      go (suc i) l x h = R.rises i (omega arith) x (go i (omega arith) x h)
  bound (suc s) k C R low t flags stop =
      let D : ℕ → Type 0 = λ i. (x : V) × C (suc i) x × (Plus k C R i x → ⊥) in
      let E : ℕ → Type 0 = Step (Under k C R) in
      let Q : ℕ → ℕ × ℕ → Type 0 = λ i m. (t i ≤ m.0 + m.1) × ((m.0 ≡ 0) ⊎ ((m.0 ≡ 1) × D i))
      × ((m.1 ≡ 0) ⊎ ((m.1 ≡ 1) × E i)) in
      all_not_not k (λ i. (m : ℕ × ℕ) × Q i m)
      (λ i l none. ⊎_elim
      (λ (z : t i ≡ 0). none ((0, 0), (omega arith, inl refl, inl refl)))
      (λ (w : (t i ≡ 1) × Step C i). let w0 = w.0 in split k C R i l w.1 (λ d. ⊎_elim
      (λ (v : D i). none ((1, 0), (omega arith, inr (refl, v), inl refl)))
      (λ (v : E i). none ((0, 1), (omega arith, inl refl, inr (refl, v)))) d))
      (flags i l))
      (λ h.
      let m = choose_each k Q (0, 0) h in
      let a : ℕ → ℕ = λ i. (m.0 i).0 in
      let b : ℕ → ℕ = λ i. (m.0 i).1 in
      let le = count_le k t a b (λ i l. (m.1 i l).0) in
      at_most_n k C R a (λ i l. (m.1 i l).1) (λ la.
      bound s k (Under k C R) (Under_rising k C R) (Under_low k C R s low) b (λ i l. (m.1 i l).2) (λ lb.
      stop (omega arith))))

module _ {K V : Type 0} (F : FieldOn K) (Z : ValuationOn F) (p q : K) (U : UniformizerOn F Z p q)
    (A : AlgebraOn F.ring V) (n : ℕ) (B : Basis (module_of A) n) (non : Nondegenerate A n B) (os : ℕ → V)
    (ind : Independent (module_of A) n os) where
  abbrev RS : ModuleOn (integers F Z) V
  RS = restrict F Z (module_of A)

  abbrev L : V → Type 0
  L = Lattice F Z A n os

  abbrev d : ℕ → V
  d = dual_vec F Z A n B non os ind

  module _ (k : ℕ) (C : LatticeChain F Z A k L (Dual F Z A n B L)) where
    member : ℕ → V → Type 0
    member i = Lattice F Z A (C.size i) (C.vec i)

    climb : (m i : ℕ) → i + m ≡ k → Within (member i) (member k)
    unfolding member
    climb zero i e x h = let d : i ≡ k = omega arith in subst (λ j. member j x) d h
    climb (suc m) i e x h = climb m (suc i) (omega arith) x ((C.rises i (omega arith)).0 x h)

    rising : Rising F Z p q U A n B d k member
    unfolding member
    rising =
        let e = dual_lattice F Z A n B non os ind in
        record {
          sublattice = λ i. record {
            zero-in = lattice-zero F Z (module_of A) (C.size i) (C.vec i);
            add-in = λ x y h g. lattice-add F Z (module_of A) (C.size i) (C.vec i) x y h g;
            scale-in = λ c x h. lattice-scale F Z (module_of A) (C.size i) (C.vec i) c x h;
          };
          rises = λ i l. (C.rises i l).0;
          inside = λ i l x h. let m : i + (k - i) ≡ k = omega arith in e.0 x (C.ends.0 x (climb (k - i) i m x h));
          top = λ x h. C.ends.1 x (e.1 x h);
        }

    -- an element of each lattice outside of the one before
    step : (i : ℕ) → i < k → (x : V) × member (suc i) x × (member i x → ⊥)
    unfolding member
    step i l =
        let test = lattice_test F Z (module_of A) n (coords_of (module_of A) n B) (C.size i) (C.vec i) in
        ⊎_elim
        (λ (h : (j : ℕ) → j < C.size (suc i) → IsTrue (test (C.vec (suc i) j))). absurd ((C.rises i l).1 (λ x.
        lattice_trans F Z (module_of A) (C.size (suc i)) (C.size i) (C.vec (suc i)) (C.vec i) x (λ j g.
        lattice_test-in F Z (module_of A) n (coords_of (module_of A) n B) (C.size i) (C.vec i) (C.vec (suc i) j)
        (h j g)))))
        (λ (w : (j : ℕ) × (j < C.size (suc i)) × (IsTrue (test (C.vec (suc i) j)) → ⊥)). (
          C.vec (suc i) w.0,
          lattice-member F Z (module_of A) (C.size (suc i)) w.0 (C.vec (suc i)) w.1,
          λ h. w.2 (in-lattice_test F Z (module_of A) n (coords_of (module_of A) n B) (C.size i) (C.vec i)
              (C.vec (suc i) w.0) h),
        ))
        (all_or_not (C.size (suc i)) (λ j. test (C.vec (suc i) j)))

    at_most_chain : (s : ℕ) → ((i : ℕ) → i < n → Low F Z p q U A n os s (d i)) → k ≤ n * s
    unfolding member
    at_most_chain s low = ⊎_elim
        (λ (g : n * s < k). absurd (bound F Z p q U A n B d s k member rising
        (λ x h. C.starts.1 (up A p s x)
        (lattice_in F Z (module_of A) (Low F Z p q U A n os s) (Low_sub F Z p q U A n os s) n d low x h))
        (λ _. 1) (λ i l. inr (refl, step i l)) (λ le. let e = count_ones k in omega arith)))
        (λ g. g) (cases_lt (n * s) k)

  -- the chains from a lattice of full rank to its dual are bounded in length
  pub length_bounded : (b : ℕ) × ((k : ℕ) → LatticeChain F Z A k L (Dual F Z A n B L) → k ≤ b)
  length_bounded =
      let u = uniform (λ s i. Low F Z p q U A n os s (d i)) (λ s t i. Low_more F Z p q U A n os s t (d i)) n
      (λ i l. lowered F Z p q U A n os (spanning F A n B os ind) (d i)) in
      (n * u.0, λ k C. at_most_chain k C u.0 u.1)
