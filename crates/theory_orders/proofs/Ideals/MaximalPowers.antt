-- A maximal ideal over p times an order, with the order as its left order and an inverse: p times the order is a power
-- of it, where the ideal is nilpotent modulo p, or the centre of the algebra is the scalars. All of it is said of
-- absurdity.
use Rattle.std.specs.Prelude.{◌≡◌, ℕ, zero, suc, ◌+◌, ◌<◌, ◌≤◌, ◌⊎◌}
use Rattle.std.proofs.Common.{refl, sym, ◌∙◌, ap, ap₂, subst, arith, inl, inr, ⊎_elim}
use Rattle.std.proofs.lemmas.Bool.{cases_lt}
use Rattle.theory_rings.specs.Ring.{FieldOn}
use Rattle.theory_rings.specs.Power.{power}
use Rattle.theory_rings.proofs.Rings.RingLaws.{add-neg, add-zero}
use Rattle.theory_rings.proofs.Rings.ZeroTests.{eq_zero_or}
use Rattle.theory_rings.proofs.Rings.Solver.{◌⊞◌, ◌⊠◌, minus, words3}
use Rattle.theory_spaces.specs.Module.{AlgebraOn, module_of}
use Rattle.theory_spaces.specs.Linear.{Basis}
use Rattle.theory_spaces.specs.Algebra.{Central}
use Rattle.theory_spaces.specs.Valuation.{ValuationOn}
use Rattle.theory_spaces.proofs.Linear.Families.{push, push-below, push-at, below_suc}
use Rattle.theory_orders.specs.Uniformizer.{IsIntegral, IsUnit, UniformizerOn}
use Rattle.theory_orders.specs.Orders.{IsOrder, IsIdeal, SumOf, Generated, Multiple, Within}
use Rattle.theory_orders.specs.Lattices.{Lattice, IsOrderAt}
use Rattle.theory_orders.proofs.Lattices.SumsOf.{SumOf_map, SumOf_one}
use Rattle.theory_orders.proofs.Ideals.Ideals.{Both, Both_ideal, IdealSum, IdealSum_ideal, generated_in}
use Rattle.theory_orders.proofs.Lattices.Multiples.{up, Multiple-of, Multiple-ideal}
use Rattle.theory_orders.proofs.Splitting.Chains.{Chain, Chain_inside, Chain_ideal, Chain_fewer}
use Rattle.theory_orders.proofs.Lattices.Scaling.{Lam_scale, Lam_up}
use Rattle.theory_orders.proofs.Splitting.Ramified.{spanning}
use Rattle.theory_orders.proofs.Lattices.Independence.{IsSublattice, IndependentMod, ideal_sublattice, sub_neg}
use Rattle.theory_orders.proofs.Lattices.Independence.{grow_down, at_most}
use Rattle.theory_orders.proofs.Ideals.InvertibleIdeals.{MaximalIdeal, LeftUnit, RightUnit, Carried, Carried_ideal}
use Rattle.theory_orders.proofs.Ideals.InvertibleIdeals.{Level, Level_left, Level_right, power_level, carried_power}
use Rattle.theory_orders.proofs.Ideals.InvertibleIdeals.{power_chain, mixed_power, power_in, ideal_power}
use Rattle.theory_orders.proofs.Ideals.InvertibleIdeals.{falls_strictly, Conductor, Conductor_ideal, Conductor_over}
use Rattle.theory_orders.proofs.Ideals.InvertibleIdeals.{Conductor_beyond}
use Rattle.theory_orders.proofs.Lattices.Approximation.{Near, Near_add, near_up, near_one, near_scalar}
use Rattle.theory_spaces.proofs.Linear.LatticeSpans.{lattice-neg, lattice-member}

module _ {K V : Type 0} (F : FieldOn K) (Z : ValuationOn F) (p q : K) (U : UniformizerOn F Z p q)
    (A : AlgebraOn F.ring V) (N : ℕ) (B : Basis (module_of A) N) (os : ℕ → V) (D : IsOrderAt F Z A N os) where
  infixl 65 ◌⊕◌
  infixl 70 ◌⊗◌
  infixl 70 ◌•◌
  open A use {◌⊕◌, ◌⊗◌, ◌•◌, neg}

  abbrev L : V → Type 0
  L = Lattice F Z A N os

  abbrev O : IsOrder A L
  O = D.order

  abbrev P : V → Type 0
  P = Multiple A p L

  abbrev qp : F.◌⊗◌ q p ≡ F.one
  qp = F.mul_comm q p ∙ U.pq

  abbrev In : K → Type 0
  In = IsIntegral F Z

  abbrev p1 : V
  p1 = p • A.one

  L_scale : (c : K) (x : V) → In c → L x → L (c • x)
  L_scale = Lam_scale F Z p q U A N os

  P_ideal : IsIdeal A L P
  P_ideal = Multiple-ideal A p L O (λ x l. L_scale p x U.p_in l)

  L_neg : (x : V) → L x → L (neg x)
  L_neg x l = lattice-neg F Z (module_of A) N os x l

  P_neg : (x : V) → P x → P (neg x)
  P_neg = sub_neg F Z p q U A N os P (ideal_sublattice F Z p q U A N os O P P_ideal)

  P_of : (x : V) → L (q • x) → P x
  P_of = Multiple-of A p q U.pq qp L

  -- a scalar multiple of one in the order is integral, unless p times the order holds one
  integral_of : (P A.one → ⊥) → (k : K) → L (k • A.one) → In k
  integral_of proper k l = ⊎_elim (λ h. h)
      (λ (h : In (F.inv k)). ⊎_elim
      (λ (e : k ≡ F.zero). subst In (sym e) Z.zero_in)
      (λ (d : k ≡ F.zero → ⊥). ⊎_elim
      (λ (i : In (F.◌⊗◌ q (F.inv k))). absurd (proper (P_of A.one
      (subst L (A.mul-scale q (F.inv k) (k • A.one)
      ∙ ap (λ y. q • y) (sym (A.mul-scale (F.inv k) k A.one) ∙ ap (λ a. a • A.one) (F.inv-mul k d)
      ∙ A.one-scale A.one))
      (L_scale (F.◌⊗◌ q (F.inv k)) (k • A.one) i l)))))
      (λ (u : IsUnit F Z (F.inv k)). subst In (inv_inv k d u.0) u.1)
      (U.multiple_or_unit (F.inv k) h))
      (eq_zero_or F.zero_test k))
      (Z.total k)
    where
      inv_inv : (k : K) → (k ≡ F.zero → ⊥) → (F.inv k ≡ F.zero → ⊥) → F.inv (F.inv k) ≡ k
      inv_inv k d n = sym (F.mul-one (F.inv (F.inv k))) ∙ ap (F.◌⊗◌ (F.inv (F.inv k))) (sym (F.inv-mul k d))
          ∙ sym (F.mul_assoc (F.inv (F.inv k)) (F.inv k) k)
          ∙ ap (λ z. F.◌⊗◌ z k) (F.inv-mul (F.inv k) n) ∙ F.one-mul k

  -- of two elements with sum one and product 0, both modulo p, one that is near to a scalar is 0, or the other is
  scalar_split : (P A.one → ⊥) → (x y : V) → L x → L y → P (x ⊗ y) → (k : K) → P (x ⊕ neg (k • A.one)) → P x ⊎ P y
  scalar_split proper x y lx ly xy k near =
      let d = x ⊕ neg (k • A.one) in
      let x-is : d ⊕ k • A.one ≡ x = A.add_assoc x (neg (k • A.one)) (k • A.one)
      ∙ ap (λ z. x ⊕ z) (A.neg-add (k • A.one)) ∙ add-zero A.monoid x in
      let k-is : x ⊕ neg d ≡ k • A.one =
      ap (λ z. z ⊕ neg d) (sym x-is ∙ A.add_comm d (k • A.one)) ∙ A.add_assoc (k • A.one) d (neg d)
      ∙ ap (λ z. k • A.one ⊕ z) (add-neg A.additive d) ∙ add-zero A.monoid (k • A.one) in
      let int : In k = integral_of proper k
      (subst L k-is (O.add_in x (neg d) lx (P_ideal.inside (neg d) (P_neg d near)))) in
      ⊎_elim
      (λ (i : In (F.◌⊗◌ q k)).
      inl (subst P x-is (P_ideal.add_in d (k • A.one) near
      (P_of (k • A.one) (subst L (A.mul-scale q k A.one) (L_scale (F.◌⊗◌ q k) A.one i O.one_in))))))
      (λ (u : IsUnit F Z k).
      let ky : P (k • y) = subst P
      (sym (A.add-mul x (neg d) y) ∙ ap (λ z. z ⊗ y) k-is ∙ A.scale-left k A.one y ∙ ap (λ z. k • z) (A.one-mul y))
      (P_ideal.add_in (x ⊗ y) (neg d ⊗ y) xy (P_ideal.right y (neg d) ly (P_neg d near))) in
      inr (subst P (A.scale-left (F.inv k) A.one (k • y) ∙ ap (λ z. F.inv k • z) (A.one-mul (k • y))
      ∙ sym (A.mul-scale (F.inv k) k y) ∙ ap (λ a. a • y) (F.inv-mul k u.0) ∙ A.one-scale y)
      (P_ideal.left (F.inv k • A.one) (k • y) (L_scale (F.inv k) A.one u.1 O.one_in) ky)))
      (U.multiple_or_unit k int)

  module _ (M : V → Type 0) (H : MaximalIdeal A p q U.pq qp L O M) (stable : (x : V) → ((M x → ⊥) → ⊥) → M x) where
    abbrev I : IsIdeal A L M
    I = H.ideal

    abbrev pub Ch : ℕ → V → Type 0
    Ch = Chain A M L

    -- sums of products of k members
    abbrev pub S : ℕ → V → Type 0
    S k = SumOf A (Ch k)

    abbrev LU : Type 0
    LU = LeftUnit A p q U.pq qp L O M H

    abbrev RU : Type 0
    RU = RightUnit A p q U.pq qp L O M H

    abbrev C : ℕ → V → Type 0
    C = Conductor A p q U.pq qp L O M H

    S_ideal : (k : ℕ) → IsIdeal A L (S k)
    S_ideal = Chain_ideal A L O M I

    S_sub : (k : ℕ) → IsSublattice F Z p q U A N os (S k)
    S_sub k = ideal_sublattice F Z p q U A N os O (S k) (S_ideal k)

    pub S_over : (k : ℕ) → S k p1 → Within P (S k)
    S_over k h x m = subst (S k) (A.scale-left p A.one m.0 ∙ ap (λ z. p • z) (A.one-mul m.0) ∙ sym m.2)
        ((S_ideal k).right m.0 p1 m.1 h)

    S_fewer : (k : ℕ) → Within (S (suc k)) (S k)
    S_fewer k = SumOf_map A (Ch (suc k)) (Ch k) (Chain_fewer A L O M I k)

    proper : P A.one → ⊥
    proper m = H.simple.proper (subst M (sym m.2) (H.over m.0 m.1))

    -- as many vectors as there are powers of M over p
    witnesses : LU → (k : ℕ) → S k p1
        → ((x : ℕ → V) → IndependentMod F Z p q U A N os (S k) k x → ((i : ℕ) → i < k → L (x i)) → ⊥) → ⊥
    witnesses l zero h stop =
        stop os (record { no_unit = λ c int s i g u. absurd (omega arith) }) (λ i g. absurd (omega arith))
    witnesses l (suc k) h stop = witnesses l k (S_fewer k p1 h) (λ x ind lx.
        falls_strictly A p q U.pq qp L O M H stable l k (λ b hb out.
        let lb = Chain_inside A L O M I k b hb in
        stop (push k b x)
        (grow_down F Z p q U A N os (ideal_sublattice F Z p q U A N os O P P_ideal) k x (S (suc k)) (S k) ind lx
        (S_sub (suc k)) (S_sub k) (S_over (suc k) h) (S_fewer k) b lb
        (SumOf_one A (Ch k) b hb) out)
        (below_suc k (λ i. L (push k b x i)) (λ i g. subst L (sym (push-below k b x i g)) (lx i g))
        (subst L (sym (push-at k b x)) lb))))

    pub bounded : LU → (k : ℕ) → S k p1 → k ≤ N
    bounded l k h = ⊎_elim
        (λ (g : N < k). absurd
        (witnesses l k h (λ x ind lx. let m = at_most F Z p q U A N os B (S k) (S_ideal k).zero_in k x ind in
        absurd (omega arith))))
        (λ g. g) (cases_lt N k)

    -- the greatest power over p
    greatest : LU → ((e : ℕ) → S e p1 → (S (suc e) p1 → ⊥) → ⊥) → ⊥
    greatest l stop = go (suc N) zero (omega arith) (SumOf_one A (Ch zero) p1 (I.inside p1 (H.over A.one O.one_in)))
      where
        go : (f k : ℕ) → N < k + f → S k p1 → ⊥
        go zero k lt h = let g = bounded l k h in absurd (omega arith)
        go (suc f) k lt h = stop k h (λ h'. go f (suc k) (omega arith) h')

    -- M and what its greatest power over p carries into p are comaximal
    comaximal : RU → (e : ℕ) → S e p1 → (S (suc e) p1 → ⊥) → ((a b : V) → M a → C e b → A.one ≡ a ⊕ b → ⊥) → ⊥
    comaximal r e at not stop = Conductor_beyond A p q U.pq qp L O M H r e at not (λ c hc. stable c (λ out. ⊎_elim out
        (λ (g : Generated A L M c A.one).
        let I2 = IdealSum_ideal A L O M (C e) I (Conductor_ideal A p q U.pq qp L O M H e) in
        let w : IdealSum A M (C e) A.one = generated_in A L M O (IdealSum A M (C e)) I2
        (λ y hy. (y, A.zero, hy, (Conductor_ideal A p q U.pq qp L O M H e).zero_in, sym (add-zero A.monoid y))) c
        (A.zero, c, I.zero_in, hc, sym (A.zero-add c)) A.one g in
        stop w.0 w.1 w.2 w.3 w.4)
        (H.simple.generates c hc.0)))

    fall_of : (e : ℕ) → C e A.one → Within (Ch e) P
    fall_of e c u hu = subst P (A.one-mul u) (c.1 u hu)

    -- where some power of M lies in p times the order
    pub power_of_nilpotent : (n : ℕ) → Within (Ch n) P → LU → RU → ((e : ℕ) → S e p1 → Within (Ch e) P → ⊥) → ⊥
    power_of_nilpotent n falls l r stop = greatest l (λ e at not. comaximal r e at not (λ a b ha hb eq.
        let Ce = Conductor_ideal A p q U.pq qp L O M H e in
        let w = mixed_power A p q U.pq qp L O (C e) Ce b a hb (I.inside a ha) (eq ∙ A.add_comm a b) n in
        let an = power A.ring a n in
        let low : C e an = Conductor_over A p q U.pq qp L O M H e an
        (falls an (subst (Ch n) (A.mul-one an) (power_chain A p q U.pq qp L O M L a A.one ha O.one_in n))) in
        stop e at (fall_of e (subst (C e) (sym w.2) (Ce.add_in w.0 an w.1 low)))))

    -- where the centre of the algebra is the scalars
    pub power_of_central : Central A → LU → RU → ((e : ℕ) → S e p1 → Within (Ch e) P → ⊥) → ⊥
    power_of_central ct l r stop = greatest l (λ e at not. split e at not)
      where
        split : (e : ℕ) → S e p1 → (S (suc e) p1 → ⊥) → ⊥
        split zero at not = not (SumOf_one A (Ch 1) p1 (p1, A.one, H.over A.one O.one_in, O.one_in, sym (A.mul-one p1)))
        split (suc e0) at not =
            near_scalar F Z p q U A N os O (spanning F A N B os D.independent) D.independent ct
            (λ c near. comaximal r (suc e0) at not (λ a b ha hb eq.
            let e : ℕ = suc e0 in
            let s : ℕ = suc c in
            let Ce = Conductor_ideal A p q U.pq qp L O M H e in
            let T : V → Type 0 = Level A p q U.pq qp L O M I e s in
            let R : V → Type 0 = Carried A p q U.pq qp L O T s in
            let IR : IsIdeal A L R =
            Carried_ideal A p q U.pq qp L O T (Level_left A p q U.pq qp L O M I e s)
            (Level_right A p q U.pq qp L O M I e s) s in
            let Q : V → Type 0 = Both R (C e) in
            let IQ : IsIdeal A L Q = Both_ideal A L R (C e) IR Ce in
            let bs = power A.ring b s in
            let w1 = mixed_power A p q U.pq qp L O M I a b ha hb.0 eq s in
            let a1 = w1.0 in
            let la1 = I.inside a1 w1.1 in
            let hb1 : Q bs = (
              carried_power A p q U.pq qp L O M I e b hb s,
              ideal_power A p q U.pq qp L O (C e) Ce b hb c,
            ) in
            let w2 = mixed_power A p q U.pq qp L O Q IQ bs a1 hb1 la1 (w1.2 ∙ A.add_comm a1 bs) e in
            let ae = power A.ring a1 e in
            let w3 = mixed_power A p q U.pq qp L O Q IQ w2.0 ae w2.1 (power_in A p q U.pq qp L O a1 la1 e) w2.2 s in
            finish e at c near w3.0 w3.1.0 w3.1.1 (power A.ring ae s) (power_level A p q U.pq qp L O M I e a1 w1.1 s)
            (ideal_power A p q U.pq qp L O M I ae (ideal_power A p q U.pq qp L O M I a1 w1.1 e0) c) w3.2))
          where
            finish : (e : ℕ) → S e p1 → (c : ℕ)
                → ((a : V) → ((i : ℕ) → i < N → Near F Z p q U A N os O (suc c) (a ⊗ os i ⊕ neg (os i ⊗ a))) → (k : K)
                × Near F Z p q U A N os O 1 (a ⊕ neg (k • A.one)))
                → (x : V) → Carried A p q U.pq qp L O (Level A p q U.pq qp L O M I e (suc c)) (suc c) x → C e x
                → (y : V) → Level A p q U.pq qp L O M I e (suc c) y → M y → A.one ≡ x ⊕ y → ⊥
            finish e at c near x hx cx y hy my eq =
                let s : ℕ = suc c in
                let T : V → Type 0 = Level A p q U.pq qp L O M I e s in
                let R : V → Type 0 = Carried A p q U.pq qp L O T s in
                let IR : IsIdeal A L R =
                Carried_ideal A p q U.pq qp L O T (Level_left A p q U.pq qp L O M I e s)
                (Level_right A p q U.pq qp L O M I e s) s in
                let member : (i : ℕ) → i < N → L (os i) = λ i g. lattice-member F Z (module_of A) N i os g in
                let commutes : (i : ℕ) → i < N → Near F Z p q U A N os O s (x ⊗ os i ⊕ neg (os i ⊗ x)) = λ i g.
                let b = os i in
                let lb = member i g in
                let left = (IR.right b x lb hx).1 y hy in
                let right = (IR.left (neg b) x (L_neg b lb) hx).2 y hy in
                let same : (x ⊗ b) ⊗ y ⊕ y ⊗ (neg b ⊗ x) ≡ x ⊗ b ⊕ neg (b ⊗ x) =
                words3 A.ring (λ x b y.
                ((x ⊠ b) ⊠ y ⊞ y ⊠ (minus b ⊠ x), (x ⊠ b) ⊠ (x ⊞ y) ⊞ minus ((x ⊞ y) ⊠ (b ⊠ x)))) refl x b y
                ∙ ap (λ z. (x ⊗ b) ⊗ z ⊕ neg (z ⊗ (b ⊗ x))) (sym eq)
                ∙ ap₂ (λ u v. u ⊕ neg v) (A.mul-one (x ⊗ b)) (A.one-mul (b ⊗ x)) in
                subst (Near F Z p q U A N os O s) same (Near_add F Z p q U A N os O s ((x ⊗ b) ⊗ y) (y ⊗ (neg b ⊗ x))
                (near_up F Z p q U A N os O s ((x ⊗ b) ⊗ y) left.0 left.1 left.2)
                (near_up F Z p q U A N os O s (y ⊗ (neg b ⊗ x)) right.0 right.1 right.2)) in
                let k = near x commutes in
                let xy = hx.1 y hy in
                let xy_P : P (x ⊗ y) = (up A p c xy.0, Lam_up F Z p q U A N os c xy.0 xy.1, xy.2) in
                let ly : L y = I.inside y my in
                ⊎_elim
                (λ (h : P x). H.simple.proper (subst M (sym eq) (I.add_in x y (subst M (sym h.2) (H.over h.0 h.1)) my)))
                (λ (h : P y). stop e at
                (fall_of e (subst (C e) (sym eq)
                ((Conductor_ideal A p q U.pq qp L O M H e).add_in x y cx
                (Conductor_over A p q U.pq qp L O M H e y h)))))
                (scalar_split proper x y hx.0 ly xy_P k.0
                (P_of (x ⊕ neg (k.0 • A.one)) (near_one F Z p q U A N os O (x ⊕ neg (k.0 • A.one)) k.1)))
