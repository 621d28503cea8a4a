-- Maximal ideals with the order as their left order: one that is larger than what it is carried into has an inverse,
-- and the powers of an invertible one fall strictly; the ideals that its powers carry into powers of p.
use Rattle.std.specs.Prelude.{◌≡◌, ℕ, zero, suc, List, [], ◌∷◌, ◌⊎◌}
use Rattle.std.proofs.Common.{refl, sym, ◌∙◌, ap, ap₂, subst, ⊎_elim}
use Rattle.theory_rings.specs.Ring.{RingOn}
use Rattle.theory_rings.specs.Power.{power}
use Rattle.theory_rings.proofs.Rings.RingLaws.{mul-zero, zero-mul}
use Rattle.theory_rings.proofs.Powers.Powers.{power_last}
use Rattle.theory_spaces.specs.Module.{AlgebraOn, module_of}
use Rattle.theory_spaces.proofs.Linear.Modules.{scale-zero}
use Rattle.theory_orders.specs.Orders.{IsOrder, IsIdeal, SumOf, Product, Products, Around, Generated, Multiple}
use Rattle.theory_orders.specs.Orders.{WordProduct, LeftOrder, Inverse, SimpleByElements, Within}
use Rattle.theory_orders.proofs.Lattices.SumsOf.{SumOf_in, SumOf_map, SumOf_zero, SumOf_one, SumOf_add, SumOf_left}
use Rattle.theory_orders.proofs.Lattices.SumsOf.{SumOf_right}
use Rattle.theory_orders.proofs.Lattices.Multiples.{up, up-left, up-right, up-add, up-zero, Multiple-of, of-Multiple}
use Rattle.theory_orders.proofs.Splitting.Chains.{Chain, Chain_first, Chain_last, Chain_unlast, Chain_left, Chain_right}
use Rattle.theory_orders.proofs.Splitting.Chains.{Chain_left_of, Chain_right_of, Chain_inside}

module _ {K V : Type 0} {R : RingOn K} (A : AlgebraOn R V) (p q : K) (pq : R.◌⊗◌ p q ≡ R.one) (qp : R.◌⊗◌ q p ≡ R.one)
    (L : V → Type 0) (O : IsOrder A L) where
  infixl 65 ◌⊕◌
  infixl 70 ◌⊗◌
  infixl 70 ◌•◌
  open A use {◌⊕◌, ◌⊗◌, ◌•◌}

  -- a maximal ideal over p·L whose left order is L
  pub record MaximalIdeal (M : V → Type 0) : Type 0 where
    pub ideal : IsIdeal A L M
    pub over : (x : V) → L x → M (p • x)
    pub simple : SimpleByElements A L M
    pub left_order : Within (LeftOrder A M) L

  -- one is a sum of a power of one term and a multiple of the other
  pub mixed_power : (Q : V → Type 0) → IsIdeal A L Q → (a b : V) → Q a → L b → A.one ≡ a ⊕ b → (k : ℕ) → (c : V) × Q c
      × (A.one ≡ c ⊕ power A.ring b k)
  mixed_power Q I a b ha lb e zero = (A.zero, I.zero_in, sym (A.zero-add A.one))
  mixed_power Q I a b ha lb e (suc k) =
      let r = mixed_power Q I a b ha lb e k in (
        a ⊕ b ⊗ r.0,
        I.add_in a (b ⊗ r.0) ha (I.left b r.0 lb r.1),
        e ∙ ap (λ z. a ⊕ z) (sym (A.mul-one b) ∙ ap (λ z. b ⊗ z) r.2 ∙ A.mul-add b r.0 (power A.ring b k))
            ∙ sym (A.add_assoc a (b ⊗ r.0) (b ⊗ power A.ring b k)),
      )

  pub power_in : (b : V) → L b → (k : ℕ) → L (power A.ring b k)
  power_in b h zero = O.one_in
  power_in b h (suc k) = O.mul_in b (power A.ring b k) h (power_in b h k)

  pub ideal_power : (Q : V → Type 0) → IsIdeal A L Q → (b : V) → Q b → (k : ℕ) → Q (power A.ring b (suc k))
  ideal_power Q I b h k = I.right (power A.ring b k) b (power_in b (I.inside b h) k) h

  -- p to the s times L
  abbrev pub Deep : ℕ → V → Type 0
  Deep s x = (y : V) × L y × (x ≡ up A p s y)

  -- what T carries into p to the s times L from both sides
  abbrev pub Carried : (V → Type 0) → ℕ → V → Type 0
  Carried T s c = L c × ((u : V) → T u → Deep s (c ⊗ u)) × ((u : V) → T u → Deep s (u ⊗ c))

  Deep_zero : (s : ℕ) → Deep s A.zero
  Deep_zero s = (A.zero, O.zero_in, sym (up-zero A p s))

  Deep_add : (s : ℕ) (x y : V) → Deep s x → Deep s y → Deep s (x ⊕ y)
  Deep_add s x y h g = (h.0 ⊕ g.0, O.add_in h.0 g.0 h.1 g.1, ap₂ A.◌⊕◌ h.2 g.2 ∙ sym (up-add A p s h.0 g.0))

  Deep_left : (s : ℕ) (l x : V) → L l → Deep s x → Deep s (l ⊗ x)
  Deep_left s l x hl h = (l ⊗ h.0, O.mul_in l h.0 hl h.1, ap (λ z. l ⊗ z) h.2 ∙ up-right A p s l h.0)

  Deep_right : (s : ℕ) (l x : V) → L l → Deep s x → Deep s (x ⊗ l)
  Deep_right s l x hl h = (h.0 ⊗ l, O.mul_in h.0 l h.1 hl, ap (λ z. z ⊗ l) h.2 ∙ up-left A p s h.0 l)

  pub Carried_ideal : (T : V → Type 0) → ((l x : V) → L l → T x → T (l ⊗ x)) → ((x l : V) → T x → L l → T (x ⊗ l))
      → (s : ℕ) → IsIdeal A L (Carried T s)
  Carried_ideal T tl tr s = record {
    inside = λ x h. h.0;
    zero_in = (
      O.zero_in,
      λ u hu. subst (Deep s) (sym (zero-mul A.ring u)) (Deep_zero s),
      λ u hu. subst (Deep s) (sym (mul-zero A.ring u)) (Deep_zero s),
    );
    add_in = λ x y h g. (
      O.add_in x y h.0 g.0,
      λ u hu. subst (Deep s) (sym (A.add-mul x y u)) (Deep_add s (x ⊗ u) (y ⊗ u) (h.1 u hu) (g.1 u hu)),
      λ u hu. subst (Deep s) (sym (A.mul-add u x y)) (Deep_add s (u ⊗ x) (u ⊗ y) (h.2 u hu) (g.2 u hu)),
    );
    left = λ l x hl h. (
      O.mul_in l x hl h.0,
      λ u hu. subst (Deep s) (sym (A.mul_assoc l x u)) (Deep_left s l (x ⊗ u) hl (h.1 u hu)),
      λ u hu. subst (Deep s) (A.mul_assoc u l x) (h.2 (u ⊗ l) (tr u l hu hl)),
    );
    right = λ l x hl h. (
      O.mul_in x l h.0 hl,
      λ u hu. subst (Deep s) (sym (A.mul_assoc x l u)) (h.1 (l ⊗ u) (tl l u hl hu)),
      λ u hu. subst (Deep s) (A.mul_assoc u x l) (Deep_right s l (u ⊗ x) hl (h.2 u hu)),
    );
  }

  -- powers of a member of an ideal J at the head of a chain
  pub power_chain : (J T : V → Type 0) (a z : V) → J a → T z → (k : ℕ) → Chain A J T k (power A.ring a k ⊗ z)
  power_chain J T a z ha hz zero = subst T (sym (A.one-mul z)) hz
  power_chain J T a z ha hz (suc k) =
      (a, power A.ring a k ⊗ z, ha, power_chain J T a z ha hz k, A.mul_assoc a (power A.ring a k) z)

  module _ (J : V → Type 0) (IJ : IsIdeal A L J) (e : ℕ) where
    -- the powers of J, e at a time
    pub Level : ℕ → V → Type 0
    Level zero = L
    Level (suc t) = Chain A J (Level t) e

    pub Level_left : (t : ℕ) (l x : V) → L l → Level t x → Level t (l ⊗ x)
    unfolding Level
    Level_left zero l x hl h = O.mul_in l x hl h
    Level_left (suc t) l x hl h = Chain_left_of A L O J IJ (Level t) (Level_left t) e l x hl h

    pub Level_right : (t : ℕ) (x l : V) → Level t x → L l → Level t (x ⊗ l)
    unfolding Level
    Level_right zero x l h hl = O.mul_in x l h hl
    Level_right (suc t) x l h hl = Chain_right_of A L O J IJ (Level t) (Level_right t) e x l h hl

    pub power_level : (a : V) → J a → (t : ℕ) → Level t (power A.ring (power A.ring a e) t)
    unfolding Level
    power_level a h zero = O.one_in
    power_level a h (suc t) = power_chain J (Level t) a (power A.ring (power A.ring a e) t) h (power_level a h t) e

    up_one : (t : ℕ) (y : V) → p • up A p t y ≡ up A p t (p • y)
    up_one zero y = refl
    up_one (suc t) y = ap (λ z. p • z) (up_one t y)

    step_left : (t : ℕ) (b c w v : V) (z : Deep 1 (b ⊗ w)) → Deep t (c ⊗ (z.0 ⊗ v)) → Deep (suc t) ((c ⊗ b) ⊗ (w ⊗ v))
    step_left t b c w v z x = (
      x.0,
      x.1,
      A.mul_assoc c b (w ⊗ v) ∙ ap (λ y. c ⊗ y) (sym (A.mul_assoc b w v) ∙ ap (λ y. y ⊗ v) z.2 ∙ A.scale-left p z.0 v)
          ∙ A.scale-right p c (z.0 ⊗ v) ∙ ap (λ y. p • y) x.2,
    )

    step_right : (t : ℕ) (b c w v : V) (x : Deep t (v ⊗ c)) → Deep 1 ((w ⊗ x.0) ⊗ b) → Deep (suc t) ((w ⊗ v) ⊗ (c ⊗ b))
    step_right t b c w v x z = (
      z.0,
      z.1,
      sym (A.mul_assoc (w ⊗ v) c b) ∙ ap (λ y. y ⊗ b) (A.mul_assoc w v c ∙ ap (λ y. w ⊗ y) x.2 ∙ up-right A p t w x.0)
          ∙ up-left A p t (w ⊗ x.0) b ∙ ap (up A p t) z.2 ∙ sym (up_one t z.0),
    )

    carried_step : (t : ℕ) (b c : V) → Carried (Chain A J L e) 1 b → Carried (Level t) t c
        → Carried (Level (suc t)) (suc t) (c ⊗ b)
    unfolding Level
    carried_step t b c h r = (
      O.mul_in c b r.0 h.0,
      λ u hu.
          let d = Chain_first A L O J (Level t) e u hu in
          let z = h.1 d.0 d.2 in
          subst (λ u. Deep (suc t) ((c ⊗ b) ⊗ u)) (sym d.4)
          (step_left t b c d.0 d.1 z (r.1 (z.0 ⊗ d.1) (Level_left t z.0 d.1 z.1 d.3))),
      λ u hu.
          let d = Chain_first A L O J (Level t) e u hu in
          let x = r.2 d.1 d.3 in
          subst (λ u. Deep (suc t) (u ⊗ (c ⊗ b))) (sym d.4)
          (step_right t b c d.0 d.1 x (h.2 (d.0 ⊗ x.0) (Chain_right A L O J IJ e d.0 x.0 d.2 x.1))),
    )

    -- what e members of J carry into p·L has powers that the levels carry into powers of p
    pub carried_power : (b : V) → Carried (Chain A J L e) 1 b → (t : ℕ) → Carried (Level t) t (power A.ring b t)
    unfolding Level
    carried_power b h zero = (O.one_in, λ u hu. (u, hu, A.one-mul u), λ u hu. (u, hu, A.mul-one u))
    carried_power b h (suc t) =
        subst (Carried (Level (suc t)) (suc t)) (sym (power_last A.ring b t))
        (carried_step t b (power A.ring b t) h (carried_power b h t))

  module _ (M : V → Type 0) (H : MaximalIdeal M) where
    abbrev I : IsIdeal A L M
    I = H.ideal

    abbrev X : V → Type 0
    X = Inverse A L M

    abbrev Ch : ℕ → V → Type 0
    Ch = Chain A M L

    -- sums of products of k members
    abbrev S : ℕ → V → Type 0
    S k = SumOf A (Ch k)

    abbrev pub LeftUnit : Type 0
    LeftUnit = Products A X M A.one

    abbrev pub RightUnit : Type 0
    RightUnit = Products A M X A.one

    p_in : (x : V) → L x → L (p • x)
    p_in x l = I.inside (p • x) (H.over x l)

    pub left_unit : (Within X L → ⊥) → (LeftUnit → ⊥) → ⊥
    left_unit big stop = big (λ a h. H.left_order a (λ j hj. ⊎_elim (λ w. w)
        (λ (r : Generated A L M (a ⊗ j) A.one).
        absurd (stop (SumOf_map A (λ x. Around A L (a ⊗ j) x ⊎ M x) (Product A X M) (λ x. ⊎_elim
        (λ (w : Around A L (a ⊗ j) x). (
          w.0 ⊗ a,
          j ⊗ w.1,
          (λ y hy. subst L (sym (A.mul_assoc w.0 a y)) (O.mul_in w.0 (a ⊗ y) w.2 (h y hy))),
          I.right w.1 j w.3 hj,
          w.4 ∙ ap (λ z. z ⊗ w.1) (sym (A.mul_assoc w.0 a j)) ∙ A.mul_assoc (w.0 ⊗ a) j w.1,
        ))
        (λ (w : M x). (
          A.one,
          x,
          (λ y hy. subst L (sym (A.one-mul y)) (I.inside y hy)),
          w,
          sym (A.one-mul x),
        ))) A.one r)))
        (H.simple.generates (a ⊗ j) (h j hj))))

    -- a member of M times one of the inverse is in L
    pub M_X : (m x : V) → M m → X x → L (m ⊗ x)
    M_X m x hm hx = H.left_order (m ⊗ x) (λ j hj. subst M (sym (A.mul_assoc m x j)) (I.right (x ⊗ j) m (hx j hj) hm))

    pub X_right : (x r : V) → X x → L r → X (x ⊗ r)
    X_right x r hx hr j hj = subst L (sym (A.mul_assoc x r j)) (hx (r ⊗ j) (I.left r j hr hj))

    pub X_left : (l x : V) → L l → X x → X (l ⊗ x)
    X_left l x hl hx j hj = subst L (sym (A.mul_assoc l x j)) (O.mul_in l (x ⊗ j) hl (hx j hj))

    pub right_unit : (Within X L → ⊥) → LeftUnit → (RightUnit → ⊥) → ⊥
    right_unit big u stop = big (λ x hx.
        let inside : (m : V) → M m → M (m ⊗ x) = λ m hm. ⊎_elim (λ w. w)
        (λ (r : Generated A L M (m ⊗ x) A.one).
        absurd (stop (SumOf_map A (λ y. Around A L (m ⊗ x) y ⊎ M y) (Product A M X) (λ y. ⊎_elim
        (λ (w : Around A L (m ⊗ x) y). (
          w.0 ⊗ m,
          x ⊗ w.1,
          I.left w.0 m w.2 hm,
          X_right x w.1 hx w.3,
          w.4 ∙ ap (λ z. z ⊗ w.1) (sym (A.mul_assoc w.0 m x)) ∙ A.mul_assoc (w.0 ⊗ m) x w.1,
        ))
        (λ (w : M y). (
          y,
          A.one,
          w,
          (λ j hj. subst L (sym (A.one-mul j)) (I.inside j hj)),
          sym (A.mul-one y),
        ))) A.one r)))
        (H.simple.generates (m ⊗ x) (M_X m x hm hx)) in
        subst L (A.one-mul x) (SumOf_in A L L O.zero_in O.add_in (λ y h. h) (A.one ⊗ x)
        (SumOf_right A (Product A X M) L x (λ y w.
        subst L (sym (ap (λ z. z ⊗ x) w.4 ∙ A.mul_assoc w.0 w.1 x)) (w.2 (w.1 ⊗ x) (inside w.1 w.3))) A.one u)))

    -- what carries products of k members of M into L from both sides
    abbrev Y : ℕ → V → Type 0
    Y k y = ((c : V) → Ch k c → L (y ⊗ c)) × ((c : V) → Ch k c → L (c ⊗ y))

    Y_one : Y zero A.one
    Y_one = (λ c h. subst L (sym (A.one-mul c)) h, λ c h. subst L (sym (A.mul-one c)) h)

    Y_before : (k : ℕ) (x y : V) → X x → Y k y → Y (suc k) (x ⊗ y)
    Y_before k x y hx hy = (
      λ c h.
          let d = Chain_unlast A L O M I k c h in
          subst L (sym (A.mul_assoc x y c ∙ ap (λ z. x ⊗ z) (ap (λ z. y ⊗ z) d.4 ∙ sym (A.mul_assoc y d.0 d.1))))
          (hx ((y ⊗ d.0) ⊗ d.1) (I.left (y ⊗ d.0) d.1 (hy.0 d.0 d.2) d.3)),
      λ c h.
          let d = Chain_unlast A L O M I k c h in
          subst L (sym (ap (λ z. z ⊗ (x ⊗ y)) d.4 ∙ A.mul_assoc d.0 d.1 (x ⊗ y)
          ∙ ap (λ z. d.0 ⊗ z) (sym (A.mul_assoc d.1 x y)) ∙ sym (A.mul_assoc d.0 (d.1 ⊗ x) y)))
          (hy.1 (d.0 ⊗ (d.1 ⊗ x)) (Chain_right A L O M I k d.0 (d.1 ⊗ x) d.2 (M_X d.1 x d.3 hx))),
    )

    Y_after : (k : ℕ) (x y : V) → X x → Y k y → Y (suc k) (y ⊗ x)
    Y_after k x y hx hy = (
      λ c h. subst L (sym (ap (λ z. (y ⊗ x) ⊗ z) h.4 ∙ A.mul_assoc y x (h.0 ⊗ h.1)
          ∙ ap (λ z. y ⊗ z) (sym (A.mul_assoc x h.0 h.1))))
          (hy.0 ((x ⊗ h.0) ⊗ h.1) (Chain_left A L O M I k (x ⊗ h.0) h.1 (hx h.0 h.2) h.3)),
      λ c h. subst L (sym (ap (λ z. z ⊗ (y ⊗ x)) h.4 ∙ A.mul_assoc h.0 h.1 (y ⊗ x)
          ∙ ap (λ z. h.0 ⊗ z) (sym (A.mul_assoc h.1 y x)) ∙ sym (A.mul_assoc h.0 (h.1 ⊗ y) x)))
          (M_X (h.0 ⊗ (h.1 ⊗ y)) x (I.right (h.1 ⊗ y) h.0 (hy.1 h.1 h.3) h.2) hx),
    )

    -- one as a sum of products of k members of M and what carries such products into L
    pub right_powers : RightUnit → (k : ℕ) → Products A (Ch k) (Y k) A.one
    right_powers r zero =
        SumOf_one A (Product A (Ch zero) (Y zero)) A.one (A.one, A.one, O.one_in, Y_one, sym (A.one-mul A.one))
    right_powers r (suc k) =
        let P = Product A (Ch (suc k)) (Y (suc k)) in
        SumOf_in A (Product A (Ch k) (Y k)) (SumOf A P) (SumOf_zero A P) (SumOf_add A P) (λ z w.
        let u = w.0 in
        let y = w.1 in
        let Q : V → Type 0 = λ t. (m : V) × (x : V) × M m × X x × (t ≡ u ⊗ (m ⊗ x)) in
        subst (SumOf A P) (ap (λ t. t ⊗ y) (A.mul-one u) ∙ sym w.4)
        (SumOf_right A Q P y (λ t h. (
          u ⊗ h.0,
          h.1 ⊗ y,
          Chain_last A L O M I k u h.0 w.2 h.2,
          Y_before k h.1 y h.3 w.3,
          ap (λ s. s ⊗ y) (h.4 ∙ sym (A.mul_assoc u h.0 h.1)) ∙ A.mul_assoc (u ⊗ h.0) h.1 y,
        )) (u ⊗ A.one) (SumOf_left A (Product A M X) Q u (λ t h. (h.0, h.1, h.2, h.3, ap (λ s. u ⊗ s) h.4)) A.one r)))
        A.one (right_powers r k)

    pub left_powers : LeftUnit → (k : ℕ) → Products A (Y k) (Ch k) A.one
    left_powers r zero = SumOf_one A (Product A (Y zero) (Ch zero)) A.one
        (A.one, A.one, Y_one, O.one_in, sym (A.one-mul A.one))
    left_powers r (suc k) =
        let P = Product A (Y (suc k)) (Ch (suc k)) in
        SumOf_in A (Product A (Y k) (Ch k)) (SumOf A P) (SumOf_zero A P) (SumOf_add A P) (λ z w.
        let y = w.0 in
        let u = w.1 in
        let Q : V → Type 0 = λ t. (x : V) × (m : V) × X x × M m × (t ≡ y ⊗ (x ⊗ m)) in
        subst (SumOf A P) (ap (λ t. t ⊗ u) (A.mul-one y) ∙ sym w.4)
        (SumOf_right A Q P u (λ t h. (
          y ⊗ h.0,
          h.1 ⊗ u,
          Y_after k h.0 y h.2 w.2,
          (h.1, u, h.3, w.3, refl),
          ap (λ s. s ⊗ u) (h.4 ∙ sym (A.mul_assoc y h.0 h.1)) ∙ A.mul_assoc (y ⊗ h.0) h.1 u,
        )) (y ⊗ A.one) (SumOf_left A (Product A X M) Q y (λ t h. (h.0, h.1, h.2, h.3, ap (λ s. y ⊗ s) h.4)) A.one r)))
        A.one (left_powers r k)

    -- the powers of M, a set that is stable, fall strictly
    pub falls_strictly : ((x : V) → ((M x → ⊥) → ⊥) → M x) → LeftUnit → (k : ℕ)
        → ((c : V) → Ch k c → (S (suc k) c → ⊥) → ⊥) → ⊥
    falls_strictly stable r k h = H.simple.proper (SumOf_in A (Product A (Y k) (Ch k)) M I.zero_in I.add_in (λ z w.
        let y = w.0 in
        stable z (λ out. h w.1 w.3
        (λ s. out (subst M (sym w.4)
        (SumOf_in A (Ch (suc k)) (λ v. M (y ⊗ v)) (subst M (sym (mul-zero A.ring y)) I.zero_in)
        (λ a b ha hb. subst M (sym (A.mul-add y a b)) (I.add_in (y ⊗ a) (y ⊗ b) ha hb)) (λ v c.
        let d = Chain_unlast A L O M I k v c in
        subst M (sym (ap (λ t. y ⊗ t) d.4 ∙ sym (A.mul_assoc y d.0 d.1)))
        (I.left (y ⊗ d.0) d.1 (w.2.0 d.0 d.2) d.3)) w.1 s))))) A.one (left_powers r k))

    -- what e members of M carry into p·L from both sides
    abbrev pub Conductor : ℕ → V → Type 0
    Conductor e = Carried (Ch e) 1

    pub Conductor_ideal : (e : ℕ) → IsIdeal A L (Conductor e)
    Conductor_ideal e = Carried_ideal (Ch e) (Chain_left A L O M I e) (Chain_right A L O M I e) 1

    pub Conductor_over : (e : ℕ) → Within (Multiple A p L) (Conductor e)
    Conductor_over e x m = (
      subst L (sym m.2) (p_in m.0 m.1),
      λ u hu. (m.0 ⊗ u, O.mul_in m.0 u m.1 (inside u hu), ap (λ z. z ⊗ u) m.2 ∙ A.scale-left p m.0 u),
      λ u hu. (u ⊗ m.0, O.mul_in u m.0 (inside u hu) m.1, ap (λ z. u ⊗ z) m.2 ∙ A.scale-right p u m.0),
    )
      where
        inside : (u : V) → Ch e u → L u
        inside u h = Chain_inside A L O M I e u h

    -- where p is a sum of products of e members of M and not of one more, M does not hold all of Conductor e
    pub Conductor_beyond : RightUnit → (e : ℕ) → S e (p • A.one) → (S (suc e) (p • A.one) → ⊥)
        → Within (Conductor e) M → ⊥
    Conductor_beyond r e at not h = not (SumOf_in A (Product A (Ch e) (Y e)) (λ z. S (suc e) (p • z))
        (subst (S (suc e)) (sym (scale-zero (module_of A) p)) (SumOf_zero A (Ch (suc e))))
        (λ a b ha hb. subst (S (suc e)) (sym (A.scale-add p a b)) (SumOf_add A (Ch (suc e)) (p • a) (p • b) ha hb))
        (λ z w.
        let u = w.0 in
        let y = w.1 in
        let py : L (p • y) = subst L (A.scale-left p A.one y ∙ ap (λ t. p • t) (A.one-mul y))
        (SumOf_in A (Ch e) (λ v. L (v ⊗ y)) (subst L (sym (zero-mul A.ring y)) O.zero_in)
        (λ a b ha hb. subst L (sym (A.add-mul a b y)) (O.add_in (a ⊗ y) (b ⊗ y) ha hb)) w.3.1 (p • A.one) at) in
        let co : Conductor e (p • y) = (
          py,
          λ v hv. (y ⊗ v, w.3.0 v hv, A.scale-left p y v),
          λ v hv. (v ⊗ y, w.3.1 v hv, A.scale-right p v y),
        ) in
        subst (S (suc e)) (A.scale-right p u y ∙ ap (λ t. p • t) (sym w.4))
        (SumOf_one A (Ch (suc e)) (u ⊗ (p • y)) (Chain_last A L O M I e u (p • y) w.2 (h (p • y) co))))
        A.one (right_powers r e))

  module _ {X : Type 0} (M : X → V → Type 0) where
    -- where a word falls into p·L, some letter has an inverse from both sides
    pub some_invertible : (H : (i : X) → MaximalIdeal (M i)) → (Multiple A p L A.one → ⊥) → (u : List X)
        → Within (WordProduct A L M u) (Multiple A p L)
        → ((i : X) → LeftUnit (M i) (H i) → RightUnit (M i) (H i) → ⊥) → ⊥
    some_invertible H proper [] f stop = proper (f A.one O.one_in)
    some_invertible H proper (i ∷ u) f stop =
        let big : Within (Inverse A L (M i)) L → ⊥ = λ small.
        some_invertible H proper u (λ y h.
        let carries : Inverse A L (M i) (q • y) = λ j hj.
        subst L (sym (A.scale-left q y j)) (of-Multiple A p q pq qp L (y ⊗ j) (f (y ⊗ j) (y, j, h, hj, refl))) in
        Multiple-of A p q pq qp L y (small (q • y) carries)) stop in
        left_unit (M i) (H i) big (λ l. right_unit (M i) (H i) big l (λ r. stop i l r))
