-- Powers of sets of elements by operations that obey the laws of a ring on a set: a power of an ideal is 0 just where
-- products of as many members are; powers by sets with the same members.
use Rattle.std.specs.Prelude.{◌≡◌, ℕ, zero, suc, ◌+◌, ◌<◌}
use Rattle.std.proofs.Common.{refl, sym, ◌∙◌, ap, ap₂, subst, arith, ⊎_elim}
use Rattle.std.proofs.lemmas.Bool.{cases_lt}
use Rattle.theory_spaces.specs.Sets.{RingOps, Within, Same, Zero, Products, Power, ProductsVanish, total, product}
use Rattle.theory_spaces.proofs.Linear.Families.{push, push-below, push-at, push-above}

-- on L the operations obey the laws of a ring that are used here
pub record RingLawsOn {V : Type 0} (S : RingOps V) (L : V → Type 0) (one : V) : Type 0 where
  pub one_in : L one
  pub zero_in : L S.zero
  pub add_in : (x y : V) → L x → L y → L (S.add x y)
  pub mul_in : (x y : V) → L x → L y → L (S.mul x y)
  pub zero-add : (x : V) → L x → S.add S.zero x ≡ x
  pub add-mul : (x y z : V) → L x → L y → L z → S.mul (S.add x y) z ≡ S.add (S.mul x z) (S.mul y z)
  pub zero-mul : (x : V) → L x → S.mul S.zero x ≡ S.zero
  pub mul-zero : (x : V) → L x → S.mul x S.zero ≡ S.zero
  pub mul-one : (x : V) → L x → S.mul x one ≡ x
  pub mul_assoc : (x y z : V) → L x → L y → L z → S.mul (S.mul x y) z ≡ S.mul x (S.mul y z)

-- products of larger sets
pub products_mono : {V : Type 0} (S : RingOps V) (I I' J J' : V → Type 0) → Within I I' → Within J J'
    → Within (Products S I J) (Products S I' J')
products_mono S I I' J J' i j x h = record {
  size = h.size;
  term = h.term;
  each = λ k l. let w = h.each k l in (w.0, w.1, i w.0 w.2, j w.1 w.3, w.4);
  gives = h.gives;
}

-- a set that is its own product with J is each further power
pub power_stable : {V : Type 0} (S : RingOps V) (I J : V → Type 0) (e : ℕ) → Same I (Power S J e)
    → Same I (Products S I J) → (d : ℕ) → Same I (Power S J (e + d))
power_stable S I J e now next zero =
    let q : e ≡ e + zero = omega arith in subst (λ k. Same I (Power S J k)) q now
power_stable S I J e now next (suc d) =
    let q : suc (e + d) ≡ e + suc d = omega arith in
    let h = power_stable S I J e now next d in
    subst (λ k. Same I (Power S J k)) q (
      λ x i. products_mono S I (Power S J (e + d)) J J h.0 (λ y j. j) x (next.0 x i),
      λ x p. next.1 x (products_mono S (Power S J (e + d)) I J J h.1 (λ y j. j) x p),
    )

module _ {V : Type 0} (S : RingOps V) (L J : V → Type 0) (one : V) (laws : RingLawsOn S L one)
    (inside : Within J L) where
  infixl 70 ◌⊗◌
  abbrev ◌⊗◌ : V → V → V
  ◌⊗◌ = S.mul

  abbrev prod : (ℕ → V) → ℕ → V
  prod = product S one

  abbrev JPower : ℕ → V → Type 0
  JPower = Power S J

  product_in : (c : ℕ → V) → ((i : ℕ) → J (c i)) → (n : ℕ) → L (prod c n)
  product_in c h zero = laws.one_in
  product_in c h (suc n) = laws.mul_in (c n) (prod c n) (inside (c n) (h n)) (product_in c h n)

  product_congr : (n : ℕ) (a b : ℕ → V) → ((i : ℕ) → i < n → a i ≡ b i) → prod a n ≡ prod b n
  product_congr zero a b h = refl
  product_congr (suc n) a b h = ap₂ S.mul (h n (omega arith)) (product_congr n a b (λ i l. h i (omega arith)))

  total_in : (n : ℕ) (f : ℕ → V) → ((i : ℕ) → i < n → L (f i)) → L (total S n f)
  total_in zero f h = laws.zero_in
  total_in (suc n) f h = laws.add_in (total S n f) (f n) (total_in n f (λ i l. h i (omega arith))) (h n (omega arith))

  total-mul_zero : (n : ℕ) (f : ℕ → V) (z : V) → L z → ((i : ℕ) → i < n → L (f i))
      → ((i : ℕ) → i < n → f i ⊗ z ≡ S.zero) → total S n f ⊗ z ≡ S.zero
  total-mul_zero zero f z z_in h e = laws.zero-mul z z_in
  total-mul_zero (suc n) f z z_in h e =
      laws.add-mul (total S n f) (f n) z (total_in n f (λ i l. h i (omega arith))) (h n (omega arith)) z_in
      ∙ ap₂ S.add (total-mul_zero n f z z_in (λ i l. h i (omega arith)) (λ i l. e i (omega arith))) (e n (omega arith))
      ∙ laws.zero-add S.zero laws.zero_in

  power_in : (e : ℕ) (x : V) → JPower e x → L x
  power_in zero x h = inside x h
  power_in (suc e) x h = subst L (sym h.gives) (total_in h.size h.term (λ i l.
      let w = h.each i l in
      subst L (sym w.4) (laws.mul_in w.0 w.1 (power_in e w.0 w.2) (inside w.1 w.3))))

  -- k members and one more
  push_members : (k : ℕ) (x : V) (c : ℕ → V) → J x → ((i : ℕ) → J (c i)) → (i : ℕ) → J (push k x c i)
  push_members k x c hx hc i = ⊎_elim
      (λ l. subst J (sym (push-below k x c i l)) (hc i))
      (λ l. subst J (sym (push-above k x c i l)) hx)
      (cases_lt i k)

  push_product : (k : ℕ) (x : V) (c : ℕ → V) → prod (push k x c) (suc k) ≡ x ⊗ prod c k
  push_product k x c = ap₂ (λ y z. y ⊗ z) (push-at k x c)
      (product_congr k (push k x c) c (λ i l. push-below k x c i l))

  -- a member of a power times k members is 0, where as many products vanish
  vanish_through : (e k : ℕ) → ProductsVanish S one J (suc (e + k)) → (x : V) → JPower e x → (c : ℕ → V)
      → ((i : ℕ) → J (c i)) → x ⊗ prod c k ≡ S.zero
  vanish_through zero k h x j c hc =
      sym (push_product k x c)
      ∙ (let e : suc k ≡ suc (zero + k) = omega arith in ap (prod (push k x c)) e)
      ∙ h (push k x c) (push_members k x c j hc)
  vanish_through (suc e) k h x s c hc =
      let t = prod c k in
      let t_in = product_in c hc k in
      ap (λ y. y ⊗ t) s.gives
      ∙ total-mul_zero s.size s.term t t_in
      (λ i l. let w = s.each i l in
      subst L (sym w.4) (laws.mul_in w.0 w.1 (power_in e w.0 w.2) (inside w.1 w.3)))
      (λ i l.
      let w = s.each i l in
      let q : suc (suc e + k) ≡ suc (e + suc k) = omega arith in
      ap (λ y. y ⊗ t) w.4 ∙ laws.mul_assoc w.0 w.1 t (power_in e w.0 w.2) (inside w.1 w.3) t_in
      ∙ ap (λ y. w.0 ⊗ y) (sym (push_product k w.1 c))
      ∙ vanish_through e (suc k) (subst (ProductsVanish S one J) q h) w.0 w.2 (push k w.1 c)
      (push_members k w.1 c w.3 hc))

  -- a member of a power times n members lies in the power that is further by n
  power_further : (n j : ℕ) (x : V) → JPower j x → (a : ℕ → V) → ((i : ℕ) → J (a i))
      → JPower (j + n) (x ⊗ prod a n)
  power_further zero j x h a ha =
      let e : j ≡ j + zero = omega arith in
      subst (JPower (j + zero)) (sym (laws.mul-one x (power_in j x h))) (subst (λ k. JPower k x) e h)
  power_further (suc n) j x h a ha =
      let y = x ⊗ a n in
      let x_in = power_in j x h in
      let a_in = inside (a n) (ha n) in
      let e : suc j + n ≡ j + suc n = omega arith in
      let next : JPower (suc j) y = record {
        size = 1;
        term = λ i. y;
        each = λ i l. (x, a n, h, ha n, refl);
        gives = sym (laws.zero-add y (laws.mul_in x (a n) x_in a_in));
      } in
      subst (λ k. JPower k (x ⊗ prod a (suc n))) e
      (subst (JPower (suc j + n)) (laws.mul_assoc x (a n) (prod a n) x_in a_in (product_in a ha n))
      (power_further n (suc j) y next a ha))

  pub power_vanishes : J S.zero → (e : ℕ) → ProductsVanish S one J (suc e) → Within (JPower e) (Zero S)
  power_vanishes z e h x s = sym (laws.mul-one x (power_in e x s)) ∙ vanish_through e zero
      (let q : suc e ≡ suc (e + zero) = omega arith in subst (ProductsVanish S one J) q h) x s (λ _. S.zero) (λ _. z)

  pub products_vanish : (e : ℕ) → Within (JPower e) (Zero S) → ProductsVanish S one J (suc e)
  products_vanish e h a ha =
      let s : JPower (zero + e) (a e ⊗ prod a e) = power_further e zero (a e) (ha e) a ha in
      let q : zero + e ≡ e = omega arith in
      h (a e ⊗ prod a e) (subst (λ k. JPower k (a e ⊗ prod a e)) q s)

  -- products of more members
  pub products_vanish_more : (n : ℕ) → ProductsVanish S one J n → ProductsVanish S one J (suc n)
  products_vanish_more n h a ha = ap (S.mul (a n)) (h a ha) ∙ laws.mul-zero (a n) (inside (a n) (ha n))
