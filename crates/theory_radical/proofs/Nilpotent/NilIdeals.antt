-- In an algebra of dimension m products of m members of a nil subalgebra are 0, so that a nil ideal is nilpotent.
use Rattle.std.specs.Prelude.{◌≡◌, ℕ, zero, suc, ◌+◌, ◌*◌, ◌<◌}
use Rattle.std.proofs.Common.{refl, sym, ◌∙◌, ap, ap₂, subst, arith, ⊎_elim}
use Rattle.theory_rings.specs.Ring.{RingOn, FieldOn}
use Rattle.theory_rings.specs.Power.{power}
use Rattle.theory_rings.proofs.Rings.RingLaws.{mul-zero, zero-mul}
use Rattle.theory_rings.proofs.Rings.ZeroTests.{eq_zero_or}
use Rattle.theory_rings.proofs.Sums.Sums.{sum_congr, sum_first}
use Rattle.theory_spaces.specs.Module.{ModuleOn, AlgebraOn, module_of}
use Rattle.theory_spaces.specs.Linear.{comb, Coords}
use Rattle.theory_spaces.specs.Algebra.{IsNilpotent}
use Rattle.theory_spaces.proofs.Linear.Modules.{zero-scale}
use Rattle.theory_spaces.proofs.Linear.Decide.{NotAllZero}
use Rattle.theory_radical.specs.Ideal.{product, IsIdeal, ProductsVanish, IsNilpotentIdeal, IsNilSubalgebra}
use Rattle.theory_radical.proofs.Nilpotent.Fitting.{related, not_all_zero-suc, solve_scale}

module _ {V : Type 0} (R : RingOn V) where
  infixl 70 ◌⊗◌
  open R use {◌⊗◌}

  fixed_by_power : (z u : V) → u ⊗ z ≡ z → (n : ℕ) → power R u n ⊗ z ≡ z
  fixed_by_power z u e zero = R.one-mul z
  fixed_by_power z u e (suc n) = R.mul_assoc u (power R u n) z ∙ ap (λ w. u ⊗ w) (fixed_by_power z u e n) ∙ e

  -- what a nilpotent element fixes is 0
  pub fixed_by_nilpotent : (z u : V) → u ⊗ z ≡ z → IsNilpotent R u → z ≡ R.zero
  fixed_by_nilpotent z u e h = sym (fixed_by_power z u e h.exponent) ∙ ap (λ w. w ⊗ z) h.vanishes ∙ zero-mul R z

  pub product_congr : (n : ℕ) (a b : ℕ → V) → ((i : ℕ) → i < n → a i ≡ b i) → product R a n ≡ product R b n
  product_congr zero a b h = refl
  product_congr (suc n) a b h = ap₂ (λ x y. x ⊗ y) (h n (omega arith)) (product_congr n a b (λ i l. h i (omega arith)))

  pub product-split : (a : ℕ → V) (n m : ℕ) → product R a (n + m) ≡ product R (λ j. a (n + j)) m ⊗ product R a n
  product-split a n zero = let e : n + zero ≡ n = omega arith in ap (product R a) e ∙ sym (R.one-mul (product R a n))
  product-split a n (suc m) =
      let e : n + suc m ≡ suc (n + m) = omega arith in
      ap (product R a) e ∙ ap (λ x. a (n + m) ⊗ x) (product-split a n m)
      ∙ sym (R.mul_assoc (a (n + m)) (product R (λ j. a (n + j)) m) (product R a n))

  -- a product of products
  pub product-product : (a : ℕ → V) (n m : ℕ)
      → product R a (n * m) ≡ product R (λ i. product R (λ j. a (i * m + j)) m) n
  product-product a zero m = let e : zero * m ≡ zero = omega arith in ap (product R a) e
  product-product a (suc n) m =
      let e : suc n * m ≡ n * m + m = omega arith in
      ap (product R a) e ∙ product-split a (n * m) m
      ∙ ap (λ x. product R (λ j. a (n * m + j)) m ⊗ x) (product-product a n m)

  -- a power is a product of equal factors
  pub product_const : (x : V) (n : ℕ) → product R (λ _. x) n ≡ power R x n
  product_const x zero = refl
  product_const x (suc n) = ap (λ z. x ⊗ z) (product_const x n)

  pub nilpotent_of_ideal : (J : V → Type 0) → IsNilpotentIdeal R J → (x : V) → J x → IsNilpotent R x
  nilpotent_of_ideal J h x j =
      record { exponent = h.exponent; vanishes = sym (product_const x h.exponent) ∙ h.vanishes (λ _. x) (λ _. j) }

module _ {K V : Type 0} (F : FieldOn K) (A : AlgebraOn F.ring V) (J : V → Type 0) (nil : IsNilSubalgebra A J)
    (a : ℕ → V) (members : (i : ℕ) → J (a i)) where
  infixl 65 ◌⊕◌
  infixl 70 ◌⊗◌
  infixl 70 ◌•◌
  open A use {ring, monoid, ◌⊕◌, ◌⊗◌, ◌•◌}

  abbrev M : ModuleOn F.ring V
  M = module_of A

  abbrev prod : ℕ → V
  prod = product ring a

  -- from t on each product is a member times the product up to t
  onward : (t i : ℕ) → (b : V) × J b × (prod (suc t + i) ≡ b ⊗ prod t)
  onward t zero = let e : suc t + 0 ≡ suc t = omega arith in (a t, members t, ap prod e)
  onward t (suc i) =
      let e : suc t + suc i ≡ suc (suc t + i) = omega arith in
      let h = onward t i in
      let k = suc t + i in (
        a k ⊗ h.0,
        nil.mul-in (a k) h.0 (members k) h.1,
        ap prod e ∙ ap (λ z. a k ⊗ z) h.2
            ∙ sym (A.mul_assoc (a k) h.0 (prod t)),
      )

  combined : (n t : ℕ) (c : ℕ → K) → (b : V) × J b × (comb M n c (λ i. prod (suc t + i)) ≡ b ⊗ prod t)
  combined zero t c = (A.zero, nil.subspace.zero-in, sym (zero-mul ring (prod t)))
  combined (suc n) t c =
      let h = combined n t c in
      let g = onward t n in (
        h.0 ⊕ c n • g.0,
        nil.subspace.add-in h.0 (c n • g.0) h.1 (nil.subspace.scale-in (c n) g.0 g.1),
        ap₂ (λ x y. x ⊕ y) h.2 (ap (λ z. c n • z) g.2 ∙ sym (A.scale-left (c n) g.0 (prod t)))
            ∙ sym (A.add-mul h.0 (c n • g.0) (prod t)),
      )

  product_stays_zero : (s i : ℕ) → prod s ≡ A.zero → prod (s + i) ≡ A.zero
  product_stays_zero s zero e = (let q : s + 0 ≡ s = omega arith in ap prod q) ∙ e
  product_stays_zero s (suc i) e = (let q : s + suc i ≡ suc (s + i) = omega arith in ap prod q)
      ∙ ap (λ z. a (s + i) ⊗ z) (product_stays_zero s i e) ∙ mul-zero ring (a (s + i))

  headed : (n t : ℕ) (c : ℕ → K) → comb M (suc n) c (λ i. prod (t + i)) ≡ A.zero
      → c 0 • prod t ⊕ comb M n (λ i. c (suc i)) (λ i. prod (suc t + i)) ≡ A.zero
  headed n t c e =
      ap₂ (λ x y. x ⊕ y) (let q : t ≡ t + 0 = omega arith in ap (λ k. c 0 • prod k) q)
      (sum_congr monoid n (λ i. c (suc i) • prod (suc t + i)) (λ i. c (suc i) • prod (t + suc i))
      (λ i l. let q : suc t + i ≡ t + suc i = omega arith in ap (λ k. c (suc i) • prod k) q))
      ∙ sym (sum_first monoid n (λ i. c i • prod (t + i))) ∙ e

  zero_at : (n t : ℕ) (c : ℕ → K) → (c 0 ≡ F.zero → ⊥) → comb M (suc n) c (λ i. prod (t + i)) ≡ A.zero → prod t ≡ A.zero
  zero_at n t c z e =
      let x = prod t in
      let y = comb M n (λ i. c (suc i)) (λ i. prod (suc t + i)) in
      let r = combined n t (λ i. c (suc i)) in
      let k = F.neg (F.inv (c 0)) in
      let b = k • r.0 in
      fixed_by_nilpotent ring x b
      (A.scale-left k r.0 x ∙ ap (λ w. k • w) (sym r.2) ∙ sym (solve_scale F M (c 0) x y z (headed n t c e)))
      (nil.nilpotent b (nil.subspace.scale-in k r.0 r.1))

  vanishing : (n t : ℕ) (c : ℕ → K) → NotAllZero F (suc n) c → comb M (suc n) c (λ i. prod (t + i)) ≡ A.zero
      → prod (t + n) ≡ A.zero
  vanishing zero t c h e = ⊎_elim
      (λ (z : c 0 ≡ F.zero). let g = not_all_zero-suc F M zero c h z in absurd (let w = g.within in omega arith))
      (λ (z : c 0 ≡ F.zero → ⊥). product_stays_zero t zero (zero_at zero t c z e))
      (eq_zero_or F.zero_test (c 0))
  vanishing (suc n) t c h e = ⊎_elim
      (λ (z : c 0 ≡ F.zero).
      let y = comb M (suc n) (λ i. c (suc i)) (λ i. prod (suc t + i)) in
      let g : y ≡ A.zero = sym (A.zero-add y) ∙ ap (λ w. w ⊕ y) (sym (ap (λ k. k • prod t) z ∙ zero-scale M (prod t)))
      ∙ headed (suc n) t c e in
      (let q : t + suc n ≡ suc t + n = omega arith in ap prod q)
      ∙ vanishing n (suc t) (λ i. c (suc i)) (not_all_zero-suc F M (suc n) c h z) g)
      (λ (z : c 0 ≡ F.zero → ⊥). product_stays_zero t (suc n) (zero_at (suc n) t c z e))
      (eq_zero_or F.zero_test (c 0))

  -- products of m members are 0
  product_vanishes : (m : ℕ) → Coords M m → prod m ≡ A.zero
  product_vanishes m C =
      let r = related F M m C (λ i. prod (0 + i)) in
      let e : m ≡ 0 + m = omega arith in
      ap prod e ∙ vanishing m 0 r.0 r.1 r.2

module _ {K V : Type 0} (F : FieldOn K) (A : AlgebraOn F.ring V) (m : ℕ) (C : Coords (module_of A) m)
    (J : V → Type 0) where
  pub nil_products_vanish : IsNilSubalgebra A J → ProductsVanish A.ring J m
  nil_products_vanish nil a members = product_vanishes F A J nil a members m C

  -- a nil ideal is nilpotent
  pub nil_ideal_products_vanish : IsIdeal A.ring J → ((x : V) → J x → IsNilpotent A.ring x) → ProductsVanish A.ring J m
  nil_ideal_products_vanish ideal nil = nil_products_vanish (record {
    subspace = record {
      zero-in = ideal.zero_in;
      add-in = ideal.add_in;
      scale-in = λ c x h. subst J (A.scale-left c A.one x ∙ ap (A.◌•◌ c) (A.one-mul x))
          (ideal.left (A.◌•◌ c A.one) x tt h);
    };
    mul-in = λ x y h _. ideal.right y x tt h;
    nilpotent = nil;
  })

  pub nil_ideal_nilpotent : IsIdeal A.ring J → ((x : V) → J x → IsNilpotent A.ring x) → IsNilpotentIdeal A.ring J
  nil_ideal_nilpotent ideal nil = record { ideal = ideal; exponent = m; vanishes = nil_ideal_products_vanish ideal nil }
