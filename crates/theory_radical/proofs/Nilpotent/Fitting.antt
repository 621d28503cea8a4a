-- Fitting's lemma: in an algebra of dimension m an element divides an idempotent that keeps a power of it. It comes
-- from one relation among 1, a, .., a^m.
use Rattle.std.specs.Prelude.{◌≡◌, ℕ, zero, suc, ◌<◌}
use Rattle.std.proofs.Common.{refl, sym, ◌∙◌, ap, arith, ⊎_elim}
use Rattle.theory_rings.specs.Ring.{RingOn, FieldOn}
use Rattle.theory_rings.specs.Power.{power}
use Rattle.theory_rings.proofs.Rings.RingLaws.{neg_unique, neg_neg}
use Rattle.theory_rings.proofs.Rings.ZeroTests.{eq_zero_or}
use Rattle.theory_rings.proofs.Sums.Sums.{sum_congr, sum_first, mul-sum, sum-mul}
use Rattle.theory_rings.proofs.Powers.Powers.{power-mul, power_commutes}
use Rattle.theory_spaces.specs.Module.{ModuleOn, AlgebraOn, module_of}
use Rattle.theory_spaces.specs.Linear.{comb, Coords}
use Rattle.theory_spaces.proofs.Linear.Modules.{zero-scale, scale-neg, neg-scale}
use Rattle.theory_spaces.proofs.Linear.Decide.{NotAllZero}
use Rattle.theory_spaces.proofs.Linear.Dimension.{dependent}
use Rattle.theory_spaces.proofs.Linear.Spaces.{coord-comb}
use Rattle.theory_radical.specs.Ideal.{FittingIdempotent}

module _ {K V : Type 0} (F : FieldOn K) (M : ModuleOn F.ring V) where
  infixl 65 ◌⊕◌
  infixl 70 ◌•◌
  open M use {◌⊕◌, ◌•◌, neg}

  -- m + 1 vectors of a space with m coordinates are dependent
  pub related : (m : ℕ) → Coords M m → (x : ℕ → V) → (c : ℕ → K) × NotAllZero F (suc m) c
      × (comb M (suc m) c x ≡ M.zero)
  related m C x =
      let r = dependent F m (λ i j. C.coord (x i) j) in (
        r.weights,
        r.nontrivial,
        C.faithful (comb M (suc m) r.weights x) (λ j l. coord-comb M m C (suc m) r.weights x j ∙ r.vanishes j l),
      )

  pub not_all_zero-suc : (n : ℕ) (c : ℕ → K) → NotAllZero F (suc n) c → c 0 ≡ F.zero → NotAllZero F n (λ i. c (suc i))
  not_all_zero-suc n c h z = go h.place h.within h.nonzero
    where
      go : (k : ℕ) → k < suc n → (c k ≡ F.zero → ⊥) → NotAllZero F n (λ i. c (suc i))
      go zero l d = absurd (d z)
      go (suc k) l d = record { place = k; within = omega arith; nonzero = d }

  -- c·x + y = 0 is solved for x
  pub solve_scale : (c : K) (x y : V) → (c ≡ F.zero → ⊥) → c • x ⊕ y ≡ M.zero → x ≡ F.neg (F.inv c) • y
  solve_scale c x y d e =
      let i = F.inv c in
      sym (ap (λ z. F.neg i • z) (neg_unique M.additive (c • x) y e) ∙ neg-scale M i (neg (c • x))
      ∙ ap neg (scale-neg M i (c • x))
      ∙ neg_neg M.additive (i • (c • x)) ∙ sym (M.mul-scale i c x) ∙ ap (λ z. z • x) (F.inv-mul c d) ∙ M.one-scale x)

module _ {V : Type 0} (R : RingOn V) where
  infixl 70 ◌⊗◌
  open R use {◌⊗◌}

  power_fixes : (z u : V) → z ⊗ u ≡ z → (n : ℕ) → z ⊗ power R u n ≡ z
  power_fixes z u e zero = R.mul-one z
  power_fixes z u e (suc n) = sym (R.mul_assoc z u (power R u n)) ∙ ap (λ w. w ⊗ power R u n) e ∙ power_fixes z u e n

  -- a^s = a^s·(a·h), where h commutes with a
  record Absorbs (a : V) : Type 0 where
    pub exponent : ℕ
    pub cofactor : V
    pub commutes : a ⊗ cofactor ≡ cofactor ⊗ a
    pub absorbs : power R a exponent ≡ power R a exponent ⊗ (a ⊗ cofactor)

  idempotent_of_absorbs : (a : V) → Absorbs a → FittingIdempotent R a
  idempotent_of_absorbs a f =
      let h = f.cofactor in
      let u = a ⊗ h in
      let s = f.exponent in
      let g = h ⊗ power R u s in
      let e : a ⊗ g ≡ power R u (suc s) = sym (R.mul_assoc a h (power R u s)) in
      let past : a ⊗ u ≡ u ⊗ a = ap (λ z. a ⊗ z) f.commutes ∙ sym (R.mul_assoc a h a) in
      let keep : power R a (suc s) ⊗ power R u (suc s) ≡ power R a (suc s) =
      power_fixes (power R a (suc s)) u (R.mul_assoc a (power R a s) u ∙ ap (λ z. a ⊗ z) (sym f.absorbs)) (suc s) in
      let split : power R u (suc s) ≡ power R h (suc s) ⊗ power R a (suc s) =
      ap (λ z. power R z (suc s)) f.commutes ∙ power-mul R h a (sym f.commutes) (suc s) in
      record {
        cofactor = g;
        commutes = sym (R.mul_assoc a h (power R u s)) ∙ ap (λ z. z ⊗ power R u s) f.commutes
            ∙ R.mul_assoc h a (power R u s)
            ∙ ap (λ z. h ⊗ z) (power_commutes R u a past s) ∙ sym (R.mul_assoc h (power R u s) a);
        idempotent = ap (λ z. z ⊗ z) e ∙ ap (λ z. z ⊗ power R u (suc s)) split
            ∙ R.mul_assoc (power R h (suc s)) (power R a (suc s)) (power R u (suc s))
            ∙ ap (λ z. power R h (suc s) ⊗ z) keep ∙ sym split ∙ sym e;
        exponent = suc s;
        keeps = ap (λ z. power R a (suc s) ⊗ z) e ∙ keep;
      }

module _ {K V : Type 0} (F : FieldOn K) (A : AlgebraOn F.ring V) where
  infixl 65 ◌⊕◌
  infixl 70 ◌⊗◌
  infixl 70 ◌•◌
  open A use {ring, monoid, ◌⊕◌, ◌⊗◌, ◌•◌}

  abbrev M : ModuleOn F.ring V
  M = module_of A

  -- a commutes with the polynomials in a
  comb_powers_commute : (a : V) (n : ℕ) (d : ℕ → K) → a ⊗ comb M n d (power ring a) ≡ comb M n d (power ring a) ⊗ a
  comb_powers_commute a n d =
      mul-sum ring n a (λ i. d i • power ring a i)
      ∙ sum_congr monoid n (λ i. a ⊗ (d i • power ring a i)) (λ i. (d i • power ring a i) ⊗ a)
      (λ i l. A.scale-right (d i) a (power ring a i) ∙ ap (λ z. d i • z) (power_commutes ring a a refl i)
      ∙ sym (A.scale-left (d i) (power ring a i) a))
      ∙ sym (sum-mul ring n a (λ i. d i • power ring a i))

  -- by the first weight of a relation that is not 0
  absorbs_of_relation : (a : V) (n t : ℕ) (c : ℕ → K) → NotAllZero F n c
      → power ring a t ⊗ comb M n c (power ring a) ≡ A.zero → Absorbs ring a
  absorbs_of_relation a zero t c h e = absurd (let w = h.within in omega arith)
  absorbs_of_relation a (suc n) t c h e =
      let d = λ (i : ℕ). c (suc i) in
      let y = comb M n d (power ring a) in
      let x = power ring a t in
      let q : comb M (suc n) c (power ring a) ≡ c 0 • A.one ⊕ a ⊗ y =
      sum_first monoid n (λ i. c i • power ring a i)
      ∙ ap (λ z. c 0 • A.one ⊕ z) (sym (mul-sum ring n a (λ i. d i • power ring a i)
      ∙ sum_congr monoid n (λ i. a ⊗ (d i • power ring a i)) (λ i. d i • (a ⊗ power ring a i))
      (λ i l. A.scale-right (d i) a (power ring a i)))) in
      let g : c 0 • x ⊕ x ⊗ (a ⊗ y) ≡ A.zero =
      ap (λ z. z ⊕ x ⊗ (a ⊗ y)) (sym (A.scale-right (c 0) x A.one ∙ ap (λ z. c 0 • z) (A.mul-one x)))
      ∙ sym (A.mul-add x (c 0 • A.one) (a ⊗ y)) ∙ ap (λ z. x ⊗ z) (sym q) ∙ e in
      ⊎_elim
      (λ (z : c 0 ≡ F.zero). absorbs_of_relation a n (suc t) d (not_all_zero-suc F M n c h z)
      (ap (λ w. w ⊗ y) (power_commutes ring a a refl t) ∙ A.mul_assoc x a y ∙ sym (A.zero-add (x ⊗ (a ⊗ y)))
      ∙ ap (λ w. w ⊕ x ⊗ (a ⊗ y)) (sym (ap (λ k. k • x) z ∙ zero-scale M x)) ∙ g))
      (λ (z : c 0 ≡ F.zero → ⊥).
      let k = F.neg (F.inv (c 0)) in
      record {
        exponent = t;
        cofactor = k • y;
        commutes = A.scale-right k a y ∙ ap (λ w. k • w) (comb_powers_commute a n d) ∙ sym (A.scale-left k y a);
        absorbs = solve_scale F M (c 0) x (x ⊗ (a ⊗ y)) z g
            ∙ sym (ap (λ w. x ⊗ w) (A.scale-right k a y) ∙ A.scale-right k x (a ⊗ y));
      })
      (eq_zero_or F.zero_test (c 0))

  pub fitting : (m : ℕ) → Coords M m → (a : V) → FittingIdempotent ring a
  fitting m C a =
      let r = related F M m C (power ring a) in
      idempotent_of_absorbs ring a
      (absorbs_of_relation a (suc m) 0 r.0 r.1 (A.one-mul (comb M (suc m) r.0 (power ring a)) ∙ r.2))
