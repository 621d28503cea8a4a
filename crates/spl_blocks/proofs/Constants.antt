-- A field G over a field F of q elements: the solutions of x^q = x in G are the constants, and the sums
-- x + x^q + .. + x^(q^(d − 1)) are linear over the constants.
use Rattle.std.specs.Prelude.{◌≡◌, ◌*◌, ◌<◌, ◌^◌, ℕ, zero, suc}
use Rattle.std.proofs.Common.{sym, ◌∙◌, ap, subst, arith, ⊎_elim}
use Rattle.std.proofs.Math.Nat.{pow-zero, pow-suc}
use Rattle.theory_rings.specs.Ring.{FieldOn}
use Rattle.theory_rings.specs.Sum.{sum}
use Rattle.theory_rings.specs.Prime.{IsPrime}
use Rattle.theory_rings.specs.Power.{power, times}
use Rattle.theory_rings.specs.Enumerated.{Enumerated}
use Rattle.theory_rings.specs.Homomorphism.{IsRingHom}
use Rattle.theory_rings.proofs.Rings.RingLaws.{zero-mul, add_cancel_left}
use Rattle.theory_rings.proofs.Rings.Homomorphisms.{map-neg}
use Rattle.theory_rings.proofs.Rings.Fields.{eq-zero_of_mul-eq-zero}
use Rattle.theory_rings.proofs.Rings.ZeroTests.{eq_zero_or, eq_of_sub_eq_zero, sub_eq_zero_of_eq}
use Rattle.theory_rings.proofs.Sums.Sums.{sum_congr, sum-add, mul-sum, sum_first}
use Rattle.theory_rings.proofs.Powers.Powers.{power_first, power-power, power-mul, map-power}
use Rattle.theory_rings.proofs.Powers.FrobeniusMap.{frobenius_iterate-add, frobenius_iterate-sum}
use Rattle.theory_rings.proofs.FiniteFields.FiniteFields.{power_size}
use Rattle.theory_spaces.specs.Module.{AlgebraOn}
use Rattle.theory_radical.specs.Ideal.{product}
use Rattle.theory_lifts.proofs.ResidueRoots.{pow_of_pow}
use Rattle.theory_blocks.specs.Splitting.{less_scalar}
use Rattle.theory_blocks.proofs.Ideals.Annihilation.{scalar_factors}

module _ {C K : Type 0} (F : FieldOn C) (N : Enumerated C) (G : FieldOn K) (h : C → K)
    (H : IsRingHom F.ring G.ring h) where
  infixl 65 ◌⊕◌
  infixl 70 ◌⊗◌
  open G use {ring, monoid, ◌⊕◌, ◌⊗◌, neg}

  abbrev q : ℕ
  q = N.size

  -- G as an algebra over F
  abbrev over : AlgebraOn F.ring K
  over = record {
    ring = ring;
    scalars = record {
      ◌•◌ = λ c a. h c ⊗ a;
      scale-add = λ c x y. G.mul-add (h c) x y;
      add-scale = λ c d x. ap (λ a. a ⊗ x) (H.map-add c d) ∙ G.add-mul (h c) (h d) x;
      mul-scale = λ c d x. ap (λ a. a ⊗ x) (H.map-mul c d) ∙ G.mul_assoc (h c) (h d) x;
      one-scale = λ x. ap (λ a. a ⊗ x) H.map-one ∙ G.one-mul x;
    };
    scale-left = λ c x y. G.mul_assoc (h c) x y;
    scale-right = λ c x y. sym (G.mul_assoc x (h c) y) ∙ ap (λ a. a ⊗ y) (G.mul_comm x (h c)) ∙ G.mul_assoc (h c) x y;
  }

  factor_zero : (f : ℕ → K) (n : ℕ) → product ring f n ≡ G.zero → (i : ℕ) × (i < n) × (f i ≡ G.zero)
  factor_zero f zero e = absurd (G.one-nonzero e)
  factor_zero f (suc n) e = ⊎_elim
      (λ (z : f n ≡ G.zero). (n, omega arith, z))
      (λ (z : product ring f n ≡ G.zero). let r = factor_zero f n z in (r.0, (let l = r.1 in omega arith), r.2))
      (eq-zero_of_mul-eq-zero G (f n) (product ring f n) e)

  pub root_is_constant : (x : K) → power ring x q ≡ x → (i : ℕ) × (i < q) × (x ≡ h (N.member i))
  root_is_constant x e =
      let r = factor_zero (λ i. less_scalar over x (N.member i)) q (scalar_factors F N over x e) in
      let c = h (N.member r.0) in
      (r.0, r.1, eq_of_sub_eq_zero G.additive x c (ap (λ t. x ⊕ neg t) (sym (G.mul-one c)) ∙ r.2))

  -- constants are not 0 but at 0
  nonzero : (c : C) → (c ≡ F.zero → ⊥) → h c ≡ G.zero → ⊥
  nonzero c d e = G.one-nonzero (sym H.map-one ∙ ap h (sym (F.inv-mul c d)) ∙ H.map-mul (F.inv c) c
      ∙ ap (λ t. h (F.inv c) ⊗ t) e ∙ G.mul_comm (h (F.inv c)) G.zero ∙ zero-mul ring (h (F.inv c)))

  pub injective : (c d : C) → h c ≡ h d → c ≡ d
  injective c d e =
      let x = F.◌⊕◌ c (F.neg d) in
      eq_of_sub_eq_zero F.additive c d (⊎_elim (λ (z : x ≡ F.zero). z)
      (λ (n : x ≡ F.zero → ⊥). absurd (nonzero x n (H.map-add c (F.neg d)
      ∙ ap (λ t. h c ⊕ t) (map-neg F.ring ring h H d) ∙ sub_eq_zero_of_eq G.additive (h c) (h d) e)))
      (eq_zero_or F.zero_test x))

  power_iterate : (c : C) (j : ℕ) → power F.ring c (q ^ j) ≡ c
  power_iterate c zero = ap (power F.ring c) (pow-zero q) ∙ power_first F.ring c
  power_iterate c (suc j) = ap (power F.ring c) (pow-suc q j) ∙ sym (power-power F.ring c (q ^ j) q)
      ∙ ap (λ x. power F.ring x q) (power_iterate c j) ∙ power_size F N c

  -- x + x^q + .., d terms
  abbrev pub tau : ℕ → K → K
  tau d x = sum monoid d (λ j. power ring x (q ^ j))

  pub tau-scale : (d : ℕ) (c : C) (x : K) → tau d (h c ⊗ x) ≡ h c ⊗ tau d x
  tau-scale d c x =
      sum_congr monoid d (λ j. power ring (h c ⊗ x) (q ^ j)) (λ j. h c ⊗ power ring x (q ^ j))
      (λ j _. power-mul ring (h c) x (G.mul_comm (h c) x) (q ^ j)
      ∙ ap (λ t. t ⊗ power ring x (q ^ j)) (sym (map-power F.ring ring h H.map-one H.map-mul c (q ^ j))
      ∙ ap h (power_iterate c j)))
      ∙ sym (mul-sum ring d (h c) (λ j. power ring x (q ^ j)))

  module _ (p e : ℕ) (prime : IsPrime p) (char : times monoid p G.one ≡ G.zero) (size : q ≡ p ^ e) where
    exponent : (j : ℕ) → q ^ j ≡ p ^ (e * j)
    exponent j = ap (λ n. n ^ j) size ∙ pow_of_pow p e j

    pub tau-add : (d : ℕ) (x y : K) → tau d (x ⊕ y) ≡ tau d x ⊕ tau d y
    tau-add d x y =
        sum_congr monoid d (λ j. power ring (x ⊕ y) (q ^ j)) (λ j. power ring x (q ^ j) ⊕ power ring y (q ^ j))
        (λ j _. subst (λ n. power ring (x ⊕ y) n ≡ power ring x n ⊕ power ring y n) (sym (exponent j))
        (frobenius_iterate-add G.cring p prime char (e * j) x y))
        ∙ sum-add monoid d (λ j. power ring x (q ^ j)) (λ j. power ring y (q ^ j))

    -- where G has q^d elements such a sum solves x^q = x
    pub tau-fixed : (E : Enumerated K) (d : ℕ) → E.size ≡ q ^ d → (x : K) → power ring (tau d x) q ≡ tau d x
    tau-fixed E d count x =
        let f : ℕ → K = λ j. power ring x (q ^ j) in
        let shifted : power ring (tau d x) q ≡ sum monoid d (λ j. f (suc j)) =
        subst (λ n. power ring (tau d x) n ≡ sum monoid d (λ j. power ring (f j) n)) (sym size)
        (frobenius_iterate-sum G.cring p prime char e d f)
        ∙ sum_congr monoid d (λ j. power ring (f j) q) (λ j. f (suc j))
        (λ j _. power-power ring x (q ^ j) q ∙ ap (power ring x) (sym (pow-suc q j))) in
        let last : f d ≡ f 0 = ap (power ring x) (sym count) ∙ power_size G E x
        ∙ sym (ap (power ring x) (pow-zero q) ∙ power_first ring x) in
        add_cancel_left G.additive (f 0) (power ring (tau d x) q) (tau d x)
        (ap (λ y. f 0 ⊕ y) shifted ∙ sym (sum_first monoid d f) ∙ ap (λ y. tau d x ⊕ y) last
        ∙ G.add_comm (tau d x) (f 0))
