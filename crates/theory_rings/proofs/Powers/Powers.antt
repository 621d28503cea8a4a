-- The laws of powers in a ring, and in a field.
use Rattle.std.specs.Prelude.{◌≡◌, ℕ, zero, suc, ◌+◌, ◌*◌, ◌<◌}
use Rattle.std.proofs.Common.{refl, sym, ◌∙◌, ap, arith, ⊎_elim}
use Rattle.theory_rings.specs.Ring.{RingOn, FieldOn}
use Rattle.theory_rings.specs.Power.{power}
use Rattle.theory_rings.proofs.Rings.RingLaws.{zero-mul}
use Rattle.theory_rings.proofs.Rings.Fields.{eq-zero_of_mul-eq-zero}

module _ {K : Type 0} (R : RingOn K) where
  infixl 70 ◌⊗◌
  open R use {◌⊗◌}

  -- the first power
  pub power_first : (x : K) → power R x 1 ≡ x
  power_first x = R.mul-one x

  pub power-one : (n : ℕ) → power R R.one n ≡ R.one
  power-one zero = refl
  power-one (suc n) = R.one-mul (power R R.one n) ∙ power-one n

  pub power-zero : (n : ℕ) → 0 < n → power R R.zero n ≡ R.zero
  power-zero zero h = absurd (omega arith)
  power-zero (suc n) h = zero-mul R (power R R.zero n)

  pub power-add : (x : K) (m n : ℕ) → power R x (m + n) ≡ power R x m ⊗ power R x n
  power-add x zero n = let e : 0 + n ≡ n = omega arith in ap (power R x) e ∙ sym (R.one-mul (power R x n))
  power-add x (suc m) n =
      let e : suc m + n ≡ suc (m + n) = omega arith in
      ap (power R x) e ∙ ap (λ y. x ⊗ y) (power-add x m n) ∙ sym (R.mul_assoc x (power R x m) (power R x n))

  pub power-power : (x : K) (m n : ℕ) → power R (power R x m) n ≡ power R x (m * n)
  power-power x m zero = let e : m * 0 ≡ 0 = omega arith in ap (power R x) (sym e)
  power-power x m (suc n) =
      let e : m + m * n ≡ m * suc n = omega arith in
      ap (λ y. power R x m ⊗ y) (power-power x m n) ∙ sym (power-add x m (m * n)) ∙ ap (power R x) e

  -- what commutes with x commutes with its powers
  pub power_commutes : (x y : K) → y ⊗ x ≡ x ⊗ y → (n : ℕ) → y ⊗ power R x n ≡ power R x n ⊗ y
  power_commutes x y e zero = R.mul-one y ∙ sym (R.one-mul y)
  power_commutes x y e (suc n) =
      sym (R.mul_assoc y x (power R x n)) ∙ ap (λ z. z ⊗ power R x n) e ∙ R.mul_assoc x y (power R x n)
      ∙ ap (λ z. x ⊗ z) (power_commutes x y e n) ∙ sym (R.mul_assoc x (power R x n) y)

  -- the last factor stands apart
  pub power_last : (x : K) (n : ℕ) → power R x (suc n) ≡ power R x n ⊗ x
  power_last x n = power_commutes x x refl n

  -- the power of a product whose factors commute
  pub power-mul : (x y : K) → x ⊗ y ≡ y ⊗ x → (n : ℕ) → power R (x ⊗ y) n ≡ power R x n ⊗ power R y n
  power-mul x y e zero = sym (R.mul-one R.one)
  power-mul x y e (suc n) =
      let p = power R x n in
      let q = power R y n in
      ap (λ z. (x ⊗ y) ⊗ z) (power-mul x y e n) ∙ R.mul_assoc x y (p ⊗ q)
      ∙ ap (λ z. x ⊗ z) (sym (R.mul_assoc y p q) ∙ ap (λ z. z ⊗ q) (power_commutes x y (sym e) n) ∙ R.mul_assoc p y q)
      ∙ sym (R.mul_assoc x p (y ⊗ q))

  -- the power of any product, turned round
  pub power-mul-mul : (x y : K) (n : ℕ) → power R (x ⊗ y) n ⊗ x ≡ x ⊗ power R (y ⊗ x) n
  power-mul-mul x y zero = R.one-mul x ∙ sym (R.mul-one x)
  power-mul-mul x y (suc n) =
      let p = power R (x ⊗ y) n in
      let q = power R (y ⊗ x) n in
      R.mul_assoc (x ⊗ y) p x ∙ ap (λ z. (x ⊗ y) ⊗ z) (power-mul-mul x y n) ∙ R.mul_assoc x y (x ⊗ q)
      ∙ ap (λ z. x ⊗ z) (sym (R.mul_assoc y x q))

-- a map that keeps products keeps powers
pub map-power : {K L : Type 0} (R : RingOn K) (S : RingOn L) (h : K → L) → h R.one ≡ S.one
    → ((a b : K) → h (R.◌⊗◌ a b) ≡ S.◌⊗◌ (h a) (h b)) → (x : K) (n : ℕ) → h (power R x n) ≡ power S (h x) n
map-power R S h u e x zero = u
map-power R S h u e x (suc n) = e x (power R x n) ∙ ap (λ y. S.◌⊗◌ (h x) y) (map-power R S h u e x n)

module _ {K : Type 0} (F : FieldOn K) where
  open F use {ring}

  -- the powers of a nonzero element are not 0
  pub power_only_zero : (x : K) (n : ℕ) → power ring x n ≡ F.zero → x ≡ F.zero
  power_only_zero x zero e = absurd (F.one-nonzero e)
  power_only_zero x (suc n) e =
      ⊎_elim (λ (z : x ≡ F.zero). z) (power_only_zero x n) (eq-zero_of_mul-eq-zero F x (power ring x n) e)
