-- The laws of multiples by a number, in a commutative monoid, in a group and in a ring.
use Rattle.std.specs.Prelude.{◌≡◌, ℕ, zero, suc, ◌+◌, ◌*◌, ◌/◌, ◌%◌, ◌^◌}
use Rattle.std.specs.Int.{◌∣◌}
use Rattle.std.proofs.Common.{refl, sym, ◌∙◌, ap, arith, mul_comm, div-add-mod'}
use Rattle.std.proofs.Math.Nat.{pow-zero, pow-succ', mul-div_cancel'}
use Rattle.theory_rings.specs.Ring.{AddCommMonoidOn, AddCommGroupOn, RingOn}
use Rattle.theory_rings.specs.Sum.{sum}
use Rattle.theory_rings.specs.Power.{power, times}
use Rattle.theory_rings.proofs.Rings.RingLaws.{zero-mul}
use Rattle.theory_rings.proofs.Sums.Sums.{sum_eq_zero, sum-add, sum-neg, sum-split, map-sum, mul-sum, sum-mul}

module _ {V : Type 0} (M : AddCommMonoidOn V) where
  infixl 65 ◌⊕◌
  open M use {◌⊕◌}

  pub one-times : (x : V) → times M 1 x ≡ x
  one-times x = M.zero-add x

  pub times-zero : (n : ℕ) → times M n M.zero ≡ M.zero
  times-zero n = sum_eq_zero M n (λ _. M.zero) (λ i h. refl)

  pub times-add : (n : ℕ) (x y : V) → times M n (x ⊕ y) ≡ times M n x ⊕ times M n y
  times-add n x y = sum-add M n (λ _. x) (λ _. y)

  pub add-times : (m n : ℕ) (x : V) → times M (m + n) x ≡ times M m x ⊕ times M n x
  add-times m n x = sum-split M m n (λ _. x)

  pub mul-times : (m n : ℕ) (x : V) → times M (m * n) x ≡ times M m (times M n x)
  mul-times zero n x = let e : 0 * n ≡ 0 = omega arith in ap (λ k. times M k x) e
  mul-times (suc m) n x =
      let e : suc m * n ≡ m * n + n = omega arith in
      ap (λ k. times M k x) e ∙ add-times (m * n) n x ∙ ap (λ y. y ⊕ times M n x) (mul-times m n x)

  pub times-sum : (m n : ℕ) (f : ℕ → V) → times M m (sum M n f) ≡ sum M n (λ i. times M m (f i))
  times-sum m n f = map-sum M M (times M m) (times-zero m) (times-add m) n f

-- a map that keeps sums keeps multiples
pub map-times : {V W : Type 0} (M : AddCommMonoidOn V) (N : AddCommMonoidOn W) (h : V → W) → h M.zero ≡ N.zero
    → ((a b : V) → h (M.◌⊕◌ a b) ≡ N.◌⊕◌ (h a) (h b)) → (n : ℕ) (x : V) → h (times M n x) ≡ times N n (h x)
map-times M N h z e n x = map-sum M N h z e n (λ _. x)

pub times-neg : {V : Type 0} (G : AddCommGroupOn V) (n : ℕ) (x : V)
    → times G.monoid n (G.neg x) ≡ G.neg (times G.monoid n x)
times-neg G n x = sum-neg G n (λ _. x)

module _ {K : Type 0} (R : RingOn K) where
  infixl 65 ◌⊕◌
  infixl 70 ◌⊗◌
  open R use {monoid, ◌⊕◌, ◌⊗◌}

  pub times-mul_assoc : (n : ℕ) (x y : K) → times monoid n x ⊗ y ≡ times monoid n (x ⊗ y)
  times-mul_assoc n x y = sum-mul R n y (λ _. x)

  pub mul-times_comm : (n : ℕ) (x y : K) → x ⊗ times monoid n y ≡ times monoid n (x ⊗ y)
  mul-times_comm n x y = mul-sum R n x (λ _. y)

  -- the multiple by n is the product with n times 1
  pub times-eq-mul : (n : ℕ) (x : K) → times monoid n x ≡ times monoid n R.one ⊗ x
  times-eq-mul n x = ap (times monoid n) (sym (R.one-mul x)) ∙ sym (times-mul_assoc n R.one x)

  pub power-times : (k : ℕ) (x : K) (n : ℕ) → power R (times monoid k x) n ≡ times monoid (k ^ n) (power R x n)
  power-times k x zero = sym (ap (λ j. times monoid j R.one) (pow-zero k) ∙ one-times monoid R.one)
  power-times k x (suc n) =
      ap (λ y. times monoid k x ⊗ y) (power-times k x n) ∙ times-mul_assoc k x (times monoid (k ^ n) (power R x n))
      ∙ ap (times monoid k) (mul-times_comm (k ^ n) x (power R x n))
      ∙ sym (mul-times monoid k (k ^ n) (x ⊗ power R x n))
      ∙ ap (λ j. times monoid j (x ⊗ power R x n)) (sym (pow-succ' k n))

  -- where p times 1 is 0
  module _ (p : ℕ) (char : times monoid p R.one ≡ R.zero) where
    pub times_char : (x : K) → times monoid p x ≡ R.zero
    times_char x = times-eq-mul p x ∙ ap (λ y. y ⊗ x) char ∙ zero-mul R x

    pub times_char_of_dvd : (n : ℕ) → p ∣ n → (x : K) → times monoid n x ≡ R.zero
    times_char_of_dvd n d x =
        ap (λ k. times monoid k x) (sym (mul-div_cancel' p d)) ∙ mul-times monoid p (n / p) x
        ∙ times_char (times monoid (n / p) x)

    -- a multiple goes by the remainder of its number
    pub times_char-mod : (n : ℕ) (x : K) → times monoid (n % p) x ≡ times monoid n x
    times_char-mod n x =
        sym (R.zero-add (times monoid (n % p) x))
        ∙ ap (λ y. y ⊕ times monoid (n % p) x)
        (sym (times_char (times monoid (n / p) x)) ∙ sym (mul-times monoid p (n / p) x))
        ∙ sym (add-times monoid (p * (n / p)) (n % p) x)
        ∙ ap (λ k. times monoid k x) (let a = div-add-mod' n p in let b = mul_comm p (n / p) in omega arith)
