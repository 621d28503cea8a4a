-- A number below p ^ d is its d digits, and each d digits are those of one number below p ^ d.
use Rattle.std.specs.Prelude.{◌≡◌, ℕ, zero, suc, ◌+◌, ◌*◌, ◌/◌, ◌%◌, ◌^◌, ◌<◌, ◌≤◌}
use Rattle.std.proofs.Common.{sym, ◌∙◌, ap, ap₂, arith}
use Rattle.std.proofs.Math.Nat.{mod-lt, mod-one, zero-mod, mod-eq_of_lt, div-add-mod, div-one, zero-div, div-eq_of_lt}
use Rattle.std.proofs.Math.Nat.{div-div-eq-div-mul, mul-add-div, mul-add-mod_self_left, pow-zero, pow-suc, pow-succ'}
use Rattle.std.proofs.Math.Nat.{pow-le-pow_right, one-le-pow, mul-le-mul_right}
use Rattle.theory_rings.specs.Naturals.{nat_monoid}
use Rattle.theory_rings.specs.Digits.{digit, of_digits, DigitsLaw}
use Rattle.theory_rings.proofs.Sums.Sums.{sum_congr, sum_first}
use Rattle.theory_rings.proofs.Sums.NaturalSums.{mul-sum_nat}

-- the remainder by a product, by its lowest part and the digit above it
pub mod-mul : (a m n : ℕ) → a % (m * n) ≡ a % m + a / m % n * m
mod-mul a m n =
    let e = div-add-mod a m in
    let f = ap (λ x. m * x) (div-add-mod (a / m) n) in
    let g = ap (λ x. m * (n * x)) (div-div-eq-div-mul a m n) in
    let h = div-add-mod a (m * n) in
    omega arith

module _ (p : ℕ) where
  pub digit-zero : (a : ℕ) → digit p a 0 ≡ a % p
  digit-zero a = ap (λ x. a / x % p) (pow-zero p) ∙ ap (λ x. x % p) (div-one a)

  pub digit-suc : (a k : ℕ) → digit p a (suc k) ≡ digit p (a / p) k
  digit-suc a k = ap (λ x. a / x % p) (pow-succ' p k) ∙ ap (λ x. x % p) (sym (div-div-eq-div-mul a p (p ^ k)))

  pub zero-digit : (k : ℕ) → digit p 0 k ≡ 0
  zero-digit k = ap (λ x. x % p) (zero-div (p ^ k)) ∙ zero-mod p

  -- a number below p has one digit
  pub digit-suc_of_lt : (a k : ℕ) → a < p → digit p a (suc k) ≡ 0
  digit-suc_of_lt a k l = digit-suc a k ∙ ap (λ x. digit p x k) (div-eq_of_lt l) ∙ zero-digit k

  -- the lowest digit, and the number that the others make
  pub of_digits_suc : (d : ℕ) (f : ℕ → ℕ) → of_digits p (suc d) f ≡ f 0 + p * of_digits p d (λ k. f (suc k))
  of_digits_suc d f =
      sum_first nat_monoid d (λ k. f k * p ^ k)
      ∙ ap₂ (λ x y. x + y) (ap (λ x. f 0 * x) (pow-zero p) ∙ omega arith)
      (sum_congr nat_monoid d (λ k. f (suc k) * p ^ suc k) (λ k. p * (f (suc k) * p ^ k)) (λ k _. one_more k)
      ∙ sym (mul-sum_nat d p (λ k. f (suc k) * p ^ k)))
    where
      one_more : (k : ℕ) → f (suc k) * p ^ suc k ≡ p * (f (suc k) * p ^ k)
      one_more k = ap (λ x. f (suc k) * x) (pow-suc p k) ∙ omega arith

  -- the d lowest digits of a make its remainder by p ^ d
  pub of_digits-digit_mod : (d a : ℕ) → of_digits p d (digit p a) ≡ a % p ^ d
  of_digits-digit_mod zero a = sym (ap (λ x. a % x) (pow-zero p) ∙ mod-one a)
  of_digits-digit_mod (suc d) a =
      ap (λ x. x + digit p a d * p ^ d) (of_digits-digit_mod d a)
      ∙ sym (ap (λ x. a % x) (pow-suc p d) ∙ mod-mul a (p ^ d) p)

  -- a number below p ^ d is the number of its digits
  pub of_digits-digit : (d a : ℕ) → a < p ^ d → of_digits p d (digit p a) ≡ a
  of_digits-digit d a l = of_digits-digit_mod d a ∙ mod-eq_of_lt l

  -- and is given by them
  pub digit_injective : (d a b : ℕ) → a < p ^ d → b < p ^ d → ((k : ℕ) → k < d → digit p a k ≡ digit p b k) → a ≡ b
  digit_injective d a b la lb h =
      sym (of_digits-digit d a la)
      ∙ sum_congr nat_monoid d (λ k. digit p a k * p ^ k) (λ k. digit p b k * p ^ k)
      (λ k l. ap (λ x. x * p ^ k) (h k l))
      ∙ of_digits-digit d b lb

pub lt_pow_self : (p a : ℕ) → 2 ≤ p → a < p ^ a
lt_pow_self p zero h = let e = pow-zero p in omega arith
lt_pow_self p (suc a) h =
    let l = lt_pow_self p a h in
    let e = pow-succ' p a in
    let g : 2 * p ^ a ≤ p * p ^ a = mul-le-mul_right (p ^ a) h in
    omega arith

pub le_pow_self : (p d : ℕ) → 1 ≤ d → p ≤ p ^ d
le_pow_self zero d h = omega arith
le_pow_self (suc p) zero h = absurd (omega arith)
le_pow_self (suc p) (suc d) h =
    let e = pow-suc (suc p) d in
    let l : 1 * suc p ≤ suc p ^ d * suc p = mul-le-mul_right (suc p) (one-le-pow d (suc p) (omega arith)) in
    omega arith

module _ (p : ℕ) (pos : 0 < p) where
  pub digit_lt : (a k : ℕ) → digit p a k < p
  digit_lt a k = mod-lt (a / p ^ k) pos

  -- past the digits that it needs, a number has the digit 0
  pub digit_past : (d a k : ℕ) → a < p ^ d → d ≤ k → digit p a k ≡ 0
  digit_past d a k l h = ap (λ x. x % p) (div-eq_of_lt (below (pow-le-pow_right pos h))) ∙ zero-mod p
    where
      below : p ^ d ≤ p ^ k → a < p ^ k
      below g = omega arith

  -- d digits make a number below p ^ d
  pub of_digits_lt : (d : ℕ) (f : ℕ → ℕ) → ((k : ℕ) → k < d → f k < p) → of_digits p d f < p ^ d
  of_digits_lt zero f h = let e = pow-zero p in omega arith
  of_digits_lt (suc d) f h =
      let front = of_digits_lt d f (λ k l. h k (omega arith)) in
      let last : suc (f d) * p ^ d ≤ p * p ^ d = mul-le-mul_right (p ^ d) (top (h d (omega arith))) in
      let e = pow-succ' p d in
      omega arith
    where
      top : f d < p → suc (f d) ≤ p
      top l = omega arith

  -- so a number is below p ^ d where its d lowest digits make it
  pub lt_of_digits : (d a : ℕ) → of_digits p d (digit p a) ≡ a → a < p ^ d
  lt_of_digits d a e = let l = of_digits_lt d (digit p a) (λ k _. digit_lt a k) in omega arith

  -- the digits of the number that they make are these
  pub digit-of_digits : (d : ℕ) (f : ℕ → ℕ) → ((k : ℕ) → k < d → f k < p) → (k : ℕ) → k < d
      → digit p (of_digits p d f) k ≡ f k
  digit-of_digits zero f h k l = absurd (omega arith)
  digit-of_digits (suc d) f h zero l =
      digit-zero p (of_digits p (suc d) f) ∙ ap (λ x. x % p) (of_digits_suc p d f ∙ omega arith)
      ∙ mul-add-mod_self_left p (of_digits p d (λ k. f (suc k))) (f 0) ∙ mod-eq_of_lt (h 0 l)
  digit-of_digits (suc d) f h (suc k) l =
      digit-suc p (of_digits p (suc d) f) k ∙ ap (λ x. digit p x k) front
      ∙ digit-of_digits d (λ i. f (suc i)) (λ i g. h (suc i) (omega arith)) k (omega arith)
    where
      front : of_digits p (suc d) f / p ≡ of_digits p d (λ i. f (suc i))
      front =
          ap (λ x. x / p) (of_digits_suc p d f ∙ omega arith) ∙ mul-add-div pos (of_digits p d (λ i. f (suc i))) (f 0)
          ∙ ap (λ x. of_digits p d (λ i. f (suc i)) + x) (div-eq_of_lt (h 0 (omega arith))) ∙ omega arith

pub digits_law : DigitsLaw
digits_law p d two_le =
    (of_digits-digit p d, digit_lt p (omega arith), of_digits_lt p (omega arith) d, digit-of_digits p (omega arith) d)
