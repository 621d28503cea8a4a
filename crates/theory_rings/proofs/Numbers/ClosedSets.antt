-- A set of numbers that is closed under sums and differences holds a common divisor of any two of its members.
use Rattle.std.specs.Prelude.{◌≡◌, ℕ, zero, suc, ◌+◌, ◌-◌, ◌*◌, ◌<◌, ◌≤◌}
use Rattle.std.specs.Int.{◌∣◌}
use Rattle.std.proofs.Common.{sym, subst, arith, ⊎_elim, mul-zero, mul-add}
use Rattle.std.proofs.lemmas.Bool.{cases_lt}
use Rattle.std.proofs.lemmas.Nat.Gcd.{dvd_refl, dvd-zero}
use Rattle.std.proofs.Math.Nat.{dvd-add}

pub record IsClosed (S : ℕ → Type 0) : Type 0 where
  pub sums : (a b : ℕ) → S a → S b → S (a + b)
  pub differences : (a b : ℕ) → S a → S (a + b) → S b

-- a member that divides a and b
pub record CommonDivisor (S : ℕ → Type 0) (a b : ℕ) : Type 0 where
  pub divisor : ℕ
  pub member : S divisor
  pub left : divisor ∣ a
  pub right : divisor ∣ b

module _ (S : ℕ → Type 0) (closed : IsClosed S) where
  -- Euclid's algorithm by differences
  euclid : (fuel a b : ℕ) → a + b < fuel → S a → S b → CommonDivisor S a b
  euclid zero a b l sa sb = absurd (omega arith)
  euclid (suc fuel) zero b l sa sb = record { divisor = b; member = sb; left = dvd-zero b; right = dvd_refl b }
  euclid (suc fuel) (suc a) zero l sa sb =
      record { divisor = suc a; member = sa; left = dvd_refl (suc a); right = dvd-zero (suc a) }
  euclid (suc fuel) (suc a) (suc b) l sa sb = ⊎_elim
      (λ (h : a < b).
      let e : suc a + (b - a) ≡ suc b = omega arith in
      let c = euclid fuel (suc a) (b - a) (omega arith) sa
      (closed.differences (suc a) (b - a) sa (subst S (sym e) sb)) in
      let d : c.divisor ∣ suc b = subst (λ n. c.divisor ∣ n) e (dvd-add c.divisor c.left c.right) in
      record { divisor = c.divisor; member = c.member; left = c.left; right = d })
      (λ (h : b ≤ a).
      let e : suc b + (a - b) ≡ suc a = omega arith in
      let c = euclid fuel (a - b) (suc b) (omega arith)
      (closed.differences (suc b) (a - b) sb (subst S (sym e) sa)) sb in
      let d : c.divisor ∣ suc a = subst (λ n. c.divisor ∣ n) e (dvd-add c.divisor c.right c.left) in
      record { divisor = c.divisor; member = c.member; left = d; right = c.right })
      (cases_lt a b)

  pub common_divisor : (a b : ℕ) → S a → S b → CommonDivisor S a b
  common_divisor a b sa sb = euclid (suc (a + b)) a b (omega arith) sa sb

  pub IsClosed-zero : (a : ℕ) → S a → S 0
  IsClosed-zero a s = let e : a ≡ a + 0 = omega arith in closed.differences a 0 s (subst S e s)

  pub IsClosed-mul : (a k : ℕ) → S a → S (a * k)
  IsClosed-mul a zero s = subst S (sym (mul-zero a)) (IsClosed-zero a s)
  IsClosed-mul a (suc k) s = let e : a * k + a ≡ a * suc k = omega arith in
      subst S e (closed.sums (a * k) a (IsClosed-mul a k s) s)

  -- the numbers whose multiples by c are members
  pub IsClosed-scaled : (c : ℕ) → IsClosed (λ x. S (c * x))
  IsClosed-scaled c = record {
    sums = λ a b sa sb. subst S (sym (mul-add c a b)) (closed.sums (c * a) (c * b) sa sb);
    differences = λ a b sa sb. closed.differences (c * a) (c * b) sa (subst S (mul-add c a b) sb);
  }
