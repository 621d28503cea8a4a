-- Divisors of numbers, and remainders.
use Rattle.std.specs.Prelude.{◌≡◌, ℕ, ◌-◌, ◌*◌, ◌+◌, ◌/◌, ◌%◌, ◌<◌, ◌≤◌, ◌⊎◌}
use Rattle.std.specs.Int.{◌∣◌}
use Rattle.std.proofs.Common.{sym, ◌∙◌, ap, subst, arith, inl, inr, ⊎_elim}
use Rattle.std.proofs.lemmas.Bool.{cases_lt}
use Rattle.std.proofs.lemmas.Nat.Gcd.{dvd_of_mod-eq-zero, mod-eq-zero_of_dvd}
use Rattle.std.proofs.Math.Nat.{div-add-mod, mul-sub, add-mul-mod_self_left, dvd-mul_right, mul-div_cancel'}

-- a number divides another or not
pub dvd_or_not : (a b : ℕ) → (a ∣ b) ⊎ (a ∣ b → ⊥)
dvd_or_not a b = ⊎_elim
    (λ (h : 0 < b % a). inr (λ d. let e = mod-eq-zero_of_dvd a d in omega arith))
    (λ (h : b % a ≤ 0). inl (let e : b % a ≡ 0 = omega arith in dvd_of_mod-eq-zero a e))
    (cases_lt 0 (b % a))

-- numbers with one remainder differ by a multiple, and conversely
pub dvd-sub_of_mod-eq : (n x y : ℕ) → x % n ≡ y % n → n ∣ x - y
dvd-sub_of_mod-eq n x y e =
    let a = div-add-mod x n in
    let b = div-add-mod y n in
    let c : n * (x / n - y / n) ≡ x - y = mul-sub n (x / n) (y / n) ∙ omega arith in
    subst (λ z. n ∣ z) c (dvd-mul_right n (x / n - y / n))

mod-eq_of_dvd-sub_le : (n x y : ℕ) → x ≤ y → n ∣ y - x → x % n ≡ y % n
mod-eq_of_dvd-sub_le n x y l d =
    let e : x + n * ((y - x) / n) ≡ y = ap (λ z. x + z) (mul-div_cancel' n d) ∙ omega arith in
    sym (add-mul-mod_self_left x n ((y - x) / n)) ∙ ap (λ z. z % n) e

pub mod-eq_of_dvd-sub : (n x y : ℕ) → n ∣ x - y → n ∣ y - x → x % n ≡ y % n
mod-eq_of_dvd-sub n x y c d = ⊎_elim
    (λ (l : x < y). mod-eq_of_dvd-sub_le n x y (omega arith) d)
    (λ (l : y ≤ x). sym (mod-eq_of_dvd-sub_le n y x l c))
    (cases_lt x y)
