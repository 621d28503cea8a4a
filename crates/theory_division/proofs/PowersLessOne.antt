-- The numbers q^m − 1: q^d − 1 divides q^m − 1 only where d divides m, by Euclid's algorithm on the exponents.
use Rattle.std.specs.Prelude.{◌≡◌, ℕ, zero, suc, ◌+◌, ◌-◌, ◌*◌, ◌/◌, ◌%◌, ◌^◌, ◌<◌, ◌≤◌}
use Rattle.std.specs.Int.{◌∣◌}
use Rattle.std.proofs.Common.{sym, ◌∙◌, ap, subst₂, arith, ⊎_elim, add-mul, zero-mul, pow-suc, mod-eq_of_lt}
use Rattle.std.proofs.Common.{mul-le-mul_left, mul-le-mul_right, mul-lt-mul_of_pos_right, mul_comm}
use Rattle.std.proofs.Math.Nat.{pow-zero, pow-le-pow_right, one-le-pow, add-mod_right, zero-mod, mul-div_cancel'}
use Rattle.std.proofs.lemmas.Nat.{pow-add}
use Rattle.std.proofs.lemmas.Nat.Gcd.{dvd_of_mod-eq-zero}
use Rattle.std.proofs.lemmas.Bool.{cases_lt}

-- (z + 1)^m − 1
unfoldable pub less : ℕ → ℕ → ℕ
less m z = suc z ^ m - 1

pub less-is : (m z : ℕ) → less m z ≡ suc z ^ m - 1
unfolding less
less-is m z = omega arith

pub power-less : (m z : ℕ) → suc z ^ m ≡ suc (less m z)
unfolding less
power-less m z = let h = one-le-pow m (suc z) (omega arith) in omega arith

less-add : (a d z : ℕ) → less (a + d) z ≡ suc z ^ a * less d z + less a z
less-add a d z =
    let e1 = power-less (a + d) z in
    let e2 = pow-add (suc z) a d in
    let e3 = power-less a z in
    let e4 : suc z ^ a * suc z ^ d ≡ suc z ^ a * less d z + suc z ^ a = ap (λ t. suc z ^ a * t) (power-less d z)
    ∙ omega arith in
    omega arith

pub less_lt_less : (a b z : ℕ) → 0 < z → a < b → less a z < less b z
less_lt_less a b z p l =
    let e1 : suc z ^ suc a ≤ suc z ^ b = pow-le-pow_right {n = suc z} (omega arith) l in
    let e2 = pow-suc (suc z) a in
    let e3 : suc z ^ a * 2 ≤ suc z ^ a * suc z = mul-le-mul_left (suc z ^ a) (omega arith) in
    let e4 = power-less a z in
    let e5 = power-less b z in
    omega arith

pub less-zero : (z : ℕ) → less 0 z ≡ 0
less-zero z = let e = power-less 0 z in let f = pow-zero (suc z) in omega arith

pub less-one : (z : ℕ) → less 1 z ≡ z
less-one z = let e = power-less 1 z in let f = pow-suc (suc z) 0 in let g = pow-zero (suc z) in let h =
    ap (λ t. t * suc z) g in omega arith

mod-eq-zero_of_less-mul : (fuel m d z k : ℕ) → 0 < z → 0 < d → m ≤ fuel → less m z ≡ k * less d z → m % d ≡ 0
mod-eq-zero_of_less-mul zero m d z k p q l e = let w : m ≡ 0 = omega arith in ap (λ t. t % d) w ∙ zero-mod d
mod-eq-zero_of_less-mul (suc fuel) m d z k p q l e = ⊎_elim
    (λ (h : m < d). mod-eq_of_lt h ∙ small k h e)
    (λ (h : d ≤ m).
    let a = m - d in
    let s : m ≡ a + d = omega arith in
    let f : less m z ≡ suc z ^ a * less d z + less a z = ap (λ t. less t z) s ∙ less-add a d z in
    ap (λ t. t % d) s ∙ add-mod_right a d
    ∙ mod-eq-zero_of_less-mul fuel a d z (k - suc z ^ a) p q (omega arith)
    (⊎_elim
    (λ (c : k < suc z ^ a). let g : k * less d z ≤ suc z ^ a * less d z = mul-le-mul_right (less d z) (omega arith) in
    let pos = less_lt_less 0 d z p q in
    let g2 : k * less d z < suc z ^ a * less d z = mul-lt-mul_of_pos_right c (omega arith) in absurd (omega arith))
    (λ (c : suc z ^ a ≤ k).
    let r : k ≡ (k - suc z ^ a) + suc z ^ a = omega arith in
    let g = ap (λ t. t * less d z) r ∙ add-mul (k - suc z ^ a) (suc z ^ a) (less d z) in omega arith)
    (cases_lt k (suc z ^ a))))
    (cases_lt m d)
  where
    small : (k : ℕ) → m < d → less m z ≡ k * less d z → m ≡ 0
    small zero h e = ⊎_elim
        (λ (c : 0 < m). let g = less_lt_less 0 m z p c in let y = zero-mul (less d z) in absurd (omega arith))
        (λ (c : m ≤ 0). omega arith) (cases_lt 0 m)
    small (suc k) h e = let g = less_lt_less m d z p h in let y = add-mul k 1 (less d z) in absurd (omega arith)

-- q^d − 1 divides q^m − 1 only where d divides m
pub dvd_of_less-mul : (m d z k : ℕ) → 0 < z → 0 < d → less m z ≡ k * less d z → d ∣ m
dvd_of_less-mul m d z k p q e = dvd_of_mod-eq-zero d (mod-eq-zero_of_less-mul m m d z k p q (omega arith) e)

pub dvd_of_power_less_one : (q m d : ℕ) → 2 ≤ q → 0 < d → q ^ d - 1 ∣ q ^ m - 1 → d ∣ m
dvd_of_power_less_one zero m d h p v = absurd (omega arith)
dvd_of_power_less_one (suc z) m d h p v =
    let w : less d z ∣ less m z = subst₂ (λ a b. a ∣ b) (sym (less-is d z)) (sym (less-is m z)) v in
    dvd_of_less-mul m d z (less m z / less d z) (omega arith) p
    (sym (mul-div_cancel' (less d z) w) ∙ mul_comm (less d z) (less m z / less d z))
