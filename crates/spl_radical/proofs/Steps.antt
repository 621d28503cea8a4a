-- Steps of powers and quotients of numbers.
use Rattle.std.specs.Prelude.{◌≡◌, ℕ, suc, ◌+◌, ◌*◌, ◌/◌, ◌^◌, ◌<◌, ◌≤◌}
use Rattle.std.proofs.Common.{sym, ◌∙◌, ap, arith}
use Rattle.std.proofs.Math.Nat.{pow-zero, pow-suc, pow-le-pow_right, div-div-eq-div-mul}

-- the first power
pub first_power : (p : ℕ) → p ≡ p ^ suc 0
first_power p = let h : p ≡ 1 * p = omega arith in h ∙ ap (λ x. x * p) (sym (pow-zero p)) ∙ sym (pow-suc p 0)

-- the next power
pub next_power : (p i power : ℕ) → power ≡ p ^ suc i → power * p ≡ p ^ suc (i + 1)
next_power p i power e =
    let s : i + 1 ≡ suc i = omega arith in
    ap (λ x. x * p) e ∙ sym (pow-suc p (suc i)) ∙ ap (λ n. p ^ suc n) (sym s)

-- is no greater than the last
pub power_fits : (p l i power : ℕ) → 2 ≤ p → p ^ suc l ≤ 2 ^ 40 → i < l → power ≡ p ^ suc i → power * p ≤ 2 ^ 40
power_fits p l i power two most h e =
    let g : p ^ suc (i + 1) ≤ p ^ suc l = pow-le-pow_right (omega arith) (omega arith) in
    let k = next_power p i power e in
    omega arith

-- one more digit taken off
pub next_quotient : (p number i rest : ℕ) → rest ≡ number / p ^ i → rest / p ≡ number / p ^ (i + 1)
next_quotient p number i rest e =
    let s : i + 1 ≡ suc i = omega arith in
    ap (λ x. x / p) e ∙ div-div-eq-div-mul number (p ^ i) p ∙ ap (λ x. number / x) (sym (pow-suc p i))
    ∙ ap (λ n. number / p ^ n) (sym s)
