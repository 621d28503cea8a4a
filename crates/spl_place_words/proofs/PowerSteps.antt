-- Powers of a number, up to a bound.
use Rattle.std.specs.Prelude.{◌≡◌, ℕ, suc, ◌+◌, ◌*◌, ◌^◌, ◌<◌, ◌≤◌}
use Rattle.std.proofs.Common.{sym, ◌∙◌, ap, arith}
use Rattle.std.proofs.Math.Nat.{pow-zero, pow-suc, pow-le-pow_right}

-- the first power
pub first_power : (p : ℕ) → p ≡ p ^ suc 0
first_power p = let h : p ≡ 1 * p = omega arith in h ∙ ap (λ x. x * p) (sym (pow-zero p)) ∙ sym (pow-suc p 0)

-- the next power
pub next_power : (p i power : ℕ) → power ≡ p ^ suc i → power * p ≡ p ^ suc (i + 1)
next_power p i power e =
    let s : i + 1 ≡ suc i = omega arith in
    ap (λ x. x * p) e ∙ sym (pow-suc p (suc i)) ∙ ap (λ n. p ^ suc n) (sym s)

-- powers of a greater exponent are no less
pub larger_power : (p l i power : ℕ) → 2 ≤ p → i < l → power ≡ p ^ suc i → power * p ≤ p ^ suc l
larger_power p l i power two h e =
    let g : p ^ suc (i + 1) ≤ p ^ suc l = pow-le-pow_right (omega arith) (omega arith) in
    let k = next_power p i power e in
    omega arith
