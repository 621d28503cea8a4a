-- The greatest power of a number up to another.
use Rattle.std.specs.Prelude.{◌≡◌, ℕ, suc, ◌+◌, ◌*◌, ◌/◌, ◌%◌, ◌^◌, ◌<◌, ◌≤◌}
use Rattle.std.proofs.Common.{sym, ◌∙◌, ap, subst, arith}
use Rattle.std.proofs.Math.Nat.{pow-zero, pow-suc, div-div-eq-div-mul, div-eq_of_lt, div-add-mod, mod-lt, one-le-pow}
use Rattle.std.proofs.Math.Nat.{mul-le-mul}
use Rattle.std.proofs.lemmas.Bool.{cases_lt}
use Rattle.std.proofs.Common.{⊎_elim}
use Rattle.theory_rings.proofs.Numbers.Digits.{lt_pow_self}
use Rattle.spl_radical.proofs.Steps.{first_power}

-- before the first step
pub level_first : (p m : ℕ) → 1 ≤ m → p ^ 0 ≤ m
level_first p m h = let e = pow-zero p in omega arith

pub rest_first : (p m : ℕ) → m / p ≡ m / p ^ suc 0
rest_first p m = ap (λ x. m / x) (first_power p)

-- a step, where something is left
pub level_next : (p m l rest : ℕ) → rest ≡ m / p ^ suc l → 0 < rest → p ^ (l + 1) ≤ m
level_next p m l rest e pos =
    let s : suc l ≡ l + 1 = omega arith in
    subst (λ n. p ^ n ≤ m) s (⊎_elim
    (λ (h : m < p ^ suc l). absurd (let z = div-eq_of_lt h in omega arith))
    (λ (h : p ^ suc l ≤ m). h)
    (cases_lt m (p ^ suc l)))

pub rest_next : (p m l rest : ℕ) → rest ≡ m / p ^ suc l → rest / p ≡ m / p ^ suc (l + 1)
rest_next p m l rest e =
    let s : suc l ≡ l + 1 = omega arith in
    ap (λ x. x / p) e ∙ div-div-eq-div-mul m (p ^ suc l) p ∙ ap (λ x. m / x) (sym (pow-suc p (suc l)))
    ∙ ap (λ n. m / p ^ suc n) s

-- there are few steps
pub level_small : (p m l : ℕ) → 2 ≤ p → p ^ l ≤ m → m < 2 ^ 22 → l < 2 ^ 22
level_small p m l two low small = let g = lt_pow_self p l two in omega arith

-- and at the end
pub level_high : (p m l rest : ℕ) → 2 ≤ p → rest ≡ m / p ^ suc l → (0 < rest → ⊥) → m < p ^ suc l
level_high p m l rest two e none =
    let q = p ^ suc l in
    let pos = one-le-pow (suc l) p (omega (arith, two)) in
    let z : m / q ≡ 0 = omega arith in
    let d = div-add-mod m q in
    let r : m % q < q = mod-lt m (omega (arith, pos)) in
    let t : q * (m / q) ≡ q * 0 = ap (λ x. q * x) z in
    omega arith

-- a number whose third power is below 2^64
pub few_of_cube : (m : ℕ) → m * m * m < 2 ^ 64 → m < 2 ^ 22
few_of_cube m h = ⊎_elim
    (λ (l : m < 2 ^ 22). l)
    (λ (g : 2 ^ 22 ≤ m). absurd (
    let a : 2 ^ 22 * 2 ^ 22 ≤ m * m = mul-le-mul g g in
    let b : 2 ^ 22 * 2 ^ 22 * 2 ^ 22 ≤ m * m * m = mul-le-mul a g in
    omega arith))
    (cases_lt m (2 ^ 22))
