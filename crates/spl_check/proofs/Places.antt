-- The places of an n by n matrix, numbered row by row.
use Rattle.std.specs.Prelude.{◌≡◌, ◌≢◌, ◌+◌, ◌*◌, ◌/◌, ◌%◌, ◌<◌, ◌==◌, ◌&&◌, ℕ, zero, suc}
use Rattle.std.proofs.Common.{sym, ◌∙◌, ap, ap₂, subst, arith, ⊎_elim}
use Rattle.std.proofs.Math.Nat.{div-lt_iff_lt-mul, mod-lt, div-eq_of_lt, mod-eq_of_lt, add-mul-div_right}
use Rattle.std.proofs.Math.Nat.{add-mul-mod_self_right}
use Rattle.std.proofs.lemmas.Bool.{cases_eq, eq-eqb, ne_eqb}
use Rattle.std.proofs.lemmas.Nat.{div-add-mod'}
use Rattle.spl_algebra.proofs.Rows.{row_end-le}

pub place-positive : (n p : ℕ) → p < n * n → 0 < n
place-positive zero p h = absurd (omega arith)
place-positive (suc n) p h = omega arith

pub place-row : (n p : ℕ) → p < n * n → p / n < n
place-row n p h = (div-lt_iff_lt-mul (place-positive n p h)).1 h

pub place-column : (n p : ℕ) → p < n * n → p % n < n
place-column n p h = mod-lt p (place-positive n p h)

place-lt : (n r s : ℕ) → r < n → s < n → r * n + s < n * n
place-lt n r s r_in s_in = omega (arith, row_end-le r n n r_in)

row-place : (n r s : ℕ) → s < n → (r * n + s) / n ≡ r
row-place n r s s_in =
    let e : r * n + s ≡ s + r * n = omega arith in
    let some : 0 < n = omega arith in
    let z : 0 + r ≡ r = omega arith in
    ap (λ x. x / n) e ∙ add-mul-div_right s r some ∙ ap (λ x. x + r) (div-eq_of_lt s_in) ∙ z

column-place : (n r s : ℕ) → s < n → (r * n + s) % n ≡ s
column-place n r s s_in =
    let e : r * n + s ≡ s + r * n = omega arith in
    ap (λ x. x % n) e ∙ add-mul-mod_self_right s r n ∙ mod-eq_of_lt s_in

-- what holds at each number holds at each place
pub at_places : (n : ℕ) (Q : ℕ → ℕ → Type 0) → ((p : ℕ) → p < n * n → Q (p / n) (p % n)) → (r s : ℕ) → r < n → s < n
    → Q r s
at_places n Q h r s r_in s_in =
    subst (λ x. Q x s) (row-place n r s s_in)
    (subst (λ x. Q ((r * n + s) / n) x) (column-place n r s s_in) (h (r * n + s) (place-lt n r s r_in s_in)))

-- two numbers are the same where row and column are
pub same_place : (n p q : ℕ) → ((q / n == p / n) && (q % n == p % n)) ≡ (q == p)
same_place n p q = ⊎_elim
    (λ (e : q ≡ p).
    ap₂ (λ x y. x && y) (eq-eqb (q / n) (p / n) (ap (λ x. x / n) e)) (eq-eqb (q % n) (p % n) (ap (λ x. x % n) e))
    ∙ sym (eq-eqb q p e))
    (λ (d : q ≢ p). ⊎_elim
    (λ (e : q / n ≡ p / n).
    ap₂ (λ x y. x && y) (eq-eqb (q / n) (p / n) e)
    (ne_eqb (q % n) (p % n) (λ f. d (sym (div-add-mod' q n) ∙ ap₂ (λ x y. x * n + y) e f ∙ div-add-mod' p n)))
    ∙ sym (ne_eqb q p d))
    (λ (e : q / n ≢ p / n). ap (λ x. x && (q % n == p % n)) (ne_eqb (q / n) (p / n) e) ∙ sym (ne_eqb q p d))
    (cases_eq (q / n) (p / n)))
    (cases_eq q p)
