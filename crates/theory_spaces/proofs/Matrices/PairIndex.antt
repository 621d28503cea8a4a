-- Pairs of numbers below m and n, numbered row by row.
use Rattle.std.specs.Prelude.{◌≡◌, ℕ, zero, suc, ◌+◌, ◌*◌, ◌/◌, ◌%◌, ◌<◌, ◌≤◌}
use Rattle.std.proofs.Common.{sym, ◌∙◌, ap, ap₂, arith, ⊎_elim}
use Rattle.std.proofs.Math.Nat.{mod-lt, div-lt_iff_lt-mul, mul-le-mul_right}
use Rattle.std.proofs.lemmas.Nat.{div-mul-add, mod-mul-add}
use Rattle.std.proofs.lemmas.Bool.{cases_eq}
use Rattle.theory_rings.specs.Ring.{RingOn}
use Rattle.theory_rings.proofs.Rings.RingLaws.{mul-zero, zero-mul}
use Rattle.theory_spaces.specs.Matrix.{delta}
use Rattle.theory_spaces.proofs.Matrices.Matrices.{delta-same, delta-other}

pub pair-lt : (m n i j : ℕ) → i < m → j < n → i * n + j < m * n
pair-lt m n i j l g = let h : suc i * n ≤ m * n = mul-le-mul_right n l in omega arith

-- there are no pairs where n = 0
pub width-positive : (m n t : ℕ) → t < m * n → 0 < n
width-positive m zero t l = absurd (omega arith)
width-positive m (suc n) t l = omega arith

pub row-lt : (m n t : ℕ) → t < m * n → t / n < m
row-lt m n t l = (div-lt_iff_lt-mul (width-positive m n t l)).1 l

pub column-lt : (m n t : ℕ) → t < m * n → t % n < n
column-lt m n t l = mod-lt t (width-positive m n t l)

-- the unit matrix at two pairs
pub delta-pairs : {K : Type 0} (R : RingOn K) (n i j k l : ℕ) → j < n → l < n
    → delta R (i * n + j) (k * n + l) ≡ R.◌⊗◌ (delta R i k) (delta R j l)
delta-pairs R n i j k l lj ll = ⊎_elim
    (λ (e : i ≡ k). ⊎_elim
    (λ (d : j ≡ l). ap₂ (λ x y. delta R (i * n + j) (x * n + y)) (sym e) (sym d) ∙ delta-same R (i * n + j)
    ∙ sym (ap₂ R.◌⊗◌ (ap (delta R i) (sym e) ∙ delta-same R i) (ap (delta R j) (sym d) ∙ delta-same R j)
    ∙ R.one-mul R.one))
    (λ (d : j ≡ l → ⊥). delta-other R (i * n + j) (k * n + l)
    (λ q. d (sym (mod-mul-add i n j lj) ∙ ap (λ x. x % n) q ∙ mod-mul-add k n l ll))
    ∙ sym (ap (R.◌⊗◌ (delta R i k)) (delta-other R j l d) ∙ mul-zero R (delta R i k)))
    (cases_eq j l))
    (λ (e : i ≡ k → ⊥). delta-other R (i * n + j) (k * n + l)
    (λ q. e (sym (div-mul-add i n j lj) ∙ ap (λ x. x / n) q ∙ div-mul-add k n l ll))
    ∙ sym (ap (λ x. R.◌⊗◌ x (delta R j l)) (delta-other R i k e) ∙ zero-mul R (delta R j l)))
    (cases_eq i k)
