-- The numbers of a multiple of p^j in the ring of lists of numbers modulo p^(l + 1), divided by p^j: modulo p they are
-- the digits of the residue.
use Rattle.std.specs.Prelude.{◌≡◌, ℕ, suc, ◌+◌, ◌-◌, ◌*◌, ◌/◌, ◌%◌, ◌^◌, ◌<◌, ◌≤◌, List, length, get_or}
use Rattle.std.proofs.Common.{◌∙◌, ap, ap₂, arith, pow-add}
use Rattle.std.proofs.Math.Nat.{mod-mod, pow-succ', mul-mod_right, mul-div_cancel_left, mul-div_cancel, one-le-pow}
use Rattle.std.proofs.Math.Nat.{add-mul-mod_self_right}
use Rattle.theory_rings.specs.Ops.{Ops, FieldLaws}
use Rattle.theory_rings.specs.Elements.{Elem}
use Rattle.theory_rings.specs.Digits.{digit}
use Rattle.theory_rings.specs.Sum.{at}
use Rattle.theory_rings.specs.Power.{times}
use Rattle.theory_rings.specs.FieldByDigits.{IsFieldByDigits}
use Rattle.theory_rings.proofs.Numbers.Digits.{mod-mul}
use Rattle.theory_spaces.proofs.Matrices.PairIndex.{pair-lt}
use Rattle.theory_remainders.specs.Irreducible.{IsIrreducible}
use Rattle.theory_remainders.specs.RemainderOps.{remainder_ops}
use Rattle.theory_remainders.proofs.RemainderField.{monic}
use Rattle.theory_lifts.proofs.ElementLifts.{elem_lift}
use Rattle.theory_lifts.proofs.ElementLists.{E, Lists, degree-eq, digits-eq, lift_numbers, down-digits}
use Rattle.theory_lifts.proofs.ListProducts.{ent-times}

-- the remainder by p^(l + 1) of a multiple of p^j, over p^j, is the other factor modulo p
pub divided-mod : (p : ℕ) → 2 ≤ p → (j l y : ℕ) → j ≤ l → (p ^ j * y) % p ^ suc l / p ^ j % p ≡ y % p
divided-mod p two j l y h =
    let q = p ^ j in
    let s = p ^ (l - j) in
    let pos : 1 ≤ q = one-le-pow j p (omega (arith, two)) in
    let split : p ^ suc l ≡ q * (p * s) =
    (let e : suc l ≡ j + suc (l - j) = omega (arith, h) in ap (λ n. p ^ n) e) ∙ pow-add p j (suc (l - j))
    ∙ ap (λ x. q * x) (pow-succ' p (l - j)) in
    let whole : (q * y) % p ^ suc l ≡ y % (p * s) * q =
    ap (λ x. (q * y) % x) split ∙ mod-mul (q * y) q (p * s)
    ∙ ap₂ (λ a b. a + b % (p * s) * q) (mul-mod_right q y) (mul-div_cancel_left y (omega (arith, pos)))
    ∙ (let e : 0 + y % (p * s) * q ≡ y % (p * s) * q = omega arith in e) in
    ap (λ x. x / q % p) whole
    ∙ ap (λ x. x % p) (mul-div_cancel (y % (p * s)) (omega (arith, pos)) ∙ mod-mul y p s)
    ∙ add-mul-mod_self_right (y % p) (y / p % s) p
    ∙ mod-mod y p

module _ (o : Ops ℕ) (L : FieldLaws o) (m : List ℕ) (i : IsIrreducible o m) (p : ℕ) (two_le : 2 ≤ p) (n : List ℕ)
    (d : 1 ≤ length n) (D : IsFieldByDigits p n o) (l : ℕ) (two_le_pow : 2 ≤ p ^ suc l) where
  abbrev Numbers : Type 0
  Numbers = Lists o L m i p two_le n d D (suc l) two_le_pow

  abbrev C : ℕ
  C = length n

  -- an element whose digits they are is the residue of what is multiplied
  pub down-divided : (j : ℕ) → j ≤ l → (y : Numbers) (a : Elem (remainder_ops o L m (monic o L m i)))
      → (let R = elem_lift o L m i p two_le n d D (suc l) two_le_pow in
      (u v : ℕ) → u < E o L m i p two_le n d D → v < C
      → digit p (at o a.0 u) v ≡ get_or (times R.ring.monoid (p ^ j) y).0 (u * C + v) 0 / p ^ j % p)
      → (let R = elem_lift o L m i p two_le n d D (suc l) two_le_pow in R.down y ≡ a)
  down-divided j le y a h =
      let S = elem_lift o L m i p two_le n d D (suc l) two_le_pow in
      let N = lift_numbers o L m i p two_le n d D (suc l) two_le_pow in
      let deg = E o L m i p two_le n d D in
      down-digits o L m i p two_le n d D (suc l) two_le_pow y a (λ u v lu lv.
      h u v lu lv
      ∙ ap (λ x. x / p ^ j % p) (ent-times (p ^ suc l) deg C two_le_pow (deg - 1) (C - 1)
      (degree-eq o L m i p two_le n d D) (digits-eq o L m i p two_le n d D) S.ring N.0 (p ^ j) y (u * C + v)
      (pair-lt deg C u v lu lv))
      ∙ divided-mod p two_le j l (get_or y.0 (u * C + v) 0) le)
