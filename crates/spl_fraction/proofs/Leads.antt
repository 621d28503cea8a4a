-- Leading coefficients, and inverses.
use Rattle.std.specs.Prelude.{◌≡◌, ◌≢◌, ℕ, suc, ◌-◌, ◌<◌, List, length, get_or}
use Rattle.std.proofs.Common.{sym, ◌∙◌, ap, arith}
use Rattle.std.proofs.lemmas.List.{get_or_default}
use Rattle.theory_rings.specs.Ops.{Ops, IsElem, FieldLaws}
use Rattle.theory_rings.specs.Polynomial.{IsTrimmed}
use Rattle.spl_poly.proofs.Trimming.{last-ne-zero_of_pos}
use Rattle.theory_fractions.proofs.Coefficients.{zero-mul_elem}

-- the last item that was read
pub lead_nonzero : (xs : List ℕ) (n r : ℕ) → IsTrimmed 0 xs → suc n ≡ length xs → r ≡ get_or xs n r → r ≢ 0
lead_nonzero xs n r t e read z =
    let place : length xs - 1 ≡ n = omega arith in
    let below : n < length xs = omega arith in
    last-ne-zero_of_pos 0 xs t (omega arith)
    (ap (λ i. get_or xs i 0) place ∙ sym (read ∙ get_or_default xs n r 0 below) ∙ z)

module _ {E : Type 0} (o : Ops E) (L : FieldLaws o) where
  pub inverse_mul : (a b : E) → IsElem o a → a ≢ o.zero → b ≡ o.inv a → o.mul b a ≡ o.one
  inverse_mul a b h n e = ap (λ x. o.mul x a) e ∙ L.inv-mul a h n

  pub inverse_nonzero : (a b : E) → IsElem o a → a ≢ o.zero → b ≡ o.inv a → b ≢ o.zero
  inverse_nonzero a b h n e z =
      L.one-nonzero (sym (inverse_mul a b h n e) ∙ ap (λ x. o.mul x a) z ∙ zero-mul_elem o L a h)
