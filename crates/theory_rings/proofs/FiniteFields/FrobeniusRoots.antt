-- Where the elements of a program's field are the numbers below q, p is prime and p times 1 is 0, each element is the
-- p-th power of exactly one.
use Rattle.std.specs.Prelude.{◌≡◌, ℕ, ◌<◌, ◌↔◌}
use Rattle.std.proofs.Common.{sym, ◌∙◌, ap}
use Rattle.theory_rings.specs.Ops.{Ops, IsElem, FieldLaws}
use Rattle.theory_rings.specs.Elements.{Elem, Elem-path, elements}
use Rattle.theory_rings.specs.Prime.{IsPrime}
use Rattle.theory_rings.specs.Power.{power, power_of, times, times_of}
use Rattle.theory_rings.proofs.Rings.Elements.{times_of-elements, power_of-elements, power_of-elem}
use Rattle.theory_rings.proofs.Powers.FrobeniusMap.{frobenius_injective}
use Rattle.theory_rings.proofs.Numbers.Pigeonhole.{surjective_of_injective}

-- the map on a program's field is one to one
pub frobenius_of_injective : {E : Type 0} (o : Ops E) → FieldLaws o → (p : ℕ) → IsPrime p → times_of o p o.one ≡ o.zero
    → (a b : E) → IsElem o a → IsElem o b → power_of o a p ≡ power_of o b p → a ≡ b
frobenius_of_injective {E} o L p prime char a b ea eb e =
    let F = elements o L in
    let x : Elem o = (a, ea) in
    let y : Elem o = (b, eb) in
    let unit : times F.monoid p F.one ≡ F.zero =
    Elem-path o (times F.monoid p F.one) F.zero (sym (times_of-elements o L p F.one) ∙ char) in
    let same : power F.ring x p ≡ power F.ring y p =
    Elem-path o (power F.ring x p) (power F.ring y p)
    (sym (power_of-elements o L x p) ∙ e ∙ power_of-elements o L y p) in
    ap (λ (z : Elem o). z.0) (frobenius_injective F p prime unit x y same)

module _ (o : Ops ℕ) (L : FieldLaws o) (q : ℕ) (is_elem-lt : (a : ℕ) → IsElem o a ↔ (a < q))
    (p : ℕ) (prime : IsPrime p) (char : times_of o p o.one ≡ o.zero) where
  pub frobenius_root-unique : (a b : ℕ) → a < q → b < q → power_of o a p ≡ power_of o b p → a ≡ b
  frobenius_root-unique a b la lb e =
      frobenius_of_injective o L p prime char a b ((is_elem-lt a).1 la) ((is_elem-lt b).1 lb) e

  pub frobenius_root-exists : (a : ℕ) → a < q → (r : ℕ) × (r < q) × (power_of o r p ≡ a)
  frobenius_root-exists a l = surjective_of_injective q (λ r. power_of o r p)
      (λ r h. (is_elem-lt (power_of o r p)).0 (power_of-elem o L r p ((is_elem-lt r).1 h)))
      frobenius_root-unique a l
