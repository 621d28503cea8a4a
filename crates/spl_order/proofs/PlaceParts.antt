-- Whether a polynomial divides others, by the remainders, and the greatest power of a polynomial that divides another.
use Rattle.std.specs.Prelude.{◌≡◌, ◌≢◌, ◌↔◌, ℕ, Bool, List, [], IsTrue}
use Rattle.std.proofs.Common.{sym, ◌∙◌, ap, subst, false}
use Rattle.std.proofs.lemmas.Bool.{both_ways}
use Rattle.theory_rings.specs.Ops.{Ops, FieldLaws}
use Rattle.theory_rings.specs.Polynomial.{IsTrimmed}
use Rattle.theory_fractions.specs.PolynomialLists.{IsOver, IsPolynomialList, IsProduct, IsDivision, Divides}
use Rattle.theory_fractions.specs.Fraction.{Pair}
use Rattle.theory_fractions.proofs.PolynomialFractions.{as_fraction-mul}
use Rattle.spl_field.specs.declared.small.SmallField.{SmallField}
use Rattle.spl_field.specs.SmallField.{small_ops, small_laws}
use Rattle.spl_fraction.proofs.Multiplicities.{no_remainder, product_of_division}

module _ {E : Type 0} (o : Ops E) (L : FieldLaws o) where
  abbrev Is : List E → Type 0
  Is = IsPolynomialList o

  -- a test of the remainder
  pub divides_tells : (a b q r : List E) → Is a → a ≢ [] → Is b → Is q → Is r → IsDivision o b a q r → (t : Bool)
      → (IsTrue t ↔ (r ≡ [])) → IsTrue t ↔ Divides o a b
  divides_tells a b q r ha n hb hq hr e t s = (
    λ x. (q, hq.over, product_of_division o L b a q r hb.over ha.over hq.over e (s.0 x)),
    λ d. s.1 (no_remainder o L b a q r hb ha hq hr n e d),
  )

  -- a product that does not divide s is the only one
  pub no_next : (p m n s : List E) → Is p → Is m → Is n → IsProduct o p m n → (t : Bool)
      → (IsTrue t ↔ Divides o n s) → t ≡ false → (q : List E) → Is q → IsProduct o p m q → Divides o q s → ⊥
  no_next p m n s hp hm hn product t tells f q hq other d =
      both_ways t f (tells.1 (subst (λ x. Divides o x s)
      (ap (λ (x : Pair E). x.0) (as_fraction-mul o L p m q hp hm hq other
      ∙ sym (as_fraction-mul o L p m n hp hm hn product))) d))

-- the quotient by a divisor, over a field that is s
pub part_quotient : (s g : SmallField) → g ≡ s → (part d q r : List ℕ) → IsPolynomialList (small_ops s) part
    → part ≢ [] → IsPolynomialList (small_ops s) d → Divides (small_ops s) part d → IsDivision (small_ops g) d part q r
    → IsOver (small_ops g) q → IsTrimmed 0 q → IsOver (small_ops g) r → IsTrimmed 0 r
    → IsPolynomialList (small_ops s) q × IsProduct (small_ops s) q part d
part_quotient s g e part d q r hp np hd divides division oq tq or tr =
    let o = small_ops s in
    let hq : IsPolynomialList o q = record { over = subst (λ g. IsOver (small_ops g) q) e oq; trimmed = tq } in
    let hr : IsPolynomialList o r = record { over = subst (λ g. IsOver (small_ops g) r) e or; trimmed = tr } in
    let f : IsDivision o d part q r = subst (λ g. IsDivision (small_ops g) d part q r) e division in (
      hq,
      product_of_division o (small_laws s) d part q r hd.over hp.over hq.over f
          (no_remainder o (small_laws s) d part q r hd hp hq hr np f divides),
    )
