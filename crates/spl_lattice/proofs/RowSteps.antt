-- Steps of the reduction of rows, on lists over a program's field.
use Rattle.std.specs.Prelude.{◌≡◌, ℕ, ◌+◌, ◌<◌, ◌≤◌, List, [], length, get_or, slice_set}
use Rattle.std.specs.List.{All}
use Rattle.std.proofs.Common.{refl, sym, ◌∙◌, ap, subst, arith, ⊎_elim}
use Rattle.std.proofs.lemmas.Bool.{cases_lt, cases_eq}
use Rattle.std.proofs.lemmas.List.{length-set, get_or-set_same, get_or-set_other}
use Rattle.std.proofs.lemmas.List.Elements.{All-nil, All-set}
use Rattle.theory_rings.specs.Ring.{FieldOn, CommRingOn}
use Rattle.theory_rings.specs.Ops.{Ops, IsElem, FieldLaws}
use Rattle.theory_rings.specs.Elements.{Elem, elements}
use Rattle.theory_rings.specs.Sum.{at}
use Rattle.theory_rings.specs.Polynomial.{IsTrimmed, Poly, coefficient}
use Rattle.theory_rings.proofs.Rings.RingLaws.{mul-zero, add-zero, neg-mul}
use Rattle.theory_rings.proofs.Rings.Elements.{at-elem}
use Rattle.theory_rings.proofs.Polynomials.PolynomialRing.{constant}
use Rattle.theory_rings.proofs.Polynomials.Constants.{coefficient-constant_mul}
use Rattle.theory_fractions.proofs.Lifting.{P, lift, has-lift, lift_nil, lift-mul, eq_of_coefficients}
use Rattle.theory_fractions.proofs.ListPolynomials.{has_neg}
use Rattle.theory_rows.specs.Rows.{IsPolynomialRow}
use Rattle.spl_poly.specs.Operations.{IsOver, IsProduct}
use Rattle.spl_lattice.specs.Steps.{IsConstant, IsSumWithMultiple}
use Rattle.spl_lattice.specs.Reduction.{IsNegative, IsRowWithMultiple}
use Rattle.spl_lattice.proofs.GreatestDivisors.{lift-constant, sum_with_multiple_of_lift}

module _ {E : Type 0} (o : Ops E) (L : FieldLaws o) where
  abbrev G : FieldOn (Elem o)
  G = elements o L

  abbrev Q : CommRingOn (Poly G.cring)
  Q = P o L

  abbrev up : List E → Poly G.cring
  up = lift o L

  -- the product with -1
  pub negative_of_product : (a m r : List E) → IsOver o a → IsOver o m → IsOver o r → IsConstant o (o.neg o.one) m
      → IsProduct o a m r → IsNegative o a r
  negative_of_product a m r ha hm hr e p k =
      let u : Elem o = (o.one, L.one-elem) in
      let x : Elem o = (at o a k, at-elem o L a ha k) in
      let c : Elem o = G.neg u in
      let whole : up r ≡ Q.◌⊗◌ (constant G.cring G.zero_test c) (up a) =
      lift-mul o L a m r ha hm hr p ∙ Q.mul_comm (up a) (up m)
      ∙ ap (λ z. Q.◌⊗◌ z (up a)) (lift-constant o L (o.neg o.one) (L.neg-elem o.one L.one-elem) m hm e) in
      has-lift o L r hr k
      ∙ ap (λ z. (coefficient G.cring z k).0) whole
      ∙ ap (λ (z : Elem o). z.0) (coefficient-constant_mul G.cring G.zero_test c (up a) k)
      ∙ ap (o.mul (o.neg o.one)) (sym (has-lift o L a ha k))
      ∙ ap (λ (z : Elem o). z.0) (neg-mul G.ring u x ∙ ap G.neg (G.one-mul x))

  pub lift-negative : (a r : List E) → IsOver o a → IsOver o r → IsNegative o a r → up r ≡ Q.neg (up a)
  lift-negative a r ha hr e = eq_of_coefficients o L (up r) (Q.neg (up a)) (at o r) (λ k. o.neg (at o a k))
      (has-lift o L r hr) (has_neg o L (up a) (at o a) (has-lift o L a ha)) e

  -- nothing is added
  pub plus_nothing : (a m b r : List E) → IsOver o a → IsOver o m → b ≡ [] → r ≡ a → IsSumWithMultiple o a m b r
  plus_nothing a m b r ha hm eb er =
      let hn : IsOver o b = subst (IsOver o) (sym eb) (All-nil (IsElem o)) in
      sum_with_multiple_of_lift o L a m b r ha hm hn (subst (IsOver o) (sym er) ha)
      (ap up er ∙ sym (ap (λ z. Q.◌⊕◌ (up a) z) (ap (λ z. Q.◌⊗◌ (up m) z) (ap up eb ∙ lift_nil o L)
      ∙ mul-zero Q.ring (up m))
      ∙ add-zero Q.monoid (up a)))

-- the entries before j are done, and the others as they were
pub record RowDoneBelow {E : Type 0} (o : Ops E) (j : ℕ) (row : List (List E)) (m : List E) (by new : List (List E))
    : Type 0 where
  pub count : length new ≡ length row
  pub done : (k : ℕ) → k < j → IsSumWithMultiple o (get_or row k []) m (get_or by k []) (get_or new k [])
  pub kept : (k : ℕ) → j ≤ k → get_or new k [] ≡ get_or row k []
  pub over : All (IsOver o) new
  pub trimmed : All (IsTrimmed o.zero) new

module _ {E : Type 0} (o : Ops E) (row : List (List E)) (m : List E) (by : List (List E)) where
  pub row_done-none : IsPolynomialRow o (length row) row → RowDoneBelow o 0 row m by row
  row_done-none h = record {
    count = refl;
    done = λ k l. absurd (omega arith);
    kept = λ k l. refl;
    over = h.over;
    trimmed = h.trimmed;
  }

  pub row_done-more : (j : ℕ) (new : List (List E)) (x : List E) → RowDoneBelow o j row m by new → j < length row
      → IsOver o x → IsTrimmed o.zero x → IsSumWithMultiple o (get_or new j []) m (get_or by j []) x
      → RowDoneBelow o (j + 1) row m by (slice_set new j x)
  row_done-more j new x d l hx tx e = record {
    count = length-set new j x ∙ d.count;
    done = λ k g. ⊎_elim
        (λ (q : k ≡ j). subst
        (λ i. IsSumWithMultiple o (get_or row i []) m (get_or by i []) (get_or (slice_set new j x) i []))
        (sym q) (subst (IsSumWithMultiple o (get_or row j []) m (get_or by j []))
        (sym (get_or-set_same new j x [] (omega (arith, l, d.count))))
        (subst (λ a. IsSumWithMultiple o a m (get_or by j []) x) (d.kept j (omega arith)) e)))
        (λ (q : k ≡ j → ⊥). subst (IsSumWithMultiple o (get_or row k []) m (get_or by k []))
        (sym (get_or-set_other new j k x [] q)) (d.done k (before k g q))) (cases_eq k j);
    kept = λ k g. get_or-set_other new j k x [] (λ q. omega arith) ∙ d.kept k (omega arith);
    over = All-set (IsOver o) new j x hx d.over;
    trimmed = All-set (IsTrimmed o.zero) new j x tx d.trimmed;
  }
    where
      before : (k : ℕ) → k < j + 1 → (k ≡ j → ⊥) → k < j
      before k g q = ⊎_elim (λ (h : k < j). h) (λ (h : j ≤ k). absurd (q (omega arith))) (cases_lt k j)

  pub row_done-whole : (j : ℕ) (new : List (List E)) → RowDoneBelow o j row m by new → length row ≤ j
      → IsRowWithMultiple o row m by new
  row_done-whole j new d l = record { count = d.count; entries = λ k g. d.done k (omega arith) }

  pub row_done-row : (j : ℕ) (new : List (List E)) → RowDoneBelow o j row m by new → IsPolynomialRow o (length row) new
  row_done-row j new d = record { width = d.count; over = d.over; trimmed = d.trimmed }
