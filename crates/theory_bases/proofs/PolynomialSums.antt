-- Combinations of polynomials as fractions.
use Rattle.std.specs.Prelude.{◌≡◌, ◌<◌, ℕ, zero, suc, List}
use Rattle.std.proofs.Common.{refl, sym, ◌∙◌, ap, arith}
use Rattle.theory_rings.specs.Ring.{FieldOn, CommRingOn}
use Rattle.theory_rings.specs.Ops.{Ops, FieldLaws}
use Rattle.theory_rings.specs.Elements.{Elem, elements}
use Rattle.theory_rings.specs.Sum.{at, sum, sum_of}
use Rattle.theory_rings.specs.Polynomial.{Poly, convolution_of}
use Rattle.theory_rings.proofs.Polynomials.PolynomialRing.{zero-list, IsTrimmed-injective}
use Rattle.theory_rings.proofs.Polynomials.Bezout.{field_polynomials}
use Rattle.theory_rings.proofs.Polynomials.ElementLists.{values, at-values}
use Rattle.theory_fractions.specs.PolynomialLists.{IsPolynomialList}
use Rattle.theory_fractions.specs.Fraction.{Pair}
use Rattle.theory_fractions.specs.FractionOps.{polynomial_of, fraction_ops}
use Rattle.theory_fractions.specs.CommonDenominator.{as_fraction}
use Rattle.theory_fractions.proofs.ElementClauses.{zero_is}
use Rattle.theory_fractions.proofs.Lifting.{coefficients_of_eq, has-add, has-mul, has-sum}
use Rattle.theory_fractions.proofs.ListPolynomials.{has_polynomial_of, IsPolynomialList-values}
use Rattle.theory_fractions.proofs.PolynomialFractions.{as_fraction-add_product}

module _ {E : Type 0} (o : Ops E) (L : FieldLaws o) where
  abbrev F : FieldOn (Elem o)
  F = elements o L

  abbrev P : CommRingOn (Poly F.cring)
  P = field_polynomials F

  abbrev K : Ops (Pair E)
  K = fraction_ops o L

  abbrev Is : List E → Type 0
  Is = IsPolynomialList o

  abbrev poly : List E → Poly F.cring
  poly = polynomial_of o L

  abbrev list : Poly F.cring → List E
  list p = values o L p.0

  abbrev total : ℕ → (p a : ℕ → List E) → Poly F.cring
  total n p a = sum P.monoid n (λ i. P.◌⊗◌ (poly (p i)) (poly (a i)))

  list-total : (n : ℕ) (p a : ℕ → List E) → ((i : ℕ) → i < n → Is (p i)) → ((i : ℕ) → i < n → Is (a i))
      → as_fraction o (list (total n p a)) ≡ sum_of K n (λ i. K.mul (as_fraction o (p i)) (as_fraction o (a i)))
  list-total zero p a hp ha = ap (λ xs. as_fraction o (values o L xs)) (zero-list F.cring F.zero_test)
      ∙ sym (zero_is o L)
  list-total (suc n) p a hp ha =
      let s = total n p a in
      let hpn = hp n (omega arith) in
      let han = ha n (omega arith) in
      as_fraction-add_product o L (list s) (p n) (a n) (list (total (suc n) p a)) (IsPolynomialList-values o L s) hpn
      han
      (IsPolynomialList-values o L (total (suc n) p a))
      (coefficients_of_eq o L (total (suc n) p a) (P.◌⊕◌ s (P.◌⊗◌ (poly (p n)) (poly (a n))))
      (at o (list (total (suc n) p a)))
      (λ k. o.add (at o (list s) k) (convolution_of o (at o (p n)) (at o (a n)) k))
      (at-values o L (total (suc n) p a).0)
      (has-add o L s (P.◌⊗◌ (poly (p n)) (poly (a n))) (at o (list s)) (convolution_of o (at o (p n)) (at o (a n)))
      (at-values o L s.0)
      (has-mul o L (poly (p n)) (poly (a n)) (at o (p n)) (at o (a n)) (has_polynomial_of o L (p n) hpn.over)
      (has_polynomial_of o L (a n) han.over)))
      refl)
      ∙ ap (λ x. K.add x (K.mul (as_fraction o (p n)) (as_fraction o (a n))))
      (list-total n p a (λ i l. hp i (omega arith)) (λ i l. ha i (omega arith)))

  -- a polynomial with the coefficients of a sum of products, as a fraction
  pub as_fraction-sum : (n : ℕ) (p a : ℕ → List E) (y : List E) → ((i : ℕ) → i < n → Is (p i))
      → ((i : ℕ) → i < n → Is (a i)) → Is y
      → ((k : ℕ) → at o y k ≡ sum_of o n (λ i. convolution_of o (at o (p i)) (at o (a i)) k))
      → as_fraction o y ≡ sum_of K n (λ i. K.mul (as_fraction o (p i)) (as_fraction o (a i)))
  as_fraction-sum n p a y hp ha hy e =
      let t = total n p a in
      let ht = IsPolynomialList-values o L t in
      ap (as_fraction o) (IsTrimmed-injective o.zero y (list t) hy.trimmed ht.trimmed (λ k. e k
      ∙ has-sum o L n (λ i. P.◌⊗◌ (poly (p i)) (poly (a i)))
      (λ i. convolution_of o (at o (p i)) (at o (a i)))
      (λ i l. has-mul o L (poly (p i)) (poly (a i)) (at o (p i)) (at o (a i))
      (let h = hp i l in has_polynomial_of o L (p i) h.over) (let h = ha i l in has_polynomial_of o L (a i) h.over)) k
      ∙ sym (at-values o L t.0 k)))
      ∙ list-total n p a hp ha
