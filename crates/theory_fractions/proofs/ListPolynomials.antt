-- Lists of a program's values as polynomials over the field of its elements: their coefficients, and what divides them.
use Rattle.std.specs.Prelude.{◌≡◌, ℕ, Bool, true, false, not, List, [], ◌∷◌, length}
use Rattle.std.specs.List.{list_all}
use Rattle.std.proofs.Common.{refl, sym, ◌∙◌, ap}
use Rattle.std.proofs.lemmas.Bool.{and_from, and_parts, not-true, both_ways}
use Rattle.std.proofs.lemmas.List.{length-map}
use Rattle.std.proofs.lemmas.List.Elements.{All-nil, All-cons, All-head, All-tail}
use Rattle.theory_rings.specs.Ring.{FieldOn, CommRingOn}
use Rattle.theory_rings.specs.Ops.{Ops, IsElem, FieldLaws}
use Rattle.theory_rings.specs.Elements.{Elem, elements}
use Rattle.theory_rings.specs.Sum.{at}
use Rattle.theory_rings.specs.Polynomial.{IsTrimmed, Poly, convolution_of, degree}
use Rattle.theory_rings.specs.Division.{Divides as DividesIn}
use Rattle.theory_rings.proofs.Polynomials.PolynomialRing.{get_or-trim, coefficient-neg}
use Rattle.theory_rings.proofs.Polynomials.Bezout.{field_polynomials}
use Rattle.theory_rings.proofs.Polynomials.ElementLists.{values, at-values, IsTrimmed-values}
use Rattle.theory_fractions.specs.PolynomialLists.{IsOver, IsPolynomialList, Divides}
use Rattle.theory_fractions.proofs.Lifting.{HasCoefficients, values-over}
use Rattle.theory_fractions.proofs.Lifting.{eq_of_coefficients, coefficients_of_eq, has-mul}
use Rattle.theory_fractions.specs.FractionOps.{is_trimmed, polynomial_of, is_polynomial}
use Rattle.theory_fractions.proofs.FractionField.{elements_of, values-elements_of, values-polynomial_of}

module _ {E : Type 0} (o : Ops E) (L : FieldLaws o) where
  abbrev F : FieldOn (Elem o)
  F = elements o L

  abbrev P : CommRingOn (Poly F.cring)
  P = field_polynomials F

  abbrev Has : Poly F.cring → (ℕ → E) → Type 0
  Has = HasCoefficients o L

  -- ---- the tests

  list_all-over : (xs : List E) → IsOver o xs → list_all o.is_elem xs ≡ true
  list_all-over [] h = refl
  list_all-over (x ∷ xs) h =
      and_from (o.is_elem x) (list_all o.is_elem xs) (All-head (IsElem o) x xs h)
      (list_all-over xs (All-tail (IsElem o) x xs h))

  over-list_all : (xs : List E) → list_all o.is_elem xs ≡ true → IsOver o xs
  over-list_all [] h = All-nil (IsElem o)
  over-list_all (x ∷ xs) h =
      let parts = and_parts (o.is_elem x) (list_all o.is_elem xs) h in
      All-cons (IsElem o) x xs parts.0 (over-list_all xs parts.1)

  is_trimmed-trimmed : (xs : List E) → IsOver o xs → IsTrimmed o.zero xs → is_trimmed o.is_zero xs ≡ true
  is_trimmed-trimmed [] h t = refl
  is_trimmed-trimmed (x ∷ []) h t = go (o.is_zero x) refl
    where
      go : (b : Bool) → o.is_zero x ≡ b → not b ≡ true
      go true e = absurd (t (L.is_zero-sound x (All-head (IsElem o) x [] h) e))
      go false e = refl
  is_trimmed-trimmed (x ∷ y ∷ ys) h t = is_trimmed-trimmed (y ∷ ys) (All-tail (IsElem o) x (y ∷ ys) h) t

  trimmed-is_trimmed : (xs : List E) → is_trimmed o.is_zero xs ≡ true → IsTrimmed o.zero xs
  trimmed-is_trimmed [] t = tt
  trimmed-is_trimmed (x ∷ []) t = λ e.
      both_ways (o.is_zero x) (not-true (o.is_zero x) t) (ap o.is_zero e ∙ L.is_zero-zero)
  trimmed-is_trimmed (x ∷ y ∷ ys) t = trimmed-is_trimmed (y ∷ ys) t

  pub is_polynomial-from : (xs : List E) → IsPolynomialList o xs → is_polynomial o L xs ≡ true
  is_polynomial-from xs h =
      and_from (list_all o.is_elem xs) (is_trimmed o.is_zero xs) (list_all-over xs h.over)
      (is_trimmed-trimmed xs h.over h.trimmed)

  pub is_polynomial-gives : (xs : List E) → is_polynomial o L xs ≡ true → IsPolynomialList o xs
  is_polynomial-gives xs h =
      let parts = and_parts (list_all o.is_elem xs) (is_trimmed o.is_zero xs) h in
      record { over = over-list_all xs parts.0; trimmed = trimmed-is_trimmed xs parts.1 }

  pub values_back : (xs : List E) → IsPolynomialList o xs → values o L (polynomial_of o L xs).0 ≡ xs
  values_back xs h = values-polynomial_of o L xs (is_polynomial-from xs h)

  pub IsPolynomialList-values : (p : Poly F.cring) → IsPolynomialList o (values o L p.0)
  IsPolynomialList-values p = record { over = values-over o L p.0; trimmed = IsTrimmed-values o L p.0 p.1 }

  -- ---- coefficients

  pub has_polynomial_of : (xs : List E) → IsOver o xs → Has (polynomial_of o L xs) (at o xs)
  has_polynomial_of xs h k =
      ap (λ ys. at o ys k) (sym (values-elements_of o L xs (list_all-over xs h))) ∙ at-values o L (elements_of o L xs) k
      ∙ ap (λ x. x.0) (sym (get_or-trim F.zero_test (elements_of o L xs) k))

  pub has_neg : (p : Poly F.cring) (f : ℕ → E) → Has p f → Has (P.neg p) (λ k. o.neg (f k))
  has_neg p f hf k = ap o.neg (hf k) ∙ ap (λ x. x.0) (sym (coefficient-neg F.cring F.zero_test p k))

  -- ---- degrees

  degree-map : (xs : List (Elem o)) → degree (values o L xs) ≡ degree xs
  degree-map [] = refl
  degree-map (x ∷ xs) = length-map xs (λ a. a.0)

  pub length-polynomial_of : (xs : List E) → IsPolynomialList o xs → length (polynomial_of o L xs).0 ≡ length xs
  length-polynomial_of xs h = sym (length-map (polynomial_of o L xs).0 (λ a. a.0)) ∙ ap length (values_back xs h)

  pub degree-polynomial_of : (xs : List E) → IsPolynomialList o xs → degree (polynomial_of o L xs).0 ≡ degree xs
  degree-polynomial_of xs h = sym (degree-map (polynomial_of o L xs).0) ∙ ap degree (values_back xs h)

  -- ---- divisors

  pub divides_polynomial_of : (g u : List E) → IsPolynomialList o g → IsPolynomialList o u → Divides o g u
      → DividesIn P (polynomial_of o L g) (polynomial_of o L u)
  divides_polynomial_of g u hg hu d =
      let c : Poly F.cring = polynomial_of o L d.0 in (
        c,
        eq_of_coefficients o L (polynomial_of o L u) (P.◌⊗◌ c (polynomial_of o L g)) (at o u)
            (convolution_of o (at o d.0) (at o g))
            (has_polynomial_of u hu.over)
            (has-mul o L c (polynomial_of o L g) (at o d.0) (at o g) (has_polynomial_of d.0 d.1)
            (has_polynomial_of g hg.over)) d.2,
      )

  pub divides_values : (g p : Poly F.cring) → DividesIn P g p → Divides o (values o L g.0) (values o L p.0)
  divides_values g p d = (
    values o L d.0.0,
    values-over o L d.0.0,
    coefficients_of_eq o L p (P.◌⊗◌ d.0 g) (at o (values o L p.0))
        (convolution_of o (at o (values o L d.0.0)) (at o (values o L g.0)))
        (at-values o L p.0) (has-mul o L d.0 g (at o (values o L d.0.0)) (at o (values o L g.0)) (at-values o L d.0.0)
        (at-values o L g.0)) d.1,
  )
