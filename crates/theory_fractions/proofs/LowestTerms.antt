-- The test of fractions is true exactly at lowest terms.
use Rattle.std.specs.Prelude.{◌≡◌, ◌<◌, ◌≤◌, true, ◌&&◌, List, [], ◌∷◌, length, ◌↔◌}
use Rattle.std.proofs.Common.{refl, sym, ◌∙◌, ap, arith, subst}
use Rattle.std.proofs.lemmas.List.{length-map}
use Rattle.std.proofs.lemmas.Bool.{and_from}
use Rattle.theory_rings.specs.Ring.{FieldOn, CommRingOn}
use Rattle.theory_rings.specs.Ops.{Ops, IsElem, FieldLaws}
use Rattle.theory_rings.specs.Elements.{Elem, Elem-path, elements}
use Rattle.theory_rings.specs.Sum.{at}
use Rattle.theory_rings.specs.Polynomial.{Poly, coefficient, lead, degree}
use Rattle.theory_rings.specs.Division.{IsCoprime as IsCoprimeIn}
use Rattle.theory_rings.proofs.Polynomials.Degrees.{length_le_suc-degree}
use Rattle.theory_rings.proofs.Polynomials.Bezout.{field_polynomials}
use Rattle.theory_rings.proofs.Polynomials.ElementLists.{values}
use Rattle.theory_rings.proofs.Fractions.Lowest.{Lowest}
use Rattle.theory_rings.proofs.Fractions.LowestTests.{is_lowest, is_lowest-complete}
use Rattle.theory_fractions.specs.PolynomialLists.{Divides, IsPolynomialList}
use Rattle.theory_fractions.specs.Fraction.{IsCoprime, IsLowestTerms}
use Rattle.theory_fractions.specs.FractionOps.{polynomial_of, is_polynomial, is_fraction, fraction_ops}
use Rattle.theory_fractions.proofs.FractionField.{is_fraction-parts}
use Rattle.theory_fractions.proofs.ListPolynomials.{is_polynomial-from, is_polynomial-gives, values_back}
use Rattle.theory_fractions.proofs.ListPolynomials.{has_polynomial_of, length-polynomial_of, degree-polynomial_of}
use Rattle.theory_fractions.proofs.ListPolynomials.{divides_polynomial_of, divides_values, IsPolynomialList-values}

module _ {E : Type 0} (o : Ops E) (L : FieldLaws o) where
  abbrev F : FieldOn (Elem o)
  F = elements o L

  abbrev P : CommRingOn (Poly F.cring)
  P = field_polynomials F

  -- the leading coefficients
  pub lead_value : (v : List E) → IsPolynomialList o v → at o v (degree v) ≡ (lead F.cring (polynomial_of o L v)).0
  lead_value v h =
      has_polynomial_of o L v h.over (degree v)
      ∙ ap (λ n. (coefficient F.cring (polynomial_of o L v) n).0) (sym (degree-polynomial_of o L v h))

  degree_short : {X : Type 0} (xs : List X) → length xs ≤ 1 → degree xs ≡ 0
  degree_short [] l = refl
  degree_short (x ∷ xs) l = omega arith

  -- coprime polynomials, and coprime lists
  pub coprime_lists : (u v : List E) → IsPolynomialList o u → IsPolynomialList o v
      → IsCoprimeIn F.cring P (polynomial_of o L u) (polynomial_of o L v) → IsCoprime o u v
  coprime_lists u v hu hv c g og tg du dv =
      let hg : IsPolynomialList o g = record { over = og; trimmed = tg } in
      omega (
        arith,
        length-polynomial_of o L g hg,
        length_le_suc-degree F.cring (polynomial_of o L g),
        c (polynomial_of o L g) (divides_polynomial_of o L g u hg hu du) (divides_polynomial_of o L g v hg hv dv),
      )

  pub coprime_polynomials : (u v : List E) → IsPolynomialList o u → IsPolynomialList o v → IsCoprime o u v
      → IsCoprimeIn F.cring P (polynomial_of o L u) (polynomial_of o L v)
  coprime_polynomials u v hu hv c g du dv =
      let gs : List E = values o L g.0 in
      let hg : IsPolynomialList o gs = IsPolynomialList-values o L g in
      degree_short g.0 (omega (
        arith,
        length-map g.0 (λ a. a.0),
        c gs hg.over hg.trimmed
            (subst (Divides o gs) (values_back o L u hu) (divides_values o L g (polynomial_of o L u) du))
            (subst (Divides o gs) (values_back o L v hv) (divides_values o L g (polynomial_of o L v) dv)),
      ))

  -- from the test to lowest terms
  pub lowest_of_fraction : (u v : List E) → is_fraction o L (u, v) ≡ true → IsLowestTerms o u v
  lowest_of_fraction u v h =
      let parts = is_fraction-parts o L (u, v) h in
      let hu : IsPolynomialList o u = is_polynomial-gives o L u parts.0 in
      let hv : IsPolynomialList o v = is_polynomial-gives o L v parts.1 in
      let low : Lowest F (polynomial_of o L u) (polynomial_of o L v) = parts.2 in
      record {
        numerator_over = hu.over;
        numerator_trimmed = hu.trimmed;
        denominator_over = hv.over;
        denominator_trimmed = hv.trimmed;
        denominator_nonzero = subst (λ n. 0 < n) (length-polynomial_of o L v hv) low.monic.nonzero;
        monic = lead_value v hv ∙ ap (λ x. x.0) low.monic.leading;
        coprime = coprime_lists u v hu hv low.coprime;
      }

  -- and back
  pub fraction_of_polynomials : (u v : List E) → IsPolynomialList o u → IsPolynomialList o v
      → Lowest F (polynomial_of o L u) (polynomial_of o L v)
      → is_fraction o L (u, v) ≡ true
  unfolding is_fraction
  fraction_of_polynomials u v hu hv low =
      let p : Poly F.cring = polynomial_of o L u in
      let q : Poly F.cring = polynomial_of o L v in
      and_from (is_polynomial o L u) (is_polynomial o L v && is_lowest F p q) (is_polynomial-from o L u hu)
      (and_from (is_polynomial o L v) (is_lowest F p q) (is_polynomial-from o L v hv) (is_lowest-complete F p q low))

  pub fraction_of_lowest : (u v : List E) → IsLowestTerms o u v → is_fraction o L (u, v) ≡ true
  fraction_of_lowest u v h =
      let hu : IsPolynomialList o u = record { over = h.numerator_over; trimmed = h.numerator_trimmed } in
      let hv : IsPolynomialList o v = record { over = h.denominator_over; trimmed = h.denominator_trimmed } in
      let q : Poly F.cring = polynomial_of o L v in
      fraction_of_polynomials u v hu hv record {
        monic = record {
          nonzero = subst (λ n. 0 < n) (sym (length-polynomial_of o L v hv)) h.denominator_nonzero;
          leading = Elem-path o (lead F.cring q) F.one (sym (lead_value v hv) ∙ h.monic);
        };
        coprime = coprime_polynomials u v hu hv h.coprime;
      }

  pub lowest_of_polynomials : (u v : List E) → IsPolynomialList o u → IsPolynomialList o v
      → Lowest F (polynomial_of o L u) (polynomial_of o L v)
      → IsLowestTerms o u v
  lowest_of_polynomials u v hu hv low = lowest_of_fraction u v (fraction_of_polynomials u v hu hv low)

  pub elem_iff_lowest : (u v : List E) → IsElem (fraction_ops o L) (u, v) ↔ IsLowestTerms o u v
  unfolding fraction_ops
  elem_iff_lowest u v = (lowest_of_fraction u v, fraction_of_lowest u v)
