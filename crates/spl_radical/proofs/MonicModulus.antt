-- The coefficients of an irreducible list, divided by the leading one, are those of the monic multiple.
use Rattle.std.specs.Prelude.{◌≡◌, ◌≢◌, ℕ, List, [], length}
use Rattle.std.proofs.Common.{sym, ◌∙◌, ap, ap₂, arith}
use Rattle.theory_rings.specs.Ring.{FieldOn, CommRingOn}
use Rattle.theory_rings.specs.Ops.{Ops, FieldLaws}
use Rattle.theory_rings.specs.Elements.{Elem, elements}
use Rattle.theory_rings.specs.Sum.{at}
use Rattle.theory_rings.specs.Polynomial.{Poly, coefficient, degree, lead}
use Rattle.theory_rings.proofs.Fractions.Lowest.{monic_eq_of_divides}
use Rattle.theory_rings.proofs.Polynomials.PolynomialRing.{constant}
use Rattle.theory_rings.proofs.Polynomials.Constants.{coefficient-constant_mul}
use Rattle.theory_rings.proofs.Polynomials.Degrees.{lead-ne-zero}
use Rattle.theory_rings.proofs.Polynomials.Bezout.{field_polynomials, constant_inverse}
use Rattle.theory_rings.proofs.Polynomials.Monic.{divides_trans}
use Rattle.theory_fractions.specs.FractionOps.{polynomial_of}
use Rattle.theory_fractions.specs.PolynomialLists.{IsPolynomialList}
use Rattle.theory_fractions.proofs.Lifting.{eq_of_coefficients}
use Rattle.theory_fractions.proofs.ListPolynomials.{has_polynomial_of}
use Rattle.theory_fractions.proofs.LowestTerms.{lead_value}
use Rattle.theory_remainders.specs.Irreducible.{IsIrreducible}
use Rattle.theory_remainders.specs.RemainderOps.{modulus_of}
use Rattle.theory_remainders.proofs.GcdLists.{monic_polynomial}
use Rattle.theory_remainders.proofs.IrreducibleLists.{polynomial-ne-zero, modulus_monic, modulus_divides}
use Rattle.theory_remainders.proofs.IrreducibleLists.{divides_modulus, two_le_length}
use Rattle.spl_poly.specs.Operations.{IsMonicOf}

module _ (o : Ops ℕ) (L : FieldLaws o) (m : List ℕ) (i : IsIrreducible o m) where
  abbrev F : FieldOn (Elem o)
  F = elements o L

  abbrev P : CommRingOn (Poly F.cring)
  P = field_polynomials F

  abbrev A : Poly F.cring
  A = polynomial_of o L m

  pub not_empty : m ≢ []
  not_empty e =
      let n = two_le_length o L m i in
      let z : length m ≡ 0 = ap length e in
      absurd (omega arith)

  module _ (r : List ℕ) (hr : IsPolynomialList o r) (h : IsMonicOf o m r) where
    abbrev R : Poly F.cring
    R = polynomial_of o L r

    top : lead F.cring A ≢ F.zero
    top = lead-ne-zero F.cring F.zero_test A (polynomial-ne-zero o L m i)

    abbrev C : Poly F.cring
    C = constant F.cring F.zero_test (F.inv (lead F.cring A))

    scaled : R ≡ P.◌⊗◌ C A
    scaled = eq_of_coefficients o L R (P.◌⊗◌ C A) (at o r)
        (λ k. o.mul (o.inv (at o m (degree m))) (at o m k)) (has_polynomial_of o L r hr.over)
        (λ k. ap₂ (λ u v. o.mul (o.inv u) v) (lead_value o L m i.polynomial)
        (has_polynomial_of o L m i.polynomial.over k)
        ∙ ap (λ (z : Elem o). z.0)
        (sym (coefficient-constant_mul F.cring F.zero_test (F.inv (lead F.cring A)) A k)))
        h.scaled

    back : A ≡ P.◌⊗◌ (constant F.cring F.zero_test (lead F.cring A)) R
    back =
        sym (P.one-mul A) ∙ ap (λ y. P.◌⊗◌ y A) (sym (P.mul_comm (constant F.cring F.zero_test (lead F.cring A)) C
        ∙ constant_inverse F (lead F.cring A) top))
        ∙ P.mul_assoc (constant F.cring F.zero_test (lead F.cring A)) C A
        ∙ ap (P.◌⊗◌ (constant F.cring F.zero_test (lead F.cring A))) (sym scaled)

    abbrev M : Poly F.cring
    M = modulus_of o L m

    same : M ≡ R
    same = monic_eq_of_divides F M R (modulus_monic o L m i)
        (monic_polynomial o L r hr
        (let n = two_le_length o L m i in let s = h.same_degree in omega arith) h.leading)
        (divides_trans F M A R (modulus_divides o L m i) (C, scaled))
        (divides_trans F R A M (constant F.cring F.zero_test (lead F.cring A), back) (divides_modulus o L m i))

    pub monic_coefficient : (u : ℕ) → (coefficient F.cring M u).0 ≡ at o r u
    monic_coefficient u = ap (λ (p : Poly F.cring). (coefficient F.cring p u).0) same
        ∙ sym (has_polynomial_of o L r hr.over u)
