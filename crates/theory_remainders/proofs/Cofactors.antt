-- Euclid's algorithm for an inverse modulo m: each remainder r of m and a comes with a cofactor s, so that r is s · a
-- modulo m.
use Rattle.std.specs.Prelude.{◌≡◌, ℕ, ◌<◌, List, [], ◌∷◌, length}
use Rattle.std.proofs.Common.{refl, subst, sym, ◌∙◌, ap, ap₂}
use Rattle.std.proofs.lemmas.List.Elements.{All-nil, All-cons}
use Rattle.theory_rings.specs.Ring.{FieldOn, CommRingOn}
use Rattle.theory_rings.specs.Ops.{Ops, IsElem, FieldLaws}
use Rattle.theory_rings.specs.Elements.{Elem, elements}
use Rattle.theory_rings.specs.Sum.{at}
use Rattle.theory_rings.specs.Polynomial.{Poly, convolution_of}
use Rattle.theory_rings.specs.Division.{Congruent}
use Rattle.theory_rings.proofs.Rings.Solver.{◌⊞◌, ◌⊠◌, minus, unit, nil, v0, v1, v2, v3, v4, var, by_sorted, ring2}
use Rattle.theory_rings.proofs.Rings.Solver.{ring4}
use Rattle.theory_rings.proofs.Polynomials.Bezout.{field_polynomials}
use Rattle.theory_fractions.specs.PolynomialLists.{IsOver, IsProduct, IsDivision}
use Rattle.theory_fractions.specs.FractionOps.{polynomial_of}
use Rattle.theory_fractions.proofs.FractionField.{polynomial_of-nil, polynomial_of-one}
use Rattle.theory_fractions.proofs.Lifting.{eq_of_coefficients, has-add, has-mul}
use Rattle.theory_fractions.proofs.ListPolynomials.{has_polynomial_of, has_neg}
use Rattle.theory_fractions.proofs.Reducing.{constant_poly, constant_unit, poly-constant_mul}
use Rattle.theory_remainders.specs.RemainderLaws.{IsRemainderOf}
use Rattle.theory_remainders.proofs.Divisions.{congruent_of_remainder_of, remainder_of_congruent}
use Rattle.theory_remainders.proofs.Divisions.{poly-division, poly-constant}

module _ {E : Type 0} (o : Ops E) (L : FieldLaws o) (m a : List E) where
  abbrev F : FieldOn (Elem o)
  F = elements o L

  abbrev P : CommRingOn (Poly F.cring)
  P = field_polynomials F

  abbrev poly : List E → Poly F.cring
  poly = polynomial_of o L

  -- r is s · a modulo m
  pub record IsCofactor (r s : List E) : Type 0 where
    pub value_over : IsOver o r
    pub factor_over : IsOver o s
    pub congruent : Congruent P (poly m) (poly r) (P.◌⊗◌ (poly s) (poly a))

  pub cofactor_modulus : IsOver o m → IsCofactor m []
  cofactor_modulus hm = record {
    value_over = hm;
    factor_over = All-nil (IsElem o);
    congruent = (
      P.one,
      ring2 P (λ m a. (m, nil ⊠ a ⊞ unit ⊠ m)) refl (poly m) (poly a)
          ∙ ap (λ x. P.◌⊕◌ (P.◌⊗◌ x (poly a)) (P.◌⊗◌ P.one (poly m))) (sym (polynomial_of-nil o L)),
    );
  }

  pub cofactor_self : IsOver o a → IsCofactor a (o.one ∷ [])
  cofactor_self ha = record {
    value_over = ha;
    factor_over = All-cons (IsElem o) o.one [] L.one-elem (All-nil (IsElem o));
    congruent = (
      P.zero,
      ring2 P (λ m a. (a, unit ⊠ a ⊞ nil ⊠ m)) refl (poly m) (poly a)
          ∙ ap (λ x. P.◌⊕◌ (P.◌⊗◌ x (poly a)) (P.◌⊗◌ P.zero (poly m))) (sym (polynomial_of-one o L)),
    );
  }

  pub first_cofactor : (r s : List E) → IsOver o m → r ≡ m → s ≡ [] → IsCofactor r s
  first_cofactor r s hm e z = subst (IsCofactor r) (sym z) (subst (λ x. IsCofactor x []) (sym e) (cofactor_modulus hm))

  pub second_cofactor : (r s : List E) → IsOver o a → r ≡ a → s ≡ o.one ∷ [] → IsCofactor r s
  second_cofactor r s ha e u =
      subst (IsCofactor r) (sym u) (subst (λ x. IsCofactor x (o.one ∷ [])) (sym e) (cofactor_self ha))

  -- a step: s = s0 − q · s1
  pub cofactor_step : (r0 s0 r1 s1 q r s : List E) → IsCofactor r0 s0 → IsCofactor r1 s1 → IsOver o q → IsOver o r
      → IsOver o s → IsDivision o r0 r1 q r
      → ((k : ℕ) → at o s k ≡ o.add (at o s0 k) (o.neg (convolution_of o (at o q) (at o s1) k)))
      → IsCofactor r s
  cofactor_step r0 s0 r1 s1 q r s c0 c1 hq hr hs d es = record {
    value_over = hr;
    factor_over = hs;
    congruent = (
      P.◌⊕◌ k0.0 (P.neg (P.◌⊗◌ (poly q) k1.0)),
      rest ∙ by_sorted P (poly s0 ∷ poly a ∷ k0.0 ∷ poly m ∷ poly q ∷ poly s1 ∷ k1.0 ∷ [])
          ((v0 ⊠ v1 ⊞ v2 ⊠ v3) ⊞ minus (v4 ⊠ (var 5 ⊠ v1 ⊞ var 6 ⊠ v3)))
          ((v0 ⊞ minus (v4 ⊠ var 5)) ⊠ v1 ⊞ (v2 ⊞ minus (v4 ⊠ var 6)) ⊠ v3) refl
          ∙ ap (λ x. P.◌⊕◌ (P.◌⊗◌ x (poly a)) (P.◌⊗◌ (P.◌⊕◌ k0.0 (P.neg (P.◌⊗◌ (poly q) k1.0))) (poly m))) (sym factor),
    );
  }
    where
      k0 : Congruent P (poly m) (poly r0) (P.◌⊗◌ (poly s0) (poly a))
      k0 = c0.congruent

      k1 : Congruent P (poly m) (poly r1) (P.◌⊗◌ (poly s1) (poly a))
      k1 = c1.congruent

      rest : poly r ≡ P.◌⊕◌ (P.◌⊕◌ (P.◌⊗◌ (poly s0) (poly a)) (P.◌⊗◌ k0.0 (poly m)))
          (P.neg (P.◌⊗◌ (poly q) (P.◌⊕◌ (P.◌⊗◌ (poly s1) (poly a)) (P.◌⊗◌ k1.0 (poly m)))))
      rest =
          ring2 P (λ r x. (r, (x ⊞ r) ⊞ minus x)) refl (poly r) (P.◌⊗◌ (poly q) (poly r1))
          ∙ ap (λ x. P.◌⊕◌ x (P.neg (P.◌⊗◌ (poly q) (poly r1))))
          (sym (poly-division o L r0 r1 q r c0.value_over c1.value_over hq hr d))
          ∙ ap₂ (λ x y. P.◌⊕◌ x (P.neg (P.◌⊗◌ (poly q) y))) k0.1 k1.1

      factor : poly s ≡ P.◌⊕◌ (poly s0) (P.neg (P.◌⊗◌ (poly q) (poly s1)))
      factor =
          eq_of_coefficients o L (poly s) (P.◌⊕◌ (poly s0) (P.neg (P.◌⊗◌ (poly q) (poly s1)))) (at o s)
          (λ k. o.add (at o s0 k) (o.neg (convolution_of o (at o q) (at o s1) k))) (has_polynomial_of o L s hs)
          (has-add o L (poly s0) (P.neg (P.◌⊗◌ (poly q) (poly s1))) (at o s0)
          (λ k. o.neg (convolution_of o (at o q) (at o s1) k)) (has_polynomial_of o L s0 c0.factor_over)
          (has_neg o L (P.◌⊗◌ (poly q) (poly s1)) (convolution_of o (at o q) (at o s1))
          (has-mul o L (poly q) (poly s1) (at o q) (at o s1) (has_polynomial_of o L q hq)
          (has_polynomial_of o L s1 c1.factor_over))))
          es

  -- where the remainder is a constant, the cofactor over it is an inverse
  pub inverse_of_cofactor : IsOver o m → IsOver o a → (c u : E) (s t w : List E) → IsElem o c → IsElem o u
      → o.mul u c ≡ o.one
      → IsCofactor (c ∷ []) s
      → IsOver o t → IsOver o w → IsProduct o (u ∷ []) s t → IsRemainderOf o (at o t) m w → 1 < length m
      → IsRemainderOf o (convolution_of o (at o w) (at o a)) m (o.one ∷ [])
  inverse_of_cofactor hm ha c u s t w hc hu e cof ht hw et ew l =
      remainder_of_congruent o L (P.◌⊗◌ (poly w) (poly a)) (convolution_of o (at o w) (at o a))
      (has-mul o L (poly w) (poly a) (at o w) (at o a) (has_polynomial_of o L w hw) (has_polynomial_of o L a ha)) m
      (o.one ∷ []) hm (All-cons (IsElem o) o.one [] L.one-elem (All-nil (IsElem o))) l (x, whole)
    where
      U : Poly F.cring
      U = constant_poly o L u hu

      C : Poly F.cring
      C = poly (c ∷ [])

      k : Congruent P (poly m) (poly t) (poly w)
      k = congruent_of_remainder_of o L (poly t) (at o t) (has_polynomial_of o L t ht) m w hm hw ew

      j : Congruent P (poly m) C (P.◌⊗◌ (poly s) (poly a))
      j = cof.congruent

      x : Poly F.cring
      x = P.neg (P.◌⊕◌ (P.◌⊗◌ U j.0) (P.◌⊗◌ k.0 (poly a)))

      unit_eq : P.◌⊗◌ U C ≡ poly (o.one ∷ [])
      unit_eq = ap (P.◌⊗◌ U) (poly-constant o L c hc) ∙ constant_unit o L u hu (c, hc) e ∙ sym (polynomial_of-one o L)

      whole : P.◌⊗◌ (poly w) (poly a) ≡ P.◌⊕◌ (poly (o.one ∷ [])) (P.◌⊗◌ x (poly m))
      whole =
          ring4 P (λ w k m a. (w ⊠ a, (w ⊞ k ⊠ m) ⊠ a ⊞ minus (k ⊠ a) ⊠ m)) refl (poly w) k.0 (poly m) (poly a)
          ∙ ap (λ y. P.◌⊕◌ (P.◌⊗◌ y (poly a)) (P.◌⊗◌ (P.neg (P.◌⊗◌ k.0 (poly a))) (poly m)))
          (sym k.1 ∙ poly-constant_mul o L u hu s t cof.factor_over ht et)
          ∙ by_sorted P (U ∷ poly s ∷ poly a ∷ k.0 ∷ poly m ∷ j.0 ∷ [])
          (v0 ⊠ v1 ⊠ v2 ⊞ minus (v3 ⊠ v2) ⊠ v4)
          (v0 ⊠ (v1 ⊠ v2 ⊞ var 5 ⊠ v4) ⊞ minus (v0 ⊠ var 5 ⊞ v3 ⊠ v2) ⊠ v4) refl
          ∙ ap (λ y. P.◌⊕◌ (P.◌⊗◌ U y) (P.◌⊗◌ x (poly m))) (sym j.1)
          ∙ ap (λ y. P.◌⊕◌ y (P.◌⊗◌ x (poly m))) unit_eq
