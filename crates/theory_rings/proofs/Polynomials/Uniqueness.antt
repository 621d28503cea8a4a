-- There is one ring of polynomials, so that what holds of one holds of each.
use Rattle.std.specs.Prelude.{◌≡◌, Bool}
use Rattle.std.proofs.Common.{sym, ◌∙◌, subst}
use Rattle.theory_rings.specs.Ring.{CommRingOn, ZeroTest}
use Rattle.theory_rings.specs.Polynomial.{Poly, IsPolynomialRing}
use Rattle.theory_rings.proofs.Rings.ZeroTests.{group_set}
use Rattle.theory_rings.proofs.Rings.RingPaths.{CommRingOn-path}
use Rattle.theory_rings.proofs.Polynomials.PolynomialRing.{Poly-path, polynomials, is_polynomial_ring, zero_poly_test}

module _ {K : Type 0} (R : CommRingOn K) {is_zero : K → Bool} (Z : ZeroTest R.zero is_zero) where
  pub Poly-set : IsSet (Poly R)
  Poly-set = let P = polynomials R Z in group_set P.additive (zero_poly_test R Z)

  -- the operations of a ring of polynomials are settled by the coefficients
  pub polynomial_ring_unique : (A B : CommRingOn (Poly R)) → IsPolynomialRing R A → IsPolynomialRing R B → A ≡ B
  polynomial_ring_unique A B a b = CommRingOn-path Poly-set A B
      (Poly-path R A.zero B.zero (λ k. a.coefficient-zero k ∙ sym (b.coefficient-zero k)))
      (Poly-path R A.one B.one (λ k. a.coefficient-one k ∙ sym (b.coefficient-one k)))
      (λ x y. Poly-path R (A.◌⊕◌ x y) (B.◌⊕◌ x y) (λ k. a.coefficient-add x y k ∙ sym (b.coefficient-add x y k)))
      (λ x. Poly-path R (A.neg x) (B.neg x) (λ k. a.coefficient-neg x k ∙ sym (b.coefficient-neg x k)))
      (λ x y. Poly-path R (A.◌⊗◌ x y) (B.◌⊗◌ x y) (λ k. a.coefficient-mul x y k ∙ sym (b.coefficient-mul x y k)))

  -- what holds of polynomials holds of every ring of polynomials
  pub for_polynomials : (Q : CommRingOn (Poly R) → Type 0) → Q (polynomials R Z) → (P : CommRingOn (Poly R))
      → IsPolynomialRing R P → Q P
  for_polynomials Q q P I = subst Q (polynomial_ring_unique (polynomials R Z) P (is_polynomial_ring R Z) I) q
