-- The ring of remainders by a monic polynomial is determined by its operations modulo the polynomial; its operations go
-- coefficient by coefficient but for the product; and remainders with given coefficients.
use Rattle.std.specs.Prelude.{◌≡◌, ℕ, ◌<◌, ◌≤◌, Bool, cond, ltb}
use Rattle.std.proofs.Common.{sym, ◌∙◌, ap, subst, arith, ⊎_elim}
use Rattle.std.proofs.lemmas.Bool.{cases_lt, lt-ltb, le-ltb}
use Rattle.theory_rings.specs.Ring.{CommRingOn, ZeroTest}
use Rattle.theory_rings.specs.Power.{times}
use Rattle.theory_rings.specs.Polynomial.{Poly, coefficient, degree, IsMonic, IsPolynomialRing}
use Rattle.theory_rings.specs.Division.{Congruent}
use Rattle.theory_rings.specs.Remainder.{Remainder, IsRemainderRing}
use Rattle.theory_rings.proofs.Rings.ZeroTests.{group_set}
use Rattle.theory_rings.proofs.Rings.RingPaths.{CommRingOn-path}
use Rattle.theory_rings.proofs.Rings.Congruences.{congruent_of_eq, congruent_sym, congruent_trans}
use Rattle.theory_rings.proofs.Powers.Times.{map-times}
use Rattle.theory_rings.proofs.Polynomials.PolynomialRing.{Poly-path, coefficient_past, polynomial}
use Rattle.theory_rings.proofs.Polynomials.PolynomialRing.{coefficient-polynomial, polynomials, coefficient-zero}
use Rattle.theory_rings.proofs.Polynomials.PolynomialRing.{coefficient-add}
use Rattle.theory_rings.proofs.Polynomials.Degrees.{length_le, length-degree}
use Rattle.theory_rings.proofs.Polynomials.Uniqueness.{for_polynomials}
use Rattle.theory_rings.proofs.Polynomials.Remainders.{remainders, Remainder-path, remainders-zero_poly}
use Rattle.theory_rings.proofs.Polynomials.Remainders.{remainders-add_poly, is_remainder_ring, is_zero_remainder}
use Rattle.theory_rings.proofs.Polynomials.Remainders.{zero_remainder_test}

-- the coefficients of a remainder from the degree on
pub remainder-past : {K : Type 0} (R : CommRingOn K) (m : Poly R) → IsMonic R m → (a : Remainder R m) (k : ℕ)
    → degree m.0 ≤ k → coefficient R a.0 k ≡ R.zero
remainder-past R m monic a k l = let e = length-degree R m monic.nonzero in let s = a.1 in
    coefficient_past R a.0 k (omega arith)

module _ {K : Type 0} (R : CommRingOn K) {is_zero : K → Bool} (Z : ZeroTest R.zero is_zero) (m : Poly R)
    (monic : IsMonic R m) where
  abbrev P : CommRingOn (Poly R)
  P = polynomials R Z

  abbrev Q : CommRingOn (Remainder R m)
  Q = remainders R Z m monic

  pub Remainder-set : IsSet (Remainder R m)
  Remainder-set = group_set Q.additive (zero_remainder_test R Z m monic)

  both_congruent : (a b : Remainder R m) (c : Poly R) → Congruent P m a.0 c → Congruent P m b.0 c → a ≡ b
  both_congruent a b c h g =
      Remainder-path R Z m monic a b (congruent_trans P m a.0 c b.0 h (congruent_sym P m b.0 c g))

  remainder_ring_unique : (E : CommRingOn (Remainder R m)) → IsRemainderRing R m P E → Q ≡ E
  remainder_ring_unique E I =
      let J = is_remainder_ring R Z m monic in
      CommRingOn-path Remainder-set Q E
      (both_congruent Q.zero E.zero P.zero J.zero_mod I.zero_mod)
      (both_congruent Q.one E.one P.one J.one_mod I.one_mod)
      (λ a b. both_congruent (Q.◌⊕◌ a b) (E.◌⊕◌ a b) (P.◌⊕◌ a.0 b.0) (J.add_mod a b) (I.add_mod a b))
      (λ a. both_congruent (Q.neg a) (E.neg a) (P.neg a.0) (J.neg_mod a) (I.neg_mod a))
      (λ a b. both_congruent (Q.◌⊗◌ a b) (E.◌⊗◌ a b) (P.◌⊗◌ a.0 b.0) (J.mul_mod a b) (I.mul_mod a b))

  -- each ring of remainders, over each ring of polynomials, is this one
  pub remainders_eq : (P' : CommRingOn (Poly R)) → IsPolynomialRing R P' → (E : CommRingOn (Remainder R m))
      → IsRemainderRing R m P' E → Q ≡ E
  remainders_eq = for_polynomials R Z
      (λ P'. (E : CommRingOn (Remainder R m)) → IsRemainderRing R m P' E → Q ≡ E) remainder_ring_unique

  pub for_remainders : (T : CommRingOn (Remainder R m) → Type 0) → T Q → (P' : CommRingOn (Poly R))
      → IsPolynomialRing R P'
      → (E : CommRingOn (Remainder R m)) → IsRemainderRing R m P' E → T E
  for_remainders T t P' I E J = subst T (remainders_eq P' I E J) t

  pub Remainder-ext : (a b : Remainder R m) → ((k : ℕ) → coefficient R a.0 k ≡ coefficient R b.0 k) → a ≡ b
  Remainder-ext a b h = Remainder-path R Z m monic a b (congruent_of_eq P m a.0 b.0 (Poly-path R a.0 b.0 h))

  -- sums go coefficient by coefficient
  pub remainder-coefficient-zero : (k : ℕ) → coefficient R Q.zero.0 k ≡ R.zero
  remainder-coefficient-zero k = ap (λ a. coefficient R a k) (remainders-zero_poly R Z m monic) ∙ coefficient-zero R Z k

  pub remainder-coefficient-add : (a b : Remainder R m) (k : ℕ)
      → coefficient R (Q.◌⊕◌ a b).0 k ≡ R.◌⊕◌ (coefficient R a.0 k) (coefficient R b.0 k)
  remainder-coefficient-add a b k = ap (λ c. coefficient R c k) (remainders-add_poly R Z m monic a b)
      ∙ coefficient-add R Z a.0 b.0 k

  pub remainder-coefficient-times : (n : ℕ) (a : Remainder R m) (k : ℕ)
      → coefficient R (times Q.monoid n a).0 k ≡ times R.monoid n (coefficient R a.0 k)
  remainder-coefficient-times n a k =
      map-times Q.monoid R.monoid (λ (b : Remainder R m). coefficient R b.0 k) (remainder-coefficient-zero k)
      (λ b c. remainder-coefficient-add b c k) n a

  -- the remainder with the coefficients f below the degree
  abbrev below_degree : (ℕ → K) → ℕ → K
  below_degree f k = cond (ltb k (degree m.0)) (f k) R.zero

  below_degree-past : (f : ℕ → K) (k : ℕ) → degree m.0 ≤ k → below_degree f k ≡ R.zero
  below_degree-past f k l = ap (λ b. cond b (f k) R.zero) (le-ltb k (degree m.0) l)

  pub small_poly : (ℕ → K) → Poly R
  small_poly f = polynomial R Z (degree m.0) (below_degree f)

  small_poly-coefficient : (f : ℕ → K) (k : ℕ) → coefficient R (small_poly f) k ≡ below_degree f k
  unfolding small_poly
  small_poly-coefficient f k = coefficient-polynomial R Z (degree m.0) (below_degree f) (below_degree-past f) k

  pub small_remainder : (ℕ → K) → Remainder R m
  small_remainder f = (
    small_poly f,
    (let e = length-degree R m monic.nonzero in
        let l = length_le R (small_poly f) (degree m.0)
        (λ k l. small_poly-coefficient f k ∙ below_degree-past f k l) in omega arith),
  )

  pub small_remainder-coefficient : (f : ℕ → K) (k : ℕ) → k < degree m.0 → coefficient R (small_remainder f).0 k ≡ f k
  unfolding small_remainder
  small_remainder-coefficient f k l = small_poly-coefficient f k
      ∙ ap (λ b. cond b (f k) R.zero) (lt-ltb k (degree m.0) l)

  pub small_remainder-all : (f : ℕ → K) → ((k : ℕ) → degree m.0 ≤ k → f k ≡ R.zero) → (k : ℕ)
      → coefficient R (small_remainder f).0 k ≡ f k
  small_remainder-all f h k = ⊎_elim
      (λ (l : k < degree m.0). small_remainder-coefficient f k l)
      (λ (l : degree m.0 ≤ k). remainder-past R m monic (small_remainder f) k l ∙ sym (h k l))
      (cases_lt k (degree m.0))

  -- a test of 0 in each ring of remainders
  pub remainders_zero_test : (P' : CommRingOn (Poly R)) → IsPolynomialRing R P' → (E : CommRingOn (Remainder R m))
      → IsRemainderRing R m P' E
      → ZeroTest E.zero (is_zero_remainder R Z m monic)
  remainders_zero_test =
      for_remainders (λ X. ZeroTest X.zero (is_zero_remainder R Z m monic)) (zero_remainder_test R Z m monic)
