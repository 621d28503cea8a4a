-- Polynomials without divisors of small degree: where they are irreducible, and that what is coprime to x^(q^d) − x
-- has none of degree d either.
use Rattle.std.specs.Prelude.{◌≡◌, ◌≢◌, ℕ, suc, ◌*◌, ◌^◌, ◌<◌, ◌≤◌}
use Rattle.std.proofs.Common.{refl, ◌∙◌, ap₂, subst, arith, ⊎_elim}
use Rattle.std.proofs.lemmas.Bool.{cases_lt}
use Rattle.theory_rings.specs.Ring.{FieldOn, CommRingOn}
use Rattle.theory_rings.specs.Enumerated.{Enumerated}
use Rattle.theory_rings.specs.Polynomial.{Poly, degree}
use Rattle.theory_rings.specs.Division.{Divides, IsCoprime, IsIrreducible, IsGcd}
use Rattle.theory_rings.proofs.Rings.Solver.{◌⊞◌, ◌⊠◌, ring5}
use Rattle.theory_rings.proofs.Polynomials.Bezout.{field_polynomials}
use Rattle.theory_rings.proofs.Polynomials.Irreducible.{degree_le_of_divides}
use Rattle.theory_rings.proofs.Polynomials.Monic.{divides_trans, ne_zero_of_degree, monic_of, degree-monic_of}
use Rattle.theory_rings.proofs.Polynomials.Monic.{monic_of-monic, monic_of-divides, irreducible-monic_of}
use Rattle.theory_rings.proofs.Polynomials.Monic.{degrees_of_product}
use Rattle.theory_rings.proofs.Polynomials.Uniqueness.{for_polynomials}
use Rattle.theory_factors.specs.Parts.{HasDivisorsFrom, SmallIsIrreducible}
use Rattle.theory_factors.proofs.Irreducible.{divides_own}
use Rattle.theory_factors.proofs.Powers.{power_less_variable}

module _ {K : Type 0} (F : FieldOn K) where
  abbrev R : CommRingOn K
  R = F.cring

  abbrev P : CommRingOn (Poly F.cring)
  P = field_polynomials F

  abbrev From : ℕ → Poly R → Type 0
  From d a = HasDivisorsFrom F P d a

  pub divisors_from_one : (a : Poly R) → From 1 a
  divisors_from_one a g p d = p

  pub divisors_of_divisor : (d : ℕ) (a b : Poly R) → From d a → Divides P b a → From d b
  divisors_of_divisor d a b h e g p k = h g p (divides_trans F g b a k e)

  pub small_irreducible : (d : ℕ) (a : Poly R) → From d a → 1 ≤ degree a.0 → degree a.0 < 2 * d → IsIrreducible R P a
  small_irreducible d a h p l = record {
    positive = p;
    no_factors = λ b c lb lc e.
        let s = degrees_of_product F a b c (ne_zero_of_degree F a p) e in
        let x : d ≤ degree b.0 = h b (omega (arith, s, lb, lc)) (c, e ∙ P.mul_comm b c) in
        let y : d ≤ degree c.0 = h c (omega (arith, s, lb, lc)) (b, e) in
        omega (arith, s, x, y, l);
  }

  pub small_is_irreducible : SmallIsIrreducible F
  small_is_irreducible = for_polynomials R F.zero_test _ small_irreducible

  -- a greatest common divisor of degree 0 other than 0
  pub coprime_of_gcd : (a b g : Poly R) → IsGcd P a b g → g ≢ P.zero → degree g.0 ≡ 0 → IsCoprime R P a b
  coprime_of_gcd a b g h n z e da db =
      let d : Divides P e g = (
        P.◌⊕◌ (P.◌⊗◌ h.s da.0) (P.◌⊗◌ h.t db.0),
        h.combined ∙ sums,
      ) in
      omega (arith, z, degree_le_of_divides F e g d n)
    where
      sums : P.◌⊕◌ (P.◌⊗◌ h.s a) (P.◌⊗◌ h.t b) ≡ P.◌⊗◌ (P.◌⊕◌ (P.◌⊗◌ h.s da.0) (P.◌⊗◌ h.t db.0)) e
      sums = ap₂ (λ x y. P.◌⊕◌ (P.◌⊗◌ h.s x) (P.◌⊗◌ h.t y)) da.1 db.1
          ∙ ring5 P (λ s u t v g. (s ⊠ (u ⊠ g) ⊞ t ⊠ (v ⊠ g), (s ⊠ u ⊞ t ⊠ v) ⊠ g)) refl h.s da.0 h.t db.0 e

  module _ (E : Enumerated K) where
    -- what is coprime to x^(q^d) − x has no divisor of degree d
    pub divisors_from_next : (d : ℕ) (a : Poly R) → 1 ≤ d → From d a
        → IsCoprime R P a (power_less_variable F E (E.size ^ d)) → From (suc d) a
    divisors_from_next d a one h c g p k = ⊎_elim
        (λ (l : d < degree g.0). omega arith)
        (λ (l : degree g.0 ≤ d).
        let low : d ≤ degree g.0 = h g p k in
        let i = small_irreducible d g (divisors_of_divisor d a g h k) p (omega arith) in
        let n = ne_zero_of_degree F g p in
        let m : Poly R = monic_of F g in
        let same : degree m.0 ≡ degree g.0 = degree-monic_of F g n in
        let e : degree m.0 ≡ d = omega (arith, same, low, l) in
        let own = divides_own F E m (monic_of-monic F g n) (irreducible-monic_of F g n i) in
        let flat : degree m.0 ≡ 0 = c m (divides_trans F m g a (monic_of-divides F g n) k)
        (subst (λ j. Divides P m (power_less_variable F E (E.size ^ j))) e own) in
        omega (arith, flat, e, one))
        (cases_lt d (degree g.0))
