-- The monic multiple of a polynomial over a field, and irreducible factors.
use Rattle.std.specs.Prelude.{◌≡◌, ◌≢◌, ℕ, zero, suc, ◌+◌, ◌<◌, ◌≤◌}
use Rattle.std.proofs.Common.{refl, sym, ◌∙◌, ap, arith, ⊎_elim}
use Rattle.std.proofs.lemmas.Bool.{cases_lt}
use Rattle.theory_rings.specs.Ring.{FieldOn, CommRingOn}
use Rattle.theory_rings.specs.Polynomial.{Poly, lead, degree, IsMonic}
use Rattle.theory_rings.specs.Division.{Divides, IsIrreducible}
use Rattle.theory_rings.proofs.Rings.RingLaws.{left_ne_zero_of_mul, right_ne_zero_of_mul}
use Rattle.theory_rings.proofs.Rings.Fields.{inv-ne-zero}
use Rattle.theory_rings.proofs.Rings.Solver.{◌⊠◌, ring3}
use Rattle.theory_rings.proofs.Polynomials.PolynomialRing.{constant}
use Rattle.theory_rings.proofs.Polynomials.Degrees.{degree_le_length, ne_zero_of_lead, lead-ne-zero, lead-constant}
use Rattle.theory_rings.proofs.Polynomials.Degrees.{degree-constant, length_pos, ne_zero_of_length}
use Rattle.theory_rings.proofs.Polynomials.Bezout.{field_polynomials, field_degree-mul, field_lead-mul}
use Rattle.theory_rings.proofs.Polynomials.Bezout.{poly_mul-ne-zero, constant_inverse}

module _ {K : Type 0} (F : FieldOn K) where
  abbrev R : CommRingOn K
  R = F.cring

  abbrev P : CommRingOn (Poly F.cring)
  P = field_polynomials F

  abbrev c_of : K → Poly R
  c_of c = constant R F.zero_test c

  pub divides_trans : (a b c : Poly R) → Divides P a b → Divides P b c → Divides P a c
  divides_trans a b c d e = (P.◌⊗◌ e.0 d.0, e.1 ∙ ap (P.◌⊗◌ e.0) d.1 ∙ sym (P.mul_assoc e.0 d.0 a))

  pub divides_self : (a : Poly R) → Divides P a a
  divides_self a = (P.one, sym (P.one-mul a))

  pub ne_zero_of_degree : (a : Poly R) → 1 ≤ degree a.0 → a ≢ P.zero
  ne_zero_of_degree a h = ne_zero_of_length R F.zero_test a (omega (arith, degree_le_length R a))

  pub constant-ne-zero : (c : K) → c ≢ F.zero → c_of c ≢ P.zero
  constant-ne-zero c h = ne_zero_of_lead R F.zero_test (c_of c) (λ e. h (sym (lead-constant R F.zero_test c) ∙ e))

  pub degree-scaled : (c : K) (a : Poly R) → c ≢ F.zero → a ≢ P.zero → degree (P.◌⊗◌ (c_of c) a).0 ≡ degree a.0
  degree-scaled c a h n = omega (
    arith,
    field_degree-mul F (c_of c) a (constant-ne-zero c h) n,
    degree-constant R F.zero_test c,
  )

  -- the monic multiple
  pub monic_of : Poly R → Poly R
  monic_of a = P.◌⊗◌ (c_of (F.inv (lead R a))) a

  module _ (a : Poly R) (n : a ≢ P.zero) where
    lead_ne : lead R a ≢ F.zero
    lead_ne = lead-ne-zero R F.zero_test a n

    inv_ne : F.inv (lead R a) ≢ F.zero
    inv_ne = inv-ne-zero F (lead R a) lead_ne

    pub monic_of-ne-zero : monic_of a ≢ P.zero
    unfolding monic_of
    monic_of-ne-zero = poly_mul-ne-zero F (c_of (F.inv (lead R a))) a (constant-ne-zero (F.inv (lead R a)) inv_ne) n

    pub degree-monic_of : degree (monic_of a).0 ≡ degree a.0
    unfolding monic_of
    degree-monic_of = degree-scaled (F.inv (lead R a)) a inv_ne n

    pub monic_of-monic : IsMonic R (monic_of a)
    unfolding monic_of
    monic_of-monic = record {
      nonzero = length_pos R F.zero_test (monic_of a) monic_of-ne-zero;
      leading = field_lead-mul F (c_of (F.inv (lead R a))) a (constant-ne-zero (F.inv (lead R a)) inv_ne) n
          ∙ ap (λ x. F.◌⊗◌ x (lead R a)) (lead-constant R F.zero_test (F.inv (lead R a)))
          ∙ F.inv-mul (lead R a) lead_ne;
    }

    unscale : a ≡ P.◌⊗◌ (c_of (lead R a)) (monic_of a)
    unfolding monic_of
    unscale =
        sym (P.one-mul a) ∙ ap (λ x. P.◌⊗◌ x a) (sym (constant_inverse F (lead R a) lead_ne))
        ∙ ring3 P (λ u v a. (u ⊠ v ⊠ a, v ⊠ (u ⊠ a))) refl (c_of (F.inv (lead R a))) (c_of (lead R a)) a

    pub monic_of-divides : Divides P (monic_of a) a
    monic_of-divides = (c_of (lead R a), unscale)

    pub divides-monic_of : Divides P a (monic_of a)
    unfolding monic_of
    divides-monic_of = (c_of (F.inv (lead R a)), refl)

    pub irreducible-monic_of : IsIrreducible R P a → IsIrreducible R P (monic_of a)
    irreducible-monic_of i = record {
      positive = omega (arith, degree-monic_of, i.positive);
      no_factors = λ b c lb lc e.
          let h : b ≢ P.zero = left_ne_zero_of_mul P.ring b c (λ z. monic_of-ne-zero (e ∙ z)) in
          i.no_factors (P.◌⊗◌ (c_of (lead R a)) b) c
          (omega (arith, degree-scaled (lead R a) b lead_ne h, degree-monic_of, lb))
          (omega (arith, degree-monic_of, lc))
          (unscale ∙ ap (P.◌⊗◌ (c_of (lead R a))) e ∙ sym (P.mul_assoc (c_of (lead R a)) b c));
    }

  pub degrees_of_product : (a b c : Poly R) → a ≢ P.zero → a ≡ P.◌⊗◌ b c → degree a.0 ≡ degree b.0 + degree c.0
  degrees_of_product a b c n e =
      let h : P.◌⊗◌ b c ≢ P.zero = λ z. n (e ∙ z) in
      ap (λ x. degree x.0) e ∙ field_degree-mul F b c (left_ne_zero_of_mul P.ring b c h)
      (right_ne_zero_of_mul P.ring b c h)

  -- a polynomial of degree at least 1 is not without irreducible factors
  pub not_without_irreducible : (n : ℕ) (a : Poly R) → 1 ≤ degree a.0 → degree a.0 ≤ n
      → ((g : Poly R) → IsIrreducible R P g → Divides P g a → ⊥) → ⊥
  not_without_irreducible zero a p l k = omega arith
  not_without_irreducible (suc n) a p l k = k a (record {
    positive = p;
    no_factors = λ b c lb lc e.
        let s = degrees_of_product a b c (ne_zero_of_degree a p) e in
        ⊎_elim
        (λ (h : 0 < degree b.0). not_without_irreducible n b (omega arith) (omega arith)
        (λ g i d. k g i (divides_trans g b a d (c, e ∙ P.mul_comm b c))))
        (λ (h : degree b.0 ≤ 0). omega arith)
        (cases_lt 0 (degree b.0));
  }) (divides_self a)
