-- Over a field of q elements each polynomial of degree at least 1 has an irreducible factor: the polynomials of smaller
-- degree are tried one by one.
use Rattle.std.specs.Prelude.{◌≡◌, ◌≢◌, ℕ, zero, suc, ◌<◌, ◌≤◌, length, ◌⊎◌}
use Rattle.std.proofs.Common.{◌∙◌, subst, arith, inl, inr, ⊎_elim}
use Rattle.std.proofs.lemmas.Bool.{cases_lt}
use Rattle.theory_rings.specs.Ring.{FieldOn, CommRingOn}
use Rattle.theory_rings.specs.Enumerated.{Enumerated}
use Rattle.theory_rings.specs.Polynomial.{Poly, degree, IsMonic}
use Rattle.theory_rings.specs.Remainder.{Remainder}
use Rattle.theory_rings.specs.Division.{Divides, IsIrreducible}
use Rattle.theory_rings.proofs.Polynomials.Degrees.{length-degree_of_ne_zero}
use Rattle.theory_rings.proofs.Polynomials.Uniqueness.{for_polynomials}
use Rattle.theory_rings.proofs.Polynomials.Bezout.{field_polynomials}
use Rattle.theory_rings.proofs.Polynomials.Irreducible.{divides_or}
use Rattle.theory_blocks.proofs.Families.Decisions.{some_or_all}
use Rattle.theory_factors.specs.Factorisation.{HasIrreducibleFactors}
use Rattle.theory_rings.proofs.Polynomials.Monic.{divides_trans, divides_self, ne_zero_of_degree, monic_of}
use Rattle.theory_rings.proofs.Polynomials.Monic.{degree-monic_of, monic_of-monic, monic_of-divides, monic_of-ne-zero}
use Rattle.theory_rings.proofs.Polynomials.Monic.{irreducible-monic_of, degrees_of_product}
use Rattle.theory_radical.proofs.Lifts.TowerFields.{remainder_numbers}

module _ {K : Type 0} (F : FieldOn K) (E : Enumerated K) where
  abbrev R : CommRingOn K
  R = F.cring

  abbrev P : CommRingOn (Poly F.cring)
  P = field_polynomials F

  module _ (a : Poly R) (positive : 1 ≤ degree a.0) where
    n : a ≢ P.zero
    n = ne_zero_of_degree F a positive

    abbrev h : Poly R
    h = monic_of F a

    abbrev N : Enumerated (Remainder R h)
    N = remainder_numbers R F.zero_test h (monic_of-monic F a n) E

    abbrev Yes : Remainder R h → Type 0
    Yes b = (1 ≤ degree b.0.0) × Divides P b.0 a

    abbrev No : Remainder R h → Type 0
    No b = 1 ≤ degree b.0.0 → Divides P b.0 a → ⊥

    decide : (b : Remainder R h) → Yes b ⊎ No b
    decide b = ⊎_elim
        (λ (l : 0 < degree b.0.0). ⊎_elim (λ (d : Divides P b.0 a). inl (l, d))
        (λ (d : Divides P b.0 a → ⊥). inr (λ _. d))
        (divides_or F b.0 a (ne_zero_of_degree F b.0 l)))
        (λ (l : degree b.0.0 ≤ 0). inr (λ k _. omega arith))
        (cases_lt 0 (degree b.0.0))

    long : length h.0 ≡ suc (degree a.0)
    long = omega (arith, length-degree_of_ne_zero R F.zero_test h (monic_of-ne-zero F a n), degree-monic_of F a n)

    irreducible_or : ((b : Poly R) × (1 ≤ degree b.0) × (degree b.0 < degree a.0) × Divides P b a) ⊎ IsIrreducible R P a
    irreducible_or = ⊎_elim
        (λ (s : (i : ℕ) × (i < N.size) × Yes (N.member i)).
        let b : Remainder R h = N.member s.0 in
        let y : Yes b = s.2 in
        inl (
          b.0,
          y.0,
          omega (
            arith,
            long,
            b.1,
            length-degree_of_ne_zero R F.zero_test b.0
                (ne_zero_of_degree F b.0 y.0),
          ),
          y.1,
        ))
        (λ (all : (i : ℕ) → i < N.size → No (N.member i)). inr (record {
          positive = positive;
          no_factors = λ b c lb lc e.
              let s = degrees_of_product F a b c n e in
              let l : 1 ≤ degree b.0 = omega arith in
              let r : Remainder R h =
              (b, omega (arith, long, lb, length-degree_of_ne_zero R F.zero_test b (ne_zero_of_degree F b l))) in
              subst No (N.member-number r) (all (N.number r) (N.number-lt r)) l (c, e ∙ P.mul_comm b c);
        }))
        (some_or_all N.size (λ i. Yes (N.member i)) (λ i. No (N.member i)) (λ i _. decide (N.member i)))

  pub irreducible_factor : (k : ℕ) (a : Poly R) → 1 ≤ degree a.0 → degree a.0 ≤ k → (g : Poly R) × IsIrreducible R P g
      × Divides P g a
  irreducible_factor zero a p l = absurd (omega arith)
  irreducible_factor (suc k) a p l = ⊎_elim
      (λ (s : (b : Poly R) × (1 ≤ degree b.0) × (degree b.0 < degree a.0) × Divides P b a).
      let less : degree s.0.0 < degree a.0 = s.2 in
      let r = irreducible_factor k s.0 s.1 (omega arith) in
      (r.0, r.1, divides_trans F r.0 s.0 a r.2 s.3))
      (λ (i : IsIrreducible R P a). (a, i, divides_self F a))
      (irreducible_or a p)

  monic_factor : (f : Poly R) → 1 ≤ degree f.0 → (g : Poly R) × IsMonic R g × IsIrreducible R P g × Divides P g f
  monic_factor f p =
      let r = irreducible_factor (degree f.0) f p (omega arith) in
      let i : IsIrreducible R P r.0 = r.1 in
      let n = ne_zero_of_degree F r.0 i.positive in (
        monic_of F r.0,
        monic_of-monic F r.0 n,
        irreducible-monic_of F r.0 n i,
        divides_trans F (monic_of F r.0) r.0 f (monic_of-divides F r.0 n) r.2,
      )

  pub has_irreducible_factors : HasIrreducibleFactors F
  has_irreducible_factors = for_polynomials R F.zero_test _ monic_factor
