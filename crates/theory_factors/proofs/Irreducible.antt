-- A polynomial of degree d over a field of q elements is irreducible where it is coprime to x^(q^i) − x for each i from
-- 1 with 2·i ≤ d, and only there.
use Rattle.std.specs.Prelude.{◌≡◌, ℕ, ◌*◌, ◌^◌, ◌<◌, ◌≤◌, ◌↔◌}
use Rattle.std.proofs.Common.{refl, sym, ◌∙◌, ap, subst, arith, ⊎_elim}
use Rattle.std.proofs.lemmas.Bool.{cases_lt}
use Rattle.std.proofs.Math.Nat.{pow-zero}
use Rattle.theory_rings.specs.Ring.{FieldOn, CommRingOn}
use Rattle.theory_rings.specs.Power.{power}
use Rattle.theory_rings.specs.Enumerated.{Enumerated}
use Rattle.theory_rings.specs.Polynomial.{Poly, degree, IsMonic, IsVariable}
use Rattle.theory_rings.specs.Remainder.{Remainder}
use Rattle.theory_rings.specs.Division.{Divides, Congruent, IsIrreducible}
use Rattle.theory_rings.proofs.Rings.Solver.{◌⊞◌, ◌⊠◌, minus, ring3}
use Rattle.theory_rings.proofs.Powers.Powers.{map-power}
use Rattle.theory_rings.proofs.FiniteFields.FiniteFields.{power_size}
use Rattle.theory_rings.proofs.Polynomials.Constants.{variable, variable_unique}
use Rattle.theory_rings.proofs.Polynomials.Remainders.{remainder, remainder_hom, remainder_eq, remainder-small}
use Rattle.theory_rings.proofs.Polynomials.Remainders.{congruent_of_remainder}
use Rattle.theory_rings.proofs.Polynomials.Uniqueness.{for_polynomials}
use Rattle.theory_rings.proofs.Polynomials.Bezout.{field_polynomials, coprime_comm}
use Rattle.theory_rings.proofs.Polynomials.Irreducible.{degree_le_of_divides, irreducible-ne-zero, irreducible_coprime}
use Rattle.theory_rings.proofs.Polynomials.Irreducible.{remainder_field}
use Rattle.theory_factors.specs.FactorLaws.{IsCoprimeToPowers, IrreducibleIffCoprime}
use Rattle.theory_rings.proofs.Polynomials.Monic.{divides_trans, ne_zero_of_degree, monic_of, degree-monic_of}
use Rattle.theory_rings.proofs.Polynomials.Monic.{monic_of-monic, monic_of-divides, irreducible-monic_of}
use Rattle.theory_rings.proofs.Polynomials.Monic.{degrees_of_product, not_without_irreducible}
use Rattle.theory_radical.proofs.Lifts.TowerFields.{remainder_numbers, size-remainder_numbers}
use Rattle.theory_factors.proofs.Powers.{power_less_variable, pow_lt, two_le_size, few_fixed, all_fixed}

module _ {K : Type 0} (F : FieldOn K) (E : Enumerated K) where
  abbrev R : CommRingOn K
  R = F.cring

  abbrev P : CommRingOn (Poly F.cring)
  P = field_polynomials F

  abbrev t : Poly R
  t = variable R F.zero_test

  module _ (m : Poly R) (monic : IsMonic R m) (i : IsIrreducible R P m) where
    abbrev Q : FieldOn (Remainder R m)
    Q = remainder_field F m monic i

    abbrev N : Enumerated (Remainder R m)
    N = remainder_numbers R F.zero_test m monic E

    abbrev of_poly : Poly R → Remainder R m
    of_poly = remainder R F.zero_test m monic

    power_remainder : (a : Poly R) (n : ℕ) → of_poly (power P.ring a n) ≡ power Q.ring (of_poly a) n
    power_remainder a n = let H = remainder_hom R F.zero_test m monic in
        map-power P.ring Q.ring of_poly H.map-one H.map-mul a n

    -- it divides x^(q^d) − x, d its degree
    pub divides_own : Divides P m (power_less_variable F E (E.size ^ degree m.0))
    divides_own =
        let n : ℕ = E.size ^ degree m.0 in
        let same : of_poly (power P.ring t n) ≡ of_poly t =
        power_remainder t n ∙ ap (power Q.ring (of_poly t)) (sym (size-remainder_numbers R F.zero_test m monic E))
        ∙ power_size Q N (of_poly t) in
        let c = congruent_of_remainder R F.zero_test m monic (power P.ring t n) t same in
        (c.0, ap (λ x. P.◌⊕◌ x (P.neg t)) c.1 ∙ ring3 P (λ t c m. (t ⊞ c ⊠ m ⊞ minus t, c ⊠ m)) refl t c.0 m)

    -- and no x^(q^j) − x with j from 1 below d
    pub divides_no_lower : (j : ℕ) → 1 ≤ j → j < degree m.0 → Divides P m (power_less_variable F E (E.size ^ j)) → ⊥
    divides_no_lower j one less d =
        few_fixed Q N n (omega (arith, pow_lt E.size 0 j (two_le_size F E) one, pow-zero E.size))
        (subst (λ k. n < k) (sym (size-remainder_numbers R F.zero_test m monic E))
        (pow_lt E.size j (degree m.0) (two_le_size F E) less)) fixed
      where
        n : ℕ
        n = E.size ^ j

        congruent : Congruent P m (power P.ring t (E.size ^ j)) t
        congruent = (
          d.0,
          ring3 P (λ x t u. (x, t ⊞ (x ⊞ minus t))) refl (power P.ring t (E.size ^ j)) t t ∙ ap (P.◌⊕◌ t) d.1,
        )

        fixed : (a : Remainder R m) → power Q.ring a n ≡ a
        fixed a =
            ap (λ x. power Q.ring x (E.size ^ j)) (sym (remainder-small R F.zero_test m monic a))
            ∙ sym (power_remainder a.0 (E.size ^ j))
            ∙ remainder_eq R F.zero_test m monic (power P.ring a.0 (E.size ^ j)) a.0 (all_fixed F E j m congruent a.0)
            ∙ remainder-small R F.zero_test m monic a

  module _ (f : Poly R) (positive : 1 ≤ degree f.0) (coprime : IsCoprimeToPowers F E P t f) where
    no_low_factor : (a : Poly R) → Divides P a f → 1 ≤ degree a.0 → 2 * degree a.0 ≤ degree f.0 → ⊥
    no_low_factor a da p l = not_without_irreducible F (degree a.0) a p (omega arith) (λ g i d.
        let n = ne_zero_of_degree F g i.positive in
        let h : Poly R = monic_of F g in
        let own = divides_own h (monic_of-monic F g n) (irreducible-monic_of F g n i) in
        let same : degree h.0 ≡ degree g.0 = degree-monic_of F g n in
        let pos = i.positive in
        let low = degree_le_of_divides F g a d (ne_zero_of_degree F a p) in
        let none = coprime (degree h.0) (omega arith) (omega arith) h
        (divides_trans F h g f (monic_of-divides F g n) (divides_trans F g a f d da)) own in
        omega arith)

    pub irreducible_of_coprime : IsIrreducible R P f
    irreducible_of_coprime = record {
      positive = positive;
      no_factors = λ a b la lb e.
          let s = degrees_of_product F f a b (ne_zero_of_degree F f positive) e in
          ⊎_elim
          (λ (l : degree a.0 < degree b.0). no_low_factor a (b, e ∙ P.mul_comm a b) (omega arith) (omega arith))
          (λ (l : degree b.0 ≤ degree a.0). no_low_factor b (a, e) (omega arith) (omega arith))
          (cases_lt (degree a.0) (degree b.0));
    }

  pub coprime_of_irreducible : (f : Poly R) → IsIrreducible R P f → IsCoprimeToPowers F E P t f
  coprime_of_irreducible f i j one l =
      let n = irreducible-ne-zero F f i in
      let h : Poly R = monic_of F f in
      let pos = i.positive in
      coprime_comm F (power_less_variable F E (E.size ^ j)) f
      (irreducible_coprime F f i (power_less_variable F E (E.size ^ j)) (λ d.
      divides_no_lower h (monic_of-monic F f n) (irreducible-monic_of F f n i) j one
      (omega (arith, degree-monic_of F f n, l, pos))
      (divides_trans F h f (power_less_variable F E (E.size ^ j)) (monic_of-divides F f n) d)))

  pub irreducible_iff_coprime : IrreducibleIffCoprime F E
  irreducible_iff_coprime = for_polynomials R F.zero_test (λ P. (x : Poly R) → IsVariable R x
      → (f : Poly R) → 1 ≤ degree f.0 → IsIrreducible R P f ↔ IsCoprimeToPowers F E P x f)
      (λ x h. subst (λ y. (f : Poly R) → 1 ≤ degree f.0 → IsIrreducible R P f ↔ IsCoprimeToPowers F E P y f)
      (sym (variable_unique R F.zero_test x h)) (λ f p. (coprime_of_irreducible f, irreducible_of_coprime f p)))
