-- Rows of polynomials over a field can be reduced: their degree is Euclidean, by division with remainder.
use Rattle.std.specs.Prelude.{◌≡◌, ◌<◌, length, pos, ◌-ℤ◌, ◌≤ℤ◌}
use Rattle.std.proofs.Common.{refl, sym, ◌∙◌, ap, subst, arith, ⊎_elim, inl, inr}
use Rattle.std.proofs.lemmas.Int.{ints}
use Rattle.theory_rings.specs.Ring.{CommRingOn, FieldOn}
use Rattle.theory_rings.specs.Polynomial.{Poly, degree, lead}
use Rattle.theory_rings.proofs.Rings.RingLaws.{zero-mul}
use Rattle.theory_rings.proofs.Rings.Solver.{◌⊞◌, minus, ring2}
use Rattle.theory_rings.proofs.Rings.Fields.{mul-inv}
use Rattle.theory_rings.proofs.Polynomials.Degrees.{length_pos, lead-ne-zero, length-degree_of_ne_zero}
use Rattle.theory_rings.proofs.Polynomials.Division.{divide}
use Rattle.theory_rings.proofs.Polynomials.Bezout.{field_polynomials}
use Rattle.theory_lattices.specs.Degree.{DegreeOn, DegreeBelow, HasDegree, IsEuclidean}
use Rattle.theory_lattices.specs.RationalFunctions.{IsPolynomialDegree}
use Rattle.theory_lattices.proofs.Degree.Degrees.{has_degree-add, below-neg}

module _ {k : Type 0} (F : FieldOn k) (W : DegreeOn (field_polynomials F).ring) (D : IsPolynomialDegree F W) where
  infixl 65 ◌⊕◌
  infixl 70 ◌⊗◌
  abbrev R : CommRingOn k
  R = F.cring

  abbrev P : CommRingOn (Poly F.cring)
  P = field_polynomials F

  open P use {◌⊕◌, ◌⊗◌, neg}

  natural : (a : Poly R) → (a ≡ P.zero → ⊥) → pos 0 ≤ℤ W.deg a
  natural a h = let e = D.degree-is a in omega (arith, ints)

  -- a remainder by b is of smaller degree than what b is not above
  remainder_below : (r b a : Poly R) → (b ≡ P.zero → ⊥) → length r.0 < length b.0 → W.deg b ≤ℤ W.deg a
      → DegreeBelow W (W.deg a) r
  remainder_below r b a nb l le = ⊎_elim (λ (e : r ≡ P.zero). inl e)
      (λ (n : r ≡ P.zero → ⊥).
      let er = length-degree_of_ne_zero R F.zero_test r n in
      let eb = length-degree_of_ne_zero R F.zero_test b nb in
      let dr = D.degree-is r in
      let db = D.degree-is b in
      let lt : degree r.0 < degree b.0 = omega arith in
      inr (omega (arith, ints)))
      (W.eq_zero_or r)

  module _ (a b : Poly R) (na : a ≡ P.zero → ⊥) (nb : b ≡ P.zero → ⊥) (le : W.deg b ≤ℤ W.deg a) where
    cancel_with : (q r : Poly R) → a ≡ q ⊗ b ⊕ r → length r.0 < length b.0
        → (m : Poly R) × HasDegree W (W.deg a -ℤ W.deg b) m × DegreeBelow W (W.deg a) (a ⊕ neg (m ⊗ b))
    cancel_with q r whole less =
        let low : DegreeBelow W (W.deg a) r = remainder_below r b a nb less le in
        let rest : a ⊕ neg (q ⊗ b) ≡ r = ap (λ t. t ⊕ neg (q ⊗ b)) whole
        ∙ ring2 P (λ u r. (u ⊞ r ⊞ minus u, r)) refl (q ⊗ b) r in
        let other : a ⊕ neg r ≡ q ⊗ b = ap (λ t. t ⊕ neg r) whole
        ∙ ring2 P (λ u r. (u ⊞ r ⊞ minus r, u)) refl (q ⊗ b) r in
        let U : Poly R → Type 0 = λ x. DegreeBelow W (W.deg a) x in
        let X : Poly R → Type 0 = λ x. HasDegree W (W.deg a) x in
        let x : HasDegree W (W.deg a) (q ⊗ b) = subst X other
        (has_degree-add W (W.deg a) a (neg r) (record { nonzero = na; degree = refl }) (below-neg W (W.deg a) r low)) in
        let nq : q ≡ P.zero → ⊥ = λ e. x.nonzero (ap (λ t. t ⊗ b) e ∙ zero-mul P.ring b) in (
          q,
          record {
            nonzero = nq;
            degree =
                (let s = W.deg-mul q b nq nb in let y = x.degree in omega (arith, ints));
          },
          subst U (sym rest) low,
        )

    cancel : (m : Poly R) × HasDegree W (W.deg a -ℤ W.deg b) m × DegreeBelow W (W.deg a) (a ⊕ neg (m ⊗ b))
    cancel =
        let d = divide R F.zero_test b (F.inv (lead R b)) (mul-inv F (lead R b) (lead-ne-zero R F.zero_test b nb))
        (length_pos R F.zero_test b nb) a in
        let w = d.2 in
        cancel_with d.0 d.1 w.whole w.smaller

  pub polynomial_euclidean : IsEuclidean W
  polynomial_euclidean = record { natural = natural; cancel = cancel }
