-- The residue of a fraction that is integral at an irreducible polynomial, and what does not depend on how the field of
-- the coefficients is given.
use Rattle.std.specs.Prelude.{◌≡◌, ◌≢◌, ℕ, List, []}
use Rattle.std.proofs.Common.{refl, sym, ◌∙◌, ap, subst}
use Rattle.std.proofs.Math.Nat.{ℕ_set}
use Rattle.theory_rings.specs.Ring.{FieldOn, CommRingOn}
use Rattle.theory_rings.specs.Ops.{Ops, IsElem, FieldLaws}
use Rattle.theory_rings.specs.Elements.{Elem, elements}
use Rattle.theory_rings.specs.Sum.{at}
use Rattle.theory_rings.specs.Polynomial.{Poly}
use Rattle.theory_rings.specs.Division.{Divides}
use Rattle.theory_rings.specs.Fraction.{IsLowest, IsValue}
use Rattle.theory_rings.proofs.Rings.LawsProof.{laws_unique}
use Rattle.theory_rings.proofs.Polynomials.Bezout.{field_polynomials}
use Rattle.theory_rings.proofs.Fractions.Lowest.{rational_functions, is_rational_functions}
use Rattle.theory_lattices.specs.RationalFunctions.{Rational}
use Rattle.theory_fractions.specs.PolynomialLists.{IsPolynomialList, Divides as DividesList}
use Rattle.theory_fractions.specs.Fraction.{Pair}
use Rattle.theory_fractions.specs.FractionOps.{polynomial_of, rational_function, fraction_ops}
use Rattle.theory_fractions.proofs.FractionField.{is_fraction-parts, rational_function_eq, polynomial_of-nil}
use Rattle.theory_fractions.proofs.ListPolynomials.{is_polynomial-gives, has_polynomial_of, divides_values, values_back}
use Rattle.theory_fractions.proofs.Reducing.{eq_of_fraction}
use Rattle.theory_remainders.specs.Irreducible.{IsIrreducible}
use Rattle.theory_remainders.specs.RemainderLaws.{IsRemainder, IsRemainderOf}
use Rattle.theory_remainders.specs.RemainderOps.{remainder_ops}
use Rattle.theory_remainders.proofs.Divisions.{congruent_of_remainder_of}
use Rattle.theory_remainders.proofs.IrreducibleLists.{IsIrreducible-prop, irreducible_polynomial}
use Rattle.theory_remainders.proofs.RemainderField.{monic, is_remainder-nil}
use Rattle.theory_places.specs.FractionPlaces.{IsIntegralOff}
use Rattle.theory_places.proofs.FinitePlaces.{off_den}
use Rattle.theory_reductions.specs.Reductions.{IsResidueOf}
use Rattle.theory_rings.proofs.Polynomials.ElementLists.{values}

module _ {E : Type 0} (o : Ops E) (L : FieldLaws o) (m : List E) (i : IsIrreducible o m) (w : Pair E)
    (elem : IsElem (fraction_ops o L) w) where
  abbrev F : FieldOn (Elem o)
  F = elements o L

  abbrev P : CommRingOn (Poly F.cring)
  P = field_polynomials F

  abbrev Q : FieldOn (Rational F)
  Q = rational_functions F

  abbrev poly : List E → Poly F.cring
  poly = polynomial_of o L

  abbrev h : Rational F
  h = rational_function o L w

  num_is : IsPolynomialList o w.0
  unfolding fraction_ops
  num_is = is_polynomial-gives o L w.0 (is_fraction-parts o L w elem).0

  den_is : IsPolynomialList o w.1
  unfolding fraction_ops
  den_is = is_polynomial-gives o L w.1 (is_fraction-parts o L w elem).1

  num_path : h.0.0 ≡ poly w.0
  unfolding fraction_ops
  num_path = ap (λ (x : Rational F). x.0.0) (rational_function_eq o L w elem)

  den_path : h.0.1 ≡ poly w.1
  unfolding fraction_ops
  den_path = ap (λ (x : Rational F). x.0.1) (rational_function_eq o L w elem)

  divides_of_rest : (u : List E) → IsPolynomialList o u → IsRemainderOf o (at o u) m [] → Divides P (poly m) (poly u)
  divides_of_rest u hu e =
      let nil = is_remainder-nil o L m i in
      let c = congruent_of_remainder_of o L (poly u) (at o u) (has_polynomial_of o L u hu.over) m []
      i.polynomial.over nil.polynomial.over e in
      (c.0, c.1 ∙ ap (λ x. P.◌⊕◌ x (P.◌⊗◌ c.0 (poly m))) (polynomial_of-nil o L) ∙ P.zero-add (P.◌⊗◌ c.0 (poly m)))

  -- the denominator of an integral fraction leaves a remainder
  pub denominator_stays : IsIntegralOff o m w → (x : List E) → IsRemainderOf o (at o w.1) m x → x ≢ []
  denominator_stays s x hx e =
      let value : IsValue P (IsLowest F.cring P) h (poly s.u) (poly s.v) =
      ap (λ t. P.◌⊗◌ t (poly s.v)) num_path
      ∙ eq_of_fraction o L w s.u s.v num_is.over den_is.over s.numerator.over s.denominator.over s.value
      ∙ ap (P.◌⊗◌ (poly s.u)) (sym den_path) in
      let off : Divides P (poly m) (poly s.v) → ⊥ = λ d. s.off (subst (DividesList o m) (values_back o L s.v s.denominator)
      (subst (λ t. DividesList o t (values o L (poly s.v).0)) (values_back o L m i.polynomial)
      (divides_values o L (poly m) (poly s.v) d))) in
      off_den F Q (is_rational_functions F) (poly m) (irreducible_polynomial o L m i.polynomial i) h (poly s.u) (poly s.v) value off
      (subst (Divides P (poly m)) (sym den_path)
      (divides_of_rest w.1 den_is (subst (IsRemainderOf o (at o w.1) m) e hx)))

  -- its residue
  pub residue_by_remainders : (r : Ops (List E)) → IsIntegralOff o m w → (x y : List E) → IsRemainder o m x
      → IsRemainder o m y
      → IsRemainderOf o (at o w.0) m x → IsRemainderOf o (at o w.1) m y → IsResidueOf o m r w (r.mul x (r.inv y))
  residue_by_remainders r s x y small_x small_y hx hy = record {
    upper = x;
    lower = y;
    upper_small = small_x;
    lower_small = small_y;
    numerator = hx;
    denominator = hy;
    nonzero = denominator_stays s y hy;
    quotient = refl;
  }

-- equal operations and polynomials have the same remainders
pub same_remainders : (p o : Ops ℕ) (P : FieldLaws p) (L : FieldLaws o) (m n : List ℕ) (i : IsIrreducible p m)
    (j : IsIrreducible o n) → p ≡ o → m ≡ n → remainder_ops p P m (monic p P m i) ≡ remainder_ops o L n (monic o L n j)
same_remainders p o P L m n i j e d =
    subst (λ (q : Ops ℕ). (M : FieldLaws q) (j : IsIrreducible q n)
    → remainder_ops p P m (monic p P m i) ≡ remainder_ops q M n (monic q M n j)) e
    (λ M j. subst (λ (n : List ℕ). (j : IsIrreducible p n)
    → remainder_ops p P m (monic p P m i) ≡ remainder_ops p M n (monic p M n j)) d
    (λ j. subst (λ (M : FieldLaws p). remainder_ops p P m (monic p P m i) ≡ remainder_ops p M m (monic p M m j))
    (laws_unique ℕ_set p P M)
    (ap (λ (j : IsIrreducible p m). remainder_ops p P m (monic p P m j)) (IsIrreducible-prop p m i j))) j) L j
