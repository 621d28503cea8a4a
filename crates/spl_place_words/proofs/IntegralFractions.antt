-- A fraction is integral at a place whose polynomial leaves a remainder in the denominator.
use Rattle.std.specs.Prelude.{◌≡◌, ◌↔◌, Bool, List, [], IsTrue}
use Rattle.std.proofs.Common.{refl, false}
use Rattle.std.proofs.lemmas.Bool.{both_ways}
use Rattle.theory_rings.specs.Ops.{Ops, IsElem, FieldLaws}
use Rattle.theory_fractions.specs.PolynomialLists.{IsPolynomialList, IsDivision, Divides}
use Rattle.theory_fractions.specs.Fraction.{Pair}
use Rattle.theory_fractions.specs.FractionOps.{fraction_ops}
use Rattle.theory_fractions.proofs.CommonDenominators.{nonzero_of_monic}
use Rattle.theory_fractions.proofs.ElementClauses.{lowest_of_elem}
use Rattle.theory_places.specs.FractionPlaces.{IsIntegralOff, IsMonicIrreducible}
use Rattle.spl_fraction.proofs.Multiplicities.{no_remainder}

module _ {E : Type 0} (o : Ops E) (L : FieldLaws o) (m : List E) (w : Pair E)
    (elem : IsElem (fraction_ops o L) w) where
  denominator_is : IsPolynomialList o w.1
  denominator_is = let t = lowest_of_elem o L w elem in
      record { over = t.denominator_over; trimmed = t.denominator_trimmed }

  integral_off : (Divides o m w.1 → ⊥) → IsIntegralOff o m w
  integral_off off = let t = lowest_of_elem o L w elem in record {
    u = w.0;
    v = w.1;
    numerator = record { over = t.numerator_over; trimmed = t.numerator_trimmed };
    denominator = denominator_is;
    value = record { products = λ k. refl };
    off = off;
  }

  -- by the test of a remainder
  pub integral_by_remainder : IsMonicIrreducible o m → (q r : List E) → IsPolynomialList o q → IsPolynomialList o r
      → IsDivision o w.1 m q r → (t : Bool) → (IsTrue t ↔ (r ≡ [])) → t ≡ false → IsIntegralOff o m w
  integral_by_remainder place q r hq hr e t tells f = integral_off (λ d. both_ways t f (tells.1
      (no_remainder o L w.1 m q r denominator_is place.polynomial hq hr (nonzero_of_monic o L m place.monic) e d)))
