-- The residue field of each place, at any valuation ring that tells what is integral there; and the swap.
use Rattle.std.specs.Prelude.{◌↔◌}
use Rattle.std.proofs.Common.{sym, ◌∙◌, subst}
use Rattle.theory_rings.specs.Ring.{FieldOn}
use Rattle.theory_rings.specs.Fraction.{IsFractionField, IsLowest}
use Rattle.theory_rings.proofs.Polynomials.Bezout.{field_polynomials}
use Rattle.theory_spaces.specs.Valuation.{ValuationOn}
use Rattle.theory_orders.specs.Uniformizer.{IsIntegral}
use Rattle.theory_lattices.specs.RationalFunctions.{Rational, of_polynomial, of_constant, power_of_x}
use Rattle.theory_places.specs.Places.{Infinite, IsIntegralAtInfinity, PlaceValuation}
use Rattle.theory_residue.specs.Residue.{ResidueOn}
use Rattle.theory_places.specs.PlaceLaws.{FiniteResidueFields, InfiniteResidueField, HasSwap, PolynomialsAmongFractions}
use Rattle.theory_places.proofs.FinitePlaces.{place, place-tells}
use Rattle.theory_places.proofs.PlaceValuations.{infinite_valuation}
use Rattle.theory_places.proofs.FiniteResidues.{finite_residue, finite_residue-of}
use Rattle.theory_places.proofs.InfiniteResidue.{infinite_residue, infinite_residue-res, res-lift}
use Rattle.theory_places.proofs.PolynomialFractions.{polynomial_of_denominator, denominator_of_polynomial}
use Rattle.theory_places.proofs.PolynomialFractions.{polynomial_of_everywhere, everywhere_of_polynomial}
use Rattle.theory_places.proofs.SwapPlaces.{swap, swap_hom, swap_twice, swap_constant, swap_variable, swap_place}
use Rattle.theory_places.proofs.SwapPlaces.{variable_place}

-- a residue map at a valuation ring is one at each with the same elements
module _ {K E : Type 0} (F : FieldOn K) (Z Y : ValuationOn F) (q : K) (k : FieldOn E)
    (same : (x : K) → IsIntegral F Z x ↔ IsIntegral F Y x) where
  abbrev pub residue_at : ResidueOn F Z q k → ResidueOn F Y q k
  residue_at D = record {
    res = D.res;
    lift = D.lift;
    lift_in = λ a. (same (D.lift a)).0 (D.lift_in a);
    res-lift = D.res-lift;
    map-one = D.map-one;
    map-add = λ a b h g. D.map-add a b ((same a).1 h) ((same b).1 g);
    map-mul = λ a b h g. D.map-mul a b ((same a).1 h) ((same b).1 g);
    kernel = λ a h. let e = D.kernel a ((same a).1 h) in
        (λ z. (same (F.◌⊗◌ q a)).0 (e.0 z), λ g. e.1 ((same (F.◌⊗◌ q a)).1 g));
  }

module _ {k : Type 0} (F : FieldOn k) (Q : FieldOn (Rational F))
    (H : IsFractionField (field_polynomials F) (IsLowest F.cring (field_polynomials F)) Q) where
  pub finite_residues : FiniteResidueFields F Q
  finite_residues m p V E M =
      let Z = place F Q H m p.1 in
      let tells = place-tells F Q H m p.1 in
      let same : (x : Rational F) → IsIntegral Q Z x ↔ IsIntegral Q V.valuation x =
      λ x. (λ h. (V.tells x).1 ((tells x).0 h), λ h. (tells x).1 ((V.tells x).0 h)) in
      record {
        residue = residue_at Q Z V.valuation (Q.inv (of_polynomial F m)) E same (finite_residue F Q H m p.0 p.1 E M);
        values = finite_residue-of F Q H m p.0 p.1 E M;
      }

  pub infinite_residues : (V : PlaceValuation F Q Infinite) → InfiniteResidueField F Q V
  infinite_residues V =
      let B = infinite_valuation F Q H in
      let X = power_of_x F 1 in
      let same : (x : Rational F) → IsIntegral Q B.valuation x ↔ IsIntegral Q V.valuation x =
      λ x. (λ h. (V.tells x).1 ((B.tells x).0 h), λ h. (B.tells x).1 ((V.tells x).0 h)) in
      record {
        residue = residue_at Q B.valuation V.valuation (Q.inv (Q.inv X)) F same (infinite_residue F Q H);
        values = λ x _. infinite_residue-res F Q H x;
        constants = λ c. infinite_residue-res F Q H (of_constant F c) ∙ res-lift F Q H c;
      }

  pub polynomials : PolynomialsAmongFractions F Q
  polynomials = record {
    denominator_one = λ x. (denominator_of_polynomial F x, polynomial_of_denominator F x);
    integral_at_finite = λ x. (
      λ p m h. everywhere_of_polynomial F x p m h.0 h.1,
      λ e. polynomial_of_everywhere F x (λ m h i. e m (h, i)),
    );
  }

  pub has_swap : HasSwap F Q
  has_swap = record {
    place = variable_place F Q H;
    swap = swap F Q H;
    is_swap = record {
      hom = swap_hom F Q H;
      twice = swap_twice F Q H;
      constants = swap_constant F Q H;
      variable = swap_variable F Q H;
      to_infinity = swap_place F Q H;
      from_infinity = λ a.
          let e = swap_place F Q H (swap F Q H a) in
          let t = swap_twice F Q H a in (
            λ h. e.1 (subst (IsIntegralAtInfinity F) (sym t) h),
            λ h. subst (IsIntegralAtInfinity F) t (e.0 h),
          );
    };
  }
