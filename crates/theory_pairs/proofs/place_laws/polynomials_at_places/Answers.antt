use Rattle.theory_pairs.proofs.PolynomialPlaces.{polynomials_are_intersection, units_off_divisors}
use Rattle.theory_pairs.proofs.place_laws.polynomials_at_places.Goals as goal

pub returns-clause-intersection : goal.returns-clause-intersection
returns-clause-intersection g c = λ V.
    let q = g.Q.RationalFunctions in polynomials_are_intersection q.constants q.field q.fractions V

pub returns-clause-units : goal.returns-clause-units
returns-clause-units g c = λ V place u off.
    let q = g.Q.RationalFunctions in units_off_divisors q.constants q.field q.fractions V place u off
