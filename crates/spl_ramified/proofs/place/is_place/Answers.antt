use Rattle.std.specs.Prelude.{◌↔◌, IfOk, IsTrue}
use Rattle.std.proofs.Common.{sym, subst}
use Rattle.spl_field.specs.SmallField.{small_ops}
use Rattle.theory_places.specs.FractionPlaces.{IsPlace}
use Rattle.spl_fraction.specs.Place.{place_of}
use Rattle.spl_ramified.proofs.place.is_place.Goals as goal

pub returns-in-Finite : goal.returns-in-Finite
returns-in-Finite c =
    subst (λ x. IfOk c.is_monic_irreducible.result (λ t. IsTrue t ↔ IsPlace (small_ops c.args.f.now) (place_of x)))
    (sym c.in-Finite.is) c.is_monic_irreducible.ensures
