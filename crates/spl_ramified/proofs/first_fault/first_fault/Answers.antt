use Rattle.std.proofs.Common.{subst}
use Rattle.theory_places.specs.FractionPlaces.{IsPlace}
use Rattle.spl_field.specs.SmallField.{small_ops, small_laws}
use Rattle.spl_fraction.specs.Fractions.{field_of}
use Rattle.spl_fraction.specs.Place.{place_of}
use Rattle.spl_ramified.specs.Faults.{algebra_conditions}
use Rattle.spl_ramified.specs.declared.fault.RamifiedFault.TheVariants as faults
use Rattle.spl_ramified.proofs.FirstFaults.{first_holds}
use Rattle.spl_ramified.proofs.first_fault.first_fault.Goals as goal

pub returns : goal.returns
returns c =
    let F = field_of c.args.f.now in
    let o = small_ops F in
    let place = place_of c.args.place.now in
    first_holds faults.NoPlace (IsPlace o place)
    (algebra_conditions o (small_laws F) c.args.a.now place c.args.order.now c.args.radical.now) c.in_ok-fault.fault
    (subst (λ q. IsPlace (small_ops q) place) c.field.ensures
    (c.in_ok-is_place.ensures.0 c.if-not-branch.false)) c.in_ok-fault.ensures
