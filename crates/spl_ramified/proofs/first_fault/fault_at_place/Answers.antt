use Rattle.std.proofs.Common.{IfOk, sym, subst}
use Rattle.spl_field.specs.SmallField.{small_ops, small_laws}
use Rattle.spl_fraction.specs.Fractions.{field_of}
use Rattle.spl_fraction.specs.Place.{place_of}
use Rattle.spl_ramified.specs.Faults.{IsFirstFault, tuple_conditions}
use Rattle.spl_ramified.proofs.first_fault.fault_at_place.Goals as goal

pub returns-in-Finite : goal.returns-in-Finite
returns-in-Finite c =
    let F = field_of c.args.f.now in
    subst (λ p. IfOk c.tuple_fault.result (IsFirstFault (tuple_conditions (small_ops F) (small_laws F) c.args.a.now
    (place_of p) c.args.order.now c.args.radical.now))) (sym c.in-Finite.is) c.tuple_fault.ensures

pub returns-in-Infinity : goal.returns-in-Infinity
returns-in-Infinity c =
    let F = field_of c.args.f.now in
    subst (λ p. IfOk c.fault_at_infinity.result (IsFirstFault (tuple_conditions (small_ops F) (small_laws F)
    c.args.a.now (place_of p) c.args.order.now c.args.radical.now))) (sym c.in-Infinity.is)
    c.fault_at_infinity.ensures
