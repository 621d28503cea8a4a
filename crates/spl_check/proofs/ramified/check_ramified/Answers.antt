use Rattle.std.proofs.Common.{sym, subst}
use Rattle.spl_field.specs.SmallField.{small_ops, small_laws}
use Rattle.spl_fraction.specs.Fractions.{field_of}
use Rattle.spl_check.specs.Verdict.{FailsFirst, ramified_conditions}
use Rattle.spl_check.proofs.FaultNumbers.{no_fault, first_number}
use Rattle.spl_check.proofs.PlacePolynomials.{place_over}
use Rattle.spl_check.proofs.ramified.check_ramified.Goals as goal

pub first_fault-requires-clause-place : goal.first_fault-requires-clause-place
first_fault-requires-clause-place c =
    place_over (field_of c.args.f.now) c.args.place.now c.requires.fits.place_fits

pub returns-in-None : goal.returns-in-None
returns-in-None c =
    let f = field_of c.args.f.now in
    no_fault (small_ops f) (small_laws f) c.args.algebra.now c.args.place.now c.args.order.now c.args.radical.now
    (rw c.in-None.is at c.in_ok-first_fault.ensures)

pub returns-in-Some : goal.returns-in-Some
returns-in-Some c =
    let f = field_of c.args.f.now in
    subst (FailsFirst (ramified_conditions (small_ops f) (small_laws f) c.args.algebra.now c.args.place.now
    c.args.order.now c.args.radical.now)) (sym c.number_of.ensures)
    (first_number (small_ops f) (small_laws f) c.args.algebra.now c.args.place.now c.args.order.now c.args.radical.now
    c.in-Some.fault (rw c.in-Some.is at c.in_ok-first_fault.ensures))
