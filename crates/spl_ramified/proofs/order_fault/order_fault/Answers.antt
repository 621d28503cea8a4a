use Rattle.std.proofs.Common.{◌∷◌, refl, inl, inr}
use Rattle.std.proofs.lemmas.Bool.{both_ways}
use Rattle.theory_places.specs.Places.{Finite}
use Rattle.theory_bases.specs.Bases.{tuples_of}
use Rattle.theory_ramified.specs.Conditions.{HoldsIdentity, IsClosed}
use Rattle.spl_field.specs.SmallField.{small_ops, small_laws}
use Rattle.spl_fraction.specs.Fractions.{field_of}
use Rattle.spl_ramified.specs.Faults.{radical_conditions}
use Rattle.spl_ramified.specs.declared.fault.RamifiedFault.TheVariants as faults
use Rattle.spl_ramified.proofs.FirstFaults.{first_holds}
use Rattle.spl_ramified.proofs.OrderConditions.{spans_order}
use Rattle.spl_ramified.proofs.order_fault.order_fault.Goals as goal

pub returns-then-not-branch : goal.returns-then-not-branch
returns-then-not-branch c =
    let w = c.in_ok-holds_identity in
    inl ((λ h. both_ways w.field-0 c.if-not-branch.true (w.ensures.1 h)), refl)

pub returns-then-not-branch-2 : goal.returns-then-not-branch-2
returns-then-not-branch-2 c =
    let w = c.in_ok-holds_identity in
    let v = c.in_ok-are_products_within_at in
    inr (
      w.ensures.0 c.if-not-branch.false,
      inl ((λ h. both_ways v.field-0 c.if-not-branch-2.true (v.ensures.1 h)), refl),
    )

pub radical_fault-requires-clause-order : goal.radical_fault-requires-clause-order
radical_fault-requires-clause-order c =
    let o = small_ops (field_of c.args.f.now) in
    let L = small_laws (field_of c.args.f.now) in
    spans_order o L c.args.a.now c.requires.over c.args.place.now c.requires.place c.args.order.now c.requires.basis
    c.args.one.now c.requires.one (c.in_ok-holds_identity.ensures.0 c.if-not-branch.false)
    (c.in_ok-are_products_within_at.ensures.0 c.if-not-branch-2.false)

pub returns : goal.returns
returns c =
    let o = small_ops (field_of c.args.f.now) in
    let L = small_laws (field_of c.args.f.now) in
    let A = c.args.a.now in
    let place = Finite c.args.place.now in
    let os = tuples_of o L c.args.order.now in
    let rest = radical_conditions o L A place os c.args.radical.now in
    first_holds faults.OrderWithoutIdentity (HoldsIdentity o L A place os)
    (record { fault = faults.OrderNotClosed; says = IsClosed o L A place os } ∷ rest) c.in_ok-fault.fault
    (c.in_ok-holds_identity.ensures.0 c.if-not-branch.false)
    (first_holds faults.OrderNotClosed (IsClosed o L A place os) rest c.in_ok-fault.fault
    (c.in_ok-are_products_within_at.ensures.0 c.if-not-branch-2.false) c.in_ok-fault.ensures)
