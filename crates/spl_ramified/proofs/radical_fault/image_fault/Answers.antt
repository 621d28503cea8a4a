use Rattle.std.proofs.Common.{◌∷◌, refl, inl, inr}
use Rattle.std.proofs.lemmas.Bool.{both_ways}
use Rattle.theory_places.specs.Places.{Finite}
use Rattle.theory_bases.specs.Bases.{tuples_of}
use Rattle.theory_ramified.specs.Conditions.{SomePowerFalls, IsSimpleOver}
use Rattle.spl_field.specs.SmallField.{small_ops, small_laws}
use Rattle.spl_fraction.specs.Fractions.{field_of}
use Rattle.spl_ramified.specs.Faults.{left_order_conditions}
use Rattle.spl_ramified.specs.declared.fault.RamifiedFault.TheVariants as faults
use Rattle.spl_ramified.proofs.FirstFaults.{first_holds}
use Rattle.spl_ramified.proofs.OrderConditions.{is_simple_radical}
use Rattle.spl_ramified.proofs.radical_fault.image_fault.Goals as goal

pub returns-then-not-branch : goal.returns-then-not-branch
returns-then-not-branch c =
    let p = c.in_ok-power_in_place in
    let h = c.requires.conditions.power in
    inl ((λ w. both_ways p.field-0 c.if-not-branch.true (p.ensures.1 (h.0 w))), refl)

pub returns-then-not-branch-2 : goal.returns-then-not-branch-2
returns-then-not-branch-2 c =
    let p = c.in_ok-power_in_place in
    let q = c.in_ok-is_maximal_ideal in
    let h = c.requires.conditions in
    inr (
      h.power.1 (p.ensures.0 c.if-not-branch.false),
      inl (
        (λ w. both_ways q.field-0 c.if-not-branch-2.true
            (q.ensures.1 (record { shape = h.ideal.shape; maximal = h.simple.0 w }))),
        refl,
      ),
    )

pub left_order_fault-requires-clause-radical : goal.left_order_fault-requires-clause-radical
left_order_fault-requires-clause-radical c =
    let o = small_ops (field_of c.args.f.now) in
    let L = small_laws (field_of c.args.f.now) in
    let h = c.requires.conditions in
    let q = c.in_ok-is_maximal_ideal.ensures.0 c.if-not-branch-2.false in
    is_simple_radical o L c.args.a.now c.requires.over c.args.place.now c.requires.place c.requires.associative
    (tuples_of o L c.args.order.now) c.requires.order (tuples_of o L c.args.radical.now)
    c.requires.radical_basis.independent c.requires.inside c.requires.absorbs c.requires.over_multiple
    (h.power.1 (c.in_ok-power_in_place.ensures.0 c.if-not-branch.false)) (h.simple.1 q.maximal)

pub returns : goal.returns
returns c =
    let o = small_ops (field_of c.args.f.now) in
    let L = small_laws (field_of c.args.f.now) in
    let A = c.args.a.now in
    let place = Finite c.args.place.now in
    let os = tuples_of o L c.args.order.now in
    let js = tuples_of o L c.args.radical.now in
    let h = c.requires.conditions in
    let q = c.in_ok-is_maximal_ideal.ensures.0 c.if-not-branch-2.false in
    let rest = left_order_conditions o L A place os js in
    first_holds faults.NotNilpotent (SomePowerFalls o L A place os js)
    (record { fault = faults.QuotientNotSimple; says = IsSimpleOver o L A place os js } ∷ rest) c.in_ok-fault.fault
    (h.power.1 (c.in_ok-power_in_place.ensures.0 c.if-not-branch.false))
    (first_holds faults.QuotientNotSimple (IsSimpleOver o L A place os js) rest c.in_ok-fault.fault
    (h.simple.1 q.maximal) c.in_ok-fault.ensures)
