use Rattle.std.proofs.Common.{◌≡◌, IfSome, length, refl, sym, subst, inl}
use Rattle.theory_tables.specs.Matrix.{IsMatrix}
use Rattle.theory_places.specs.Places.{Finite}
use Rattle.theory_bases.specs.TupleLattices.{AreIndependentTuples}
use Rattle.theory_bases.specs.Bases.{IsBasis, tuples_of}
use Rattle.spl_field.specs.SmallField.{small_ops, small_laws}
use Rattle.spl_fraction.specs.Fractions.{field_of}
use Rattle.spl_fraction.specs.FractionsOver.{fractions_over}
use Rattle.spl_ramified.specs.Faults.{IsFirstFault, order_conditions}
use Rattle.spl_ramified.specs.declared.fault.RamifiedFault.TheVariants as faults
use Rattle.spl_ramified.proofs.FirstFaults.{first_holds}
use Rattle.spl_ramified.proofs.OrderConditions.{are_dependent}
use Rattle.spl_ramified.proofs.order_fault.tuple_fault.Goals as goal

pub of-requires : goal.of-requires
of-requires c =
    subst (λ n. IsMatrix (fractions_over (field_of c.args.f.now)) n c.args.order.now) (sym c.requires.order_count)
    c.requires.order

pub returns-in-None : goal.returns-in-None
returns-in-None c =
    let K = fractions_over (field_of c.args.f.now) in
    let none = c.in_ok-of.ensures.none c.in-None.is in
    inl (are_dependent K c.args.a.now.dim c.args.order.now c.requires.order_count none, refl)

pub order_fault-requires-clause-basis : goal.order_fault-requires-clause-basis
order_fault-requires-clause-basis c =
    let o = small_ops (field_of c.args.f.now) in
    let L = small_laws (field_of c.args.f.now) in
    subst (λ n. IsBasis o L n c.in-Some.basis) c.requires.order_count
    (subst (λ r. IfSome r (IsBasis o L (length c.args.order.now))) c.in-Some.is c.in_ok-of.ensures.basis)

pub returns-in_ok-fault-in-Some : goal.returns-in_ok-fault-in-Some
returns-in_ok-fault-in-Some c =
    let F = field_of c.args.f.now in
    let o = small_ops F in
    let L = small_laws F in
    let A = c.args.a.now in
    let place = Finite c.args.place.now in
    let rows = c.args.order.now in
    let basis = c.in-Some.basis in
    let fault = c.in_ok-fault-in-Some.fault in
    let is : tuples_of o L basis ≡ rows =
    subst (λ r. IfSome r (λ b. tuples_of o L b ≡ rows)) c.in-Some.is c.in_ok-of.ensures.tuples in
    let is_basis : IsBasis o L A.dim basis =
    subst (λ n. IsBasis o L n basis) c.requires.order_count
    (subst (λ r. IfSome r (IsBasis o L (length rows))) c.in-Some.is c.in_ok-of.ensures.basis) in
    first_holds faults.OrderDependent (AreIndependentTuples (fractions_over F) A.dim rows)
    (order_conditions o L A place rows c.args.radical.now) fault
    (subst (AreIndependentTuples (fractions_over F) A.dim) is is_basis.independent)
    (subst (λ z. IsFirstFault (order_conditions o L A place z c.args.radical.now) fault) is
    c.in_ok-fault-in-Some.ensures)
