use Rattle.std.proofs.Common.{subst, IfSome}
use Rattle.theory_rings.specs.Polynomial.{IsTrimmed}
use Rattle.spl_field.specs.SmallField.{small_ops, small_laws}
use Rattle.theory_fractions.specs.PolynomialLists.{IsOver, IsProduct}
use Rattle.spl_fraction.proofs.Multiplicities.{power_start, power_step, power_smaller}
use Rattle.spl_fraction.proofs.valuation.multiplicity.Goals as goal

pub steps-init : goal.steps-init
steps-init c =
    power_start (small_ops c.args.f.now) (small_laws c.args.f.now) c.args.m.now c.args.a.now
    record { over = c.requires.m_over; trimmed = c.degree.ensures.trimmed }
    record { over = c.requires.a_over; trimmed = c.requires.a_trimmed }
    c.in_ok-rest.rest c.in_ok-rest.ensures.value c.requires.a_nonzero

pub steps-smaller : goal.steps-smaller
steps-smaller c =
    let o = small_ops c.args.f.now in
    let q = c.in_ok-quotient.ensures in
    let e = c.in-Some.is in
    power_smaller o (small_laws c.args.f.now) c.args.m.now c.args.a.now
    record { over = c.requires.m_over; trimmed = c.degree.ensures.trimmed }
    record { over = c.requires.a_over; trimmed = c.requires.a_trimmed }
    c.steps.rest c.in-Some.quotient c.steps.count c.steps.invariant
    (subst (λ x. IfSome x (IsOver o)) e q.over) (subst (λ x. IfSome x (IsTrimmed 0)) e q.trimmed)
    (subst (λ x. IfSome x (λ t. IsProduct o t c.args.m.now c.steps.rest)) e q.value) c.requires.m_degree

pub steps-preserved : goal.steps-preserved
steps-preserved c =
    let o = small_ops c.args.f.now in
    let q = c.in_ok-quotient.ensures in
    let e = c.in-Some.is in
    power_step o (small_laws c.args.f.now) c.args.m.now c.args.a.now
    record { over = c.requires.m_over; trimmed = c.degree.ensures.trimmed }
    record { over = c.requires.a_over; trimmed = c.requires.a_trimmed }
    c.steps.rest c.in-Some.quotient c.steps.count c.steps.invariant
    (subst (λ x. IfSome x (IsOver o)) e q.over) (subst (λ x. IfSome x (IsTrimmed 0)) e q.trimmed)
    (subst (λ x. IfSome x (λ t. IsProduct o t c.args.m.now c.steps.rest)) e q.value) c.requires.m_degree
