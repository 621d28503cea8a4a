use Rattle.std.proofs.Common.{subst, IfSome}
use Rattle.spl_field.specs.SmallField.{small_ops, small_laws}
use Rattle.theory_fractions.specs.PolynomialLists.{IsPolynomialList, IsProduct, Divides}
use Rattle.theory_left_orders.proofs.IntegralQuotients.{no_power, power-nonzero, one_more_power, less_left}
use Rattle.theory_left_orders.proofs.IntegralQuotients.{divides_of_integral, integral_of_divides}
use Rattle.spl_order.proofs.place_parts.place_part.Goals as goal

pub steps-init : goal.steps-init
steps-init c = no_power (small_ops c.args.f.now) (small_laws c.args.f.now) c.args.m.now c.requires.m c.args.s.now
    c.requires.s c.requires.nonzero c.in_ok-part.part c.in_ok-part.ensures.value

pub next_part-requires-clause-part : goal.next_part-requires-clause-part
next_part-requires-clause-part c = c.steps.invariant.polynomial

pub next_part-requires-clause-part_nonzero : goal.next_part-requires-clause-part_nonzero
next_part-requires-clause-part_nonzero c = power-nonzero (small_ops c.args.f.now) (small_laws c.args.f.now) c.args.m.now
    c.requires.m c.args.s.now c.requires.s c.requires.nonzero c.steps.part c.steps.invariant

pub steps-smaller : goal.steps-smaller
steps-smaller c =
    let o = small_ops c.args.f.now in
    let q = c.in_ok-next.ensures in
    let e = c.in-Some.is in
    less_left o (small_laws c.args.f.now) c.args.m.now c.requires.m c.args.s.now c.requires.s c.requires.nonzero
    c.steps.part c.steps.invariant c.in-Some.next (subst (λ x. IfSome x (IsPolynomialList o)) e q.polynomial)
    (subst (λ x. IfSome x (IsProduct o c.steps.part c.args.m.now)) e q.value)
    (subst (λ x. IfSome x (λ t. Divides o t c.args.s.now)) e q.divides)

pub steps-preserved : goal.steps-preserved
steps-preserved c =
    let o = small_ops c.args.f.now in
    let q = c.in_ok-next.ensures in
    let e = c.in-Some.is in
    one_more_power o (small_laws c.args.f.now) c.args.m.now c.requires.m c.args.s.now c.requires.s c.requires.nonzero
    c.steps.part c.steps.invariant c.in-Some.next (subst (λ x. IfSome x (IsPolynomialList o)) e q.polynomial)
    (subst (λ x. IfSome x (IsProduct o c.steps.part c.args.m.now)) e q.value)
    (subst (λ x. IfSome x (λ t. Divides o t c.args.s.now)) e q.divides)

pub returns : goal.returns
returns c =
    let o = small_ops c.args.f.now in
    let L = small_laws c.args.f.now in
    let last = c.in_ok-next.ensures.none c.in_default.is in
    record {
      polynomial = c.steps.invariant.polynomial;
      nonzero = power-nonzero o L c.args.m.now c.requires.m c.args.s.now c.requires.s c.requires.nonzero c.steps.part
          c.steps.invariant;
      tells = λ u hu. (
        integral_of_divides o L c.args.m.now c.requires.m c.args.s.now c.requires.s c.requires.nonzero c.steps.part
            c.steps.invariant last u hu,
        divides_of_integral o L c.args.m.now c.requires.m c.args.s.now c.requires.s c.requires.nonzero c.steps.part
            c.steps.invariant last u hu,
      );
    }
