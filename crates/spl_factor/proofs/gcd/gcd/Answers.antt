use Rattle.spl_field.specs.SmallField.{small_ops, small_laws}
use Rattle.theory_remainders.proofs.GcdLists.{same_gcds, same_gcds_next, gcd_at_end}
use Rattle.spl_factor.proofs.Values.{monic_gcd}
use Rattle.spl_factor.proofs.gcd.gcd.Goals as goal

pub steps-init : goal.steps-init
steps-init c =
    let x = c.in_ok-first in
    let y = c.in_ok-second in
    same_gcds (small_ops c.args.f.now) (small_laws c.args.f.now) c.args.a.now c.args.b.now x.first y.second
    record { over = x.ensures.over; trimmed = x.ensures.trimmed }
    record { over = y.ensures.over; trimmed = y.ensures.trimmed } x.ensures.value y.ensures.value c.requires.nonzero

pub steps-preserved : goal.steps-preserved
steps-preserved c =
    let d = c.in_ok-rest in
    same_gcds_next (small_ops c.args.f.now) (small_laws c.args.f.now) c.args.a.now c.args.b.now c.steps.first
    c.steps.second d.field-0.quotient d.field-0.remainder c.steps.invariant
    (λ e. cc (c.is_zero.ensures.1 e, c.steps-test.true)) d.ensures.quotient_over
    record { over = d.ensures.remainder_over; trimmed = d.ensures.remainder_trimmed } d.ensures.value

pub monic-requires-clause-nonzero : goal.monic-requires-clause-nonzero
monic-requires-clause-nonzero c = c.steps.invariant.nonzero

pub returns : goal.returns
returns c =
    let r = c.in_ok-monic in
    monic_gcd c.args.f.now c.steps.first r.field-0 c.steps.invariant.first
    record { over = r.ensures.over; trimmed = r.ensures.trimmed } c.steps.invariant.nonzero r.ensures.value
    c.args.a.now c.args.b.now
    (gcd_at_end (small_ops c.args.f.now) (small_laws c.args.f.now) c.args.a.now c.args.b.now c.steps.first
    c.steps.second c.steps.invariant (c.is_zero.ensures.0 c.steps-test.false))
