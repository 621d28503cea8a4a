use Rattle.spl_field.specs.SmallField.{small_ops, small_laws}
use Rattle.theory_remainders.proofs.CoprimeLists.{same_divisors, same_divisors_next, coprime_iff_constant}
use Rattle.spl_residue.proofs.coprime.are_coprime.Goals as goal

pub steps-init : goal.steps-init
steps-init c =
    let x = c.in_ok-first in
    let y = c.in_ok-second in
    same_divisors (small_ops c.args.f.now) (small_laws c.args.f.now) c.args.a.now c.args.b.now x.first y.second
    record { over = x.ensures.over; trimmed = x.ensures.trimmed }
    record { over = y.ensures.over; trimmed = y.ensures.trimmed } x.ensures.value y.ensures.value

pub steps-preserved : goal.steps-preserved
steps-preserved c =
    let d = c.in_ok-rest in
    same_divisors_next (small_ops c.args.f.now) (small_laws c.args.f.now) c.args.a.now c.args.b.now c.steps.first
    c.steps.second d.field-0.quotient d.field-0.remainder c.steps.invariant d.ensures.quotient_over
    record { over = d.ensures.remainder_over; trimmed = d.ensures.remainder_trimmed } d.ensures.value

pub returns : goal.returns
returns c =
    let h = coprime_iff_constant (small_ops c.args.f.now) (small_laws c.args.f.now) c.args.a.now c.args.b.now
    c.steps.first c.steps.second c.steps.invariant (c.is_zero.ensures.0 c.steps-test.false) in
    let t = c.is_constant.ensures in
    (λ e. h.0 (t.0 e), λ e. t.1 (h.1 e))
