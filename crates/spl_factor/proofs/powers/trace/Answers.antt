use Rattle.std.proofs.Common.{subst, arith, ◌≡◌, ◌+◌, suc}
use Rattle.spl_factor.specs.Steps.{IsTraceModulo}
use Rattle.spl_factor.proofs.Traces.{AreTerms, first_term, next_term}
use Rattle.spl_factor.proofs.powers.trace.Goals as goal

pub loop-init : goal.loop-init
loop-init c =
    let w = c.in_ok-power in
    let t = c.in_ok-total in
    first_term c.args.f.now c.args.m.now c.args.z.now w.power t.total
    record { over = w.ensures.over; trimmed = w.ensures.trimmed }
    record { over = t.ensures.over; trimmed = t.ensures.trimmed } w.ensures.value t.ensures.value c.requires.smaller

pub raised-requires-clause-polynomial : goal.raised-requires-clause-polynomial
raised-requires-clause-polynomial c = c.loop.invariant.term

pub loop-preserved : goal.loop-preserved
loop-preserved c =
    let v = c.in_ok-power-2 in
    let s = c.in_ok-total-2 in
    let l = c.loop.auto.counter in
    let e : suc c.loop.counter ≡ c.loop.counter + 1 = omega arith in
    subst (λ n. AreTerms c.args.f.now c.args.m.now c.args.z.now n v.power s.total) e
    (next_term c.args.f.now c.args.m.now c.args.z.now c.loop.counter c.loop.power c.loop.total v.power s.total l
    c.loop.invariant v.ensures.polynomial v.ensures.smaller v.ensures.value
    record { over = s.ensures.over; trimmed = s.ensures.trimmed } s.ensures.value)

pub returns-clause-value : goal.returns-clause-value
returns-clause-value c =
    let low = c.loop.auto.counter in
    let high = c.loop.auto.counter-end in
    let past = c.loop-test.false in
    let one = c.requires.degree in
    let e : c.loop.counter ≡ c.args.degree = omega arith in
    subst (λ n. IsTraceModulo c.args.f.now c.args.m.now n c.args.z.now c.loop.total) e c.loop.invariant.trace
