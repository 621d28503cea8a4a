use Rattle.std.proofs.Common.{subst, arith, ◌≡◌, ◌+◌, suc, length, ap}
use Rattle.spl_factor.proofs.Quotients.{length_part}
use Rattle.spl_factor.proofs.Splits.{AreTried, none_tried, one_more_tried, not_all_tried, trace_fixed_modulo}
use Rattle.spl_factor.proofs.splitting.splitting_element.Goals as goal

pub loop-init : goal.loop-init
loop-init c = none_tried c.args.f.now c.args.degree c.args.g.now c.in_ok-z.z c.in_ok-z.ensures

pub trace-requires-clause-modulus : goal.trace-requires-clause-modulus
trace-requires-clause-modulus c = c.requires.part.polynomial

pub trace-requires-clause-positive : goal.trace-requires-clause-positive
trace-requires-clause-positive c =
    let l = length_part c.args.f.now c.args.degree c.args.g.now c.requires.part in
    let a = c.requires.long in
    let b = c.requires.degree in
    omega arith

pub trace-requires-clause-polynomial : goal.trace-requires-clause-polynomial
trace-requires-clause-polynomial c = c.loop.invariant.polynomial

pub trace-requires-clause-smaller : goal.trace-requires-clause-smaller
trace-requires-clause-smaller c =
    let l = length_part c.args.f.now c.args.degree c.args.g.now c.requires.part in
    let k = c.loop.invariant.length_is in
    let t = c.loop-test.true in
    let e = c.degree_of-end.ensures in
    omega arith

pub returns-then-as_slice-gt1-clause-fixed : goal.returns-then-as_slice-gt1-clause-fixed
returns-then-as_slice-gt1-clause-fixed c =
    let t = c.in_ok-t in
    trace_fixed_modulo c.args.f.now c.args.degree c.args.g.now c.loop.z t.t c.requires.part
    c.loop.invariant.polynomial t.ensures.polynomial t.ensures.value

pub loop-preserved : goal.loop-preserved
loop-preserved c =
    let t = c.in_ok-t in
    let w = c.in_ok-z-2 in
    let short = c.if-as_slice-gt1.false in
    let same = ap length c.as_slice.ensures in
    let e : suc c.loop.counter ≡ c.loop.counter + 1 = omega arith in
    subst (λ n. AreTried c.args.f.now c.args.degree c.args.g.now n w.z) e
    (one_more_tried c.args.f.now c.args.degree c.args.g.now c.loop.counter c.loop.z t.t c.in_ok-x.x w.z
    c.loop.invariant t.ensures.polynomial t.ensures.value (omega arith) c.in_ok-x.ensures
    record { over = w.ensures.over; trimmed = w.ensures.trimmed } w.ensures.value)

pub unreachable-requires : goal.unreachable-requires
unreachable-requires c =
    let past = c.loop-test.false in
    let e = c.degree_of-end.ensures in
    not_all_tried c.args.f.now c.args.degree c.args.g.now c.loop.counter c.loop.z c.requires.part c.requires.degree
    c.requires.long (omega arith) c.loop.invariant
