use Rattle.std.proofs.Common.{◌≡◌, ◌*◌, ◌^◌, ap, arith}
use Rattle.spl_radical.proofs.DigitElements.{term_fits, place_fits}
use Rattle.spl_radical.proofs.roots.coefficient_of.Goals as goal

pub overflow_mul-sum-in-loop-v : goal.overflow_mul-sum-in-loop-v
overflow_mul-sum-in-loop-v c =
    let l = c.loop-v in
    let h = term_fits c.args.p c.args.d c.args.power c.args.numbers.now c.args.u c.requires.base c.requires.small l.v
    l.place l.sum c.loop-v-test.true l.invariant.place l.invariant.value in
    omega arith

pub overflow_add-sum-in-loop-v : goal.overflow_add-sum-in-loop-v
overflow_add-sum-in-loop-v c =
    let l = c.loop-v in
    let h = term_fits c.args.p c.args.d c.args.power c.args.numbers.now c.args.u c.requires.base c.requires.small l.v
    l.place l.sum c.loop-v-test.true l.invariant.place l.invariant.value in
    omega arith

pub overflow_mul-place : goal.overflow_mul-place
overflow_mul-place c =
    let l = c.loop-v in
    let h = place_fits c.args.p c.args.d l.v c.requires.base c.requires.small c.loop-v-test.true in
    let e : l.place * c.args.p ≡ c.args.p ^ l.v * c.args.p = ap (λ x. x * c.args.p) l.invariant.place in
    omega arith
