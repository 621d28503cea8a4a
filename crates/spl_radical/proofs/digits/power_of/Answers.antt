use Rattle.std.proofs.Common.{arith}
use Rattle.spl_radical.proofs.Steps.{first_power, next_power, power_fits}
use Rattle.spl_radical.proofs.digits.power_of.Goals as goal

pub loop-i-init : goal.loop-i-init
loop-i-init c = first_power c.args.p

pub overflow_mul-power : goal.overflow_mul-power
overflow_mul-power c =
    let h = power_fits c.args.p c.args.l c.loop-i.i c.loop-i.power c.requires.least c.requires.most c.loop-i-test.true
    c.loop-i.invariant in
    omega arith

pub loop-i-preserved : goal.loop-i-preserved
loop-i-preserved c = next_power c.args.p c.loop-i.i c.loop-i.power c.loop-i.invariant
