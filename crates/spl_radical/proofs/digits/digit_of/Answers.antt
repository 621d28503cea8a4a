use Rattle.spl_radical.proofs.Steps.{next_quotient}
use Rattle.spl_radical.proofs.digits.digit_of.Goals as goal

pub loop-i-preserved : goal.loop-i-preserved
loop-i-preserved c = next_quotient c.args.p c.args.number c.loop-i.i c.loop-i.rest c.loop-i.invariant
