use Rattle.std.proofs.Common.{arith}
use Rattle.spl_radical.proofs.DigitElements.{number_fits}
use Rattle.spl_radical.proofs.roots.coefficients_of.Goals as goal

pub overflow_cast-coefficient_of : goal.overflow_cast-coefficient_of
overflow_cast-coefficient_of c =
    let h = number_fits c.args.p c.args.d c.args.power c.args.numbers.now c.loop-u.u c.requires.base c.requires.small
    c.coefficient_of.result c.coefficient_of.ensures in
    omega arith
