use Rattle.std.proofs.Common.{arith}
use Rattle.spl_field.proofs.LawOrder.{number_of_lt, all_hold}
use Rattle.spl_field.proofs.laws.check_laws.Goals as goal

pub returns-clause-ok : goal.returns-clause-ok
returns-clause-ok c =
    let t = c.args.tables.now in
    all_hold t.size t.sum t.product (λ l. let h = number_of_lt l in c.loop-number.invariant l (omega arith))
