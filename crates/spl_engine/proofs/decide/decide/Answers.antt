use Rattle.spl_engine.proofs.Findings.{of_triple}
use Rattle.spl_engine.proofs.decide.decide.Goals as goal

pub returns-in-Some : goal.returns-in-Some
returns-in-Some c = of_triple c.args.table.now c.in-Some.t (rw c.in-Some.is at c.in_ok-t.ensures)
