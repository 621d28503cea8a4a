use Rattle.spl_engine.proofs.Findings.{of_ramified}
use Rattle.spl_engine.proofs.decide.of_no_fault.Goals as goal

pub returns-in-Ramified : goal.returns-in-Ramified
returns-in-Ramified c =
    let r = c.in-Ramified in
    of_ramified c.args.table.now r.place r.order r.radical c.requires.no_fault
    (rw r.is at c.in_ok-place.ensures.everywhere)
