use Rattle.spl_centre.proofs.centre.centre_fault_from.Goals as goal

pub returns-then-branch : goal.returns-then-branch
returns-then-branch c =
    c.in_ok-is_shown.ensures c.if-branch.true c.args.one.now c.requires.one
