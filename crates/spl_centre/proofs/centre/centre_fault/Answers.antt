use Rattle.spl_centre.proofs.centre.centre_fault.Goals as goal

pub returns-then-branch : goal.returns-then-branch
returns-then-branch c =
    let h = c.requires.identity in
    c.in_ok-is_shown.ensures c.if-branch.true h.one h.is_one
