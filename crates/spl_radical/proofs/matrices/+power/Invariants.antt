use Rattle.spl_radical.proofs.matrices.+power.Given as goal

abbrev pub decreases-power : goal.decreases-power
decreases-power l = l.e
