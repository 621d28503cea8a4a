use Rattle.spl_radical.specs.LiftNumbers.{residues_of, level_of}
use Rattle.spl_radical.specs.LiftMatrices.{AreLiftedRows}
use Rattle.spl_radical.proofs.matrices.lifted_rows.Given as goal

abbrev pub invariant-loop-i : goal.invariant-loop-i
invariant-loop-i l = AreLiftedRows (residues_of l.ring) (level_of l.ring) l.left l.i l.out
