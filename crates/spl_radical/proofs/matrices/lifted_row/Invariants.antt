use Rattle.spl_radical.specs.LiftNumbers.{residues_of, level_of}
use Rattle.spl_radical.specs.LiftMatrices.{IsLiftedRow}
use Rattle.spl_radical.proofs.matrices.lifted_row.Given as goal

abbrev pub invariant-loop-j : goal.invariant-loop-j
invariant-loop-j l = IsLiftedRow (residues_of l.ring) (level_of l.ring) l.row l.j l.out
