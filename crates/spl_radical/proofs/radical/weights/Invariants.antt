use Rattle.std.specs.Prelude.{◌<◌, ℕ, [], get_or}
use Rattle.theory_rings.specs.Sum.{at}
use Rattle.theory_spaces.specs.Tuples.{IsTuple}
use Rattle.theory_chains.specs.PivotItems.{IsPivotItem}
use Rattle.spl_residue.specs.Residue.{residue_ops}
use Rattle.spl_radical.specs.LiftNumbers.{level_of}
use Rattle.spl_radical.specs.Radical.{IsTraceRoot}
use Rattle.spl_radical.proofs.radical.weights.Given as goal

abbrev pub invariant-loop-j : goal.invariant-loop-j
invariant-loop-j l = record {
  elem : IsTuple (residue_ops l.k) l.j l.items;
  each : (c : ℕ) → c < l.j → IsPivotItem (residue_ops l.k).zero l.pivots
      (λ s. IsTraceRoot l.k (level_of l.ring) l.b l.i (get_or l.rows.rows s [])) c (at (residue_ops l.k) l.items c);
}
