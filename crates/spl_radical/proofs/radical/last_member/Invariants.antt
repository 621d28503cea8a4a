use Rattle.std.specs.Prelude.{◌≡◌, suc}
use Rattle.theory_tables.specs.Subspace.{IsSubspace}
use Rattle.spl_residue.specs.Residue.{residue_ops}
use Rattle.spl_radical.specs.LiftNumbers.{level_of}
use Rattle.spl_radical.specs.Radical.{SpansChainMember}
use Rattle.spl_radical.proofs.radical.last_member.Given as goal

abbrev pub invariant-loop-i : goal.invariant-loop-i
invariant-loop-i l = record {
  basis : IsSubspace (residue_ops l.k) l.member;
  width : l.member.width ≡ l.b.dim;
  spans : SpansChainMember l.k (level_of l.ring) l.b (suc l.i) l.member.rows;
}
