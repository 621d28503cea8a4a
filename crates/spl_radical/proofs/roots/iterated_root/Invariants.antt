use Rattle.std.specs.Prelude.{◌≡◌, ◌^◌}
use Rattle.theory_rings.specs.Ops.{IsElem}
use Rattle.theory_rings.specs.Power.{power_of}
use Rattle.spl_residue.specs.Residue.{residue_ops}
use Rattle.spl_radical.specs.LiftRing.{prime_of}
use Rattle.spl_radical.proofs.roots.iterated_root.Given as goal

abbrev pub invariant-loop-i : goal.invariant-loop-i
invariant-loop-i l = record {
  elem : IsElem (residue_ops l.k) l.root;
  value : power_of (residue_ops l.k) l.root (prime_of l.k ^ l._i) ≡ l.fn.a;
}
