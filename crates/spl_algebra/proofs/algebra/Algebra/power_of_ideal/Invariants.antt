use Rattle.std.proofs.Common.{◌≡◌, ◌-◌}
use Rattle.theory_tables.specs.Subspace.{IsReducedBasis}
use Rattle.theory_tables.specs.Powers.{SpansPower}
use Rattle.spl_algebra.proofs.algebra.Algebra.power_of_ideal.Given as goal

abbrev pub invariant-loop-e : goal.invariant-loop-e
invariant-loop-e g l = let o = g.F.Field.ops l.f in record {
  basis : IsReducedBasis o l.m l.power.rows;
  wide : l.power.width ≡ l.m;
  spans : SpansPower o (record { dim = l.m; constants = l.constants }) l.ideal.rows (l._e - 1) l.power.rows;
}
