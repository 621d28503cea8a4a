use Rattle.std.proofs.Common.{◌≡◌, ◌-◌, length}
use Rattle.theory_tables.specs.Subspace.{IsReducedBasis}
use Rattle.spl_algebra.specs.Multiples.{HoldsMultiples, IsBetween}
use Rattle.spl_algebra.proofs.algebra.Algebra.ideal_generated.Given as goal

abbrev pub invariant-loop-constants : goal.invariant-loop-constants
invariant-loop-constants g l = let o = g.F.Field.ops l.f in record {
  between : IsBetween o l.m l.constants l.by.rows l.ideal.rows;
  wide : l.ideal.width ≡ l.m;
  next_basis : IsReducedBasis o l.m l.next.rows;
  next_wide : l.next.width ≡ l.m;
  multiples : HoldsMultiples o l.m l.constants (length l.ideal.rows) l.ideal.rows l.next.rows;
}

abbrev pub decreases-loop-constants : goal.decreases-loop-constants
decreases-loop-constants g l = l.m - length l.ideal.rows
