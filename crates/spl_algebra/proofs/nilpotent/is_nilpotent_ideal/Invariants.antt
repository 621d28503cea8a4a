use Rattle.std.proofs.Common.{◌≡◌, length}
use Rattle.theory_tables.specs.Subspace.{IsReducedBasis}
use Rattle.spl_algebra.proofs.SquareIdeals.{IsIteratedSquare}
use Rattle.spl_algebra.proofs.nilpotent.is_nilpotent_ideal.Given as goal

abbrev pub invariant-squares : goal.invariant-squares
invariant-squares g l = let o = g.F.Field.ops l.f in record {
  basis : IsReducedBasis o l.a.dim l.power.rows;
  wide : l.power.width ≡ l.a.dim;
  square : IsIteratedSquare o l.a l.ideal.rows l.power.rows;
}

abbrev pub decreases-squares : goal.decreases-squares
decreases-squares g l = length l.power.rows
