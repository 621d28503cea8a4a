use Rattle.std.proofs.Common.{length}
use Rattle.spl_field.specs.SmallField.{small_ops}
use Rattle.theory_rows.proofs.Lowering.{height}
use Rattle.spl_lattice.proofs.Division.{IsDividing}
use Rattle.spl_lattice.proofs.members.member.Given as goal

abbrev pub invariant-steps : goal.invariant-steps
invariant-steps l = IsDividing (small_ops l.f) (length l.row) l.basis.basis l.row l.coordinates l.rest

abbrev pub decreases-steps : goal.decreases-steps
decreases-steps l = height (length l.row) l.rest
