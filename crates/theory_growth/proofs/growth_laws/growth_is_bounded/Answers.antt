use Rattle.theory_growth.proofs.Bounds.{bounds_exist}
use Rattle.theory_growth.proofs.ClearedDuals.{dual_is_carried_by_square}
use Rattle.theory_growth.proofs.DegreeBounds.{bound_by_degree}
use Rattle.theory_growth.proofs.DualTuples.{dual_basis_is_carried}
use Rattle.theory_growth.proofs.Elsewhere.{growths_fall}
use Rattle.theory_growth.proofs.growth_laws.growth_is_bounded.Goals as goal

pub returns-clause-exists : goal.returns-clause-exists
returns-clause-exists g c = let f = g.F.ProgramField in bounds_exist f.ops f.laws

pub returns-clause-degree : goal.returns-clause-degree
returns-clause-degree g c = let f = g.F.ProgramField in bound_by_degree f.ops f.laws

pub returns-clause-carries : goal.returns-clause-carries
returns-clause-carries g c = let f = g.F.ProgramField in dual_basis_is_carried f.ops f.laws

pub returns-clause-square : goal.returns-clause-square
returns-clause-square g c = let f = g.F.ProgramField in dual_is_carried_by_square f.ops f.laws

pub returns-clause-falls : goal.returns-clause-falls
returns-clause-falls g c = let f = g.F.ProgramField in growths_fall f.ops f.laws
