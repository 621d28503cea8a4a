use Rattle.theory_growth.proofs.Elsewhere.{steps_keep_other_places, own_dual_is_kept}
use Rattle.theory_growth.proofs.growth_laws.steps_keep_other_places.Goals as goal

pub returns-clause-same : goal.returns-clause-same
returns-clause-same g c = let f = g.F.ProgramField in steps_keep_other_places f.ops f.laws

pub returns-clause-dual : goal.returns-clause-dual
returns-clause-dual g c = let f = g.F.ProgramField in own_dual_is_kept f.ops f.laws
