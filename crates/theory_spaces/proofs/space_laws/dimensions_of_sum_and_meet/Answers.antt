use Rattle.theory_spaces.proofs.Linear.Subspaces.{sum_and_meet}
use Rattle.theory_spaces.proofs.space_laws.dimensions_of_sum_and_meet.Goals as goal

pub returns : goal.returns
returns g c = let t = g.T.TwoSubspaces in sum_and_meet t.field t.space t.size t.coords t.Left t.Right t.left t.right
