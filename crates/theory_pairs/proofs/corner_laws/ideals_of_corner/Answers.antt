use Rattle.theory_pairs.proofs.CornerIdeals.{ideal_into, ideal_back}
use Rattle.theory_pairs.proofs.corner_laws.ideals_of_corner.Goals as goal

pub returns-clause-into : goal.returns-clause-into
returns-clause-into g c = let a = g.C.CornerWithSet in
    ideal_into a.algebra a.idempotent a.squared a.corner a.inclusion a.is_corner a.Set

pub returns-clause-back : goal.returns-clause-back
returns-clause-back g c = let a = g.C.CornerWithSet in
    ideal_back a.algebra a.idempotent a.squared a.corner a.inclusion a.is_corner a.Set
