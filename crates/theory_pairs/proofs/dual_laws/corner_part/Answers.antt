use Rattle.theory_pairs.proofs.CornerDuals.{corner_members, corner_own}
use Rattle.theory_pairs.proofs.dual_laws.corner_part.Goals as goal

pub returns-clause-members : goal.returns-clause-members
returns-clause-members g c = λ closed le. let a = g.E.IdempotentWithLattice in
    corner_members a.algebra a.idempotent a.squared a.Lattice closed le

pub returns-clause-own_dual : goal.returns-clause-own_dual
returns-clause-own_dual g c = λ comm closed le own.
    let a = g.E.IdempotentWithLattice in
    corner_own a.algebra a.idempotent a.squared a.Lattice closed le a.trace a.Weight comm own
