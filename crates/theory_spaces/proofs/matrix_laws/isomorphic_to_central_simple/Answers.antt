use Rattle.theory_spaces.proofs.Algebras.Isomorphisms.{iso_basis, iso_central, iso_simple, iso_central_simple}
use Rattle.theory_spaces.proofs.matrix_laws.isomorphic_to_central_simple.Goals as goal

pub returns-clause-central_simple : goal.returns-clause-central_simple
returns-clause-central_simple g c = let i = g.I.AlgebraIso in iso_central_simple i.source i.target i.map i.isomorphism

pub returns-clause-simple : goal.returns-clause-simple
returns-clause-simple g c = let i = g.I.AlgebraIso in iso_simple i.source i.target i.map i.isomorphism

pub returns-clause-central : goal.returns-clause-central
returns-clause-central g c = let i = g.I.AlgebraIso in iso_central i.source i.target i.map i.isomorphism

pub returns-clause-basis : goal.returns-clause-basis
returns-clause-basis g c = let i = g.I.AlgebraIso in iso_basis i.source i.target i.map i.isomorphism
