use Rattle.theory_division.proofs.Groups.{orbit_stabilizer}
use Rattle.theory_division.proofs.ClassEquation as classes
use Rattle.theory_division.proofs.group_laws.class_equation.Goals as goal

pub returns-clause-classes : goal.returns-clause-classes
returns-clause-classes g c = let f = g.G.FiniteGroup in orbit_stabilizer f.group f.members

pub returns-clause-whole : goal.returns-clause-whole
returns-clause-whole g c = let f = g.G.FiniteGroup in classes.class_equation f.group f.members
