use Rattle.theory_division.proofs.Groups.{are_conjugate-sound, are_conjugate-complete, is_central-sound}
use Rattle.theory_division.proofs.Groups.{is_central-complete}
use Rattle.theory_division.proofs.group_laws.conjugate_and_central.Goals as goal

pub returns-clause-conjugate : goal.returns-clause-conjugate
returns-clause-conjugate g c = λ x y.
    let f = g.G.FiniteGroup in (are_conjugate-sound f.group f.members x y, are_conjugate-complete f.group f.members x y)

pub returns-clause-central : goal.returns-clause-central
returns-clause-central g c = λ x. let f = g.G.FiniteGroup in
    (is_central-sound f.group f.members x, is_central-complete f.group f.members x)
