use Rattle.theory_pairs.proofs.Isomorphisms.{has_degree_along, polynomials_along}
use Rattle.theory_pairs.proofs.isomorphism_laws.degree_along_isomorphism.Goals as goal

pub returns-clause-exists : goal.returns-clause-exists
returns-clause-exists g c =
    let i = g.I.DegreeAlongIsomorphism in has_degree_along i.source i.target i.map i.isomorphism i.degree

pub returns-clause-polynomials : goal.returns-clause-polynomials
returns-clause-polynomials g c = λ W along.
    let i = g.I.DegreeAlongIsomorphism in
    polynomials_along i.source i.target i.map i.isomorphism i.degree W along i.Weight i.constants i.embed i.powers
    i.polynomials
