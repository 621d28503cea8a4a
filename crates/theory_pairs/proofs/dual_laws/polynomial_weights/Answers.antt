use Rattle.theory_pairs.proofs.Polynomials.{polynomials_subring, polynomials_have_fractions}
use Rattle.theory_pairs.proofs.dual_laws.polynomial_weights.Goals as goal

pub returns-clause-subring : goal.returns-clause-subring
returns-clause-subring g c =
    let q = g.Q.RationalFunctions in polynomials_subring q.constants q.field q.fractions

pub returns-clause-fractions : goal.returns-clause-fractions
returns-clause-fractions g c =
    let q = g.Q.RationalFunctions in polynomials_have_fractions q.constants q.field q.fractions
