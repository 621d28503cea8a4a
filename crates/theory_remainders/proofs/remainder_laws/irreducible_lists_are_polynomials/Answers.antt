use Rattle.theory_remainders.proofs.IrreducibleLists.{irreducible_polynomial, irreducible_list}
use Rattle.theory_remainders.proofs.remainder_laws.irreducible_lists_are_polynomials.Goals as goal

pub returns : goal.returns
returns g c = let f = g.F.ProgramField in
    λ m h. (irreducible_polynomial f.ops f.laws m h, irreducible_list f.ops f.laws m h)
