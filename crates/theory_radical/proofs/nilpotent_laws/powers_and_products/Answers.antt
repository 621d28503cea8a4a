use Rattle.theory_radical.proofs.IdealPowers.{power_vanishes, products_vanish}
use Rattle.theory_radical.proofs.nilpotent_laws.powers_and_products.Goals as goal

pub returns : goal.returns
returns g c = λ ideal e.
    let a = g.J.AlgebraSubset in
    (products_vanish a.algebra.ring a.Subset e, power_vanishes a.algebra.ring a.Subset ideal.zero_in e)
