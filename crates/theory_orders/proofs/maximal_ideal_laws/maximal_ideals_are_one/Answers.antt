use Rattle.theory_orders.proofs.Ideals.OnlyMaximal.{same_in_family}
use Rattle.theory_orders.proofs.maximal_ideal_laws.maximal_ideals_are_one.Goals as goal

pub returns : goal.returns
returns g c = λ ct v D I over S left.
    let f = g.F.IdealFamily in
    same_in_family f.field f.valuation f.p f.q f.uniformizer f.algebra f.dimension f.basis v D ct f.Ideal I over S left
