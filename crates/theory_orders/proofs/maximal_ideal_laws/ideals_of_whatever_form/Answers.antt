use Rattle.theory_orders.proofs.EverySet.{radical_holds, simple_holds, only_holds}
use Rattle.theory_orders.proofs.maximal_ideal_laws.ideals_of_whatever_form.Goals as goal

pub returns-clause-radical : goal.returns-clause-radical
returns-clause-radical g c =
    let f = g.F.IdealFamily in
    radical_holds f.field f.valuation f.p f.q f.uniformizer f.algebra f.dimension f.basis f.Ideal

pub returns-clause-simple : goal.returns-clause-simple
returns-clause-simple g c =
    let f = g.F.IdealFamily in
    simple_holds f.field f.valuation f.p f.q f.uniformizer f.algebra f.dimension f.basis f.Ideal

pub returns-clause-only : goal.returns-clause-only
returns-clause-only g c =
    let f = g.F.IdealFamily in
    only_holds f.field f.valuation f.p f.q f.uniformizer f.algebra f.dimension f.basis f.Ideal
