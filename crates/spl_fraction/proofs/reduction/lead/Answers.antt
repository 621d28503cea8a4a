use Rattle.spl_fraction.proofs.Leads.{lead_nonzero}
use Rattle.spl_fraction.proofs.reduction.lead.Goals as goal

pub returns-clause-nonzero : goal.returns-clause-nonzero
returns-clause-nonzero c =
    let place = rw c.unwrap-degree.ensures at c.degree.ensures.degree in
    let read = rw c.unwrap.ensures at c.coefficient.ensures.some in
    lead_nonzero c.args.a.now c.unwrap-degree.result c.unwrap.result.now c.degree.ensures.trimmed place read.1
