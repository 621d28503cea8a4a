use Rattle.spl_cli.proofs.Answering.{fits_of_evidence}
use Rattle.spl_cli.proofs.run.evidence_on.Goals as goal

pub write_evidence-requires-clause-fits : goal.write_evidence-requires-clause-fits
write_evidence-requires-clause-fits c =
    fits_of_evidence c.args.table.now c.fractions.result.now c.degree.result c.fractions.ensures c.degree.ensures.degree
    c.in-Some.evidence
    (rw c.in-Some.is at c.in_ok-decide.ensures)
