use Rattle.spl_evidence.proofs.TextLaws.{evidence_unique}
use Rattle.spl_evidence.proofs.laws.one_evidence_a_text.Goals as goal

pub returns : goal.returns
returns c = λ n bytes e g few. evidence_unique c.args.f.now n few bytes e g
