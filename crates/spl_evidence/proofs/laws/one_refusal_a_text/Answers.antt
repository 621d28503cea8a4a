use Rattle.spl_evidence.proofs.TextLaws.{refusal_unique}
use Rattle.spl_evidence.proofs.laws.one_refusal_a_text.Goals as goal

pub returns : goal.returns
returns c = λ n first bytes r s few. refusal_unique c.args.f.now n few bytes first r s
