use Rattle.spl_evidence.proofs.TextLaws.{not_both}
use Rattle.spl_evidence.proofs.laws.no_text_has_both.Goals as goal

pub returns : goal.returns
returns c = λ n first bytes e refusal few. not_both c.args.f.now n few bytes first e refusal
