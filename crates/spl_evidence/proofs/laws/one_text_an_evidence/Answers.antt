use Rattle.std.proofs.Common.{refl}
use Rattle.spl_evidence.specs.Evidence.{evidence_text}
use Rattle.spl_evidence.proofs.laws.one_text_an_evidence.Goals as goal

pub returns : goal.returns
returns c = λ n e fits. (evidence_text n e, record { fits = fits; spelled = refl }, λ others h. h.spelled)
