use Rattle.spl_table.proofs.OneRefusal.{refusal_unique}
use Rattle.spl_table.proofs.laws.one_refusal_a_text.Goals as goal

pub returns : goal.returns
returns c = λ extent bytes. refusal_unique bytes extent
