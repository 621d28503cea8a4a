use Rattle.spl_table.proofs.TextLaws.{no_table_fault}
use Rattle.spl_table.proofs.laws.no_text_has_both.Goals as goal

pub returns : goal.returns
returns c = λ extent bytes t r refusal is refused. no_table_fault extent bytes t r is refusal refused
