use Rattle.spl_table.proofs.TextLaws.{table_unique}
use Rattle.spl_table.proofs.laws.one_table_a_text.Goals as goal

pub returns : goal.returns
returns c = table_unique
