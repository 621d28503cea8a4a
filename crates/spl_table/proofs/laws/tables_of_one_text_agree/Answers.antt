use Rattle.spl_table.proofs.Agreement.Tables.{tables_agree}
use Rattle.spl_table.proofs.laws.tables_of_one_text_agree.Goals as goal

pub returns : goal.returns
returns c = tables_agree
