use Rattle.spl_table.proofs.TableOrFault.{each_text}
use Rattle.spl_table.proofs.laws.each_text_has_a_table_or_a_refusal.Goals as goal

pub returns : goal.returns
returns c = each_text
