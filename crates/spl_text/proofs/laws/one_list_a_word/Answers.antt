use Rattle.spl_text.proofs.NumberLists.{numbers_unique}
use Rattle.spl_text.proofs.laws.one_list_a_word.Goals as goal

pub returns : goal.returns
returns c = numbers_unique
