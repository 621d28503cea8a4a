use Rattle.spl_text.proofs.Words.{number_unique}
use Rattle.spl_text.proofs.laws.one_number_a_word.Goals as goal

pub returns : goal.returns
returns c = number_unique
