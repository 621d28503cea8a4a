use Rattle.spl_text.proofs.Decisions.{number_decided, numbers_decided, list_decided, fraction_decided}
use Rattle.spl_text.proofs.laws.each_word_spells_or_not.Goals as goal

pub returns : goal.returns
returns c = record {
  number = number_decided;
  numbers = numbers_decided;
  list = list_decided;
  fraction = fraction_decided;
}
