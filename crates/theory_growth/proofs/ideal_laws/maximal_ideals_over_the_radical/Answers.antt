use Rattle.theory_growth.proofs.Quotients.{maximal_ideals_over_radical, ideals_pulled_back}
use Rattle.theory_growth.proofs.Quotients.{lifted_rows_are_pulled_back, nothing_nilpotent_over_radical}
use Rattle.theory_growth.proofs.Quotients.{maximal_ideals_pulled_back, radical_is_proper}
use Rattle.theory_growth.proofs.ideal_laws.maximal_ideals_over_the_radical.Goals as goal

pub returns : goal.returns
returns g c = record {
  complete = λ o L A. maximal_ideals_over_radical o L A;
  none = λ o L A. nothing_nilpotent_over_radical o L A;
  proper = λ o L A. radical_is_proper o L A;
  ideals = λ o L A. ideals_pulled_back o L A;
  maximal = λ o L A. maximal_ideals_pulled_back o L A;
  rows = λ o L A. lifted_rows_are_pulled_back o L A;
}
