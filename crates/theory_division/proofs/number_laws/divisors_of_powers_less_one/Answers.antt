use Rattle.theory_division.proofs.PowersLessOne.{dvd_of_power_less_one}
use Rattle.theory_division.proofs.number_laws.divisors_of_powers_less_one.Goals as goal

pub returns : goal.returns
returns c = dvd_of_power_less_one
