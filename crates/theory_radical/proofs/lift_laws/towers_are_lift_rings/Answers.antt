use Rattle.theory_radical.proofs.Lifts.Towers.{tower_down, tower_down_coefficientwise, tower_lift, tower_times-modulus}
use Rattle.theory_radical.proofs.Lifts.Towers.{lifted_tower, lifted_tower_reduces, lifted_tower_numbers}
use Rattle.theory_radical.proofs.lift_laws.towers_are_lift_rings.Goals as goal

pub returns-clause-lift : goal.returns-clause-lift
returns-clause-lift c = λ p n two_le two_le_pow T k reduces. (
  tower_down p n two_le two_le_pow T k reduces,
  tower_down_coefficientwise p n two_le two_le_pow T k reduces,
  tower_lift p n two_le two_le_pow T k reduces,
  tower_times-modulus p n two_le two_le_pow T,
)

pub returns-clause-exists : goal.returns-clause-exists
returns-clause-exists c = λ p n two_le two_le_pow k. (
  lifted_tower p n two_le two_le_pow k,
  lifted_tower_reduces p n two_le two_le_pow k,
  lifted_tower_numbers p n two_le two_le_pow k,
)
