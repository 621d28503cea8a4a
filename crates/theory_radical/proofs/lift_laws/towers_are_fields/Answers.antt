use Rattle.theory_radical.proofs.Lifts.TowerFields.{tower_is_field, tower_numbers, size-tower, tower_roots}
use Rattle.theory_radical.proofs.lift_laws.towers_are_fields.Goals as goal

pub returns-clause-field : goal.returns-clause-field
returns-clause-field c = tower_is_field

pub returns-clause-roots : goal.returns-clause-roots
returns-clause-roots c = λ p two_le k F same.
    (tower_roots p two_le k F same, (tower_numbers p two_le k F same, size-tower p two_le k F same))
