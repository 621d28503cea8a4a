use Rattle.theory_growth.specs.Growths.{GrowthBound}
use Rattle.spl_field.specs.SmallField.{small_ops, small_laws}
use Rattle.spl_fraction.specs.Fractions.{field_of}
use Rattle.spl_local.specs.Growth.{small_tuples, IsOverorder}
use Rattle.spl_local.proofs.settle.settle.Given as goal

abbrev pub invariant-loop-grown : goal.invariant-loop-grown
invariant-loop-grown l = let f = field_of l.f in record {
  larger : IsOverorder f l.a l.place l.order l.grown;
  bound : GrowthBound (small_ops f) (small_laws f) l.a l.place (small_tuples f l.grown) l.left;
}

abbrev pub decreases-loop-grown : goal.decreases-loop-grown
decreases-loop-grown l = l.left
