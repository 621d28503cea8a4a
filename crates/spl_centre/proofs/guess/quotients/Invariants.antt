use Rattle.spl_field.specs.SmallField.{small_ops, small_laws}
use Rattle.spl_fraction.specs.Fractions.{field_of}
use Rattle.spl_centre.proofs.Guesses.{QuotientsBelow}
use Rattle.spl_centre.proofs.guess.quotients.Given as goal

abbrev pub invariant-loop-l : goal.invariant-loop-l
invariant-loop-l l = QuotientsBelow (small_ops (field_of l.f)) (small_laws (field_of l.f)) l.weights l.m l.l l.items
