use Rattle.std.specs.List.{All}
use Rattle.theory_spaces.specs.Tuples.{IsTuple}
use Rattle.spl_fraction.specs.Fractions.{field_of}
use Rattle.spl_fraction.specs.FractionsOver.{fractions_over}
use Rattle.spl_calls.proofs.evidences.tuples.Given as goal

abbrev pub invariant-loop-part : goal.invariant-loop-part
invariant-loop-part l = All (IsTuple (fractions_over (field_of l.k)) l.m) l.tuples
