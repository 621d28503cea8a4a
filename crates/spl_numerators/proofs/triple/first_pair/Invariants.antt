use Rattle.std.proofs.Common.{ℕ, ◌<◌}
use Rattle.spl_algebra.specs.Triple.{AssociatesAtPair}
use Rattle.spl_fraction.specs.FractionsOver.{fractions_over}
use Rattle.spl_fraction.specs.Fractions.{field_of}
use Rattle.spl_numerators.proofs.triple.first_pair.Given as goal

abbrev pub invariant-loop-j : goal.invariant-loop-j
invariant-loop-j l = (j : ℕ) → j < l.j → AssociatesAtPair (fractions_over (field_of l.f)) l.a l.i j
