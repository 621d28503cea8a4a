use Rattle.std.proofs.Common.{ℕ, ◌<◌}
use Rattle.spl_algebra.specs.Triple.{AssociatesAtPair}
use Rattle.spl_fraction.specs.FractionsOver.{fractions_over}
use Rattle.spl_fraction.specs.Fractions.{field_of}
use Rattle.spl_numerators.proofs.triple.first_by_numerators.Given as goal

abbrev pub invariant-loop-i : goal.invariant-loop-i
invariant-loop-i l = (i j : ℕ) → i < l.i → j < l.a.dim → AssociatesAtPair (fractions_over (field_of l.f)) l.a i j
