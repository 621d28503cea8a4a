use Rattle.std.proofs.Common.{ℕ, ◌<◌}
use Rattle.theory_tables.specs.Structure.{AssociatesAt}
use Rattle.spl_fraction.specs.FractionsOver.{fractions_over}
use Rattle.spl_fraction.specs.Fractions.{field_of}
use Rattle.spl_numerators.proofs.triple.first_third.Given as goal

abbrev pub invariant-loop-k : goal.invariant-loop-k
invariant-loop-k l = (k : ℕ) → k < l.k → AssociatesAt (fractions_over (field_of l.f)) l.a l.i l.j k
