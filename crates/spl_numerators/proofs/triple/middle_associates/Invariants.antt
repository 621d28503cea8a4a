use Rattle.std.proofs.Common.{ℕ, ◌<◌}
use Rattle.theory_tables.specs.Structure.{AssociatesAt}
use Rattle.spl_fraction.specs.FractionsOver.{fractions_over}
use Rattle.spl_fraction.specs.Fractions.{field_of}
use Rattle.spl_numerators.proofs.triple.middle_associates.Given as goal

abbrev pub invariant-loop-first : goal.invariant-loop-first
invariant-loop-first l = (i k : ℕ) → i < l.first → k < l.a.dim
    → AssociatesAt (fractions_over (field_of l.f)) l.a i l.j k
