use Rattle.std.proofs.Common.{ℕ, ◌<◌, get_or}
use Rattle.theory_tables.specs.Structure.{AssociatesAt}
use Rattle.spl_fraction.specs.FractionsOver.{fractions_over}
use Rattle.spl_fraction.specs.Fractions.{field_of}
use Rattle.spl_numerators.proofs.triple.middles_associate.Given as goal

abbrev pub invariant-loop-s : goal.invariant-loop-s
invariant-loop-s l = (s i k : ℕ) → s < l.s → i < l.a.dim → k < l.a.dim
    → AssociatesAt (fractions_over (field_of l.f)) l.a i (get_or l.by s 0) k
