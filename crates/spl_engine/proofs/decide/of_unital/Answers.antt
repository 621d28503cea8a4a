use Rattle.std.proofs.Common.{ℕ, subst₂}
use Rattle.theory_fractions.specs.Fraction.{Pair}
use Rattle.spl_fraction.specs.Fractions.{field_of}
use Rattle.spl_fraction.specs.FractionsOver.{fractions_over}
use Rattle.spl_fraction.specs.declared.field.Fractions.{Fractions}
use Rattle.theory_tables.specs.Structure.{Structure}
use Rattle.theory_tables.specs.Claims.{CentralClaim}
use Rattle.spl_engine.proofs.Findings.{of_central}
use Rattle.spl_engine.proofs.decide.of_unital.Goals as goal

pub returns-in-Some : goal.returns-in-Some
returns-in-Some c =
    of_central c.args.table.now c.in-Some.tuple c.requires.associative
    (record { one = c.args.one.now; is_one = c.requires.one })
    (subst₂ (λ (f : Fractions) (A : Structure (Pair ℕ)). CentralClaim
    (fractions_over (field_of f)) A c.in-Some.tuple)
    c.fractions.ensures c.algebra.ensures.algebra (rw c.in-Some.is at c.in_ok-tuple.ensures))
