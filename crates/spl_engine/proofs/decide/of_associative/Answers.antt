use Rattle.std.proofs.Common.{ℕ, subst₂}
use Rattle.theory_fractions.specs.Fraction.{Pair}
use Rattle.spl_fraction.specs.Fractions.{field_of}
use Rattle.spl_fraction.specs.FractionsOver.{fractions_over}
use Rattle.spl_fraction.specs.declared.field.Fractions.{Fractions}
use Rattle.theory_tables.specs.Structure.{Structure}
use Rattle.theory_tables.specs.Claims.{NoIdentityClaim}
use Rattle.spl_engine.proofs.Findings.{of_no_identity}
use Rattle.spl_engine.proofs.decide.of_associative.Goals as goal

pub returns-in-Refuted : goal.returns-in-Refuted
returns-in-Refuted c =
    of_no_identity c.args.table.now c.in-Refuted.left c.in-Refuted.right c.requires
    (subst₂ (λ (f : Fractions) (A : Structure (Pair ℕ)). NoIdentityClaim
    (fractions_over (field_of f)) A c.in-Refuted.left c.in-Refuted.right)
    c.fractions.ensures c.algebra.ensures.algebra (rw c.in-Refuted.is at c.in_ok-left.ensures.value))
