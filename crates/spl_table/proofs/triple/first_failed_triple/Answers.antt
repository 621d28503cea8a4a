use Rattle.std.proofs.Common.{ℕ, subst}
use Rattle.std.specs.Prelude.{IfOk, MatchOption}
use Rattle.theory_tables.specs.Structure.{Structure, IsAssociative}
use Rattle.theory_fractions.specs.Fraction.{Pair}
use Rattle.spl_fraction.specs.Fractions.{field_of}
use Rattle.spl_fraction.specs.FractionsOver.{fractions_over}
use Rattle.spl_fraction.specs.declared.field.Fractions.{Fractions}
use Rattle.spl_table.specs.Table.{algebra_of}
use Rattle.spl_algebra.specs.Triple.{IsFirstFailed}
use Rattle.spl_table.proofs.triple.first_failed_triple.Goals as goal

pub returns : goal.returns
returns c =
    let t = c.args.table.now in
    subst (λ (k : Fractions).
    IfOk c.first_failed_triple.result
    (λ r. MatchOption r (IsAssociative (fractions_over (field_of k)) (algebra_of t))
    (IsFirstFailed (fractions_over (field_of k)) (algebra_of t))))
    c.fractions.ensures
    (subst (λ (A : Structure (Pair ℕ)). IfOk c.first_failed_triple.result
    (λ r. MatchOption r (IsAssociative (fractions_over (field_of c.fractions.result.now)) A)
    (IsFirstFailed (fractions_over (field_of c.fractions.result.now)) A)))
    c.algebra-algebra.ensures.algebra c.first_failed_triple.ensures)
