use Rattle.std.proofs.Common.{◌↔◌, IsTrue, sym, subst}
use Rattle.theory_tables.specs.Structure.{IsOver, AssociatesAt}
use Rattle.spl_field.specs.SmallField.{small_ops, small_laws}
use Rattle.spl_fraction.specs.FractionsOver.{fractions_over}
use Rattle.spl_numerators.specs.Numerators.{AreNumerators}
use Rattle.spl_numerators.proofs.triple.associates_at.Goals as goal

pub associates_by_numerators-requires-clause-over : goal.associates_by_numerators-requires-clause-over
associates_by_numerators-requires-clause-over c =
    subst (λ k. IsOver (fractions_over k) c.args.a.now) (sym c.field.ensures) c.requires.over

pub associates_by_numerators-requires-clause-numerators : goal.associates_by_numerators-requires-clause-numerators
associates_by_numerators-requires-clause-numerators c =
    subst (λ k. AreNumerators (small_ops k) (small_laws k) c.args.n.now.denominator c.args.a.now c.args.n.now.entries)
    (sym c.field.ensures) c.requires.numerators

pub returns : goal.returns
returns c =
    subst (λ k. IsTrue c.in_ok-associates_by_numerators.field-0
    ↔ AssociatesAt (fractions_over k) c.args.a.now c.args.i c.args.j c.args.k) c.field.ensures
    c.in_ok-associates_by_numerators.ensures
