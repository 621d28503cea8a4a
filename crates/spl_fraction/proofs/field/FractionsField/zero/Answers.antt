use Rattle.std.proofs.Common.{sym, ◌∙◌, ap₂}
use Rattle.spl_field.specs.SmallField.{small_ops, small_laws}
use Rattle.theory_fractions.proofs.ElementClauses.{zero_elem, zero_is}
use Rattle.spl_fraction.proofs.field.FractionsField.zero.Goals as goal

pub returns-clause-elem : goal.returns-clause-elem
returns-clause-elem c =
    zero_elem (small_ops c.args.self.now.field) (small_laws c.args.self.now.field) c.of.result
    (c.of.ensures ∙ ap₂ (λ x y. (x, y)) c.in_ok-numerator.ensures.value c.in_ok-one.ensures)

pub returns-clause-value : goal.returns-clause-value
returns-clause-value c =
    c.of.ensures ∙ ap₂ (λ x y. (x, y)) c.in_ok-numerator.ensures.value c.in_ok-one.ensures
    ∙ sym (zero_is (small_ops c.args.self.now.field) (small_laws c.args.self.now.field))
