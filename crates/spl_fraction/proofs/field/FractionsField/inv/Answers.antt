use Rattle.std.proofs.Common.{◌≢◌, [], sym, ◌∙◌}
use Rattle.spl_field.specs.SmallField.{small_ops, small_laws}
use Rattle.theory_fractions.proofs.ElementClauses.{lowest_of_elem, elem_of_lowest, eq_zero, ne_zero, inv_is}
use Rattle.spl_fraction.proofs.field.FractionsField.inv.Goals as goal

pub returns-then-is_zero-clause-value : goal.returns-then-is_zero-clause-value
returns-then-is_zero-clause-value c =
    eq_zero (small_ops c.args.self.now.field) (small_laws c.args.self.now.field) c.args.a.now c.requires
    (sym c.numerator.ensures.value ∙ c.is_zero.ensures.0 c.if-is_zero.true)

pub inverse_of-requires-clause-lowest : goal.inverse_of-requires-clause-lowest
inverse_of-requires-clause-lowest c =
    lowest_of_elem (small_ops c.args.self.now.field) (small_laws c.args.self.now.field) c.args.a.now c.requires

pub inverse_of-requires-clause-nonzero : goal.inverse_of-requires-clause-nonzero
inverse_of-requires-clause-nonzero c e = let h = c.is_zero.ensures.1 (c.numerator.ensures.value ∙ e) in
    cc (h, c.if-is_zero.false)

pub returns-clause-elem : goal.returns-clause-elem
returns-clause-elem c =
    elem_of_lowest (small_ops c.args.self.now.field)
    (small_laws c.args.self.now.field) c.in_ok-inverse_of.field-0 c.in_ok-inverse_of.ensures.lowest

pub returns-clause-value : goal.returns-clause-value
returns-clause-value c =
    let n : c.args.a.now.0 ≢ [] = λ e. let h = c.is_zero.ensures.1 (c.numerator.ensures.value ∙ e) in
    cc (h, c.if-is_zero.false) in (
      ne_zero (small_ops c.args.self.now.field) (small_laws c.args.self.now.field) c.args.a.now n,
      inv_is (small_ops c.args.self.now.field)
          (small_laws c.args.self.now.field) c.args.a.now c.in_ok-inverse_of.field-0
          c.requires n c.in_ok-inverse_of.ensures.lowest c.in_ok-inverse_of.ensures.inverse,
    )
