use Rattle.std.proofs.Common.{◌∙◌, ap}
use Rattle.theory_rings.specs.Polynomial.{constant_coefficients}
use Rattle.spl_field.specs.SmallField.{small_ops}
use Rattle.spl_lattice.proofs.RowSteps.{negative_of_product}
use Rattle.spl_lattice.proofs.steps.negative.Goals as goal

pub returns-clause-value : goal.returns-clause-value
returns-clause-value c =
    let u = c.in_ok-opposite in
    let r = c.in_ok-mul in
    negative_of_product (small_ops c.args.f.now) c.know_laws.ensures c.args.a.now u.opposite r.field-0 c.requires
    u.ensures.over r.ensures.over
    (λ k. u.ensures.value k ∙ ap (λ n. constant_coefficients 0 n k) c.negative.ensures.same)
    r.ensures.value
