use Rattle.std.proofs.Common.{subst, ◌∙◌}
use Rattle.std.specs.List.{AllZip}
use Rattle.spl_field.specs.SmallField.{small_ops}
use Rattle.spl_fraction.specs.Fractions.{field_of}
use Rattle.spl_fraction.specs.Valuation.{IsSwapped}
use Rattle.spl_order.proofs.SwappedTuples.{structure_is}
use Rattle.spl_order.proofs.swap.swap_algebra.Goals as goal

pub returns-clause-image : goal.returns-clause-image
returns-clause-image c =
    let F = field_of c.args.f.now in
    let w = c.in_ok-constants in
    let r = c.in_ok-new in
    λ s S. structure_is F s S c.args.a.now r.field-0 w.constants (r.ensures.dim ∙ c.dim.ensures.dim)
    r.ensures.constants c.requires.of_elements w.ensures.elems
    (subst (λ x. AllZip (IsSwapped (small_ops F)) x w.constants) c.constants.ensures.value w.ensures.value)
