use Rattle.std.proofs.Common.{◌∷◌, [], subst}
use Rattle.spl_field.specs.SmallField.{small_ops, small_laws}
use Rattle.spl_poly.specs.Operations.{IsProduct}
use Rattle.theory_remainders.proofs.Divisions.{minus_coefficients}
use Rattle.spl_residue.proofs.remainder.negated.Goals as goal

pub returns-clause-value : goal.returns-clause-value
returns-clause-value c =
    let o = small_ops c.args.f.now in
    let r = c.in_ok-scaled in
    minus_coefficients o (small_laws c.args.f.now) c.args.a.now r.field-0 c.requires r.ensures.polynomial.over
    (subst (λ u. IsProduct o (u ∷ []) c.args.a.now r.field-0) c.minus_one.ensures.value r.ensures.value)
