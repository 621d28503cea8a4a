use Rattle.std.proofs.Common.{◌≡◌, ◌≢◌, MatchOption, sym, ◌∙◌, ap, subst}
use Rattle.spl_field.specs.SmallField.{small_ops}
use Rattle.spl_fraction.specs.Fractions.{field_of}
use Rattle.spl_residue.specs.Residue.{polynomial_of, residue_ops}
use Rattle.theory_reductions.specs.Reductions.{IsResidueOf}
use Rattle.spl_order.proofs.MappedRows.{some_of_not_none}
use Rattle.spl_order.proofs.FieldResidues.{numerator_over, denominator_over, stays, fraction_residue}
use Rattle.spl_order.proofs.reduction.reduce.Goals as goal

pub reduce_poly-requires : goal.reduce_poly-requires
reduce_poly-requires c = numerator_over (field_of c.args.f.now) c.args.k.now c.requires.field c.args.a.now
    c.requires.elem c.numerator.result.now c.numerator.ensures.value

pub reduce_poly-requires-2 : goal.reduce_poly-requires-2
reduce_poly-requires-2 c = denominator_over (field_of c.args.f.now) c.args.k.now c.requires.field c.args.a.now
    c.requires.elem c.denominator.result.now c.denominator.ensures.value

pub unwrap-inverse-requires : goal.unwrap-inverse-requires
unwrap-inverse-requires c = some_of_not_none _ _ c.in_ok-inv.field-0 c.in_ok-inv.ensures.value
    (stays (field_of c.args.f.now) c.args.k.now c.requires.field c.args.a.now c.requires.elem c.requires.integral
    c.in_ok-lower.lower c.in_ok-lower.ensures.elem c.denominator.result.now c.denominator.ensures.value
    c.in_ok-lower.ensures.value)

pub returns-clause-value : goal.returns-clause-value
returns-clause-value c =
    let r = residue_ops c.args.k.now in
    let x = c.in_ok-upper.upper in
    let y = c.in_ok-lower.lower in
    let value = subst (λ q. MatchOption q (y ≡ r.zero) (λ z. (y ≢ r.zero) × (z ≡ r.inv y))) c.unwrap-inverse.ensures
    c.in_ok-inv.ensures.value in
    subst (IsResidueOf (small_ops (field_of c.args.f.now)) (polynomial_of c.args.k.now) r c.args.a.now)
    (sym (c.in_ok-residue.ensures.value ∙ ap (r.mul x) value.1))
    (fraction_residue (field_of c.args.f.now) c.args.k.now c.requires.field c.args.a.now c.requires.elem
    c.requires.integral y c.in_ok-lower.ensures.elem c.denominator.result.now c.denominator.ensures.value
    c.in_ok-lower.ensures.value x c.numerator.result.now c.in_ok-upper.ensures.elem c.numerator.ensures.value
    c.in_ok-upper.ensures.value)
