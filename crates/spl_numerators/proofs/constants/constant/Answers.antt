use Rattle.std.proofs.Common.{◌≡◌, ℕ, List, get_or, length, sym, ◌∙◌, ap, subst, arith}
use Rattle.std.proofs.lemmas.List.{get_or_past}
use Rattle.theory_rings.specs.Ops.{IsElem}
use Rattle.spl_field.specs.SmallField.{small_ops, small_laws}
use Rattle.spl_numerators.specs.Constants.{constant_fraction}
use Rattle.spl_numerators.proofs.ConstantFractions.{value-elem, value_is}
use Rattle.spl_numerators.proofs.constants.constant.Goals as goal

pub returns-clause-elem : goal.returns-clause-elem
returns-clause-elem c =
    let f = c.args.f.now in
    let P : List ℕ → Type 0 = λ u. IsElem (small_ops f) (get_or u 0 0) in
    subst P (sym (c.as_slice-numerator.ensures ∙ c.numerator.ensures.value))
    (value-elem (small_ops f) (small_laws f) c.args.w.now c.requires.elem)

pub returns-clause-value : goal.returns-clause-value
returns-clause-value c =
    let f = c.args.f.now in
    let P : List ℕ → Type 0 = λ u. c.args.w.now ≡ constant_fraction (small_ops f) (get_or u 0 0) in
    subst P (sym (c.as_slice-numerator.ensures ∙ c.numerator.ensures.value))
    (value_is (small_ops f) (small_laws f) c.args.w.now c.requires.elem c.requires.short)

pub returns-then-numerator-eq0-clause-value : goal.returns-then-numerator-eq0-clause-value
returns-then-numerator-eq0-clause-value c =
    let o = small_ops c.args.f.now in
    let w = c.args.w.now in
    let e : c.as_slice-numerator.result.now ≡ w.0 = c.as_slice-numerator.ensures ∙ c.numerator.ensures.value in
    let l : length w.0 ≡ 0 = subst (λ (u : List ℕ). length u ≡ 0) e c.if-numerator-eq0.true in
    value_is o (small_laws c.args.f.now) w c.requires.elem c.requires.short
    ∙ ap (constant_fraction o) (get_or_past w.0 0 0 (omega (arith, l)))
