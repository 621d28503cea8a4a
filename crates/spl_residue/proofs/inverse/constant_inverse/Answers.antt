use Rattle.std.proofs.Common.{sym, ◌∙◌, ap, subst, ◌≢◌, slice_index}
use Rattle.theory_rings.specs.Ops.{IsElem}
use Rattle.theory_rings.proofs.Rings.Elements.{at-elem}
use Rattle.theory_fractions.proofs.Coefficients.{zero-mul_elem}
use Rattle.spl_field.specs.SmallField.{small_ops, small_laws}
use Rattle.spl_residue.proofs.Numbers.{constant_item-ne-zero}
use Rattle.spl_residue.proofs.inverse.constant_inverse.Goals as goal

pub element_inverse-requires-clause-elem : goal.element_inverse-requires-clause-elem
element_inverse-requires-clause-elem c =
    let o = small_ops c.args.f.now in
    subst (IsElem o) (sym c.constant_item-item.ensures)
    (at-elem o (small_laws c.args.f.now) c.args.a.now c.requires.polynomial.over 0)

pub element_inverse-requires-clause-nonzero : goal.element_inverse-requires-clause-nonzero
element_inverse-requires-clause-nonzero c = λ z.
    constant_item-ne-zero c.args.a.now c.requires.polynomial.trimmed c.requires.constant
    (sym c.constant_item-item.ensures ∙ z)

pub returns-clause-nonzero : goal.returns-clause-nonzero
returns-clause-nonzero c = λ z.
    let o = small_ops c.args.f.now in
    let L = small_laws c.args.f.now in
    let x = slice_index c.args.a.now 0 in
    let hx = at-elem o L c.args.a.now c.requires.polynomial.over 0 in
    let n : x ≢ 0 = constant_item-ne-zero c.args.a.now c.requires.polynomial.trimmed c.requires.constant in
    L.one-nonzero
    (sym (L.inv-mul x hx n) ∙ ap (λ r. o.mul r x)
    (sym (c.element_inverse.ensures.value ∙ ap o.inv c.constant_item-item.ensures) ∙ z) ∙ zero-mul_elem o L x hx)

pub returns-clause-value : goal.returns-clause-value
returns-clause-value c =
    let o = small_ops c.args.f.now in
    let L = small_laws c.args.f.now in
    let x = slice_index c.args.a.now 0 in
    let hx = at-elem o L c.args.a.now c.requires.polynomial.over 0 in
    ap (λ r. o.mul r x) (c.element_inverse.ensures.value ∙ ap o.inv c.constant_item-item.ensures)
    ∙ L.inv-mul x hx (constant_item-ne-zero c.args.a.now c.requires.polynomial.trimmed c.requires.constant)
