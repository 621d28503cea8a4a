use Rattle.std.proofs.Common.{◌≡◌, List, All, length, sym, ◌∙◌, ap, subst}
use Rattle.theory_rings.specs.Ops.{IsElem}
use Rattle.theory_spaces.specs.Tuples.{product, basis}
use Rattle.spl_algebra.proofs.basis.all_items_agree.Goals as goal

pub same-requires-clause-left : goal.same-requires-clause-left
same-requires-clause-left g c =
    subst (λ (xs : List g.row.F-Elem.Denot). All (IsElem (g.F.Field.ops c.args.f.now)) xs) (sym c.as_slice.ensures)
    c.in_ok-left.ensures.elem.of_elements

pub same-requires-clause-right : goal.same-requires-clause-right
same-requires-clause-right g c = record {
  right_length = ap length c.as_slice-2.ensures ∙ c.in_ok-right.ensures.elem.right_length
      ∙ sym (ap length c.as_slice.ensures ∙ c.in_ok-left.ensures.elem.right_length);
  of_elements = subst (λ (xs : List g.row.F-Elem.Denot). All (IsElem (g.F.Field.ops c.args.f.now)) xs)
      (sym c.as_slice-2.ensures) c.in_ok-right.ensures.elem.of_elements;
}

pub returns : goal.returns
returns g c =
    let o = g.F.Field.ops c.args.f.now in
    let m = c.args.m in
    let cs = c.args.constants.now in
    let i = c.args.i in
    let k = c.args.k in
    let left : c.as_slice.result.now ≡ product o m cs (product o m cs (basis o m i) (basis o m c.args.j))
    (basis o m k) =
    c.as_slice.ensures ∙ c.in_ok-left.ensures.value
    ∙ ap (λ a. product o m cs a (basis o m k)) c.row_of.ensures.value in
    let right : c.as_slice-2.result.now ≡ product o m cs (basis o m i)
    (product o m cs (basis o m c.args.j) (basis o m k)) =
    c.as_slice-2.ensures ∙ c.in_ok-right.ensures.value
    ∙ ap (λ a. product o m cs (basis o m i) a) c.row_of-2.ensures.value in
    (λ t. sym left ∙ c.same.ensures.0 t ∙ right, λ e. c.same.ensures.1 (left ∙ e ∙ sym right))
