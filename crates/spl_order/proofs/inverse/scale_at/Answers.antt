use Rattle.std.proofs.Common.{◌≡◌, ◌<◌, [], ◌∷◌, ◌++◌, get_or, length, subst, sym, ap, ap₂, ◌∙◌, arith}
use Rattle.spl_field.specs.SmallField.{small_ops, small_laws}
use Rattle.theory_fractions.specs.PolynomialLists.{IsPolynomialList}
use Rattle.theory_tables.specs.Matrix.{width_of}
use Rattle.theory_rows.specs.Rows.{IsPolynomialMatrix, IsLatticeBasis, InRowKernel}
use Rattle.spl_order.proofs.Values.{read_is}
use Rattle.spl_order.proofs.InverseSteps.{more-length, more-wide, relation_in, relation-row, relation_kills, weight-is}
use Rattle.spl_order.proofs.Contents.{product_nonzero}
use Rattle.spl_order.proofs.InverseSteps.{weight_nonzero, others_in, unit_in}
use Rattle.spl_order.proofs.inverse.scale_at.Goals as goal

pub kernel-requires : goal.kernel-requires
kernel-requires c =
    let o = small_ops c.args.f.now in
    let L = small_laws c.args.f.now in
    let n = c.args.n in
    let basis = c.args.basis.now in
    let d = c.args.d.now in
    let i = c.args.i in
    let same = c.in_ok-more.ensures ∙ ap₂ (λ a u. a ++ u ∷ []) c.as_slice.ensures c.in_ok-unit.ensures in
    subst (λ m. IsPolynomialMatrix o (width_of m) m) (sym same) (more-wide o L n basis c.requires.basis c.requires.count c.requires.independent d c.requires.d i)

pub bounds-as_slice-0 : goal.bounds-as_slice-0
bounds-as_slice-0 c =
    let o = small_ops c.args.f.now in
    let L = small_laws c.args.f.now in
    let n = c.args.n in
    let basis = c.args.basis.now in
    let d = c.args.d.now in
    let i = c.args.i in
    let same = c.in_ok-more.ensures ∙ ap₂ (λ a u. a ++ u ∷ []) c.as_slice.ensures c.in_ok-unit.ensures in
    let ker = c.in_ok-relations.relations in
    let B = subst (λ m. IsLatticeBasis o (length m) (InRowKernel o m) ker) same c.in_ok-relations.ensures in
    subst (λ r. 0 < length r) (sym c.as_slice-2.ensures) (relation_in o L n basis c.requires.basis c.requires.count c.requires.independent d c.requires.d i ker B)

pub bounds-as_slice-n : goal.bounds-as_slice-n
bounds-as_slice-n c =
    let o = small_ops c.args.f.now in
    let L = small_laws c.args.f.now in
    let n = c.args.n in
    let basis = c.args.basis.now in
    let d = c.args.d.now in
    let i = c.args.i in
    let same = c.in_ok-more.ensures ∙ ap₂ (λ a u. a ++ u ∷ []) c.as_slice.ensures c.in_ok-unit.ensures in
    let ker = c.in_ok-relations.relations in
    let B = subst (λ m. IsLatticeBasis o (length m) (InRowKernel o m) ker) same c.in_ok-relations.ensures in
    let first : 0 < length c.as_slice-2.result.now = subst (λ r. 0 < length r) (sym c.as_slice-2.ensures)
    (relation_in o L n basis c.requires.basis c.requires.count c.requires.independent d c.requires.d i ker B) in
    let rel = c.as_slice-3.ensures ∙ read_is c.as_slice-2.result.now 0 c.index-as_slice-0.result first c.index-as_slice-0.is
    ∙ ap (λ l. get_or l 0 []) c.as_slice-2.ensures in
    let row = relation-row o L n basis c.requires.basis c.requires.count c.requires.independent d c.requires.d i ker B in
    let inside : n < length c.as_slice-3.result.now = subst (λ r. n < length r) (sym rel)
    (omega (arith, row.width, more-length o L n basis c.requires.basis c.requires.count c.requires.independent d c.requires.d i)) in
    inside

pub mul-requires-clause-b_over : goal.mul-requires-clause-b_over
mul-requires-clause-b_over c =
    let o = small_ops c.args.f.now in
    let L = small_laws c.args.f.now in
    let n = c.args.n in
    let basis = c.args.basis.now in
    let d = c.args.d.now in
    let i = c.args.i in
    let same = c.in_ok-more.ensures ∙ ap₂ (λ a u. a ++ u ∷ []) c.as_slice.ensures c.in_ok-unit.ensures in
    let ker = c.in_ok-relations.relations in
    let B = subst (λ m. IsLatticeBasis o (length m) (InRowKernel o m) ker) same c.in_ok-relations.ensures in
    let first : 0 < length c.as_slice-2.result.now = subst (λ r. 0 < length r) (sym c.as_slice-2.ensures)
    (relation_in o L n basis c.requires.basis c.requires.count c.requires.independent d c.requires.d i ker B) in
    let rel = c.as_slice-3.ensures ∙ read_is c.as_slice-2.result.now 0 c.index-as_slice-0.result first c.index-as_slice-0.is
    ∙ ap (λ l. get_or l 0 []) c.as_slice-2.ensures in
    let row = relation-row o L n basis c.requires.basis c.requires.count c.requires.independent d c.requires.d i ker B in
    let inside : n < length c.as_slice-3.result.now = subst (λ r. n < length r) (sym rel)
    (omega (arith, row.width, more-length o L n basis c.requires.basis c.requires.count c.requires.independent d c.requires.d i)) in
    let item = read_is c.as_slice-3.result.now n c.index-as_slice-n.result inside c.index-as_slice-n.is
    ∙ ap (λ r. get_or r n []) rel in
    let hs = subst (IsPolynomialList o) (sym item) (weight-is o L n basis c.requires.basis c.requires.count c.requires.independent d c.requires.d i ker B) in
    hs.over

pub returns : goal.returns
returns c =
    let o = small_ops c.args.f.now in
    let L = small_laws c.args.f.now in
    let n = c.args.n in
    let basis = c.args.basis.now in
    let d = c.args.d.now in
    let i = c.args.i in
    let same = c.in_ok-more.ensures ∙ ap₂ (λ a u. a ++ u ∷ []) c.as_slice.ensures c.in_ok-unit.ensures in
    let ker = c.in_ok-relations.relations in
    let B = subst (λ m. IsLatticeBasis o (length m) (InRowKernel o m) ker) same c.in_ok-relations.ensures in
    let first : 0 < length c.as_slice-2.result.now = subst (λ r. 0 < length r) (sym c.as_slice-2.ensures)
    (relation_in o L n basis c.requires.basis c.requires.count c.requires.independent d c.requires.d i ker B) in
    let rel = c.as_slice-3.ensures ∙ read_is c.as_slice-2.result.now 0 c.index-as_slice-0.result first c.index-as_slice-0.is
    ∙ ap (λ l. get_or l 0 []) c.as_slice-2.ensures in
    let row = relation-row o L n basis c.requires.basis c.requires.count c.requires.independent d c.requires.d i ker B in
    let inside : n < length c.as_slice-3.result.now = subst (λ r. n < length r) (sym rel)
    (omega (arith, row.width, more-length o L n basis c.requires.basis c.requires.count c.requires.independent d c.requires.d i)) in
    let item = read_is c.as_slice-3.result.now n c.index-as_slice-n.result inside c.index-as_slice-n.is
    ∙ ap (λ r. get_or r n []) rel in
    let hs = subst (IsPolynomialList o) (sym item) (weight-is o L n basis c.requires.basis c.requires.count c.requires.independent d c.requires.d i ker B) in
    let p = c.in_ok-mul.ensures in
    let s = c.index-as_slice-n.result in
    let r = c.in_ok-mul.field-0 in
    let hr : IsPolynomialList o r = record { over = p.over; trimmed = p.trimmed } in
    let rest = subst (λ t. get_or (get_or ker 0 []) t [] ≡ s) (sym c.requires.count) (sym item) in
    record {
      polynomial = hr;
      nonzero = product_nonzero o L d s r c.requires.d hs hr p.value c.requires.nonzero
          (λ z. weight_nonzero o L n basis c.requires.basis c.requires.count c.requires.independent d c.requires.d i ker B (sym item ∙ z));
      member = unit_in o L n basis c.requires.basis d s r c.requires.d hs hr p.value i (get_or ker 0 []) row
          (relation_kills o L n basis c.requires.basis c.requires.count c.requires.independent d c.requires.d i ker B) rest;
      others = others_in o L n basis c.requires.basis d s r c.requires.d hs hr p.value;
    }
