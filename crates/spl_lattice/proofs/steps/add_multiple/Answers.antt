use Rattle.std.proofs.Common.{sym, ◌∙◌, ap, subst, arith, ◌+◌, get_or, [], ◌<◌, ◌≡◌, length}
use Rattle.std.proofs.lemmas.List.{get_or_default}
use Rattle.spl_field.specs.SmallField.{small_ops}
use Rattle.spl_lattice.specs.Steps.{IsSumWithMultiple}
use Rattle.spl_lattice.proofs.RowSteps.{RowDoneBelow, row_done-more}
use Rattle.spl_lattice.proofs.steps.add_multiple.Goals as goal

pub loop-j-preserved : goal.loop-j-preserved
loop-j-preserved c =
    let o = small_ops c.args.f.now in
    let m = c.args.m.now in
    let by = c.args.by.now in
    let row = c.loop-j.row in
    let j = c.loop-j.j in
    let a = c.index-as_slice-j in
    let b = c.index-by-j in
    let x = c.in_ok-entry in
    let d = c.loop-j.invariant in
    let l : j < length c.args.row = omega (arith, c.loop-j-test.true, c.requires.by.width) in
    let ea : a.result ≡ get_or row j [] = a.is ∙ ap (λ xs. get_or xs j a.result) c.as_slice.ensures
    ∙ get_or_default row j a.result [] (omega (arith, l, d.count)) in
    let eb : b.result ≡ get_or by j [] = b.is ∙ get_or_default by j b.result [] c.loop-j-test.true in
    subst (RowDoneBelow o (j + 1) c.args.row m by) (sym c.set.ensures)
    (row_done-more o c.args.row m by j row x.entry d l x.ensures.over x.ensures.trimmed
    (subst (λ z. IsSumWithMultiple o z m (get_or by j []) x.entry) ea
    (subst (λ z. IsSumWithMultiple o a.result m z x.entry) eb x.ensures.value)))
