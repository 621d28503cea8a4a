use Rattle.std.proofs.Common.{sym, ◌∙◌, ap, take}
use Rattle.spl_poly.proofs.Trimming.{IsTrimmed-cut, cut-without_zeros}
use Rattle.spl_poly.proofs.poly.Poly.from_list.Goals as goal

pub invariant_of-result : goal.invariant_of-result
invariant_of-result c =
    let n = c.len_without_zeros-n.ensures in
    IsTrimmed-cut c.as_slice.result.now c.len_without_zeros-n.result n.within n.past n.last c.from_vec.result.items
    (c.from_vec.ensures.items ∙ c.truncate.ensures.items
    ∙ ap (take c.len_without_zeros-n.result) (sym c.as_slice.ensures.value))

pub returns-clause-value : goal.returns-clause-value
returns-clause-value c =
    let n = c.len_without_zeros-n.ensures in
    cut-without_zeros c.as_slice.result.now c.len_without_zeros-n.result n.within n.past n.last c.from_vec.result.items
    c.args.c.items (sym c.as_slice.ensures.value)
    (c.from_vec.ensures.items ∙ c.truncate.ensures.items
    ∙ ap (take c.len_without_zeros-n.result) (sym c.as_slice.ensures.value))

pub returns-clause-trimmed : goal.returns-clause-trimmed
returns-clause-trimmed c =
    let n = c.len_without_zeros-n.ensures in
    IsTrimmed-cut c.as_slice.result.now c.len_without_zeros-n.result n.within n.past n.last c.from_vec.result.items
    (c.from_vec.ensures.items ∙ c.truncate.ensures.items
    ∙ ap (take c.len_without_zeros-n.result) (sym c.as_slice.ensures.value))
