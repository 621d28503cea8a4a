use Rattle.spl_poly.proofs.Trimming.{IsTrimmed-cut, cut-without_zeros}
use Rattle.std.proofs.Common.{refl}
use Rattle.spl_poly.proofs.poly.Poly.from_slice.Goals as goal

pub invariant_of-result : goal.invariant_of-result
invariant_of-result c =
    let n = c.len_without_zeros-n.ensures in
    IsTrimmed-cut c.args.c.now c.len_without_zeros-n.result n.within n.past n.last c.in_ok-from_slice.field-0.items
    c.in_ok-from_slice.ensures.ok

pub returns-clause-value : goal.returns-clause-value
returns-clause-value c =
    let n = c.len_without_zeros-n.ensures in
    cut-without_zeros c.args.c.now c.len_without_zeros-n.result n.within n.past n.last c.in_ok-from_slice.field-0.items
    c.args.c.now refl c.in_ok-from_slice.ensures.ok

pub returns-clause-trimmed : goal.returns-clause-trimmed
returns-clause-trimmed c =
    let n = c.len_without_zeros-n.ensures in
    IsTrimmed-cut c.args.c.now c.len_without_zeros-n.result n.within n.past n.last c.in_ok-from_slice.field-0.items
    c.in_ok-from_slice.ensures.ok
