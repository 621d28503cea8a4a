use Rattle.std.proofs.Common.{sym, ◌∙◌, ap, subst, take, get_or, ◌≡◌}
use Rattle.std.proofs.lemmas.List.Elements.{All-take}
use Rattle.theory_rings.specs.Ops.{IsElem}
use Rattle.spl_poly.specs.Operations.{IsOver, without_zeros}
use Rattle.spl_poly.proofs.Trimming.{IsTrimmed-cut, cut-without_zeros, get_or-without_zeros}
use Rattle.spl_poly.proofs.poly.without_zeros_at_end.Goals as goal

pub invariant_of-result : goal.invariant_of-result
invariant_of-result c =
    let n = c.len_without_zeros-n.ensures in
    IsTrimmed-cut c.as_slice.result.now c.len_without_zeros-n.result n.within n.past n.last c.truncate.new.self.items
    (c.truncate.ensures.items ∙ ap (take c.len_without_zeros-n.result) (sym c.as_slice.ensures))

pub returns-clause-value : goal.returns-clause-value
returns-clause-value c =
    let n = c.len_without_zeros-n.ensures in
    cut-without_zeros c.as_slice.result.now c.len_without_zeros-n.result n.within n.past n.last
    c.truncate.new.self.items c.args.c.items (sym c.as_slice.ensures)
    (c.truncate.ensures.items ∙ ap (take c.len_without_zeros-n.result) (sym c.as_slice.ensures))

pub returns-clause-trimmed : goal.returns-clause-trimmed
returns-clause-trimmed c =
    let n = c.len_without_zeros-n.ensures in
    IsTrimmed-cut c.as_slice.result.now c.len_without_zeros-n.result n.within n.past n.last c.truncate.new.self.items
    (c.truncate.ensures.items ∙ ap (take c.len_without_zeros-n.result) (sym c.as_slice.ensures))

pub returns-clause-same : goal.returns-clause-same
returns-clause-same c k =
    let n = c.len_without_zeros-n.ensures in
    let value : c.truncate.new.self.items ≡ without_zeros c.args.c.items =
    cut-without_zeros c.as_slice.result.now c.len_without_zeros-n.result n.within n.past n.last
    c.truncate.new.self.items c.args.c.items (sym c.as_slice.ensures)
    (c.truncate.ensures.items ∙ ap (take c.len_without_zeros-n.result) (sym c.as_slice.ensures)) in
    ap (λ l. get_or l k 0) value ∙ get_or-without_zeros c.args.c.items k

pub returns-clause-over : goal.returns-clause-over
returns-clause-over c o h =
    subst (IsOver o) (sym c.truncate.ensures.items) (All-take (IsElem o) c.len_without_zeros-n.result c.args.c.items h)
