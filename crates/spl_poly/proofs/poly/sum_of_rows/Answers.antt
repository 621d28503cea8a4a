use Rattle.std.proofs.Common.{arith, sym, ◌∙◌, ap, subst, get_or, length, ◌≡◌}
use Rattle.spl_field.specs.SmallField.{small_ops}
use Rattle.spl_poly.specs.Operations.{IsOver}
use Rattle.spl_poly.proofs.Trimming.{refill_same}
use Rattle.spl_poly.proofs.poly.sum_of_rows.Goals as goal

pub returns-clause-value : goal.returns-clause-value
returns-clause-value c k =
    let o = small_ops c.args.f.now in
    let len : length c.add_row.new.r ≡ length c.in_ok-c.c.items =
    omega (arith, c.add_row.auto.r, ap length c.as_mut_slice.ensures.value) in
    c.without_zeros_at_end.ensures.same k ∙ ap (λ l. get_or l k 0) (refill_same c.in_ok-c.c.items c.add_row.new.r len)
    ∙ c.add_row.ensures.added k
    ∙ ap (λ l. o.add (get_or l k 0) (get_or c.args.short.now k 0)) (c.as_mut_slice.ensures.value ∙ c.in_ok-c.ensures.ok)

pub returns-clause-over : goal.returns-clause-over
returns-clause-over c =
    let o = small_ops c.args.f.now in
    let len : length c.add_row.new.r ≡ length c.in_ok-c.c.items =
    omega (arith, c.add_row.auto.r, ap length c.as_mut_slice.ensures.value) in
    c.without_zeros_at_end.ensures.over o
    (subst (IsOver o) (sym (refill_same c.in_ok-c.c.items c.add_row.new.r len)) c.add_row.ensures.over)
