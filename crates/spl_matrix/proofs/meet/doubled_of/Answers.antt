use Rattle.std.proofs.Common.{◌≡◌, ◌++◌, [], get_or, cond, nat_lt, ap, ◌∙◌, arith, ℕ, List, length, refl}
use Rattle.theory_rings.specs.Sum.{table}
use Rattle.theory_tables.proofs.Rows.Sums.{table_step, row_at}
use Rattle.spl_matrix.proofs.meet.doubled_of.Goals as goal

pub loop-i-preserved : goal.loop-i-preserved
loop-i-preserved g c =
    let rows = c.args.rows.now in
    let zeros = c.args.zeros.now in
    let p = c.args.p in
    let i = c.loop-i.i in
    table_step i (λ i. get_or rows i [] ++ cond (nat_lt i p) (get_or rows i []) zeros) c.loop-i.out.items
    c.push.new.self.items c.in_ok-doubled_row.field-0 c.loop-i.invariant
    (c.in_ok-doubled_row.ensures
    ∙ ap (λ (row : List g.row.F-Elem.Denot). row ++ cond (nat_lt i p) row zeros)
    (row_at rows i c.index-rows-i.result c.index-rows-i.result c.loop-i-test.true c.index-rows-i.is refl))
    c.in_ok-push.ensures.items

pub returns : goal.returns
returns g c =
    let rows = c.args.rows.now in
    let ended : c.loop-i.i ≡ length rows = omega arith in
    c.loop-i.invariant ∙ ap (λ (n : ℕ).
    table n (λ i. get_or rows i [] ++ cond (nat_lt i c.args.p) (get_or rows i []) c.args.zeros.now)) ended
