use Rattle.std.proofs.Common.{◌≡◌, ◌++◌, [], get_or, ap, ◌∙◌, arith, ℕ, List, length, refl}
use Rattle.theory_rings.specs.Sum.{table}
use Rattle.spl_matrix.specs.Elimination.{identity_row}
use Rattle.theory_tables.proofs.Rows.Sums.{table_step, row_at}
use Rattle.spl_matrix.proofs.elimination.augmented_of.Goals as goal

pub loop-i-preserved : goal.loop-i-preserved
loop-i-preserved g c =
    let o = g.F.Field.ops c.args.f.now in
    let a = c.args.a.now in
    let i = c.loop-i.i in
    let unit = identity_row o (length a) i in
    table_step i (λ i. get_or a i [] ++ identity_row o (length a) i) c.loop-i.rows.items c.push.new.self.items
    c.in_ok-augmented_row.field-0 c.loop-i.invariant
    (c.in_ok-augmented_row.ensures ∙ ap (λ (row : List g.row.F-Elem.Denot). row ++ unit)
    (row_at a i c.index-a-i.result c.index-a-i.result c.loop-i-test.true c.index-a-i.is refl))
    c.in_ok-push.ensures.items

pub returns : goal.returns
returns g c =
    let o = g.F.Field.ops c.args.f.now in
    let a = c.args.a.now in
    let ended : c.loop-i.i ≡ length a = omega arith in
    c.loop-i.invariant ∙ ap (λ (n : ℕ). table n (λ i. get_or a i [] ++ identity_row o (length a) i)) ended
