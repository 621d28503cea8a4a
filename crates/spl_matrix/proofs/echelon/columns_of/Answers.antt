use Rattle.std.proofs.Common.{◌≡◌, ◌+◌, ap, subst, sym, ◌∙◌, arith, ℕ, List, length}
use Rattle.theory_rings.specs.Sum.{table, at}
use Rattle.theory_tables.specs.Matrix.{entry, IsRectangular}
use Rattle.theory_tables.proofs.Rows.Sums.{table_step, row_at}
use Rattle.spl_matrix.proofs.Beside.{IsRectangular-table}
use Rattle.spl_matrix.proofs.echelon.columns_of.Goals as goal

pub loop-i-preserved : goal.loop-i-preserved
loop-i-preserved g c =
    let o = g.F.Field.ops c.args.f.now in
    let count = c.args.count in
    let from = c.args.from in
    let rows = c.args.rows.now in
    let i = c.loop-i.i in
    let read = row_at rows i c.index-rows-i.result c.as_slice.result.now c.loop-i-test.true c.index-rows-i.is
    c.as_slice.ensures in
    table_step i (λ i. table count (λ j. entry o rows i (from + j))) c.loop-i.out.items c.push.new.self.items
    c.in_ok-row.row c.loop-i.invariant
    (c.in_ok-row.ensures ∙ ap (λ (row : List g.row.F-Elem.Denot). table count (λ j. at o row (from + j))) read)
    c.in_ok-push.ensures.items

pub from_rows-requires : goal.from_rows-requires
from_rows-requires g c =
    let o = g.F.Field.ops c.args.f.now in
    let P : List (List g.row.F-Elem.Denot) → Type 0 = λ m. IsRectangular m in
    subst P (sym c.loop-i.invariant)
    (IsRectangular-table c.loop-i.i c.args.count (λ i j. entry o c.args.rows.now i (c.args.from + j)))

pub returns : goal.returns
returns g c =
    let o = g.F.Field.ops c.args.f.now in
    let ended : c.loop-i.i ≡ length c.args.rows.now = omega arith in
    c.from_rows.ensures ∙ c.loop-i.invariant
    ∙ ap (λ (n : ℕ). table n (λ i. table c.args.count (λ j. entry o c.args.rows.now i (c.args.from + j)))) ended
