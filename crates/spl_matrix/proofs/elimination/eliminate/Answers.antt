use Rattle.std.proofs.Common.{ℕ, ◌<◌, List, length, refl, sym, subst, arith}
use Rattle.spl_matrix.specs.Elimination.{IsStep, IsEliminated}
use Rattle.spl_matrix.proofs.Steps.{start_eliminated, step_eliminated}
use Rattle.spl_matrix.proofs.elimination.eliminate.Goals as goal

pub loop-col-init : goal.loop-col-init
loop-col-init g c =
    let o = g.F.Field.ops c.args.f.now in
    let L = g.met.F.Field.laws c.args.f.now in
    let rows = c.args.rows.now in
    let P : List ℕ → Type 0 = λ pivots. IsEliminated o (length rows) c.args.n 0 rows rows pivots in
    subst P (sym c.new-pivots.ensures) (start_eliminated o L (length rows) c.args.n rows c.requires.shape refl)

pub loop-col-preserved : goal.loop-col-preserved
loop-col-preserved g c =
    let o = g.F.Field.ops c.args.f.now in
    let L = g.met.F.Field.laws c.args.f.now in
    let origin = c.args.rows.now in
    let n = c.args.n in
    let col = c.loop-col.col in
    let rows = c.loop-col.rows in
    let rows' = c.advance.new.rows in
    let pivots = c.loop-col.pivots in
    let pivots' = c.advance.new.pivots in
    let P : ℕ → Type 0 = λ h. IsStep o h n col rows rows' pivots pivots' in
    let col_in : col < n = omega arith in
    step_eliminated o L (length origin) n col origin rows rows' pivots pivots' c.requires.shape col_in
    (subst P c.loop-col.invariant.height c.in_ok-advance.ensures) c.loop-col.invariant
