use Rattle.std.proofs.Common.{ℕ, [], length, refl, subst, arith}
use Rattle.spl_matrix.specs.Elimination.{cleared_row}
use Rattle.spl_matrix.proofs.Changes.{ChangedBelow, ChangedBelow-all}
use Rattle.spl_matrix.proofs.elimination.clear_column.Goals as goal

pub returns : goal.returns
returns g c =
    let o = g.F.Field.ops c.args.f.now in
    let old = c.args.rows.now in
    let f = cleared_row o c.args.n old c.args.r c.args.col c.args.lead.now in
    ChangedBelow-all [] (length old) old c.loop-i.rows f refl
    (subst (λ (k : ℕ). ChangedBelow [] k old c.loop-i.rows f) (omega arith) c.loop-i.invariant)
