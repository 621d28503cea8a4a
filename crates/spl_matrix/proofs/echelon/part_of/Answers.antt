use Rattle.std.proofs.Common.{◌≡◌, ◌+◌, ◌<◌, ap, ◌∙◌, arith, ℕ, length}
use Rattle.theory_rings.specs.Sum.{table, at}
use Rattle.theory_tables.proofs.Rows.Sums.{table_step, read_at}
use Rattle.spl_matrix.proofs.echelon.part_of.Goals as goal

pub loop-j-preserved : goal.loop-j-preserved
loop-j-preserved g c =
    let o = g.F.Field.ops c.args.f.now in
    let row = c.args.row.now in
    let from = c.args.from in
    let j = c.loop-j.j in
    let j_in : from + j < length row = omega arith in
    table_step j (λ j. at o row (from + j)) c.loop-j.items c.push.new.self c.in_ok-copy.field-0 c.loop-j.invariant
    (c.in_ok-copy.ensures.value ∙ read_at o row (from + j) c.index-row-from.result j_in c.index-row-from.is)
    c.in_ok-push.ensures.ok

pub returns : goal.returns
returns g c =
    let o = g.F.Field.ops c.args.f.now in
    let ended : c.loop-j.j ≡ c.args.count = omega arith in
    c.loop-j.invariant ∙ ap (λ (n : ℕ). table n (λ j. at o c.args.row.now (c.args.from + j))) ended
