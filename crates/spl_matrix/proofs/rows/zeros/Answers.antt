use Rattle.std.proofs.Common.{◌≡◌, ap, ◌∙◌, arith, ℕ}
use Rattle.theory_rings.specs.Sum.{table}
use Rattle.theory_tables.proofs.Rows.Sums.{table_step}
use Rattle.spl_matrix.proofs.rows.zeros.Goals as goal

pub loop-l-preserved : goal.loop-l-preserved
loop-l-preserved g c =
    let o = g.F.Field.ops c.args.f.now in
    table_step c.loop-l._l (λ _. o.zero) c.loop-l.items c.push.new.self
    c.in_ok-zero.field-0 c.loop-l.invariant c.in_ok-zero.ensures.value c.in_ok-push.ensures.ok

pub returns : goal.returns
returns g c =
    let o = g.F.Field.ops c.args.f.now in
    let ended : c.loop-l._l ≡ c.args.n = omega arith in
    c.loop-l.invariant ∙ ap (λ (n : ℕ). table n (λ _. o.zero)) ended
