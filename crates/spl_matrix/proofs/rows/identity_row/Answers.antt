use Rattle.std.proofs.Common.{◌≡◌, ap, ◌∙◌, arith, cond, nat_eq, ℕ}
use Rattle.theory_rings.specs.Sum.{table}
use Rattle.theory_tables.proofs.Rows.Sums.{table_step}
use Rattle.spl_matrix.proofs.rows.identity_row.Goals as goal

pub loop-l-preserved : goal.loop-l-preserved
loop-l-preserved g c =
    let o = g.F.Field.ops c.args.f.now in
    table_step c.loop-l.l (λ k. cond (nat_eq k c.args.i) o.one o.zero) c.loop-l.items c.push.new.self
    c.in_ok-unit_item.field-0 c.loop-l.invariant c.in_ok-unit_item.ensures.value c.in_ok-push.ensures.ok

pub returns : goal.returns
returns g c =
    let o = g.F.Field.ops c.args.f.now in
    let ended : c.loop-l.l ≡ c.args.n = omega arith in
    c.loop-l.invariant ∙ ap (λ (n : ℕ). table n (λ k. cond (nat_eq k c.args.i) o.one o.zero)) ended
