use Rattle.std.proofs.Common.{◌≡◌, ap, ◌∙◌, arith, ℕ}
use Rattle.theory_rings.specs.Sum.{table}
use Rattle.spl_matrix.specs.Spanning.{kernel_item}
use Rattle.theory_tables.proofs.Rows.Sums.{table_step}
use Rattle.spl_matrix.proofs.kernel.kernel_row_of.Goals as goal

pub loop-l-preserved : goal.loop-l-preserved
loop-l-preserved g c =
    let o = g.F.Field.ops c.args.f.now in
    table_step c.loop-l.l (kernel_item o c.args.rows.now c.args.places.now c.args.j) c.loop-l.items c.push.new.self
    c.in_ok-kernel_item_of.field-0 c.loop-l.invariant c.in_ok-kernel_item_of.ensures.value c.in_ok-push.ensures.ok

pub returns : goal.returns
returns g c =
    let o = g.F.Field.ops c.args.f.now in
    let ended : c.loop-l.l ≡ c.args.w = omega arith in
    c.loop-l.invariant ∙ ap (λ (n : ℕ). table n (kernel_item o c.args.rows.now c.args.places.now c.args.j)) ended
