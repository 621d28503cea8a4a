use Rattle.std.proofs.Common.{◌≡◌, ℕ, length, sym, ◌∙◌, ap, arith}
use Rattle.theory_rings.specs.Sum.{table}
use Rattle.theory_spaces.specs.Tuples.{IsTuple}
use Rattle.theory_tables.specs.Matrix.{entry}
use Rattle.theory_tables.proofs.Rows.Sums.{table_step, All_step}
use Rattle.spl_blocks.proofs.fixed.columns_of.Goals as goal

pub push-requires : goal.push-requires
push-requires g c = λ k d k_in. (c.loop-j.invariant.shape k d k_in).right_length
    ∙ sym c.in_ok-column_of.ensures.elem.right_length

pub loop-j-preserved : goal.loop-j-preserved
loop-j-preserved g c =
    let o = g.F.Field.ops c.args.f.now in
    let rows = c.args.rows.now in
    let item = c.in_ok-column_of.field-0 in
    record {
      shape = All_step (IsTuple o (length rows)) c.loop-j.out c.push.new.self item c.loop-j.invariant.shape
          c.in_ok-column_of.ensures.elem c.in_ok-push.ensures.ok;
      value = table_step c.loop-j.j (λ j. table (length rows) (λ i. entry o rows i j)) c.loop-j.out c.push.new.self
          item c.loop-j.invariant.value c.in_ok-column_of.ensures.value c.in_ok-push.ensures.ok;
    }

pub returns : goal.returns
returns g c =
    let o = g.F.Field.ops c.args.f.now in
    let rows = c.args.rows.now in
    let ended : c.loop-j.j ≡ c.args.w = omega arith in
    record {
      shape = c.loop-j.invariant.shape;
      value = c.loop-j.invariant.value
          ∙ ap (λ (n : ℕ). table n (λ j. table (length rows) (λ i. entry o rows i j))) ended;
    }
