use Rattle.std.proofs.Common.{get_or, sym, ◌∙◌}
use Rattle.theory_spaces.specs.Tuples.{IsTuple, basis}
use Rattle.theory_tables.proofs.Rows.Sums.{table_step, All_step}
use Rattle.spl_algebra.proofs.UnitRows.{IsTuple-of_basis}
use Rattle.spl_algebra.proofs.quotient.unit_rows.Goals as goal

pub push-requires : goal.push-requires
push-requires g c =
    let o = g.F.Field.ops c.args.f.now in
    let L = g.met.F.Field.laws c.args.f.now in
    let row = c.in_ok-identity_row in
    let tuple = IsTuple-of_basis o L c.args.m (get_or c.args.places.now c.loop-i.i 0) row.field-0 row.ensures in
    λ k d k_in. (c.loop-i.invariant.shape k d k_in).right_length ∙ sym tuple.right_length

pub loop-i-preserved : goal.loop-i-preserved
loop-i-preserved g c =
    let o = g.F.Field.ops c.args.f.now in
    let L = g.met.F.Field.laws c.args.f.now in
    let m = c.args.m in
    let places = c.args.places.now in
    let row = c.in_ok-identity_row in
    let tuple = IsTuple-of_basis o L m (get_or places c.loop-i.i 0) row.field-0 row.ensures in
    record {
      shape = All_step (IsTuple o m) c.loop-i.rows c.push.new.self row.field-0 c.loop-i.invariant.shape tuple
          c.in_ok-push.ensures.ok;
      value = table_step c.loop-i.i (λ i. basis o m (get_or places i 0)) c.loop-i.rows c.push.new.self row.field-0
          c.loop-i.invariant.value row.ensures c.in_ok-push.ensures.ok;
    }
