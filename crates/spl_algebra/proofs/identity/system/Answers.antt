use Rattle.std.proofs.Common.{◌≡◌, arith, sym, ◌∙◌, ◌*◌, ◌+◌}
use Rattle.theory_spaces.specs.Tuples.{IsTuple}
use Rattle.theory_tables.proofs.Rows.Sums.{All_step, table_step}
use Rattle.spl_algebra.specs.IdentitySystem.{constant_row}
use Rattle.spl_algebra.proofs.IdentityRows.{identity_system}
use Rattle.spl_algebra.proofs.identity.system.Goals as goal

pub push-requires : goal.push-requires
push-requires g c = λ k d k_in. (c.loop-i.invariant.shape k d k_in).right_length
    ∙ sym c.in_ok-constant_row.ensures.elem.right_length

pub push-requires-2 : goal.push-requires-2
push-requires-2 g c = λ k d k_in. (c.loop-i.invariant.shape k d k_in).right_length
    ∙ sym c.in_ok-unit_row.ensures.elem.right_length

pub loop-i-preserved : goal.loop-i-preserved
loop-i-preserved g c =
    let o = g.F.Field.ops c.args.f.now in
    let m = c.args.m in
    let l = c.loop-i in
    let row = c.in_ok-constant_row in
    record {
      shape = All_step (IsTuple o (m * m + m * m)) l.rows c.push.new.self row.field-0 l.invariant.shape row.ensures.elem
          c.in_ok-push.ensures.ok;
      value = table_step l.i (constant_row o m c.args.constants.now) l.rows c.push.new.self row.field-0
          l.invariant.value row.ensures.value c.in_ok-push.ensures.ok;
    }

pub returns : goal.returns
returns g c =
    let o = g.F.Field.ops c.args.f.now in
    let m = c.args.m in
    let done : c.loop-i.i ≡ m = omega arith in
    let value = rw done at c.loop-i.invariant.value in
    identity_system o (g.met.F.Field.laws c.args.f.now) m c.args.constants.now c.loop-i.rows c.push-2.new.self
    c.in_ok-unit_row.field-0
    value c.in_ok-unit_row.ensures.value c.in_ok-push-2.ensures.ok
    (All_step (IsTuple o (m * m + m * m)) c.loop-i.rows c.push-2.new.self c.in_ok-unit_row.field-0
    c.loop-i.invariant.shape c.in_ok-unit_row.ensures.elem c.in_ok-push-2.ensures.ok)
