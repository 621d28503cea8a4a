use Rattle.std.proofs.Common.{◌++◌, [], List, ap, ◌∙◌, arith, subst, sym}
use Rattle.std.proofs.lemmas.List.{take_all}
use Rattle.std.proofs.lemmas.List.Elements.{All-get_or}
use Rattle.theory_spaces.specs.Tuples.{IsTuple}
use Rattle.theory_tables.proofs.Rows.Sums.{row_at, All_step}
use Rattle.theory_tables.proofs.Rows.Stacks.{stacked_step}
use Rattle.spl_local.proofs.ideals.with_rows.Goals as goal

pub loop-i-preserved : goal.loop-i-preserved
loop-i-preserved g c =
    let o = g.F.Field.ops c.args.f.now in
    let b = c.args.more.now in
    let i = c.loop-i.i in
    let row = c.in_ok-copy.field-0 in
    let is = row_at b i c.index-more-i.result row c.loop-i-test.true c.index-more-i.is c.in_ok-copy.ensures in
    record {
      shape = All_step (IsTuple o c.args.w) c.loop-i.rows c.push.new.self row c.loop-i.invariant.shape
          (subst (IsTuple o c.args.w) (sym is)
          (All-get_or (IsTuple o c.args.w) b i [] c.loop-i-test.true c.requires.more)) c.in_ok-push.ensures.ok;
      value = stacked_step c.args.rows b i c.loop-i.rows c.push.new.self row [] c.loop-i-test.true
          c.loop-i.invariant.value is c.in_ok-push.ensures.ok;
    }

pub returns : goal.returns
returns g c = record {
  shape = c.loop-i.invariant.shape;
  value = c.loop-i.invariant.value ∙ ap (λ (m : List (List g.row.F-Elem.Denot)). c.args.rows ++ m)
      (take_all c.loop-i.i c.args.more.now (omega arith));
}
