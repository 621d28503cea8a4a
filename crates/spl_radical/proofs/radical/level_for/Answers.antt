use Rattle.std.proofs.Common.{arith}
use Rattle.spl_radical.proofs.Levels.{level_first, rest_first, level_next, rest_next, level_small, level_high}
use Rattle.spl_radical.proofs.radical.level_for.Goals as goal

pub levels-init : goal.levels-init
levels-init c = record {
  low = level_first c.args.p c.args.m c.requires.positive;
  value = rest_first c.args.p c.args.m;
}

pub levels-preserved : goal.levels-preserved
levels-preserved c =
    let l = c.levels in
    record {
      low = level_next c.args.p c.args.m l.level l.rest l.invariant.value (omega arith);
      value = rest_next c.args.p c.args.m l.level l.rest l.invariant.value;
    }

pub overflow_add-level : goal.overflow_add-level
overflow_add-level c =
    let l = c.levels in
    let h = level_small c.args.p c.args.m l.level c.requires.base l.invariant.low c.requires.small in
    omega arith

pub returns-clause-high : goal.returns-clause-high
returns-clause-high c =
    let l = c.levels in
    level_high c.args.p c.args.m l.level l.rest c.requires.base l.invariant.value (λ h. omega arith)
