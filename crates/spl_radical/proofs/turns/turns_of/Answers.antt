use Rattle.std.proofs.Common.{◌≡◌, ◌-◌, ◌∙◌, [], length, get_or, ap, subst, arith}
use Rattle.theory_rings.specs.Sum.{table}
use Rattle.theory_chains.specs.NumberRows.{shifted_number}
use Rattle.spl_radical.specs.Multiples.{AreTurns}
use Rattle.spl_radical.proofs.TurnSteps.{one_turn, row_numbers, whole_row, next_turn}
use Rattle.spl_radical.proofs.turns.turns_of.Goals as goal

pub loop-v-init : goal.loop-v-init
loop-v-init c = one_turn c.args.q c.requires.positive c.args.back.now c.args.first c.new-out.result c.push.new.self
    c.requires.numbers c.new-out.ensures c.in_ok-push.ensures.ok

pub shifted_row-requires-clause-place : goal.shifted_row-requires-clause-place
shifted_row-requires-clause-place c =
    let e = ap length c.as_slice.ensures ∙ c.loop-v.invariant.count in
    let l = c.loop-v.auto.v in
    omega arith

pub shifted_row-requires-clause-numbers : goal.shifted_row-requires-clause-numbers
shifted_row-requires-clause-numbers c = (row_numbers c.args.q c.requires.positive c.args.back.now c.args.first
    c.loop-v.out c.as_slice.result.now c.loop-v.v c.loop-v.invariant c.loop-v.auto.v c.as_slice.ensures).below

pub shifted_row-requires-clause-whole : goal.shifted_row-requires-clause-whole
shifted_row-requires-clause-whole c = whole_row c.args.q c.requires.positive c.args.back.now c.args.first
    (get_or c.as_slice.result.now (c.loop-v.v - 1) []) c.requires.whole
    (row_numbers c.args.q c.requires.positive c.args.back.now c.args.first
    c.loop-v.out c.as_slice.result.now c.loop-v.v c.loop-v.invariant c.loop-v.auto.v c.as_slice.ensures)

pub loop-v-preserved : goal.loop-v-preserved
loop-v-preserved c = next_turn c.args.q c.requires.positive c.args.back.now c.args.first c.loop-v.out
    c.push-in-loop-v.new.self c.loop-v.v c.in_ok-shifted_row.field-0 c.loop-v.invariant c.loop-v.auto.v
    (c.in_ok-shifted_row.ensures ∙ ap (λ o. table (length (get_or o (c.loop-v.v - 1) []))
    (shifted_number c.args.q (length c.args.back.now) c.args.back.now (get_or o (c.loop-v.v - 1) [])))
    c.as_slice.ensures) c.in_ok-push-2.ensures.ok

pub returns : goal.returns
returns c =
    let n = length c.args.back.now in
    let a = c.loop-v.auto.v-end c.requires.digits in
    let b = c.loop-v-test.false in
    let e : c.loop-v.v ≡ n = omega arith in
    subst (AreTurns c.args.q c.args.back.now c.args.first c.loop-v.out) e c.loop-v.invariant
