use Rattle.std.proofs.Common.{◌==◌, cond, ap₂, sym, ◌∙◌, arith, below_more}
use Rattle.std.proofs.lemmas.Bool.{both_ways}
use Rattle.spl_check.proofs.Places.{place-row, place-column}
use Rattle.spl_check.proofs.Tests.{yes, no}
use Rattle.spl_check.proofs.split.is_matrix_unit.Goals as goal

pub combination_entry-requires : goal.combination_entry-requires
combination_entry-requires g c = record {
  zero_elem = c.in_ok-zero.ensures.elem;
  zero = c.in_ok-zero.ensures.value;
  weights = c.requires.weights;
  maps = c.requires.maps;
  row = place-row c.args.n c.loop-q.q c.loop-q-test.true;
  column = place-column c.args.n c.loop-q.q c.loop-q-test.true;
}

pub loop-q-preserved : goal.loop-q-preserved
loop-q-preserved g c = below_more _ _ c.loop-q.invariant
    (sym c.in_ok-item.ensures.value ∙ c.is_chosen.ensures.0 c.if-not-is_chosen.false
    ∙ ap₂ (λ x y. cond (c.loop-q.q == c.args.p) x y) c.in_ok-one.ensures.value c.in_ok-zero.ensures.value)

pub returns : goal.returns
returns g c = yes (λ q q_in. c.loop-q.invariant q (omega (arith, q_in, c.loop-q-test.false)))

pub returns-then-not-is_chosen : goal.returns-then-not-is_chosen
returns-then-not-is_chosen g c =
    no (λ h. both_ways c.is_chosen.result c.if-not-is_chosen.true (c.is_chosen.ensures.1
    (c.in_ok-item.ensures.value ∙ h c.loop-q.q c.loop-q-test.true
    ∙ sym (ap₂ (λ x y. cond (c.loop-q.q == c.args.p) x y) c.in_ok-one.ensures.value c.in_ok-zero.ensures.value))))
