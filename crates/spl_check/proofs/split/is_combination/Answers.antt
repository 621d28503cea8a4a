use Rattle.std.proofs.Common.{◌/◌, ◌%◌, sym, ◌∙◌, arith, below_more}
use Rattle.std.proofs.lemmas.Bool.{both_ways}
use Rattle.spl_check.proofs.Maps.{CombinesAt}
use Rattle.spl_check.proofs.Places.{at_places, place-row, place-column}
use Rattle.spl_check.proofs.Tests.{yes, no}
use Rattle.spl_check.proofs.split.is_combination.Goals as goal

pub product_entry-requires : goal.product_entry-requires
product_entry-requires g c = record {
  zero_elem = c.requires.zero_elem;
  zero = c.requires.zero;
  left = c.requires.left;
  right = c.requires.right;
  row = place-row c.args.n c.loop-p.p c.loop-p-test.true;
  column = place-column c.args.n c.loop-p.p c.loop-p-test.true;
}

pub combination_entry-requires : goal.combination_entry-requires
combination_entry-requires g c = record {
  zero_elem = c.requires.zero_elem;
  zero = c.requires.zero;
  weights = c.requires.weights;
  maps = c.requires.maps;
  row = place-row c.args.n c.loop-p.p c.loop-p-test.true;
  column = place-column c.args.n c.loop-p.p c.loop-p-test.true;
}

pub loop-p-preserved : goal.loop-p-preserved
loop-p-preserved g c = below_more _ _ c.loop-p.invariant
    (sym c.in_ok-product.ensures.value ∙ c.eq.ensures.0 c.if-not-eq.false ∙ c.in_ok-combination.ensures.value)

pub returns : goal.returns
returns g c =
    let o = g.F.Field.ops c.args.f.now in
    let n = c.args.n in
    yes (λ r s r_in s_in. at_places n (CombinesAt o n c.args.maps.now c.args.a.now c.args.b.now c.args.weights.now)
    (λ p p_in. c.loop-p.invariant p (omega (arith, p_in, c.loop-p-test.false))) r s r_in s_in)

pub returns-then-not-eq : goal.returns-then-not-eq
returns-then-not-eq g c =
    let n = c.args.n in
    let p = c.loop-p.p in
    let p_in = c.loop-p-test.true in
    no (λ h. both_ways c.eq.result c.if-not-eq.true (c.eq.ensures.1
    (c.in_ok-product.ensures.value ∙ h (p / n) (p % n) (place-row n p p_in) (place-column n p p_in)
    ∙ sym c.in_ok-combination.ensures.value)))
