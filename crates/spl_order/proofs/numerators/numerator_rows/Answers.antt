use Rattle.std.proofs.Common.{◌≡◌, [], length, ◌∙◌, sym, subst, arith, All}
use Rattle.std.proofs.lemmas.List.{get_or_default}
use Rattle.theory_rings.specs.Ops.{IsElem}
use Rattle.spl_field.specs.SmallField.{small_ops, small_laws}
use Rattle.theory_fractions.specs.CommonDenominator.{Clears}
use Rattle.spl_fraction.specs.FractionsOver.{fractions_over}
use Rattle.spl_numerators.specs.Numerators.{HasMultiples}
use Rattle.spl_order.specs.Rows.{AreNumeratorRows}
use Rattle.spl_order.proofs.NumeratorRows.{no_rows, more_rows}
use Rattle.spl_order.proofs.numerators.numerator_rows.Goals as goal

pub loop-i-init : goal.loop-i-init
loop-i-init c =
    no_rows (small_ops c.args.f.now) (small_laws c.args.f.now) c.args.c.now c.args.tuples.now c.new-rows.result
    c.new-rows.ensures

pub loop-i-preserved : goal.loop-i-preserved
loop-i-preserved c =
    let o = small_ops c.args.f.now in
    let L = small_laws c.args.f.now in
    let i = c.loop-i.i in
    let list = c.args.tuples.now in
    let p = c.in_ok-multiples_of in
    let item = c.as_slice.ensures ∙ c.index-tuples-i.is
    ∙ get_or_default list i c.index-tuples-i.result [] c.loop-i-test.true in
    more_rows o L c.args.c.now list i c.loop-i.rows c.push.new.self p.field-0 c.loop-i.invariant
    c.in_ok-push.ensures.ok
    (subst (λ t. HasMultiples o L c.args.c.now t (length t) p.field-0) item p.ensures)

pub multiples_of-requires-clause-elems : goal.multiples_of-requires-clause-elems
multiples_of-requires-clause-elems c =
    let i = c.loop-i.i in
    let list = c.args.tuples.now in
    let item = c.as_slice.ensures ∙ c.index-tuples-i.is
    ∙ get_or_default list i c.index-tuples-i.result [] c.loop-i-test.true in
    subst (All (IsElem (fractions_over c.args.f.now))) (sym item) (c.requires.elems i [] c.loop-i-test.true)

pub multiples_of-requires-clause-clears : goal.multiples_of-requires-clause-clears
multiples_of-requires-clause-clears c =
    let i = c.loop-i.i in
    let list = c.args.tuples.now in
    let item = c.as_slice.ensures ∙ c.index-tuples-i.is
    ∙ get_or_default list i c.index-tuples-i.result [] c.loop-i-test.true in
    subst (All (Clears (small_ops c.args.f.now) c.args.c.now)) (sym item)
    (c.requires.clears i [] c.loop-i-test.true)

pub returns : goal.returns
returns c =
    let whole : c.loop-i.i ≡ length c.args.tuples.now = omega (arith, c.loop-i-test.false, c.loop-i.auto) in
    subst
    (λ n. AreNumeratorRows (small_ops c.args.f.now) (small_laws c.args.f.now) c.args.c.now c.args.tuples.now n
    c.loop-i.rows)
    whole c.loop-i.invariant
