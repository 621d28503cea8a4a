use Rattle.std.proofs.Common.{◌≡◌, [], get_or, length, sym, ◌∙◌, subst, arith}
use Rattle.std.proofs.lemmas.List.{get_or_default}
use Rattle.theory_rings.specs.Ops.{IsElem}
use Rattle.spl_field.specs.SmallField.{small_ops, small_laws}
use Rattle.theory_fractions.specs.PolynomialLists.{Divides}
use Rattle.theory_fractions.specs.FractionOps.{fraction_ops}
use Rattle.theory_fractions.specs.CommonDenominator.{as_fraction}
use Rattle.theory_fractions.proofs.ElementClauses.{lowest_of_elem}
use Rattle.theory_fractions.proofs.CommonDenominators.{divides_of_clears}
use Rattle.spl_numerators.specs.Numerators.{HasMultiples}
use Rattle.spl_numerators.proofs.Multiples.{no_multiples, more_multiples}
use Rattle.spl_numerators.proofs.numerators.multiples_of.Goals as goal

pub loop-i-init : goal.loop-i-init
loop-i-init c =
    no_multiples (small_ops c.args.f.now) (small_laws c.args.f.now) c.args.c.now c.args.list.now c.new-items.result
    c.new-items.ensures

pub loop-i-preserved : goal.loop-i-preserved
loop-i-preserved c =
    let o = small_ops c.args.f.now in
    let L = small_laws c.args.f.now in
    let K = fraction_ops o L in
    let i = c.loop-i.i in
    let list = c.args.list.now in
    let p = c.in_ok-multiple_of in
    let item = c.index-list-i.is ∙ get_or_default list i c.index-list-i.result K.zero c.loop-i-test.true in
    more_multiples o L c.args.c.now list i c.loop-i.items c.push.new.self p.field-0 c.loop-i.invariant
    c.in_ok-push.ensures.ok record { over = p.ensures.over; trimmed = p.ensures.trimmed }
    (subst (λ w. as_fraction o p.field-0 ≡ K.mul (as_fraction o c.args.c.now) w) item p.ensures.value)

pub multiple_of-requires-clause-elem : goal.multiple_of-requires-clause-elem
multiple_of-requires-clause-elem c =
    let K = fraction_ops (small_ops c.args.f.now) (small_laws c.args.f.now) in
    let i = c.loop-i.i in
    let list = c.args.list.now in
    subst (IsElem K)
    (sym (c.index-list-i.is ∙ get_or_default list i c.index-list-i.result K.zero c.loop-i-test.true))
    (c.requires.elems i K.zero c.loop-i-test.true)

pub multiple_of-requires-clause-divides : goal.multiple_of-requires-clause-divides
multiple_of-requires-clause-divides c =
    let o = small_ops c.args.f.now in
    let L = small_laws c.args.f.now in
    let i = c.loop-i.i in
    let list = c.args.list.now in
    let w = get_or list i ([], []) in
    let below = c.loop-i-test.true in
    let item = c.index-list-i.is ∙ get_or_default list i c.index-list-i.result ([], []) below in
    subst (λ x. Divides o x.1 c.args.c.now) (sym item)
    (divides_of_clears o L c.args.c.now w c.requires.c_over (lowest_of_elem o L w (c.requires.elems i ([], []) below))
    (c.requires.clears i ([], []) below))

pub returns : goal.returns
returns c =
    let whole : c.loop-i.i ≡ length c.args.list.now = omega (arith, c.loop-i-test.false, c.loop-i.auto) in
    subst
    (λ n. HasMultiples (small_ops c.args.f.now) (small_laws c.args.f.now) c.args.c.now c.args.list.now n c.loop-i.items)
    whole c.loop-i.invariant
