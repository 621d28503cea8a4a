use Rattle.std.proofs.Common.{◌≡◌, [], length, sym, ◌∙◌, ap, subst, arith}
use Rattle.std.proofs.lemmas.List.{get_or_default}
use Rattle.theory_rings.specs.Polynomial.{IsTrimmed}
use Rattle.spl_field.specs.SmallField.{small_ops, small_laws}
use Rattle.theory_fractions.specs.PolynomialLists.{IsOver}
use Rattle.theory_fractions.specs.Fraction.{IsLowestTerms}
use Rattle.theory_fractions.proofs.CommonDenominators.{IsLeastOfFirst, over_one, least_of_none, least_of_more}
use Rattle.theory_fractions.proofs.CommonDenominators.{common_denominator}
use Rattle.spl_fraction.proofs.denominator.denominator_of.Goals as goal

pub loop-i-init : goal.loop-i-init
loop-i-init c =
    let o = small_ops c.args.f.now in
    let L = small_laws c.args.f.now in
    let e = sym c.in_ok-found.ensures in
    record {
      over = subst (IsOver o) e (over_one o L);
      trimmed = subst (IsTrimmed 0) e (λ z. omega (arith, z));
      least = subst (IsLeastOfFirst o L 0 c.args.list.now) e (least_of_none o L c.args.list.now);
    }

pub loop-i-preserved : goal.loop-i-preserved
loop-i-preserved c =
    let o = small_ops c.args.f.now in
    let L = small_laws c.args.f.now in
    let list = c.args.list.now in
    let found = c.in_ok-found-2 in
    let i = c.loop-i.i in
    let item = c.index-list-i.is ∙ get_or_default list i c.index-list-i.result ([], []) c.loop-i-test.true in
    record {
      over = found.ensures.over;
      trimmed = found.ensures.trimmed;
      least = least_of_more o L i list c.loop-i.found c.denominator.result.now found.found c.loop-i.invariant.over
          (c.denominator.ensures.over o
          (subst (λ w. IsLowestTerms o w.0 w.1) (sym item) (c.requires i ([], []) c.loop-i-test.true)))
          found.ensures.over (c.denominator.ensures.value ∙ ap (λ w. w.1) item)
          (λ j l. let low = c.requires j ([], []) (omega (arith, l, c.loop-i-test.true)) in low.denominator_over)
          c.loop-i.invariant.least found.ensures.value;
    }

pub returns-clause-value : goal.returns-clause-value
returns-clause-value c =
    let o = small_ops c.args.f.now in
    let L = small_laws c.args.f.now in
    let list = c.args.list.now in
    let h = c.loop-i.invariant in
    let whole : c.loop-i.i ≡ length list = omega (arith, c.loop-i-test.false, c.loop-i.auto) in
    common_denominator o L list c.loop-i.found h.over (λ i l. c.requires i ([], []) l)
    (subst (λ n. IsLeastOfFirst o L n list c.loop-i.found) whole h.least)
