use Rattle.std.proofs.Common.{[], get_or, sym, subst, ◌∙◌, arith, below_more}
use Rattle.std.proofs.lemmas.Bool.{both_ways}
use Rattle.std.proofs.lemmas.List.{get_or_default}
use Rattle.theory_spaces.specs.Tuples.{IsTuple}
use Rattle.spl_check.proofs.SideSpans.{to_tuples, to_rows}
use Rattle.spl_check.proofs.Tests.{yes, no}
use Rattle.spl_check.proofs.ideal.is_closed.Goals as goal

pub holds_products-requires : goal.holds_products-requires
holds_products-requires g c =
    let o = g.F.Field.ops c.args.f.now in
    let r_in = c.loop-r-test.true in
    record {
      over = c.requires.over;
      subspace = c.requires.subspace;
      width = c.requires.width;
      element = subst (IsTuple o c.args.algebra.now.dim)
          (sym (c.index-tuples-r.is ∙ get_or_default c.args.tuples.now c.loop-r.r c.index-tuples-r.result [] r_in))
          (c.requires.tuples c.loop-r.r [] r_in);
    }

pub loop-r-preserved : goal.loop-r-preserved
loop-r-preserved g c =
    let o = g.F.Field.ops c.args.f.now in
    let L = g.met.F.Field.laws c.args.f.now in
    let tuples = c.args.tuples.now in
    let r = c.loop-r.r in
    let r_in = c.loop-r-test.true in
    below_more _ _ c.loop-r.invariant (λ i i_in.
    to_tuples o L c.args.algebra.now c.requires.over c.args.space.now.rows tuples c.requires.span c.args.is_left
    c.index-tuples-r.result (get_or tuples r []) i
    (c.index-tuples-r.is ∙ get_or_default tuples r c.index-tuples-r.result [] r_in) (c.requires.tuples r [] r_in)
    (c.in_ok-holds_products.ensures.0 c.if-not-branch.false i i_in))

pub returns : goal.returns
returns g c =
    yes (λ i r i_in r_in. c.loop-r.invariant r (omega (arith, r_in, c.loop-r-test.false)) i i_in)

pub returns-then-not-branch : goal.returns-then-not-branch
returns-then-not-branch g c =
    let o = g.F.Field.ops c.args.f.now in
    let L = g.met.F.Field.laws c.args.f.now in
    let tuples = c.args.tuples.now in
    let r = c.loop-r.r in
    let r_in = c.loop-r-test.true in
    no (λ h. both_ways c.in_ok-holds_products.field-0 c.if-not-branch.true
    (c.in_ok-holds_products.ensures.1 (λ i i_in.
    to_rows o L c.args.algebra.now c.requires.over c.args.space.now.rows tuples c.requires.span c.args.is_left
    c.index-tuples-r.result (get_or tuples r []) i
    (sym (c.index-tuples-r.is ∙ get_or_default tuples r c.index-tuples-r.result [] r_in)) (c.requires.tuples r [] r_in)
    (h i r i_in r_in))))
