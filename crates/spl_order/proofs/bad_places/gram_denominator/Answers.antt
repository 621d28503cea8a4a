use Rattle.std.proofs.Common.{subst, sym}
use Rattle.spl_field.specs.SmallField.{small_ops, small_laws}
use Rattle.theory_rows.specs.Rows.{IsPolynomialMatrix}
use Rattle.theory_bases.specs.Bases.{IsDenominatorOf, tuples_of}
use Rattle.spl_order.proofs.GramRows.{gram-matrix, gram_denominator_is}
use Rattle.spl_order.proofs.bad_places.gram_denominator.Goals as goal

pub gram_by_form-requires-clause-order : goal.gram_by_form-requires-clause-order
gram_by_form-requires-clause-order c = c.in_ok-dual.ensures.basis

pub least_denominator-requires-clause-c : goal.least_denominator-requires-clause-c
least_denominator-requires-clause-c c = c.in_ok-gram.ensures.polynomial

pub least_denominator-requires-clause-nonzero : goal.least_denominator-requires-clause-nonzero
least_denominator-requires-clause-nonzero c = c.in_ok-gram.ensures.nonzero

pub least_denominator-requires-clause-rows : goal.least_denominator-requires-clause-rows
least_denominator-requires-clause-rows c =
    let o = small_ops c.args.f.now in
    let L = small_laws c.args.f.now in
    let B = c.requires.order in
    let D = c.in_ok-dual.ensures.basis in
    let g = c.in_ok-gram.gram in
    subst (λ w. IsPolynomialMatrix o w c.as_slice.result.now) (sym c.dim.ensures.dim)
    (subst (IsPolynomialMatrix o c.args.a.now.dim) (sym c.as_slice.ensures)
    (gram-matrix o L c.args.a.now c.requires.over c.requires.associative (tuples_of o L c.args.order.now)
    (tuples_of o L c.in_ok-dual.dual) B.independent D.independent c.in_ok-dual.ensures.dual g.denominator g.numerators
    c.in_ok-gram.ensures))

pub returns : goal.returns
returns c =
    let o = small_ops c.args.f.now in
    let L = small_laws c.args.f.now in
    let B = c.requires.order in
    let D = c.in_ok-dual.ensures.basis in
    let g = c.in_ok-gram.gram in
    let d = c.in_ok-found.found in
    record {
      polynomial = c.in_ok-found.ensures.polynomial;
      denominator = gram_denominator_is o L c.args.a.now c.requires.over c.requires.associative
          (tuples_of o L c.args.order.now) (tuples_of o L c.in_ok-dual.dual) B.independent D.independent
          c.in_ok-dual.ensures.dual g.denominator g.numerators c.in_ok-gram.ensures d
          (subst (λ x. IsDenominatorOf o (tuples_of o L (record { denominator = g.denominator; numerators = x })) d)
          c.as_slice.ensures c.in_ok-found.ensures.least);
    }
