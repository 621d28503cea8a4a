use Rattle.std.proofs.Common.{map, ◌∙◌, sym, ap, subst, All}
use Rattle.std.proofs.lemmas.Result.{IfOk-weaker}
use Rattle.spl_field.specs.SmallField.{small_ops, small_laws}
use Rattle.spl_fraction.specs.Fractions.{field_of}
use Rattle.theory_fractions.specs.PolynomialLists.{IsPolynomialList}
use Rattle.theory_fractions.proofs.CommonDenominators.{nonzero_of_monic}
use Rattle.theory_bases.specs.Bases.{IsBasis, fraction_over, tuples_of}
use Rattle.spl_order.proofs.MappedRows.{tables-map}
use Rattle.spl_order.proofs.basis.Basis.tuples.Goals as goal

pub tuples_over-requires-clause-den : goal.tuples_over-requires-clause-den
tuples_over-requires-clause-den c =
    let o = small_ops (field_of c.args.f.now) in
    let L = small_laws (field_of c.args.f.now) in
    let b = subst (IsBasis o L c.requires.0) (sym c.self.view_is) c.requires.1 in
    b.polynomial

pub tuples_over-requires-clause-nonzero : goal.tuples_over-requires-clause-nonzero
tuples_over-requires-clause-nonzero c =
    let o = small_ops (field_of c.args.f.now) in
    let L = small_laws (field_of c.args.f.now) in
    let b = subst (IsBasis o L c.requires.0) (sym c.self.view_is) c.requires.1 in
    nonzero_of_monic o L c.self.inside.denominator b.least.monic

pub tuples_over-requires-clause-rows : goal.tuples_over-requires-clause-rows
tuples_over-requires-clause-rows c =
    let o = small_ops (field_of c.args.f.now) in
    let L = small_laws (field_of c.args.f.now) in
    let b = subst (IsBasis o L c.requires.0) (sym c.self.view_is) c.requires.1 in
    subst (All (All (IsPolynomialList o))) (sym c.as_slice.ensures)
    (λ k d l k' d' l'. let r = b.rows k d l in record { over = r.over k' d' l'; trimmed = r.trimmed k' d' l' })

pub returns : goal.returns
returns c =
    let o = small_ops (field_of c.args.f.now) in
    let L = small_laws (field_of c.args.f.now) in
    let f = fraction_over o L c.self.inside.denominator in
    IfOk-weaker c.tuples_over.result _ _ (λ r e. e ∙ tables-map f c.as_slice.result.now
    ∙ ap (map (map f)) c.as_slice.ensures ∙ ap (tuples_of o L) c.self.view_is)
    c.tuples_over.ensures
