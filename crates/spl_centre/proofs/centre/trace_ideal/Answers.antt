use Rattle.std.proofs.Common.{◌≢◌, length, sym, ◌∙◌, subst}
use Rattle.spl_fraction.specs.Fractions.{field_of}
use Rattle.spl_fraction.specs.FractionsOver.{fractions_over, fractions_laws}
use Rattle.spl_centre.specs.TraceIdeal.{IsTraceIdeal}
use Rattle.spl_centre.proofs.Characteristic.{times_one-nonzero_over}
use Rattle.spl_centre.proofs.Radicals.{nondegenerate, ideal_claim}
use Rattle.spl_centre.proofs.centre.trace_ideal.Goals as goal

pub returns-then-dim-eq0 : goal.returns-then-dim-eq0
returns-then-dim-eq0 c =
    let f = field_of c.args.f.now in
    let a = c.args.a.now in
    nondegenerate (fractions_over f)
    (fractions_laws f) a c.requires.over c.requires.associative c.requires.identity
    c.in_ok-radical.radical.rows (sym c.dim.ensures ∙ c.if-dim-eq0.true) c.in_ok-radical.ensures.members

pub returns : goal.returns
returns c =
    let f = field_of c.args.f.now in
    let o = fractions_over f in
    let a = c.args.a.now in
    let rows = c.in_ok-radical.radical.rows in
    let basis = rw c.in_ok-radical.ensures.width at c.in_ok-radical.ensures.basis in
    let some : length rows ≢ 0 = λ e. c.if-dim-eq0.false (c.dim.ensures ∙ e) in
    let claim = ideal_claim o
    (fractions_laws f) a c.requires.over c.requires.associative c.requires.identity rows basis some
    c.in_ok-radical.ensures.members
    (times_one-nonzero_over f a.dim c.requires.apart) in
    subst (λ tuples. IsTraceIdeal o a tuples) (sym (c.into_list.ensures ∙ c.into_rows.ensures))
    (record { claim = claim; spans = c.in_ok-radical.ensures.members })
