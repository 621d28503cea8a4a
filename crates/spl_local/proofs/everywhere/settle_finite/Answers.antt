use Rattle.std.proofs.Common.{◌≡◌, sym, subst}
use Rattle.theory_rings.specs.Polynomial.{degree}
use Rattle.theory_rings.specs.Sum.{at}
use Rattle.theory_fractions.specs.PolynomialLists.{IsOver}
use Rattle.theory_fractions.proofs.CommonDenominators.{nonzero_of_monic}
use Rattle.spl_field.specs.SmallField.{small_ops, small_laws}
use Rattle.spl_fraction.specs.Fractions.{field_of}
use Rattle.spl_factor.specs.Factorisation.{AreFactors, IsMultipleOfProduct}
use Rattle.spl_local.specs.Everywhere.{IsUnimodularOff}
use Rattle.spl_local.proofs.PlaceSteps.{closed, off_at_start}
use Rattle.spl_local.proofs.InfinitePlace.{holds_finite}
use Rattle.spl_local.proofs.everywhere.settle_finite.Goals as goal

pub bad_places-requires-clause-closed : goal.bad_places-requires-clause-closed
bad_places-requires-clause-closed c =
    closed (field_of c.args.f.now) c.args.a.now c.requires.over c.requires.associative c.in_ok-start.start
    c.in_ok-start.ensures.order

pub factor-requires-clause-over : goal.factor-requires-clause-over
factor-requires-clause-over c =
    let d = c.in_ok-bad in
    subst (λ q. IsOver (small_ops q) d.bad) (sym c.field.ensures) d.ensures.polynomial.over

pub factor-requires-clause-nonzero : goal.factor-requires-clause-nonzero
factor-requires-clause-nonzero c =
    let F = field_of c.args.f.now in
    let d = c.in_ok-bad in
    let l = d.ensures.denominator.least in
    nonzero_of_monic (small_ops F) (small_laws F) d.bad l.monic

pub settle_factors-requires-clause-factors : goal.settle_factors-requires-clause-factors
settle_factors-requires-clause-factors c =
    let F = field_of c.args.f.now in
    let x = c.in_ok-factors in
    subst (AreFactors (small_ops F)) (sym c.as_slice.ensures)
    (subst (λ q. AreFactors (small_ops q) x.factors.list) c.field.ensures x.ensures.factors)

pub settle_factors-requires-clause-off : goal.settle_factors-requires-clause-off
settle_factors-requires-clause-off c =
    let F = field_of c.args.f.now in
    let A = c.args.a.now in
    let b = c.in_ok-start in
    let d = c.in_ok-bad in
    let x = c.in_ok-factors in
    subst (λ xs. IsUnimodularOff F A 0 xs b.start) (sym c.as_slice.ensures)
    (off_at_start F A c.requires.over c.requires.associative b.start b.ensures.basis b.ensures.order d.bad
    d.ensures.polynomial d.ensures.denominator x.factors.leading
    (subst (λ q. x.factors.leading ≡ at (small_ops q) d.bad (degree d.bad)) c.field.ensures x.ensures.leading)
    x.factors.list (subst (λ q. AreFactors (small_ops q) x.factors.list) c.field.ensures x.ensures.factors)
    (subst (λ q. IsMultipleOfProduct (small_ops q) d.bad x.factors.leading x.factors.list) c.field.ensures
    x.ensures.product))

pub returns-clause-first : goal.returns-clause-first
returns-clause-first c =
    let b = c.in_ok-start in
    let r = c.in_ok-found in
    holds_finite (field_of c.args.f.now) c.args.a.now c.requires.over c.requires.associative c.args.one.now
    c.requires.one b.start b.ensures.basis b.ensures.start r.found r.ensures.places r.ensures.holds
