use Rattle.std.proofs.Common.{◌≡◌, MatchOption, subst, arith, suc, ◌+◌}
use Rattle.theory_fractions.specs.PolynomialLists.{IsPolynomialList}
use Rattle.spl_field.specs.SmallField.{small_ops}
use Rattle.spl_factor.specs.Steps.{ring, poly, DividesList}
use Rattle.spl_factor.proofs.Quotients.{next_division, shorter}
use Rattle.spl_factor.proofs.gcd.divide_out.Goals as goal

pub steps-smaller : goal.steps-smaller
steps-smaller c =
    let f = c.args.f.now in
    let b = c.args.b.now in
    let r = c.steps.rest in
    let h = subst (λ v. MatchOption v (DividesList f b r → ⊥) (λ q. IsPolynomialList (small_ops f) q
    × (poly f r ≡ (ring f).◌⊗◌ (poly f q) (poly f b)))) c.in-Some.is c.in_ok-quotient.ensures in
    shorter f r b c.in-Some.quotient c.steps.invariant.list c.requires.b_list c.requires.positive h.0 h.1

pub steps-preserved : goal.steps-preserved
steps-preserved c =
    let f = c.args.f.now in
    let b = c.args.b.now in
    let r = c.steps.rest in
    let h = subst (λ v. MatchOption v (DividesList f b r → ⊥) (λ q. IsPolynomialList (small_ops f) q
    × (poly f r ≡ (ring f).◌⊗◌ (poly f q) (poly f b)))) c.in-Some.is c.in_ok-quotient.ensures in
    let e : c.steps.exponent + 1 ≡ suc c.steps.exponent = omega arith in
    next_division f c.args.a b c.steps.exponent (c.steps.exponent + 1) r c.in-Some.quotient c.requires.b_list
    c.requires.positive c.steps.invariant h.0 h.1 e
