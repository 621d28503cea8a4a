use Rattle.std.proofs.Common.{sym, ◌∙◌, subst, w64, to_z, of_z}
use Rattle.std.proofs.lemmas.Int.{to_z-of_z}
use Rattle.spl_field.specs.SmallField.{small_ops, small_laws}
use Rattle.spl_fraction.specs.Multiplicity.{HasMultiplicity}
use Rattle.spl_fraction.specs.Valuation.{HasValuation}
use Rattle.spl_fraction.proofs.Multiplicities.{valuation_of_multiplicities}
use Rattle.spl_fraction.proofs.valuation.valuation_of.Goals as goal

pub returns-in_ok-below-in-Finite-clause-value : goal.returns-in_ok-below-in-Finite-clause-value
returns-in_ok-below-in-Finite-clause-value c =
    let o = small_ops c.args.f.now in
    let w = c.args.a.now in
    let s = c.in_ok-above-in-Finite in
    let t = c.in_ok-below-in-Finite in
    let d = c.difference in
    let m = c.in-Finite.poly in
    let n = to_z w64 (of_z w64 d.result) in
    subst (λ p. HasValuation o p w n) (sym c.in-Finite.is)
    (valuation_of_multiplicities o (small_laws c.args.f.now) m w s.above t.below n
    (subst (λ x. HasMultiplicity o m x s.above) c.numerator-in-Finite.ensures.value s.ensures.value)
    (subst (λ x. HasMultiplicity o m x t.below) c.denominator.ensures.value t.ensures.value)
    (to_z-of_z w64 d.result (record { sfits = d.type_inv }) ∙ d.ensures))
