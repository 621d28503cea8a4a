use Rattle.std.proofs.Common.{◌≡◌, suc, ◌-◌, length, ◌∙◌, ap, arith}
use Rattle.std.proofs.Math.Nat.{one-le-pow}
use Rattle.spl_field.specs.SmallField.{characteristic, modulus_of, small_ops}
use Rattle.spl_residue.specs.Residue.{field_of}
use Rattle.spl_radical.specs.LiftRing.{prime_of, digits_of, degree_of}
use Rattle.spl_radical.proofs.DigitElements.{codes_over, quotient_made, places_fit, degree_read}
use Rattle.spl_radical.proofs.roots.quotient_residue.Goals as goal

pub coefficients_of-requires-clause-power : goal.coefficients_of-requires-clause-power
coefficients_of-requires-clause-power c =
    let two = c.p.ensures.least in
    let e = c.from-p.ensures in
    let h = one-le-pow (suc (c.args.i - 1)) c.from-p.result (omega arith) in
    let q = c.power_of-power.ensures in
    omega arith

pub coefficients_of-requires-clause-within : goal.coefficients_of-requires-clause-within
coefficients_of-requires-clause-within c =
    let k = c.args.k.now in
    places_fit k (length c.as_slice.result.now - 1) (length c.modulus-d.result.now) c.args.numbers.now
    (degree_read k c.as_slice.result.now (c.as_slice.ensures ∙ c.modulus.ensures.value))
    (ap length c.modulus-d.ensures ∙ ap (λ f. length (modulus_of f)) c.field-f.ensures) c.requires.count

pub reduce_poly-requires : goal.reduce_poly-requires
reduce_poly-requires c =
    let k = c.args.k.now in
    let p_is : c.from-p.result ≡ prime_of k = c.from-p.ensures ∙ c.p.ensures.p ∙ ap characteristic c.field-f.ensures in
    let d_is : length c.modulus-d.result.now ≡ digits_of k = ap length c.modulus-d.ensures
    ∙ ap (λ f. length (modulus_of f)) c.field-f.ensures in
    let e_is : length c.as_slice.result.now - 1 ≡ degree_of k =
    degree_read k c.as_slice.result.now (c.as_slice.ensures ∙ c.modulus.ensures.value) in
    c.in_ok-poly.ensures.over (small_ops (field_of k))
    (codes_over k c.args.i c.requires.first c.from-p.result c.power_of-power.result (length c.modulus-d.result.now)
    (length c.as_slice.result.now - 1) c.args.numbers.now c.in_ok-codes.codes c.as_slice-2.result.now p_is
    c.power_of-power.ensures d_is e_is c.in_ok-codes.ensures c.as_slice-2.ensures)

pub returns-clause-value : goal.returns-clause-value
returns-clause-value c = λ l le.
    let k = c.args.k.now in
    let p_is : c.from-p.result ≡ prime_of k = c.from-p.ensures ∙ c.p.ensures.p ∙ ap characteristic c.field-f.ensures in
    let d_is : length c.modulus-d.result.now ≡ digits_of k = ap length c.modulus-d.ensures
    ∙ ap (λ f. length (modulus_of f)) c.field-f.ensures in
    let e_is : length c.as_slice.result.now - 1 ≡ degree_of k =
    degree_read k c.as_slice.result.now (c.as_slice.ensures ∙ c.modulus.ensures.value) in
    let made = c.in_ok-poly.ensures in
    let r = c.in_ok-residue in
    quotient_made k c.args.i c.requires.first c.from-p.result c.power_of-power.result (length c.modulus-d.result.now)
    (length c.as_slice.result.now - 1) c.args.numbers.now c.in_ok-codes.codes c.as_slice-2.result.now p_is
    c.power_of-power.ensures d_is e_is c.in_ok-codes.ensures c.as_slice-2.ensures c.in_ok-poly.poly r.residue made.value
    made.trimmed (made.over (small_ops (field_of k))
    (codes_over k c.args.i c.requires.first c.from-p.result c.power_of-power.result (length c.modulus-d.result.now)
    (length c.as_slice.result.now - 1) c.args.numbers.now c.in_ok-codes.codes c.as_slice-2.result.now p_is
    c.power_of-power.ensures d_is e_is c.in_ok-codes.ensures c.as_slice-2.ensures))
    r.ensures.elem r.ensures.value l le
