use Rattle.std.proofs.Common.{subst, ◌≡◌, length, slice_index, ◌∷◌, []}
use Rattle.theory_rings.proofs.Rings.Elements.{at-elem}
use Rattle.theory_remainders.proofs.CoprimeLists.{same_divisors, same_divisors_next, coprime_iff_constant}
use Rattle.theory_remainders.proofs.Cofactors.{IsCofactor, first_cofactor, second_cofactor, cofactor_step}
use Rattle.theory_remainders.proofs.Cofactors.{inverse_of_cofactor}
use Rattle.theory_remainders.proofs.IrreducibleLists.{two_le_length}
use Rattle.theory_remainders.proofs.RemainderValues.{coprime_to_modulus}
use Rattle.spl_field.specs.SmallField.{small_ops, small_laws}
use Rattle.spl_residue.proofs.Numbers.{constant_list}
use Rattle.spl_residue.proofs.inverse.inverse_of.Goals as goal

pub steps-init : goal.steps-init
steps-init c =
    let o = small_ops c.args.f.now in
    let L = small_laws c.args.f.now in
    let m = c.args.modulus.now in
    let a = c.args.a.now in
    let x = c.in_ok-first in
    let y = c.in_ok-second in
    record {
      divisors = same_divisors o L m a x.first y.second
          record { over = x.ensures.over; trimmed = x.ensures.trimmed }
          record { over = y.ensures.over; trimmed = y.ensures.trimmed } x.ensures.value y.ensures.value;
      first = first_cofactor o L m a x.first c.in_ok-first_factor.first_factor
          c.requires.irreducible.polynomial.over x.ensures.value c.in_ok-first_factor.ensures;
      second = second_cofactor o L m a y.second c.in_ok-second_factor.second_factor
          c.requires.remainder.polynomial.over y.ensures.value c.in_ok-second_factor.ensures;
    }

pub steps-preserved : goal.steps-preserved
steps-preserved c =
    let o = small_ops c.args.f.now in
    let L = small_laws c.args.f.now in
    let m = c.args.modulus.now in
    let a = c.args.a.now in
    let d = c.in_ok-division in
    let s = c.in_ok-factor in
    record {
      divisors = same_divisors_next o L m a c.steps.first c.steps.second d.division.quotient d.division.remainder
          c.steps.invariant.divisors d.ensures.quotient_over
          record { over = d.ensures.remainder_over; trimmed = d.ensures.remainder_trimmed } d.ensures.value;
      first = c.steps.invariant.second;
      second = cofactor_step o L m a c.steps.first c.steps.first_factor c.steps.second c.steps.second_factor
          d.division.quotient d.division.remainder s.factor c.steps.invariant.first c.steps.invariant.second
          d.ensures.quotient_over d.ensures.remainder_over s.ensures.over d.ensures.value s.ensures.value;
    }

pub constant_inverse-requires-clause-constant : goal.constant_inverse-requires-clause-constant
constant_inverse-requires-clause-constant c =
    let o = small_ops c.args.f.now in
    let L = small_laws c.args.f.now in
    let h = coprime_iff_constant o L c.args.modulus.now c.args.a.now c.steps.first c.steps.second
    c.steps.invariant.divisors (c.is_zero.ensures.0 c.steps-test.false) in
    h.1 (coprime_to_modulus o L c.args.modulus.now c.requires.irreducible c.args.a.now c.requires.remainder
    c.requires.nonzero)

pub returns-clause-value : goal.returns-clause-value
returns-clause-value c =
    let o = small_ops c.args.f.now in
    let L = small_laws c.args.f.now in
    let m = c.args.modulus.now in
    let a = c.args.a.now in
    let x = c.steps.first in
    let h = coprime_iff_constant o L m a x c.steps.second c.steps.invariant.divisors
    (c.is_zero.ensures.0 c.steps-test.false) in
    let one : length x ≡ 1 = h.1 (coprime_to_modulus o L m c.requires.irreducible a c.requires.remainder
    c.requires.nonzero) in
    let cof : IsCofactor o L m a (slice_index x 0 ∷ []) c.steps.first_factor =
    subst (λ r. IsCofactor o L m a r c.steps.first_factor) (constant_list x one) c.steps.invariant.first in
    let t = c.in_ok-multiple in
    let w = c.in_ok-rest_of in
    inverse_of_cofactor o L m a c.requires.irreducible.polynomial.over c.requires.remainder.polynomial.over
    (slice_index x 0) c.constant_inverse.result c.steps.first_factor t.multiple w.field-0
    (at-elem o L x c.steps.invariant.divisors.first.over 0) c.constant_inverse.ensures.elem
    c.constant_inverse.ensures.value cof t.ensures.polynomial.over w.ensures.remainder.polynomial.over t.ensures.value
    w.ensures.value (two_le_length o L m c.requires.irreducible)
