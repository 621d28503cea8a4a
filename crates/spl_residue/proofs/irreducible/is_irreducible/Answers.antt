use Rattle.std.proofs.Common.{refl, sym, ◌∙◌, subst, arith, ◌≡◌, ◌≤◌, ◌*◌, ◌+◌, suc}
use Rattle.std.proofs.Math.Bool.{true≢false}
use Rattle.theory_rings.specs.Polynomial.{degree}
use Rattle.theory_remainders.specs.RemainderLaws.{IsRemainderOf}
use Rattle.theory_remainders.proofs.Divisions.{power_coefficients}
use Rattle.theory_remainders.proofs.IrreducibleTest.{no_steps_variable, one_more, reducible, irreducible_of_steps}
use Rattle.theory_remainders.proofs.IrreducibleTest.{degree_of_length, AreStepsDone}
use Rattle.spl_field.specs.SmallField.{small_ops, small_laws}
use Rattle.spl_residue.proofs.Numbers.{small_numbers, size-small_numbers}
use Rattle.spl_residue.proofs.irreducible.is_irreducible.Goals as goal

pub loop-init : goal.loop-init
loop-init c = no_steps_variable (small_ops c.args.f.now) (small_laws c.args.f.now) (small_numbers c.args.f.now)
    c.args.a.now c.in_ok-power.power c.in_ok-power.ensures

pub pow_mod-requires-clause-self_over : goal.pow_mod-requires-clause-self_over
pow_mod-requires-clause-self_over c = c.loop.invariant.polynomial.over

pub returns-then-not-branch : goal.returns-then-not-branch
returns-then-not-branch c =
    let o = small_ops c.args.f.now in
    let L = small_laws c.args.f.now in
    let v = c.in_ok-power-2 in
    let d = c.in_ok-difference in
    let e : degree c.args.a.now ≡ c.in-Some.degree =
    degree_of_length c.args.a.now c.in-Some.degree c.in-Some.ensures.degree in
    let below = c.loop-test.true in
    let long : 2 * suc c.loop.counter ≤ degree c.args.a.now = omega arith in
    let s : IsRemainderOf o (power_coefficients o L c.loop.power (let N = small_numbers c.args.f.now in N.size))
    c.args.a.now v.power =
    subst (λ n. IsRemainderOf o (power_coefficients o L c.loop.power n) c.args.a.now v.power)
    (c.from-size.ensures ∙ c.size.ensures.size ∙ sym (size-small_numbers c.args.f.now)) v.ensures.value in (
      λ t. absurd (true≢false (sym t)),
      λ i. absurd (reducible o L (small_numbers c.args.f.now) c.args.a.now
          record { over = c.requires; trimmed = c.degree.ensures.trimmed } c.loop.counter c.loop.power v.power
          c.in_ok-minus_x.minus_x d.difference record { over = v.ensures.over; trimmed = v.ensures.trimmed }
          c.in_ok-minus_x.ensures.over
          record { over = d.ensures.over; trimmed = d.ensures.trimmed } c.loop.invariant s c.in_ok-minus_x.ensures.value
          d.ensures.value (λ h. true≢false (sym (c.in_ok-are_coprime.ensures.1 h) ∙ c.if-not-branch.true)) long i),
    )

pub loop-preserved : goal.loop-preserved
loop-preserved c =
    let o = small_ops c.args.f.now in
    let L = small_laws c.args.f.now in
    let v = c.in_ok-power-2 in
    let d = c.in_ok-difference in
    let s : IsRemainderOf o (power_coefficients o L c.loop.power (let N = small_numbers c.args.f.now in N.size))
    c.args.a.now v.power =
    subst (λ n. IsRemainderOf o (power_coefficients o L c.loop.power n) c.args.a.now v.power)
    (c.from-size.ensures ∙ c.size.ensures.size ∙ sym (size-small_numbers c.args.f.now)) v.ensures.value in
    let next : suc c.loop.counter ≡ c.loop.counter + 1 = omega arith in
    subst (λ n. AreStepsDone o L (small_numbers c.args.f.now) c.args.a.now n v.power) next
    (one_more o L (small_numbers c.args.f.now) c.args.a.now
    record { over = c.requires; trimmed = c.degree.ensures.trimmed } c.loop.counter c.loop.power v.power
    c.in_ok-minus_x.minus_x d.difference record { over = v.ensures.over; trimmed = v.ensures.trimmed }
    c.in_ok-minus_x.ensures.over
    record { over = d.ensures.over; trimmed = d.ensures.trimmed } c.loop.invariant s c.in_ok-minus_x.ensures.value
    d.ensures.value (c.in_ok-are_coprime.ensures.0 c.if-not-branch.false))

pub returns : goal.returns
returns c =
    let o = small_ops c.args.f.now in
    let e : degree c.args.a.now ≡ c.in-Some.degree =
    degree_of_length c.args.a.now c.in-Some.degree c.in-Some.ensures.degree in
    let n = c.if-degree-eq0.false in
    let past = c.loop-test.false in (
      λ t. irreducible_of_steps o (small_laws c.args.f.now) (small_numbers c.args.f.now) c.args.a.now c.loop.power
          c.loop.counter record { over = c.requires; trimmed = c.degree.ensures.trimmed } (omega arith) (omega arith)
          c.loop.invariant,
      λ i. refl,
    )
