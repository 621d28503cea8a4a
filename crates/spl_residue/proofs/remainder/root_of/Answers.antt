use Rattle.std.proofs.Common.{sym, ◌∙◌, ap, ap₂, subst, arith, ℕ, zero, suc, ◌≡◌, ◌+◌, ◌-◌, ◌*◌, ◌/◌, ◌^◌, length}
use Rattle.theory_rings.specs.Power.{power_of}
use Rattle.theory_rings.specs.Polynomial.{degree}
use Rattle.theory_remainders.specs.Irreducible.{IsIrreducible}
use Rattle.theory_remainders.specs.RemainderLaws.{IsRemainder}
use Rattle.theory_remainders.proofs.IrreducibleLists.{two_le_length}
use Rattle.theory_remainders.proofs.IrreducibleTest.{degree_of_length}
use Rattle.theory_remainders.proofs.RemainderRoots.{no_powers, next_power, root_of_powers}
use Rattle.spl_field.specs.SmallField.{small_ops, characteristic, small_laws}
use Rattle.spl_residue.specs.ResidueOver.{residues_over}
use Rattle.spl_residue.proofs.Numbers.{small_numbers, size-small_numbers, size-div_mul}
use Rattle.spl_residue.proofs.remainder.root_of.Goals as goal

pub loop-init : goal.loop-init
loop-init c =
    let o = small_ops c.args.f.now in
    let m = c.args.modulus.now in
    let w = c.in_ok-power in
    record {
      remainder = subst (IsRemainder o m) (sym w.ensures.value) c.requires.element;
      value = λ i n e.
          let z : 0 ≡ n = omega arith in
          subst (λ k. w.power ≡ power_of (residues_over c.args.f.now m i) c.args.a.now
          ((let N = small_numbers c.args.f.now in N.size) ^ k)) z
          (no_powers o (small_laws c.args.f.now) m i (small_numbers c.args.f.now) c.args.a.now w.power
          c.requires.element w.ensures.value);
    }

pub loop-preserved : goal.loop-preserved
loop-preserved c = record { remainder = smaller; value = go }
  where
    smaller : IsRemainder (small_ops c.args.f.now) c.args.modulus.now c.in_ok-power-2.power
    smaller = let v = c.in_ok-power-2 in record {
      polynomial = record { over = v.ensures.over; trimmed = v.ensures.trimmed };
      smaller = v.ensures.value.2.smaller;
    }

    go : (i : IsIrreducible (small_ops c.args.f.now) c.args.modulus.now) (n : ℕ) → c.loop.counter + 1 ≡ n + 2
        → c.in_ok-power-2.power ≡ power_of (residues_over c.args.f.now c.args.modulus.now i) c.args.a.now
        ((let N = small_numbers c.args.f.now in N.size) ^ n)
    go i zero e = let l = c.loop.auto.counter in absurd (omega arith)
    go i (suc n) e =
        let same : c.loop.counter ≡ n + 2 = omega arith in
        let v = c.in_ok-power-2 in
        next_power (small_ops c.args.f.now) (small_laws c.args.f.now) c.args.modulus.now i
        (small_numbers c.args.f.now) c.args.a.now c.loop.power v.power n c.from-size.result c.requires.element
        (c.loop.invariant.value i n same)
        (c.from-size.ensures ∙ c.size.ensures.size ∙ sym (size-small_numbers c.args.f.now))
        c.loop.invariant.remainder smaller v.ensures.value

pub returns-clause-value : goal.returns-clause-value
returns-clause-value c = λ i.
    let o = small_ops c.args.f.now in
    let m = c.args.modulus.now in
    let v = c.in_ok-pow_mod in
    let n : ℕ = c.loop.counter - 2 in
    let low = c.loop.auto.counter in
    let high = c.loop.auto.counter-end in
    let past = c.loop-test.false in
    let long = ap length c.as_slice-end.ensures in
    let two = two_le_length o (small_laws c.args.f.now) m i in
    let same : c.loop.counter ≡ n + 2 = omega arith in
    let d : suc n ≡ degree m = sym (degree_of_length m (suc n) (omega arith)) in
    let exponent : c.from-size.result / c.from.result * characteristic c.args.f.now
    ≡ (let N = small_numbers c.args.f.now in N.size) =
    ap₂ (λ x y. x / y * characteristic c.args.f.now) (c.from-size.ensures ∙ c.size.ensures.size)
    (c.from.ensures ∙ c.p.ensures.p) ∙ size-div_mul c.args.f.now ∙ sym (size-small_numbers c.args.f.now) in
    root_of_powers o (small_laws c.args.f.now) m i (small_numbers c.args.f.now) c.args.a.now c.loop.power v.field-0
    n (c.from-size.result / c.from.result) (characteristic c.args.f.now) c.requires.element
    (c.loop.invariant.value i n same) exponent d c.loop.invariant.remainder
    record {
      polynomial = record { over = v.ensures.over; trimmed = v.ensures.trimmed };
      smaller = v.ensures.value.2.smaller;
    } v.ensures.value
