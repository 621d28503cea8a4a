use Rattle.std.proofs.Common.{◌≡◌, sym, ◌∙◌, ap, subst, length, get_or, suc, ◌-◌, ◌*◌, ◌/◌, ◌%◌, ◌^◌, ◌≤◌}
use Rattle.theory_rings.specs.Digits.{digit}
use Rattle.spl_field.specs.SmallField.{characteristic, modulus_of}
use Rattle.spl_residue.specs.Residue.{polynomial_of}
use Rattle.spl_radical.specs.LiftRing.{prime_of, size_of, digits_of, width_of, coefficient_of}
use Rattle.spl_radical.specs.Multiples.{AreTurns}
use Rattle.spl_radical.proofs.Elements.{width_by_length, positive_size, some_digits, whole_width, steps_are}
use Rattle.spl_radical.proofs.RowSteps.{opposites_below}
use Rattle.spl_radical.proofs.lift_ring.LiftRing.new.Goals as goal

pub back_of-requires : goal.back_of-requires
back_of-requires c = positive_size c.args.k.now c.args.l c.power_of-modulus.result (c.power_of-modulus.ensures
    ∙ ap (λ p. p ^ suc c.args.l) (c.from.ensures ∙ c.p.ensures.p ∙ ap characteristic c.field-f.ensures))

pub first_turn_of-requires : goal.first_turn_of-requires
first_turn_of-requires c = positive_size c.args.k.now c.args.l c.power_of-modulus.result (c.power_of-modulus.ensures
    ∙ ap (λ p. p ^ suc c.args.l) (c.from.ensures ∙ c.p.ensures.p ∙ ap characteristic c.field-f.ensures))

pub turns_of-requires : goal.turns_of-requires
turns_of-requires c =
    let k = c.args.k.now in
    let q = c.power_of-modulus.result in
    let s : q ≡ size_of k c.args.l = c.power_of-modulus.ensures
    ∙ ap (λ p. p ^ suc c.args.l) (c.from.ensures ∙ c.p.ensures.p ∙ ap characteristic c.field-f.ensures) in
    let positive = positive_size k c.args.l q s in
    let n = c.modulus-2.result.now in
    let b = c.as_slice-2.result.now in
    let B = opposites_below q (length n) (λ v. get_or n v 0) b positive (c.as_slice-2.ensures ∙ c.in_ok-back.ensures) in
    let F = opposites_below q c.in-Some.width
    (λ t. digit (prime_of k) (coefficient_of k (t / digits_of k)) (t % digits_of k)) c.in_ok-first.first positive
    c.in_ok-first.ensures in
    let d : length c.modulus-digits.result.now ≡ digits_of k = ap length c.modulus-digits.ensures
    ∙ ap (λ f. length (modulus_of f)) c.field-f.ensures in
    record {
      positive = positive;
      modulus = subst (λ x. x ≤ 2 ^ 40) (sym s) c.requires;
      digits = subst (λ x. 1 ≤ x) (sym B.count) (some_digits k c.field-f.result.now n c.field-f.ensures
          c.modulus-2.ensures);
      back = B.below;
      numbers = F.below;
      whole = whole_width k c.args.l (length b) c.in-Some.width c.in_ok-first.first
          (B.count ∙ ap length (c.modulus-2.ensures ∙ ap modulus_of c.field-f.ensures))
          (c.in-Some.ensures.1 ∙ ap (λ m. (length m - 1) * length c.modulus-digits.result.now)
          (c.as_slice.ensures ∙ c.modulus.ensures.value)
          ∙ ap (λ n. (length (polynomial_of k) - 1) * n) d ∙ width_by_length k) F.count;
    }

pub invariant_of-result : goal.invariant_of-result
invariant_of-result c =
    let k = c.args.k.now in
    let q = c.power_of-modulus.result in
    let s : q ≡ size_of k c.args.l = c.power_of-modulus.ensures
    ∙ ap (λ p. p ^ suc c.args.l) (c.from.ensures ∙ c.p.ensures.p ∙ ap characteristic c.field-f.ensures) in
    let d : length c.modulus-digits.result.now ≡ digits_of k = ap length c.modulus-digits.ensures
    ∙ ap (λ f. length (modulus_of f)) c.field-f.ensures in
    let w : c.in-Some.width ≡ width_of k = c.in-Some.ensures.1
    ∙ ap (λ m. (length m - 1) * length c.modulus-digits.result.now) (c.as_slice.ensures ∙ c.modulus.ensures.value)
    ∙ ap (λ n. (length (polynomial_of k) - 1) * n) d ∙ width_by_length k in
    record {
      size = s;
      small = subst (λ x. x ≤ 2 ^ 40) (sym s) c.requires;
      digits_is = d;
      width_is = w;
      steps = steps_are k c.args.l q c.in-Some.width c.modulus-2.result.now c.in_ok-back.back c.in_ok-first.first
          c.in_ok-turns.turns s w c.requires (c.modulus-2.ensures ∙ ap modulus_of c.field-f.ensures)
          c.in_ok-back.ensures c.in_ok-first.ensures
          (subst (λ b. AreTurns q b c.in_ok-first.first c.in_ok-turns.turns (length b)) c.as_slice-2.ensures
          c.in_ok-turns.ensures);
    }
