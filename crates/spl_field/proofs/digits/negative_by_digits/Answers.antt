use Rattle.std.proofs.Common.{◌-◌, ◌/◌, ◌%◌, ◌^◌, ◌<◌, length, arith, subst}
use Rattle.theory_rings.specs.Digits.{digit}
use Rattle.theory_rings.specs.FieldByDigits.{IsSumByDigits}
use Rattle.spl_field.proofs.DigitLoops.{stays_small_mod, IsPartial-last}
use Rattle.std.proofs.lemmas.Nat.{mod_below}
use Rattle.theory_rings.proofs.Numbers.Digits.{of_digits_lt}
use Rattle.theory_rings.proofs.FiniteFields.FieldByDigits.{neg_by_digits}
use Rattle.spl_field.proofs.digits.negative_by_digits.Goals as goal

pub nonzero_div-total : goal.nonzero_div-total
nonzero_div-total c = let s =
    stays_small_mod c.args.p c.args.modulus.now c.requires c.loop-k._k c.loop-k.place c.loop-k.total
    (c.args.p - c.args.a / c.loop-k.place % c.args.p) (λ i. c.args.p - digit c.args.p c.args.a i)
    (omega arith) c.loop-k.invariant in s.positive

pub overflow_mul-total : goal.overflow_mul-total
overflow_mul-total c = let s =
    stays_small_mod c.args.p c.args.modulus.now c.requires c.loop-k._k c.loop-k.place c.loop-k.total
    (c.args.p - c.args.a / c.loop-k.place % c.args.p) (λ i. c.args.p - digit c.args.p c.args.a i)
    (omega arith) c.loop-k.invariant in let h = s.times in omega arith

pub overflow_add-total : goal.overflow_add-total
overflow_add-total c = let s =
    stays_small_mod c.args.p c.args.modulus.now c.requires c.loop-k._k c.loop-k.place c.loop-k.total
    (c.args.p - c.args.a / c.loop-k.place % c.args.p) (λ i. c.args.p - digit c.args.p c.args.a i)
    (omega arith) c.loop-k.invariant in let h = s.more in omega arith

pub overflow_mul-place : goal.overflow_mul-place
overflow_mul-place c = let s =
    stays_small_mod c.args.p c.args.modulus.now c.requires c.loop-k._k c.loop-k.place c.loop-k.total
    (c.args.p - c.args.a / c.loop-k.place % c.args.p) (λ i. c.args.p - digit c.args.p c.args.a i)
    (omega arith) c.loop-k.invariant in let h = s.next in omega arith

pub returns-clause-element : goal.returns-clause-element
returns-clause-element c =
    subst (λ n. n < c.args.p ^ length c.args.modulus.now)
    (IsPartial-last c.args.p c.args.modulus.now c.requires c.loop-k._k c.loop-k.place c.loop-k.total _ (omega arith)
    (omega arith) c.loop-k.invariant)
    (of_digits_lt c.args.p (omega arith) (length c.args.modulus.now)
    (λ k. (c.args.p - digit c.args.p c.args.a k) % c.args.p)
    (λ k _. mod_below (c.args.p - digit c.args.p c.args.a k) c.args.p (omega arith)))

pub returns-clause-value : goal.returns-clause-value
returns-clause-value c =
    subst (λ n. IsSumByDigits c.args.p c.args.modulus.now c.args.a n 0)
    (IsPartial-last c.args.p c.args.modulus.now c.requires c.loop-k._k c.loop-k.place c.loop-k.total _ (omega arith)
    (omega arith) c.loop-k.invariant)
    (neg_by_digits c.args.p c.requires.least c.args.modulus.now c.args.a)
