use Rattle.std.proofs.Common.{◌+◌, ◌/◌, ◌%◌, arith, subst}
use Rattle.theory_rings.specs.Digits.{digit}
use Rattle.theory_rings.specs.FieldByDigits.{IsSumByDigits}
use Rattle.spl_field.proofs.DigitLoops.{stays_small_mod, IsPartial-last, p_le}
use Rattle.std.proofs.lemmas.Nat.{mod_below}
use Rattle.theory_rings.proofs.FiniteFields.FieldByDigits.{sum_by_digits}
use Rattle.spl_field.proofs.digits.sum_by_digits.Goals as goal

pub nonzero_div-total : goal.nonzero_div-total
nonzero_div-total c = let s =
    stays_small_mod c.args.p c.args.modulus.now c.requires c.loop-k._k c.loop-k.place c.loop-k.total
    (c.args.a / c.loop-k.place % c.args.p + c.args.b / c.loop-k.place % c.args.p)
    (λ i. digit c.args.p c.args.a i + digit c.args.p c.args.b i) (omega arith) c.loop-k.invariant in s.positive

pub nonzero_div-total-in-loop-k : goal.nonzero_div-total-in-loop-k
nonzero_div-total-in-loop-k c = let s =
    stays_small_mod c.args.p c.args.modulus.now c.requires c.loop-k._k c.loop-k.place c.loop-k.total
    (c.args.a / c.loop-k.place % c.args.p + c.args.b / c.loop-k.place % c.args.p)
    (λ i. digit c.args.p c.args.a i + digit c.args.p c.args.b i) (omega arith) c.loop-k.invariant in s.positive

pub overflow_add-total : goal.overflow_add-total
overflow_add-total c =
    let w = p_le c.args.p c.args.modulus.now c.requires in
    let l = mod_below (c.args.a / c.loop-k.place) c.args.p (omega arith) in
    let h = mod_below (c.args.b / c.loop-k.place) c.args.p (omega arith) in
    omega arith

pub overflow_mul-total : goal.overflow_mul-total
overflow_mul-total c = let s =
    stays_small_mod c.args.p c.args.modulus.now c.requires c.loop-k._k c.loop-k.place c.loop-k.total
    (c.args.a / c.loop-k.place % c.args.p + c.args.b / c.loop-k.place % c.args.p)
    (λ i. digit c.args.p c.args.a i + digit c.args.p c.args.b i) (omega arith) c.loop-k.invariant in let h =
    s.times in omega arith

pub overflow_add-total-in-loop-k : goal.overflow_add-total-in-loop-k
overflow_add-total-in-loop-k c = let s =
    stays_small_mod c.args.p c.args.modulus.now c.requires c.loop-k._k c.loop-k.place c.loop-k.total
    (c.args.a / c.loop-k.place % c.args.p + c.args.b / c.loop-k.place % c.args.p)
    (λ i. digit c.args.p c.args.a i + digit c.args.p c.args.b i) (omega arith) c.loop-k.invariant in let h = s.more in
    omega arith

pub overflow_mul-place : goal.overflow_mul-place
overflow_mul-place c = let s =
    stays_small_mod c.args.p c.args.modulus.now c.requires c.loop-k._k c.loop-k.place c.loop-k.total
    (c.args.a / c.loop-k.place % c.args.p + c.args.b / c.loop-k.place % c.args.p)
    (λ i. digit c.args.p c.args.a i + digit c.args.p c.args.b i) (omega arith) c.loop-k.invariant in let h = s.next in
    omega arith

pub returns : goal.returns
returns c =
    subst (IsSumByDigits c.args.p c.args.modulus.now c.args.a c.args.b)
    (IsPartial-last c.args.p c.args.modulus.now c.requires c.loop-k._k c.loop-k.place c.loop-k.total _ (omega arith)
    (omega arith) c.loop-k.invariant)
    (sum_by_digits c.args.p c.requires.least c.args.modulus.now c.args.a c.args.b)
