use Rattle.std.proofs.Common.{◌+◌, ◌-◌, ◌*◌, ◌/◌, ◌%◌, ◌<◌, length, get_or, arith, subst}
use Rattle.theory_rings.specs.Digits.{digit}
use Rattle.theory_rings.specs.FieldByDigits.{IsProductByDigits}
use Rattle.spl_field.proofs.DigitLoops.{stays_small_mod, IsPartial-last, IsPartial-next}
use Rattle.spl_field.proofs.TimesT.{digit_by_t, digit_by_t_value, moved_le, times_last_le, digit_le}
use Rattle.spl_field.proofs.TimesT.{product_by_t_digits}
use Rattle.spl_field.proofs.digits.product_by_t.Goals as goal

pub overflow_mul-moved : goal.overflow_mul-moved
overflow_mul-moved c = let h =
    moved_le c.args.p c.args.modulus.now c.requires.fits c.args.a
    (subst (λ n. c.args.a < n) c.requires.size c.requires.element) in omega arith

pub nonzero_div-total : goal.nonzero_div-total
nonzero_div-total c = let s =
    stays_small_mod c.args.p c.args.modulus.now c.requires.fits c.loop-k.k c.loop-k.place c.loop-k.total (0)
    (λ i. digit c.args.p (c.args.p * c.args.a) i +
    (c.args.p - get_or c.args.modulus.now i 0) * digit c.args.p c.args.a (length c.args.modulus.now - 1))
    (omega arith) c.loop-k.invariant in s.positive

pub overflow_mul-total : goal.overflow_mul-total
overflow_mul-total c = let h =
    times_last_le c.args.p c.args.modulus.now c.requires.fits c.args.a
    (subst (λ n. c.args.a < n) c.requires.size c.requires.element) c.args.size c.from.result c.requires.size in
    omega arith

pub overflow_add-total : goal.overflow_add-total
overflow_add-total c =
    let h = times_last_le c.args.p c.args.modulus.now c.requires.fits c.args.a
    (subst (λ n. c.args.a < n) c.requires.size c.requires.element) c.args.size c.from.result c.requires.size in
    let l = digit_le c.args.p c.args.modulus.now c.requires.fits c.args.a
    (subst (λ n. c.args.a < n) c.requires.size c.requires.element) (c.args.p * c.args.a / c.loop-k.place) in
    omega arith

pub overflow_mul-total-in-loop-k : goal.overflow_mul-total-in-loop-k
overflow_mul-total-in-loop-k c = let s =
    stays_small_mod c.args.p c.args.modulus.now c.requires.fits c.loop-k.k c.loop-k.place c.loop-k.total
    (c.args.p * c.args.a / c.loop-k.place % c.args.p + (c.args.p - c.from.result) *
    (c.args.p * c.args.a / c.args.size))
    (λ i. digit c.args.p (c.args.p * c.args.a) i +
    (c.args.p - get_or c.args.modulus.now i 0) * digit c.args.p c.args.a (length c.args.modulus.now - 1))
    (omega arith) c.loop-k.invariant in let h = s.times in omega arith

pub overflow_add-total-in-loop-k : goal.overflow_add-total-in-loop-k
overflow_add-total-in-loop-k c = let s =
    stays_small_mod c.args.p c.args.modulus.now c.requires.fits c.loop-k.k c.loop-k.place c.loop-k.total
    (c.args.p * c.args.a / c.loop-k.place % c.args.p + (c.args.p - c.from.result) *
    (c.args.p * c.args.a / c.args.size))
    (λ i. digit c.args.p (c.args.p * c.args.a) i +
    (c.args.p - get_or c.args.modulus.now i 0) * digit c.args.p c.args.a (length c.args.modulus.now - 1))
    (omega arith) c.loop-k.invariant in let h = s.more in omega arith

pub overflow_mul-place : goal.overflow_mul-place
overflow_mul-place c = let s =
    stays_small_mod c.args.p c.args.modulus.now c.requires.fits c.loop-k.k c.loop-k.place c.loop-k.total
    (c.args.p * c.args.a / c.loop-k.place % c.args.p + (c.args.p - c.from.result) *
    (c.args.p * c.args.a / c.args.size))
    (λ i. digit c.args.p (c.args.p * c.args.a) i +
    (c.args.p - get_or c.args.modulus.now i 0) * digit c.args.p c.args.a (length c.args.modulus.now - 1))
    (omega arith) c.loop-k.invariant in let h = s.next in omega arith

pub loop-k-preserved : goal.loop-k-preserved
loop-k-preserved c =
    IsPartial-next c.args.p c.loop-k.k c.loop-k.place c.loop-k.total _
    (digit_by_t c.args.p c.args.modulus.now c.args.a) c.loop-k.invariant
    (digit_by_t_value c.args.p c.args.modulus.now c.requires.fits c.args.a
    (subst (λ n. c.args.a < n) c.requires.size c.requires.element) c.args.size c.loop-k.place c.from.result c.loop-k.k
    c.requires.size c.loop-k.invariant.power c.from.ensures)

pub returns : goal.returns
returns c =
    subst (IsProductByDigits c.args.p c.args.modulus.now c.args.p c.args.a)
    (IsPartial-last c.args.p c.args.modulus.now c.requires.fits c.loop-k.k c.loop-k.place c.loop-k.total _
    (omega arith) (omega arith) c.loop-k.invariant)
    (product_by_t_digits c.args.p c.args.modulus.now c.requires.fits c.args.a
    (subst (λ n. c.args.a < n) c.requires.size c.requires.element))
