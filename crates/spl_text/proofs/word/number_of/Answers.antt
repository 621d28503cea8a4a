use Rattle.std.proofs.Common.{◌≡◌, Some, None, arith, rules}
use Rattle.std.proofs.lemmas.Grind.{common_steps}
use Rattle.spl_text.proofs.Words.{few_digits, number_read, number_takes, number_none}
use Rattle.spl_text.proofs.word.number_of.Goals as goal

pub overflow_mul-number : goal.overflow_mul-number
overflow_mul-number c =
    omega (arith, few_digits c.loop-byte.number c.loop-byte.byte-index (omega arith) c.loop-byte.invariant.bound)

pub overflow_add-number : goal.overflow_add-number
overflow_add-number c =
    omega (arith, few_digits c.loop-byte.number c.loop-byte.byte-index (omega arith) c.loop-byte.invariant.bound)

pub returns-then-is_empty : goal.returns-then-is_empty
unfolding number_read
returns-then-is_empty c = let none : number_read c.args.word.now ≡ None = search rules in
    number_none c.args.word.now none

pub returns-then-not-is_ascii_digit : goal.returns-then-not-is_ascii_digit
unfolding number_read
returns-then-not-is_ascii_digit c = let none : number_read c.args.word.now ≡ None = grind (arith, common_steps) in
    number_none c.args.word.now none

pub returns : goal.returns
unfolding number_read
returns c = let read : number_read c.args.word.now ≡ Some c.loop-byte.number = grind (arith, common_steps) in
    number_takes c.args.word.now c.loop-byte.number read
