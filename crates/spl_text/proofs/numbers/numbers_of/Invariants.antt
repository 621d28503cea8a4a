use Rattle.std.proofs.Common.{length}
use Rattle.spl_text.proofs.NumberLists.{SoFar}
use Rattle.spl_text.proofs.numbers.numbers_of.Given as goal

-- the numbers that were read stand before the rest
abbrev pub invariant-loop-number : goal.invariant-loop-number
invariant-loop-number l = SoFar l.word l.rest l.numbers

abbrev pub decreases-loop-number : goal.decreases-loop-number
decreases-loop-number l = length l.rest
