use Rattle.std.proofs.Common.{◌≡◌, length}
use Rattle.spl_evidence.proofs.SpacedWords.{NumbersSoFar}
use Rattle.spl_evidence.proofs.arguments.numbers_of.Given as goal

-- the numbers that were read stand before the rest
abbrev pub invariant-loop : goal.invariant-loop
invariant-loop l = record {
  so_far : NumbersSoFar l.text l.rest l.numbers;
  many : length l.numbers ≡ l.counter;
}
