use Rattle.spl_evidence.proofs.SpacedWords.{FractionsRead}
use Rattle.spl_evidence.proofs.arguments.are_fractions.Given as goal

-- the fractions that were read stand before the rest
abbrev pub invariant-loop : goal.invariant-loop
invariant-loop l = FractionsRead l.text l.rest l.counter l.below l.q
