use Rattle.std.proofs.Common.{◌≡◌, length}
use Rattle.spl_fraction.specs.Fractions.{field_of}
use Rattle.spl_evidence.proofs.CanonicalWords.{TermsSoFar}
use Rattle.spl_evidence.proofs.terms.fractions_of.Given as goal

-- the fractions that were read stand before the rest
abbrev pub invariant-loop : goal.invariant-loop
invariant-loop l = record {
  so_far : TermsSoFar (field_of l.f) l.text l.rest l.fractions;
  many : length l.fractions ≡ l.counter;
}
