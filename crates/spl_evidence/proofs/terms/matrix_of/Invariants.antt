use Rattle.spl_fraction.specs.Fractions.{field_of}
use Rattle.spl_evidence.proofs.Readers.LineTerms.{RowsSoFar}
use Rattle.spl_evidence.proofs.terms.matrix_of.Given as goal

-- the rows that were read stand before the rest
abbrev pub invariant-loop : goal.invariant-loop
invariant-loop l = RowsSoFar (field_of l.f) l.n l.text l.rest l.counter l.rows
