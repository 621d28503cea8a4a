use Rattle.spl_fraction.specs.Fractions.{field_of}
use Rattle.spl_evidence.proofs.Readers.TupleLoop.{TuplesRead}
use Rattle.spl_evidence.proofs.body.read_tuples.Given as goal

-- the tuples so far were read
abbrev pub invariant-loop : goal.invariant-loop
invariant-loop l = TuplesRead (field_of l.f) l.n l.fn.word l.fn.reader l.counter l.tuples l.reader
