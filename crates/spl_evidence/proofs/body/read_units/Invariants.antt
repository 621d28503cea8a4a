use Rattle.spl_fraction.specs.Fractions.{field_of}
use Rattle.spl_evidence.proofs.Readers.SplitLoops.{UnitsRead}
use Rattle.spl_evidence.proofs.body.read_units.Given as goal

-- the units so far were read
abbrev pub invariant-loop : goal.invariant-loop
invariant-loop l = UnitsRead (field_of l.f) l.n l.fn.reader l.counter l.units l.reader
