use Rattle.spl_fraction.specs.Fractions.{field_of}
use Rattle.spl_evidence.proofs.Readers.SplitLoops.{MapsRead}
use Rattle.spl_evidence.proofs.body.read_maps.Given as goal

-- the maps so far were read
abbrev pub invariant-loop : goal.invariant-loop
invariant-loop l = MapsRead (field_of l.f) l.n l.fn.reader l.counter l.maps l.reader
