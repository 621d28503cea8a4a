use Rattle.std.proofs.Common.{length}
use Rattle.spl_fraction.specs.Fractions.{field_of}
use Rattle.spl_evidence.proofs.Readers.SideLoop.{SidesRead}
use Rattle.spl_evidence.proofs.body.read_no_identity.Given as goal

-- the multipliers so far were read
abbrev pub invariant-loop-right : goal.invariant-loop-right
invariant-loop-right l = SidesRead (field_of l.f) l.n l.fn.reader l.left l.right l.reader

abbrev pub decreases-loop-right : goal.decreases-loop-right
decreases-loop-right l = length l.reader.rest.now
