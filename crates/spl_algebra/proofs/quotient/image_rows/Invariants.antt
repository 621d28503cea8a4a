use Rattle.std.proofs.Common.{length}
use Rattle.spl_algebra.specs.Quotients.{JoinsRows, image_row}
use Rattle.spl_algebra.proofs.quotient.image_rows.Given as goal

abbrev pub invariant-loop-r : goal.invariant-loop-r
invariant-loop-r g l = let o = g.F.Field.ops l.f in
    JoinsRows o (length l.project) l.r (image_row o l.m l.constants l.places l.project) l.items
