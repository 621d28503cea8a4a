use Rattle.std.proofs.Common.{length}
use Rattle.spl_factor.proofs.degrees.+take_part.Given as goal

abbrev pub decreases-take_part : goal.decreases-take_part
decreases-take_part l = length l.g
