use Rattle.std.specs.Prelude.{ℕ, List, length}
use Rattle.spl_text.proofs.NumberLists.{SoFar}
use Rattle.spl_table.specs.Reading.{AreBytes}
use Rattle.spl_table.proofs.reader.head.modulus_of.Given as goal

-- the numbers that were read stand before the rest, and are the bytes
abbrev pub invariant-loop-number : goal.invariant-loop-number
invariant-loop-number l = (m : List ℕ) × SoFar l.word l.rest m × AreBytes m l.small l.bytes.items

abbrev pub decreases-loop-number : goal.decreases-loop-number
decreases-loop-number l = length l.rest
