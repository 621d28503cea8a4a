use Rattle.std.proofs.Common.{◌≡◌, take}
use Rattle.spl_table.proofs.reader.constants.poly_of.Given as goal

-- the numbers so far
abbrev pub invariant-loop-number : goal.invariant-loop-number
invariant-loop-number l = l.bytes.items ≡ take l.number-index l.numbers
