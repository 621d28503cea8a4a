use Rattle.std.proofs.Common.{◌≡◌, ◌++◌, take}
use Rattle.spl_evidence.specs.Line.{lines_text}
use Rattle.spl_evidence.specs.Evidence.{unit_lines}
use Rattle.spl_evidence.proofs.lines.push_units.Given as goal

-- the tuples so far are written
abbrev pub invariant-loop-i : goal.invariant-loop-i
invariant-loop-i l = l.out.items ≡ l.fn.out.items ++ lines_text (unit_lines l.n 0 (take l.i l.units))
