use Rattle.std.proofs.Common.{◌≡◌, ◌++◌, take}
use Rattle.spl_evidence.specs.Line.{lines_text}
use Rattle.spl_evidence.specs.Evidence.{map_lines}
use Rattle.spl_evidence.proofs.lines.push_maps.Given as goal

-- the matrices so far are written
abbrev pub invariant-loop-i : goal.invariant-loop-i
invariant-loop-i l = l.out.items ≡ l.fn.out.items ++ lines_text (map_lines 0 (take l.i l.maps))
