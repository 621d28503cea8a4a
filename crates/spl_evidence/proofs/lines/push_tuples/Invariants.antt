use Rattle.std.proofs.Common.{◌≡◌, ◌++◌, take}
use Rattle.std.specs.List.{flat_map}
use Rattle.spl_text.specs.Text.{line}
use Rattle.spl_evidence.specs.Line.{line_text}
use Rattle.spl_evidence.specs.Evidence.{fractions_line}
use Rattle.spl_evidence.proofs.lines.push_tuples.Given as goal

-- the tuples so far are written
abbrev pub invariant-loop-a : goal.invariant-loop-a
invariant-loop-a l =
    l.out.items ≡ l.fn.out.items ++ flat_map (λ a. line (line_text (fractions_line l.word a))) (take l.a-index l.tuples)
