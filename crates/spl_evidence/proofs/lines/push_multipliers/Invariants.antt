use Rattle.std.proofs.Common.{◌≡◌, ◌++◌, take}
use Rattle.std.specs.List.{flat_map}
use Rattle.spl_text.specs.Text.{line}
use Rattle.spl_evidence.specs.Line.{line_text}
use Rattle.spl_evidence.specs.Evidence.{multiplier_line}
use Rattle.spl_evidence.proofs.lines.push_multipliers.Given as goal

-- the multipliers so far are written
abbrev pub invariant-loop-item : goal.invariant-loop-item
invariant-loop-item l =
    l.out.items ≡ l.fn.out.items ++ flat_map (λ item. line (line_text (multiplier_line l.side item)))
    (take l.item-index l.list)
