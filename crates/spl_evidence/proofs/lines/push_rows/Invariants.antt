use Rattle.std.proofs.Common.{◌≡◌, ◌++◌, take, map}
use Rattle.std.specs.List.{flat_map}
use Rattle.spl_fraction.specs.CanonicalWords.{words_of}
use Rattle.spl_evidence.specs.Line.{fractions_text}
use Rattle.spl_evidence.proofs.lines.push_rows.Given as goal

-- the rows so far are written
abbrev pub invariant-loop-row : goal.invariant-loop-row
invariant-loop-row l =
    l.out.items ≡ l.fn.out.items ++ flat_map (λ row. fractions_text (map words_of row)) (take l.row-index l.rows)
