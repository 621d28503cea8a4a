use Rattle.std.proofs.Common.{map, arith}
use Rattle.spl_fraction.specs.CanonicalWords.{words_of}
use Rattle.spl_evidence.specs.Line.{fractions_text}
use Rattle.spl_evidence.proofs.Spellings.{rows_spelled, all_written}
use Rattle.spl_evidence.proofs.lines.push_rows.Goals as goal

pub returns : goal.returns
returns c =
    all_written (λ row. fractions_text (map words_of row)) c.args.out.now.items c.loop-row.out.items c.args.rows.now
    c.loop-row.row-index _ (omega arith) c.loop-row.invariant (rows_spelled c.args.rows.now)
