use Rattle.std.proofs.Common.{◌++◌, arith}
use Rattle.std.specs.Prelude.{codes}
use Rattle.spl_text.specs.Text.{fraction_text}
use Rattle.spl_fraction.specs.CanonicalWords.{words_of}
use Rattle.spl_evidence.proofs.Spellings.{fractions_spelled, all_written}
use Rattle.spl_evidence.proofs.lines.push_fractions.Goals as goal

pub returns : goal.returns
returns c =
    all_written (λ x. codes " " ++ fraction_text (words_of x)) c.args.out.now.items c.loop-x.out.items c.args.a.now
    c.loop-x.x-index _ (omega arith) c.loop-x.invariant (fractions_spelled c.args.a.now)
