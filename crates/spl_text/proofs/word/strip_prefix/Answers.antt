use Rattle.std.proofs.Common.{ℕ, List, Bor}
use Rattle.spl_text.proofs.Words.{prefix_spelled}
use Rattle.spl_text.proofs.word.strip_prefix.Goals as goal

pub returns : goal.returns
returns c = prefix_spelled
    (λ (x : Bor (List ℕ)). x.now) c.strip_prefix.result c.args.prefix.now c.args.bytes.now c.strip_prefix.ensures.cases
