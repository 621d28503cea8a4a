use Rattle.std.proofs.Common.{refl}
use Rattle.spl_text.proofs.Words.{not_within}
use Rattle.spl_evidence.proofs.PlaceTexts.{lists_by_slash}
use Rattle.spl_evidence.proofs.arguments.are_lists.Goals as goal

pub returns-in-None : goal.returns-in-None
returns-in-None c =
    let lacks = rw c.in-None.is at c.split_once.ensures in
    λ ts each e. (λ t. (lists_by_slash c.args.text.now ts each e).0 lacks, λ lists. refl)

pub returns-in-Some : goal.returns-in-Some
returns-in-Some c =
    let cut = rw c.in-Some.is at c.split_once.ensures in
    λ ts each e. (
      λ t. absurd cc,
      λ lists. absurd (not_within 47 c.args.text.now c.in-Some.field-0.0.now c.in-Some.field-0.1.now cut.1
          ((lists_by_slash c.args.text.now ts each e).1 lists)),
    )
