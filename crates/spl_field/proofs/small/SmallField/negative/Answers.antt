use Rattle.std.proofs.Common.{◌≡◌, slice_index, arith, subst}
use Rattle.theory_rings.specs.FieldByDigits.{IsSumByDigits}
use Rattle.spl_field.proofs.Rows.{get_or-read}
use Rattle.spl_field.proofs.small.SmallField.negative.Goals as goal

pub returns-clause-value : goal.returns-clause-value
returns-clause-value c =
    let f = c.args.self.now in
    let a = c.args.a in
    let full = f.negatives_full in
    let below = c.requires in
    let e : slice_index f.negatives.items a ≡ c.index.result.now =
    get_or-read f.negatives.items _ a _ c.index.ensures c.from.ensures (omega arith) in
    subst (λ n. IsSumByDigits f.p f.modulus.items a n 0) e (f.negatives_are a below)
