use Rattle.std.proofs.Common.{◌≡◌, ◌<◌, slice_index, arith, subst}
use Rattle.spl_field.specs.FieldByDigits.{IsInverse}
use Rattle.spl_field.specs.TableField.{product_of_merely}
use Rattle.spl_field.proofs.Rows.{get_or-read}
use Rattle.spl_field.proofs.small.SmallField.inverse.Goals as goal

pub returns-else-a-eq0-clause-value : goal.returns-else-a-eq0-clause-value
returns-else-a-eq0-clause-value c =
    let f = c.args.self.now in
    let a = c.args.a in
    let full = f.inverses_full in
    let below = c.requires in
    let n = c.if-a-eq0.false in
    let e : slice_index f.inverses.items a ≡ c.index.result.now =
    get_or-read f.inverses.items _ a _ c.index.ensures c.from.ensures (omega arith) in (
      n,
      subst (IsInverse f.p f.modulus.items a) e (record {
        element = subst (λ q. slice_index f.inverses.items a < q) f.power (f.inverses_below a below);
        product_one = product_of_merely f.p f.least f.modulus.items a (slice_index f.inverses.items a) 1
            (f.inverses_are a (omega arith) below);
      }),
    )
