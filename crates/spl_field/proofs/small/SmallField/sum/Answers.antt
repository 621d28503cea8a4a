use Rattle.std.proofs.Common.{◌≡◌, ◌+◌, ◌*◌, ◌<◌, ap₂, subst, subst₂, sym}
use Rattle.std.proofs.lemmas.Nat.{mul-add-lt}
use Rattle.theory_rings.specs.FieldByDigits.{IsSumByDigits}
use Rattle.spl_field.specs.Tables.{entry_at}
use Rattle.spl_field.proofs.Rows.{get_or-read}
use Rattle.spl_field.proofs.small.SmallField.sum.Goals as goal

pub returns-clause-elem : goal.returns-clause-elem
returns-clause-elem c =
    let f = c.args.self.now in
    let a = c.args.a in
    let b = c.args.b in
    let s = f.sums_are a b c.requires.left c.requires.right in
    let e : entry_at f.size f.sums.items a b ≡ c.index.result.now =
    get_or-read f.sums.items _ (a * f.size + b) _ c.index.ensures
    (ap₂ (λ x y. x + y) (ap₂ (λ x y. x * y) c.from.ensures c.from-2.ensures) c.from-3.ensures)
    (subst (λ n. a * f.size + b < n) (sym f.sums_full)
    (mul-add-lt a f.size b f.size c.requires.left c.requires.right)) in
    subst₂ (λ x n. x < n) e (sym f.power) s.below

pub returns-clause-value : goal.returns-clause-value
returns-clause-value c =
    let f = c.args.self.now in
    let a = c.args.a in
    let b = c.args.b in
    let e : entry_at f.size f.sums.items a b ≡ c.index.result.now =
    get_or-read f.sums.items _ (a * f.size + b) _ c.index.ensures
    (ap₂ (λ x y. x + y) (ap₂ (λ x y. x * y) c.from.ensures c.from-2.ensures) c.from-3.ensures)
    (subst (λ n. a * f.size + b < n) (sym f.sums_full)
    (mul-add-lt a f.size b f.size c.requires.left c.requires.right)) in
    subst (IsSumByDigits f.p f.modulus.items a b) e (f.sums_are a b c.requires.left c.requires.right)
