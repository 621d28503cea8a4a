use Rattle.std.proofs.Common.{◌≡◌, refl, sym, ◌∙◌, ap}
use Rattle.std.proofs.lemmas.Result.{IfOk-weaker}
use Rattle.theory_tables.proofs.Rows.Terms.{neg-zero}
use Rattle.spl_algebra.proofs.Terms.{add-zero}
use Rattle.spl_algebra.proofs.centre.difference.Goals as goal

pub returns-then-eq-clause-value : goal.returns-then-eq-clause-value
returns-then-eq-clause-value g c =
    let o = g.F.Field.ops c.args.f.now in
    let L = g.met.F.Field.laws c.args.f.now in
    let a = c.args.a.now in
    let is_zero = c.if-eq.ensures.0 refl ∙ c.requires.zero in
    IfOk-weaker c.copy.result (λ r. r ≡ a) (λ r. r ≡ o.add a (o.neg c.args.b.now))
    (λ r e. e ∙ sym (ap (λ x. o.add a (o.neg x)) is_zero ∙ ap (o.add a) (neg-zero o L)
    ∙ add-zero o L a c.requires.left))
    c.copy.ensures.value
