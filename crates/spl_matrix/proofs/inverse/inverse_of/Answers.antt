use Rattle.std.proofs.Common.{◌≡◌, length, sym, ◌∙◌, refl}
use Rattle.spl_matrix.proofs.Regular.{is_inverse, are_dependent, not_dependent}
use Rattle.spl_matrix.proofs.inverse.inverse_of.Goals as goal

pub returns-then-len-a-clause-none : goal.returns-then-len-a-clause-none
returns-then-len-a-clause-none g c =
    let o = g.F.Field.ops c.args.f.now in
    let L = g.met.F.Field.laws c.args.f.now in
    let a = c.args.a.now in
    let e = c.in_ok-e.e in
    let full : length e.pivots ≡ length a = sym c.len.ensures ∙ c.if-len-a.true in (
      λ no. cc,
      λ d. absurd
          (not_dependent o L (length a) a e.transform c.requires.shape
          (is_inverse o L (length a) a e.rows e.pivots e.transform c.requires.shape c.in_ok-e.ensures full) d),
    )

pub returns-then-len-a-clause-some : goal.returns-then-len-a-clause-some
returns-then-len-a-clause-some g c =
    let o = g.F.Field.ops c.args.f.now in
    let L = g.met.F.Field.laws c.args.f.now in
    let a = c.args.a.now in
    let e = c.in_ok-e.e in
    is_inverse o L (length a) a e.rows e.pivots e.transform c.requires.shape c.in_ok-e.ensures
    (sym c.len.ensures ∙ c.if-len-a.true)

pub returns-else-len-a-clause-none : goal.returns-else-len-a-clause-none
returns-else-len-a-clause-none g c =
    let o = g.F.Field.ops c.args.f.now in
    let L = g.met.F.Field.laws c.args.f.now in
    let a = c.args.a.now in
    let e = c.in_ok-e.e in (
      λ _. are_dependent o L (length a) a e.rows e.pivots e.transform c.requires.shape c.in_ok-e.ensures
          (λ full. c.if-len-a.false (c.len.ensures ∙ full)),
      λ _. refl,
    )
