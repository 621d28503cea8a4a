use Rattle.std.proofs.Common.{◌≡◌, ◌<◌, [], refl, length, subst, arith, get_or, inl}
use Rattle.theory_tables.proofs.Rows.Sums.{row_at}
use Rattle.spl_radical.specs.LiftNumbers.{level_of}
use Rattle.spl_radical.specs.Radical.{IsTraceRoot}
use Rattle.spl_radical.proofs.radical.weight_at.Goals as goal

pub returns-then-pivots-s-clause-value : goal.returns-then-pivots-s-clause-value
returns-then-pivots-s-clause-value c =
    let s = c.loop-s.s in
    let x = c.index-rows-s.result in
    let here : s < length c.args.pivots.now = omega arith in
    let row : s < length c.args.rows.now = omega (arith, here, c.requires.each) in
    let is : x ≡ get_or c.args.rows.now s [] = row_at c.args.rows.now s x x row c.index-rows-s.is refl in
    inl (
      s,
      here,
      c.if-pivots-s.true,
      subst (λ a. IsTraceRoot c.args.k.now (level_of c.args.ring.now) c.args.b.now c.args.i a c.in_ok-root.root) is
          c.in_ok-root.ensures.root,
    )
