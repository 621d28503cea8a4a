use Rattle.std.proofs.Common.{ℕ, ◌<◌, get_or, arith, below_more}
use Rattle.theory_tables.specs.Structure.{AssociatesAt}
use Rattle.spl_fraction.specs.FractionsOver.{fractions_over}
use Rattle.spl_fraction.specs.Fractions.{field_of}
use Rattle.spl_numerators.proofs.triple.middles_associate.Goals as goal

pub loop-s-preserved : goal.loop-s-preserved
loop-s-preserved c =
    let P : ℕ → Type 0 = λ s. (i k : ℕ) → i < c.args.a.now.dim → k < c.args.a.now.dim
    → AssociatesAt (fractions_over (field_of c.args.f.now)) c.args.a.now i (get_or c.args.by.now s 0) k in
    λ s i k l hi hk. below_more P c.loop-s.s (λ x lx i k hi hk. c.loop-s.invariant x i k lx hi hk)
    (c.in_ok-middle_associates.ensures c.if-not-branch.false) s l i k hi hk

pub returns : goal.returns
returns c _ s i k l hi hk =
    let whole : s < c.loop-s.s = omega (arith, l, c.loop-s-test.false, c.loop-s.auto) in
    c.loop-s.invariant s i k whole hi hk
