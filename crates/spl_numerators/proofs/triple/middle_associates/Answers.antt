use Rattle.std.proofs.Common.{ℕ, below_more}
use Rattle.spl_algebra.specs.Triple.{AssociatesAtPair}
use Rattle.spl_fraction.specs.FractionsOver.{fractions_over}
use Rattle.spl_fraction.specs.Fractions.{field_of}
use Rattle.spl_numerators.proofs.triple.middle_associates.Goals as goal

pub loop-first-preserved : goal.loop-first-preserved
loop-first-preserved c =
    let P : ℕ → Type 0 = λ i. AssociatesAtPair (fractions_over (field_of c.args.f.now)) c.args.a.now i c.args.j in
    λ i k l m. below_more P c.loop-first.first (λ x lx y ly. c.loop-first.invariant x y lx ly)
    (rw c.in-None.is at c.in_ok-first_third.ensures) i l k m
