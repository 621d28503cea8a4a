use Rattle.std.proofs.Common.{ℕ, ◌<◌, arith, below_more}
use Rattle.spl_algebra.specs.Triple.{AssociatesAtPair}
use Rattle.spl_fraction.specs.FractionsOver.{fractions_over}
use Rattle.spl_fraction.specs.Fractions.{field_of}
use Rattle.spl_numerators.proofs.triple.first_by_numerators.Goals as goal

pub loop-i-preserved : goal.loop-i-preserved
loop-i-preserved c =
    let P : ℕ → Type 0 = λ i. (j : ℕ) → j < c.args.a.now.dim
    → AssociatesAtPair (fractions_over (field_of c.args.f.now)) c.args.a.now i j in
    λ i j l m. below_more P c.loop-i.i (λ x lx y ly. c.loop-i.invariant x y lx ly)
    (rw c.in-None.is at c.in_ok-j.ensures) i l j m

pub from_places-requires-clause-second : goal.from_places-requires-clause-second
from_places-requires-clause-second c = let pair = rw c.in-Some.is at c.in_ok-j.ensures in let within =
    pair.within in omega arith

pub from_places-requires-clause-third : goal.from_places-requires-clause-third
from_places-requires-clause-third c =
    let pair = rw c.in-Some.is at c.in_ok-j.ensures in let third = pair.third in let within = third.within in
    omega arith
