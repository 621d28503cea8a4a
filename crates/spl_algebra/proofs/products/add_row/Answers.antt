use Rattle.std.proofs.Common.{length, refl, ◌∙◌, ap}
use Rattle.theory_rings.specs.Sum.{table, at}
use Rattle.theory_rings.proofs.Rings.Elements.{at-elem}
use Rattle.spl_algebra.proofs.Terms.{mul-zero, zero-mul}
use Rattle.spl_algebra.proofs.Steps.{AddsEach-zero, AddsEach-table}
use Rattle.spl_algebra.proofs.products.add_row.Goals as goal

pub returns-then-eq : goal.returns-then-eq
returns-then-eq g c =
    let o = g.F.Field.ops c.args.f.now in
    let L = g.met.F.Field.laws c.args.f.now in
    let x = c.args.x.now in
    let row = c.args.row.now in
    let is_zero = c.if-eq.ensures.0 refl ∙ c.requires.zero in
    AddsEach-zero o L c.args.sums.now (λ k. o.mul (o.mul x c.args.c.now) (at o row k)) c.requires.sums (λ k.
    ap (λ y. o.mul y (at o row k)) (ap (o.mul x) is_zero ∙ mul-zero o L x c.requires.factor)
    ∙ zero-mul o L (at o row k) (at-elem o L row c.requires.row.of_elements k))

pub returns : goal.returns
returns g c =
    let o = g.F.Field.ops c.args.f.now in
    let L = g.met.F.Field.laws c.args.f.now in
    let x = c.args.x.now in
    let row = c.args.row.now in
    let old = c.args.sums.now in
    let coordinate = c.args.c.now in
    AddsEach-table o L old c.add_multiple.new.row (λ k. o.mul (o.mul x coordinate) (at o row k)) c.requires.sums
    (λ k _. L.mul-elem (o.mul x coordinate) (at o row k)
    (L.mul-elem x coordinate c.requires.factor c.requires.coordinate)
    (at-elem o L row c.requires.row.of_elements k))
    (c.in_ok-add_multiple.ensures
    ∙ ap (λ y. table (length old) (λ j. o.add (at o old j) (o.mul y (at o row j)))) c.in_ok-factor.ensures.value)
