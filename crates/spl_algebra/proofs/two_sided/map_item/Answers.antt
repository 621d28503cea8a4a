use Rattle.std.proofs.Common.{◌/◌, ◌%◌, ◌<◌, ℕ, length, subst}
use Rattle.theory_spaces.specs.Tuples.{product, basis}
use Rattle.theory_spaces.proofs.Matrices.PairIndex.{row-lt, column-lt}
use Rattle.spl_algebra.proofs.TwoSided.{stepped_within, coordinate_is}
use Rattle.spl_algebra.proofs.two_sided.map_item.Goals as goal

pub row_of-first-requires-clause-right : goal.row_of-first-requires-clause-right
row_of-first-requires-clause-right g c = row-lt c.args.m c.args.m c.args.s c.requires.item

pub place-start-requires-clause-third : goal.place-start-requires-clause-third
place-start-requires-clause-third g c = column-lt c.args.m c.args.m c.args.s c.requires.item

pub contracted_item-requires-clause-within : goal.contracted_item-requires-clause-within
contracted_item-requires-clause-within g c = λ l h.
    let m = c.args.m in
    stepped_within l c.args.j (c.args.s % m) m c.place-start.result (length c.args.constants.now)
    c.place-start.ensures.value (subst (λ (n : ℕ). l < n) c.row_of-first.ensures.elem.right_length h) c.requires.second
    (column-lt m m c.args.s c.requires.item) c.requires.over.right_length

pub returns-clause-value : goal.returns-clause-value
returns-clause-value g c =
    let o = g.F.Field.ops c.args.f.now in
    let L = g.met.F.Field.laws c.args.f.now in
    let m = c.args.m in
    let s = c.args.s in
    let first = c.row_of-first in
    let item = c.in_ok-contracted_item in
    coordinate_is o L m c.args.constants.now c.requires.over.of_elements first.result.now
    (product o m c.args.constants.now (basis o m c.args.i) (basis o m (s / m))) c.args.j (s % m) c.place-start.result
    item.field-0 first.ensures.elem first.ensures.value c.requires.second (column-lt m m s c.requires.item)
    c.place-start.ensures.value item.ensures.value
