use Rattle.std.proofs.Common.{ℕ, ◌<◌, ◌≤◌, ◌+◌, ◌*◌, length, sym, ◌∙◌, subst}
use Rattle.theory_spaces.specs.Tuples.{IsTuple}
use Rattle.spl_algebra.proofs.UnitRows.{IsTuple-of_zeros}
use Rattle.spl_algebra.proofs.Rows.{sum_of_rows-table}
use Rattle.spl_algebra.proofs.products.combination.Goals as goal

pub add_rows-requires-clause-sums : goal.add_rows-requires-clause-sums
add_rows-requires-clause-sums g c =
    (IsTuple-of_zeros (g.F.Field.ops c.args.f.now) (g.met.F.Field.laws c.args.f.now) c.args.m c.in_ok-sums.sums
    c.in_ok-sums.ensures).of_elements

pub add_rows-requires-clause-coordinates : goal.add_rows-requires-clause-coordinates
add_rows-requires-clause-coordinates g c =
    let o = g.F.Field.ops c.args.f.now in
    let sums = IsTuple-of_zeros o (g.met.F.Field.laws c.args.f.now) c.args.m c.in_ok-sums.sums c.in_ok-sums.ensures in
    subst (λ (n : ℕ). IsTuple o n c.args.b.now) (sym sums.right_length) c.requires.coordinates

pub add_rows-requires-clause-within : goal.add_rows-requires-clause-within
add_rows-requires-clause-within g c =
    let o = g.F.Field.ops c.args.f.now in
    let sums = IsTuple-of_zeros o (g.met.F.Field.laws c.args.f.now) c.args.m c.in_ok-sums.sums c.in_ok-sums.ensures in
    subst (λ (n : ℕ). (l : ℕ) → l < n → l * c.args.stride + n ≤ length c.args.rows.now) (sym sums.right_length)
    c.requires.within

pub returns-clause-elem : goal.returns-clause-elem
returns-clause-elem g c =
    let sums = IsTuple-of_zeros (g.F.Field.ops c.args.f.now) (g.met.F.Field.laws c.args.f.now) c.args.m
    c.in_ok-sums.sums c.in_ok-sums.ensures in
    let added = c.in_ok-add_rows.ensures in
    record {
      right_length = added.same_length ∙ sums.right_length;
      of_elements = added.of_elements;
    }

pub returns-clause-value : goal.returns-clause-value
returns-clause-value g c =
    let o = g.F.Field.ops c.args.f.now in
    sum_of_rows-table o
    (g.met.F.Field.laws c.args.f.now) c.args.m c.in_ok-sums.sums c.add_rows.new.sums c.in_ok-one.one c.args.b.now
    c.args.rows.now c.args.stride c.in_ok-sums.ensures c.in_ok-one.ensures.value
    c.requires.coordinates.of_elements c.requires.rows c.in_ok-add_rows.ensures
