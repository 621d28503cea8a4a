use Rattle.std.proofs.Common.{◌≡◌, ℕ, ◌<◌, ◌*◌, ◌-◌, length, take, drop, sym, ◌∙◌, subst, arith}
use Rattle.std.proofs.lemmas.List.{take_rest, length-drop}
use Rattle.theory_spaces.specs.Tuples.{IsTuple}
use Rattle.spl_algebra.proofs.Terms.{read-at}
use Rattle.spl_algebra.proofs.UnitRows.{IsTuple-of_zeros}
use Rattle.spl_algebra.proofs.Rows.{row_end-le_rest, parts-none, parts-more, parts-all}
use Rattle.spl_algebra.proofs.products.product_of_slices.Goals as goal

pub loop-i-init : goal.loop-i-init
loop-i-init g c =
    let o = g.F.Field.ops c.args.f.now in
    let L = g.met.F.Field.laws c.args.f.now in
    let sums = IsTuple-of_zeros o L c.args.m c.in_ok-sums.sums c.in_ok-sums.ensures in
    parts-none o L c.args.m c.in_ok-sums.sums c.args.constants.now c.args.a.now c.args.b.now sums.of_elements

pub add_rows-requires-clause-coordinates : goal.add_rows-requires-clause-coordinates
add_rows-requires-clause-coordinates g c =
    let o = g.F.Field.ops c.args.f.now in
    let sums = IsTuple-of_zeros o (g.met.F.Field.laws c.args.f.now) c.args.m c.in_ok-sums.sums c.in_ok-sums.ensures in
    subst (λ (n : ℕ). IsTuple o n c.args.b.now) (sym (c.loop-i.invariant.same_length ∙ sums.right_length))
    c.requires.right

pub add_rows-requires-clause-within : goal.add_rows-requires-clause-within
add_rows-requires-clause-within g c =
    let m = c.args.m in
    let constants = c.args.constants.now in
    let i = c.loop-i.i in
    let sums = IsTuple-of_zeros (g.F.Field.ops c.args.f.now) (g.met.F.Field.laws c.args.f.now) m c.in_ok-sums.sums
    c.in_ok-sums.ensures in
    let now_m : length c.loop-i.sums ≡ m = c.loop-i.invariant.same_length ∙ sums.right_length in
    λ l h.
    let l_in : l < m = omega (arith, now_m) in
    rw (take_rest constants (i * m * m), length-drop (i * m * m) constants, now_m)
    (row_end-le_rest i l m (length constants) (omega arith) l_in c.requires.over.right_length)

pub loop-i-preserved : goal.loop-i-preserved
loop-i-preserved g c =
    let o = g.F.Field.ops c.args.f.now in
    let laws = g.met.F.Field.laws c.args.f.now in
    let m = c.args.m in
    let constants = c.args.constants.now in
    let a = c.args.a.now in
    let i = c.loop-i.i in
    let old = c.in_ok-sums in
    let sums = IsTuple-of_zeros o laws m old.sums old.ensures in
    let read = c.index-a-i in
    let in_a : i < length a = omega (arith, c.requires.left.right_length) in
    parts-more o laws m old.sums c.loop-i.sums c.add_rows.new.sums constants a c.args.b.now i read.result
    (take (length constants - i * m * m) (drop (i * m * m) constants))
    sums.right_length sums.of_elements c.requires.over.of_elements
    c.requires.left.of_elements c.requires.right.of_elements
    (read-at o a i read.result in_a read.is) (take_rest constants (i * m * m))
    c.loop-i.invariant c.in_ok-add_rows.ensures

pub returns-clause-elem : goal.returns-clause-elem
returns-clause-elem g c =
    let sums = IsTuple-of_zeros (g.F.Field.ops c.args.f.now) (g.met.F.Field.laws c.args.f.now) c.args.m
    c.in_ok-sums.sums c.in_ok-sums.ensures in
    record {
      right_length = c.loop-i.invariant.same_length ∙ sums.right_length;
      of_elements = c.loop-i.invariant.of_elements;
    }

pub returns-clause-value : goal.returns-clause-value
returns-clause-value g c =
    let o = g.F.Field.ops c.args.f.now in
    let m = c.args.m in
    let done : c.loop-i.i ≡ m = omega arith in
    parts-all o (g.met.F.Field.laws c.args.f.now) m c.in_ok-sums.sums c.loop-i.sums c.args.constants.now
    c.args.a.now c.args.b.now
    c.in_ok-sums.ensures c.requires.over.of_elements c.requires.left.of_elements c.requires.right.of_elements
    (rw done at c.loop-i.invariant)
