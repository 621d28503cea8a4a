use Rattle.std.proofs.Common.{ℕ, arith, sym, ◌+◌, ◌∙◌, ◌*◌, ap, subst, take, drop, length}
use Rattle.theory_tables.specs.Matrix.{width_of}
use Rattle.theory_tables.specs.Solve.{IsSolved, IsRefuted}
use Rattle.spl_algebra.specs.IdentitySystem.{ListsMultipliers}
use Rattle.spl_algebra.proofs.IdentityRows.{refutes_identity, opposite_is_one, columns-fit, solution-tuple}
use Rattle.spl_algebra.proofs.IdentityRows.{refutation-tuple, IsTuple-take, IsTuple-drop}
use Rattle.theory_spaces.specs.Tuples.{IsTuple}
use Rattle.spl_algebra.proofs.UnitRows.{IsTuple-of_basis}
use Rattle.spl_algebra.proofs.identity.one_of.Goals as goal

pub system-requires-clause-columns : goal.system-requires-clause-columns
system-requires-clause-columns g c = columns-fit c.args.m c.requires.positive c.requires.fits

pub solve-requires-clause-right : goal.solve-requires-clause-right
solve-requires-clause-right g c =
    let o = g.F.Field.ops c.args.f.now in
    let m = c.args.m in
    let right = IsTuple-of_basis o (g.met.F.Field.laws c.args.f.now) (m + 1) m c.as_slice.result.now
    (c.as_slice.ensures ∙ c.in_ok-right.ensures) in
    subst (λ (n : ℕ). IsTuple o n c.as_slice.result.now) (sym c.in_ok-rows.ensures.height) right

pub returns-in-Solved : goal.returns-in-Solved
returns-in-Solved g c =
    let o = g.F.Field.ops c.args.f.now in
    let m = c.args.m in
    let rows = c.in_ok-rows.rows in
    let solution = rw c.in-Solved.is at c.in_ok-vector.ensures in
    let solved = subst (λ right. IsSolved o (length rows) (width_of rows) rows right c.in-Solved.vector)
    (c.as_slice.ensures ∙ c.in_ok-right.ensures) solution in
    let front = subst (λ xs. ListsMultipliers o m xs c.in_ok-left-in-Solved.left)
    (c.split_at.ensures.front ∙ ap (take (m * m)) c.as_slice-in-Solved.ensures) c.in_ok-left-in-Solved.ensures in
    let back = subst (λ xs. ListsMultipliers o m xs c.in_ok-right-in-Solved.right)
    (c.split_at.ensures.back ∙ ap (drop (m * m)) c.as_slice-in-Solved.ensures) c.in_ok-right-in-Solved.ensures in
    refutes_identity o (g.met.F.Field.laws c.args.f.now) m c.args.constants.now c.requires.over.of_elements rows
    c.in_ok-rows.ensures c.in-Solved.vector c.in_ok-left-in-Solved.left c.in_ok-right-in-Solved.right
    solved front back

pub returns : goal.returns
returns g c =
    let o = g.F.Field.ops c.args.f.now in
    let m = c.args.m in
    let cs = c.args.constants.now in
    let rows = c.in_ok-rows.rows in
    let solution = rw c.in-Refuted.is at c.in_ok-vector.ensures in
    let refuted = subst (λ right. IsRefuted o (length rows) (width_of rows) rows right c.in-Refuted.multipliers)
    (c.as_slice.ensures ∙ c.in_ok-right.ensures) solution in
    rw (c.in_ok-tuple-in-Refuted.ensures.value, c.as_slice-in-Refuted.ensures)
    (opposite_is_one o
    (g.met.F.Field.laws c.args.f.now) m cs c.requires.over.of_elements rows c.in_ok-rows.ensures
    c.in-Refuted.multipliers refuted)

pub solve-requires-clause-elems : goal.solve-requires-clause-elems
solve-requires-clause-elems g c = λ k d l. (c.in_ok-rows.ensures.shape k d l).of_elements

pub split_at-requires : goal.split_at-requires
split_at-requires g c =
    let o = g.F.Field.ops c.args.f.now in
    let rows = c.in_ok-rows.rows in
    let solution : IsSolved o (length rows) (width_of rows) rows c.as_slice.result.now c.in-Solved.vector =
    rw c.in-Solved.is at c.in_ok-vector.ensures in
    let items = solution-tuple o (g.met.F.Field.laws c.args.f.now) c.args.m c.args.constants.now
    c.requires.over.of_elements rows c.in_ok-rows.ensures c.in-Solved.vector c.as_slice-in-Solved.result.now
    solution.tuple c.as_slice-in-Solved.ensures in
    omega (arith, items.right_length)

pub listed-requires-clause-items : goal.listed-requires-clause-items
listed-requires-clause-items g c =
    let o = g.F.Field.ops c.args.f.now in
    let m = c.args.m in
    let rows = c.in_ok-rows.rows in
    let solution : IsSolved o (length rows) (width_of rows) rows c.as_slice.result.now c.in-Solved.vector =
    rw c.in-Solved.is at c.in_ok-vector.ensures in
    let items = solution-tuple o (g.met.F.Field.laws c.args.f.now) m c.args.constants.now
    c.requires.over.of_elements rows c.in_ok-rows.ensures c.in-Solved.vector c.as_slice-in-Solved.result.now
    solution.tuple c.as_slice-in-Solved.ensures in
    IsTuple-take o (m * m) c.as_slice-in-Solved.result.now c.split_at.result.0.now items c.split_at.ensures.front

pub listed-requires-in-Solved-clause-items : goal.listed-requires-in-Solved-clause-items
listed-requires-in-Solved-clause-items g c =
    let o = g.F.Field.ops c.args.f.now in
    let m = c.args.m in
    let rows = c.in_ok-rows.rows in
    let solution : IsSolved o (length rows) (width_of rows) rows c.as_slice.result.now c.in-Solved.vector =
    rw c.in-Solved.is at c.in_ok-vector.ensures in
    let items = solution-tuple o (g.met.F.Field.laws c.args.f.now) m c.args.constants.now
    c.requires.over.of_elements rows c.in_ok-rows.ensures c.in-Solved.vector c.as_slice-in-Solved.result.now
    solution.tuple c.as_slice-in-Solved.ensures in
    IsTuple-drop o (m * m) c.as_slice-in-Solved.result.now c.split_at.result.1.now items c.split_at.ensures.back

pub opposite-requires : goal.opposite-requires
opposite-requires g c =
    let o = g.F.Field.ops c.args.f.now in
    let rows = c.in_ok-rows.rows in
    let refuted : IsRefuted o (length rows) (width_of rows) rows c.as_slice.result.now c.in-Refuted.multipliers =
    rw c.in-Refuted.is at c.in_ok-vector.ensures in
    refutation-tuple o (g.met.F.Field.laws c.args.f.now) c.args.m c.args.constants.now c.requires.over.of_elements rows
    c.in_ok-rows.ensures c.in-Refuted.multipliers c.as_slice-in-Refuted.result.now refuted.tuple
    c.as_slice-in-Refuted.ensures
