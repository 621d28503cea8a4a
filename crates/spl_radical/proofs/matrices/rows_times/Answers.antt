use Rattle.std.proofs.Common.{◌*◌, ◌%◌, [], length, get_or, sym, ◌∙◌, ap, subst}
use Rattle.theory_rings.specs.Sum.{sum, table}
use Rattle.theory_rings.specs.Naturals.{nat_monoid}
use Rattle.theory_tables.proofs.Rows.Sums.{row_at, table_step}
use Rattle.theory_chains.specs.NumberRows.{AreNumbers}
use Rattle.spl_radical.specs.LiftNumbers.{residues_of, level_of}
use Rattle.spl_radical.specs.LiftRing.{size_of}
use Rattle.spl_radical.proofs.matrices.rows_times.Goals as goal

pub row_times-requires-clause-row : goal.row_times-requires-clause-row
row_times-requires-clause-row c =
    let R = c.args.ring.now in
    let a = c.args.a.now in
    let i = c.loop-i.i in
    subst (AreNumbers (size_of (residues_of R) (level_of R)) (length c.args.columns.now))
    (sym (row_at a i c.index-a-i.result c.as_slice.result.now c.loop-i-test.true c.index-a-i.is c.as_slice.ensures))
    (c.requires.rows i c.loop-i-test.true)

pub loop-i-preserved : goal.loop-i-preserved
loop-i-preserved c =
    let R = c.args.ring.now in
    let a = c.args.a.now in
    let i = c.loop-i.i in
    let columns = c.args.columns.now in
    let q = size_of (residues_of R) (level_of R) in
    table_step i (λ i. table (length columns) (λ t. sum nat_monoid (length columns)
    (λ r. get_or (get_or a i []) r 0 * get_or (get_or columns t []) r 0) % q)) c.loop-i.out c.push.new.self
    c.in_ok-row_times.field-0 c.loop-i.invariant
    (c.in_ok-row_times.ensures ∙ ap (λ y. table (length columns) (λ t. sum nat_monoid (length columns)
    (λ r. get_or y r 0 * get_or (get_or columns t []) r 0) % q))
    (row_at a i c.index-a-i.result c.as_slice.result.now c.loop-i-test.true c.index-a-i.is c.as_slice.ensures))
    c.in_ok-push.ensures.ok
