use Rattle.std.proofs.Common.{◌*◌, ◌%◌, [], length, get_or, ◌∙◌, ap}
use Rattle.theory_rings.specs.Sum.{sum, table}
use Rattle.theory_rings.specs.Naturals.{nat_monoid}
use Rattle.spl_radical.specs.LiftNumbers.{residues_of, level_of}
use Rattle.spl_radical.specs.LiftRing.{size_of}
use Rattle.spl_radical.proofs.LiftMatrices.{product_shape, product_value, rows_of_columns, columns_of_columns}
use Rattle.spl_radical.proofs.matrices.product.Goals as goal

pub columns-requires-clause-rows : goal.columns-requires-clause-rows
columns-requires-clause-rows c = c.requires.right.numbers

pub rows_times-requires : goal.rows_times-requires
rows_times-requires c =
    let R = c.args.ring.now in
    record {
      rows = rows_of_columns (residues_of R) (level_of R) c.args.a.now c.args.b.now c.in_ok-columns.columns
          c.as_slice.result.now c.requires.left c.in_ok-columns.ensures c.as_slice.ensures;
      columns = columns_of_columns (residues_of R) (level_of R) c.args.b.now c.in_ok-columns.columns
          c.as_slice.result.now c.in_ok-columns.ensures c.as_slice.ensures;
    }

pub returns : goal.returns
returns c =
    let R = c.args.ring.now in
    let k = residues_of R in
    let l = level_of R in
    let a = c.args.a.now in
    let e = c.in_ok-rows_times.ensures ∙ ap (λ columns. table (length a) (λ i. table (length columns)
    (λ t. sum nat_monoid (length columns)
    (λ r. get_or (get_or a i []) r 0 * get_or (get_or columns t []) r 0) % size_of k l))) c.as_slice.ensures in
    record {
      shape = product_shape k l a c.args.b.now c.in_ok-columns.columns c.in_ok-rows_times.field-0 c.requires.left
          c.in_ok-columns.ensures e;
      value = product_value k l a c.args.b.now c.in_ok-columns.columns c.in_ok-rows_times.field-0 c.requires.left
          c.in_ok-columns.ensures e;
    }
