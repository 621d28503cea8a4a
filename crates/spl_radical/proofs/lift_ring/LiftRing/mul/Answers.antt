use Rattle.std.proofs.Common.{◌≡◌, ◌*◌, sym, ◌∙◌, ap, length}
use Rattle.spl_radical.specs.LiftNumbers.{residues_of, level_of}
use Rattle.spl_radical.specs.LiftRing.{width_of}
use Rattle.spl_radical.proofs.Elements.{below_read, positive_size}
use Rattle.spl_radical.proofs.Columns.{columns_read, combination_read, one_row, one_row_numbers, one_row_count}
use Rattle.spl_radical.proofs.Columns.{one_product}
use Rattle.spl_radical.proofs.lift_ring.LiftRing.mul.Goals as goal

pub columns-requires : goal.columns-requires
columns-requires c =
    let R = c.args.self.now in
    let x = c.in_ok-from_slice.field-0 in
    let rows = c.as_slice.result.now in
    let e = one_row (residues_of R) (level_of R) x c.new-rows.result c.push.new.self rows c.new-rows.ensures
    c.in_ok-push.ensures.ok c.as_slice.ensures in
    record {
      rows = one_row_numbers (residues_of R) (level_of R) x c.args.b.now rows e
          (c.in_ok-from_slice.ensures ∙ c.numbers.ensures) c.requires.right;
      count = one_row_count (residues_of R) (level_of R) R.width x rows e R.width_is;
    }

pub combination-requires : goal.combination-requires
combination-requires c =
    let R = c.args.self.now in
    let k = residues_of R in
    let l = level_of R in
    let x = c.in_ok-from_slice.field-0 in
    let rows = c.as_slice.result.now in
    let e = one_row k l x c.new-rows.result c.push.new.self rows c.new-rows.ensures c.in_ok-push.ensures.ok
    c.as_slice.ensures in
    record {
      positive = positive_size k l R.modulus R.size;
      modulus = R.small;
      numbers = below_read k l R.modulus c.args.a.now c.numbers-2.result.now R.size c.numbers-2.ensures c.requires.left;
      columns = columns_read k l R.modulus c.numbers-2.result.now rows c.in_ok-columns.columns c.as_slice-2.result.now
          R.size c.as_slice-2.ensures c.in_ok-columns.ensures
          (ap length c.numbers-2.ensures ∙ c.requires.left.count ∙ sym R.width_is
          ∙ one_row_count k l R.width x rows e R.width_is);
    }

pub returns : goal.returns
returns c =
    let R = c.args.self.now in
    let k = residues_of R in
    let l = level_of R in
    let a = c.args.a.now in
    let x = c.in_ok-from_slice.field-0 in
    let rows = c.as_slice.result.now in
    let e = one_row k l x c.new-rows.result c.push.new.self rows c.new-rows.ensures c.in_ok-push.ensures.ok
    c.as_slice.ensures in
    let n : length a ≡ length rows * width_of k = c.requires.left.count ∙ sym R.width_is
    ∙ one_row_count k l R.width x rows e R.width_is in
    let h = one_product k l a c.args.b.now x c.in_ok-numbers.numbers rows c.in_ok-columns.columns c.requires.left e
    (c.in_ok-from_slice.ensures ∙ c.numbers.ensures) c.in_ok-columns.ensures
    (combination_read k l R.modulus a c.numbers-2.result.now c.in_ok-numbers.numbers rows c.in_ok-columns.columns
    c.as_slice-2.result.now R.size c.numbers-2.ensures c.as_slice-2.ensures c.in_ok-columns.ensures n
    c.in_ok-numbers.ensures) in
    record { elem = h.0; value = h.1 }
