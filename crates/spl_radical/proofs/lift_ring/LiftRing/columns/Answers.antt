use Rattle.std.proofs.Common.{sym, ◌∙◌, ap, ◌*◌, length}
use Rattle.spl_radical.specs.LiftNumbers.{residues_of, level_of}
use Rattle.spl_radical.proofs.Columns.{steps_read, rows_read, long_rows, columns_are}
use Rattle.spl_radical.proofs.lift_ring.LiftRing.columns.Goals as goal

pub multiples-requires : goal.multiples-requires
multiples-requires c =
    let R = c.args.self.now in
    let m = length c.args.rows.now in
    record {
      steps = steps_read (residues_of R) (level_of R) R.modulus R.width R.back c.as_slice-back.result.now R.turns
          c.as_slice-turns.result.now R.size R.width_is c.as_slice-back.ensures c.as_slice-turns.ensures R.steps.steps;
      rows = rows_read (residues_of R) (level_of R) R.modulus R.width m c.args.rows.now R.size R.width_is
          c.requires.rows;
      count = c.requires.count ∙ ap (λ w. m * w) (sym R.width_is);
    }

pub columns_of-requires : goal.columns_of-requires
columns_of-requires c =
    let R = c.args.self.now in
    let m = length c.args.rows.now in
    long_rows (residues_of R) (level_of R) R.modulus R.width c.args.n c.as_slice-back.result.now
    c.as_slice-turns.result.now c.args.rows.now c.in_ok-all.all c.as_slice.result.now c.as_slice.ensures
    c.in_ok-all.ensures (c.requires.count ∙ ap (λ w. m * w) (sym R.width_is))

pub returns : goal.returns
returns c =
    let R = c.args.self.now in
    columns_are (residues_of R) (level_of R) R.modulus R.width c.args.n R.back c.as_slice-back.result.now R.turns
    c.as_slice-turns.result.now c.args.rows.now c.in_ok-all.all c.as_slice.result.now c.in_ok-columns_of.field-0 R.size
    R.width_is c.requires.count c.as_slice-back.ensures c.as_slice-turns.ensures R.steps c.in_ok-all.ensures
    c.as_slice.ensures c.in_ok-columns_of.ensures
