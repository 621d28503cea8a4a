use Rattle.std.proofs.Common.{length}
use Rattle.spl_radical.specs.LiftNumbers.{residues_of, level_of}
use Rattle.spl_radical.proofs.Elements.{positive_size}
use Rattle.spl_radical.proofs.Columns.{rows_read}
use Rattle.spl_radical.proofs.LiftMatrices.{trace_is}
use Rattle.spl_radical.proofs.lift_ring.LiftRing.trace.Goals as goal

pub diagonal_of-requires : goal.diagonal_of-requires
diagonal_of-requires c =
    let R = c.args.self.now in
    let k = residues_of R in
    let l = level_of R in
    record {
      positive = positive_size k l R.modulus R.size;
      modulus = R.small;
      rows = rows_read k l R.modulus R.width (length c.args.rows.now) c.args.rows.now R.size R.width_is
          c.requires.numbers;
    }

pub returns : goal.returns
returns c =
    let R = c.args.self.now in
    trace_is (residues_of R) (level_of R) R.modulus R.width c.args.rows.now c.in_ok-numbers.numbers R.size R.width_is
    c.requires c.in_ok-numbers.ensures
