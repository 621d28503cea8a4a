use Rattle.std.proofs.Common.{◌<◌, ◌*◌, ◌%◌, [], length, get_or, All, sym, ◌∙◌, ap₂, subst}
use Rattle.theory_rings.specs.Sum.{sum, table}
use Rattle.theory_rings.specs.Naturals.{nat_monoid}
use Rattle.theory_chains.specs.NumberRows.{AreRows}
use Rattle.spl_radical.specs.LiftNumbers.{residues_of, level_of}
use Rattle.spl_radical.specs.LiftRing.{size_of}
use Rattle.spl_radical.proofs.Elements.{positive_size}
use Rattle.spl_radical.proofs.lift_ring.LiftRing.row_times.Goals as goal

pub combination-requires : goal.combination-requires
combination-requires c =
    let R = c.args.self.now in
    let columns = c.args.columns.now in
    record {
      positive = positive_size (residues_of R) (level_of R) R.modulus R.size;
      modulus = R.small;
      numbers = subst (λ q. All (λ x. x < q) c.args.row.now) (sym R.size) c.requires.row.below;
      columns = subst (λ q. AreRows q (length c.args.row.now) columns) (sym R.size)
          (subst (λ n. AreRows (size_of (residues_of R) (level_of R)) n columns) (sym c.requires.row.count)
          c.requires.columns);
    }

pub returns : goal.returns
returns c =
    let columns = c.args.columns.now in
    c.in_ok-combination.ensures ∙ ap₂ (λ n q. table (length columns) (λ t. sum nat_monoid n
    (λ r. get_or c.args.row.now r 0 * get_or (get_or columns t []) r 0) % q)) c.requires.row.count c.args.self.now.size
