use Rattle.std.proofs.Common.{sym, ◌∙◌, ap, subst, length}
use Rattle.theory_rows.specs.Rows.{IsPolynomialMatrix}
use Rattle.spl_field.specs.SmallField.{small_ops}
use Rattle.spl_lattice.proofs.RowLattices.{unit_rows-matrix, units-length}
use Rattle.spl_lattice.proofs.reduced.split_with_units.Goals as goal

pub insert_extended-requires-clause-tails : goal.insert_extended-requires-clause-tails
insert_extended-requires-clause-tails c =
    let o = small_ops c.args.f.now in
    subst (IsPolynomialMatrix o (length c.args.rows.now)) (sym (c.as_slice.ensures ∙ c.in_ok-tails.ensures))
    (unit_rows-matrix o c.know_laws.ensures (length c.args.rows.now))

pub insert_extended-requires-clause-count : goal.insert_extended-requires-clause-count
insert_extended-requires-clause-count c =
    ap length (c.as_slice.ensures ∙ c.in_ok-tails.ensures)
    ∙ units-length (small_ops c.args.f.now) c.know_laws.ensures (length c.args.rows.now)
