use Rattle.theory_left_orders.proofs.TupleIdeals.{residue_tables_are_algebras, preimages_of_rows}
use Rattle.theory_left_orders.proofs.left_order_laws.preimages_of_rows.Goals as goal

pub returns-clause-algebra : goal.returns-clause-algebra
returns-clause-algebra g c =
    let t = g.T.TupleResidueRing in
    residue_tables_are_algebras t.ops t.laws t.Weight t.p t.q t.residue_ops t.residue_laws t.residue

pub returns-clause-preimages : goal.returns-clause-preimages
returns-clause-preimages g c =
    let t = g.T.TupleResidueRing in
    preimages_of_rows t.ops t.laws t.Weight t.p t.q t.residue_ops t.residue_laws t.residue
