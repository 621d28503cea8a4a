use Rattle.std.proofs.Common.{List, sym, subst}
use Rattle.spl_generators.specs.Generated.{AreGenerated}
use Rattle.spl_generators.proofs.generators.enlarged.Goals as goal

pub with_products-requires-clause-rows : goal.with_products-requires-clause-rows
with_products-requires-clause-rows g c =
    let P : List (List g.row.F-Elem.Denot) → Type 0 =
    AreGenerated (g.F.Field.ops c.args.f.now) c.args.a.now c.args.by.now in
    subst P (sym c.rows.ensures) c.requires.rows
