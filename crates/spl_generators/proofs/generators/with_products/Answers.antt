use Rattle.std.proofs.Common.{List, sym, subst}
use Rattle.spl_generators.specs.Generated.{AreGenerated}
use Rattle.spl_generators.proofs.generators.with_products.Goals as goal

pub copy-requires : goal.copy-requires
copy-requires g c = λ i d l. let t = c.requires.rows.shape i d l in t.of_elements

pub loop-s-init : goal.loop-s-init
loop-s-init g c =
    let P : List (List g.row.F-Elem.Denot) → Type 0 =
    AreGenerated (g.F.Field.ops c.args.f.now) c.args.a.now c.args.by.now in
    subst P (sym c.in_ok-more.ensures) c.requires.rows

pub push_products-requires-clause-rows : goal.push_products-requires-clause-rows
push_products-requires-clause-rows g c =
    let P : List (List g.row.F-Elem.Denot) → Type 0 =
    AreGenerated (g.F.Field.ops c.args.f.now) c.args.a.now c.args.by.now in
    subst P (sym c.as_slice-rows.ensures) c.requires.rows

pub loop-s-preserved : goal.loop-s-preserved
loop-s-preserved g c = c.in_ok-push_products.ensures
