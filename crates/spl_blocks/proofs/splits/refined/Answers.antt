use Rattle.std.proofs.Common.{◌*◌, List, length, sym, subst}
use Rattle.std.proofs.lemmas.Result.{IfOk-weaker}
use Rattle.theory_tables.specs.Subspace.{Rows}
use Rattle.spl_blocks.specs.Splits.{AreSplit, Refines, AreScalars, AreKept, IsSumOf}
use Rattle.spl_blocks.proofs.RefinedLists.{parts_split, parts_scalars, sums_are_split, sums_finer, sums_scalars}
use Rattle.spl_blocks.proofs.splits.refined.Goals as goal

pub kept_sums-requires-clause-right : goal.kept_sums-requires-clause-right
kept_sums-requires-clause-right g c =
    let o = g.F.Field.ops c.args.f.now in
    let L = g.met.F.Field.laws c.args.f.now in
    let A = c.args.a.now in
    let p = c.in_ok-parts in
    let P : List (Rows g.row.F-Elem.Denot) → Type 0 = AreSplit o A in
    subst P (sym c.as_slice.ensures) (parts_split o L A c.requires.unital c.args.one.now c.requires.one c.args.t.now
    c.requires.central c.args.constants.now c.requires.values p.parts p.ensures)

pub returns : goal.returns
returns g c =
    let o = g.F.Field.ops c.args.f.now in
    let L = g.met.F.Field.laws c.args.f.now in
    let A = c.args.a.now in
    let u = c.requires.unital in
    let one = c.args.one.now in
    let t = c.args.t.now in
    let items = c.args.items.now in
    let p = c.in_ok-parts in
    let R : List (Rows g.row.F-Elem.Denot) → Type 0 = AreSplit o A in
    let parts = subst R (sym c.as_slice.ensures) (parts_split o L A u one c.requires.one t
    c.requires.central c.args.constants.now c.requires.values p.parts p.ensures) in
    let slice = c.as_slice.result.now in
    let T : List (Rows g.row.F-Elem.Denot) → Type 0 = AreScalars o A one t in
    let scalars = subst T (sym c.as_slice.ensures) (parts_scalars o L A u one c.requires.one t
    c.requires.central c.args.constants.now c.requires.values p.parts p.ensures) in
    let P : List (Rows g.row.F-Elem.Denot) → Type 0 =
    AreKept o A (length items * length slice) (IsSumOf o A items slice) in
    let F : List (Rows g.row.F-Elem.Denot) → Type 0 = λ r. Refines o A r items in
    record {
      split = IfOk-weaker c.kept_sums.result P R (λ r k. sums_are_split o L A u items slice c.requires.split parts r k)
          c.kept_sums.ensures;
      finer = IfOk-weaker c.kept_sums.result P F (λ r k. sums_finer o L A u items slice c.requires.split parts r k)
          c.kept_sums.ensures;
      scalars = IfOk-weaker c.kept_sums.result P T
          (λ r k. sums_scalars o L A u one c.requires.one t c.requires.central items slice c.requires.split parts
          scalars r k)
          c.kept_sums.ensures;
    }
