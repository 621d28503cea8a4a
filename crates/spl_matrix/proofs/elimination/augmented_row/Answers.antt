use Rattle.std.proofs.Common.{◌≡◌, ◌++◌, ap, ◌∙◌, List, sym, subst}
use Rattle.std.proofs.lemmas.Result.{IfOk-weaker}
use Rattle.theory_rings.specs.Ops.{IsElem}
use Rattle.std.specs.List.{All}
use Rattle.spl_matrix.specs.Elimination.{identity_row}
use Rattle.spl_matrix.proofs.Beside.{identity_row-tuple}
use Rattle.spl_matrix.proofs.elimination.augmented_row.Goals as goal

pub joined-requires-clause-right : goal.joined-requires-clause-right
joined-requires-clause-right g c =
    let o = g.F.Field.ops c.args.f.now in
    let L = g.met.F.Field.laws c.args.f.now in
    let P : List g.row.F-Elem.Denot → Type 0 = λ xs. All (IsElem o) xs in
    subst P (sym (c.as_slice.ensures ∙ c.in_ok-unit.ensures))
    (identity_row-tuple o L c.args.h c.args.i).of_elements

pub returns : goal.returns
returns g c =
    let row = c.args.row.now in
    let unit = identity_row (g.F.Field.ops c.args.f.now) c.args.h c.args.i in
    let P : List g.row.F-Elem.Denot → Type 0 = λ r. r ≡ row ++ c.as_slice.result.now in
    let Q : List g.row.F-Elem.Denot → Type 0 = λ r. r ≡ row ++ unit in
    IfOk-weaker c.joined.result P Q
    (λ r r_is. r_is ∙ ap (λ (xs : List g.row.F-Elem.Denot). row ++ xs) (c.as_slice.ensures ∙ c.in_ok-unit.ensures))
    c.joined.ensures
