use Rattle.std.proofs.Common.{◌≡◌, List, ◌∙◌, ap}
use Rattle.std.proofs.lemmas.Result.{IfOk-weaker}
use Rattle.theory_spaces.specs.Tuples.{basis}
use Rattle.theory_tables.specs.Structure.{IsElement, basis_of}
use Rattle.spl_algebra.proofs.UnitRows.{IsTuple-of_basis}
use Rattle.spl_algebra.proofs.algebra.Algebra.basis_element.Goals as goal

pub returns-clause-elem : goal.returns-clause-elem
returns-clause-elem g c =
    let o = g.F.Field.ops c.args.f.now in
    let A = c.args.self.now in
    let P : List g.row.F-Elem.Denot → Type 0 = λ r. r ≡ basis o c.dim.result c.args.i in
    let Q : List g.row.F-Elem.Denot → Type 0 = λ r. IsElement o A r in
    IfOk-weaker c.identity_row.result P Q
    (λ r e. IsTuple-of_basis o (g.met.F.Field.laws c.args.f.now) A.dim c.args.i r
    (e ∙ ap (λ m. basis o m c.args.i) c.dim.ensures.dim)) c.identity_row.ensures

pub returns-clause-value : goal.returns-clause-value
returns-clause-value g c =
    let o = g.F.Field.ops c.args.f.now in
    let A = c.args.self.now in
    let P : List g.row.F-Elem.Denot → Type 0 = λ r. r ≡ basis o c.dim.result c.args.i in
    let Q : List g.row.F-Elem.Denot → Type 0 = λ r. r ≡ basis_of o A c.args.i in
    IfOk-weaker c.identity_row.result P Q (λ r e. e ∙ ap (λ m. basis o m c.args.i) c.dim.ensures.dim)
    c.identity_row.ensures
