use Rattle.std.proofs.Common.{ℕ, List, sym, ◌∙◌, ap, ap₂, subst}
use Rattle.theory_tables.specs.Structure.{Structure, IsOver}
use Rattle.spl_algebra.proofs.algebra.Algebra.copy.Goals as goal

pub new-requires-clause-over : goal.new-requires-clause-over
new-requires-clause-over g c =
    let o = g.F.Field.ops c.args.f.now in
    let m = c.self.inside.dim in
    subst (λ (cs : List g.row.F-Elem.Denot). IsOver o (record { dim = m; constants = cs }))
    (sym c.in_ok-constants.ensures) (subst (IsOver o) (sym c.self.view_is) c.requires)

pub returns : goal.returns
returns g c =
    let make : ℕ → List g.row.F-Elem.Denot → Structure g.row.F-Elem.Denot = λ m cs. record { dim = m; constants = cs } in
    let copy = c.in_ok-copy in
    ap₂ make (copy.ensures.dim ∙ ap (λ A. A.dim) c.self.view_is)
    (copy.ensures.constants ∙ c.in_ok-constants.ensures ∙ ap (λ A. A.constants) c.self.view_is)
