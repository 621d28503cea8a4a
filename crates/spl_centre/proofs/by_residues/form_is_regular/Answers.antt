use Rattle.std.proofs.Common.{◌≡◌, ◌≤◌, ◌∙◌, sym, length, arith}
use Rattle.std.proofs.lemmas.Bool.{eqb-true}
use Rattle.spl_centre.proofs.Radicals.{form_height}
use Rattle.spl_centre.proofs.Lines.{form_regular}
use Rattle.spl_centre.proofs.by_residues.form_is_regular.Goals as goal

pub kernel-requires-clause-rows : goal.kernel-requires-clause-rows
kernel-requires-clause-rows g c =
    let a = c.args.a.now in
    omega (
      arith,
      form_height (g.F.Field.ops c.args.f.now) a c.in_ok-form.form c.in_ok-form.ensures.value,
    )

pub returns : goal.returns
returns g c = λ t.
    let a = c.args.a.now in
    let some : 1 ≤ a.dim = omega (arith, c.dim.ensures.dim, c.dim.ensures.positive) in
    let rows = c.in_ok-kernel.kernel.rows in
    let none : length rows ≡ 0 = sym c.dim-2.ensures ∙ eqb-true c.dim-2.result 0 t in
    form_regular (g.F.Field.ops c.args.f.now) (g.met.F.Field.laws c.args.f.now) a c.in_ok-form.form rows
    c.in_ok-form.ensures.value some c.in_ok-kernel.ensures.members none
