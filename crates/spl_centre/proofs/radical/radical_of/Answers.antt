use Rattle.std.proofs.Common.{◌≤◌, ◌∙◌, arith}
use Rattle.spl_centre.proofs.Radicals.{form_height, form_width, kernel_is_radical}
use Rattle.spl_centre.proofs.radical.radical_of.Goals as goal

pub kernel-requires-clause-rows : goal.kernel-requires-clause-rows
kernel-requires-clause-rows g c =
    let a = c.args.a.now in
    omega (
      arith,
      form_height
          (g.F.Field.ops c.args.f.now) a c.in_ok-form.form c.in_ok-form.ensures.value,
    )

pub returns-clause-width : goal.returns-clause-width
returns-clause-width g c =
    let a = c.args.a.now in
    let some : 1 ≤ a.dim = omega (arith, c.dim.ensures.dim, c.dim.ensures.positive) in
    c.in_ok-radical.ensures.width
    ∙ form_width (g.F.Field.ops c.args.f.now) a c.in_ok-form.form c.in_ok-form.ensures.value some

pub returns-clause-members : goal.returns-clause-members
returns-clause-members g c =
    let a = c.args.a.now in
    let some : 1 ≤ a.dim = omega (arith, c.dim.ensures.dim, c.dim.ensures.positive) in
    kernel_is_radical (g.F.Field.ops c.args.f.now)
    (g.met.F.Field.laws c.args.f.now) a c.requires.over c.requires.associative c.requires.identity
    c.in_ok-form.form c.in_ok-radical.radical.rows c.in_ok-form.ensures.value some c.in_ok-radical.ensures.members
