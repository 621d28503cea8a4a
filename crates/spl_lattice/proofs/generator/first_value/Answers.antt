use Rattle.std.specs.List.{All}
use Rattle.std.proofs.Common.{sym, subst}
use Rattle.std.proofs.lemmas.List.Elements.{All-push}
use Rattle.theory_rings.specs.Polynomial.{IsTrimmed}
use Rattle.spl_field.specs.SmallField.{small_ops}
use Rattle.spl_poly.specs.Operations.{IsOver}
use Rattle.spl_lattice.proofs.Combinations.{extension_first}
use Rattle.spl_lattice.proofs.generator.first_value.Goals as goal

pub returns-clause-value : goal.returns-clause-value
returns-clause-value c =
    let u = c.in_ok-one in
    extension_first (small_ops c.args.f.now) c.know_laws.ensures c.args.found.value c.args.found.multipliers
    c.args.b.now c.in_ok-copy.field-0 u.field-0 c.push.new.self
    c.requires.value_over c.requires.multipliers_over c.requires.b_over u.ensures.over u.ensures.value c.requires.zero
    c.in_ok-copy.ensures.value c.in_ok-push.ensures.ok

pub returns-clause-multipliers_over : goal.returns-clause-multipliers_over
returns-clause-multipliers_over c =
    let o = small_ops c.args.f.now in
    subst (All (IsOver o)) (sym c.in_ok-push.ensures.ok)
    (All-push (IsOver o) c.args.found.multipliers c.in_ok-one.field-0 c.requires.multipliers_over
    c.in_ok-one.ensures.over)

pub returns-clause-multipliers_trimmed : goal.returns-clause-multipliers_trimmed
returns-clause-multipliers_trimmed c =
    subst (All (IsTrimmed 0)) (sym c.in_ok-push.ensures.ok)
    (All-push (IsTrimmed 0) c.args.found.multipliers c.in_ok-one.field-0 c.requires.multipliers_trimmed
    c.in_ok-one.ensures.trimmed)
