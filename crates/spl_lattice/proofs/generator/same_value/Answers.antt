use Rattle.std.specs.List.{All}
use Rattle.std.proofs.Common.{sym, subst}
use Rattle.std.proofs.lemmas.List.Elements.{All-nil, All-push}
use Rattle.theory_rings.specs.Ops.{IsElem}
use Rattle.theory_rings.specs.Polynomial.{IsTrimmed}
use Rattle.spl_field.specs.SmallField.{small_ops}
use Rattle.spl_poly.specs.Operations.{IsOver}
use Rattle.spl_lattice.proofs.Combinations.{extension_same}
use Rattle.spl_lattice.proofs.generator.same_value.Goals as goal

pub returns-clause-value : goal.returns-clause-value
returns-clause-value c =
    extension_same (small_ops c.args.f.now) c.know_laws.ensures c.args.found.value c.args.found.multipliers c.args.b.now
    c.in_ok-zero.field-0 c.push.new.self
    c.requires.value_over c.requires.multipliers_over c.requires.b_over c.requires.divides
    c.in_ok-zero.ensures c.in_ok-push.ensures.ok

pub returns-clause-multipliers_over : goal.returns-clause-multipliers_over
returns-clause-multipliers_over c =
    let o = small_ops c.args.f.now in
    subst (All (IsOver o)) (sym c.in_ok-push.ensures.ok)
    (All-push (IsOver o) c.args.found.multipliers c.in_ok-zero.field-0 c.requires.multipliers_over
    (subst (IsOver o) (sym c.in_ok-zero.ensures) (All-nil (IsElem o))))

pub returns-clause-multipliers_trimmed : goal.returns-clause-multipliers_trimmed
returns-clause-multipliers_trimmed c =
    subst (All (IsTrimmed 0)) (sym c.in_ok-push.ensures.ok)
    (All-push (IsTrimmed 0) c.args.found.multipliers c.in_ok-zero.field-0 c.requires.multipliers_trimmed
    (subst (IsTrimmed 0) (sym c.in_ok-zero.ensures) tt))
