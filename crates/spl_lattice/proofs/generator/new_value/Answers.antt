use Rattle.std.specs.List.{All}
use Rattle.std.proofs.Common.{sym, subst}
use Rattle.std.proofs.lemmas.List.Elements.{All-push}
use Rattle.theory_rings.specs.Polynomial.{IsTrimmed}
use Rattle.spl_field.specs.SmallField.{small_ops}
use Rattle.spl_poly.specs.Operations.{IsOver}
use Rattle.spl_lattice.specs.Steps.{AreMultiples}
use Rattle.spl_lattice.proofs.generator.new_value.Goals as goal

pub returns-clause-value : goal.returns-clause-value
returns-clause-value c =
    let v = c.in_ok-value in
    let m = c.in_ok-multipliers in
    record {
      left = v.field-0.left;
      right = v.field-0.right;
      left_over = v.ensures.left_over;
      right_over = v.ensures.right_over;
      greatest = v.ensures.value;
      products = m.multipliers;
      multiples = subst (λ xs.
          AreMultiples (small_ops c.args.f.now) v.field-0.left xs m.multipliers) c.as_slice.ensures m.ensures.value;
      pushed = c.in_ok-push.ensures.ok;
    }

pub returns-clause-multipliers_over : goal.returns-clause-multipliers_over
returns-clause-multipliers_over c =
    let o = small_ops c.args.f.now in
    subst (All (IsOver o)) (sym c.in_ok-push.ensures.ok)
    (All-push (IsOver o) c.in_ok-multipliers.multipliers c.in_ok-value.field-0.right c.in_ok-multipliers.ensures.over
    c.in_ok-value.ensures.right_over)

pub returns-clause-multipliers_trimmed : goal.returns-clause-multipliers_trimmed
returns-clause-multipliers_trimmed c =
    subst (All (IsTrimmed 0)) (sym c.in_ok-push.ensures.ok)
    (All-push (IsTrimmed 0) c.in_ok-multipliers.multipliers c.in_ok-value.field-0.right
    c.in_ok-multipliers.ensures.trimmed c.know_trimmed.ensures)
