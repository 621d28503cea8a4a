use Rattle.std.proofs.Common.{ap, sym, subst, ◌∙◌}
use Rattle.theory_spaces.specs.Tuples.{IsTuple}
use Rattle.theory_tables.specs.Structure.{product_of}
use Rattle.spl_check.proofs.central.commutes_at.Goals as goal

pub same-requires : goal.same-requires
same-requires g c =
    let o = g.F.Field.ops c.args.f.now in
    let n = c.args.algebra.now.dim in
    let left = subst (IsTuple o n) (sym c.as_slice.ensures) c.in_ok-left.ensures.elem in
    let right = subst (IsTuple o n) (sym c.as_slice-2.ensures) c.in_ok-right.ensures.elem in
    record {
      left = left.of_elements;
      right = record { right_length = right.right_length ∙ sym left.right_length; of_elements = right.of_elements };
    }

pub returns : goal.returns
returns g c =
    let o = g.F.Field.ops c.args.f.now in
    let A = c.args.algebra.now in
    let a = c.args.a.now in
    let e = c.in_ok-b.ensures.value in
    let left = c.as_slice.ensures ∙ c.in_ok-left.ensures.value ∙ ap (λ b. product_of o A a b) e in
    let right = c.as_slice-2.ensures ∙ c.in_ok-right.ensures.value ∙ ap (λ b. product_of o A b a) e in
    ((λ t. sym left ∙ c.same.ensures.0 t ∙ right), (λ h. c.same.ensures.1 (left ∙ h ∙ sym right)))
