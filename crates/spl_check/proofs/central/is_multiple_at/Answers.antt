use Rattle.std.proofs.Common.{◌≡◌, ℕ, length, ap, sym, subst, ◌∙◌}
use Rattle.std.specs.List.{All}
use Rattle.theory_rings.specs.Ops.{IsElem}
use Rattle.theory_spaces.specs.Tuples.{tuple_scale, basis}
use Rattle.theory_tables.specs.Structure.{product_of}
use Rattle.spl_check.proofs.Tests.{reworded}
use Rattle.spl_check.proofs.central.is_multiple_at.Goals as goal

pub is_multiple_of_basis-requires : goal.is_multiple_of_basis-requires
is_multiple_of_basis-requires g c = record {
  zero_elem = c.in_ok-zero.ensures.elem;
  zero = c.in_ok-zero.ensures.value;
  factor = c.requires.factor;
  tuple = subst (All (IsElem (g.F.Field.ops c.args.f.now))) (sym c.as_slice.ensures)
      c.in_ok-product.ensures.elem.of_elements;
}

pub returns : goal.returns
returns g c =
    let o = g.F.Field.ops c.args.f.now in
    let A = c.args.algebra.now in
    let is = c.as_slice.ensures ∙ c.in_ok-product.ensures.value
    ∙ ap (λ b. product_of o A c.args.a.now b) c.in_ok-b.ensures.value in
    let long : length c.as_slice.result.now ≡ A.dim =
    ap length c.as_slice.ensures ∙ c.in_ok-product.ensures.elem.right_length in
    let scaled = ap (λ (n : ℕ). tuple_scale o n c.args.c.now (basis o n c.args.i)) long in
    reworded c.is_multiple_of_basis.result c.is_multiple_of_basis.ensures (λ e. sym is ∙ e ∙ scaled)
    (λ h. is ∙ h ∙ sym scaled)
