use Rattle.std.proofs.Common.{arith, sym, ◌∙◌, ap, ap₂, subst, get_or, length, List, ℕ, ◌≡◌}
use Rattle.std.proofs.lemmas.List.{length-replicate}
use Rattle.theory_rings.specs.Sum.{at}
use Rattle.theory_rings.specs.Polynomial.{convolution_of}
use Rattle.spl_field.specs.SmallField.{small_ops}
use Rattle.spl_poly.specs.Operations.{IsOver}
use Rattle.spl_poly.proofs.Trimming.{refill_same}
use Rattle.spl_poly.proofs.Results.{product_done}
use Rattle.spl_poly.proofs.poly.Poly.mul.Goals as goal

pub returns-clause-value : goal.returns-clause-value
returns-clause-value c k =
    let o = small_ops c.args.f.now in
    let out : List ℕ = c.write_product.new.out in
    let ex : c.args.self.now ≡ c.as_slice-x.result.now = sym (c.as_slice-x.ensures ∙ c.self.view_is) in
    let ey : c.args.b.now ≡ c.as_slice-y.result.now = sym (c.as_slice-y.ensures ∙ c.b.view_is) in
    let len : length out ≡ length c.in_ok-c.c.items =
    omega (arith, c.write_product.auto.out, ap length c.as_mut_slice.ensures.value) in
    product_done o c.know_laws.ensures c.as_slice-x.result.now c.as_slice-y.result.now out c.without_zeros_at_end.result
    (subst (IsOver o) ex c.requires.self_over) (subst (IsOver o) ey c.requires.b_over)
    (omega (
      arith,
      len,
      ap length c.in_ok-c.ensures,
      length-replicate {A = ℕ} c.saturating_sub.result 0,
      c.saturating_sub.ensures,
    ))
    (λ i l. c.write_product.ensures.value i (omega (arith, l, c.write_product.auto.out)))
    (λ i. c.without_zeros_at_end.ensures.same i ∙ ap (λ l. get_or l i 0) (refill_same c.in_ok-c.c.items out len)) k
    ∙ ap₂ (λ a b. convolution_of o (at o a) (at o b) k) (sym ex) (sym ey)

pub returns-clause-over : goal.returns-clause-over
returns-clause-over c =
    let o = small_ops c.args.f.now in
    let out : List ℕ = c.write_product.new.out in
    let len : length out ≡ length c.in_ok-c.c.items =
    omega (arith, c.write_product.auto.out, ap length c.as_mut_slice.ensures.value) in
    c.without_zeros_at_end.ensures.over o
    (subst (IsOver o) (sym (refill_same c.in_ok-c.c.items out len)) c.write_product.ensures.over)
