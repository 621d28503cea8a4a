use Rattle.std.proofs.Common.{ℕ, suc, ◌≡◌, ◌+◌, arith, sym, ◌∙◌, ap, ap₂}
use Rattle.theory_rings.specs.Sum.{sum_of}
use Rattle.spl_field.specs.SmallField.{small_ops}
use Rattle.theory_fractions.proofs.Coefficients.{sum_of-zeros, product_term, product_term-low, convolution_of_sum}
use Rattle.spl_poly.proofs.rows.product_coefficient.Goals as goal
use Rattle.spl_poly.proofs.rows.product_coefficient.Goals.{then-k-y, else-k-y, then-k-x, else-k-x}

pub loop-i-init : goal.loop-i-init
loop-i-init c =
    let o = small_ops c.args.f.now in
    record {
      elem = c.know_laws.ensures.zero-elem;
      value = sym (sum_of-zeros o c.know_laws.ensures c.if-k-y.low
          (product_term o c.know_laws.ensures c.args.x.now c.args.y.now c.requires.x_over c.requires.y_over c.args.k)
          (λ i l. product_term-low o c.know_laws.ensures c.args.x.now c.args.y.now c.requires.x_over c.requires.y_over
          c.args.k i
          (elim c.if-k-y.branch [ then-k-y w ↦ omega arith | else-k-y w ↦ absurd (omega arith) ])));
    }

pub loop-i-preserved : goal.loop-i-preserved
loop-i-preserved c =
    let o = small_ops c.args.f.now in
    let t : ℕ → ℕ = product_term o c.know_laws.ensures c.args.x.now c.args.y.now c.requires.x_over c.requires.y_over
    c.args.k in
    let e : suc c.loop-i.i ≡ c.loop-i.i + 1 = omega arith in
    record {
      elem = c.sum-total.ensures.elem;
      value = c.sum-total.ensures.value ∙ ap₂ o.add c.loop-i.invariant.value c.product.ensures.value
          ∙ ap (λ n. sum_of o n t) e;
    }

pub returns-clause-value : goal.returns-clause-value
returns-clause-value c =
    let o = small_ops c.args.f.now in
    c.loop-i.invariant.value
    ∙ convolution_of_sum o c.know_laws.ensures c.args.x.now c.args.y.now c.requires.x_over c.requires.y_over c.args.k
    c.loop-i.i
    (elim c.if-k-x.branch [
      | then-k-x w ↦ elim c.if-k-y.branch [ then-k-y v ↦ omega arith | else-k-y v ↦ omega arith ]
      | else-k-x w ↦ elim c.if-k-y.branch [ then-k-y v ↦ omega arith | else-k-y v ↦ omega arith ]
    ])
    (λ below. elim c.if-k-x.branch [ then-k-x w ↦ omega arith | else-k-x w ↦ omega arith ])
