use Rattle.std.proofs.Common.{sym, ◌∙◌}
use Rattle.spl_poly.proofs.poly.Poly.product_rest.Goals as goal

pub returns-clause-value : goal.returns-clause-value
returns-clause-value c = (
  c.in_ok-divide.field-0.quotient,
  c.in_ok-divide.ensures.quotient_over,
  record {
    whole = λ k. sym (c.in_ok-product.ensures.value k) ∙ c.in_ok-divide.ensures.value.whole k;
    smaller = c.in_ok-divide.ensures.value.smaller;
  },
)
