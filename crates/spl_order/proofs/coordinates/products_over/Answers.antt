use Rattle.std.proofs.Common.{◌*◌, ◌/◌, ◌%◌, length, subst, ap, ◌∙◌}
use Rattle.spl_field.specs.SmallField.{small_ops, small_laws}
use Rattle.theory_fractions.specs.PolynomialLists.{IsPolynomialList, IsProduct}
use Rattle.theory_fractions.specs.FractionOps.{fraction_ops}
use Rattle.theory_fractions.specs.CommonDenominator.{as_fraction}
use Rattle.theory_fractions.proofs.PolynomialFractions.{as_fraction-mul}
use Rattle.spl_order.specs.Values.{HasRow, fraction_entry}
use Rattle.spl_order.specs.Coordinates.{AreRowProducts}
use Rattle.spl_order.proofs.ProductEntries.{square_count}
use Rattle.spl_order.proofs.ProductRows.{products_over}
use Rattle.spl_order.proofs.coordinates.products_over.Goals as goal

pub returns : goal.returns
returns c =
    let o = small_ops c.args.f.now in
    let L = small_laws c.args.f.now in
    let K = fraction_ops o L in
    let A = c.args.a.now in
    let m = c.dim-n.result in
    let dim = c.dim-n.ensures.dim in
    let a = c.args.left.now in
    let b = c.args.right.now in
    let HA = c.requires.left in
    let HB = c.requires.right in
    let g = c.args.numerators.now.denominator in
    let entries = c.args.numerators.now.entries in
    let G = c.requires.numerators in
    let lefts = c.in_ok-lefts.lefts in
    let rights = c.in_ok-rights.rights in
    let S = subst (λ n. HasRow o (λ p. fraction_entry o a.numerators (p / A.dim) (p % A.dim)) (n * A.dim) lefts)
    (square_count o L A.dim a HA)
    (subst (λ n. HasRow o (λ p. fraction_entry o a.numerators (p / n) (p % n)) (length a.numerators * n) lefts) dim
    (subst (λ x. HasRow o (λ p. fraction_entry o x (p / m) (p % m)) (length x * m) lefts)
    (c.as_slice.ensures ∙ c.numerators.ensures) c.in_ok-lefts.ensures)) in
    let T = subst (λ n. HasRow o (λ p. fraction_entry o b.numerators (p / A.dim) (p % A.dim)) (n * A.dim) rights)
    (square_count o L A.dim b HB)
    (subst (λ n. HasRow o (λ p. fraction_entry o b.numerators (p / n) (p % n)) (length b.numerators * n) rights) dim
    (subst (λ x. HasRow o (λ p. fraction_entry o x (p / m) (p % m)) (length x * m) rights)
    (c.as_slice-2.ensures ∙ c.numerators-2.ensures) c.in_ok-rights.ensures)) in
    let d = c.in_ok-denominator.denominator in
    let hd : IsPolynomialList o d =
    record { over = c.in_ok-denominator.ensures.over; trimmed = c.in_ok-denominator.ensures.trimmed } in
    let scale = c.in_ok-scale.scale in
    let hs : IsPolynomialList o scale =
    record { over = c.in_ok-scale.ensures.over; trimmed = c.in_ok-scale.ensures.trimmed } in
    let d-is = as_fraction-mul o L a.denominator b.denominator d HA.polynomial HB.polynomial hd
    (subst (λ x. IsProduct o x b.denominator d) c.denominator.ensures.value
    (subst (λ x. IsProduct o c.denominator.result.now x d) c.denominator-2.ensures.value
    c.in_ok-denominator.ensures.value)) in
    let s-is = as_fraction-mul o L d g scale hd G.over hs c.in_ok-scale.ensures.value in
    let items = c.in_ok-items.items in
    let R = subst (λ n. AreRowProducts o L n lefts rights entries items) dim
    (subst (λ x. AreRowProducts o L m x rights entries items) c.as_slice-3.ensures
    (subst (λ x. AreRowProducts o L m c.as_slice-3.result.now x entries items) c.as_slice-4.ensures
    (subst (λ x. AreRowProducts o L m c.as_slice-3.result.now c.as_slice-4.result.now x items)
    c.as_slice-5.ensures c.in_ok-items.ensures))) in
    products_over o L A c.requires.over g entries G a b HA HB lefts rights S T scale hs
    (s-is ∙ ap (λ z. K.mul z (as_fraction o g)) d-is) items R
