use Rattle.std.proofs.Common.{◌≡◌, ◌<◌, ◌*◌, ◌/◌, ◌%◌, ℕ, List, [], length, get_or, refl, subst, sym, ap, ◌∙◌}
use Rattle.spl_field.specs.SmallField.{small_ops, small_laws}
use Rattle.theory_fractions.specs.PolynomialLists.{IsPolynomialList, IsProduct}
use Rattle.theory_fractions.specs.FractionOps.{fraction_ops}
use Rattle.theory_fractions.specs.CommonDenominator.{as_fraction}
use Rattle.theory_fractions.proofs.CommonDenominators.{nonzero_of_monic, divides_self}
use Rattle.theory_fractions.proofs.PolynomialFractions.{as_fraction-mul}
use Rattle.theory_rows.specs.Rows.{IsPolynomialMatrix, RowsAreIndependent}
use Rattle.spl_order.specs.Values.{HasRow, IsScaledInverse, fraction_entry}
use Rattle.spl_order.specs.Coordinates.{AreScaledCoordinates, AreRemainders}
use Rattle.spl_order.proofs.Contents.{product_nonzero}
use Rattle.spl_order.proofs.CoordinateRemainders.{shifted_at, exact, exact-coordinates, exact-congruent}
use Rattle.spl_order.proofs.ProductEntries.{square_count, denominator_nonzero}
use Rattle.spl_order.proofs.ProductItems.{numerators_free, coordinates_over}
use Rattle.spl_order.proofs.coordinates.product_coordinates.Goals as goal

pub inverse_rows-requires-clause-rows : goal.inverse_rows-requires-clause-rows
inverse_rows-requires-clause-rows c =
    let o = small_ops c.args.f.now in
    let L = small_laws c.args.f.now in
    let b = c.args.order.now in
    subst (λ x. IsPolynomialMatrix o (length x) x) (sym c.numerators.ensures)
    (subst (λ n. IsPolynomialMatrix o n b.numerators) (sym (square_count o L c.args.a.now.dim b c.requires.order))
    (let B = c.requires.order in B.rows))

pub inverse_rows-requires-clause-independent : goal.inverse_rows-requires-clause-independent
inverse_rows-requires-clause-independent c =
    let o = small_ops c.args.f.now in
    subst (RowsAreIndependent o) (sym c.numerators.ensures)
    (numerators_free o (small_laws c.args.f.now) c.args.a.now.dim c.args.order.now c.requires.order)

pub place_part-requires-clause-nonzero : goal.place_part-requires-clause-nonzero
place_part-requires-clause-nonzero c =
    let o = small_ops c.args.f.now in
    let L = small_laws c.args.f.now in
    let B = c.requires.order in
    let G = c.requires.numerators in
    let I = c.in_ok-inverse.ensures in
    let g = c.args.numerators.now.denominator in
    let b = c.args.order.now.denominator in
    let d = c.in_ok-denominator in
    let s = c.in_ok-scale in
    let hd : IsPolynomialList o d.denominator = record { over = d.ensures.over; trimmed = d.ensures.trimmed } in
    let product = subst (λ x. IsProduct o g x d.denominator) c.denominator.ensures.value d.ensures.value in
    let nd = product_nonzero o L g b d.denominator G.over B.polynomial hd product
    (denominator_nonzero o L c.args.a.now c.requires.over g c.args.numerators.now.entries G)
    (nonzero_of_monic o L b (let l = B.least in l.monic)) in
    product_nonzero o L d.denominator c.in_ok-inverse.inverse.scale s.scale hd I.polynomial
    (record { over = s.ensures.over; trimmed = s.ensures.trimmed }) s.ensures.value nd I.nonzero

pub flat-requires-clause-rows : goal.flat-requires-clause-rows
flat-requires-clause-rows c =
    let o = small_ops c.args.f.now in
    let B = c.requires.order in
    subst (IsPolynomialMatrix o c.dim-n.result) (sym (c.as_slice.ensures ∙ c.numerators-2.ensures))
    (subst (λ n. IsPolynomialMatrix o n c.args.order.now.numerators) (sym c.dim-n.ensures.dim) B.rows)

pub flat-requires-2-clause-rows : goal.flat-requires-2-clause-rows
flat-requires-2-clause-rows c =
    let o = small_ops c.args.f.now in
    let L = small_laws c.args.f.now in
    let b = c.args.order.now in
    let I = c.in_ok-inverse.ensures in
    subst (IsPolynomialMatrix o c.dim-n.result) (sym c.as_slice-2.ensures)
    (subst (λ n. IsPolynomialMatrix o n c.in_ok-inverse.inverse.rows)
    (ap length c.numerators.ensures ∙ square_count o L c.args.a.now.dim b c.requires.order ∙ sym c.dim-n.ensures.dim)
    I.matrix)

pub remainders-requires-clause-nonzero : goal.remainders-requires-clause-nonzero
remainders-requires-clause-nonzero c =
    let p = c.in_ok-part.ensures in
    let m = c.in_ok-modulus.ensures in
    let P = c.requires.place in
    product_nonzero (small_ops c.args.f.now) (small_laws c.args.f.now) c.in_ok-part.part c.args.m.now
    c.in_ok-modulus.modulus p.polynomial P.polynomial (record { over = m.over; trimmed = m.trimmed }) m.value p.nonzero
    (nonzero_of_monic (small_ops c.args.f.now) (small_laws c.args.f.now) c.args.m.now P.monic)

pub remainders-requires-2-clause-nonzero : goal.remainders-requires-2-clause-nonzero
remainders-requires-2-clause-nonzero c =
    let p = c.in_ok-part.ensures in
    let m = c.in_ok-modulus.ensures in
    let P = c.requires.place in
    product_nonzero (small_ops c.args.f.now) (small_laws c.args.f.now) c.in_ok-part.part c.args.m.now
    c.in_ok-modulus.modulus p.polynomial P.polynomial (record { over = m.over; trimmed = m.trimmed }) m.value p.nonzero
    (nonzero_of_monic (small_ops c.args.f.now) (small_laws c.args.f.now) c.args.m.now P.monic)

pub remainders-requires-3-clause-nonzero : goal.remainders-requires-3-clause-nonzero
remainders-requires-3-clause-nonzero c =
    let p = c.in_ok-part.ensures in
    let m = c.in_ok-modulus.ensures in
    let P = c.requires.place in
    product_nonzero (small_ops c.args.f.now) (small_laws c.args.f.now) c.in_ok-part.part c.args.m.now
    c.in_ok-modulus.modulus p.polynomial P.polynomial (record { over = m.over; trimmed = m.trimmed }) m.value p.nonzero
    (nonzero_of_monic (small_ops c.args.f.now) (small_laws c.args.f.now) c.args.m.now P.monic)

pub scaled_coordinates-requires-clause-rows : goal.scaled_coordinates-requires-clause-rows
scaled_coordinates-requires-clause-rows c =
    let o = small_ops c.args.f.now in
    let r = c.in_ok-rows.ensures in
    subst (λ xs. (p : ℕ) → p < length xs → IsPolynomialList o (get_or xs p [])) (sym c.as_slice-6.ensures)
    (λ p l. let t = r.small p (subst (λ n. p < n) r.count l) in t.polynomial)

pub returns : goal.returns
returns c =
    let o = small_ops c.args.f.now in
    let L = small_laws c.args.f.now in
    let K = fraction_ops o L in
    let A = c.args.a.now in
    let m = c.dim-n.result in
    let dim = c.dim-n.ensures.dim in
    let b = c.args.order.now in
    let B = c.requires.order in
    let g = c.args.numerators.now.denominator in
    let entries = c.args.numerators.now.entries in
    let G = c.requires.numerators in
    let M = G.multiples in
    let place = c.requires.place in
    let count = square_count o L A.dim b B in
    let inverse = c.in_ok-inverse.inverse.rows in
    let s = c.in_ok-inverse.inverse.scale in
    let I = subst (λ n. IsScaledInverse o L n b.numerators inverse s) count
    (subst (λ x. IsScaledInverse o L (length x) x inverse s) c.numerators.ensures c.in_ok-inverse.ensures) in
    let rows = c.in_ok-flat_rows.flat_rows in
    let columns = c.in_ok-flat_columns.flat_columns in
    let R = subst (λ n. HasRow o (λ p. fraction_entry o b.numerators (p / A.dim) (p % A.dim)) (n * A.dim) rows) count
    (subst (λ n. HasRow o (λ p. fraction_entry o b.numerators (p / n) (p % n)) (length b.numerators * n) rows) dim
    (subst (λ x. HasRow o (λ p. fraction_entry o x (p / m) (p % m)) (length x * m) rows)
    (c.as_slice.ensures ∙ c.numerators-2.ensures) c.in_ok-flat_rows.ensures)) in
    let C = subst (λ n. HasRow o (λ p. fraction_entry o inverse (p / A.dim) (p % A.dim)) (n * A.dim) columns) I.count
    (subst (λ n. HasRow o (λ p. fraction_entry o inverse (p / n) (p % n)) (length inverse * n) columns) dim
    (subst (λ x. HasRow o (λ p. fraction_entry o x (p / m) (p % m)) (length x * m) columns)
    c.as_slice-2.ensures c.in_ok-flat_columns.ensures)) in
    let d = c.in_ok-denominator.denominator in
    let hd : IsPolynomialList o d =
    record { over = c.in_ok-denominator.ensures.over; trimmed = c.in_ok-denominator.ensures.trimmed } in
    let scale = c.in_ok-scale.scale in
    let hs : IsPolynomialList o scale =
    record { over = c.in_ok-scale.ensures.over; trimmed = c.in_ok-scale.ensures.trimmed } in
    let g-is = subst (λ x. IsProduct o g x d) c.denominator.ensures.value c.in_ok-denominator.ensures.value in
    let d-is = as_fraction-mul o L g b.denominator d G.over B.polynomial hd g-is in
    let s-is = as_fraction-mul o L d s scale hd I.polynomial hs c.in_ok-scale.ensures.value in
    let part = c.in_ok-part.part in
    let p = c.in_ok-part.ensures in
    let modulus = c.in_ok-modulus.modulus in
    let hm : IsPolynomialList o modulus =
    record { over = c.in_ok-modulus.ensures.over; trimmed = c.in_ok-modulus.ensures.trimmed } in
    let rests = λ (xs ys rest : List (List ℕ)) (e : ys ≡ xs)
    (h : AreRemainders o modulus ys (length ys) rest) (w : ℕ) (n : length xs ≡ w)
    (are : (p : ℕ) → p < w → IsPolynomialList o (get_or xs p [])).
    shifted_at o L c.args.m.now place part modulus p.polynomial hm c.in_ok-modulus.ensures.value xs rest w
    (subst (λ w. AreRemainders o modulus xs w rest) n (subst (λ ys. AreRemainders o modulus ys (length ys) rest) e h)) n
    (λ p l. are p (subst (λ w. p < w) n l)) in
    let hr = rests rows c.as_slice-3.result.now c.in_ok-rows.rows c.as_slice-3.ensures c.in_ok-rows.ensures (A.dim * A.dim)
    R.count R.polynomials in
    let hc = rests columns c.as_slice-4.result.now c.in_ok-columns.columns c.as_slice-4.ensures c.in_ok-columns.ensures
    (A.dim * A.dim) C.count C.polynomials in
    let hk = rests entries c.as_slice-5.result.now c.in_ok-constants.constants c.as_slice-5.ensures
    c.in_ok-constants.ensures (length entries) refl (λ p l. M.polynomials p (subst (λ n. p < n) M.count l)) in
    let items = c.in_ok-items.items in
    let S = subst (λ n. AreScaledCoordinates o L n c.in_ok-rows.rows c.in_ok-columns.columns c.in_ok-constants.constants
    items) dim
    (subst (λ x. AreScaledCoordinates o L m x c.in_ok-columns.columns c.in_ok-constants.constants items)
    c.as_slice-6.ensures
    (subst (λ x. AreScaledCoordinates o L m c.as_slice-6.result.now x c.in_ok-constants.constants items)
    c.as_slice-7.ensures
    (subst (λ x. AreScaledCoordinates o L m c.as_slice-6.result.now c.as_slice-7.result.now x items)
    c.as_slice-8.ensures c.in_ok-items.ensures))) in
    let T = exact-coordinates o L c.args.m.now place part modulus p.polynomial hm c.in_ok-modulus.ensures.value A.dim rows
    columns entries c.in_ok-rows.rows c.in_ok-columns.columns c.in_ok-constants.constants hr hc hk in
    let list = exact o L c.args.m.now place part modulus p.polynomial hm c.in_ok-modulus.ensures.value A.dim rows columns
    entries c.in_ok-rows.rows c.in_ok-columns.columns c.in_ok-constants.constants hr hc hk in
    let X = coordinates_over o L A c.requires.over g entries G b B inverse s I rows columns R C scale hs
    (s-is ∙ ap (λ z. K.mul z (as_fraction o s)) d-is) list T in
    record {
      exact = list;
      coordinates = X;
      count = S.count;
      polynomials = S.polynomials;
      congruent = exact-congruent o L c.args.m.now place part modulus p.polynomial hm c.in_ok-modulus.ensures.value A.dim
          rows columns entries c.in_ok-rows.rows c.in_ok-columns.columns c.in_ok-constants.constants hr hc hk scale hs
          X.nonzero ((p.tells part p.polynomial).0 (divides_self o L part (let h = p.polynomial in h.over))) items S;
    }
