use Rattle.std.proofs.Common.{◌≡◌, ◌<◌, ◌*◌, ℕ, sym, subst, ◌∙◌, arith, [], length, get_or, IsTrue, ◌↔◌}
use Rattle.spl_field.specs.SmallField.{small_ops, small_laws}
use Rattle.spl_fraction.specs.Fractions.{field_of}
use Rattle.spl_fraction.specs.FractionsOver.{fractions_over}
use Rattle.theory_fractions.specs.PolynomialLists.{IsPolynomialList}
use Rattle.theory_places.specs.Places.{Finite}
use Rattle.theory_places.specs.FractionPlaces.{IsIntegralAt}
use Rattle.theory_rows.specs.Rows.{IsPolynomialRow, IsPolynomialMatrix}
use Rattle.theory_bases.specs.TupleLattices.{TupleLattice}
use Rattle.theory_bases.specs.Bases.{tuples_of}
use Rattle.spl_order.specs.Coordinates.{row_at, tuple_at, AreProductsOver}
use Rattle.spl_order.specs.Members.{HasDividedProduct}
use Rattle.spl_order.proofs.ProductTests.{row_fits, row_at-row, rows_within}
use Rattle.spl_order.proofs.WithinAt.{back}
use Rattle.spl_order.proofs.orders_at.are_products_within_at.Goals as goal

pub all_pass-requires-clause-matrix : goal.all_pass-requires-clause-matrix
all_pass-requires-clause-matrix c =
    subst (λ q. IsPolynomialMatrix (small_ops q) c.dim-n.result c.in_ok-test.test.columns)
    (c.field-2.ensures ∙ sym c.field-3.ensures) c.in_ok-test.ensures.matrix

pub all_pass-requires-clause-rows : goal.all_pass-requires-clause-rows
all_pass-requires-clause-rows c = λ p l.
    let items = c.in_ok-products.products.items in
    let P = c.in_ok-products.ensures in
    subst (λ q. IsPolynomialList (small_ops q) (get_or c.as_slice.result.now p []))
    (c.field.ensures ∙ sym c.field-3.ensures)
    (subst (λ z. IsPolynomialList (small_ops c.field.result.now) (get_or z p [])) (sym c.as_slice.ensures)
    (P.polynomials p (omega (arith, subst (λ z. p < length z) c.as_slice.ensures l, P.count))))

pub returns : goal.returns
returns c =
    let F = field_of c.args.f.now in
    let o = small_ops F in
    let L = small_laws F in
    let A = c.args.a.now in
    let n = A.dim in
    let items = c.in_ok-products.products.items in
    let scale = c.in_ok-products.products.scale in
    let test = c.in_ok-test.test in
    let place = c.args.place.now in
    let inside = c.args.inside.now in
    let m = c.dim-n.result in
    let n-is : m ≡ n = c.dim-n.ensures.dim in
    let r = c.in_ok-passed.passed in
    let C : AreProductsOver o L A (tuples_of o L c.args.left.now) (tuples_of o L c.args.right.now) scale items =
    subst (λ q. AreProductsOver (small_ops q) (small_laws q) A (tuples_of (small_ops q) (small_laws q) c.args.left.now)
    (tuples_of (small_ops q) (small_laws q) c.args.right.now) scale items) c.field.ensures c.in_ok-products.ensures in
    let Lat = TupleLattice (fractions_over F) (IsIntegralAt o (Finite place)) n (tuples_of o L inside) in
    let H = HasDividedProduct o L test.part n test.columns in
    let row-is : (t : ℕ) → t < n * n → IsPolynomialRow o n (row_at n items t) = λ t l.
    row_at-row o n items (λ p l. C.polynomials p (omega (arith, l, C.count))) t
    (omega (arith, row_fits n (n * n) t l, C.count)) in
    let tells : (t : ℕ) → t < n * n → H (row_at n items t) ↔ Lat (tuple_at o L scale n items t) = λ t l.
    back F c.field-2.result.now c.field-2.ensures m n n-is (λ q w. IsPolynomialRow (small_ops q) w (row_at n items t)
    → HasDividedProduct (small_ops q) (small_laws q) test.part w test.columns (row_at n items t)
    ↔ TupleLattice (fractions_over q) (IsIntegralAt (small_ops q) (Finite place)) w
    (tuples_of (small_ops q) (small_laws q) inside) (tuple_at (small_ops q) (small_laws q) scale n items t))
    (c.in_ok-test.ensures.tells (row_at n items t)) (row-is t l) in
    let passes : IsTrue r ↔ ((t : ℕ) → t < n * n → H (row_at n items t)) =
    subst (λ z. IsTrue r ↔ ((t : ℕ) → t < n * n → H (row_at n z t))) c.as_slice.ensures
    (back F c.field-3.result.now c.field-3.ensures m n n-is (λ q w. IsTrue r ↔ ((t : ℕ) → t < w * w
    → HasDividedProduct (small_ops q) (small_laws q) test.part w test.columns (row_at w c.as_slice.result.now t)))
    c.in_ok-passed.ensures) in
    let w = rows_within o L place c.requires.place A c.requires.over c.args.left.now c.args.right.now inside
    c.requires.left c.requires.right c.requires.inside scale items C in (
      λ t. w.0 (λ s l. (tells s l).0 (passes.0 t s l)),
      λ h. passes.1 (λ s l. (tells s l).1 (w.1 h s l)),
    )
