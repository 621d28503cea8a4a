use Rattle.std.proofs.Common.{◌≡◌, ◌<◌, ◌*◌, ℕ, length, sym, subst, ◌∙◌, ap}
use Rattle.std.proofs.lemmas.Bool.{not-true, both_ways}
use Rattle.theory_rings.specs.Sum.{at}
use Rattle.theory_spaces.specs.Tuples.{product, basis}
use Rattle.spl_algebra.specs.Contractions.{contracted}
use Rattle.spl_algebra.proofs.Rows.{row_start-lt_rest, column_start-lt_rest}
use Rattle.spl_algebra.proofs.BasisRows.{first-product_basis, first-basis_product}
use Rattle.spl_algebra.proofs.basis.first_items_differ.Goals as goal

pub contracted_item-requires-clause-within : goal.contracted_item-requires-clause-within
contracted_item-requires-clause-within g c = λ l h.
    column_start-lt_rest c.args.k l c.args.m (length c.args.constants.now) c.requires.third
    (subst (λ (n : ℕ). l < n) c.row_of-first.ensures.elem.right_length h) c.requires.over.right_length

pub contracted_item-requires-2-clause-within : goal.contracted_item-requires-2-clause-within
contracted_item-requires-2-clause-within g c = λ l h.
    row_start-lt_rest c.args.i l c.args.m (length c.args.constants.now) c.requires.first
    (subst (λ (n : ℕ). l < n) c.row_of-second.ensures.elem.right_length h) c.requires.over.right_length

pub returns : goal.returns
returns g c =
    let o = g.F.Field.ops c.args.f.now in
    let laws = g.met.F.Field.laws c.args.f.now in
    let m = c.args.m in
    let cs = c.args.constants.now in
    let elems = c.requires.over.of_elements in
    let i = c.args.i in
    let j = c.args.j in
    let k = c.args.k in
    let first = c.row_of-first in
    let second = c.row_of-second in
    let left = product o m cs (product o m cs (basis o m i) (basis o m j)) (basis o m k) in
    let right = product o m cs (basis o m i) (product o m cs (basis o m j) (basis o m k)) in
    let left_is : c.in_ok-left.left ≡ at o left 0 =
    c.in_ok-left.ensures.value
    ∙ ap (λ n. contracted o n first.result.now cs (k * m) (m * m)) first.ensures.elem.right_length
    ∙ first-product_basis o laws m cs elems first.result.now k first.ensures.elem.of_elements c.requires.third
    ∙ ap (λ a. at o (product o m cs a (basis o m k)) 0) first.ensures.value in
    let right_is : c.in_ok-right.right ≡ at o right 0 =
    c.in_ok-right.ensures.value
    ∙ ap (λ n. contracted o n second.result.now cs (i * m * m) m) second.ensures.elem.right_length
    ∙ first-basis_product o laws m cs elems second.result.now i second.ensures.elem.of_elements c.requires.first
    ∙ ap (λ a. at o (product o m cs (basis o m i) a) 0) second.ensures.value in
    λ differ same. both_ways c.eq.result (not-true c.eq.result differ)
    (c.eq.ensures.1 (left_is ∙ ap (λ xs. at o xs 0) same ∙ sym right_is))
