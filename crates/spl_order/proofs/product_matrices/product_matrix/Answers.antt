use Rattle.std.proofs.Common.{◌≡◌, ◌/◌, ◌%◌, All, length, subst, sym, ap, ◌∙◌}
use Rattle.theory_rings.specs.Sum.{table}
use Rattle.theory_rings.proofs.Sums.Lists.{length-table, All-table}
use Rattle.theory_spaces.specs.Tuples.{constant}
use Rattle.spl_residue.specs.Residue.{residue_ops}
use Rattle.spl_order.proofs.product_matrices.product_matrix.Goals as goal

pub push-requires : goal.push-requires
push-requires c =
    let r = residue_ops c.args.k.now in
    let n = c.args.n in
    let cs = c.args.constants.now in
    let number = c.loop-number.number in
    let item = c.in_ok-matrix_row.field-0 in
    subst (All (λ row. length row ≡ length item)) (sym c.loop-number.invariant)
    (All-table (λ row. length row ≡ length item) number
    (λ t. table n (λ i. constant r n cs i (t / n) (t % n)))
    (λ t _. length-table n (λ i. constant r n cs i (t / n) (t % n))
    ∙ sym (ap length c.in_ok-matrix_row.ensures
    ∙ length-table n (λ i. constant r n cs i (number / n) (number % n)))))
