use Rattle.std.proofs.Common.{◌≡◌, ◌≤◌, ◌*◌, All, length, subst, sym, ap, ◌∙◌}
use Rattle.theory_rings.specs.Ops.{IsElem}
use Rattle.theory_tables.specs.Matrix.{IsMatrix, width_of}
use Rattle.theory_tables.specs.Subspace.{SpansKernel}
use Rattle.spl_residue.specs.Residue.{field_of, polynomial_of, residue_ops}
use Rattle.spl_residue.specs.ResidueOver.{residues_laws}
use Rattle.spl_order.specs.LeftOrders.{product_matrix as matrix_of_products}
use Rattle.spl_order.proofs.ProductMatrices.{product_matrix-count, product_matrix-some, product_matrix-shape, product_matrix-width}
use Rattle.spl_order.proofs.product_matrices.kernel_lifts.Goals as goal

pub kernel-requires-clause-elems : goal.kernel-requires-clause-elems
kernel-requires-clause-elems c =
    let k = c.args.k.now in
    let r = residue_ops k in
    let h = product_matrix-shape r c.args.n c.args.constants.now
    (residues_laws (field_of k) (polynomial_of k) k.irreducible) c.requires.constants in
    subst (All (All (IsElem r))) (sym c.in_ok-matrix.ensures) (λ i d i_in. let t = h i d i_in in t.of_elements)

pub kernel-requires-clause-rows : goal.kernel-requires-clause-rows
kernel-requires-clause-rows c =
    subst (λ m. 1 ≤ length m) (sym c.in_ok-matrix.ensures)
    (product_matrix-some (residue_ops c.args.k.now) c.args.n c.args.constants.now c.requires.positive)

pub returns : goal.returns
returns c =
    let k = c.args.k.now in
    let r = residue_ops k in
    let n = c.args.n in
    let cs = c.args.constants.now in
    let M = matrix_of_products r n cs in
    let kernel = c.in_ok-kernel.kernel in
    let lifts = c.in_ok-lifts.lifts in
    let e : lifts ≡ kernel.rows = c.in_ok-lifts.ensures ∙ c.as_slice.ensures ∙ c.rows.ensures in
    let width : width_of M ≡ n = product_matrix-width r n cs
    (residues_laws (field_of k) (polynomial_of k) k.irreducible) c.requires.constants c.requires.positive in
    let wide : kernel.width ≡ n = c.in_ok-kernel.ensures.width ∙ ap width_of c.in_ok-matrix.ensures ∙ width in
    record {
      matrix = subst (IsMatrix r n) (sym e)
          (subst (λ w. IsMatrix r w kernel.rows) wide c.in_ok-kernel.ensures.basis.shape);
      kernel = subst (SpansKernel r (n * n) n M) (sym e)
          (subst (λ w. SpansKernel r (n * n) w M kernel.rows) width
          (subst (λ h. SpansKernel r h (width_of M) M kernel.rows) (product_matrix-count r n cs)
          (subst (λ m. SpansKernel r (length m) (width_of m) m kernel.rows) c.in_ok-matrix.ensures
          c.in_ok-kernel.ensures.members)));
    }
