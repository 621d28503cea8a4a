use Rattle.std.proofs.Common.{◌≡◌, ◌≤◌, ◌^◌, ◌-◌, ℕ, List, length, sym, ◌∙◌, ap, ap₂, subst, arith}
use Rattle.std.proofs.lemmas.Bool.{eqb-true, eq-eqb}
use Rattle.theory_rings.specs.Polynomial.{degree}
use Rattle.theory_tables.specs.Subspace.{SpansKernel}
use Rattle.spl_field.specs.SmallField.{size_of}
use Rattle.spl_residue.specs.Residue.{residue_ops, field_of, polynomial_of}
use Rattle.spl_blocks.specs.Fixed.{power_equations}
use Rattle.spl_blocks.proofs.SimpleResidue.{simple_residue, degree-is}
use Rattle.spl_blocks.proofs.simple.is_simple.Goals as goal

pub returns : goal.returns
returns c =
    let k = c.args.k.now in
    let o = residue_ops k in
    let T = c.args.b.now in
    let centre = c.in_ok-centre in
    let w = c.in_ok-weights in
    let rows = c.as_slice-2.result.now in
    let rows_is : rows ≡ centre.centre.rows = c.as_slice-2.ensures ∙ c.rows.ensures in
    let some : 1 ≤ T.dim = omega (arith, c.dim-m.ensures.dim, c.dim-m.ensures.positive) in
    let q : ℕ = c.from-q.result in
    let d : ℕ = length c.as_slice.result.now - 1 in
    let q_is : q ≡ size_of (field_of k) = c.from-q.ensures ∙ c.size.ensures.size ∙ ap size_of c.field.ensures in
    let d_is : d ≡ degree (polynomial_of k) = ap (λ (xs : List ℕ). length xs - 1)
    (c.as_slice.ensures ∙ c.modulus.ensures.value) ∙ degree-is (polynomial_of k) in
    let M : List (List (List ℕ)) → Type 0 = λ r.
    SpansKernel o T.dim (length r) (power_equations o T (q ^ d) r) w.weights.rows in
    let s = simple_residue k T c.requires.unital some c.requires.semisimple centre.centre.rows centre.centre.width
    centre.ensures.width centre.ensures.basis centre.ensures.members w.weights.rows w.weights.width
    (w.ensures.width ∙ ap length rows_is) w.ensures.basis (q ^ d) (ap₂ (λ a b. a ^ b) q_is d_is)
    (subst M rows_is w.ensures.members) in (
      λ t. s.0 (sym c.dim.ensures ∙ eqb-true c.dim.result 1 t),
      λ h. eq-eqb c.dim.result 1 (c.dim.ensures ∙ s.1 h),
    )
