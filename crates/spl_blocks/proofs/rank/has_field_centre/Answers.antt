use Rattle.std.proofs.Common.{◌≡◌, ◌≤◌, ◌^◌, ◌-◌, ℕ, List, length, sym, ◌∙◌, ap, ap₂, subst, arith}
use Rattle.theory_rings.specs.Polynomial.{degree}
use Rattle.theory_tables.specs.Subspace.{SpansKernel}
use Rattle.spl_field.specs.SmallField.{size_of}
use Rattle.spl_residue.specs.Residue.{residue_ops, field_of, polynomial_of}
use Rattle.spl_blocks.specs.Fixed.{power_equations, nilpotent_equations}
use Rattle.spl_blocks.proofs.SimpleResidue.{degree-is}
use Rattle.spl_blocks.proofs.RankResidue.{shape_at, field_centre_residue}
use Rattle.spl_blocks.proofs.rank.has_field_centre.Goals as goal

pub nilpotent_weights-requires-clause-shape : goal.nilpotent_weights-requires-clause-shape
nilpotent_weights-requires-clause-shape c =
    shape_at (residue_ops c.args.k.now) c.args.centre.now.rows c.as_slice-rows.result.now c.args.centre.now.width
    c.args.b.now.dim (c.as_slice-rows.ensures ∙ c.rows.ensures) c.requires.width c.requires.basis.shape

pub fixed_weights-requires-clause-shape : goal.fixed_weights-requires-clause-shape
fixed_weights-requires-clause-shape c =
    shape_at (residue_ops c.args.k.now) c.args.centre.now.rows c.as_slice-rows.result.now c.args.centre.now.width
    c.args.b.now.dim (c.as_slice-rows.ensures ∙ c.rows.ensures) c.requires.width c.requires.basis.shape

pub returns : goal.returns
returns c =
    let k = c.args.k.now in
    let o = residue_ops k in
    let T = c.args.b.now in
    let centre = c.args.centre.now in
    let rows = c.as_slice-rows.result.now in
    let rows_is : rows ≡ centre.rows = c.as_slice-rows.ensures ∙ c.rows.ensures in
    let some : 1 ≤ T.dim = omega (arith, c.dim-m.ensures.dim, c.dim-m.ensures.positive) in
    let q : ℕ = c.from-q.result in
    let d : ℕ = length c.as_slice.result.now - 1 in
    let q_is : q ≡ size_of (field_of k) = c.from-q.ensures ∙ c.size.ensures.size ∙ ap size_of c.field.ensures in
    let d_is : d ≡ degree (polynomial_of k) = ap (λ (xs : List ℕ). length xs - 1)
    (c.as_slice.ensures ∙ c.modulus.ensures.value) ∙ degree-is (polynomial_of k) in
    let n = c.in_ok-nilpotent in
    let w = c.in_ok-fixed in
    let P : List (List (List ℕ)) → Type 0 = λ r.
    SpansKernel o T.dim (length r) (nilpotent_equations o T (q ^ d) r) n.nilpotent.rows in
    let Q : List (List (List ℕ)) → Type 0 = λ r.
    SpansKernel o T.dim (length r) (power_equations o T (q ^ d) r) w.fixed.rows in
    let s = field_centre_residue k T c.requires.unital centre.rows centre.width c.requires.width c.requires.basis
    c.requires.members some (q ^ d) (ap₂ (λ a b. a ^ b) q_is d_is)
    n.nilpotent.rows n.nilpotent.width (n.ensures.width ∙ ap length rows_is) n.ensures.basis
    (subst P rows_is n.ensures.members)
    w.fixed.rows w.fixed.width (w.ensures.width ∙ ap length rows_is) w.ensures.basis
    (subst Q rows_is w.ensures.members) in
    let t = c.are_dimensions_of_field.ensures in (
      λ h. let z = t.0 h in s.0 (sym c.dim.ensures ∙ z.0, sym c.dim-2.ensures ∙ z.1),
      λ f. let z = s.1 f in t.1 (c.dim.ensures ∙ z.0, c.dim-2.ensures ∙ z.1),
    )
