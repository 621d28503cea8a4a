-- Whether the centre of an algebra over a residue field is a field, by the steps of `has_field_centre`, and the test by
-- the two-sided rank.
use Rattle.std.specs.Prelude.{◌≡◌, ◌↔◌, ◌*◌, ◌≤◌, ◌^◌, ℕ, List, length}
use Rattle.std.proofs.Common.{sym, subst, ◌∙◌}
use Rattle.theory_rings.specs.Polynomial.{degree}
use Rattle.theory_rings.specs.Ops.{Ops}
use Rattle.theory_tables.specs.Matrix.{IsMatrix}
use Rattle.theory_tables.specs.Subspace.{IsReducedBasis, SpansKernel}
use Rattle.theory_tables.specs.Structure.{Structure}
use Rattle.spl_field.specs.SmallField.{size_of, characteristic}
use Rattle.spl_residue.specs.declared.field.ResidueField.{ResidueField}
use Rattle.spl_residue.specs.Residue.{residue_ops, field_of, polynomial_of}
use Rattle.spl_algebra.specs.Subspaces.{SpansCentre}
use Rattle.spl_algebra.specs.TwoSided.{IsTwoSidedRank}
use Rattle.spl_blocks.specs.Blocks.{IsUnital, IsSimple}
use Rattle.spl_blocks.specs.Fixed.{power_equations, nilpotent_equations}
use Rattle.spl_blocks.specs.Ranks.{HasFieldCentre}
use Rattle.spl_blocks.proofs.Residues.{residue_numbers, residue_field_laws, size-residues, power-residues, residue_char}
use Rattle.spl_blocks.proofs.Residues.{small_prime}
use Rattle.spl_blocks.proofs.FieldCentres.{field_centre_by_powers}
use Rattle.spl_blocks.proofs.ReducedCentres.{reduced_iff}
use Rattle.spl_blocks.proofs.Ranks.{simple_by_two_sided_rank, simple_has_field_centre}

-- rows under another name, and their length
pub shape_at : {E : Type 0} (o : Ops E) (rows slice : List (List E)) (w m : ℕ) → slice ≡ rows → w ≡ m
    → IsMatrix o w rows → IsMatrix o m slice
shape_at o rows slice w m is wide h = subst (IsMatrix o m) (sym is) (subst (λ n. IsMatrix o n rows) wide h)

module _ (k : ResidueField) (T : Structure (List ℕ)) (u : IsUnital (residue_ops k) T)
    (centre : List (List (List ℕ))) (w : ℕ) (wide : w ≡ T.dim) (basis : IsReducedBasis (residue_ops k) w centre)
    (members : SpansCentre (residue_ops k) T centre) where
  narrow : IsReducedBasis (residue_ops k) T.dim centre
  narrow = subst (λ a. IsReducedBasis (residue_ops k) a centre) wide basis

  pub field_centre_residue : 1 ≤ T.dim → (n : ℕ) → n ≡ size_of (field_of k) ^ degree (polynomial_of k)
      → (kernel : List (List (List ℕ))) (t : ℕ) → t ≡ length centre → IsReducedBasis (residue_ops k) t kernel
      → SpansKernel (residue_ops k) T.dim (length centre) (nilpotent_equations (residue_ops k) T n centre) kernel
      → (weights : List (List (List ℕ))) (v : ℕ) → v ≡ length centre → IsReducedBasis (residue_ops k) v weights
      → SpansKernel (residue_ops k) T.dim (length centre) (power_equations (residue_ops k) T n centre) weights
      → ((length kernel ≡ 0) × (length weights ≡ 1)) ↔ HasFieldCentre (residue_ops k) T
  field_centre_residue positive n size kernel t tall kbasis kspans weights v long wbasis wspans =
      let o = residue_ops k in
      let f = field_of k in
      let L = residue_field_laws k in
      let N = residue_numbers k in
      let e = length f.modulus.items * degree (polynomial_of k) in
      let same = size ∙ sym (size-residues k) in
      let r = reduced_iff o L T u N (characteristic f) e (small_prime f) (residue_char k) (power-residues k)
      centre narrow members kernel (subst (λ a. IsReducedBasis o a kernel) tall kbasis)
      (subst (λ a. SpansKernel o T.dim (length centre) (nilpotent_equations o T a centre) kernel) same kspans) in
      let h = field_centre_by_powers o L N (characteristic f) e (small_prime f) (residue_char k) (power-residues k)
      T u positive centre narrow members weights (subst (λ a. IsReducedBasis o a weights) long wbasis)
      (subst (λ a. SpansKernel o T.dim (length centre) (power_equations o T a centre) weights) same wspans) in (
        λ s. h.1 (r.0 s.0, s.1),
        λ g. let s = h.0 g in (r.1 s.0, s.1),
      )

  -- where the centre is a field, the rank decides
  pub simple_residue_by_rank : 1 ≤ T.dim → HasFieldCentre (residue_ops k) T → (r : ℕ)
      → IsTwoSidedRank (residue_ops k) T r → (r * length centre ≡ T.dim * T.dim) ↔ IsSimple (residue_ops k) T
  simple_residue_by_rank positive field r rank =
      let s = simple_by_two_sided_rank (residue_ops k) (residue_field_laws k) T u positive centre narrow members r rank
      in
      (λ e. s.1 (field, e), λ i. (s.0 i).1)

pub simple_residue_field : (k : ResidueField) (T : Structure (List ℕ)) → IsUnital (residue_ops k) T
    → IsSimple (residue_ops k) T → HasFieldCentre (residue_ops k) T
simple_residue_field k T u = simple_has_field_centre (residue_ops k) (residue_field_laws k) T u
