-- The test of simple algebras over a residue field.
use Rattle.std.specs.Prelude.{◌≡◌, ◌↔◌, ◌-◌, ◌*◌, ◌≤◌, ◌^◌, ℕ, suc, List, [], ◌∷◌, length}
use Rattle.std.proofs.Common.{refl, sym, subst, ◌∙◌, arith}
use Rattle.theory_rings.specs.Polynomial.{degree}
use Rattle.theory_tables.specs.Subspace.{IsReducedBasis, SpansKernel}
use Rattle.theory_tables.specs.Structure.{Structure}
use Rattle.spl_field.specs.SmallField.{size_of, characteristic}
use Rattle.spl_residue.specs.declared.field.ResidueField.{ResidueField}
use Rattle.spl_residue.specs.Residue.{residue_ops, field_of, polynomial_of}
use Rattle.spl_algebra.specs.Subspaces.{SpansCentre}
use Rattle.spl_blocks.specs.Blocks.{IsUnital, HasNoNilpotentIdeal, IsSimple}
use Rattle.spl_blocks.specs.Fixed.{power_equations}
use Rattle.spl_blocks.proofs.Residues.{residue_numbers, residue_field_laws, size-residues, power-residues, residue_char}
use Rattle.spl_blocks.proofs.Residues.{small_prime}
use Rattle.spl_blocks.proofs.SimpleBlocks.{simple_iff}

pub degree-is : (xs : List ℕ) → length xs - 1 ≡ degree xs
degree-is [] = refl
degree-is (x ∷ xs) = let e : suc (length xs) - 1 ≡ length xs = omega arith in e

pub simple_residue : (k : ResidueField) (T : Structure (List ℕ)) (u : IsUnital (residue_ops k) T) → 1 ≤ T.dim
    → HasNoNilpotentIdeal (residue_ops k) T
    → (centre : List (List (List ℕ))) (w : ℕ) → w ≡ T.dim → IsReducedBasis (residue_ops k) w centre
    → SpansCentre (residue_ops k) T centre
    → (weights : List (List (List ℕ))) (v : ℕ) → v ≡ length centre → IsReducedBasis (residue_ops k) v weights
    → (n : ℕ) → n ≡ size_of (field_of k) ^ degree (polynomial_of k)
    → SpansKernel (residue_ops k) T.dim (length centre) (power_equations (residue_ops k) T n centre) weights
    → (length weights ≡ 1) ↔ IsSimple (residue_ops k) T
simple_residue k T u positive none centre w wide basis members weights v long wbasis n size wmembers =
    let o = residue_ops k in
    let f = field_of k in
    simple_iff o (residue_field_laws k) T u positive (residue_numbers k) (characteristic f)
    (length f.modulus.items * degree (polynomial_of k)) (small_prime f) (residue_char k) (power-residues k) none
    centre (subst (λ a. IsReducedBasis o a centre) wide basis) members
    weights (subst (λ a. IsReducedBasis o a weights) long wbasis)
    (subst (λ a. SpansKernel o T.dim (length centre) (power_equations o T a centre) weights)
    (size ∙ sym (size-residues k)) wmembers)
