-- The maximal ideals of an algebra over a residue field, by the steps of `maximal_ideals`.
use Rattle.std.specs.Prelude.{◌≡◌, ◌⊎◌, ◌*◌, ◌<◌, ◌≤◌, ◌^◌, ℕ, List, [], ◌∷◌, length, get_or}
use Rattle.std.proofs.Common.{sym, subst, ◌∙◌}
use Rattle.theory_rings.specs.Polynomial.{degree}
use Rattle.theory_tables.specs.Subspace.{Rows, IsReducedBasis, SpansKernel}
use Rattle.theory_tables.specs.Structure.{Structure}
use Rattle.theory_tables.specs.Algebras.{IsIdentity}
use Rattle.spl_field.specs.SmallField.{small_ops, small_laws, size_of}
use Rattle.spl_residue.specs.declared.field.ResidueField.{ResidueField}
use Rattle.spl_residue.specs.Residue.{residue_ops, field_of, polynomial_of}
use Rattle.spl_algebra.specs.Subspaces.{SpansCentre}
use Rattle.spl_blocks.specs.Blocks.{IsUnital, HasNoNilpotentIdeal, AreMaximalIdeals}
use Rattle.spl_blocks.specs.Classes.{IsClassOf, AreConstants}
use Rattle.spl_blocks.specs.Fixed.{power_equations}
use Rattle.spl_blocks.specs.Splits.{AreSplit, HasValuedTraces, AreTracesScalars, combination_of}
use Rattle.spl_blocks.proofs.Residues.{members, size-residues, power-residues, residue_char, small_prime, constant-is}
use Rattle.spl_blocks.proofs.Residues.{variable-is}
use Rattle.spl_blocks.proofs.MaximalBlocks as blocks

module _ (k : ResidueField) (T : Structure (List ℕ)) (u : IsUnital (residue_ops k) T) (positive : 1 ≤ T.dim)
    (none : HasNoNilpotentIdeal (residue_ops k) T) (one : List (List ℕ)) (is_one : IsIdentity (residue_ops k) T one)
    (cs : List (List ℕ)) (hc : AreConstants k cs) (x : List ℕ) (hx : IsClassOf k (0 ∷ 1 ∷ []) x)
    (centre : List (List (List ℕ))) (w : ℕ) (wide : w ≡ T.dim) (basis : IsReducedBasis (residue_ops k) w centre)
    (spans : SpansCentre (residue_ops k) T centre)
    (weights : List (List (List ℕ))) (v : ℕ) (long : v ≡ length centre)
    (wbasis : IsReducedBasis (residue_ops k) v weights)
    (n : ℕ) (size : n ≡ size_of (field_of k) ^ degree (polynomial_of k))
    (wspans : SpansKernel (residue_ops k) T.dim (length centre) (power_equations (residue_ops k) T n centre) weights)
  where
    abbrev d : ℕ
    d = degree (polynomial_of k)

    abbrev q : ℕ
    q = size_of (field_of k)

    abbrev s : ℕ
    s = length weights

    pub residue_traces : (a : ℕ) → a < s
        → HasValuedTraces (residue_ops k) T one cs x q d (combination_of (residue_ops k) T (get_or weights a []) centre)
    residue_traces = let f = field_of k in
        blocks.traces_valued (small_ops f) (small_laws f) k.modulus k.irreducible (members f) f.p
        (length f.modulus.items)
        (length f.modulus.items * d) (small_prime f) (residue_char k) f.power (power-residues k) T u positive none
        one is_one cs x hc.long (constant-is k cs hc) (variable-is k x hx)
        centre (subst (λ a. IsReducedBasis (residue_ops k) a centre) wide basis) spans
        weights (subst (λ a. IsReducedBasis (residue_ops k) a weights) long wbasis)
        (subst (λ a. SpansKernel (residue_ops k) T.dim (length centre)
        (power_equations (residue_ops k) T a centre) weights)
        (size ∙ sym (size-residues k)) wspans)

    pub residue_maximal : (items : List (Rows (List ℕ))) → AreSplit (residue_ops k) T items
        → (s ≤ length items) ⊎ ((a : ℕ) → a < s → AreTracesScalars (residue_ops k) T one x q d
        (combination_of (residue_ops k) T (get_or weights a []) centre) d items)
        → AreMaximalIdeals (residue_ops k) T items
    residue_maximal = let f = field_of k in
        blocks.maximal_of_refined (small_ops f) (small_laws f) k.modulus k.irreducible (members f) f.p
        (length f.modulus.items)
        (length f.modulus.items * d) (small_prime f) (residue_char k) f.power (power-residues k) T u positive none
        one is_one cs x hc.long (constant-is k cs hc) (variable-is k x hx)
        centre (subst (λ a. IsReducedBasis (residue_ops k) a centre) wide basis) spans
        weights (subst (λ a. IsReducedBasis (residue_ops k) a weights) long wbasis)
        (subst (λ a. SpansKernel (residue_ops k) T.dim (length centre)
        (power_equations (residue_ops k) T a centre) weights)
        (size ∙ sym (size-residues k)) wspans)
