-- Over a field with p-th roots each member of the chain by lifted traces has a basis: the next is the kernel of a
-- linear map on the one before. So the last one, the largest nilpotent ideal, is the span of finitely many elements.
use Rattle.std.specs.Prelude.{◌≡◌, ℕ, zero, suc, ◌^◌, ◌<◌, ◌≤◌, ◌⊎◌}
use Rattle.std.proofs.Common.{sym, ◌∙◌, ap, subst, arith, inl, inr}
use Rattle.std.proofs.lemmas.Bool.{cases_lt}
use Rattle.theory_rings.specs.Ring.{FieldOn}
use Rattle.theory_rings.specs.Sum.{sum}
use Rattle.theory_rings.specs.Power.{power}
use Rattle.theory_rings.specs.Prime.{IsPrime}
use Rattle.theory_spaces.specs.Module.{ModuleOn, AlgebraOn, module_of}
use Rattle.theory_spaces.specs.Linear.{comb, InSpan, Basis, BasisOf, Extension, IsLinear, IsSubmodule}
use Rattle.theory_spaces.specs.Subspaces.{Whole, Kernel}
use Rattle.theory_spaces.proofs.Linear.Families.{push, push-below}
use Rattle.theory_spaces.proofs.Linear.Modules.{comb_congr, comb_congr_right, comb_zero, comb-add, comb-scale}
use Rattle.theory_spaces.proofs.Linear.Modules.{comb-comb}
use Rattle.theory_spaces.proofs.Linear.Modules.{comb-push_zero, span_in}
use Rattle.theory_spaces.proofs.Linear.Dimension.{exchange}
use Rattle.theory_spaces.proofs.Linear.Spaces.{coords_of, extend_basis, Basis-coord}
use Rattle.theory_spaces.proofs.Linear.Subspaces.{BasisOf-iff, whole_basis}
use Rattle.theory_spaces.proofs.Linear.Kernels.{rank_nullity}
use Rattle.theory_radical.specs.LiftRing.{LiftRingOn, HasRoots}
use Rattle.theory_radical.specs.Chain.{Chain}
use Rattle.theory_radical.specs.Functional.{TraceResidue, ResidueOnChain}
use Rattle.theory_radical.proofs.Chain.AlgebraChain.{chain_ideal, in_chain, chain_in, in-scale}
use Rattle.theory_radical.proofs.Chain.TraceResidues.{residue_on_chain}
use Rattle.theory_radical.proofs.Chain.NextIdeal.{iterated_root, power-iterated_root, linear_equations}
use Rattle.theory_radical.proofs.Chain.ChainEnd.{chain_end}
use Rattle.theory_residue.proofs.Laws.{largest_same}
use Rattle.theory_lifts.specs.RadicalSpan.{RadicalBasis, ChainBases}

module _ {K W V : Type 0} {F : FieldOn K} {p n : ℕ} (prime : IsPrime p) (L : LiftRingOn F p n W)
    (A : AlgebraOn F.ring V) (m : ℕ) (B : Basis (module_of A) m)
    (roots : HasRoots F.ring p) where
  abbrev M : ModuleOn F.ring V
  M = module_of A

  abbrev I : ℕ → V → Type 0
  I i = Chain L A m B i

  chain_submodule : (i : ℕ) → IsSubmodule M (I i)
  chain_submodule i =
      let J = chain_ideal prime L A m B i in
      record {
        zero-in = J.zero_in;
        add-in = J.add_in;
        scale-in = λ c x h. chain_in prime L A m B i (A.◌•◌ c x)
            (in-scale prime L A m B i c x (in_chain prime L A m B i x h));
      }

  module _ (i : ℕ) (within : i < n) (r : ℕ) (C : BasisOf M r (I i)) where
    abbrev R : ResidueOnChain L A m B i
    R = residue_on_chain prime L A m B i within

    times_in : (s j : ℕ) → s < r → I i (A.◌⊗◌ (C.vec s) (B.vec j))
    times_in s j l = let J = chain_ideal prime L A m B i in J.right (B.vec j) (C.vec s) tt (C.inside s l)

    -- the p^i-th root of the residue at a product of vectors of the two bases
    root_at : (s j : ℕ) → (s < r) ⊎ (r ≤ s) → K
    root_at s j (inl l) = iterated_root F p roots i (R.residue (A.◌⊗◌ (C.vec s) (B.vec j)) (times_in s j l))
    root_at s j (inr l) = F.zero

    root_at-residue : (s j : ℕ) (d : (s < r) ⊎ (r ≤ s)) → s < r
        → TraceResidue L A m B i (A.◌⊗◌ (C.vec s) (B.vec j)) (power F.ring (root_at s j d) (p ^ i))
    unfolding root_at
    root_at-residue s j (inl h) l =
        let x = A.◌⊗◌ (C.vec s) (B.vec j) in
        subst (TraceResidue L A m B i x) (sym (power-iterated_root F p roots i (R.residue x (times_in s j h))))
        (R.is_residue x (times_in s j h))
    root_at-residue s j (inr h) l = absurd (omega arith)

    abbrev y : ℕ → ℕ → K
    y s j = root_at s j (cases_lt s r)

    abbrev E : Extension M r C.vec m
    E = extend_basis F M m B r C.vec C.independent

    size_le : r ≤ m
    size_le = exchange F M r m C.vec B.vec C.independent
        (λ i l. record { weights = B.coord (C.vec i); combines = B.expand (C.vec i) })

    -- a combination of the vectors of the basis has its weights as coordinates in the larger one
    coord-member : (c : ℕ → K) (s : ℕ) → s < r → E.basis.coord (comb M r c C.vec) s ≡ c s
    coord-member c s l =
        let d = push r F.zero c in
        let e : comb M r c C.vec ≡ comb M m d E.basis.vec =
        comb_congr_right M r c C.vec E.basis.vec (λ i l. sym (E.starts i l))
        ∙ sym (comb-push_zero M r m c E.basis.vec size_le) in
        let le = size_le in
        ap (λ x. E.basis.coord x s) e ∙ Basis-coord M m E.basis d s (omega arith) ∙ push-below r F.zero c s l

    abbrev columns : ℕ → V
    columns s = comb M m (y s) B.vec

    -- the linear map with the functionals as coordinates
    map : V → V
    map x = comb M r (E.basis.coord x) columns

    map_linear : IsLinear M M map
    unfolding map
    map_linear = record {
      map-add = λ x z. comb_congr M r (E.basis.coord (A.◌⊕◌ x z))
          (λ s. F.◌⊕◌ (E.basis.coord x s) (E.basis.coord z s)) columns (λ s _. E.basis.coord-add x z s)
          ∙ comb-add M r (E.basis.coord x) (E.basis.coord z) columns;
      map-scale = λ a x. comb_congr M r (E.basis.coord (A.◌•◌ a x)) (λ s. F.◌⊗◌ a (E.basis.coord x s)) columns
          (λ s _. E.basis.coord-scale a x s)
          ∙ comb-scale M r a (E.basis.coord x) columns;
    }

    abbrev equation : (ℕ → K) → ℕ → K
    equation c j = sum F.monoid r (λ s. F.◌⊗◌ (c s) (y s j))

    map-comb : (c : ℕ → K) → map (comb M r c C.vec) ≡ comb M m (equation c) B.vec
    unfolding map
    map-comb c = comb_congr M r (E.basis.coord (comb M r c C.vec)) c columns (coord-member c)
        ∙ comb-comb M r m c y B.vec

    kernel_next : (x : V) → Kernel M M map (I i) x → I (suc i) x
    kernel_next x k =
        let s = C.spans x k.0 in
        let e : comb M m (equation s.weights) B.vec ≡ A.zero =
        sym (map-comb s.weights) ∙ ap map (sym s.combines) ∙ k.1 in
        let l = linear_equations prime L A m B i within r C.vec C.inside y
        (λ s j l _. root_at-residue s j (cases_lt s r) l) s.weights in
        subst (I (suc i)) (sym s.combines) (l.1 (B.independent.only_zero (equation s.weights) e))

    next_kernel : (x : V) → I (suc i) x → Kernel M M map (I i) x
    next_kernel x h =
        let s = C.spans x h.0 in
        let l = linear_equations prime L A m B i within r C.vec C.inside y
        (λ s j l _. root_at-residue s j (cases_lt s r) l) s.weights in
        let z = l.0 (subst (I (suc i)) s.combines h) in
        (h.0, ap map s.combines ∙ map-comb s.weights ∙ comb_zero M m (equation s.weights) B.vec z)

    next_basis : (k : ℕ) × BasisOf M k (I (suc i))
    next_basis =
        let g = rank_nullity F M M m (coords_of M m B) map map_linear (I i) (chain_submodule i) r C in
        (g.nullity, BasisOf-iff M g.nullity (Kernel M M map (I i)) (I (suc i)) kernel_next next_kernel g.kernel)

  pub chain_bases : ChainBases L A m B
  chain_bases zero l = (m, BasisOf-iff M m Whole (I zero) (λ x _. tt) (λ x _. tt) (whole_basis M m B))
  chain_bases (suc i) l = let b = chain_bases i (omega arith) in next_basis i (omega arith) b.0 b.1

  -- the radical is a span
  pub radical_basis : m < p ^ n → RadicalBasis A
  radical_basis l =
      let b = chain_bases n (omega arith) in
      let C = b.1 in
      record {
        size = b.0;
        vec = C.vec;
        independent = C.independent;
        radical = largest_same F A (I n) (InSpan M b.0 C.vec)
            (C.spans, span_in M (I n) (chain_submodule n) b.0 C.vec C.inside) (chain_end prime L A m B l);
      }
