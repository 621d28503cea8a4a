-- A commutative subalgebra of finite dimension over a field of q elements in which 0 alone is nilpotent is a direct
-- product of fields: a basis of its solutions of z^q = z gives orthogonal idempotents on which each solution is a
-- scalar, and those that are not 0 are the units of fields.
use Rattle.std.specs.Prelude.{◌≡◌, ℕ}
use Rattle.std.proofs.Common.{sym, ◌∙◌, ap, ap₂}
use Rattle.theory_rings.specs.Ring.{FieldOn}
use Rattle.theory_rings.specs.Enumerated.{Enumerated}
use Rattle.theory_rings.proofs.Rings.RingLaws.{zero-mul}
use Rattle.theory_spaces.specs.Module.{AlgebraOn, module_of}
use Rattle.theory_spaces.specs.Linear.{Coords, Basis, IsSubmodule}
use Rattle.theory_spaces.proofs.Linear.Modules.{zero-scale, span_in}
use Rattle.theory_spaces.proofs.Linear.Spaces.{coords_of}
use Rattle.theory_blocks.specs.FactorLaws.{FieldFactorsExist}
use Rattle.theory_blocks.proofs.Families.Decisions.{vector_eq_zero_or}
use Rattle.theory_blocks.proofs.Families.NonzeroMembers.{kept, kept_apart}
use Rattle.theory_blocks.proofs.Commutative.FieldFactorsFamilies.{scalar_family}
use Rattle.theory_blocks.proofs.Commutative.FieldFactorsBasis.{solution_basis}
use Rattle.theory_blocks.proofs.Commutative.FieldFactorsInverses.{regular, inverse_on}

module _ {K V : Type 0} (F : FieldOn K) (A : AlgebraOn F.ring V) (e : V) where
  infixl 65 ◌⊕◌
  infixl 70 ◌⊗◌
  infixl 70 ◌•◌
  open A use {ring, ◌⊕◌, ◌⊗◌, ◌•◌}

  -- z is a scalar on e
  abbrev ScalarOn : V → Type 0
  ScalarOn z = (c : K) × (z ⊗ e ≡ c • e)

  scalar_submodule : IsSubmodule (module_of A) ScalarOn
  scalar_submodule = record {
    zero-in = (F.zero, zero-mul ring e ∙ sym (zero-scale (module_of A) e));
    add-in = λ x y p q. (F.◌⊕◌ p.0 q.0, A.add-mul x y e ∙ ap₂ (λ u v. u ⊕ v) p.1 q.1 ∙ sym (A.add-scale p.0 q.0 e));
    scale-in = λ a x p. (F.◌⊗◌ a p.0, A.scale-left a x e ∙ ap (λ u. a • u) p.1 ∙ sym (A.mul-scale a p.0 e));
  }

module _ {K V : Type 0} (F : FieldOn K) (E : Enumerated K) (A : AlgebraOn F.ring V) (m : ℕ)
    (B : Basis (module_of A) m) (S : V → Type 0) where
  abbrev C : Coords (module_of A) m
  C = coords_of (module_of A) m B

  pub field_factors : FieldFactorsExist F E A S
  field_factors p i prime char size h comm reduced k basis =
      let T = solution_basis F E A m B S h comm p i prime char size k basis in
      let P = scalar_family F E A S h comm T.1.vec T.0 T.1.inside in
      let N = kept A.monoid (vector_eq_zero_or F (module_of A) m B) P.count P.idempotent in
      record {
        count = N.size;
        idempotent = λ i. P.idempotent (N.index i);
        inside = λ i l. P.inside (N.index i) (N.within i l);
        nonzero = N.nonzero;
        idempotents = λ i l. P.idempotents (N.index i) (N.within i l);
        orthogonal = λ i j li lj d. P.orthogonal (N.index i) (N.index j) (N.within i li) (N.within j lj)
            (kept_apart A.monoid P.count P.idempotent N i j li lj d);
        sum_to_one = N.total ∙ P.sum_to_one;
        field = λ i l x s keeps d.
            let o = N.index i in
            let w = N.within i l in
            let e = P.idempotent o in
            let g = regular F A S h comm m C reduced k basis x s in
            inverse_on F A S h comm E e (P.inside o w) (P.idempotents o w)
            (λ z t fixed. span_in (module_of A) (ScalarOn F A e) (scalar_submodule F A e) T.0 T.1.vec
            (P.scalars o w) z (T.1.spans z (t, fixed)))
            x g.0 s g.1 g.2 keeps d;
      }
