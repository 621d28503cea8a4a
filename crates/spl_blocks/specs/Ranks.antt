-- Simple algebras by their centre and the two-sided rank, in terms of tuples. (Jacobson, Basic Algebra II, section 4.6;
-- Pierce, Associative Algebras, chapter 12.)
use Rattle.std.specs.Prelude.{◌≡◌, ◌↔◌, ◌*◌, ◌≤◌, ◌^◌, ℕ, List, length}
use Rattle.theory_rings.specs.Ops.{Ops, FieldLaws}
use Rattle.theory_rings.specs.Elements.{Elem, elements}
use Rattle.theory_rings.specs.Prime.{IsPrime}
use Rattle.theory_rings.specs.Power.{times}
use Rattle.theory_rings.specs.Enumerated.{Enumerated}
use Rattle.theory_spaces.specs.Tuples.{tuple_zero}
use Rattle.theory_tables.specs.Subspace.{IsReducedBasis, SpansKernel}
use Rattle.theory_tables.specs.Structure.{Structure, product_of}
use Rattle.theory_tables.specs.Algebras.{IsIdentity, IsCentral}
use Rattle.spl_algebra.specs.Subspaces.{SpansCentre}
use Rattle.spl_algebra.specs.TwoSided.{IsTwoSidedRank}
use Rattle.spl_blocks.specs.Blocks.{IsUnital, IsSimple}
use Rattle.spl_blocks.specs.Fixed.{power_in, power_equations}

module _ {E : Type 0} (o : Ops E) where
  -- the centre is a field: each central element but 0 has a central inverse
  abbrev pub HasFieldCentre : Structure E → Type 0
  HasFieldCentre A = (one : List E) → IsIdentity o A one → (a : List E) → IsCentral o A a
      → (a ≡ tuple_zero o A.dim → ⊥) → (b : List E) × IsCentral o A b × (product_of o A a b ≡ one)

  -- with z the dimension of the centre: simple exactly where the centre is a field and the two-sided rank is m²/z
  abbrev pub SimpleByTwoSidedRank : Type 0
  SimpleByTwoSidedRank = (A : Structure E) → IsUnital o A → 1 ≤ A.dim → (centre : List (List E))
      → IsReducedBasis o A.dim centre → SpansCentre o A centre → (r : ℕ) → IsTwoSidedRank o A r
      → IsSimple o A ↔ (HasFieldCentre A × (r * length centre ≡ A.dim * A.dim))

  -- 0 alone among the central elements has the n-th power 0
  abbrev pub HasReducedCentre : ℕ → Structure E → Type 0
  HasReducedCentre n A = (a : List E) → IsCentral o A a → power_in o A a n ≡ tuple_zero o A.dim
      → a ≡ tuple_zero o A.dim

  -- over a field of q elements the centre is a field exactly where 0 alone among the central elements has the q-th power
  -- 0, and the solutions of z^q = z among them have dimension 1
  abbrev pub FieldCentreByPowers : FieldLaws o → Type 0
  FieldCentreByPowers L = (N : Enumerated (Elem o)) (p e : ℕ) → IsPrime p
      → (let K = elements o L in times K.monoid p K.one ≡ K.zero) → N.size ≡ p ^ e
      → (A : Structure E) → IsUnital o A → 1 ≤ A.dim → (centre : List (List E))
      → IsReducedBasis o A.dim centre → SpansCentre o A centre
      → (weights : List (List E)) → IsReducedBasis o (length centre) weights
      → SpansKernel o A.dim (length centre) (power_equations o A N.size centre) weights
      → HasFieldCentre A ↔ (HasReducedCentre N.size A × (length weights ≡ 1))
