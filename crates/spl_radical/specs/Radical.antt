-- The chain of ideals by lifted traces of an algebra over a residue field, by rows. (Rónyai, Computing the structure of
-- finite algebras.)
use Rattle.std.specs.Prelude.{◌≡◌, ℕ, ◌^◌, List}
use Rattle.theory_rings.specs.Ops.{FieldLaws}
use Rattle.theory_rings.specs.Power.{times, power_of}
use Rattle.theory_remainders.proofs.RemainderField.{remainder_laws}
use Rattle.theory_tables.specs.Structure.{Structure, IsOver, IsAssociative}
use Rattle.theory_tables.specs.Algebras.{IsIdentity}
use Rattle.theory_chains.specs.Members.{SpansMember}
use Rattle.spl_field.specs.SmallField.{small_ops, small_laws}
use Rattle.spl_residue.specs.Residue.{field_of, polynomial_of, residue_ops}
use Rattle.spl_residue.specs.declared.field.ResidueField.{ResidueField}
use Rattle.spl_radical.specs.LiftRing.{LiftNumbers, lift_ring, ring_of, prime_of}
use Rattle.spl_radical.specs.TracePower.{lifted_trace}

module _ (k : ResidueField) where
  -- the operations are those of a field
  abbrev pub laws_of : FieldLaws (residue_ops k)
  laws_of = remainder_laws (small_ops (field_of k)) (small_laws (field_of k)) (polynomial_of k) k.irreducible

  module _ (l : ℕ) where
    -- r is the residue of each element that gives a where it is taken p^i times
    abbrev pub IsQuotientResidue : ℕ → List ℕ → List ℕ → Type 0
    IsQuotientResidue i a r = (y : LiftNumbers k l) → (times (ring_of k l).monoid (prime_of k ^ i) y).0 ≡ a
        → ((lift_ring k l).down y).0 ≡ r

    module _ (T : Structure (List ℕ)) where
      -- the p^i-th power of y is the residue of the trace of the p^i-th power of the lift of a, over p^i
      abbrev pub IsTraceRoot : ℕ → List (List ℕ) → List ℕ → Type 0
      IsTraceRoot i a y = IsQuotientResidue i (lifted_trace k l T a i).0 (power_of (residue_ops k) y (prime_of k ^ i))

      -- the combinations of the rows are member i of the chain
      abbrev pub SpansChainMember : ℕ → List (List (List ℕ)) → Type 0
      SpansChainMember i rows = (over : IsOver (residue_ops k) T) (assoc : IsAssociative (residue_ops k) T)
          (one : List (List ℕ)) (is_one : IsIdentity (residue_ops k) T one)
          → SpansMember (residue_ops k) laws_of T over assoc one is_one (lift_ring k l) i rows
