-- The remainders by an irreducible polynomial over a small field.
use Rattle.std.specs.Prelude.{◌≡◌, ℕ, List}
use Rattle.std.proofs.Common.{sym, ◌∙◌}
use Rattle.theory_rings.specs.Ops.{Ops, FieldLaws}
use Rattle.theory_remainders.specs.Irreducible.{IsIrreducible}
use Rattle.theory_remainders.specs.RemainderOps.{remainder_ops}
use Rattle.theory_remainders.proofs.RemainderField.{monic, remainder_laws}
use Rattle.theory_remainders.proofs.RemainderValues.{zero_is}
use Rattle.spl_field.specs.SmallField.{small_ops, small_laws}
use Rattle.spl_field.specs.declared.small.SmallField.{SmallField}

module _ (f : SmallField) (m : List ℕ) (i : IsIrreducible (small_ops f) m) where
  -- the operations of the remainders
  abbrev pub residues_over : Ops (List ℕ)
  residues_over = remainder_ops (small_ops f) (small_laws f) m (monic (small_ops f) (small_laws f) m i)

  pub residues_laws : FieldLaws residues_over
  residues_laws = remainder_laws (small_ops f) (small_laws f) m i

-- all of them have the zero that is the list of no coefficients
pub residues_zero : (f g : SmallField) (m n : List ℕ) (i : IsIrreducible (small_ops f) m)
    (j : IsIrreducible (small_ops g) n) → (residues_over f m i).zero ≡ (residues_over g n j).zero
residues_zero f g m n i j = zero_is (small_ops f) (small_laws f) m i ∙ sym (zero_is (small_ops g) (small_laws g) n j)
