-- The fractions over a small field.
use Rattle.std.specs.Prelude.{◌≡◌, ℕ}
use Rattle.std.proofs.Common.{sym, ◌∙◌}
use Rattle.theory_rings.specs.Ops.{Ops, FieldLaws}
use Rattle.spl_field.specs.SmallField.{small_ops, small_laws}
use Rattle.spl_field.specs.declared.small.SmallField.{SmallField}
use Rattle.theory_fractions.specs.Fraction.{Pair}
use Rattle.theory_fractions.specs.FractionOps.{fraction_ops}
use Rattle.theory_fractions.proofs.FractionField.{fraction_laws}
use Rattle.theory_fractions.proofs.ElementClauses.{zero_is}

-- the operations of the fractions
abbrev pub fractions_over : SmallField → Ops (Pair ℕ)
fractions_over f = fraction_ops (small_ops f) (small_laws f)

pub fractions_laws : (f : SmallField) → FieldLaws (fractions_over f)
fractions_laws f = fraction_laws (small_ops f) (small_laws f)

-- all of them have the zero 0/1
pub fractions_zero : (f g : SmallField) → (fractions_over f).zero ≡ (fractions_over g).zero
fractions_zero f g = zero_is (small_ops f) (small_laws f) ∙ sym (zero_is (small_ops g) (small_laws g))
