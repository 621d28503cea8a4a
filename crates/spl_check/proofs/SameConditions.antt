-- What holds of the operations and the laws of a small field holds of those of each field by the same numbers; so the
-- same conditions of evidence hold over both, and the same one fails first.
use Rattle.std.specs.Prelude.{◌≡◌, ℕ, List}
use Rattle.std.proofs.Common.{subst}
use Rattle.std.proofs.Math.Nat.{ℕ_set}
use Rattle.theory_rings.specs.Ops.{Ops, FieldLaws}
use Rattle.theory_rings.proofs.Rings.LawsProof.{laws_unique}
use Rattle.theory_fractions.specs.Fraction.{Pair}
use Rattle.theory_fractions.specs.FractionOps.{fraction_ops}
use Rattle.theory_tables.specs.Structure.{Structure}
use Rattle.spl_field.specs.SmallField.{characteristic, modulus_of, small_ops, small_laws}
use Rattle.spl_field.specs.declared.small.SmallField.{SmallField}
use Rattle.spl_field.proofs.EqualFields.{equal_fields}
use Rattle.spl_evidence.specs.declared.evidence.Evidence.{Evidence}
use Rattle.spl_evidence.specs.declared.evidence.Evidence.TheVariants.{Triple, NoIdentity, Central, Ideal, Split, Ramified}
use Rattle.spl_check.specs.Verdict.{Condition, AllHold, FailsFirst, conditions, triple_conditions}
use Rattle.spl_check.specs.Verdict.{no_identity_conditions, central_conditions, ideal_conditions, split_conditions}
use Rattle.spl_check.specs.Verdict.{ramified_conditions}

module _ (f g : SmallField) (p : characteristic f ≡ characteristic g) (m : modulus_of f ≡ modulus_of g) where
  over_same : (P : (o : Ops ℕ) → FieldLaws o → Type 0) → P (small_ops f) (small_laws f)
      → P (small_ops g) (small_laws g)
  over_same P h =
      subst (λ o. (L : FieldLaws o) → P o L) (equal_fields f g p m)
      (λ L. subst (P (small_ops f)) (laws_unique ℕ_set (small_ops f) (small_laws f) L) h) (small_laws g)

  module _ (A : Structure (Pair ℕ)) (n : ℕ) where
    -- what holds of the conditions over the one field holds of those over the other
    of_conditions : (Q : List Condition → Type 0) (e : Evidence) → Q (conditions f A n e) → Q (conditions g A n e)
    of_conditions Q (Triple i j k) = over_same (λ o L. Q (triple_conditions (fraction_ops o L) A i j k))
    of_conditions Q (NoIdentity left right) =
        over_same (λ o L. Q (no_identity_conditions (fraction_ops o L) A left right))
    of_conditions Q (Central tuple) = over_same (λ o L. Q (central_conditions (fraction_ops o L) A tuple))
    of_conditions Q (Ideal tuples) = over_same (λ o L. Q (ideal_conditions (fraction_ops o L) A tuples))
    of_conditions Q (Split maps units) = over_same (λ o L. Q (split_conditions (fraction_ops o L) A n maps units))
    of_conditions Q (Ramified place order radical) =
        over_same (λ o L. Q (ramified_conditions o L A place order radical))

    pub all_same : (e : Evidence) → AllHold (conditions f A n e) → AllHold (conditions g A n e)
    all_same e = of_conditions AllHold e

    pub fails_same : (e : Evidence) (c : ℕ) → FailsFirst (conditions f A n e) c → FailsFirst (conditions g A n e) c
    fails_same e c = of_conditions (λ list. FailsFirst list c) e
