-- Centre and trace form of an algebra over the rational functions by the residues of its numerators at an irreducible
-- polynomial.
use Rattle.std.specs.Prelude.{◌≡◌, ◌≤◌, ◌*◌, ◌<◌, ℕ, List, [], get_or}
use Rattle.std.proofs.Common.{sym, ◌∙◌, subst, arith}
use Rattle.std.proofs.lemmas.List.{get_or_default}
use Rattle.std.proofs.Math.Nat.{ℕ_set}
use Rattle.theory_rings.specs.Ops.{Ops, IsElem, FieldLaws}
use Rattle.theory_rings.specs.Elements.{Elem}
use Rattle.theory_rings.specs.Sum.{at}
use Rattle.theory_rings.proofs.Rings.Elements.{at-elem}
use Rattle.theory_rings.proofs.Rings.LawsProof.{laws_unique}
use Rattle.theory_spaces.specs.Tuples.{IsTuple}
use Rattle.theory_spaces.proofs.Tuples.Tuples.{at-table}
use Rattle.theory_tables.specs.Structure.{Structure, IsOver, IsAssociative}
use Rattle.theory_tables.specs.Algebras.{IsIdentity, HasSmallCentre}
use Rattle.theory_tables.specs.Traces.{trace_matrix, IsNondegenerate}
use Rattle.theory_fractions.specs.Fraction.{Pair}
use Rattle.theory_fractions.specs.FractionOps.{fraction_ops}
use Rattle.theory_fractions.specs.CommonDenominator.{as_fraction}
use Rattle.theory_fractions.proofs.FractionField.{fraction_laws}
use Rattle.theory_fractions.proofs.ElementClauses.{ne_zero}
use Rattle.theory_fractions.proofs.PolynomialFractions.{as_fraction-elem}
use Rattle.theory_remainders.specs.Irreducible.{IsIrreducible}
use Rattle.theory_remainders.specs.RemainderOps.{remainder_ops}
use Rattle.theory_remainders.specs.RemainderLaws.{IsRemainder, IsRemainderOf, AreRemainderOps}
use Rattle.theory_remainders.proofs.RemainderField.{monic, remainder_laws}
use Rattle.theory_remainders.proofs.RemainderValues.{are_remainder_ops}
use Rattle.theory_reductions.specs.Reductions.{ReductionBy}
use Rattle.theory_reductions.proofs.Reductions.{fractions_reduce}
use Rattle.theory_constants.specs.Scaled.{scaled}
use Rattle.theory_constants.specs.ScalingLaws.{KeepsByScaling}
use Rattle.theory_constants.specs.Residues.{KernelIsZero}
use Rattle.theory_constants.proofs.Scaling.{scaling_law}
use Rattle.spl_numerators.specs.Numerators.{HasMultiples, AreNumerators}
use Rattle.spl_numerators.proofs.Triples.{nonzero_denominator}
use Rattle.spl_centre.specs.Line.{CentreIsOnLine}
use Rattle.spl_centre.proofs.HasResidues.{HasResidue}
use Rattle.spl_centre.proofs.ByResidues.{small_centre_by_residues, nondegenerate_by_residues}

module _ {E : Type 0} (o : Ops E) (L : FieldLaws o) (m : List E) (i : IsIrreducible o m) where
  abbrev K : Ops (Pair E)
  K = fraction_ops o L

  abbrev laws : FieldLaws K
  laws = fraction_laws o L

  abbrev r : Ops (List E)
  r = remainder_ops o L m (monic o L m i)

  abbrev N : FieldLaws r
  N = remainder_laws o L m i

  D : ReductionBy o L laws m r N
  D = fractions_reduce o L laws m i N

  -- each residue is the remainder of the numerator at its place
  abbrev pub Remainders : List (List E) → ℕ → List (List E) → Type 0
  Remainders entries n ds = (p : ℕ) → p < n → IsRemainderOf o (at o (get_or entries p [])) m (get_or ds p [])

  module _ (A : Structure (Pair E)) (over : IsOver K A) (assoc : IsAssociative K A) (c : List E)
      (entries : List (List E)) (numerators : AreNumerators o L c A entries) (ds : List (List E))
      (tuple : IsTuple r (A.dim * A.dim * A.dim) ds) (each : Remainders entries (A.dim * A.dim * A.dim) ds) where
    abbrev n : ℕ
    n = A.dim * A.dim * A.dim

    abbrev S : Structure (Pair E)
    S = scaled K (as_fraction o c) A

    abbrev B : Structure (List E)
    B = record { dim = A.dim; constants = ds }

    keeps : KeepsByScaling K A (as_fraction o c)
    keeps = scaling_law K laws A over (as_fraction o c) (as_fraction-elem o L c numerators.over)
        (ne_zero o L (as_fraction o c) (nonzero_denominator o L A c entries numerators))

    abbrev multiples : HasMultiples o L c A.constants n entries
    multiples = numerators.multiples

    small : (p : ℕ) → p < n → IsRemainder o m (get_or ds p [])
    small p l =
        let a : AreRemainderOps o m r = are_remainder_ops o L m i in
        let e = tuple.right_length in
        let h = a.elements (get_or ds p []) in
        h.0 (tuple.of_elements p [] (omega arith))

    -- the multiplied constants are the numerators
    constant_is : (p : ℕ) → p < n → at K S.constants p ≡ as_fraction o (get_or entries p [])
    constant_is p l = at-table K n (λ q. K.mul (as_fraction o c) (at K A.constants q)) p l
        ∙ (let h = multiples in sym (h.multiple p l))

    constant-elem : (p : ℕ) → IsElem K (at K S.constants p)
    constant-elem p = at-elem K laws S.constants keeps.over.of_elements p

    has : (p : ℕ) → p < n
        → HasResidue K laws r N D.valuation D.q D.residue (at K S.constants p) (at r ds p)
    has p l =
        let h = multiples in
        let t = tuple.right_length in
        let x : Elem K = (at K S.constants p, constant-elem p) in
        record {
          elem = constant-elem p;
          integral = D.polynomial_in x (get_or entries p []) (h.polynomials p l) (constant_is p l);
          residue = D.polynomial_value x (get_or entries p []) (get_or ds p []) (h.polynomials p l) (constant_is p l)
              (small p l) (each p l) ∙ get_or_default ds p [] r.zero (omega arith);
        }

    pub small_centre_at_place : 1 ≤ A.dim → CentreIsOnLine r B → (one : List (Pair E)) → IsIdentity K A one
        → HasSmallCentre K A
    small_centre_at_place some line one is_one =
        small_centre_by_residues K laws r N D.valuation D.q D.residue A over assoc (as_fraction o c)
        (as_fraction-elem o L c numerators.over)
        (ne_zero o L (as_fraction o c) (nonzero_denominator o L A c entries numerators)) ds has some tuple one is_one
        line

    pub nondegenerate_at_place : KernelIsZero r A.dim A.dim (trace_matrix r B) → IsNondegenerate K A
    nondegenerate_at_place =
        nondegenerate_by_residues K laws r N D.valuation D.q D.residue A over assoc (as_fraction o c)
        (as_fraction-elem o L c numerators.over)
        (ne_zero o L (as_fraction o c) (nonzero_denominator o L A c entries numerators)) ds has

-- the same, where the field of the residues is equal to that of the numerators
module _ (p : Ops ℕ) (P : FieldLaws p) (m : List ℕ) (i : IsIrreducible p m) (A : Structure (Pair ℕ)) (c : List ℕ)
    (entries : List (List ℕ)) (ds : List (List ℕ)) where
  abbrev rest : Ops (List ℕ)
  rest = remainder_ops p P m (monic p P m i)

  abbrev reduced : Structure (List ℕ)
  reduced = record { dim = A.dim; constants = ds }

  -- what holds over p holds over a field with equal operations
  carried_over : (Claim : (q : Ops ℕ) → FieldLaws q → Type 0) → Claim p P
      → (o : Ops ℕ) (L : FieldLaws o) → p ≡ o → Claim o L
  carried_over Claim h o L e =
      subst (λ (q : Ops ℕ). (M : FieldLaws q) → Claim q M) e
      (λ M. subst (λ (M : FieldLaws p). Claim p M) (laws_unique ℕ_set p P M) h) L

  module _ (tuple : IsTuple rest (A.dim * A.dim * A.dim) ds)
      (each : Remainders p P m i entries (A.dim * A.dim * A.dim) ds) where
    abbrev SmallCentre : (q : Ops ℕ) → FieldLaws q → Type 0
    SmallCentre q M = IsOver (fraction_ops q M) A → IsAssociative (fraction_ops q M) A → AreNumerators q M c A entries
        → (one : List (Pair ℕ)) → IsIdentity (fraction_ops q M) A one → HasSmallCentre (fraction_ops q M) A

    pub small_centre_at : 1 ≤ A.dim → CentreIsOnLine rest reduced → (o : Ops ℕ) (L : FieldLaws o) → p ≡ o
        → IsOver (fraction_ops o L) A → IsAssociative (fraction_ops o L) A → AreNumerators o L c A entries
        → (one : List (Pair ℕ)) → IsIdentity (fraction_ops o L) A one → HasSmallCentre (fraction_ops o L) A
    small_centre_at some line = carried_over SmallCentre
        (λ v a n. small_centre_at_place p P m i A v a c entries n ds tuple each some line)

    abbrev Nondegenerate : (q : Ops ℕ) → FieldLaws q → Type 0
    Nondegenerate q M = IsOver (fraction_ops q M) A → IsAssociative (fraction_ops q M) A
        → AreNumerators q M c A entries → IsNondegenerate (fraction_ops q M) A

    pub nondegenerate_at : KernelIsZero rest A.dim A.dim (trace_matrix rest reduced) → (o : Ops ℕ) (L : FieldLaws o)
        → p ≡ o → IsOver (fraction_ops o L) A → IsAssociative (fraction_ops o L) A → AreNumerators o L c A entries
        → IsNondegenerate (fraction_ops o L) A
    nondegenerate_at none = carried_over Nondegenerate
        (λ v a n. nondegenerate_at_place p P m i A v a c entries n ds tuple each none)
