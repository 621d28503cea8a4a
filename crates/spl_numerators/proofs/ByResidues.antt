-- An algebra over the rational functions is associative where basis elements generate the algebra of the residues of
-- its numerators at an irreducible polynomial, and all triples with one of these in the middle associate.
use Rattle.std.specs.Prelude.{◌≡◌, ◌*◌, ◌<◌, ℕ, List, [], get_or}
use Rattle.std.proofs.Common.{sym, ◌∙◌, subst, arith}
use Rattle.std.proofs.lemmas.List.{get_or_default}
use Rattle.std.proofs.Math.Nat.{ℕ_set}
use Rattle.theory_rings.specs.Ops.{Ops, FieldLaws}
use Rattle.theory_rings.specs.Sum.{at}
use Rattle.theory_rings.proofs.Rings.LawsProof.{laws_unique}
use Rattle.theory_spaces.specs.Tuples.{IsTuple}
use Rattle.theory_spaces.proofs.Tuples.Tuples.{at-table}
use Rattle.theory_tables.specs.Structure.{Structure, IsOver, IsAssociative}
use Rattle.theory_fractions.specs.Fraction.{Pair}
use Rattle.theory_fractions.specs.FractionOps.{fraction_ops}
use Rattle.theory_fractions.specs.CommonDenominator.{as_fraction}
use Rattle.theory_fractions.proofs.FractionField.{fraction_laws}
use Rattle.theory_fractions.proofs.ElementClauses.{ne_zero}
use Rattle.theory_fractions.proofs.PolynomialFractions.{as_fraction-elem}
use Rattle.theory_remainders.specs.Irreducible.{IsIrreducible}
use Rattle.theory_remainders.specs.RemainderOps.{remainder_ops}
use Rattle.theory_remainders.specs.RemainderLaws.{IsRemainder, IsRemainderOf, AreRemainderOps}
use Rattle.theory_remainders.proofs.RemainderField.{monic, remainder_laws}
use Rattle.theory_remainders.proofs.RemainderValues.{are_remainder_ops}
use Rattle.theory_reductions.specs.Reductions.{ReductionBy}
use Rattle.theory_reductions.proofs.Reductions.{fractions_reduce}
use Rattle.theory_constants.specs.Scaled.{scaled}
use Rattle.theory_constants.specs.ScalingLaws.{KeepsByScaling}
use Rattle.theory_constants.specs.Generated.{Generates, MiddlesAssociate, AreResidues}
use Rattle.theory_constants.proofs.Scaling.{scaling_law}
use Rattle.theory_constants.proofs.Generation.{associative_by_residues}
use Rattle.spl_numerators.specs.Numerators.{HasMultiples, AreNumerators}
use Rattle.spl_numerators.proofs.Triples.{nonzero_denominator}

-- the residues of the numerators at an irreducible polynomial m
module _ {E : Type 0} (o : Ops E) (L : FieldLaws o) (m : List E) (i : IsIrreducible o m) where
  abbrev K : Ops (Pair E)
  K = fraction_ops o L

  abbrev laws : FieldLaws K
  laws = fraction_laws o L

  abbrev r : Ops (List E)
  r = remainder_ops o L m (monic o L m i)

  abbrev N : FieldLaws r
  N = remainder_laws o L m i

  D : ReductionBy o L laws m r N
  D = fractions_reduce o L laws m i N

  -- each residue is the remainder of the numerator at its place
  abbrev Remainders : List (List E) → ℕ → List (List E) → Type 0
  Remainders entries n ds = (p : ℕ) → p < n → IsRemainderOf o (at o (get_or entries p [])) m (get_or ds p [])

  module _ (A : Structure (Pair E)) (over : IsOver K A) (c : List E) (entries : List (List E))
      (numerators : AreNumerators o L c A entries) (ds : List (List E))
      (tuple : IsTuple r (A.dim * A.dim * A.dim) ds) (each : Remainders entries (A.dim * A.dim * A.dim) ds) where
    abbrev n : ℕ
    n = A.dim * A.dim * A.dim

    abbrev S : Structure (Pair E)
    S = scaled K (as_fraction o c) A

    keeps : KeepsByScaling K A (as_fraction o c)
    keeps = scaling_law K laws A over (as_fraction o c) (as_fraction-elem o L c numerators.over)
        (ne_zero o L (as_fraction o c) (nonzero_denominator o L A c entries numerators))

    abbrev multiples : HasMultiples o L c A.constants n entries
    multiples = numerators.multiples

    -- the multiplied constants are the numerators
    constant_is : (p : ℕ) → p < n → at K S.constants p ≡ as_fraction o (get_or entries p [])
    constant_is p l = at-table K n (λ q. K.mul (as_fraction o c) (at K A.constants q)) p l
        ∙ (let h = multiples in sym (h.multiple p l))

    small : (p : ℕ) → p < n → IsRemainder o m (get_or ds p [])
    small p l =
        let a : AreRemainderOps o m r = are_remainder_ops o L m i in
        let e = tuple.right_length in
        let h = a.elements (get_or ds p []) in
        h.0 (tuple.of_elements p [] (omega arith))

    residues : AreResidues K laws r N D.valuation D.q D.residue n S.constants ds
    residues = record {
      integral = λ p l x e. let h = multiples in
          D.polynomial_in x (get_or entries p []) (h.polynomials p l) (e ∙ constant_is p l);
      residue = λ p l x e.
          let h = multiples in
          let t = tuple.right_length in
          D.polynomial_value x (get_or entries p []) (get_or ds p []) (h.polynomials p l) (e ∙ constant_is p l)
          (small p l) (each p l) ∙ get_or_default ds p [] r.zero (omega arith);
    }

    pub associative : (by : List ℕ) → Generates r (record { dim = A.dim; constants = ds }) by
        → MiddlesAssociate K A by → IsAssociative K A
    associative by g middles =
        let whole : IsAssociative K S = associative_by_residues K laws r N D.valuation D.q D.residue S keeps.over ds
        residues by g (λ s i j l hi hj. let t = keeps.triple i (get_or by s 0) j in t.0 (middles s i j l hi hj)) in
        λ i j l hi hj hl. let t = keeps.triple i j l in t.1 (whole i j l hi hj hl)

-- the same, where the field of the residues is equal to that of the numerators
pub associative_at : (p o : Ops ℕ) (P : FieldLaws p) (L : FieldLaws o) → p ≡ o
    → (m : List ℕ) (i : IsIrreducible p m) (A : Structure (Pair ℕ)) → IsOver (fraction_ops o L) A
    → (c : List ℕ) (entries : List (List ℕ)) → AreNumerators o L c A entries
    → (ds : List (List ℕ)) → IsTuple (remainder_ops p P m (monic p P m i)) (A.dim * A.dim * A.dim) ds
    → Remainders p P m i entries (A.dim * A.dim * A.dim) ds
    → (by : List ℕ)
    → Generates (remainder_ops p P m (monic p P m i)) (record { dim = A.dim; constants = ds }) by
    → MiddlesAssociate (fraction_ops o L) A by → IsAssociative (fraction_ops o L) A
associative_at p o P L e m i A over c entries numerators ds tuple each by g middles =
    subst Claim e (λ M. subst (λ (M : FieldLaws p). ClaimBy p M) (laws_unique ℕ_set p P M) same) L A over c entries
    numerators ds tuple each by g middles
  where
    ClaimBy : (q : Ops ℕ) → FieldLaws q → Type 0
    ClaimBy q M = (A : Structure (Pair ℕ)) → IsOver (fraction_ops q M) A
        → (c : List ℕ) (entries : List (List ℕ)) → AreNumerators q M c A entries
        → (ds : List (List ℕ)) → IsTuple (remainder_ops p P m (monic p P m i)) (A.dim * A.dim * A.dim) ds
        → Remainders p P m i entries (A.dim * A.dim * A.dim) ds
        → (by : List ℕ)
        → Generates (remainder_ops p P m (monic p P m i)) (record { dim = A.dim; constants = ds }) by
        → MiddlesAssociate (fraction_ops q M) A by → IsAssociative (fraction_ops q M) A

    Claim : Ops ℕ → Type 0
    Claim q = (M : FieldLaws q) → ClaimBy q M

    same : ClaimBy p P
    same A over c entries numerators ds tuple each by g middles =
        associative p P m i A over c entries numerators ds tuple each by g middles
