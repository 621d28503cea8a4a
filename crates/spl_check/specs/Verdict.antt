-- The verdict on evidence: the conditions of its kind, in the order in which they are checked, and which verdict on a
-- list of conditions is right.
use Rattle.std.specs.Prelude.{◌≡◌, ◌⊎◌, ℕ, List, [], ◌∷◌}
use Rattle.theory_rings.specs.Ops.{Ops, FieldLaws}
use Rattle.theory_fractions.specs.Fraction.{Pair}
use Rattle.theory_fractions.specs.FractionOps.{fraction_ops}
use Rattle.theory_tables.specs.Structure.{Structure, IsAssociative}
use Rattle.theory_tables.specs.Algebras.{HasIdentity}
use Rattle.theory_tables.specs.Subspace.{AreIndependent}
use Rattle.theory_tables.specs.Conditions.{ProductsDiffer, MultipliersAnnihilate, MultipliersRefute, CommutesWithBasis}
use Rattle.theory_tables.specs.Conditions.{IsNoMultiple, IsClosedFromLeft, IsClosedFromRight, MapsMultiply}
use Rattle.theory_tables.specs.Conditions.{GiveMatrixUnits}
use Rattle.theory_places.specs.FractionPlaces.{IsPlace}
use Rattle.theory_bases.specs.TupleLattices.{AreIndependentTuples}
use Rattle.theory_ramified.specs.Conditions.{HoldsIdentity, IsClosed, IsInside, AbsorbsProducts, HoldsMultiple}
use Rattle.theory_ramified.specs.Conditions.{SomePowerFalls, IsSimpleOver, IsLeftOrder, IsNotMultiple}
use Rattle.spl_field.specs.SmallField.{small_ops, small_laws}
use Rattle.spl_field.specs.declared.small.SmallField.{SmallField}
use Rattle.spl_fraction.specs.FractionsOver.{fractions_over}
use Rattle.spl_fraction.specs.Place.{place_of}
use Rattle.spl_fraction.specs.declared.place.Place.{Place}
use Rattle.spl_evidence.specs.declared.evidence.Evidence.{Evidence}
use Rattle.spl_evidence.specs.declared.evidence.Evidence.TheVariants.{Triple, NoIdentity, Central, Ideal, Split, Ramified}
use Rattle.spl_check.specs.declared.verdict.Verdict.{Verdict}
use Rattle.spl_check.specs.declared.verdict.Verdict.TheVariants.{Yes, No}

-- what is checked, and the number that it is told by
pub record Condition : Type 1 where
  pub number : ℕ
  pub says : Type 0

-- ---- the conditions of each kind

module _ {E : Type 0} (o : Ops E) (A : Structure E) where
  abbrev pub triple_conditions : ℕ → ℕ → ℕ → List Condition
  triple_conditions i j k = record { number = 11; says = ProductsDiffer o A i j k } ∷ []

  abbrev pub no_identity_conditions : List (ℕ × ℕ × E) → List (ℕ × ℕ × E) → List Condition
  no_identity_conditions left right = record { number = 21; says = MultipliersAnnihilate o A left right }
      ∷ record { number = 22; says = MultipliersRefute o A left right } ∷ []

  abbrev pub central_conditions : List E → List Condition
  central_conditions a = record { number = 31; says = CommutesWithBasis o A a }
      ∷ record { number = 32; says = IsNoMultiple o A a } ∷ []

  abbrev pub ideal_conditions : List (List E) → List Condition
  ideal_conditions tuples = record { number = 41; says = AreIndependent o A.dim tuples }
      ∷ record { number = 42; says = IsClosedFromLeft o A tuples }
      ∷ record { number = 43; says = IsClosedFromRight o A tuples } ∷ []

  abbrev pub split_conditions : ℕ → List (List (List E)) → List (List E) → List Condition
  split_conditions n maps units = record { number = 51; says = MapsMultiply o A n maps }
      ∷ record { number = 52; says = GiveMatrixUnits o A n maps units } ∷ []

module _ (o : Ops ℕ) (L : FieldLaws o) (A : Structure (Pair ℕ)) where
  -- those of a ramified place, of the tuples of an order Λ and of its radical J, where π is the uniformizer
  abbrev pub ramified_conditions : Place → (order radical : List (List (Pair ℕ))) → List Condition
  ramified_conditions place order radical =
      let K = fraction_ops o L in
      let P = place_of place in
      -- the place is one, and the algebra is associative and has an identity
      record { number = 61; says = IsPlace o P }
      ∷ record { number = 62; says = IsAssociative K A }
      ∷ record { number = 63; says = HasIdentity K A }
      -- the tuples of Λ are independent, and it holds the identity and is closed under products
      ∷ record { number = 64; says = AreIndependentTuples K A.dim order }
      ∷ record { number = 65; says = HoldsIdentity o L A P order }
      ∷ record { number = 66; says = IsClosed o L A P order }
      -- the tuples of J are independent, and it is an ideal of Λ that holds π·Λ
      ∷ record { number = 67; says = AreIndependentTuples K A.dim radical }
      ∷ record { number = 68; says = IsInside o L A P order radical }
      ∷ record { number = 69; says = AbsorbsProducts o L A P order radical }
      ∷ record { number = 70; says = HoldsMultiple o L A P order radical }
      -- some power of J is inside π·Λ, and Λ/J is simple
      ∷ record { number = 71; says = SomePowerFalls o L A P order radical }
      ∷ record { number = 72; says = IsSimpleOver o L A P order radical }
      -- the left order of J is Λ, and J is not π·Λ
      ∷ record { number = 73; says = IsLeftOrder o L A P order radical }
      ∷ record { number = 74; says = IsNotMultiple o L A P order radical } ∷ []

module _ (f : SmallField) (A : Structure (Pair ℕ)) where
  -- those of the evidence, on an algebra of degree n
  abbrev pub conditions : ℕ → Evidence → List Condition
  conditions n (Triple i j k) = triple_conditions (fractions_over f) A i j k
  conditions n (NoIdentity left right) = no_identity_conditions (fractions_over f) A left right
  conditions n (Central tuple) = central_conditions (fractions_over f) A tuple
  conditions n (Ideal tuples) = ideal_conditions (fractions_over f) A tuples
  conditions n (Split maps units) = split_conditions (fractions_over f) A n maps units
  conditions n (Ramified place order radical) =
      ramified_conditions (small_ops f) (small_laws f) A place order radical

-- ---- the verdict

-- each of the conditions holds
abbrev pub AllHold : List Condition → Type 0
AllHold [] = Unit {0}
AllHold (c ∷ rest) = c.says × AllHold rest

-- of the conditions the first that fails has this number
abbrev pub FailsFirst : List Condition → ℕ → Type 0
FailsFirst [] number = ⊥
FailsFirst (c ∷ rest) number = ((c.says → ⊥) × (c.number ≡ number)) ⊎ (c.says × FailsFirst rest number)

-- Yes where all hold, and else No with the number of the first that fails
abbrev pub IsVerdict : List Condition → Verdict → Type 0
IsVerdict list Yes = AllHold list
IsVerdict list (No condition) = FailsFirst list condition
