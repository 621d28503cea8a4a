-- What a right verdict says of the claim.
use Rattle.std.specs.Prelude.{◌≡◌, ◌↔◌, ◌*◌, ℕ, List, [], ◌∷◌, None, Result, IfOk}
use Rattle.std.proofs.Common.{refl, sym, ◌∙◌, subst, subst₂, inl, inr, ⊎_elim}
use Rattle.theory_fractions.specs.Fraction.{Pair}
use Rattle.spl_field.specs.SmallField.{small_ops, small_laws}
use Rattle.spl_field.specs.declared.field.NoMemory.{NoMemory}
use Rattle.spl_field.specs.declared.small.SmallField.{SmallField}
use Rattle.spl_fraction.specs.Fractions.{field_of}
use Rattle.spl_fraction.specs.FractionsOver.{fractions_over, fractions_laws}
use Rattle.spl_fraction.specs.Place.{place_of}
use Rattle.spl_fraction.specs.declared.field.Fractions.{Fractions}
use Rattle.theory_tables.specs.Structure.{Structure, IsOver}
use Rattle.theory_tables.specs.Claims.{TripleFits, NoIdentityFits, CentralFits, IdealFits, SplitFits}
use Rattle.spl_evidence.specs.declared.evidence.Evidence.{Evidence}
use Rattle.spl_evidence.specs.declared.evidence.Evidence.TheVariants.{Triple, NoIdentity, Central, Ideal, Split, Ramified}
use Rattle.spl_evidence.specs.Evidence.{Fits, RamifiedFits}
use Rattle.spl_evidence.specs.Claim.{Claim}
use Rattle.spl_ramified.proofs.Faults.{none_of_claim, claim_by_faults}
use Rattle.spl_check.specs.Verdict.{Condition, conditions, AllHold, FailsFirst, IsVerdict}
use Rattle.spl_check.specs.declared.verdict.Verdict.{Verdict}
use Rattle.spl_check.specs.declared.verdict.Verdict.TheVariants.{Yes, No}

-- where one fails, not all hold
not_all : (list : List Condition) (number : ℕ) → FailsFirst list number → AllHold list → ⊥
not_all [] number fails hold = fails
not_all (c ∷ rest) number fails hold = ⊎_elim
    (λ (first : (c.says → ⊥) × (c.number ≡ number)). first.0 hold.0)
    (λ (later : c.says × FailsFirst rest number). not_all rest number later.1 hold.1)
    fails

-- one condition is the first that fails
pub first_unique : (list : List Condition) (a b : ℕ) → FailsFirst list a → FailsFirst list b → a ≡ b
first_unique [] a b f g = absurd f
first_unique (c ∷ rest) a b (inl f) (inl g) = sym f.1 ∙ g.1
first_unique (c ∷ rest) a b (inl f) (inr g) = absurd (f.0 g.0)
first_unique (c ∷ rest) a b (inr f) (inl g) = absurd (g.0 f.0)
first_unique (c ∷ rest) a b (inr f) (inr g) = first_unique rest a b f.1 g.1

module _ (f : SmallField) (A : Structure (Pair ℕ)) (over : IsOver (fractions_over f) A) (n : ℕ) where
  pub claim_of_all : (e : Evidence) → A.dim ≡ n * n → Fits (fractions_over f) n e → AllHold (conditions f A n e) → Claim f A n e
  claim_of_all (Triple i j k) same fits h = record {
    fits = subst (λ (m : ℕ). TripleFits m i j k) (sym same) fits;
    differ = h.0;
  }
  claim_of_all (NoIdentity left right) same fits h = record {
    fits = subst (λ (m : ℕ). NoIdentityFits (fractions_over f) m left right) (sym same) fits;
    annihilate = h.0;
    refute = let rest = h.1 in rest.0;
  }
  claim_of_all (Central tuple) same fits h = record {
    fits = subst (λ (m : ℕ). CentralFits (fractions_over f) m tuple) (sym same) fits;
    commutes = h.0;
    no_multiple = let rest = h.1 in rest.0;
  }
  claim_of_all (Ideal tuples) same fits h = let rest = h.1 in let last = rest.1 in record {
    fits = subst (λ (m : ℕ). IdealFits (fractions_over f) m tuples) (sym same) fits;
    independent = h.0;
    left = rest.0;
    right = last.0;
  }
  claim_of_all (Split maps units) same fits h = record {
    fits = subst (λ (m : ℕ). SplitFits (fractions_over f) m n maps units) (sym same) fits;
    multiplies = h.0;
    gives_units = let rest = h.1 in rest.0;
  }
  claim_of_all (Ramified place order radical) same fits h =
      let claim = (claim_by_faults (small_ops f) (small_laws f) A (place_of place) order radical (fractions_laws f) over
      None h).0 refl in
      record {
        fits = subst (λ (m : ℕ). RamifiedFits (fractions_over f) m place order radical) (sym same) fits;
        is_place = claim.0;
        ramified = claim.1;
      }

  pub all_of_claim : (e : Evidence) → Claim f A n e → AllHold (conditions f A n e)
  all_of_claim (Triple i j k) c = (c.differ, tt)
  all_of_claim (NoIdentity left right) c = (c.annihilate, (c.refute, tt))
  all_of_claim (Central tuple) c = (c.commutes, (c.no_multiple, tt))
  all_of_claim (Ideal tuples) c = (c.independent, (c.left, (c.right, tt)))
  all_of_claim (Split maps units) c = (c.multiplies, (c.gives_units, tt))
  all_of_claim (Ramified place order radical) c =
      none_of_claim (small_ops f) (small_laws f) A (place_of place) order radical (fractions_laws f) over
      (c.is_place, c.ramified)

  pub verdict_claim : (e : Evidence) → A.dim ≡ n * n → Fits (fractions_over f) n e → (v : Verdict)
      → IsVerdict (conditions f A n e) v → (v ≡ Yes) ↔ Claim f A n e
  verdict_claim e same fits Yes h = ((λ _. claim_of_all e same fits h), (λ _. refl))
  verdict_claim e same fits (No condition) h = (
    (λ is. absurd (cc)),
    (λ c. absurd (not_all (conditions f A n e) condition h (all_of_claim e c))),
  )

-- a verdict on what was read of a table and of evidence
pub told : (f k : Fractions) (A B : Structure (Pair ℕ)) (n m : ℕ) (e g : Evidence) (r : Result Verdict NoMemory)
    → f ≡ k → A ≡ B → n ≡ m → e ≡ g → IfOk r (IsVerdict (conditions (field_of f) A n e))
    → IfOk r (IsVerdict (conditions (field_of k) B m g))
told f k A B n m e g r same_f same_A same_n same_e h =
    subst₂ (λ (f : Fractions) (A : Structure (Pair ℕ)).
    IfOk r (IsVerdict (conditions (field_of f) A m g))) same_f same_A
    (subst₂ (λ (n : ℕ) (e : Evidence). IfOk r (IsVerdict (conditions (field_of f) A n e)))
    same_n same_e h)
