-- What a claim that holds shows, by the laws of claims, of split algebras and of ramified places.
use Rattle.std.specs.Prelude.{◌≡◌, ℕ, ◌*◌}
use Rattle.theory_rings.specs.Ops.{Ops, FieldLaws}
use Rattle.theory_fractions.specs.Fraction.{Pair}
use Rattle.theory_tables.specs.Structure.{Structure, IsOver}
use Rattle.theory_tables.specs.Algebras.{IsCentralSimple}
use Rattle.theory_tables.specs.Laws.{ClaimsExclude}
use Rattle.theory_tables.proofs.Algebras.Exclusions.{claims_exclude}
use Rattle.theory_tables.proofs.Split.SplitCentralSimple.{split_is_central_simple}
use Rattle.theory_tables.proofs.Split.SplitClaims.{split_claim_splits}
use Rattle.theory_places.proofs.RamifiedPlaces.{ramified_place_excludes}
use Rattle.spl_field.specs.SmallField.{small_ops, small_laws}
use Rattle.spl_field.specs.declared.small.SmallField.{SmallField}
use Rattle.spl_fraction.specs.FractionsOver.{fractions_over, fractions_laws}
use Rattle.spl_fraction.specs.Place.{place_of}
use Rattle.spl_evidence.specs.declared.evidence.Evidence.{Evidence}
use Rattle.spl_evidence.specs.declared.evidence.Evidence.TheVariants.{Triple, NoIdentity, Central, Ideal, Split, Ramified}
use Rattle.spl_evidence.specs.Claim.{Claim}
use Rattle.spl_evidence.specs.Shown.{IsNoMatrixAlgebra, Shows}

module _ (f : SmallField) (A : Structure (Pair ℕ)) (over : IsOver (fractions_over f) A) where
  abbrev o : Ops (Pair ℕ)
  o = fractions_over f

  abbrev L : FieldLaws o
  L = fractions_laws f

  exclude : ClaimsExclude o A
  exclude = claims_exclude o L A over

  excluded : (IsCentralSimple o A → ⊥) → IsNoMatrixAlgebra o A
  excluded lacks = record {
    not_central_simple = lacks;
    not_split = λ size some s. lacks (split_is_central_simple o L A over size some s);
  }

  pub claim_shows : (n : ℕ) → A.dim ≡ n * n → (e : Evidence) → Claim f A n e → Shows o A n e
  claim_shows n same (Triple i j k) c = excluded (λ s. exclude.triple i j k c s.associative)
  claim_shows n same (NoIdentity left right) c = excluded (λ s. let z = s.centre in
      exclude.no_identity left right c (record { one = z.one; is_one = z.is_one }))
  claim_shows n same (Central tuple) c = excluded (λ s. exclude.central tuple c s.centre)
  claim_shows n same (Ideal tuples) c = excluded (λ s. exclude.ideal tuples c s)
  claim_shows n same (Split maps units) c = split_claim_splits o L A n maps units same c
  claim_shows n same (Ramified place order radical) c =
      ramified_place_excludes (small_ops f) (small_laws f) L A over (place_of place) order radical c.ramified
