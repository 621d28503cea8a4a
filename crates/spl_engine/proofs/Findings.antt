-- What is found of an algebra, as evidence; and the algebra where nothing is found.
use Rattle.std.specs.Prelude.{ℕ, List}
use Rattle.theory_rings.specs.Ops.{Ops, FieldLaws}
use Rattle.theory_fractions.specs.Fraction.{Pair}
use Rattle.spl_fraction.specs.FractionsOver.{fractions_laws}
use Rattle.theory_tables.specs.Structure.{Structure, IsOver, IsAssociative}
use Rattle.theory_tables.specs.Algebras.{HasIdentity, HasSmallCentre}
use Rattle.theory_tables.specs.Traces.{IsNondegenerate}
use Rattle.theory_tables.specs.Claims.{NoIdentityClaim, CentralClaim}
use Rattle.theory_tables.specs.Laws.{ClaimsExclude}
use Rattle.theory_tables.proofs.Algebras.Exclusions.{claims_exclude}
use Rattle.theory_tables.proofs.Algebras.CentralSimple.{central_simple_by_trace_form}
use Rattle.spl_evidence.specs.declared.evidence.Evidence.{Evidence}
use Rattle.spl_evidence.specs.declared.evidence.Evidence.TheVariants.{Triple as TripleEvidence, NoIdentity, Central}
use Rattle.spl_evidence.specs.declared.evidence.Evidence.TheVariants.{Ideal, Ramified}
use Rattle.spl_evidence.specs.Claim.{Claim, RamifiedClaim}
use Rattle.spl_evidence.proofs.Shown.{claim_shows}
use Rattle.spl_field.specs.declared.small.SmallField.{SmallField}
use Rattle.spl_fraction.specs.declared.place.Place.{Place}
use Rattle.spl_local.specs.Everywhere.{IsFirstRamified, IsUnimodularEverywhere}
use Rattle.theory_bases.specs.Bases.{BasisForm}
use Rattle.spl_table.specs.Table.{field_of, degree_of, algebra_of, ops_of}
use Rattle.spl_table.specs.declared.table.Table.{Table}
use Rattle.spl_algebra.specs.Triple.{IsFirstFailed}
use Rattle.spl_algebra.specs.declared.triple.Triple.{Triple}
use Rattle.spl_centre.specs.TraceIdeal.{IsTraceIdeal}
use Rattle.spl_engine.specs.Kind.{IsOfKind, IsEvidence, HasNoFault, HasUnimodularOrders}

module _ (table : Table) where
  abbrev o : Ops (Pair ℕ)
  o = ops_of table

  abbrev L : FieldLaws o
  L = fractions_laws (field_of table)

  abbrev A : Structure (Pair ℕ)
  A = algebra_of table

  over : IsOver o A
  over = record { right_length = table.count; of_elements = table.over }

  exclude : ClaimsExclude o A
  exclude = claims_exclude o L A over

  abbrev n : ℕ
  n = degree_of table

  abbrev f : SmallField
  f = field_of table

  evidence : (e : Evidence) → IsOfKind f A e → Claim f A n e → IsEvidence f A n e
  evidence e kind claim = record { kind = kind; claim = claim; shows = claim_shows f A over n table.dim e claim }

  pub of_triple : (t : Triple) → IsFirstFailed o A t → IsEvidence f A n (TripleEvidence t.i t.j t.k)
  of_triple t h = evidence (TripleEvidence t.i t.j t.k) h record {
    fits = ((h.i_low, h.i_high), (h.j_low, h.j_high), (h.k_low, h.k_high));
    differ = h.fails;
  }

  pub of_no_identity : (left right : List (ℕ × ℕ × Pair ℕ)) → IsAssociative o A
      → NoIdentityClaim o A left right
      → IsEvidence f A n (NoIdentity left right)
  of_no_identity left right associative claim =
      evidence (NoIdentity left right) (associative, exclude.no_identity left right claim) claim

  pub of_central : (tuple : List (Pair ℕ)) → IsAssociative o A → HasIdentity o A
      → CentralClaim o A tuple
      → IsEvidence f A n (Central tuple)
  of_central tuple associative identity claim =
      evidence (Central tuple) record {
        associative = associative;
        identity = identity;
        large =
            exclude.central tuple claim;
      } claim

  pub of_ideal : (tuples : List (List (Pair ℕ))) → IsAssociative o A → HasSmallCentre o A
      → IsTraceIdeal o A tuples
      → IsEvidence f A n (Ideal tuples)
  of_ideal tuples associative centre h =
      evidence (Ideal tuples) record {
        associative = associative;
        centre = centre;
        degenerate = λ form. exclude.ideal tuples h.claim
            (central_simple_by_trace_form o L A over associative centre form);
        radical = h.spans;
      } h.claim

  pub of_ramified : (place : Place) (order radical : List (List (Pair ℕ))) → HasNoFault o A
      → RamifiedClaim f A place order radical × IsFirstRamified f A place
      → IsEvidence f A n (Ramified place order radical)
  of_ramified place order radical no_fault h = evidence (Ramified place order radical) (no_fault, h.1) h.0

  pub of_unimodular : (finite infinite : BasisForm ℕ) → HasNoFault o A → IsUnimodularEverywhere f A finite infinite
      → HasUnimodularOrders f A
  of_unimodular finite infinite no_fault h =
      record { no_fault = no_fault; finite = finite; infinite = infinite; unimodular = h }

  pub of_none : IsAssociative o A → HasSmallCentre o A → IsNondegenerate o A
      → HasNoFault o A
  of_none associative centre nondegenerate = record {
    associative = associative;
    centre = centre;
    nondegenerate = nondegenerate;
    central_simple = central_simple_by_trace_form o L A over associative centre nondegenerate;
  }
