-- What each evidence claims of an algebra of degree n over the fractions of polynomials over a small field.
use Rattle.std.specs.Prelude.{ℕ, List}
use Rattle.theory_fractions.specs.Fraction.{Pair}
use Rattle.theory_tables.specs.Structure.{Structure}
use Rattle.theory_tables.specs.Claims.{TripleClaim, NoIdentityClaim, CentralClaim, IdealClaim, SplitClaim}
use Rattle.theory_places.specs.FractionPlaces.{IsPlace, RamifiedAtPlace}
use Rattle.spl_field.specs.SmallField.{small_ops, small_laws}
use Rattle.spl_field.specs.declared.small.SmallField.{SmallField}
use Rattle.spl_fraction.specs.FractionsOver.{fractions_over, fractions_laws}
use Rattle.spl_fraction.specs.Place.{place_of}
use Rattle.spl_fraction.specs.declared.place.Place.{Place}
use Rattle.spl_evidence.specs.Evidence.{RamifiedFits}
use Rattle.spl_evidence.specs.declared.evidence.Evidence.{Evidence}
use Rattle.spl_evidence.specs.declared.evidence.Evidence.TheVariants.{Triple, NoIdentity, Central, Ideal, Split, Ramified}

module _ (f : SmallField) (A : Structure (Pair ℕ)) where
  -- the place is one, and the algebra is ramified there, with the order and the radical that the tuples span
  pub record RamifiedClaim (place : Place) (order radical : List (List (Pair ℕ))) : Type 0 where
    pub fits : RamifiedFits (fractions_over f) A.dim place order radical
    pub is_place : IsPlace (small_ops f) (place_of place)
    pub ramified : RamifiedAtPlace (small_ops f) (small_laws f) (fractions_laws f) A (place_of place) order radical

  abbrev pub Claim : ℕ → Evidence → Type 0
  Claim n (Triple i j k) = TripleClaim (fractions_over f) A i j k
  Claim n (NoIdentity left right) = NoIdentityClaim (fractions_over f) A left right
  Claim n (Central tuple) = CentralClaim (fractions_over f) A tuple
  Claim n (Ideal tuples) = IdealClaim (fractions_over f) A tuples
  Claim n (Split maps units) = SplitClaim (fractions_over f) A n maps units
  Claim n (Ramified place order radical) = RamifiedClaim place order radical
