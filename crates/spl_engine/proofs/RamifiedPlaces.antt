-- What the growth of first orders finds, as the claim of a ramified place.
use Rattle.std.specs.Prelude.{◌≡◌, ℕ, List, [], ◌∷◌, length, get_or, ◌-◌}
use Rattle.std.proofs.Common.{sym, subst, subst₂, arith}
use Rattle.theory_fractions.specs.Fraction.{Pair}
use Rattle.theory_fractions.proofs.PolynomialFractions.{as_fraction-elem}
use Rattle.theory_tables.specs.Structure.{Structure}
use Rattle.theory_places.specs.FractionPlaces.{IsPlace, IsMonicIrreducible}
use Rattle.theory_bases.specs.Bases.{BasisForm}
use Rattle.spl_field.specs.SmallField.{small_ops, small_laws}
use Rattle.spl_field.specs.declared.small.SmallField.{SmallField}
use Rattle.spl_fraction.specs.FractionsOver.{fractions_over}
use Rattle.spl_fraction.specs.Place.{place_of}
use Rattle.spl_fraction.specs.declared.place.Place.{Place}
use Rattle.spl_fraction.specs.declared.place.Place.TheVariants.{Finite, Infinity}
use Rattle.spl_evidence.specs.Claim.{RamifiedClaim}
use Rattle.spl_evidence.specs.Evidence.{PlaceFits, IsMonicOfPositiveDegree}
use Rattle.spl_local.specs.Growth.{small_tuples}
use Rattle.spl_local.specs.Everywhere.{IsFirstRamified, IsRamifiedFirst}

-- a monic irreducible polynomial is monic of degree at least 1
monic_positive : (f : SmallField) (p : List ℕ) → IsMonicIrreducible (small_ops f) p → IsMonicOfPositiveDegree p
monic_positive f [] m = absurd (omega (arith, m.positive))
monic_positive f (c ∷ cs) m =
    let last : length cs ≡ length (c ∷ cs) - 1 = omega (arith) in
    record {
      positive = omega (arith, m.positive);
      monic = subst (λ k. get_or (c ∷ cs) k 0 ≡ 1) last m.monic;
    }

place_fits : (f : SmallField) (place : Place) → IsPlace (small_ops f) (place_of place)
    → PlaceFits (fractions_over f) place
place_fits f (Finite p) m = (as_fraction-elem (small_ops f) (small_laws f) p m.polynomial, monic_positive f p m)
place_fits f Infinity m = tt

module _ (f : SmallField) (A : Structure (Pair ℕ)) (place : Place) (order radical : BasisForm ℕ)
    (h : IsRamifiedFirst f A place order radical) where
  claim_of_bases : RamifiedClaim f A place (small_tuples f order) (small_tuples f radical)
  claim_of_bases =
      let o = h.order_basis in
      let j = h.radical_basis in
      let o_is = o.independent in
      let j_is = j.independent in
      record {
        fits = record {
          place_fits = place_fits f place h.is_place;
          order_count = o_is.count;
          order_tuples = o_is.shape;
          radical_count = j_is.count;
          radical_tuples = j_is.shape;
        };
        is_place = h.is_place;
        ramified = h.ramified;
      }

  -- the tuples of the bases are such evidence
  pub claim_first : (os js : List (List (Pair ℕ))) → os ≡ small_tuples f order → js ≡ small_tuples f radical
      → RamifiedClaim f A place os js × IsFirstRamified f A place
  claim_first os js is_os is_js = (subst₂ (RamifiedClaim f A place) (sym is_os) (sym is_js) claim_of_bases, h.first)
