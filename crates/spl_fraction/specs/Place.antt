-- The places of the field of rational functions: the monic irreducible polynomials, and infinity; and their order.
use Rattle.std.specs.Prelude.{◌≡◌, ℕ, List}
use Rattle.std.specs.Cmp.{IsTotalOrder}
use Rattle.std.specs.declared.cmp.Ordering.{Ordering}
use Rattle.std.specs.declared.cmp.Ordering.TheVariants.{Less, Equal, Greater}
use Rattle.theory_places.specs.Places as places
use Rattle.theory_places.specs.Places.{PlaceOf}
use Rattle.spl_poly.specs.Order.{poly_cmp}
use Rattle.spl_fraction.specs.declared.place.Place.{Place}
use Rattle.spl_fraction.specs.declared.place.Place.TheVariants.{Finite, Infinity}

-- the place of a program as one of the rational functions
abbrev pub place_of : Place → PlaceOf (List ℕ)
place_of (Finite p) = places.Finite p
place_of Infinity = places.Infinite

-- finite places are ordered as their polynomials, and infinity is last
abbrev pub place_cmp : Place → Place → Ordering
place_cmp (Finite p) (Finite q) = poly_cmp p q
place_cmp (Finite p) Infinity = Less
place_cmp Infinity (Finite q) = Greater
place_cmp Infinity Infinity = Equal

-- a total order, in which only equal places are equal
pub record IsPlaceOrder (cmp : Place → Place → Ordering) : Type 0 where
  pub total : IsTotalOrder cmp
  pub equal : (a b : Place) → cmp a b ≡ Equal → a ≡ b
