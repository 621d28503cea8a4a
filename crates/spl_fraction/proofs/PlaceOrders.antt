-- The order of places is a total order, as that of polynomials is.
use Rattle.std.specs.Prelude.{◌≡◌}
use Rattle.std.specs.Ordering.{ordering_reverse}
use Rattle.std.specs.declared.cmp.Ordering.TheVariants.{Less, Equal}
use Rattle.std.proofs.Common.{refl, ap}
use Rattle.spl_poly.specs.Order.{poly_cmp, IsPolynomialOrder}
use Rattle.spl_fraction.specs.Place.{place_cmp, IsPlaceOrder}
use Rattle.spl_fraction.specs.declared.place.Place.{Place}
use Rattle.spl_fraction.specs.declared.place.Place.TheVariants.{Finite, Infinity}

module _ (h : IsPolynomialOrder poly_cmp) where
  antisymm : (x y : Place) → place_cmp x y ≡ ordering_reverse (place_cmp y x)
  antisymm (Finite p) (Finite q) = let t = h.total in t.antisymm p q
  antisymm (Finite p) Infinity = refl
  antisymm Infinity (Finite q) = refl
  antisymm Infinity Infinity = refl

  trans : (x y z : Place) → place_cmp x y ≡ Less → place_cmp y z ≡ Less → place_cmp x z ≡ Less
  trans (Finite p) (Finite q) (Finite r) d e = let t = h.total in t.trans p q r d e
  trans (Finite p) (Finite q) Infinity d e = refl
  trans (Finite p) Infinity (Finite r) d e = cc
  trans (Finite p) Infinity Infinity d e = refl
  trans Infinity (Finite q) z d e = cc
  trans Infinity Infinity z d e = cc

  congr : (x y z : Place) → place_cmp x y ≡ Equal → place_cmp x z ≡ place_cmp y z
  congr (Finite p) (Finite q) (Finite r) e = let t = h.total in t.congr p q r e
  congr (Finite p) (Finite q) Infinity e = refl
  congr (Finite p) Infinity z e = cc
  congr Infinity (Finite q) z e = cc
  congr Infinity Infinity z e = refl

  equal : (x y : Place) → place_cmp x y ≡ Equal → x ≡ y
  equal (Finite p) (Finite q) e = ap (λ u. Finite u) (h.equal p q e)
  equal (Finite p) Infinity e = cc
  equal Infinity (Finite q) e = cc
  equal Infinity Infinity e = refl

  pub is_place_order : IsPlaceOrder place_cmp
  is_place_order = record { total = record { antisymm = antisymm; trans = trans; congr = congr }; equal = equal }
