-- Fractions over a program's field: what is integral at a finite place, and the polynomials, have the remainders by the
-- place's polynomial as residue field. (Reiner, Maximal Orders, section 5.)
use Rattle.std.specs.Prelude.{◌≡◌, ℕ, List}
use Rattle.theory_rings.specs.Ops.{Ops, FieldLaws}
use Rattle.theory_rings.specs.Elements.{Elem, elements}
use Rattle.theory_rings.specs.Sum.{at}
use Rattle.theory_fractions.specs.PolynomialLists.{IsPolynomialList}
use Rattle.theory_fractions.specs.Fraction.{Pair}
use Rattle.theory_fractions.specs.FractionOps.{fraction_ops}
use Rattle.theory_fractions.specs.CommonDenominator.{as_fraction}
use Rattle.theory_remainders.specs.RemainderLaws.{IsRemainder, IsRemainderOf}
use Rattle.theory_remainders.specs.RemainderOps.{remainder_ops}
use Rattle.theory_remainders.proofs.RemainderField.{monic}
use Rattle.theory_places.specs.Places.{Finite}
use Rattle.theory_places.specs.FractionPlaces.{IsIntegralAt, IsMonicIrreducible, fractions}
use Rattle.theory_reductions.specs.Reductions.{IsResidueOf}
use Rattle.theory_tables.specs.Matrix.{IsMatrix}
use Rattle.theory_bases.specs.TupleLattices.{SameTupleLattice}
use Rattle.theory_bases.specs.Bases.{IsPolynomialFraction}
use Rattle.theory_left_orders.specs.ResidueRings.{ResidueRingOn}

module _ {E : Type 0} (o : Ops E) (L : FieldLaws o) (M : FieldLaws (fraction_ops o L)) where
  -- the residue of each fraction that has one, as its numerator's times the inverse of its denominator's, and that of
  -- each polynomial, its remainder
  pub record HasResidues (m : List E) (r : Ops (List E)) (P : Elem (fraction_ops o L) → Type 0)
      (res : Elem (fraction_ops o L) → Elem r) : Type 0 where
    pub value : (w : Elem (fraction_ops o L)) (x : List E) → P w → IsResidueOf o m r w.0 x → (res w).0 ≡ x
    pub polynomial_value : (w : Elem (fraction_ops o L)) (u x : List E) → IsPolynomialList o u → w.0 ≡ as_fraction o u
        → IsRemainder o m x → IsRemainderOf o (at o u) m x → (res w).0 ≡ x

  -- with m as p, what is integral at m, and the polynomials, are subrings with the residue field r
  pub record ResidueRingsBy (m : List E) (r : Ops (List E)) (N : FieldLaws r) : Type 0 where
    pub p : Elem (fraction_ops o L)
    pub p_is : p.0 ≡ as_fraction o m
    pub at_place : ResidueRingOn (fractions o L M) (λ w. IsIntegralAt o (Finite m) w.0) p
        (let K = fractions o L M in K.inv p) (elements r N)
    pub at_place_values : HasResidues m r (λ w. IsIntegralAt o (Finite m) w.0) at_place.res
    pub polynomials : ResidueRingOn (fractions o L M) (λ w. IsPolynomialFraction o w.0) p
        (let K = fractions o L M in K.inv p) (elements r N)
    pub polynomial_values : HasResidues m r (λ w. IsPolynomialFraction o w.0) polynomials.res

  -- each monic irreducible polynomial has these
  abbrev pub PlacesHaveResidueRings : Type 0
  PlacesHaveResidueRings = (m : List E) (s : IsMonicIrreducible o m)
      → (let r = remainder_ops o L m (monic o L m s.irreducible) in (N : FieldLaws r) → ResidueRingsBy m r N)

module _ {E : Type 0} (o : Ops E) (L : FieldLaws o) where
  -- rows with the same lattice over the polynomials have the same lattice at each place
  abbrev pub PolynomialLatticesAtPlaces : Type 0
  PolynomialLatticesAtPlaces = (m : List E) → IsMonicIrreducible o m → (w : ℕ) (a b : List (List (Pair E)))
      → IsMatrix (fraction_ops o L) w a → IsMatrix (fraction_ops o L) w b
      → SameTupleLattice (fraction_ops o L) (IsPolynomialFraction o) w a b
      → SameTupleLattice (fraction_ops o L) (IsIntegralAt o (Finite m)) w a b
