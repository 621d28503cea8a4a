-- Residues by a program's residue field: of a fraction, and of multiples of the part of their denominator at the place.
use Rattle.std.specs.Prelude.{◌≡◌, ◌≢◌, ℕ, List, []}
use Rattle.std.proofs.Common.{refl, sym, ◌∙◌, subst}
use Rattle.std.specs.List.{All}
use Rattle.theory_rings.specs.Ops.{Ops, IsElem, FieldLaws}
use Rattle.theory_rings.specs.Sum.{at}
use Rattle.theory_fractions.specs.PolynomialLists.{IsOver, IsPolynomialList, IsProduct}
use Rattle.theory_fractions.specs.Fraction.{Pair}
use Rattle.theory_fractions.specs.FractionOps.{fraction_ops}
use Rattle.theory_fractions.proofs.ElementClauses.{lowest_of_elem}
use Rattle.theory_remainders.specs.Irreducible.{IsIrreducible}
use Rattle.theory_remainders.specs.RemainderLaws.{IsRemainder, IsRemainderOf}
use Rattle.theory_remainders.specs.RemainderOps.{remainder_ops}
use Rattle.theory_remainders.proofs.RemainderField.{monic}
use Rattle.theory_remainders.proofs.RemainderValues.{of_elem, zero_is}
use Rattle.theory_places.specs.Places.{Finite}
use Rattle.theory_places.specs.FractionPlaces.{IsIntegralAt, IsIntegralOff, IsMonicIrreducible}
use Rattle.theory_reductions.specs.Reductions.{IsResidueOf}
use Rattle.theory_bases.specs.Bases.{fraction_over}
use Rattle.spl_field.specs.declared.small.SmallField.{SmallField}
use Rattle.spl_field.specs.SmallField.{small_ops, small_laws}
use Rattle.spl_residue.specs.declared.field.ResidueField.{ResidueField}
use Rattle.spl_residue.specs.Residue.{field_of, polynomial_of, residue_ops}
use Rattle.spl_order.specs.Members.{IsPartAt}
use Rattle.spl_order.proofs.PlaceResidues as places
use Rattle.spl_order.proofs.ResidueValues.{denominator_stays, residue_by_remainders, same_remainders}

module _ (f : SmallField) (k : ResidueField) (e : small_ops (field_of k) ≡ small_ops f) where
  abbrev o : Ops ℕ
  o = small_ops f

  abbrev L : FieldLaws o
  L = small_laws f

  abbrev p : Ops ℕ
  p = small_ops (field_of k)

  abbrev m : List ℕ
  m = polynomial_of k

  abbrev r : Ops (List ℕ)
  r = residue_ops k

  small : (z : List ℕ) → IsElem r z → IsRemainder o m z
  small z h = subst (λ (q : Ops ℕ). IsRemainder q m z) e (of_elem p (small_laws (field_of k)) m k.irreducible z h)

  carried : (z u v : List ℕ) → u ≡ v → IsRemainderOf p (at p u) m z → IsRemainderOf o (at o v) m z
  carried z u v h s = subst (λ (q : Ops ℕ). IsRemainderOf q (at q v) m z) e
      (subst (λ (t : List ℕ). IsRemainderOf p (at p t) m z) h s)

  pub over_field : (u : List ℕ) → IsOver o u → All (IsElem p) u
  over_field u h = subst (λ (q : Ops ℕ). All (IsElem q) u) (sym e) h

  -- ---- a fraction

  module _ (w : Pair ℕ) (elem : IsElem (fraction_ops (small_ops f) (small_laws f)) w) where
    irreducible : IsIrreducible o m
    irreducible = subst (λ (q : Ops ℕ). IsIrreducible q m) e k.irreducible

    pub numerator_over : (u : List ℕ) → u ≡ w.0 → All (IsElem p) u
    numerator_over u h = let t = lowest_of_elem o L w elem in over_field u (subst (IsOver o) (sym h) t.numerator_over)

    pub denominator_over : (u : List ℕ) → u ≡ w.1 → All (IsElem p) u
    denominator_over u h = let t = lowest_of_elem o L w elem in
        over_field u (subst (IsOver o) (sym h) t.denominator_over)

    module _ (s : IsIntegralOff o m w) (y : List ℕ) (hy : IsElem r y) (v : List ℕ) (v-is : v ≡ w.1)
        (ry : IsRemainderOf p (at p v) m y) where
      pub stays : y ≢ r.zero
      stays z = denominator_stays o L m irreducible w elem s y (carried y v w.1 v-is ry)
          (z ∙ zero_is p (small_laws (field_of k)) m k.irreducible)

      pub fraction_residue : (x u : List ℕ) → IsElem r x → u ≡ w.0 → IsRemainderOf p (at p u) m x
          → IsResidueOf o m r w (r.mul x (r.inv y))
      fraction_residue x u hx u-is rx = residue_by_remainders o L m irreducible w elem r s x y
          (small x hx) (small y hy) (carried x u w.0 u-is rx) (carried y v w.1 v-is ry)

  -- ---- multiples of the part of a denominator

  module _ (s : IsMonicIrreducible o m) where
    -- the operations are those of the remainders
    pub operations : r ≡ remainder_ops o L m (monic o L m s.irreducible)
    operations = same_remainders p o (small_laws (field_of k)) L m m k.irreducible s.irreducible e refl

    module _ (d : List ℕ) (hd : IsPolynomialList o d) (nd : d ≢ []) (part : List ℕ) (T : IsPartAt o L m d part)
        (unit : List ℕ) (hu : IsPolynomialList o unit) (product : IsProduct o unit part d)
        (y : List ℕ) (hy : IsElem r y) (ry : IsRemainderOf p (at p unit) m y) where
      pub unit_remains : y ≢ r.zero
      unit_remains z = places.unit_stays o L m s d hd nd part T unit hu product y (small y hy)
          (carried y unit unit refl ry) (subst (λ (r : Ops (List ℕ)). y ≡ r.zero) operations z)

      pub multiple_residue : (u q : List ℕ) → IsPolynomialList o u → IsPolynomialList o q → IsProduct o q part u
          → IsIntegralAt o (Finite m) (fraction_over o L d u)
          → (x : List ℕ) → IsElem r x → IsRemainderOf p (at p q) m x
          → IsResidueOf o m r (fraction_over o L d u) (r.mul x (r.inv y))
      multiple_residue u q h hq multiple i x hx rx =
          subst (λ (r : Ops (List ℕ)). IsResidueOf o m r (fraction_over o L d u) (r.mul x (r.inv y))) (sym operations)
          (places.multiple_residue o L m s d hd nd part T unit hu product u q h hq multiple i x y
          (small x hx) (small y hy) (carried x q q refl rx) (carried y unit unit refl ry))
