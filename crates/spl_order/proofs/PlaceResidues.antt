-- Residues at a place of fractions over one polynomial: those of what is congruent, and those of multiples of the
-- polynomial's part at the place.
use Rattle.std.specs.Prelude.{◌≡◌, ◌≢◌, List, []}
use Rattle.std.proofs.Common.{refl, sym, ◌∙◌, ap, ap₂, subst}
use Rattle.theory_rings.specs.Ring.{FieldOn}
use Rattle.theory_rings.specs.Ops.{Ops, FieldLaws}
use Rattle.theory_rings.specs.Elements.{Elem, Elem-path, elements}
use Rattle.theory_rings.specs.Sum.{at}
use Rattle.theory_rings.proofs.Rings.RingLaws.{add-zero, zero-mul, mul-zero}
use Rattle.theory_rings.proofs.Rings.Fields.{mul-inv, mul_left_cancel}
use Rattle.theory_rings.proofs.Rings.Solver.{◌⊞◌, ◌⊠◌, minus, ring2, ring3}
use Rattle.theory_spaces.specs.Lattice.{IsSubring}
use Rattle.theory_fractions.specs.PolynomialLists.{IsPolynomialList, IsProduct, Divides}
use Rattle.theory_fractions.specs.Fraction.{Pair}
use Rattle.theory_fractions.specs.FractionOps.{fraction_ops}
use Rattle.theory_fractions.specs.CommonDenominator.{as_fraction}
use Rattle.theory_fractions.proofs.CommonDenominators.{divides_self}
use Rattle.theory_fractions.proofs.ElementClauses.{ne_zero, lowest_of_elem}
use Rattle.theory_fractions.proofs.FractionField.{fraction_laws}
use Rattle.theory_fractions.proofs.PolynomialFractions.{as_fraction-elem, as_fraction-mul}
use Rattle.theory_remainders.specs.RemainderLaws.{IsRemainder, IsRemainderOf}
use Rattle.theory_remainders.specs.RemainderOps.{remainder_ops}
use Rattle.theory_remainders.proofs.RemainderField.{monic, remainder_laws}
use Rattle.theory_places.specs.Places.{Finite}
use Rattle.theory_places.specs.FractionPlaces.{IsIntegralAt, IsMonicIrreducible}
use Rattle.theory_reductions.specs.Reductions.{IsResidueOf}
use Rattle.theory_bases.specs.Bases.{fraction_over}
use Rattle.theory_bases.proofs.FractionsOver.{over-elem, mul-over, over_of_multiple}
use Rattle.theory_left_orders.specs.ResidueRings.{ResidueRingOn}
use Rattle.theory_left_orders.specs.FractionResidues.{ResidueRingsBy}
use Rattle.theory_left_orders.proofs.FractionResidues.{residue_rings, poly_loc, rest, rest_small, rest_is}
use Rattle.spl_order.specs.Coordinates.{AreCongruentOver}
use Rattle.spl_order.specs.Members.{IsPartAt}
use Rattle.spl_order.proofs.ResidueValues.{residue_by_remainders}

module _ {E : Type 0} (o : Ops E) (L : FieldLaws o) (m : List E) (s : IsMonicIrreducible o m) where
  abbrev k : Ops (Pair E)
  k = fraction_ops o L

  abbrev laws : FieldLaws k
  laws = fraction_laws o L

  abbrev F : FieldOn (Elem k)
  F = elements k laws

  abbrev r : Ops (List E)
  r = remainder_ops o L m (monic o L m s.irreducible)

  abbrev N : FieldLaws r
  N = remainder_laws o L m s.irreducible

  abbrev R : ResidueRingsBy o L laws m r N
  R = residue_rings o L laws m s N

  abbrev K : FieldOn (Elem r)
  K = elements r N

  abbrev D : ResidueRingOn F (λ w. IsIntegralAt o (Finite m) w.0) R.p (F.inv R.p) K
  D = R.at_place

  abbrev In : Elem k → Type 0
  In w = IsIntegralAt o (Finite m) w.0

  abbrev up : (u : List E) → IsPolynomialList o u → Elem k
  up u hu = (as_fraction o u, as_fraction-elem o L u hu)

  S : IsSubring F.ring In
  S = D.subring

  numerator_is : (w : Elem k) → IsPolynomialList o w.0.0
  numerator_is w = let l = lowest_of_elem o L w.0 w.1 in
      record { over = l.numerator_over; trimmed = l.numerator_trimmed }

  denominator_is : (w : Elem k) → IsPolynomialList o w.0.1
  denominator_is w = let l = lowest_of_elem o L w.0 w.1 in
      record { over = l.denominator_over; trimmed = l.denominator_trimmed }

  up_in : (u : List E) (hu : IsPolynomialList o u) → In (up u hu)
  up_in u hu = poly_loc o L laws m s (up u hu) refl

  -- what the residue map makes of an integral fraction is its residue, and there is no other
  pub residue_is : (w : Elem k) → In w → (z : List E) → (D.res w).0 ≡ z → IsResidueOf o m r w.0 z
  residue_is w i z e =
      let n = w.0.0 in
      let d = w.0.1 in
      let x = rest o L laws m s n in
      let y = rest o L laws m s d in
      let h : IsResidueOf o m r w.0 (r.mul x (r.inv y)) =
      residue_by_remainders o L m s.irreducible w.0 w.1 r i x y (rest_small o L laws m s n) (rest_small o L laws m s d)
      (rest_is o L laws m s n (numerator_is w)) (rest_is o L laws m s d (denominator_is w)) in
      let V = R.at_place_values in
      subst (IsResidueOf o m r w.0) (sym (V.value w (r.mul x (r.inv y)) i h) ∙ e) h

  pub residue_value : (w : Elem k) → In w → (z : List E) → IsResidueOf o m r w.0 z → (D.res w).0 ≡ z
  residue_value w i z h = let V = R.at_place_values in V.value w z i h

  -- the residue of a polynomial is its remainder
  pub polynomial_residue : (u : List E) (hu : IsPolynomialList o u) (x : List E) → IsRemainder o m x
      → IsRemainderOf o (at o u) m x → (D.res (up u hu)).0 ≡ x
  polynomial_residue u hu x small is = let V = R.at_place_values in V.polynomial_value (up u hu) u x hu refl small is

  -- that of m is 0
  residue_p : D.res R.p ≡ K.zero
  residue_p = let q = D.kernel R.p D.p_in in q.1 (subst In (sym (F.mul_comm (F.inv R.p) R.p ∙ D.pq)) S.one_in)

  module _ (d : List E) (hd : IsPolynomialList o d) (nd : d ≢ []) where
    abbrev over : (u : List E) → IsPolynomialList o u → Elem k
    over u hu = (fraction_over o L d u, over-elem o L d hd nd u hu)

    -- ---- what is congruent

    module _ (a b : List E) (ha : IsPolynomialList o a) (hb : IsPolynomialList o b)
        (C : AreCongruentOver o L m d a b) where
      abbrev q : Elem k
      q = (C.quotient, C.elem)

      abbrev pq : Elem k
      pq = F.◌⊗◌ R.p q

      pq_in : In pq
      pq_in = S.mul_in R.p q D.p_in C.integral

      sum_is : over b hb ≡ F.◌⊕◌ (over a ha) pq
      sum_is = Elem-path k (over b hb) (F.◌⊕◌ (over a ha) pq)
          (C.value ∙ ap (λ z. k.add (fraction_over o L d a) (k.mul z C.quotient)) (sym R.p_is))

      difference_is : over a ha ≡ F.◌⊕◌ (over b hb) (F.neg pq)
      difference_is = ring2 F.cring (λ a p. (a, (a ⊞ p) ⊞ minus p)) refl (over a ha) pq
          ∙ ap (λ z. F.◌⊕◌ z (F.neg pq)) (sym sum_is)

      pub integral_of_congruent : IsIntegralAt o (Finite m) (fraction_over o L d b)
          → IsIntegralAt o (Finite m) (fraction_over o L d a)
      integral_of_congruent i =
          subst In (sym difference_is) (S.add_in (over b hb) (F.neg pq) i (S.neg_in pq pq_in))

      pub residue_of_congruent : IsIntegralAt o (Finite m) (fraction_over o L d b) → (z : List E)
          → IsResidueOf o m r (fraction_over o L d a) z → IsResidueOf o m r (fraction_over o L d b) z
      residue_of_congruent i z h =
          let j : In (over a ha) = integral_of_congruent i in
          residue_is (over b hb) i z
          (ap (λ (z : Elem r). z.0) (ap D.res sum_is ∙ D.map-add (over a ha) pq j pq_in
          ∙ ap (K.◌⊕◌ (D.res (over a ha))) (D.map-mul R.p q D.p_in C.integral
          ∙ ap (λ z. K.◌⊗◌ z (D.res q)) residue_p ∙ zero-mul K.ring (D.res q))
          ∙ add-zero K.monoid (D.res (over a ha)))
          ∙ residue_value (over a ha) j z h)

    -- ---- multiples of the part at the place

    module _ (part : List E) (T : IsPartAt o L m d part) where
      abbrev hp : IsPolynomialList o part
      hp = T.polynomial

      one_is : fraction_over o L d d ≡ F.one.0
      one_is = over_of_multiple o L d hd nd d F.one.0 F.one.1
          (sym (ap (λ (z : Elem k). z.0) (F.mul_comm (up d hd) F.one ∙ F.one-mul (up d hd))))

      pub part_divides : Divides o part d
      part_divides = (T.tells d hd).1 (subst (IsIntegralAt o (Finite m)) (sym one_is) S.one_in)

      module _ (unit : List E) (hu : IsPolynomialList o unit) (product : IsProduct o unit part d) where
        d_is : up d hd ≡ F.◌⊗◌ (up unit hu) (up part hp)
        d_is = Elem-path k (up d hd) (F.◌⊗◌ (up unit hu) (up part hp)) (as_fraction-mul o L unit part d hu hp hd product)

        part_ne : up part hp ≢ F.zero
        part_ne e = ne_zero o L (as_fraction o part) T.nonzero (ap (λ (z : Elem k). z.0) e)

        -- a multiple over the polynomial is the quotient over the unit
        quotient_is : (u e : List E) (h : IsPolynomialList o u) (he : IsPolynomialList o e)
            → up u h ≡ F.◌⊗◌ (up e he) (up part hp) → F.◌⊗◌ (over u h) (up unit hu) ≡ up e he
        quotient_is u e h he multiple =
            mul_left_cancel F (up part hp) (F.◌⊗◌ (over u h) (up unit hu)) (up e he) part_ne
            (ring3 F.cring (λ p w v. (p ⊠ (w ⊠ v), (v ⊠ p) ⊠ w)) refl (up part hp) (over u h) (up unit hu)
            ∙ ap (λ z. F.◌⊗◌ z (over u h)) (sym d_is)
            ∙ Elem-path k (F.◌⊗◌ (up d hd) (over u h)) (up u h) (mul-over o L d hd nd u h)
            ∙ multiple ∙ F.mul_comm (up e he) (up part hp))

        -- the unit leaves a remainder
        unit_ne : D.res (up unit hu) ≢ K.zero
        unit_ne e =
            let v : Elem k = over part hp in
            let i : In v = (T.tells part hp).0 (divides_self o L part hp.over) in
            K.one-nonzero (sym D.map-one
            ∙ ap D.res (sym (mul_left_cancel F (up part hp) (F.◌⊗◌ v (up unit hu)) F.one part_ne
            (ring3 F.cring (λ p w v. (p ⊠ (w ⊠ v), (v ⊠ p) ⊠ w)) refl (up part hp) v (up unit hu)
            ∙ ap (λ z. F.◌⊗◌ z v) (sym d_is)
            ∙ Elem-path k (F.◌⊗◌ (up d hd) v) (up part hp) (mul-over o L d hd nd part hp)
            ∙ sym (F.one-mul (up part hp)) ∙ F.mul_comm F.one (up part hp))))
            ∙ D.map-mul v (up unit hu) i (up_in unit hu) ∙ ap (K.◌⊗◌ (D.res v)) e ∙ mul-zero K.ring (D.res v))

        pub unit_stays : (y : List E) → IsRemainder o m y → IsRemainderOf o (at o unit) m y → y ≢ r.zero
        unit_stays y small is z =
            unit_ne (Elem-path r (D.res (up unit hu)) K.zero (polynomial_residue unit hu y small is ∙ z))

        -- the residue of a multiple over the polynomial
        pub multiple_residue : (u e : List E) (h : IsPolynomialList o u) (he : IsPolynomialList o e)
            → IsProduct o e part u → IsIntegralAt o (Finite m) (fraction_over o L d u)
            → (x y : List E) → IsRemainder o m x → IsRemainder o m y
            → IsRemainderOf o (at o e) m x → IsRemainderOf o (at o unit) m y
            → IsResidueOf o m r (fraction_over o L d u) (r.mul x (r.inv y))
        multiple_residue u e h he multiple i x y hx hy rx ry =
            let w : Elem k = over u h in
            let t : Elem r = D.res (up unit hu) in
            let a : K.◌⊗◌ (D.res w) t ≡ D.res (up e he) = sym (D.map-mul w (up unit hu) i (up_in unit hu))
            ∙ ap D.res (quotient_is u e h he
            (Elem-path k (up u h) (F.◌⊗◌ (up e he) (up part hp)) (as_fraction-mul o L e part u he hp h multiple))) in
            let b : D.res w ≡ K.◌⊗◌ (D.res (up e he)) (K.inv t) =
            mul_left_cancel K t (D.res w) (K.◌⊗◌ (D.res (up e he)) (K.inv t)) unit_ne
            (K.mul_comm t (D.res w) ∙ a
            ∙ sym (ring3 K.cring (λ t e i. (t ⊠ (e ⊠ i), (t ⊠ i) ⊠ e)) refl t (D.res (up e he)) (K.inv t)
            ∙ ap (λ z. K.◌⊗◌ z (D.res (up e he))) (mul-inv K t unit_ne) ∙ K.one-mul (D.res (up e he)))) in
            residue_is w i (r.mul x (r.inv y)) (ap (λ (z : Elem r). z.0) b
            ∙ ap₂ (λ u v. r.mul u (r.inv v)) (polynomial_residue e he x hx rx) (polynomial_residue unit hu y hy ry))
