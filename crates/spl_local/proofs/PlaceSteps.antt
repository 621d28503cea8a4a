-- An order over the polynomials that grows at finite places one after the other: what it holds, and where it is its own
-- dual for the trace.
use Rattle.std.specs.Prelude.{◌≡◌, ◌≢◌, ◌+◌, ◌<◌, ◌≤◌, ◌⊎◌, ℕ, zero, suc, List, [], ◌∷◌, length, get_or}
use Rattle.std.specs.Prelude.{Bool, true, false}
use Rattle.std.specs.Cmp.{IsTotalOrder}
use Rattle.std.specs.declared.cmp.Ordering.TheVariants.{Less, Equal, Greater}
use Rattle.std.proofs.Common.{refl, sym, ◌∙◌, ap, subst, arith, inl, inr, ⊎_elim}
use Rattle.std.proofs.lemmas.Bool.{both_ways, cases_lt, cases_eq}
use Rattle.std.proofs.lemmas.Cmp.{tied_itself}
use Rattle.std.proofs.lemmas.List.{get_or_default}
use Rattle.std.specs.Str.{bytes_eq}
use Rattle.std.proofs.lemmas.Slice.Eq.{bytes_eq-Decides}
use Rattle.theory_rings.specs.Ops.{Ops, FieldLaws, IsElem}
use Rattle.theory_rings.specs.Polynomial.{degree}
use Rattle.theory_rings.specs.Sum.{at}
use Rattle.theory_rings.proofs.Rings.Elements.{at-elem}
use Rattle.theory_spaces.specs.Sets.{Within, Product}
use Rattle.theory_spaces.proofs.Tuples.Tuples.{tuples as tuple_module}
use Rattle.theory_remainders.proofs.RemainderField.{remainder_laws}
use Rattle.theory_tables.specs.Matrix.{IsMatrix}
use Rattle.theory_tables.specs.Structure.{Structure, IsOver, IsAssociative, tuple_ops}
use Rattle.theory_tables.specs.Algebras.{IsIdentity}
use Rattle.theory_tables.proofs.Algebras.Bridge.{as_tuple}
use Rattle.theory_fractions.specs.PolynomialLists.{IsPolynomialList}
use Rattle.theory_fractions.specs.Fraction.{Pair}
use Rattle.theory_fractions.specs.FractionOps.{fraction_ops}
use Rattle.theory_fractions.proofs.CommonDenominators.{nonzero_of_monic}
use Rattle.theory_fractions.proofs.FractionField.{fraction_laws}
use Rattle.theory_places.specs.Places as places
use Rattle.theory_places.specs.FractionPlaces.{IsIntegralAt, IsMonicIrreducible, IsPlace, fractions}
use Rattle.theory_bases.specs.TupleLattices.{TupleLattice, SpanOrder}
use Rattle.theory_bases.specs.Bases.{BasisForm, IsBasis, IsPolynomialFraction}
use Rattle.theory_bases.specs.Grams.{IsGramDenominator}
use Rattle.theory_left_orders.proofs.FractionResidues.{residue_rings}
use Rattle.theory_growth.specs.Settled.{residues}
use Rattle.theory_growth.specs.Growths.{PolynomialLattice}
use Rattle.theory_growth.proofs.Localized.{clear, uncleared}
use Rattle.theory_growth.proofs.FractionPlaces.{localizes, residues_agree}
use Rattle.theory_growth.proofs.Elsewhere.{own_dual_is_kept}
use Rattle.spl_field.specs.declared.small.SmallField.{SmallField}
use Rattle.spl_field.specs.SmallField.{small_ops, small_laws}
use Rattle.spl_poly.specs.Order.{poly_cmp, IsPolynomialOrder}
use Rattle.spl_factor.specs.Factorisation.{Powers, PrecedesAll, AreFactors, IsMultipleOfProduct}
use Rattle.spl_fraction.specs.declared.place.Place.{Place}
use Rattle.spl_fraction.specs.declared.place.Place.TheVariants.{Finite, Infinity}
use Rattle.spl_fraction.specs.FractionsOver.{fractions_over}
use Rattle.spl_fraction.specs.Place.{place_of, place_cmp}
use Rattle.spl_local.specs.Growth.{small_tuples, IsOverorder, IsUnimodular, IsRamifiedBy}
use Rattle.spl_local.specs.Everywhere.{IsNoFactorFrom, IsUnimodularAt, IsRamifiedFirst, IsUnimodularOff}
use Rattle.spl_local.specs.Everywhere.{IsUnimodularOrder, IsLargerOrder}
use Rattle.spl_order.proofs.OwnDualPlaces.{own_dual}
use Rattle.spl_local.proofs.Growth.{order_at_place}
use Rattle.spl_local.proofs.FactorDivisors.{no_divisor}

-- ---- lattices at a place

module _ {E : Type 0} (o : Ops E) (L : FieldLaws o) (A : Structure (Pair E)) (over : IsOver (fraction_ops o L) A)
    (assoc : IsAssociative (fraction_ops o L) A) (l : List E) (sl : IsMonicIrreducible o l) where
  abbrev k : Ops (Pair E)
  k = fraction_ops o L

  -- a lattice over the polynomials that lies within another does so at a place
  pub within_at : (one : List (Pair E)) → IsIdentity k A one → (a b : List (List (Pair E))) → IsMatrix k A.dim a
      → IsMatrix k A.dim b → Within (PolynomialLattice o L A a) (PolynomialLattice o L A b)
      → Within (TupleLattice k (IsIntegralAt o (places.Finite l)) A.dim a)
      (TupleLattice k (IsIntegralAt o (places.Finite l)) A.dim b)
  within_at one is_one a b ha hb w x h =
      let M = fraction_laws o L in
      let r = residues o L M l sl in
      let N = remainder_laws o L l sl.irreducible in
      let R = residue_rings o L M l sl N in
      let K = fractions o L M in
      let P = IsIntegralAt o (places.Finite l) in
      let y = as_tuple k M A.dim x h.0 in
      let c = clear k M (IsPolynomialFraction o) P R.p (K.inv R.p) r N R.polynomials R.at_place (localizes o L M l sl)
      (residues_agree o L M l sl N R) A over assoc one is_one a ha y h in
      uncleared k M (IsPolynomialFraction o) P R.p (K.inv R.p) r N R.polynomials R.at_place (localizes o L M l sl)
      (residues_agree o L M l sl N R) A over assoc one is_one b hb c.0 y
      (w ((tuple_module k M A.dim).◌•◌ c.0.u y).0 c.1)

  -- an order over the polynomials is one at a place
  pub order_at : (tuples : List (List (Pair E))) → SpanOrder k A (IsPolynomialFraction o) tuples
      → SpanOrder k A (IsIntegralAt o (places.Finite l)) tuples
  order_at tuples O =
      let M = fraction_laws o L in
      let N = remainder_laws o L l sl.irreducible in
      order_at_place o L l sl M N (residue_rings o L M l sl N) A over assoc tuples O

-- ---- the places in their order

pub by_place : (Q : Place → Type 0) → ((m : List ℕ) → Q (Finite m)) → Q Infinity → (p : Place) → Q p
by_place Q a b (Finite m) = a m
by_place Q a b Infinity = b

greater_less : Greater ≡ Less → ⊥
greater_less e = cc

pub equal_less : Equal ≡ Less → ⊥
equal_less e = cc

-- ---- the factors in their order

list_cases : (a b : List ℕ) → (a ≡ b) ⊎ (a ≢ b)
list_cases a b = go (bytes_eq a b) refl
  where
    go : (t : Bool) → bytes_eq a b ≡ t → (a ≡ b) ⊎ (a ≢ b)
    go true e = inl ((bytes_eq-Decides a b).0 e)
    go false e = inr (λ q. both_ways (bytes_eq a b) e ((bytes_eq-Decides a b).1 q))

precedes_at : (a : List ℕ) (xs : Powers) → PrecedesAll a xs → (j : ℕ) (d : List ℕ × ℕ) → j < length xs
    → poly_cmp a (get_or xs j d).0 ≡ Less
precedes_at a [] h j d l = absurd (omega (arith, l))
precedes_at a (x ∷ xs) h zero d l = h.0
precedes_at a (x ∷ xs) h (suc j) d l = precedes_at a xs h.1 j d (omega (arith, l))

increasing : (o : Ops ℕ) (xs : Powers) → AreFactors o xs → (i j : ℕ) (d : List ℕ × ℕ) → i < j → j < length xs
    → poly_cmp (get_or xs i d).0 (get_or xs j d).0 ≡ Less
increasing o [] t i j d l g = absurd (omega (arith, g))
increasing o (x ∷ xs) t zero zero d l g = absurd (omega (arith, l))
increasing o (x ∷ xs) t zero (suc j) d l g = precedes_at x.0 xs t.1 j d (omega (arith, g))
increasing o (x ∷ xs) t (suc i) zero d l g = absurd (omega (arith, l))
increasing o (x ∷ xs) t (suc i) (suc j) d l g = increasing o xs t.2 i j d (omega (arith, l)) (omega (arith, g))

module _ (order : IsPolynomialOrder poly_cmp) where
  abbrev C : IsTotalOrder poly_cmp
  C = order.total

  not_before_itself : (a : List ℕ) → poly_cmp a a ≡ Less → ⊥
  not_before_itself a e = equal_less (sym (tied_itself C a) ∙ e)

  -- what comes before a factor is none from it on
  none_from : (o : Ops ℕ) (xs : Powers) → AreFactors o xs → (i : ℕ) (d : List ℕ × ℕ) → i < length xs → (m : List ℕ)
      → poly_cmp m (get_or xs i d).0 ≡ Less → IsNoFactorFrom i m xs
  none_from o xs t i d l m before j d' ij jl e =
      let e' : (get_or xs j d).0 ≡ m = ap (λ (x : List ℕ × ℕ). x.0) (get_or_default xs j d d' jl) ∙ e in
      ⊎_elim
      (λ (h : i < j). not_before_itself m (C.trans m (get_or xs i d).0 m before
      (subst (λ y. poly_cmp (get_or xs i d).0 y ≡ Less) e' (increasing o xs t i j d h jl))))
      (λ (h : j ≤ i). let q : i ≡ j = omega (arith, h, ij) in
      not_before_itself m (subst (λ y. poly_cmp m y ≡ Less)
      (ap (λ n. (get_or xs n d).0) q ∙ e') before))
      (cases_lt i j)

-- ---- the order of the moment

module _ (f : SmallField) (A : Structure (Pair ℕ)) where
  abbrev o : Ops ℕ
  o = small_ops f

  abbrev L : FieldLaws o
  L = small_laws f

  abbrev T : BasisForm ℕ → List (List (Pair ℕ))
  T = small_tuples f

  -- an order that holds the first grows to one that does
  pub larger_step : (first grown larger : BasisForm ℕ) (m : List ℕ) → IsLargerOrder f A first grown
      → IsOverorder f A m grown larger → IsLargerOrder f A first larger
  larger_step first grown larger m h g = record {
    basis = g.basis;
    order = g.order;
    within = λ x w. g.within x (h.within x w);
  }

  -- growth at a factor until the order is its own dual there takes this factor off
  pub off_step : (xs : Powers) (i : ℕ) (d : List ℕ × ℕ) (grown larger : BasisForm ℕ) → IsUnimodularOff f A i xs grown
      → IsOverorder f A (get_or xs i d).0 grown larger → IsUnimodular f A (get_or xs i d).0 larger → (n : ℕ) → n ≡ i + 1
      → IsUnimodularOff f A n xs larger
  off_step xs i d grown larger off g u n e l sl none = ⊎_elim
      (λ (q : l ≡ (get_or xs i d).0). subst (λ m. IsUnimodular f A m larger) (sym q) u)
      (λ (q : l ≢ (get_or xs i d).0). own_dual_is_kept o L A l (T grown) (T larger) (g.elsewhere l sl q)
      (off l sl (λ j d' ij jl p. ⊎_elim
      (λ (z : i ≡ j). q (sym (ap (λ (x : List ℕ × ℕ). x.0)
      (ap (λ a. get_or xs a d) z ∙ get_or_default xs j d d' jl) ∙ p)))
      (λ (z : i ≡ j → ⊥). none j d' (omega (arith, e, ij, z)) jl p)
      (cases_eq i j))))
      (list_cases l (get_or xs i d).0)

  -- once all factors are off it is its own dual at each finite place
  pub all_off : (xs : Powers) (i : ℕ) (first grown : BasisForm ℕ) → length xs ≤ i → IsLargerOrder f A first grown
      → IsUnimodularOff f A i xs grown → IsUnimodularOrder f A grown
  all_off xs i first grown l h off = record {
    basis = h.basis;
    order = h.order;
    own_dual = λ m s. off m s (λ j d ij jl. absurd (omega (arith, l, ij, jl)));
  }

  module _ (over : IsOver (fractions_over f) A) (assoc : IsAssociative (fractions_over f) A) where
    -- a lattice of an order is closed under products
    pub closed : (b : BasisForm ℕ) → SpanOrder (fractions_over f) A (IsPolynomialFraction o) (T b)
        → (let P = PolynomialLattice o L A (T b) in Within (Product (tuple_ops (fractions_over f) A) P P) P)
    closed b O x p = subst (PolynomialLattice o L A (T b)) (sym p.4)
        (let r = O.order in r.mul_in p.0 p.1 p.2 p.3)

    -- an order is its own dual at the places that are none of the factors of its denominator
    pub off_at_start : (b : BasisForm ℕ) → IsBasis o L A.dim b
        → SpanOrder (fractions_over f) A (IsPolynomialFraction o) (T b) → (d : List ℕ) → IsPolynomialList o d
        → IsGramDenominator o L A (T b) d → (c : ℕ) → c ≡ at o d (degree d) → (xs : Powers) → AreFactors o xs
        → IsMultipleOfProduct o d c xs → IsUnimodularOff f A 0 xs b
    off_at_start b B O d hd D c e xs t h m s none =
        let i = B.independent in
        let l = D.least in
        own_dual o L A over assoc (T b) i (closed b O) d hd D m s
        (no_divisor f m s d hd (nonzero_of_monic o L d l.monic) c
        (subst (IsElem o) (sym e) (at-elem o L d hd.over (degree d))) xs t h none)

    -- an order that is its own dual at a finite place
    pub unimodular_at : (m : List ℕ) → IsMonicIrreducible o m → (b : BasisForm ℕ)
        → SpanOrder (fractions_over f) A (IsPolynomialFraction o) (T b) → IsUnimodular f A m b
        → IsUnimodularAt f A (places.Finite m) (T b)
    unimodular_at m s b O u = record { order = order_at o L A over assoc m s (T b) O; own_dual = u }

    -- a factor at which the order is ramified is the first such place
    pub ramified_first : IsPolynomialOrder poly_cmp → (xs : Powers) → AreFactors o xs → (i : ℕ) (d : List ℕ × ℕ)
        → i < length xs → (grown larger radical : BasisForm ℕ) → IsMonicIrreducible o (get_or xs i d).0
        → SpanOrder (fractions_over f) A (IsPolynomialFraction o) (T grown) → IsUnimodularOff f A i xs grown
        → IsOverorder f A (get_or xs i d).0 grown larger → IsRamifiedBy f A (get_or xs i d).0 larger radical
        → IsRamifiedFirst f A (Finite (get_or xs i d).0) larger radical
    ramified_first order xs t i d l grown larger radical s O off g r =
        let m : List ℕ = (get_or xs i d).0 in
        record {
          is_place = s;
          order_basis = g.basis;
          radical_basis = r.basis;
          ramified = r.ramified;
          first = by_place (λ p. IsPlace o (place_of p) → place_cmp p (Finite m) ≡ Less
              → (tuples : List (List (Pair ℕ))) × IsUnimodularAt f A (place_of p) tuples)
              (λ p sp q. (T grown, unimodular_at p sp grown O (off p sp (none_from order o xs t i d l p q))))
              (λ _ q. absurd (greater_less q));
        }
