-- The least denominator of the inverse Gram matrix of a lattice over the polynomials that is closed under products tells
-- the finite places at which it is not its own dual for the trace form. (Reiner, Maximal Orders, sections 10 and 25.)
use Rattle.std.specs.Prelude.{◌↔◌, ◌⊎◌, ℕ, ◌<◌, List, [], length, get_or}
use Rattle.std.specs.List.{All}
use Rattle.std.proofs.Common.{◌∙◌, ap₂, subst, arith, inl, inr, ⊎_elim}
use Rattle.std.proofs.lemmas.List.Elements.{All-from_get_or}
use Rattle.theory_rings.specs.Ring.{FieldOn}
use Rattle.theory_rings.specs.Ops.{Ops, IsElem, FieldLaws}
use Rattle.theory_rings.specs.Elements.{Elem, elements}
use Rattle.theory_rings.proofs.Polynomials.Irreducible.{irreducible-ne-zero, divides_or}
use Rattle.theory_fractions.specs.PolynomialLists.{IsPolynomialList, Divides}
use Rattle.theory_fractions.specs.Fraction.{Pair}
use Rattle.theory_fractions.specs.FractionOps.{polynomial_of}
use Rattle.theory_fractions.proofs.CommonDenominators.{poly_divides, divides_of_poly}
use Rattle.theory_spaces.specs.Lattice.{IsSubring}
use Rattle.theory_spaces.specs.Sets.{Within, Product}
use Rattle.theory_spaces.specs.Tuples.{Tuple}
use Rattle.theory_remainders.proofs.RemainderField.{remainder_laws}
use Rattle.theory_places.specs.Places.{Finite}
use Rattle.theory_places.specs.FractionPlaces.{IsIntegralAt, IsMonicIrreducible}
use Rattle.theory_places.proofs.FractionPlaces.{is_place_of}
use Rattle.theory_tables.specs.Structure.{Structure, IsOver, IsAssociative, tuple_ops}
use Rattle.theory_tables.proofs.Algebras.Bridge.{row, row-is}
use Rattle.theory_bases.specs.TupleLattices.{TupleLattice, AreIndependentTuples, IsTraceDualOfItself, trace_of_product}
use Rattle.theory_bases.specs.Bases.{IsPolynomialFraction}
use Rattle.theory_bases.specs.Grams.{gram_entry, IsGramDenominator}
use Rattle.theory_bases.proofs.FractionsOver.{K, M}
use Rattle.theory_bases.proofs.PolynomialWeights.{polynomials_are_subring}
use Rattle.theory_bases.proofs.TraceForms.{form, form-is}
use Rattle.theory_left_orders.proofs.FractionResidues.{poly_loc, residue_rings}
use Rattle.theory_left_orders.proofs.GramDuals.{gram_in, own_dual_of_inverse, inverse_of_own_dual}
use Rattle.theory_left_orders.proofs.PlaceDenominators.{all_integral, off_denominator}

module _ {E : Type 0} (o : Ops E) (L : FieldLaws o) (A : Structure (Pair E)) (over : IsOver (K o L) A)
    (assoc : IsAssociative (K o L) A) (rows : List (List (Pair E))) (free : AreIndependentTuples (K o L) A.dim rows)
    (closed : (let T = TupleLattice (K o L) (IsPolynomialFraction o) A.dim rows in
    Within (Product (tuple_ops (K o L) A) T T) T))
    (d : List E) (hd : IsPolynomialList o d) (D : IsGramDenominator o L A rows d) where
  abbrev k : Ops (Pair E)
  k = K o L

  abbrev laws : FieldLaws k
  laws = M o L

  abbrev dim : ℕ
  dim = A.dim

  gram-elem : (i j : ℕ) → i < dim → j < dim → IsElem k (gram_entry k A rows i j)
  gram-elem i j i_in j_in =
      let v : ℕ → Tuple k dim = row k laws dim rows free.shape in
      subst (IsElem k) (form-is k laws A over.of_elements assoc (v i) (v j)
      ∙ ap₂ (trace_of_product k A)
      (row-is k laws dim rows free.shape i (let e = free.count in omega (arith, i_in, e)))
      (row-is k laws dim rows free.shape j (let e = free.count in omega (arith, j_in, e))))
      (form k laws A over.of_elements assoc (v i) (v j)).1

  inverse-elems : All (All (IsElem k)) D.inverse
  inverse-elems i x l = let t = D.is_inverse.shape i x l in t.of_elements

  module _ (m : List E) (s : IsMonicIrreducible o m) where
    abbrev IsLoc : Pair E → Type 0
    IsLoc = IsIntegralAt o (Finite m)

    subring : IsSubring (elements k laws).ring (λ w. IsLoc w.0)
    subring = let R = residue_rings o L laws m s (remainder_laws o L m s.irreducible) in R.at_place.subring

    gram_loc : (i j : ℕ) → i < dim → j < dim → IsLoc (gram_entry k A rows i j)
    gram_loc i j i_in j_in = poly_loc o L laws m s (gram_entry k A rows i j, gram-elem i j i_in j_in)
        (gram_in k laws (IsPolynomialFraction o) (polynomials_are_subring o L) A over assoc rows free closed i j i_in
        j_in)

    pub own_dual : (Divides o m d → ⊥) → IsTraceDualOfItself k A IsLoc rows
    own_dual n =
        let I = D.is_inverse in
        own_dual_of_inverse k laws IsLoc subring A over assoc rows free D.inverse I gram_loc (λ i j i_in j_in.
        let l : i < length D.inverse = omega (arith, i_in, I.count) in
        let t = I.shape i [] l in
        all_integral o L m s D.inverse inverse-elems d hd D.least n i [] l j k.zero
        (omega (arith, j_in, t.right_length)))

    no_divisor : IsTraceDualOfItself k A IsLoc rows → Divides o m d → ⊥
    no_divisor h =
        let I = D.is_inverse in
        off_denominator o L m s D.inverse inverse-elems d hd D.least
        (All-from_get_or (All IsLoc) D.inverse [] (λ i l.
        let t = I.shape i [] l in
        All-from_get_or IsLoc (get_or D.inverse i []) k.zero (λ j g.
        inverse_of_own_dual k laws IsLoc subring A over assoc rows free D.inverse I h i j (omega (arith, l, I.count))
        (omega (arith, g, t.right_length)))))

    divides_cases : Divides o m d ⊎ (Divides o m d → ⊥)
    divides_cases =
        let F : FieldOn (Elem o) = elements o L in
        let p = polynomial_of o L m in
        let q = polynomial_of o L d in
        let hm = s.polynomial in
        ⊎_elim (λ y. inl (divides_of_poly o L m d hm.over hd.over y))
        (λ n. inr (λ y. n (poly_divides o L m d hm.over hd.over y)))
        (divides_or F p q (irreducible-ne-zero F p (is_place_of o L (Finite m) s).1))

    -- a place divides the denominator exactly where the lattice is not its own dual there
    pub divisor_not_own_dual : Divides o m d ↔ (IsTraceDualOfItself k A IsLoc rows → ⊥)
    divisor_not_own_dual = (
      λ y h. no_divisor h y,
      λ n. ⊎_elim (λ (y : Divides o m d). y) (λ (z : Divides o m d → ⊥). absurd (n (own_dual z))) divides_cases,
    )
