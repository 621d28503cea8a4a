-- From pairs in lowest terms with a value to the operations on fractions.
use Rattle.std.specs.Prelude.{◌≡◌, ◌≢◌, [], ◌∷◌}
use Rattle.std.proofs.Common.{refl, sym, ◌∙◌, ap, subst}
use Rattle.theory_rings.specs.Ops.{Ops, IsElem, FieldLaws}
use Rattle.theory_fractions.specs.Fraction.{Pair, IsLowestTerms, IsFractionSum, IsFractionProduct, IsFractionNegative}
use Rattle.theory_fractions.specs.Fraction.{IsFractionInverse}
use Rattle.theory_fractions.specs.FractionOps.{fraction_ops}
use Rattle.theory_fractions.proofs.FractionField.{eq_zero_of_empty, fraction_laws}
use Rattle.theory_fractions.proofs.LowestTerms.{lowest_of_fraction, fraction_of_lowest}
use Rattle.theory_fractions.proofs.FractionValues.{eq_sum, eq_product, eq_negative, eq_inverse}

module _ {E : Type 0} (o : Ops E) (L : FieldLaws o) where
  abbrev K : Ops (Pair E)
  K = fraction_ops o L

  abbrev Lowest : Pair E → Type 0
  Lowest w = IsLowestTerms o w.0 w.1

  pub elem_of_lowest : (w : Pair E) → Lowest w → IsElem K w
  unfolding fraction_ops
  elem_of_lowest w h = fraction_of_lowest o L w.0 w.1 h

  pub lowest_of_elem : (w : Pair E) → IsElem K w → Lowest w
  unfolding fraction_ops
  lowest_of_elem w h = lowest_of_fraction o L w.0 w.1 h

  pub zero_is : K.zero ≡ ([], o.one ∷ [])
  unfolding fraction_ops
  zero_is = refl

  pub one_is : K.one ≡ (o.one ∷ [], o.one ∷ [])
  unfolding fraction_ops
  one_is = refl

  pub add_is : (a b w : Pair E) → IsElem K a → IsElem K b → Lowest w → IsFractionSum o a b w → w ≡ K.add a b
  unfolding fraction_ops
  add_is a b w ha hb hw s = eq_sum o L a ha b hb w (fraction_of_lowest o L w.0 w.1 hw) s

  pub mul_is : (a b w : Pair E) → IsElem K a → IsElem K b → Lowest w → IsFractionProduct o a b w → w ≡ K.mul a b
  unfolding fraction_ops
  mul_is a b w ha hb hw s = eq_product o L a ha b hb w (fraction_of_lowest o L w.0 w.1 hw) s

  pub neg_is : (a w : Pair E) → IsElem K a → Lowest w → IsFractionNegative o a w → w ≡ K.neg a
  unfolding fraction_ops
  neg_is a w ha hw s = eq_negative o L a ha w (fraction_of_lowest o L w.0 w.1 hw) s

  pub inv_is : (a w : Pair E) → IsElem K a → a.0 ≢ [] → Lowest w → IsFractionInverse o a w → w ≡ K.inv a
  unfolding fraction_ops
  inv_is a w ha n hw s = eq_inverse o L a ha n w (fraction_of_lowest o L w.0 w.1 hw) s

  -- a fraction is 0 where it has no numerator
  pub eq_zero : (a : Pair E) → IsElem K a → a.0 ≡ [] → a ≡ K.zero
  unfolding fraction_ops
  eq_zero a ha e = eq_zero_of_empty o L a ha e

  pub ne_zero : (a : Pair E) → a.0 ≢ [] → a ≢ K.zero
  unfolding fraction_ops
  ne_zero a n e = n (ap (λ x. x.0) e)

  pub zero_elem : (w : Pair E) → w ≡ ([], o.one ∷ []) → IsElem K w
  zero_elem w e = let M = fraction_laws o L in subst (IsElem K) (zero_is ∙ sym e) M.zero-elem

  pub one_elem : (w : Pair E) → w ≡ (o.one ∷ [], o.one ∷ []) → IsElem K w
  one_elem w e = let M = fraction_laws o L in subst (IsElem K) (one_is ∙ sym e) M.one-elem
