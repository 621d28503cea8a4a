-- From remainders on lists to the operations of the residue field.
use Rattle.std.specs.Prelude.{◌≡◌, ◌≢◌, ℕ, List, [], ◌∷◌}
use Rattle.std.proofs.Common.{sym, ◌∙◌, ap, subst}
use Rattle.theory_rings.specs.Ops.{Ops, IsElem, FieldLaws}
use Rattle.theory_rings.specs.Sum.{at}
use Rattle.theory_rings.specs.Polynomial.{convolution_of}
use Rattle.theory_fractions.specs.PolynomialLists.{IsSum, IsPolynomialList}
use Rattle.theory_remainders.specs.Irreducible.{IsIrreducible}
use Rattle.theory_remainders.specs.RemainderLaws.{IsRemainder, IsRemainderOf}
use Rattle.theory_remainders.proofs.RemainderField.{is_remainder-nil, is_remainder-one}
use Rattle.theory_remainders.proofs.RemainderValues.{elem_of, of_elem, zero_is, one_is, add_is, neg_smaller, neg_is}
use Rattle.theory_remainders.proofs.RemainderValues.{mul_is}
use Rattle.theory_remainders.proofs.RemainderValues.{inv_is}
use Rattle.spl_field.specs.SmallField.{small_ops, small_laws}
use Rattle.spl_field.specs.declared.small.SmallField.{SmallField}
use Rattle.spl_residue.specs.ResidueOver.{residues_over}

module _ (f : SmallField) (m : List ℕ) (i : IsIrreducible (small_ops f) m) where
  abbrev o : Ops ℕ
  o = small_ops f

  abbrev L : FieldLaws (small_ops f)
  L = small_laws f

  abbrev ops : Ops (List ℕ)
  ops = residues_over f m i

  pub remainder_of_elem : (a p : List ℕ) → p ≡ a → IsElem ops a → IsRemainder o m p
  remainder_of_elem a p e h = subst (IsRemainder o m) (sym e) (of_elem o L m i a h)

  pub elem_of_remainder : (w r : List ℕ) → r ≡ w → IsRemainder o m w → IsElem ops r
  elem_of_remainder w r e h = subst (IsElem ops) (sym e) (elem_of o L m i w h)

  pub zero_elem : (w r : List ℕ) → r ≡ w → w ≡ [] → IsElem ops r
  zero_elem w r e z = subst (IsElem ops) (sym (e ∙ z)) (elem_of o L m i [] (is_remainder-nil o L m i))

  pub zero_value : (w r : List ℕ) → r ≡ w → w ≡ [] → r ≡ ops.zero
  zero_value w r e z = e ∙ z ∙ sym (zero_is o L m i)

  pub one_elem : (w r : List ℕ) → r ≡ w → w ≡ 1 ∷ [] → IsElem ops r
  one_elem w r e z = subst (IsElem ops) (sym (e ∙ z)) (elem_of o L m i (1 ∷ []) (is_remainder-one o L m i))

  pub one_value : (w r : List ℕ) → r ≡ w → w ≡ 1 ∷ [] → r ≡ ops.one
  one_value w r e z = e ∙ z ∙ sym (one_is o L m i)

  pub sum_value : (a b p q w r : List ℕ) → p ≡ a → q ≡ b → r ≡ w → IsElem ops a → IsElem ops b → IsRemainder o m w
      → IsSum o p q w
      → r ≡ ops.add a b
  sum_value a b p q w r ep eq er ha hb hw s =
      er ∙ add_is o L m i a b w (of_elem o L m i a ha) (of_elem o L m i b hb) hw
      (subst (λ x. IsSum o x b w) ep (subst (λ y. IsSum o p y w) eq s))

  pub negative_elem : (a p w r : List ℕ) → p ≡ a → r ≡ w → IsElem ops a → IsPolynomialList o w
      → ((k : ℕ) → at o w k ≡ o.neg (at o p k))
      → IsElem ops r
  negative_elem a p w r ep er ha hw s =
      elem_of_remainder w r er (neg_smaller o L m i p w (remainder_of_elem a p ep ha) hw s)

  pub negative_value : (a p w r : List ℕ) → p ≡ a → r ≡ w → IsElem ops a → IsPolynomialList o w
      → ((k : ℕ) → at o w k ≡ o.neg (at o p k))
      → r ≡ ops.neg a
  negative_value a p w r ep er ha hw s =
      let hp = remainder_of_elem a p ep ha in
      er ∙ neg_is o L m i p w hp (neg_smaller o L m i p w hp hw s) s ∙ ap ops.neg ep

  pub product_value : (a b p q w r : List ℕ) → p ≡ a → q ≡ b → r ≡ w → IsElem ops a → IsElem ops b → IsRemainder o m w
      → IsRemainderOf o (convolution_of o (at o p) (at o q)) m w
      → r ≡ ops.mul a b
  product_value a b p q w r ep eq er ha hb hw s =
      er ∙ mul_is o L m i p q w (remainder_of_elem a p ep ha) (remainder_of_elem b q eq hb) hw s
      ∙ ap (λ x. ops.mul x q) ep ∙ ap (ops.mul a) eq

  pub eq_zero : (a p : List ℕ) → p ≡ a → p ≡ [] → a ≡ ops.zero
  eq_zero a p e z = sym e ∙ z ∙ sym (zero_is o L m i)

  pub ne_zero : (a p : List ℕ) → p ≡ a → p ≢ [] → a ≢ ops.zero
  ne_zero a p e n z = n (e ∙ z ∙ zero_is o L m i)

  pub inverse_value : (a p w r : List ℕ) → p ≡ a → r ≡ w → IsElem ops a → p ≢ [] → IsRemainder o m w
      → IsRemainderOf o (convolution_of o (at o w) (at o p)) m (1 ∷ [])
      → r ≡ ops.inv a
  inverse_value a p w r ep er ha n hw s =
      er ∙ inv_is o L m i p w (remainder_of_elem a p ep ha) n hw s ∙ ap ops.inv ep
