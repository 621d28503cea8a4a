-- One more product in a sum of polynomials, as fractions.
use Rattle.std.specs.Prelude.{◌≡◌, ◌<◌, ℕ, List, [], length, get_or}
use Rattle.std.proofs.Common.{sym, ◌∙◌, ap, subst}
use Rattle.std.proofs.lemmas.List.{get_or_default}
use Rattle.std.proofs.lemmas.List.Elements.{All-nil}
use Rattle.theory_rings.specs.Ops.{Ops, IsElem, FieldLaws}
use Rattle.theory_fractions.specs.PolynomialLists.{IsSum, IsProduct, IsPolynomialList}
use Rattle.theory_fractions.specs.Fraction.{Pair}
use Rattle.theory_fractions.specs.FractionOps.{fraction_ops}
use Rattle.theory_fractions.specs.CommonDenominator.{as_fraction}
use Rattle.theory_fractions.proofs.Coefficients.{add-zero_elem, mul-zero_elem, zero-mul_elem}
use Rattle.theory_fractions.proofs.FractionField.{fraction_laws}
use Rattle.theory_fractions.proofs.ElementClauses.{zero_is}
use Rattle.theory_fractions.proofs.PolynomialFractions.{as_fraction-elem, as_fraction-add, as_fraction-mul}

module _ {E : Type 0} (o : Ops E) (L : FieldLaws o) where
  abbrev K : Ops (Pair E)
  K = fraction_ops o L

  abbrev laws : FieldLaws K
  laws = fraction_laws o L

  abbrev Is : List E → Type 0
  Is = IsPolynomialList o

  pub zero_fraction : (p : List E) → p ≡ [] → as_fraction o p ≡ K.zero
  zero_fraction p e = ap (as_fraction o) e ∙ sym (zero_is o L)

  pub add_zero_product : (s a b : List E) → Is s → Is b → a ≡ []
      → as_fraction o s ≡ K.add (as_fraction o s) (K.mul (as_fraction o a) (as_fraction o b))
  add_zero_product s a b hs hb e = sym (
      ap (λ x. K.add (as_fraction o s) (K.mul x (as_fraction o b))) (zero_fraction a e)
      ∙ ap (K.add (as_fraction o s)) (zero-mul_elem K laws (as_fraction o b) (as_fraction-elem o L b hb))
      ∙ add-zero_elem K laws (as_fraction o s) (as_fraction-elem o L s hs)
      )

  pub add_product_zero : (s a b : List E) → Is s → Is a → b ≡ []
      → as_fraction o s ≡ K.add (as_fraction o s) (K.mul (as_fraction o a) (as_fraction o b))
  add_product_zero s a b hs ha e = sym (
      ap (λ x. K.add (as_fraction o s) (K.mul (as_fraction o a) x)) (zero_fraction b e)
      ∙ ap (K.add (as_fraction o s)) (mul-zero_elem K laws (as_fraction o a) (as_fraction-elem o L a ha))
      ∙ add-zero_elem K laws (as_fraction o s) (as_fraction-elem o L s hs)
      )

  pub add_product : (s a b t r : List E) → Is s → Is a → Is b → Is t → Is r → IsProduct o a b t → IsSum o s t r
      → as_fraction o r ≡ K.add (as_fraction o s) (K.mul (as_fraction o a) (as_fraction o b))
  add_product s a b t r hs ha hb ht hr product sum =
      as_fraction-add o L s t r hs ht hr sum
      ∙ ap (K.add (as_fraction o s)) (as_fraction-mul o L a b t ha hb ht product)

  pub no_polynomial : Is []
  no_polynomial = record { over = All-nil (IsElem o); trimmed = tt }

  -- an entry that was read
  pub polynomial_at : (entries : List (List E)) (p : ℕ) (x : List E) → p < length entries → x ≡ get_or entries p x
      → ((p : ℕ) → p < length entries → Is (get_or entries p [])) → Is x
  polynomial_at entries p x l e h = subst Is (sym (e ∙ get_or_default entries p x [] l)) (h p l)
