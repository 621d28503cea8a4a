-- What the calls give, from what their loops have done.
use Rattle.std.specs.Prelude.{◌≡◌, ◌≢◌, ℕ, suc, ◌+◌, ◌-◌, ◌<◌, ◌≤◌, List, [], ◌∷◌, length}
use Rattle.std.proofs.Common.{refl, sym, ◌∙◌, ap, ap₂, arith, ⊎_elim}
use Rattle.std.proofs.lemmas.Bool.{cases_lt}
use Rattle.std.proofs.lemmas.List.{get_or_past}
use Rattle.theory_rings.specs.Ops.{Ops, IsElem, FieldLaws}
use Rattle.theory_rings.specs.Sum.{at}
use Rattle.theory_rings.specs.Polynomial.{IsTrimmed, convolution_of, degree}
use Rattle.theory_rings.proofs.Rings.Elements.{at-elem}
use Rattle.theory_rings.proofs.Polynomials.PolynomialRing.{IsTrimmed-injective}
use Rattle.spl_poly.specs.Operations.{IsOver, IsProduct, IsDivision, IsMonicOf}
use Rattle.theory_fractions.proofs.Coefficients.{mul-past, convolution_of-past, convolution_of_congr}
use Rattle.spl_poly.proofs.Trimming.{IsTrimmed_of_last, last-ne-zero_of_pos, length_le_of_zeros}

degree-length : {X : Type 0} (xs : List X) → degree xs ≡ length xs - 1
degree-length [] = omega arith
degree-length (x ∷ xs) = omega arith

module _ {E : Type 0} (o : Ops E) (L : FieldLaws o) where
  -- the leading coefficient of a list that is not empty, and its inverse
  pub lead-inverse : (x : List E) (u : E) → IsOver o x → IsTrimmed o.zero x → 0 < length x
      → u ≡ o.inv (at o x (length x - 1))
      → o.mul u (at o x (length x - 1)) ≡ o.one
  lead-inverse x u hx tx l e =
      ap (λ y. o.mul y (at o x (length x - 1))) e
      ∙ L.inv-mul (at o x (length x - 1)) (at-elem o L x hx (length x - 1)) (last-ne-zero_of_pos o.zero x tx l)

  pub product_done : (x y out result : List E) → IsOver o x → IsOver o y → length x + length y ≤ suc (length out)
      → ((k : ℕ) → k < length out → at o out k ≡ convolution_of o (at o x) (at o y) k)
      → ((k : ℕ) → at o result k ≡ at o out k) → IsProduct o x y result
  product_done x y out result hx hy l done same k = same k ∙ ⊎_elim (done k)
      (λ (past : length out ≤ k). get_or_past out k o.zero past
      ∙ sym (convolution_of-past o L x y hx hy k (omega arith)))
      (cases_lt k (length out))

  pub division_done : (a by q q' r r' : List E) → ((k : ℕ) → at o q' k ≡ at o q k) → ((k : ℕ) → at o r' k ≡ at o r k)
      → ((k : ℕ) → o.add (convolution_of o (at o q) (at o by) k) (at o r k) ≡ at o a k)
      → IsTrimmed o.zero r' → 0 < length by → ((k : ℕ) → length by - 1 ≤ k → at o r k ≡ o.zero)
      → IsDivision o a by q' r'
  division_done a by q q' r r' sq sr whole t pos small = record {
    whole = λ k. sym (ap₂ o.add (convolution_of_congr o L (at o q') (at o by) (at o q) (at o by) sq (λ i. refl) k)
        (sr k) ∙ whole k);
    smaller = omega (arith, length_le_of_zeros o.zero r' (length by - 1) t (λ k l. sr k ∙ small k l));
  }

  pub monic_done : (x r y : List E) (u : E) → IsOver o x → IsTrimmed o.zero x → 0 < length x → IsElem o u
      → u ≡ o.inv (at o x (length x - 1))
      → length r ≡ length x → ((k : ℕ) → k < length x → at o r k ≡ o.mul u (at o x k)) → IsTrimmed o.zero y
      → ((k : ℕ) → at o y k ≡ at o r k)
      → IsMonicOf o x y
  monic_done x r y u hx tx pos hu eu len scaled ty same = record {
    same_degree = long;
    leading = ap (at o y) (degree-length y ∙ ap (λ n. n - 1) long) ∙ top;
    scaled = λ k. all k ∙ ap (λ v. o.mul v (at o x k)) (eu ∙ ap (λ n. o.inv (at o x n)) (sym (degree-length x)));
  }
    where
      all : (k : ℕ) → at o y k ≡ o.mul u (at o x k)
      all k = same k ∙ ⊎_elim (scaled k)
          (λ (l : length x ≤ k). get_or_past r k o.zero (omega arith) ∙ sym (mul-past o L x k u hu l))
          (cases_lt k (length x))

      top : at o y (length x - 1) ≡ o.one
      top = all (length x - 1) ∙ lead-inverse x u hx tx pos eu

      nonzero : at o r (length r - 1) ≢ o.zero
      nonzero e = L.one-nonzero (sym top ∙ same (length x - 1) ∙ ap (λ n. at o r (n - 1)) (sym len) ∙ e)

      long : length y ≡ length x
      long = ap length (IsTrimmed-injective o.zero y r ty (IsTrimmed_of_last o.zero r (λ l. nonzero)) same) ∙ len
