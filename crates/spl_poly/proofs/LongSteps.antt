-- The steps of the long division, on lists over a program's field.
use Rattle.std.specs.Prelude.{◌≡◌, ℕ, suc, ◌+◌, ◌-◌, ◌<◌, ◌≤◌, List, length}
use Rattle.std.specs.List.{All}
use Rattle.std.proofs.Common.{sym, ◌∙◌, ap, ap₂, arith, ⊎_elim, set}
use Rattle.std.proofs.lemmas.Bool.{cases_lt}
use Rattle.std.proofs.lemmas.List.{get_or-set_same, get_or-set_other}
use Rattle.theory_rings.specs.Ring.{FieldOn}
use Rattle.theory_rings.specs.Ops.{Ops, IsElem, FieldLaws}
use Rattle.theory_rings.specs.Elements.{Elem, Elem-path, elements}
use Rattle.theory_rings.specs.Sum.{at}
use Rattle.theory_rings.specs.Polynomial.{convolution_of}
use Rattle.theory_rings.proofs.Rings.Elements.{at-elem}
use Rattle.theory_rings.proofs.Polynomials.ElementLists.{convolution_of-elements}
use Rattle.theory_rings.proofs.Polynomials.LongDivision.{division_step, division_clears}
use Rattle.theory_fractions.proofs.Coefficients.{mul-past, add-zero_elem}

module _ {E : Type 0} (o : Ops E) (L : FieldLaws o) where
  abbrev F : FieldOn (Elem o)
  F = elements o L

  -- the coefficients as elements
  abbrev pub series_of : (xs : List E) → All (IsElem o) xs → ℕ → Elem o
  series_of xs h k = (at o xs k, at-elem o L xs h k)

  -- c written at s into the quotient and c · by taken from the rest, s places up, keep quotient · by + rest
  pub step_whole : (q q' r r' by : List E) (hq : All (IsElem o) q) (hq' : All (IsElem o) q') (hr : All (IsElem o) r)
      (hr' : All (IsElem o) r') (hb : All (IsElem o) by)
      (s : ℕ) (c : E) → IsElem o c → q' ≡ set q s c → s < length q → at o q s ≡ o.zero
      → ((k : ℕ) → k < s → at o r' k ≡ at o r k)
      → ((j : ℕ) → at o r' (s + j) ≡ o.add (at o r (s + j)) (o.mul (o.neg c) (at o by j)))
      → (k : ℕ) → o.add (convolution_of o (at o q') (at o by) k) (at o r' k) ≡ o.add
      (convolution_of o (at o q) (at o by) k) (at o r k)
  step_whole q q' r r' by hq hq' hr hr' hb s c hc e inside low kept added k =
      ap (λ x. o.add x (at o r' k)) (convolution_of-elements o L fq' fb k)
      ∙ ap (λ x. x.0) (division_step F.cring s (c, hc) fq fq' fr fr' fb
      (Elem-path o (fq s) F.zero low)
      (Elem-path o (fq' s) (c, hc) (ap (λ l. at o l s) e ∙ get_or-set_same q s c o.zero inside))
      (λ i n. Elem-path o (fq' i) (fq i) (ap (λ l. at o l i) e ∙ get_or-set_other q s i c o.zero n))
      (λ i l. Elem-path o (fr' i) (fr i) (kept i l))
      (λ j. Elem-path o (fr' (s + j)) (F.◌⊕◌ (fr (s + j)) (F.◌⊗◌ (F.neg (c, hc)) (fb j))) (added j)) k)
      ∙ ap (λ x. o.add x (at o r k)) (sym (convolution_of-elements o L fq fb k))
    where
      fq : ℕ → Elem o
      fq = series_of q hq

      fq' : ℕ → Elem o
      fq' = series_of q' hq'

      fr : ℕ → Elem o
      fr = series_of r hr

      fr' : ℕ → Elem o
      fr' = series_of r' hr'

      fb : ℕ → Elem o
      fb = series_of by hb

  -- the step clears the highest coefficient
  pub step_clears : (top l u : E) → IsElem o top → IsElem o l → IsElem o u → o.mul l u ≡ o.one
      → o.add top (o.mul (o.neg (o.mul top u)) l) ≡ o.zero
  step_clears top l u ht hl hu e =
      ap (λ x. x.0) (division_clears F.cring (top, ht) (l, hl) (u, hu) (Elem-path o (F.◌⊗◌ (l, hl) (u, hu)) F.one e))

  pub step_small : (r r' by : List E) (s : ℕ) (u : E) → All (IsElem o) r → All (IsElem o) by → IsElem o u
      → 0 < length by
      → o.mul (at o by (length by - 1)) u ≡ o.one
      → ((j : ℕ) → at o r' (s + j) ≡ o.add (at o r (s + j))
      (o.mul (o.neg (o.mul (at o r (s + (length by - 1))) u)) (at o by j)))
      → ((k : ℕ) → suc s + (length by - 1) ≤ k → at o r k ≡ o.zero)
      → (k : ℕ) → s + (length by - 1) ≤ k → at o r' k ≡ o.zero
  step_small r r' by s u hr hb hu pos unit added high k le =
      ap (at o r') place ∙ added (k - s) ∙ ⊎_elim past here (cases_lt (length by - 1) (k - s))
    where
      place : k ≡ s + (k - s)
      place = omega arith

      top : E
      top = at o r (s + (length by - 1))

      htop : IsElem o top
      htop = at-elem o L r hr (s + (length by - 1))

      hc : IsElem o (o.neg (o.mul top u))
      hc = L.neg-elem (o.mul top u) (L.mul-elem top u htop hu)

      past : length by - 1 < k - s
          → o.add (at o r (s + (k - s))) (o.mul (o.neg (o.mul top u)) (at o by (k - s))) ≡ o.zero
      past l =
          ap₂ o.add (high (s + (k - s)) (omega arith)) (mul-past o L by (k - s) (o.neg (o.mul top u)) hc (omega arith))
          ∙ add-zero_elem o L o.zero L.zero-elem

      here : k - s ≤ length by - 1
          → o.add (at o r (s + (k - s))) (o.mul (o.neg (o.mul top u)) (at o by (k - s))) ≡ o.zero
      here l =
          let e : k - s ≡ length by - 1 = omega arith in
          ap (λ i. o.add (at o r (s + i)) (o.mul (o.neg (o.mul top u)) (at o by i))) e
          ∙ step_clears top (at o by (length by - 1)) u htop (at-elem o L by hb (length by - 1)) hu unit
