-- Multiples of units in the lattice of independent rows, as many as each has entries.
use Rattle.std.specs.Prelude.{◌≡◌, ◌≢◌, ◌<◌, ℕ, suc, Bool, true, false, List, [], ◌∷◌, ◌++◌, length, get_or, cond}
use Rattle.std.specs.Prelude.{nat_eq}
use Rattle.std.proofs.Common.{refl, sym, ◌∙◌, ap, subst, arith, length-append}
use Rattle.std.proofs.lemmas.List.Elements.{All-nil, All-cons, All-append}
use Rattle.theory_rings.specs.Ring.{FieldOn}
use Rattle.theory_rings.specs.Ops.{Ops, IsElem, FieldLaws}
use Rattle.theory_rings.specs.Elements.{Elem}
use Rattle.theory_rings.proofs.Sums.Lists.{get_or-table}
use Rattle.theory_fractions.specs.PolynomialLists.{IsProduct, IsPolynomialList}
use Rattle.theory_fractions.specs.Fraction.{Pair}
use Rattle.theory_fractions.specs.CommonDenominator.{as_fraction}
use Rattle.theory_fractions.proofs.ElementClauses.{zero_is}
use Rattle.theory_fractions.proofs.PolynomialFractions.{as_fraction-elem, as_fraction-mul}
use Rattle.theory_tables.proofs.Rows.Terms.{mul-zero}
use Rattle.theory_tables.specs.Matrix.{width_of}
use Rattle.theory_rows.specs.Rows.{IsPolynomialRow, IsPolynomialMatrix, IsLatticeBasis, InRowLattice, InRowKernel}
use Rattle.theory_rows.specs.Rows.{RowsAreIndependent}
use Rattle.theory_rows.proofs.LiftedRows.{row_at, member_in, entry-over, entry-trimmed}
use Rattle.theory_bases.proofs.FractionsOver.{K, M}
use Rattle.theory_bases.proofs.PolynomialDivisors.{fraction_field, up, product_of_fractions}
use Rattle.theory_bases.proofs.ScaledRows.{IsMultipleOf, multiple_in, last_multiple_in, kernel_nonempty, last_nonzero}
use Rattle.spl_order.specs.Values.{scaled_unit}
use Rattle.spl_order.proofs.BasisRows.{matrix-width}
use Rattle.spl_order.proofs.StartRows.{unit-row}

module _ {E : Type 0} (o : Ops E) (L : FieldLaws o) (n : ℕ) (basis : List (List (List E)))
    (hb : IsPolynomialMatrix o n basis) where
  abbrev k : Ops (Pair E)
  k = K o L

  abbrev F : FieldOn (Elem k)
  F = fraction_field o L

  abbrev Is : List E → Type 0
  Is = IsPolynomialList o

  nil-is : Is []
  nil-is = record { over = All-nil (IsElem o); trimmed = tt }

  module _ (d s r : List E) (hd : Is d) (hs : Is s) (hr : Is r) (product : IsProduct o d s r) where
    value : as_fraction o r ≡ k.mul (as_fraction o d) (as_fraction o s)
    value = as_fraction-mul o L d s r hd hs hr product

    swapped : IsProduct o s d r
    swapped = product_of_fractions o L s d r hs hd hr
        (value ∙ ap (λ (t : Elem k). t.0) (F.mul_comm (up o L d hd) (up o L s hs)))

    zero_product : IsProduct o s [] []
    zero_product = product_of_fractions o L s [] [] hs nil-is nil-is
        (sym (zero_is o L) ∙ sym (mul-zero k (M o L) (as_fraction o s) (as_fraction-elem o L s hs))
        ∙ ap (k.mul (as_fraction o s)) (zero_is o L))

    unit_multiple : (j : ℕ) → IsMultipleOf o L n basis hb s (scaled_unit d n j) (scaled_unit r n j)
    unit_multiple j t t_in =
        subst (λ x. IsProduct o s x (get_or (scaled_unit r n j) t []))
        (sym (get_or-table n (λ t. cond (nat_eq t j) d []) t [] t_in))
        (subst (IsProduct o s (cond (nat_eq t j) d [])) (sym (get_or-table n (λ t. cond (nat_eq t j) r []) t [] t_in))
        (go (nat_eq t j)))
      where
        go : (b : Bool) → IsProduct o s (cond b d []) (cond b r [])
        go true = swapped
        go false = zero_product

    pub others_in : (j : ℕ) → InRowLattice o basis (scaled_unit d n j) → InRowLattice o basis (scaled_unit r n j)
    others_in j = multiple_in o L n basis hb s hs (scaled_unit d n j) (scaled_unit r n j) (unit-row o L n d j hd)
        (unit-row o L n r j hr) (unit_multiple j)

    module _ (i : ℕ) (c : List (List E)) (hc : IsPolynomialRow o (length (basis ++ scaled_unit d n i ∷ [])) c)
        (kills : InRowKernel o (basis ++ scaled_unit d n i ∷ []) c) (e : get_or c (length basis) [] ≡ s) where
      pub unit_in : InRowLattice o basis (scaled_unit r n i)
      unit_in = last_multiple_in o L n basis hb (scaled_unit d n i) (unit-row o L n d i hd) c hc kills
          (subst Is (sym e) hs) (scaled_unit r n i) (unit-row o L n r i hr)
          (subst (λ x. IsMultipleOf o L n basis hb x (scaled_unit d n i) (scaled_unit r n i)) (sym e) (unit_multiple i))

  -- the rows and a multiple of a unit
  module _ (count : length basis ≡ n) (free : RowsAreIndependent o basis) (d : List E) (hd : Is d) (i : ℕ) where
    abbrev more : List (List (List E))
    more = basis ++ scaled_unit d n i ∷ []

    pub more-length : length more ≡ suc n
    more-length = length-append basis (scaled_unit d n i ∷ []) ∙ omega (arith, count)

    more-is : IsPolynomialMatrix o n more
    more-is = All-append (IsPolynomialRow o n) basis (scaled_unit d n i ∷ []) hb
        (All-cons (IsPolynomialRow o n) (scaled_unit d n i) [] (unit-row o L n d i hd) (All-nil (IsPolynomialRow o n)))

    pub more-wide : IsPolynomialMatrix o (width_of more) more
    more-wide = matrix-width o n more more-is

    module _ (ker : List (List (List E))) (B : IsLatticeBasis o (length more) (InRowKernel o more) ker) where
      pub relation_in : 0 < length ker
      relation_in = go ker refl
        where
          go : (q : List (List (List E))) → ker ≡ q → 0 < length ker
          go [] e = absurd (kernel_nonempty o L n basis hb (scaled_unit d n i) (unit-row o L n d i hd) ker B count e)
          go (x ∷ xs) e = omega (arith, ap length e)

      abbrev c : List (List E)
      c = get_or ker 0 []

      pub relation-row : IsPolynomialRow o (length more) c
      relation-row = row_at o L (length more) ker B.matrix 0 relation_in

      pub relation_kills : InRowKernel o more c
      relation_kills = (B.members c relation-row).1 (member_in o L (length more) ker B.matrix 0 relation_in)

      pub weight-is : Is (get_or c n [])
      weight-is = record {
        over = entry-over o L (length more) c relation-row n;
        trimmed = entry-trimmed o L (length more) c relation-row n;
      }

      pub weight_nonzero : get_or c n [] ≢ []
      weight_nonzero z = last_nonzero o L n basis hb (scaled_unit d n i) (unit-row o L n d i hd) ker B free relation_in
          (ap (λ t. get_or c t []) count ∙ z)
