-- The least denominator of the tuples of rows of polynomials over a denominator, by a common divisor that these combine
-- to, and the rows by which the same tuples stand over it.
use Rattle.std.specs.Prelude.{◌≡◌, ◌≢◌, ◌<◌, ℕ, List, [], length, get_or, map}
use Rattle.std.specs.List.{All}
use Rattle.std.proofs.Common.{refl, sym, ◌∙◌, ap, subst, arith, ext_get_or}
use Rattle.std.proofs.lemmas.List.{length-map, get_or-map}
use Rattle.std.proofs.lemmas.List.Elements.{All-get_or, All-from_get_or}
use Rattle.theory_rings.specs.Ring.{FieldOn}
use Rattle.theory_rings.specs.Ops.{Ops, IsElem, FieldLaws}
use Rattle.theory_rings.specs.Elements.{Elem, Elem-path}
use Rattle.theory_rings.specs.Sum.{at, sum_of}
use Rattle.theory_rings.specs.Polynomial.{degree}
use Rattle.theory_rings.proofs.Rings.Elements.{sum_of-elements}
use Rattle.theory_rings.proofs.Rings.Solver.{◌⊠◌, ring3, ring4}
use Rattle.theory_rings.proofs.Sums.Sums.{sum_congr, mul-sum}
use Rattle.theory_fractions.specs.PolynomialLists.{Divides, IsPolynomialList}
use Rattle.theory_fractions.specs.Fraction.{Pair}
use Rattle.theory_fractions.specs.CommonDenominator.{as_fraction, Clears}
use Rattle.theory_spaces.proofs.Linear.LatticeSpans.{sum_in}
use Rattle.theory_rows.specs.Rows.{IsPolynomialRow, IsPolynomialMatrix}
use Rattle.theory_rows.proofs.LiftedRows.{matrix-over, matrix-trimmed}
use Rattle.theory_bases.specs.Bases.{IsPolynomialFraction, IsDenominatorOf, fraction_over, tuples_of}
use Rattle.theory_bases.proofs.Clearing.{polynomial_of_clears}
use Rattle.theory_bases.proofs.FractionsOver.{K, M, inverse, inverse-elem, inverse-mul, over-elem, mul-over}
use Rattle.theory_bases.proofs.FractionsOver.{over_of_multiple}
use Rattle.theory_bases.proofs.PolynomialDivisors.{fraction_field, up, divides_of_fractions, clears_of_fraction}
use Rattle.theory_bases.proofs.PolynomialDivisors.{quotient_of_divides, fraction_product, IsUnitMultiple}
use Rattle.theory_bases.proofs.PolynomialDivisors.{trimmed, trimmed_is, clears_trimmed, divides_of_trimmed}
use Rattle.theory_bases.proofs.PolynomialWeights.{numerator-is, polynomial-is, polynomials_are_subring}

module _ {E : Type 0} (o : Ops E) (L : FieldLaws o) (w : ℕ) (c : List E) (rows : List (List (List E)))
    (hc : IsPolynomialList o c) (nonzero : c ≢ []) (hr : IsPolynomialMatrix o w rows) where
  abbrev k : Ops (Pair E)
  k = K o L

  abbrev Is : List E → Type 0
  Is = IsPolynomialList o

  abbrev IsP : Pair E → Type 0
  IsP = IsPolynomialFraction o

  abbrev entry_of : List (List (List E)) → ℕ → ℕ → List E
  entry_of xs i j = get_or (get_or xs i []) j []

  -- what takes c and all entries to polynomials takes h to one
  abbrev pub CombinesTo : List E → Type 0
  CombinesTo h = (x : Pair E) → IsElem k x → IsP (k.mul x (as_fraction o c))
      → ((i j : ℕ) → i < length rows → j < w → IsP (k.mul x (as_fraction o (entry_of rows i j))))
      → IsP (k.mul x (as_fraction o h))

  abbrev F : FieldOn (Elem k)
  F = fraction_field o L

  abbrev T : List (List (Pair E))
  T = tuples_of o L (record { denominator = c; numerators = rows })

  abbrev over : List E → Pair E
  over = fraction_over o L c

  rows-is : (i j : ℕ) → Is (entry_of rows i j)
  rows-is i j = record { over = matrix-over o L w rows hr i j; trimmed = matrix-trimmed o L w rows hr i j }

  abbrev uc : Elem k
  uc = up o L c hc

  abbrev ic : Elem k
  ic = (inverse o L c hc nonzero, inverse-elem o L c hc nonzero)

  -- what holds of all fractions of the tuples
  pub all_items : (Q : Pair E → Type 0) → ((i j : ℕ) → i < length rows → j < w → Q (over (entry_of rows i j)))
      → All (All Q) T
  all_items Q q = All-from_get_or (All Q) T [] (λ i l.
      let inside : i < length rows = omega (arith, l, length-map rows (map over)) in
      let row = get_or rows i [] in
      let rb = All-get_or (IsPolynomialRow o w) rows i [] inside hr in
      subst (All Q) (sym (get_or-map (map over) rows i [] [] inside))
      (All-from_get_or Q (map over row) ([], []) (λ j m.
      let within : j < length row = omega (arith, m, length-map row over) in
      subst Q (sym (get_or-map over row j [] ([], []) within))
      (q i j inside (omega (arith, within, rb.width))))))

  pub item_of_all : (Q : Pair E → Type 0) → All (All Q) T → (i j : ℕ) → i < length rows → j < w
      → Q (over (entry_of rows i j))
  item_of_all Q q i j inside j_in =
      let row = get_or rows i [] in
      let rb = All-get_or (IsPolynomialRow o w) rows i [] inside hr in
      let within : j < length row = omega (arith, j_in, rb.width) in
      subst Q (get_or-map over row j [] ([], []) within)
      (All-get_or Q (map over row) j ([], []) (omega (arith, within, length-map row over))
      (subst (All Q) (get_or-map (map over) rows i [] [] inside)
      (All-get_or (All Q) T i [] (omega (arith, inside, length-map rows (map over))) q)))

  over-is : (i j : ℕ) → IsElem k (over (entry_of rows i j))
  over-is i j = over-elem o L c hc nonzero (entry_of rows i j) (rows-is i j)

  module _ (e h : List E) (he : Is e) (hh : Is h) (split : as_fraction o c ≡ k.mul (as_fraction o h) (as_fraction o e))
    where
      abbrev ue : Elem k
      ue = up o L e he

      abbrev uh : Elem k
      uh = up o L h hh

      -- h·e over c is 1
      cancel : F.◌⊗◌ (F.◌⊗◌ uh ue) ic ≡ F.one
      cancel = Elem-path k (F.◌⊗◌ (F.◌⊗◌ uh ue) ic) F.one
          (ap (λ t. k.mul t ic.0) (sym split) ∙ ap (λ (t : Elem k). t.0) (F.mul_comm uc ic)
          ∙ inverse-mul o L c hc nonzero)

      -- where h divides c and all entries, and these combine to h, c / h is the least denominator
      pub least_denominator : at o e (degree e) ≡ o.one → CombinesTo h
          → ((i j : ℕ) → i < length rows → j < w → Divides o h (entry_of rows i j)) → IsDenominatorOf o T e
      least_denominator monic combines divides = record {
        monic = monic;
        clears = all_items (Clears o e) (λ i j i_in j_in.
            let u = entry_of rows i j in
            let q = quotient_of_divides o L h u hh (rows-is i j) (divides i j i_in j_in) in
            let uv = up o L q.0 q.1 in
            clears_of_fraction o L e q.0 (over u) he q.1 (over-is i j) (sym (
            ap (λ t. k.mul (as_fraction o e) (k.mul t ic.0)) q.2
            ∙ ap (λ (t : Elem k). t.0) (
            ring4 F.cring (λ e v h i. (e ⊠ (v ⊠ h ⊠ i), v ⊠ ((h ⊠ e) ⊠ i))) refl ue uv uh ic
            ∙ ap (F.◌⊗◌ uv) cancel ∙ F.mul_comm uv F.one ∙ F.one-mul uv))));
        least = λ d hd all.
            let b = trimmed o L d in
            let hb = trimmed_is o L d in
            let ub = up o L b hb in
            let x : Elem k = F.◌⊗◌ ub ic in
            let x_c : (F.◌⊗◌ x uc).0 ≡ as_fraction o b =
            ap (λ (t : Elem k). t.0) (F.mul_assoc ub ic uc)
            ∙ ap (k.mul (as_fraction o b)) (inverse-mul o L c hc nonzero)
            ∙ ap (λ (t : Elem k). t.0) (F.mul_comm ub F.one ∙ F.one-mul ub) in
            let in_h : IsP (F.◌⊗◌ x uh).0 = combines x.0 x.1 (subst IsP (sym x_c) refl) (λ i j i_in j_in.
            let u = entry_of rows i j in
            subst IsP
            (ap (λ (t : Elem k). t.0) (ring3 F.cring (λ b u i. (b ⊠ (u ⊠ i), (b ⊠ i) ⊠ u)) refl ub
            (up o L u (rows-is i j)) ic))
            (polynomial_of_clears o L b (over u) hb (over-is i j)
            (clears_trimmed o L d (over u) hd (item_of_all (Clears o d) all i j i_in j_in)))) in
            let y = F.◌⊗◌ x uh in
            divides_of_trimmed o L e d hd (divides_of_fractions o L e b y.0.0 he hb (numerator-is o L y.0 y.1)
            (sym x_c
            ∙ ap (k.mul x.0) split
            ∙ ap (λ (t : Elem k). t.0) (sym (F.mul_assoc x uh ue))
            ∙ ap (λ t. k.mul t (as_fraction o e)) (polynomial-is o L y.0 in_h)));
      }

      -- where e is the least denominator, h divides all entries
      pub divides_entries : IsDenominatorOf o T e → (i j : ℕ) → i < length rows → j < w → Divides o h (entry_of rows i j)
      divides_entries D i j i_in j_in =
          let u = entry_of rows i j in
          let uu = up o L u (rows-is i j) in
          let x : Elem k = (over u, over-is i j) in
          let y : Elem k = F.◌⊗◌ ue x in
          let in_p : IsP y.0 =
          polynomial_of_clears o L e (over u) he (over-is i j) (item_of_all (Clears o e) D.clears i j i_in j_in) in
          divides_of_fractions o L h u y.0.0 hh (rows-is i j) (numerator-is o L y.0 y.1)
          (ap (λ (t : Elem k). t.0) (
          sym (ap (F.◌⊗◌ uu) cancel ∙ F.mul_comm uu F.one ∙ F.one-mul uu)
          ∙ ring4 F.cring (λ u h e i. (u ⊠ ((h ⊠ e) ⊠ i), (e ⊠ (u ⊠ i)) ⊠ h)) refl uu uh ue ic)
          ∙ ap (λ t. k.mul t (as_fraction o h)) (polynomial-is o L y.0 in_p))

      -- the quotients of all entries by h
      module _ (ne : e ≢ []) (new : List (List (List E))) (hn : IsPolynomialMatrix o w new)
          (count : length new ≡ length rows) (each : (i j : ℕ) → i < length rows → j < w
          → as_fraction o (entry_of rows i j) ≡ k.mul (as_fraction o h) (as_fraction o (entry_of new i j))) where
        new-is : (i j : ℕ) → Is (entry_of new i j)
        new-is i j = record { over = matrix-over o L w new hn i j; trimmed = matrix-trimmed o L w new hn i j }

        item_same : (i j : ℕ) → i < length rows → j < w
            → over (entry_of rows i j) ≡ fraction_over o L e (entry_of new i j)
        item_same i j i_in j_in =
            let v = entry_of new i j in
            over_of_multiple o L c hc nonzero (entry_of rows i j) (fraction_over o L e v)
            (over-elem o L e he ne v (new-is i j))
            (each i j i_in j_in
            ∙ ap (k.mul (as_fraction o h)) (sym (mul-over o L e he ne v (new-is i j)))
            ∙ ap (λ (t : Elem k). t.0)
            (sym (F.mul_assoc uh ue (fraction_over o L e v, over-elem o L e he ne v (new-is i j))))
            ∙ ap (λ t. k.mul t (fraction_over o L e v)) (sym split))

        row_same : (i : ℕ) → i < length rows
            → map over (get_or rows i []) ≡ map (fraction_over o L e) (get_or new i [])
        row_same i i_in =
            let a = get_or rows i [] in
            let b = get_or new i [] in
            let ra = All-get_or (IsPolynomialRow o w) rows i [] i_in hr in
            let rb = All-get_or (IsPolynomialRow o w) new i [] (omega (arith, i_in, count)) hn in
            let g = fraction_over o L e in
            ext_get_or k.zero (map over a) (map g b)
            (length-map a over ∙ ra.width ∙ sym (length-map b g ∙ rb.width)) (λ j l.
            let j_in : j < w = omega (arith, l, length-map a over, ra.width) in
            get_or-map over a j [] k.zero (omega (arith, j_in, ra.width))
            ∙ item_same i j i_in j_in
            ∙ sym (get_or-map g b j [] k.zero (omega (arith, j_in, rb.width))))

        -- over e they are the same tuples
        pub divided_tuples : tuples_of o L (record { denominator = e; numerators = new }) ≡ T
        divided_tuples =
            let f = map over in
            let g = map (fraction_over o L e) in
            ext_get_or [] (map g new) (map f rows) (length-map new g ∙ count ∙ sym (length-map rows f)) (λ i l.
            let inside : i < length new = omega (arith, l, length-map new g) in
            let i_in : i < length rows = omega (arith, inside, count) in
            get_or-map g new i [] [] inside ∙ sym (row_same i i_in)
            ∙ sym (get_or-map f rows i [] [] i_in))

  -- a polynomial that is combined from c and entries
  pub combines_of_sum : (g : List E) (n : ℕ) (multiplier item : ℕ → List E) → ((i : ℕ) → Is (multiplier i))
      → ((i : ℕ) → Is (item i))
      → as_fraction o g ≡ sum_of k n (λ i. k.mul (as_fraction o (multiplier i)) (as_fraction o (item i)))
      → ((Q : List E → Type 0) → Q c → ((i j : ℕ) → i < length rows → j < w → Q (entry_of rows i j))
      → (i : ℕ) → i < n → Q (item i)) → CombinesTo g
  combines_of_sum g n multiplier item hm hi e each x hx in_c in_rows =
      let u : Elem k = (x, hx) in
      let m : ℕ → Elem k = λ i. up o L (multiplier i) (hm i) in
      let t : ℕ → Elem k = λ i. up o L (item i) (hi i) in
      let f : ℕ → Elem k = λ i. F.◌⊗◌ (m i) (F.◌⊗◌ u (t i)) in
      subst IsP (sym (ap (k.mul x) (e ∙ sum_of-elements k (M o L) n (λ i. F.◌⊗◌ (m i) (t i)))
      ∙ ap (λ (z : Elem k). z.0) (mul-sum F.ring n u (λ i. F.◌⊗◌ (m i) (t i))
      ∙ sum_congr F.monoid n (λ i. F.◌⊗◌ u (F.◌⊗◌ (m i) (t i))) f
      (λ i _. ring3 F.cring (λ u m t. (u ⊠ (m ⊠ t), m ⊠ (u ⊠ t))) refl u (m i) (t i)))))
      (sum_in F (λ z. IsP z.0) (polynomials_are_subring o L) n f (λ i l.
      let S = polynomials_are_subring o L in
      S.mul_in (m i) (F.◌⊗◌ u (t i)) refl (each (λ y. IsP (k.mul x (as_fraction o y))) in_c in_rows i l)))

  -- the quotient of c by a common divisor to which all combines, made monic
  pub denominator_by_divisor : (g q e : List E) → Is g → Is q → Is e
      → as_fraction o c ≡ k.mul (as_fraction o q) (as_fraction o g) → IsUnitMultiple o L q e
      → at o e (degree e) ≡ o.one → CombinesTo g
      → ((i j : ℕ) → i < length rows → j < w → Divides o g (entry_of rows i j)) → IsDenominatorOf o T e
  denominator_by_divisor g q e hg hq he whole U monic combines divides =
      least_denominator e h.0 he h.1 split monic
      (λ x hx in_c in_rows.
      let y : Elem k = F.◌⊗◌ (x, hx) ug in
      subst IsP
      (ap (λ (z : Elem k). z.0) (ring3 F.cring (λ x g u. (u ⊠ (x ⊠ g), x ⊠ (u ⊠ g))) refl (x, hx) ug uu)
      ∙ ap (k.mul x) (sym h_is))
      (let S = polynomials_are_subring o L in S.mul_in uu y refl (combines x hx in_c in_rows)))
      (λ i j i_in j_in.
      let r = entry_of rows i j in
      let p = quotient_of_divides o L g r hg (rows-is i j) (divides i j i_in j_in) in
      let up = up o L p.0 p.1 in
      let y : Elem k = F.◌⊗◌ up uv in
      divides_of_fractions o L h.0 r y.0.0 h.1 (rows-is i j) (numerator-is o L y.0 y.1)
      (p.2 ∙ ap (λ (z : Elem k). z.0)
      (sym (ap (λ z. F.◌⊗◌ (F.◌⊗◌ up z) ug) (Elem-path k (F.◌⊗◌ uv uu) F.one U.inverse)
      ∙ ap (λ z. F.◌⊗◌ z ug) (F.mul_comm up F.one ∙ F.one-mul up))
      ∙ ring4 F.cring (λ p v u g. (p ⊠ (v ⊠ u) ⊠ g, (p ⊠ v) ⊠ (u ⊠ g))) refl up uv uu ug)
      ∙ ap (k.mul y.0) (sym h_is)
      ∙ ap (λ z. k.mul z (as_fraction o h.0)) (polynomial-is o L y.0
      (let S = polynomials_are_subring o L in S.mul_in up uv refl refl))))
    where
      uu : Elem k
      uu = up o L U.u U.u_is

      uv : Elem k
      uv = up o L U.v U.v_is

      ug : Elem k
      ug = up o L g hg

      -- u·g as a polynomial
      h : (y : List E) × Is y × (as_fraction o y ≡ k.mul (as_fraction o U.u) (as_fraction o g))
      h = fraction_product o L U.u g U.u_is hg

      h_is : as_fraction o h.0 ≡ k.mul (as_fraction o U.u) (as_fraction o g)
      h_is = h.2

      split : as_fraction o c ≡ k.mul (as_fraction o h.0) (as_fraction o e)
      split = whole ∙ ap (λ z. k.mul z (as_fraction o g)) U.whole
          ∙ ap (λ (z : Elem k). z.0) (ring3 F.cring (λ u e g. ((u ⊠ e) ⊠ g, (u ⊠ g) ⊠ e)) refl uu (up o L e he) ug)
          ∙ ap (λ z. k.mul z (as_fraction o e)) (sym h_is)

  -- the least denominator divides c
  pub denominator_divides : (e : List E) → IsDenominatorOf o T e → Divides o e c
  denominator_divides e D = D.least c hc.over (all_items (Clears o c) (λ i j i_in j_in.
      let u = entry_of rows i j in
      clears_of_fraction o L c u (over u) hc (rows-is i j) (over-is i j)
      (sym (mul-over o L c hc nonzero u (rows-is i j)))))
