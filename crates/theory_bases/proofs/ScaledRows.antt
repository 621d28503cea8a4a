-- Multiples of rows in a row lattice, by the kernel of the rows and one more.
use Rattle.std.specs.Prelude.{◌≡◌, ◌≢◌, ◌+◌, ◌<◌, ◌≤◌, ℕ, zero, suc, List, [], ◌∷◌, ◌++◌, length, get_or}
use Rattle.std.proofs.Common.{refl, sym, ◌∙◌, ap, ap₂, subst, arith, length-append, ⊎_elim}
use Rattle.std.proofs.Math.Path.{fun_ext}
use Rattle.std.proofs.lemmas.Bool.{cases_lt}
use Rattle.std.proofs.lemmas.List.Elements.{All-nil, All-cons, All-append}
use Rattle.theory_rings.specs.Ring.{CommRingOn}
use Rattle.theory_rings.specs.Ops.{Ops, IsElem, FieldLaws}
use Rattle.theory_rings.specs.Polynomial.{Poly}
use Rattle.theory_rings.proofs.Rings.RingLaws.{mul-zero, add-zero}
use Rattle.theory_rings.proofs.Polynomials.Bezout.{poly_one-ne-zero}
use Rattle.theory_fractions.specs.PolynomialLists.{IsProduct, IsPolynomialList}
use Rattle.theory_fractions.proofs.Lifting.{lift-mul, lift_nil}
use Rattle.theory_fractions.proofs.CommonDenominators.{over_one}
use Rattle.theory_spaces.specs.Module.{ModuleOn}
use Rattle.theory_spaces.specs.Linear.{comb, InSpan}
use Rattle.theory_spaces.proofs.Linear.IndependentVectors.{Independent-ne-zero}
use Rattle.theory_spaces.proofs.Linear.Modules.{InSpan-scale, InSpan-neg, scale-zero, comb_zero, zero-scale}
use Rattle.theory_rows.specs.Rows.{IsPolynomialRow, IsPolynomialMatrix, IsLatticeBasis, InRowLattice, InRowKernel}
use Rattle.theory_rows.specs.Rows.{RowsAreIndependent}
use Rattle.theory_rows.proofs.LiftedRows.{G, up, up_row, up_rows, row-nil, row_at, entry-over, entry_past}
use Rattle.theory_rows.proofs.LiftedRows.{matrix-over, up_row-nil, up_combination, span_of_lattice, lattice_of_span}
use Rattle.theory_rows.proofs.LiftedRows.{up_independent, member_in}
use Rattle.theory_rows.proofs.Splits.{P, N, Weights, comb_of, comb-append}
use Rattle.theory_bases.proofs.FractionsOver.{K, count-tuples, over_rows-matrix}
use Rattle.theory_bases.proofs.FractionsOver.{M as fraction_laws}
use Rattle.theory_bases.proofs.KernelTests.{kernel_tells}
use Rattle.theory_bases.proofs.SpanningRows.{count_at_most}
use Rattle.theory_bases.specs.Bases.{BasisForm, tuples_of}

module _ {E : Type 0} (o : Ops E) (L : FieldLaws o) (w : ℕ) (rows : List (List (List E)))
    (hr : IsPolynomialMatrix o w rows) where
  abbrev n : ℕ
  n = length rows

  abbrev R : CommRingOn (Poly (let F = G o L in F.cring))
  R = P o L

  abbrev V : ModuleOn R.ring (Weights o L)
  V = N o L

  -- each entry of y is s times that of x
  abbrev pub IsMultipleOf : List E → List (List E) → List (List E) → Type 0
  IsMultipleOf s x y = (j : ℕ) → j < w → IsProduct o s (get_or x j []) (get_or y j [])

  up_multiple : (s : List E) → IsPolynomialList o s → (x y : List (List E)) → IsPolynomialRow o w x
      → IsPolynomialRow o w y → IsMultipleOf s x y → V.◌•◌ (up o L s) (up_row o L x) ≡ up_row o L y
  up_multiple s hs x y hx hy e = fun_ext (λ j. ⊎_elim
      (λ (l : j < w). sym (lift-mul o L s (get_or x j []) (get_or y j []) hs.over (entry-over o L w x hx j)
      (entry-over o L w y hy j) (e j l)))
      (λ (l : w ≤ j). ap (λ u. R.◌⊗◌ (up o L s) (up o L u)) (entry_past o L w x hx j l)
      ∙ ap (R.◌⊗◌ (up o L s)) (lift_nil o L) ∙ mul-zero R.ring (up o L s)
      ∙ sym (ap (up o L) (entry_past o L w y hy j l) ∙ lift_nil o L))
      (cases_lt j w))

  pub multiple_in : (s : List E) → IsPolynomialList o s → (x y : List (List E)) → IsPolynomialRow o w x
      → IsPolynomialRow o w y → IsMultipleOf s x y → InRowLattice o rows x → InRowLattice o rows y
  multiple_in s hs x y hx hy e h = lattice_of_span o L w rows hr y hy
      (subst (InSpan V n (up_rows o L rows)) (up_multiple s hs x y hx hy e)
      (InSpan-scale V n (up_rows o L rows) (up o L s) (up_row o L x) (span_of_lattice o L w rows hr x hx h)))

  -- the rows and one more
  module _ (u : List (List E)) (hu : IsPolynomialRow o w u) where
    abbrev more : List (List (List E))
    more = rows ++ u ∷ []

    more-is : IsPolynomialMatrix o w more
    more-is = All-append (IsPolynomialRow o w) rows (u ∷ []) hr
        (All-cons (IsPolynomialRow o w) u [] hu (All-nil (IsPolynomialRow o w)))

    more-length : length more ≡ suc n
    more-length = length-append rows (u ∷ []) ∙ omega arith

    module _ (c : List (List E)) (hc : IsPolynomialRow o (length more) c) (kills : InRowKernel o more c) where
      abbrev s : List E
      s = get_or c n []

      total : V.◌⊕◌ (comb_of o L rows (up_row o L c)) (V.◌•◌ (up o L s) (up_row o L u)) ≡ V.zero
      total = ap (V.◌⊕◌ (comb_of o L rows (up_row o L c)))
          (sym (V.zero-add (V.◌•◌ (up o L s) (up_row o L u)))
          ∙ ap (λ t. V.◌⊕◌ V.zero (V.◌•◌ (up_row o L c t) (up_row o L u))) (let e : n ≡ n + 0 = omega arith in e))
          ∙ sym (comb-append o L rows (u ∷ []) (up_row o L c))
          ∙ sym (up_combination o L c more [] (entry-over o L (length more) c hc) (matrix-over o L w more more-is)
          (entry-over o L 0 [] (row-nil o L)) kills)
          ∙ fun_ext (λ j. up_row-nil o L j)

      -- the last weight times the last row is in the lattice of the others
      pub last_multiple_in : IsPolynomialList o s → (y : List (List E)) → IsPolynomialRow o w y → IsMultipleOf s u y
          → InRowLattice o rows y
      last_multiple_in hs y hy e =
          let a = comb_of o L rows (up_row o L c) in
          let b = V.◌•◌ (up o L s) (up_row o L u) in
          lattice_of_span o L w rows hr y hy (subst (InSpan V n (up_rows o L rows))
          (sym (add-zero V.monoid (V.neg a)) ∙ ap (V.◌⊕◌ (V.neg a)) (sym total) ∙ sym (V.add_assoc (V.neg a) a b)
          ∙ ap (λ t. V.◌⊕◌ t b) (V.neg-add a) ∙ V.zero-add b ∙ up_multiple s hs u y hu hy e)
          (InSpan-neg V n (up_rows o L rows) a (record { weights = up_row o L c; combines = refl })))

      -- where the last weight is 0, and the rows are independent, all are
      all_zero : RowsAreIndependent o rows → s ≡ [] → up_row o L c ≡ V.zero
      all_zero free z = fun_ext (λ i. ⊎_elim
          (λ (low : i < n). (up_independent o L w rows hr free).only_zero (up_row o L c)
          (sym (add-zero V.monoid (comb_of o L rows (up_row o L c)))
          ∙ ap (V.◌⊕◌ (comb_of o L rows (up_row o L c)))
          (sym (ap (λ t. V.◌•◌ (up o L t) (up_row o L u)) z
          ∙ ap (λ t. V.◌•◌ t (up_row o L u)) (lift_nil o L) ∙ zero-scale V (up_row o L u)))
          ∙ total) i low)
          (λ (high : n ≤ i). ap (up o L) (⊎_elim
          (λ (past : n < i). entry_past o L (length more) c hc i (omega (arith, past, more-length)))
          (λ (last : i ≤ n). let e : i ≡ n = omega arith in ap (λ t. get_or c t []) e ∙ z)
          (cases_lt n i)) ∙ lift_nil o L)
          (cases_lt i n))

    module _ (kernel : List (List (List E))) (B : IsLatticeBasis o (length more) (InRowKernel o more) kernel) where
      pub kernel_nonempty : n ≡ w → kernel ≡ [] → ⊥
      kernel_nonempty e z =
          let one : List E = o.one ∷ [] in
          let h1 : IsPolynomialList o one = record { over = over_one o L; trimmed = L.one-nonzero } in
          let n1 : one ≢ [] = λ t. let u : length one ≡ length {A = E} [] = ap length t in absurd (omega arith) in
          let b : BasisForm E = record { denominator = one; numerators = more } in
          let low = count_at_most (K o L) (fraction_laws o L) w (tuples_of o L b)
          (over_rows-matrix o L one h1 n1 w more more-is) ((kernel_tells o L w one more kernel h1 n1 more-is B).0 z) in
          absurd (omega (arith, low, count-tuples o L b, more-length, e))

      pub last_nonzero : RowsAreIndependent o rows → 0 < length kernel → get_or (get_or kernel 0 []) n [] ≢ []
      last_nonzero free l z =
          let c = get_or kernel 0 [] in
          let hc = row_at o L (length more) kernel B.matrix 0 l in
          Independent-ne-zero V (poly_one-ne-zero (G o L)) (length kernel) (up_rows o L kernel)
          (up_independent o L (length more) kernel B.matrix B.independent) 0 l
          (all_zero c hc ((B.members c hc).1 (member_in o L (length more) kernel B.matrix 0 l)) free z)
