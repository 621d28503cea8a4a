-- Rows with their unit rows after them, reduced in the columns of the rows alone: what stands after the reduced rows is
-- their transform, and what stands after the zero rows is a basis of the kernel.
use Rattle.std.specs.Prelude.{◌≡◌, ℕ, zero, suc, ◌+◌, ◌<◌, ◌≤◌, List, [], ◌∷◌, ◌++◌, length, get_or, cond, nat_eq}
use Rattle.std.specs.Prelude.{take, drop}
use Rattle.std.proofs.Common.{refl, sym, ◌∙◌, ap, subst, arith, ⊎_elim}
use Rattle.std.proofs.lemmas.Bool.{cases_lt, eq-eqb, ne_eqb}
use Rattle.std.proofs.lemmas.List.{get_or_append_left, get_or-append-add, length-append}
use Rattle.std.proofs.lemmas.List.Elements.{All-nil, All-cons}
use Rattle.std.proofs.Math.Path.{fun_ext}
use Rattle.theory_rings.specs.Ring.{CommRingOn}
use Rattle.theory_rings.specs.Ops.{Ops, IsElem, FieldLaws}
use Rattle.theory_rings.specs.Sum.{at}
use Rattle.theory_rings.specs.Polynomial.{Poly, constant_coefficients}
use Rattle.theory_rings.proofs.Rings.RingLaws.{mul-zero}
use Rattle.theory_rings.proofs.Sums.Sums.{sum_eq_single}
use Rattle.theory_rings.proofs.Sums.Lists.{length-table, get_or-table}
use Rattle.theory_fractions.proofs.Lifting.{has-lift, has-one, eq_of_coefficients, lift_nil}
use Rattle.theory_spaces.specs.Linear.{comb, InSpan, Independent}
use Rattle.theory_spaces.proofs.Linear.Modules.{comb_congr, InSpan-member, InSpan_trans}
use Rattle.theory_rows.specs.Rows.{IsPolynomialRow, IsPolynomialMatrix, InRowLattice, InRowKernel}
use Rattle.theory_rows.specs.Rows.{IsLatticeBasis, SameRowLattice, IsRowTransform}
use Rattle.theory_rows.specs.LeadingPositions.{HaveLeadingPositions, IsZeroUpTo}
use Rattle.theory_rows.specs.Augmented.{heads_of, tails_of, extended_by, unit_row, unit_rows}
use Rattle.theory_rows.proofs.LiftedRows.{G, up, up_row, up_rows, comb_at, row_at, entry-over, entry_past}
use Rattle.theory_rows.proofs.LiftedRows.{matrix-over, row-nil, up_combination, combination_of_up, up_row-nil}
use Rattle.theory_rows.proofs.LiftedRows.{span_of_lattice, lattice_of_span, independent_of_up}
use Rattle.theory_rows.proofs.LiftedRows.{same_of_spans}
use Rattle.theory_rows.proofs.Insertion.{RowsTransformed}
use Rattle.theory_rows.proofs.Splits.{P, N, Weights, comb_of, comb_past, column_congr, head_of, in_zeros}
use Rattle.theory_rows.proofs.Splits.{back_independent}
use Rattle.theory_rows.proofs.Splits.{tails-matrix, heads-matrix, tails-entry, heads-entry, comb-tails, comb-heads}
use Rattle.theory_rows.proofs.Splits.{tails_independent, heads-positions, zero_column}

module _ {E : Type 0} (o : Ops E) (L : FieldLaws o) where
  abbrev R : CommRingOn (Poly (let F = G o L in F.cring))
  R = P o L

  pub up_one : up o L (o.one ∷ []) ≡ R.one
  up_one = eq_of_coefficients o L (up o L (o.one ∷ [])) R.one (at o (o.one ∷ [])) (constant_coefficients o.zero o.one)
      (has-lift o L (o.one ∷ []) (All-cons (IsElem o) o.one [] L.one-elem (All-nil (IsElem o)))) (has-one o L) go
    where
      go : (k : ℕ) → at o (o.one ∷ []) k ≡ constant_coefficients o.zero o.one k
      go zero = refl
      go (suc k) = refl

  module _ (rows : List (List (List E))) where
    abbrev n : ℕ
    n = length rows

    abbrev X : List (List (List E))
    X = extended_by rows (unit_rows o.one n)

    X-length : length X ≡ n
    X-length = length-table n (λ i. get_or rows i [] ++ get_or (unit_rows o.one n) i [])

    X-row : (i : ℕ) → i < n → get_or X i [] ≡ get_or rows i [] ++ unit_row o.one n i
    X-row i l = get_or-table n (λ i. get_or rows i [] ++ get_or (unit_rows o.one n) i []) i [] l
        ∙ ap (λ r. get_or rows i [] ++ r) (get_or-table n (λ i. unit_row o.one n i) i [] l)

    module _ (w : ℕ) (hr : IsPolynomialMatrix o w rows) where
      X-head : (i j : ℕ) → i < n → j < w → get_or (get_or X i []) j [] ≡ get_or (get_or rows i []) j []
      X-head i j l g = ap (λ r. get_or r j []) (X-row i l)
          ∙ get_or_append_left (get_or rows i []) (unit_row o.one n i) [] j
          (let e = row_at o L w rows hr i l in let q = e.width in omega arith)

      X-tail : (i k : ℕ) → i < n → k < n → get_or (get_or X i []) (w + k) [] ≡ cond (nat_eq k i) (o.one ∷ []) []
      X-tail i k l g =
          let e = row_at o L w rows hr i l in
          ap (λ r. get_or r (w + k) []) (X-row i l)
          ∙ ap (λ q. get_or (get_or rows i [] ++ unit_row o.one n i) (q + k) []) (sym e.width)
          ∙ get_or-append-add (get_or rows i []) (unit_row o.one n i) k []
          ∙ get_or-table n (λ k. cond (nat_eq k i) (o.one ∷ []) []) k [] g

      tail_weight : (c : Weights o L) (k : ℕ) → k < n → comb (N o L) n c (up_rows o L X) (w + k) ≡ c k
      tail_weight c k l = comb_at o L n c (up_rows o L X) (w + k)
          ∙ sum_eq_single R.monoid n k (λ i. R.◌⊗◌ (c i) (up_rows o L X i (w + k))) l
          (λ i g d. ap (λ a. R.◌⊗◌ (c i) (up o L a)) (X-tail i k g l
          ∙ ap (λ b. cond b (o.one ∷ []) []) (ne_eqb k i (λ e. d (sym e))))
          ∙ ap (λ a. R.◌⊗◌ (c i) a) (lift_nil o L) ∙ mul-zero R.ring (c i))
          ∙ ap (λ a. R.◌⊗◌ (c k) (up o L a)) (X-tail k k l l
          ∙ ap (λ b. cond b (o.one ∷ []) []) (eq-eqb k k refl))
          ∙ ap (λ a. R.◌⊗◌ (c k) a) up_one ∙ R.mul-one (c k)

      head_comb : (c : Weights o L) (j : ℕ) → j < w → comb (N o L) n c (up_rows o L X) j ≡ comb_of o L rows c j
      head_comb c j l = column_congr o L n (up_rows o L X) (up_rows o L rows) j j
          (λ i g. ap (up o L) (X-head i j g l)) c

      X-independent : Independent (N o L) (length X) (up_rows o L X)
      X-independent = record {
        only_zero = λ c z i l. sym (tail_weight c i (omega (arith, l, X-length)))
            ∙ ap (λ m. comb (N o L) m c (up_rows o L X) (w + i)) (sym X-length)
            ∙ ap (λ (f : Weights o L). f (w + i)) z;
      }

      -- a member of the lattice is up to w the combination whose weights stand from w on
      member_head : (y : Weights o L) → InSpan (N o L) (length X) (up_rows o L X) y → (j : ℕ) → j < w
          → y j ≡ comb_of o L rows (λ k. y (w + k)) j
      member_head y s j l =
          let e : y ≡ comb (N o L) n s.weights (up_rows o L X) = s.combines
          ∙ ap (λ m. comb (N o L) m s.weights (up_rows o L X)) X-length in
          ap (λ (f : Weights o L). f j) e ∙ head_comb s.weights j l
          ∙ ap (λ (f : Weights o L). f j) (comb_congr (N o L) n s.weights (λ k. y (w + k)) (up_rows o L rows)
          (λ k g. sym (ap (λ (f : Weights o L). f (w + k)) e ∙ tail_weight s.weights k g)))

      module _ (basis zeros : List (List (List E))) (places : List ℕ) (hb : IsPolynomialMatrix o (w + n) basis)
          (hz : IsPolynomialMatrix o (w + n) zeros) (t : RowsTransformed o L X (basis ++ zeros))
          (hp : HaveLeadingPositions w basis places)
          (z : (i : ℕ) → i < length zeros → IsZeroUpTo w (get_or zeros i [])) where
        abbrev S : List (List (List E))
        S = basis ++ zeros

        kernel_row : (x : List (List E)) → IsPolynomialRow o n x → InRowKernel o rows x
            → InRowLattice o (tails_of w zeros) x
        kernel_row x hx e =
            let none : comb_of o L rows (up_row o L x) ≡ (let M' = N o L in M'.zero) =
            sym (up_combination o L x rows [] (entry-over o L n x hx) (matrix-over o L w rows hr)
            (entry-over o L 0 [] (row-nil o L)) e) ∙ fun_ext (λ j. up_row-nil o L j) in
            let y : Weights o L = comb (N o L) (length X) (up_row o L x) (up_rows o L X) in
            let here : y ≡ comb (N o L) n (up_row o L x) (up_rows o L X) =
            ap (λ m. comb (N o L) m (up_row o L x) (up_rows o L X)) X-length in
            let s = in_zeros o L w (w + n) basis zeros places hb hp z y
            (InSpan_trans (N o L) (length X) (length S) (up_rows o L X) (up_rows o L S) y t.forth
            (record { weights = up_row o L x; combines = refl }))
            (λ j l. ap (λ (f : Weights o L). f j) here ∙ head_comb (up_row o L x) j l
            ∙ ap (λ (f : Weights o L). f j) none) in
            lattice_of_span o L n (tails_of w zeros) (tails-matrix o L w n zeros hz) x hx (record {
              weights = s.weights;
              combines = fun_ext (λ k. ⊎_elim
                  (λ (l : k < n). sym (tail_weight (up_row o L x) k l) ∙ sym (ap (λ (f : Weights o L). f (w + k)) here)
                  ∙ ap (λ (f : Weights o L). f (w + k)) s.combines ∙ sym (comb-tails o L w zeros s.weights k))
                  (λ (l : n ≤ k). ap (up o L) (entry_past o L n x hx k l) ∙ lift_nil o L
                  ∙ sym (comb_past o L n (tails_of w zeros) (tails-matrix o L w n zeros hz) s.weights k l))
                  (cases_lt k n));
            })

        back_span : (y : Weights o L) → InSpan (N o L) (length S) (up_rows o L S) y
            → InSpan (N o L) (length X) (up_rows o L X) y
        back_span y = InSpan_trans (N o L) (length S) (length X) (up_rows o L S) (up_rows o L X) y t.back

        zeros_in : (y : Weights o L) → InSpan (N o L) (length zeros) (up_rows o L zeros) y
            → InSpan (N o L) (length S) (up_rows o L S) y
        zeros_in y = InSpan_trans (N o L) (length zeros) (length S) (up_rows o L zeros) (up_rows o L S) y
            (λ i l. subst (InSpan (N o L) (length S) (up_rows o L S))
            (ap (up_row o L) (get_or-append-add basis zeros i []))
            (InSpan-member (N o L) (length S) (length basis + i) (up_rows o L S)
            (omega (arith, l, length-append basis zeros))))

        member_of_tails : (x : List (List E)) → IsPolynomialRow o n x → InRowLattice o (tails_of w zeros) x
            → InRowKernel o rows x
        member_of_tails x hx h =
            let s = span_of_lattice o L n (tails_of w zeros) (tails-matrix o L w n zeros hz) x hx h in
            let y : Weights o L = comb_of o L zeros s.weights in
            let tail : (λ k. y (w + k)) ≡ up_row o L x =
            fun_ext (λ k. sym (comb-tails o L w zeros s.weights k)) ∙ sym s.combines in
            combination_of_up o L x rows [] (entry-over o L n x hx) (matrix-over o L w rows hr)
            (entry-over o L 0 [] (row-nil o L)) (λ j. up_row-nil o L j ∙ sym (⊎_elim
            (λ (l : j < w). ap (λ c. comb_of o L rows c j) (sym tail)
            ∙ sym (member_head y (back_span y (zeros_in y (record { weights = s.weights; combines = refl }))) j l)
            ∙ zero_column o L zeros j (λ i g. z i g j l) s.weights)
            (λ (l : w ≤ j). comb_past o L w rows hr (up_row o L x) j l) (cases_lt j w)))

        -- ---- the reduced rows

        abbrev H : List (List (List E))
        H = heads_of w basis

        hH : IsPolynomialMatrix o w H
        hH = heads-matrix o L w n basis hb

        H-length : length H ≡ length basis
        H-length = length-table (length basis) (λ i. take w (get_or basis i []))

        T-length : length (tails_of w basis) ≡ length basis
        T-length = length-table (length basis) (λ i. drop w (get_or basis i []))

        basis_in : (i : ℕ) → i < length basis → InSpan (N o L) (length X) (up_rows o L X) (up_rows o L basis i)
        basis_in i l = back_span (up_rows o L basis i) (subst (InSpan (N o L) (length S) (up_rows o L S))
            (ap (up_row o L) (get_or_append_left basis zeros [] i l))
            (InSpan-member (N o L) (length S) i (up_rows o L S) (omega (arith, l, length-append basis zeros))))

        head_weights : (i : ℕ) → i < length basis → (j : ℕ)
            → up_rows o L H i j ≡ comb_of o L rows (up_rows o L (tails_of w basis) i) j
        head_weights i l j = ⊎_elim
            (λ (g : j < w). ap (up o L) (heads-entry o L w basis i j l g)
            ∙ member_head (up_rows o L basis i) (basis_in i l) j g
            ∙ ap (λ c. comb_of o L rows c j) (fun_ext (λ k. sym (ap (up o L) (tails-entry o L w basis i k l)))))
            (λ (g : w ≤ j). ap (up o L)
            (entry_past o L w (get_or H i []) (row_at o L w H hH i (omega (arith, l, H-length))) j g)
            ∙ lift_nil o L ∙ sym (comb_past o L w rows hr (up_rows o L (tails_of w basis) i) j g)) (cases_lt j w)

        row_in_heads : (i : ℕ) → i < n → InSpan (N o L) (length H) (up_rows o L H) (up_rows o L rows i)
        row_in_heads i l =
            let s = t.forth i (omega (arith, l, X-length)) in
            record {
              weights = s.weights;
              combines = fun_ext (λ j. ⊎_elim
                  (λ (g : j < w). ap (up o L) (sym (X-head i j l g))
                  ∙ head_of o L w (w + n) basis zeros places hb hp z (up_rows o L X i) s j g
                  ∙ sym (comb-heads o L w basis s.weights j g))
                  (λ (g : w ≤ j). ap (up o L) (entry_past o L w (get_or rows i []) (row_at o L w rows hr i l) j g)
                  ∙ lift_nil o L ∙ sym (comb_past o L w H hH s.weights j g)) (cases_lt j w));
            }

        pub heads_same : SameRowLattice o w rows H
        heads_same = same_of_spans o L w rows H hr hH row_in_heads
            (λ i l. record {
              weights = up_rows o L (tails_of w basis) i;
              combines = fun_ext (head_weights i (omega (arith, l, H-length)));
            })

        pub heads_transform : IsRowTransform o rows H (tails_of w basis)
        heads_transform = record {
          matrix = tails-matrix o L w n basis hb;
          count = T-length ∙ sym H-length;
          combines = λ i l. combination_of_up o L (get_or (tails_of w basis) i []) rows (get_or H i [])
              (matrix-over o L n (tails_of w basis) (tails-matrix o L w n basis hb) i) (matrix-over o L w rows hr)
              (matrix-over o L w H hH i) (head_weights i (omega (arith, l, H-length)));
        }

        pub heads_matrix : IsPolynomialMatrix o w H
        heads_matrix = hH

        pub heads_positions : HaveLeadingPositions w H places
        heads_positions = heads-positions o L w basis places hp

        pub kernel_basis : IsLatticeBasis o n (InRowKernel o rows) (tails_of w zeros)
        kernel_basis = record {
          matrix = tails-matrix o L w n zeros hz;
          independent = independent_of_up o L n (tails_of w zeros) (tails-matrix o L w n zeros hz)
              (tails_independent o L w n zeros z (back_independent o L basis zeros (t.free X-independent)));
          members = λ x hx. (kernel_row x hx, member_of_tails x hx);
        }
