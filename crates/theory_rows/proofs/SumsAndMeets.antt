-- The sum and the meet of two row lattices, by the reduction of the rows of both one after the other: as they are, or
-- each of the first rows followed by itself and each of the others by zeros.
use Rattle.std.specs.Prelude.{◌≡◌, ℕ, ◌+◌, ◌-◌, ◌<◌, ◌≤◌, List, [], ◌++◌, length, get_or}
use Rattle.std.proofs.Common.{refl, sym, ◌∙◌, ap, ap₂, subst, arith, ⊎_elim}
use Rattle.std.proofs.lemmas.Bool.{cases_lt}
use Rattle.std.proofs.lemmas.List.{get_or_append_left, get_or-append-add, length-append, get_or_past}
use Rattle.std.proofs.lemmas.List.Elements.{All-append}
use Rattle.std.proofs.Math.Path.{fun_ext}
use Rattle.theory_rings.specs.Ring.{CommRingOn}
use Rattle.theory_rings.specs.Ops.{Ops, FieldLaws}
use Rattle.theory_rings.specs.Sum.{at}
use Rattle.theory_rings.specs.Polynomial.{Poly}
use Rattle.theory_rings.proofs.Rings.RingLaws.{add-zero, add-neg, neg_zero, neg_unique}
use Rattle.theory_rings.proofs.Sums.Lists.{length-table, get_or-table}
use Rattle.theory_fractions.specs.PolynomialLists.{IsSum}
use Rattle.theory_fractions.proofs.Lifting.{has-lift, has-add, eq_of_coefficients, coefficients_of_eq, lift_nil}
use Rattle.theory_spaces.specs.Linear.{comb, InSpan, Independent}
use Rattle.theory_spaces.proofs.Linear.Modules.{InSpan-add, InSpan-neg, InSpan-zero, InSpan-member, InSpan_trans}
use Rattle.theory_rows.specs.Rows.{IsPolynomialRow, IsPolynomialMatrix, InRowLattice, SameRowLattice, IsLatticeBasis}
use Rattle.theory_rows.specs.Rows.{InLatticeSum, InLatticeMeet, RowsAreIndependent}
use Rattle.theory_rows.specs.LeadingPositions.{HaveLeadingPositions, IsZeroUpTo}
use Rattle.theory_rows.specs.Augmented.{tails_of, extended_by, zero_row, zero_rows}
use Rattle.theory_rows.proofs.LiftedRows.{G, up, up_row, up_rows, row_at, entry-over, entry_past}
use Rattle.theory_rows.proofs.LiftedRows.{span_of_lattice, lattice_of_span, independent_of_up, up_independent, row_of}
use Rattle.theory_rows.proofs.LiftedRows.{row_of-row, up-row_of, same_of_spans}
use Rattle.theory_rows.proofs.Positions.{reduced_independent}
use Rattle.theory_rows.proofs.Insertion.{RowsTransformed}
use Rattle.theory_rows.proofs.Splits.{P, N, Weights, comb_of, comb-append, comb_past, zero_column, column_congr}
use Rattle.theory_rows.proofs.Splits.{in_zeros, back_independent, tails-matrix, comb-tails, tails_independent}

module _ {E : Type 0} (o : Ops E) (L : FieldLaws o) where
  abbrev R : CommRingOn (Poly (let F = G o L in F.cring))
  R = P o L

  abbrev Rows : Type 0
  Rows = List (List (List E))

  abbrev Spans : Rows → Weights o L → Type 0
  Spans a y = InSpan (N o L) (length a) (up_rows o L a) y

  span_left : (a b : Rows) (y : Weights o L) → Spans a y → Spans (a ++ b) y
  span_left a b y = InSpan_trans (N o L) (length a) (length (a ++ b)) (up_rows o L a) (up_rows o L (a ++ b)) y
      (λ i l. subst (Spans (a ++ b)) (ap (up_row o L) (get_or_append_left a b [] i l))
      (InSpan-member (N o L) (length (a ++ b)) i (up_rows o L (a ++ b)) (omega (arith, l, length-append a b))))

  span_right : (a b : Rows) (y : Weights o L) → Spans b y → Spans (a ++ b) y
  span_right a b y = InSpan_trans (N o L) (length b) (length (a ++ b)) (up_rows o L b) (up_rows o L (a ++ b)) y
      (λ i l. subst (Spans (a ++ b)) (ap (up_row o L) (get_or-append-add a b i []))
      (InSpan-member (N o L) (length (a ++ b)) (length a + i) (up_rows o L (a ++ b))
      (omega (arith, l, length-append a b))))

  -- the row with these entries, which are 0 from w on
  up_row_of : (w : ℕ) (y : Weights o L) → ((j : ℕ) → w ≤ j → y j ≡ R.zero) → up_row o L (row_of o L w y) ≡ y
  up_row_of w y h = fun_ext (λ j. ⊎_elim
      (λ (l : j < w). up-row_of o L w y j l)
      (λ (l : w ≤ j). ap (up o L) (entry_past o L w (row_of o L w y) (row_of-row o L w y) j l) ∙ lift_nil o L
      ∙ sym (h j l)) (cases_lt j w))

  -- a sum of rows, entry by entry
  up_sum : (w : ℕ) (x y z : List (List E)) → IsPolynomialRow o w x → IsPolynomialRow o w y → IsPolynomialRow o w z
      → ((j : ℕ) → IsSum o (get_or x j []) (get_or y j []) (get_or z j []))
      → up_row o L z ≡ (let M' = N o L in M'.◌⊕◌ (up_row o L x) (up_row o L y))
  up_sum w x y z hx hy hz e = fun_ext (λ j. eq_of_coefficients o L (up_row o L z j)
      (R.◌⊕◌ (up_row o L x j) (up_row o L y j)) (at o (get_or z j []))
      (λ k. o.add (at o (get_or x j []) k) (at o (get_or y j []) k))
      (has-lift o L (get_or z j []) (entry-over o L w z hz j))
      (has-add o L (up_row o L x j) (up_row o L y j) (at o (get_or x j [])) (at o (get_or y j []))
      (has-lift o L (get_or x j []) (entry-over o L w x hx j)) (has-lift o L (get_or y j []) (entry-over o L w y hy j)))
      (e j))

  sum_of_up : (w : ℕ) (x y z : List (List E)) → IsPolynomialRow o w x → IsPolynomialRow o w y → IsPolynomialRow o w z
      → up_row o L z ≡ (let M' = N o L in M'.◌⊕◌ (up_row o L x) (up_row o L y)) → (j : ℕ)
      → IsSum o (get_or x j []) (get_or y j []) (get_or z j [])
  sum_of_up w x y z hx hy hz e j = coefficients_of_eq o L (up_row o L z j)
      (R.◌⊕◌ (up_row o L x j) (up_row o L y j)) (at o (get_or z j []))
      (λ k. o.add (at o (get_or x j []) k) (at o (get_or y j []) k))
      (has-lift o L (get_or z j []) (entry-over o L w z hz j))
      (has-add o L (up_row o L x j) (up_row o L y j) (at o (get_or x j [])) (at o (get_or y j []))
      (has-lift o L (get_or x j []) (entry-over o L w x hx j)) (has-lift o L (get_or y j []) (entry-over o L w y hy j)))
      (ap (λ (f : Weights o L). f j) e)

  -- ---- the sum

  module _ (w : ℕ) (X basis zeros : Rows) (places : List ℕ) (hX : IsPolynomialMatrix o w X)
      (hB : IsPolynomialMatrix o w basis) (hZ : IsPolynomialMatrix o w zeros)
      (t : RowsTransformed o L X (basis ++ zeros)) (hp : HaveLeadingPositions w basis places)
      (z : (i : ℕ) → i < length zeros → IsZeroUpTo w (get_or zeros i [])) where
    -- the zero rows add nothing
    in_basis : (i : ℕ) → i < length (basis ++ zeros) → Spans basis (up_rows o L (basis ++ zeros) i)
    in_basis i l = ⊎_elim
        (λ (g : i < length basis). subst (Spans basis) (ap (up_row o L) (sym (get_or_append_left basis zeros [] i g)))
        (InSpan-member (N o L) (length basis) i (up_rows o L basis) g))
        (λ (g : length basis ≤ i).
        let k = i - length basis in
        let e : length basis + k ≡ i = omega arith in
        let lk : k < length zeros = omega (arith, l, g, length-append basis zeros) in
        subst (Spans basis) (sym (fun_ext (λ j.
        ap (λ q. up o L (get_or (get_or (basis ++ zeros) q []) j [])) (sym e)
        ∙ ap (λ r. up o L (get_or r j [])) (get_or-append-add basis zeros k [])
        ∙ ap (up o L) (⊎_elim (λ (h : j < w). z k lk j h)
        (λ (h : w ≤ j). entry_past o L w (get_or zeros k []) (row_at o L w zeros hZ k lk) j h) (cases_lt j w))
        ∙ lift_nil o L)))
        (InSpan-zero (N o L) (length basis) (up_rows o L basis))) (cases_lt i (length basis))

    -- the reduced rows have the lattice of the rows
    pub basis_same : SameRowLattice o w X basis
    basis_same = same_of_spans o L w X basis hX hB
        (λ i l. InSpan_trans (N o L) (length (basis ++ zeros)) (length basis) (up_rows o L (basis ++ zeros))
        (up_rows o L basis) (up_rows o L X i) in_basis (t.forth i l))
        (λ i l. InSpan_trans (N o L) (length (basis ++ zeros)) (length X) (up_rows o L (basis ++ zeros)) (up_rows o L X)
        (up_rows o L basis i) t.back
        (span_left basis zeros (up_rows o L basis i) (InSpan-member (N o L) (length basis) i (up_rows o L basis) l)))

    pub basis_independent : RowsAreIndependent o basis
    basis_independent = reduced_independent o L w basis places hB hp

  -- the lattice of the rows of both is the sum
  module _ (w : ℕ) (a b basis : Rows) (ha : IsPolynomialMatrix o w a) (hb : IsPolynomialMatrix o w b)
      (hB : IsPolynomialMatrix o w basis) (f : RowsAreIndependent o basis)
      (same : SameRowLattice o w (a ++ b) basis) where
    hab : IsPolynomialMatrix o w (a ++ b)
    hab = All-append (IsPolynomialRow o w) a b ha hb

    sum_in : (x : List (List E)) → IsPolynomialRow o w x → InLatticeSum o w a b x → InRowLattice o basis x
    sum_in x hx h = (same x hx).0 (lattice_of_span o L w (a ++ b) hab x hx
        (subst (Spans (a ++ b)) (sym (up_sum w h.left h.right x h.left_row h.right_row hx h.sum))
        (InSpan-add (N o L) (length (a ++ b)) (up_rows o L (a ++ b)) (up_row o L h.left) (up_row o L h.right)
        (span_left a b (up_row o L h.left) (span_of_lattice o L w a ha h.left h.left_row h.left_in))
        (span_right a b (up_row o L h.right) (span_of_lattice o L w b hb h.right h.right_row h.right_in)))))

    sum_back : (x : List (List E)) → IsPolynomialRow o w x → InRowLattice o basis x → InLatticeSum o w a b x
    sum_back x hx h =
        let s = span_of_lattice o L w (a ++ b) hab x hx ((same x hx).1 h) in
        let u = comb_of o L a s.weights in
        let v = comb_of o L b (λ k. s.weights (length a + k)) in
        let eu = up_row_of w u (comb_past o L w a ha s.weights) in
        let ev = up_row_of w v (comb_past o L w b hb (λ k. s.weights (length a + k))) in
        record {
          left = row_of o L w u;
          right = row_of o L w v;
          left_row = row_of-row o L w u;
          right_row = row_of-row o L w v;
          left_in = lattice_of_span o L w a ha (row_of o L w u) (row_of-row o L w u)
              (record { weights = s.weights; combines = eu });
          right_in = lattice_of_span o L w b hb (row_of o L w v) (row_of-row o L w v)
              (record { weights = λ k. s.weights (length a + k); combines = ev });
          sum = sum_of_up w (row_of o L w u) (row_of o L w v) x (row_of-row o L w u) (row_of-row o L w v) hx
              (s.combines ∙ comb-append o L a b s.weights ∙ sym (ap₂ (let M' = N o L in M'.◌⊕◌) eu ev));
        }

    pub sum_basis : IsLatticeBasis o w (InLatticeSum o w a b) basis
    sum_basis = record { matrix = hB; independent = f; members = λ x hx. (sum_in x hx, sum_back x hx) }

  -- a basis of the meet of equal lattices
  pub meet_same : (w : ℕ) (a b c d k : Rows) → SameRowLattice o w a c → SameRowLattice o w b d
      → IsLatticeBasis o w (InLatticeMeet o c d) k → IsLatticeBasis o w (InLatticeMeet o a b) k
  meet_same w a b c d k e g h = record {
    matrix = h.matrix;
    independent = h.independent;
    members = λ x hx. (
      λ m. (h.members x hx).0 ((e x hx).0 m.0, (g x hx).0 m.1),
      λ m. let q = (h.members x hx).1 m in ((e x hx).1 q.0, (g x hx).1 q.1),
    );
  }

  -- ---- the meet

  module _ (w : ℕ) (a b : Rows) (ha : IsPolynomialMatrix o w a) (hb : IsPolynomialMatrix o w b)
      (fa : RowsAreIndependent o a) (fb : RowsAreIndependent o b) where
    abbrev AA : Rows
    AA = extended_by a a

    abbrev BO : Rows
    BO = extended_by b (zero_rows (length b) w)

    abbrev X : Rows
    X = AA ++ BO

    AA-row : (i : ℕ) → i < length a → get_or AA i [] ≡ get_or a i [] ++ get_or a i []
    AA-row i l = get_or-table (length a) (λ i. get_or a i [] ++ get_or a i []) i [] l

    BO-row : (i : ℕ) → i < length b → get_or BO i [] ≡ get_or b i [] ++ zero_row w
    BO-row i l = get_or-table (length b) (λ i. get_or b i [] ++ get_or (zero_rows (length b) w) i []) i [] l
        ∙ ap (λ r. get_or b i [] ++ r) (get_or-table (length b) (λ _. zero_row w) i [] l)

    AA-length : length AA ≡ length a
    AA-length = length-table (length a) (λ i. get_or a i [] ++ get_or a i [])

    BO-length : length BO ≡ length b
    BO-length = length-table (length b) (λ i. get_or b i [] ++ get_or (zero_rows (length b) w) i [])

    first : (r s : List (List E)) (j : ℕ) → IsPolynomialRow o w r → j < w → get_or (r ++ s) j [] ≡ get_or r j []
    first r s j h l = get_or_append_left r s [] j (let e = h.width in omega arith)

    second : (r s : List (List E)) (k : ℕ) → IsPolynomialRow o w r → get_or (r ++ s) (w + k) [] ≡ get_or s k []
    second r s k h = ap (λ q. get_or (r ++ s) (q + k) []) (sym h.width) ∙ get_or-append-add r s k []

    zero_row-entry : (n k : ℕ) → get_or (zero_row {E = E} n) k [] ≡ []
    zero_row-entry n k = ⊎_elim (λ (l : k < n). get_or-table n (λ _. []) k [] l)
        (λ (l : n ≤ k). get_or_past (zero_row {E = E} n) k [] (omega (arith, l, length-table {X = List E} n (λ _. []))))
        (cases_lt k n)

    AA-first : (c : Weights o L) (j : ℕ) → j < w → comb_of o L AA c j ≡ comb_of o L a c j
    AA-first c j l = ap (λ n. comb (N o L) n c (up_rows o L AA) j) AA-length
        ∙ column_congr o L (length a) (up_rows o L AA) (up_rows o L a) j j
        (λ i g. ap (up o L) (ap (λ r. get_or r j []) (AA-row i g)
        ∙ first (get_or a i []) (get_or a i []) j (row_at o L w a ha i g) l)) c

    AA-second : (c : Weights o L) (k : ℕ) → comb_of o L AA c (w + k) ≡ comb_of o L a c k
    AA-second c k = ap (λ n. comb (N o L) n c (up_rows o L AA) (w + k)) AA-length
        ∙ column_congr o L (length a) (up_rows o L AA) (up_rows o L a) (w + k) k
        (λ i g. ap (up o L) (ap (λ r. get_or r (w + k) []) (AA-row i g)
        ∙ second (get_or a i []) (get_or a i []) k (row_at o L w a ha i g))) c

    BO-first : (c : Weights o L) (j : ℕ) → j < w → comb_of o L BO c j ≡ comb_of o L b c j
    BO-first c j l = ap (λ n. comb (N o L) n c (up_rows o L BO) j) BO-length
        ∙ column_congr o L (length b) (up_rows o L BO) (up_rows o L b) j j
        (λ i g. ap (up o L) (ap (λ r. get_or r j []) (BO-row i g)
        ∙ first (get_or b i []) (zero_row w) j (row_at o L w b hb i g) l)) c

    BO-second : (c : Weights o L) (k : ℕ) → comb_of o L BO c (w + k) ≡ R.zero
    BO-second c k = zero_column o L BO (w + k) (λ i g. let h : i < length b = omega (arith, g, BO-length) in
        ap (λ r. get_or r (w + k) []) (BO-row i h)
        ∙ second (get_or b i []) (zero_row w) k (row_at o L w b hb i h) ∙ zero_row-entry w k) c

    -- up to w the sum of both combinations, from w on the first
    X-first : (c : Weights o L) (j : ℕ) → j < w
        → comb_of o L X c j ≡ R.◌⊕◌ (comb_of o L a c j) (comb_of o L b (λ k. c (length AA + k)) j)
    X-first c j l = ap (λ (f : Weights o L). f j) (comb-append o L AA BO c)
        ∙ ap₂ R.◌⊕◌ (AA-first c j l) (BO-first (λ k. c (length AA + k)) j l)

    X-second : (c : Weights o L) (k : ℕ) → comb_of o L X c (w + k) ≡ comb_of o L a c k
    X-second c k = ap (λ (f : Weights o L). f (w + k)) (comb-append o L AA BO c)
        ∙ ap₂ R.◌⊕◌ (AA-second c k) (BO-second (λ k. c (length AA + k)) k) ∙ add-zero R.monoid (comb_of o L a c k)

    ua : Independent (N o L) (length a) (up_rows o L a)
    ua = up_independent o L w a ha fa

    ub : Independent (N o L) (length b) (up_rows o L b)
    ub = up_independent o L w b hb fb

    X-independent : Independent (N o L) (length X) (up_rows o L X)
    X-independent = record {
      only_zero = λ c z i l. ⊎_elim
          (λ (g : i < length a). left c z i g)
          (λ (g : length a ≤ i). let e : length AA + (i - length a) ≡ i = omega (arith, g, AA-length) in
          ap c (sym e) ∙ right c z (i - length a) (omega (arith, l, g, length-append AA BO, AA-length, BO-length)))
          (cases_lt i (length a));
    }
      where
        left : (c : Weights o L) → comb_of o L X c ≡ (let M' = N o L in M'.zero) → (i : ℕ) → i < length a → c i ≡ R.zero
        left c z = ua.only_zero c (fun_ext (λ k. sym (X-second c k) ∙ ap (λ (f : Weights o L). f (w + k)) z))

        right : (c : Weights o L) → comb_of o L X c ≡ (let M' = N o L in M'.zero) → (i : ℕ) → i < length b
            → c (length AA + i) ≡ R.zero
        right c z = ub.only_zero (λ k. c (length AA + k)) (fun_ext (λ j. ⊎_elim
            (λ (l : j < w). sym (R.zero-add (comb_of o L b (λ k. c (length AA + k)) j))
            ∙ ap (λ x. R.◌⊕◌ x (comb_of o L b (λ k. c (length AA + k)) j))
            (sym (sym (X-second c j) ∙ ap (λ (f : Weights o L). f (w + j)) z))
            ∙ sym (X-first c j l) ∙ ap (λ (f : Weights o L). f j) z)
            (λ (l : w ≤ j). comb_past o L w b hb (λ k. c (length AA + k)) j l) (cases_lt j w)))

    module _ (basis zeros : Rows) (places : List ℕ) (hB : IsPolynomialMatrix o (w + w) basis)
        (hZ : IsPolynomialMatrix o (w + w) zeros) (t : RowsTransformed o L X (basis ++ zeros))
        (hp : HaveLeadingPositions w basis places)
        (z : (i : ℕ) → i < length zeros → IsZeroUpTo w (get_or zeros i [])) where
      abbrev S : Rows
      S = basis ++ zeros

      meet_in : (x : List (List E)) → IsPolynomialRow o w x → InLatticeMeet o a b x
          → InRowLattice o (tails_of w zeros) x
      meet_in x hx h =
          let sa = span_of_lattice o L w a ha x hx h.0 in
          let sb = span_of_lattice o L w b hb x hx h.1 in
          let u = comb_of o L AA sa.weights in
          let v = comb_of o L BO sb.weights in
          let y : Weights o L = (let M' = N o L in M'.◌⊕◌ u (M'.neg v)) in
          let inside : Spans X y = InSpan-add (N o L) (length X) (up_rows o L X) u (let M' = N o L in M'.neg v)
          (span_left AA BO u (record { weights = sa.weights; combines = refl }))
          (InSpan-neg (N o L) (length X) (up_rows o L X) v
          (span_right AA BO v (record { weights = sb.weights; combines = refl }))) in
          let head : (j : ℕ) → j < w → y j ≡ R.zero = λ j l. ap₂ (λ p q. R.◌⊕◌ p (R.neg q))
          (AA-first sa.weights j l ∙ sym (ap (λ (f : Weights o L). f j) sa.combines))
          (BO-first sb.weights j l ∙ sym (ap (λ (f : Weights o L). f j) sb.combines))
          ∙ add-neg R.additive (up_row o L x j) in
          let tail : (k : ℕ) → y (w + k) ≡ up_row o L x k = λ k. ap₂ (λ p q. R.◌⊕◌ p (R.neg q))
          (AA-second sa.weights k ∙ sym (ap (λ (f : Weights o L). f k) sa.combines)) (BO-second sb.weights k)
          ∙ ap (λ q. R.◌⊕◌ (up_row o L x k) q) (neg_zero R.additive) ∙ add-zero R.monoid (up_row o L x k) in
          let s = in_zeros o L w (w + w) basis zeros places hB hp z y
          (InSpan_trans (N o L) (length X) (length S) (up_rows o L X) (up_rows o L S) y t.forth inside) head in
          lattice_of_span o L w (tails_of w zeros) (tails-matrix o L w w zeros hZ) x hx (record {
            weights = s.weights;
            combines = fun_ext (λ k. sym (tail k) ∙ ap (λ (f : Weights o L). f (w + k)) s.combines
                ∙ sym (comb-tails o L w zeros s.weights k));
          })

      meet_back : (x : List (List E)) → IsPolynomialRow o w x → InRowLattice o (tails_of w zeros) x
          → InLatticeMeet o a b x
      meet_back x hx h =
          let s = span_of_lattice o L w (tails_of w zeros) (tails-matrix o L w w zeros hZ) x hx h in
          let y : Weights o L = comb_of o L zeros s.weights in
          let m = InSpan_trans (N o L) (length S) (length X) (up_rows o L S) (up_rows o L X) y t.back
          (span_right basis zeros y (record { weights = s.weights; combines = refl })) in
          let c = m.weights in
          let d : Weights o L = λ k. c (length AA + k) in
          let same : (k : ℕ) → up_row o L x k ≡ comb_of o L a c k = λ k. ap (λ (f : Weights o L). f k) s.combines
          ∙ comb-tails o L w zeros s.weights k ∙ ap (λ (f : Weights o L). f (w + k)) m.combines ∙ X-second c k in
          let other : (j : ℕ) → up_row o L x j ≡ R.neg (comb_of o L b d j) = λ j. ⊎_elim
          (λ (l : j < w). neg_unique R.additive (comb_of o L b d j) (up_row o L x j)
          (R.add_comm (comb_of o L b d j) (up_row o L x j) ∙ ap (λ q. R.◌⊕◌ q (comb_of o L b d j)) (same j)
          ∙ sym (X-first c j l) ∙ sym (ap (λ (f : Weights o L). f j) m.combines)
          ∙ zero_column o L zeros j (λ i g. z i g j l) s.weights))
          (λ (l : w ≤ j). ap (up o L) (entry_past o L w x hx j l) ∙ lift_nil o L ∙ sym (neg_zero R.additive)
          ∙ ap R.neg (sym (comb_past o L w b hb d j l))) (cases_lt j w) in (
            lattice_of_span o L w a ha x hx (record { weights = c; combines = fun_ext same }),
            lattice_of_span o L w b hb x hx (subst (Spans b) (sym (fun_ext other))
                (InSpan-neg (N o L) (length b) (up_rows o L b) (comb_of o L b d)
                (record { weights = d; combines = refl }))),
          )

      pub meet_basis : IsLatticeBasis o w (InLatticeMeet o a b) (tails_of w zeros)
      meet_basis = record {
        matrix = tails-matrix o L w w zeros hZ;
        independent = independent_of_up o L w (tails_of w zeros) (tails-matrix o L w w zeros hZ)
            (tails_independent o L w w zeros z (back_independent o L basis zeros (t.free X-independent)));
        members = λ x hx. (meet_in x hx, meet_back x hx);
      }
