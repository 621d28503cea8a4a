-- Rows that are split into reduced rows and rows whose first w entries are 0: combinations of them, and their columns
-- up to w and from there on.
use Rattle.std.specs.Prelude.{◌≡◌, ℕ, ◌+◌, ◌-◌, ◌<◌, ◌≤◌, List, [], ◌++◌, length, get_or, take, drop}
use Rattle.std.proofs.Common.{sym, ◌∙◌, ap, ap₂, arith, ⊎_elim}
use Rattle.std.proofs.lemmas.Bool.{cases_lt}
use Rattle.std.proofs.lemmas.List.{get_or_append_left, length-append, get_or-append-add, get_or-drop, get_or-take}
use Rattle.std.proofs.lemmas.List.{length-drop, length-take-le, append-nil, ext_get_or}
use Rattle.std.proofs.lemmas.List.Elements.{All-drop, All-take}
use Rattle.std.proofs.Math.Path.{fun_ext}
use Rattle.theory_rings.specs.Ring.{CommRingOn}
use Rattle.theory_rings.specs.Ops.{Ops, FieldLaws}
use Rattle.theory_rings.specs.Polynomial.{Poly, IsTrimmed}
use Rattle.theory_rings.proofs.Rings.RingLaws.{add-zero, mul-zero}
use Rattle.theory_rings.proofs.Sums.Sums.{sum_congr, sum_eq_zero, sum-split}
use Rattle.theory_rings.proofs.Sums.Lists.{length-table, get_or-table, All-table}
use Rattle.theory_fractions.specs.PolynomialLists.{IsOver}
use Rattle.theory_fractions.proofs.Lifting.{lift_nil}
use Rattle.theory_spaces.specs.Module.{ModuleOn}
use Rattle.theory_spaces.specs.Linear.{comb, InSpan, Independent}
use Rattle.theory_spaces.proofs.Linear.Families.{join, join-below, join-above}
use Rattle.theory_spaces.proofs.Linear.Modules.{comb_congr, comb_zero}
use Rattle.theory_rows.specs.Rows.{IsPolynomialRow, IsPolynomialMatrix}
use Rattle.theory_rows.specs.LeadingPositions.{HasLeadingPosition, HaveLeadingPositions, IsZeroUpTo}
use Rattle.theory_rows.specs.Augmented.{heads_of, tails_of, extended_by, zero_rows}
use Rattle.theory_rows.proofs.LiftedRows.{G, Q, M, up, up_row, up_rows, comb_at, row_at, entry_past}
use Rattle.theory_rows.proofs.Positions.{no_weight}

module _ {E : Type 0} (o : Ops E) (L : FieldLaws o) where
  abbrev pub P : CommRingOn (Poly (let F = G o L in F.cring))
  P = Q o L

  abbrev pub N : ModuleOn P.ring (ℕ → Poly (let F = G o L in F.cring))
  N = M o L

  abbrev pub Weights : Type 0
  Weights = ℕ → Poly (let F = G o L in F.cring)

  -- the combination of the rows
  abbrev pub comb_of : List (List (List E)) → Weights → Weights
  comb_of rows c = comb N (length rows) c (up_rows o L rows)

  pub comb-append : (a b : List (List (List E))) (c : Weights)
      → comb_of (a ++ b) c ≡ N.◌⊕◌ (comb_of a c) (comb_of b (λ k. c (length a + k)))
  comb-append a b c =
      ap (λ n. comb N n c (up_rows o L (a ++ b))) (length-append a b)
      ∙ sum-split N.monoid (length a) (length b) (λ i. N.◌•◌ (c i) (up_rows o L (a ++ b) i))
      ∙ ap₂ N.◌⊕◌
      (sum_congr N.monoid (length a) (λ i. N.◌•◌ (c i) (up_rows o L (a ++ b) i)) (λ i. N.◌•◌ (c i) (up_rows o L a i))
      (λ i l. ap (λ r. N.◌•◌ (c i) (up_row o L r)) (get_or_append_left a b [] i l)))
      (sum_congr N.monoid (length b) (λ k. N.◌•◌ (c (length a + k)) (up_rows o L (a ++ b) (length a + k)))
      (λ k. N.◌•◌ (c (length a + k)) (up_rows o L b k))
      (λ k l. ap (λ r. N.◌•◌ (c (length a + k)) (up_row o L r)) (get_or-append-add a b k [])))

  -- rows that are 0 in a column
  pub zero_column : (rows : List (List (List E))) (j : ℕ)
      → ((i : ℕ) → i < length rows → get_or (get_or rows i []) j [] ≡ []) → (c : Weights) → comb_of rows c j ≡ P.zero
  zero_column rows j h c = comb_at o L (length rows) c (up_rows o L rows) j
      ∙ sum_eq_zero P.monoid (length rows) (λ i. P.◌⊗◌ (c i) (up_rows o L rows i j))
      (λ i l. ap (λ a. P.◌⊗◌ (c i) (up o L a)) (h i l) ∙ ap (λ a. P.◌⊗◌ (c i) a) (lift_nil o L)
      ∙ mul-zero P.ring (c i))

  -- rows of w polynomials are 0 from w on
  pub comb_past : (w : ℕ) (rows : List (List (List E))) → IsPolynomialMatrix o w rows → (c : Weights) (j : ℕ) → w ≤ j
      → comb_of rows c j ≡ P.zero
  comb_past w rows h c j l = zero_column rows j
      (λ i g. entry_past o L w (get_or rows i []) (row_at o L w rows h i g) j l) c

  -- rows that agree in a column
  pub column_congr : (n : ℕ) (v u : ℕ → Weights) (j k : ℕ) → ((i : ℕ) → i < n → v i j ≡ u i k) → (c : Weights)
      → comb N n c v j ≡ comb N n c u k
  column_congr n v u j k h c = comb_at o L n c v j
      ∙ sum_congr P.monoid n (λ i. P.◌⊗◌ (c i) (v i j)) (λ i. P.◌⊗◌ (c i) (u i k))
      (λ i l. ap (λ a. P.◌⊗◌ (c i) a) (h i l))
      ∙ sym (comb_at o L n c u k)

  -- ---- reduced rows and zero rows

  module _ (w v : ℕ) (basis zeros : List (List (List E))) (places : List ℕ) (hb : IsPolynomialMatrix o v basis)
      (hp : HaveLeadingPositions w basis places)
      (hz : (i : ℕ) → i < length zeros → IsZeroUpTo w (get_or zeros i [])) where
    pub head_of : (y : Weights) (s : InSpan N (length (basis ++ zeros)) (up_rows o L (basis ++ zeros)) y) (j : ℕ)
        → j < w → y j ≡ comb_of basis s.weights j
    head_of y s j l = ap (λ (f : Weights). f j) (s.combines ∙ comb-append basis zeros s.weights)
        ∙ ap (λ a. P.◌⊕◌ (comb_of basis s.weights j) a)
        (zero_column zeros j (λ i g. hz i g j l) (λ k. s.weights (length basis + k)))
        ∙ add-zero P.monoid (comb_of basis s.weights j)

    -- what is 0 up to w is a combination of the zero rows
    pub in_zeros : (y : Weights) → InSpan N (length (basis ++ zeros)) (up_rows o L (basis ++ zeros)) y
        → ((j : ℕ) → j < w → y j ≡ P.zero) → InSpan N (length zeros) (up_rows o L zeros) y
    in_zeros y s z =
        let none = no_weight o L w v basis places hb hp s.weights (λ j l. sym (head_of y s j l) ∙ z j l) in
        record {
          weights = λ k. s.weights (length basis + k);
          combines = s.combines ∙ comb-append basis zeros s.weights
              ∙ ap (λ x. N.◌⊕◌ x (comb_of zeros (λ k. s.weights (length basis + k))))
              (comb_zero N (length basis) s.weights (up_rows o L basis) none)
              ∙ N.zero-add (comb_of zeros (λ k. s.weights (length basis + k)));
        }

  pub back_independent : (a b : List (List (List E))) → Independent N (length (a ++ b)) (up_rows o L (a ++ b))
      → Independent N (length b) (up_rows o L b)
  back_independent a b h = record {
    only_zero = λ c z i l.
        let u : Weights = join (length a) (λ _. P.zero) c in
        sym (join-above (length a) (λ _. P.zero) c i)
        ∙ h.only_zero u (comb-append a b u ∙ ap₂ N.◌⊕◌
        (comb_zero N (length a) u (up_rows o L a) (λ k g. join-below (length a) (λ _. P.zero) c k g))
        (comb_congr N (length b) (λ k. u (length a + k)) c (up_rows o L b)
        (λ k g. join-above (length a) (λ _. P.zero) c k) ∙ z)
        ∙ N.zero-add N.zero) (length a + i) (omega (arith, l, length-append a b));
  }

  -- ---- columns up to w, and from there on

  module _ (w n : ℕ) (rows : List (List (List E))) (h : IsPolynomialMatrix o (w + n) rows) where
    pub tails-matrix : IsPolynomialMatrix o n (tails_of w rows)
    tails-matrix = All-table (IsPolynomialRow o n) (length rows) (λ i. drop w (get_or rows i []))
        (λ i l. let r = row_at o L (w + n) rows h i l in record {
          width = (let e = r.width in omega (arith, e, length-drop w (get_or rows i [])));
          over = All-drop (IsOver o) w (get_or rows i []) r.over;
          trimmed = All-drop (IsTrimmed o.zero) w (get_or rows i []) r.trimmed;
        })

    pub heads-matrix : IsPolynomialMatrix o w (heads_of w rows)
    heads-matrix = All-table (IsPolynomialRow o w) (length rows) (λ i. take w (get_or rows i []))
        (λ i l. let r = row_at o L (w + n) rows h i l in record {
          width = (let e = r.width in length-take-le w (get_or rows i []) (omega arith));
          over = All-take (IsOver o) w (get_or rows i []) r.over;
          trimmed = All-take (IsTrimmed o.zero) w (get_or rows i []) r.trimmed;
        })

  pub tails-entry : (w : ℕ) (rows : List (List (List E))) (i k : ℕ) → i < length rows
      → get_or (get_or (tails_of w rows) i []) k [] ≡ get_or (get_or rows i []) (w + k) []
  tails-entry w rows i k l =
      ap (λ r. get_or r k []) (get_or-table (length rows) (λ i. drop w (get_or rows i [])) i [] l)
      ∙ get_or-drop w (get_or rows i []) k []

  pub heads-entry : (w : ℕ) (rows : List (List (List E))) (i j : ℕ) → i < length rows → j < w
      → get_or (get_or (heads_of w rows) i []) j [] ≡ get_or (get_or rows i []) j []
  heads-entry w rows i j l g =
      ap (λ r. get_or r j []) (get_or-table (length rows) (λ i. take w (get_or rows i [])) i [] l)
      ∙ get_or-take w (get_or rows i []) j [] g

  -- entries from w on of a combination
  pub comb-tails : (w : ℕ) (rows : List (List (List E))) (c : Weights) (k : ℕ)
      → comb_of (tails_of w rows) c k ≡ comb_of rows c (w + k)
  comb-tails w rows c k =
      ap (λ n. comb N n c (up_rows o L (tails_of w rows)) k)
      (length-table (length rows) (λ i. drop w (get_or rows i [])))
      ∙ column_congr (length rows) (up_rows o L (tails_of w rows)) (up_rows o L rows) k (w + k)
      (λ i l. ap (up o L) (tails-entry w rows i k l)) c

  pub comb-heads : (w : ℕ) (rows : List (List (List E))) (c : Weights) (j : ℕ) → j < w
      → comb_of (heads_of w rows) c j ≡ comb_of rows c j
  comb-heads w rows c j g =
      ap (λ n. comb N n c (up_rows o L (heads_of w rows)) j)
      (length-table (length rows) (λ i. take w (get_or rows i [])))
      ∙ column_congr (length rows) (up_rows o L (heads_of w rows)) (up_rows o L rows) j j
      (λ i l. ap (up o L) (heads-entry w rows i j l g)) c

  -- the tails of independent rows that are 0 up to w are independent
  pub tails_independent : (w n : ℕ) (rows : List (List (List E)))
      → ((i : ℕ) → i < length rows → IsZeroUpTo w (get_or rows i []))
      → Independent N (length rows) (up_rows o L rows)
      → Independent N (length (tails_of w rows)) (up_rows o L (tails_of w rows))
  tails_independent w n rows hz h = record {
    only_zero = λ c z i l. h.only_zero c (fun_ext (λ j. ⊎_elim
        (λ (g : j < w). zero_column rows j (λ i q. hz i q j g) c)
        (λ (g : w ≤ j). let e : w + (j - w) ≡ j = omega arith in
        ap (comb_of rows c) (sym e) ∙ sym (comb-tails w rows c (j - w)) ∙ ap (λ (f : Weights). f (j - w)) z)
        (cases_lt j w)))
        i (omega (arith, l, length-table (length rows) (λ i. drop w (get_or rows i []))));
  }

  -- heads lead where the rows do
  pub heads-positions : (w : ℕ) (rows : List (List (List E))) (places : List ℕ) → HaveLeadingPositions w rows places
      → HaveLeadingPositions w (heads_of w rows) places
  heads-positions w rows places h =
      let e = length-table (length rows) (λ i. take w (get_or rows i [])) in
      record {
        count = h.count ∙ sym e;
        leads = λ i l. position i (omega (arith, l, e)) (h.leads i (omega (arith, l, e)));
        differ = λ i k l g. h.differ i k (omega (arith, l, e)) (omega (arith, g, e));
      }
    where
      position : (i : ℕ) → i < length rows → HasLeadingPosition w (get_or rows i []) (get_or places i 0)
          → HasLeadingPosition w (get_or (heads_of w rows) i []) (get_or places i 0)
      position i l g =
          let p = get_or places i 0 in
          let ep = ap length (heads-entry w rows i p l g.inside) in
          record {
            inside = g.inside;
            nonzero = (let x = g.nonzero in omega arith);
            within = λ j q. let x = g.within j q in let y = ap length (heads-entry w rows i j l q) in omega arith;
            after = λ j q k. let x = g.after j q k in let y = ap length (heads-entry w rows i j l q) in omega arith;
          }

-- each row followed by nothing
pub extended_by_nothing : {E : Type 0} (rows : List (List (List E)))
    → extended_by rows (zero_rows (length rows) 0) ≡ rows
extended_by_nothing {E} rows = ext_get_or [] (extended_by rows (zero_rows (length rows) 0)) rows
    (length-table (length rows) f)
    (λ i l. let g : i < length rows = omega (arith, l, length-table (length rows) f) in
    get_or-table (length rows) f i [] g
    ∙ ap (λ r. get_or rows i [] ++ r) (get_or-table (length rows) (λ _. []) i [] g) ∙ append-nil (get_or rows i []))
  where
    f : ℕ → List (List E)
    f i = get_or rows i [] ++ get_or (zero_rows (length rows) 0) i []
