-- What the reduction of rows with further columns gives: reduced rows with their transform, kernels, sums and meets of
-- row lattices, on lists over a program's field.
use Rattle.std.specs.Prelude.{◌≡◌, ℕ, ℤ, pos, suc, ◌+◌, ◌<◌, ◌≤◌, Bool, true, false, cond, nat_eq, List, [], ◌∷◌, ◌++◌}
use Rattle.std.specs.Prelude.{length, get_or}
use Rattle.std.specs.List.{All}
use Rattle.std.proofs.Common.{refl, sym, ◌∙◌, ap, subst, arith, ⊎_elim}
use Rattle.std.proofs.lemmas.Bool.{cases_lt}
use Rattle.std.proofs.lemmas.List.{append_assoc, append-nil, get_or_past, get_or_append_left, length-append}
use Rattle.std.proofs.Math.Seq.{get_or-append_seam}
use Rattle.std.proofs.lemmas.List.Elements.{All-nil, All-cons, All-append, All-get_or, All-push}
use Rattle.theory_rings.specs.Ops.{Ops, IsElem, FieldLaws}
use Rattle.theory_rings.specs.Polynomial.{IsTrimmed}
use Rattle.theory_rings.proofs.Sums.Lists.{length-table, All-table}
use Rattle.theory_tables.specs.Matrix.{width_of}
use Rattle.theory_rows.specs.Rows.{IsPolynomialRow, IsPolynomialMatrix, IsUnimodularImage, SameRowLattice}
use Rattle.theory_rows.specs.Rows.{IsRowTransform, IsLatticeBasis, InRowKernel, InLatticeSum, InLatticeMeet}
use Rattle.theory_rows.specs.Rows.{RowsAreIndependent}
use Rattle.theory_rows.specs.LeadingPositions.{HaveLeadingPositions, IsZeroUpTo, HaveRowDegrees}
use Rattle.theory_rows.specs.LeadingPositions.{AreReducedRows, row_degree}
use Rattle.theory_rows.specs.Augmented.{heads_of, tails_of, extended_by, zero_row, zero_rows, unit_row, unit_rows}
use Rattle.theory_rows.proofs.LiftedRows.{image_of_up, up_image, row_at}
use Rattle.theory_rows.proofs.Insertion.{RowsTransformed, transformed-more}
use Rattle.theory_rows.proofs.Kernels.{kernel_basis, heads_same, heads_transform, heads_matrix, heads_positions}
use Rattle.theory_rows.proofs.SumsAndMeets.{basis_same, basis_independent, sum_basis, meet_same, meet_basis}
use Rattle.theory_rows.proofs.Splits.{heads-positions, heads-matrix}
use Rattle.spl_poly.specs.Operations.{IsOver}
use Rattle.spl_lattice.specs.Reduction.{IsSplit, IsSplitOf}
use Rattle.spl_lattice.proofs.RowReduction.{image_trans}
use Rattle.spl_lattice.proofs.ExtendedRows.{both_rows, both_polynomials}

either_way : {X : Type 0} (P : X → Type 0) (b : Bool) (x y : X) → P x → P y → P (cond b x y)
either_way P true x y h g = h
either_way P false x y h g = g

-- an entry that is not 0 is within the row
pub length_of_entry : {X : Type 0} (row : List (List X)) (p : ℕ) → 0 < length (get_or row p []) → p < length row
length_of_entry row p n = ⊎_elim (λ (l : p < length row). l)
    (λ (l : length row ≤ p). let e = ap length (get_or_past row p [] l) in absurd (omega arith))
    (cases_lt p (length row))

-- the degrees of one more row
pub degrees_pushed : {E : Type 0} (rows : List (List (List E))) (places : List ℕ) (i : ℕ) (ds new : List ℤ) (d : ℤ)
    → length ds ≡ i → ((k : ℕ) → k < i → get_or ds k (pos 0) ≡ pos (row_degree rows places k)) → new ≡ ds ++ d ∷ []
    → d ≡ pos (row_degree rows places i)
    → record {
      count : length new ≡ i + 1;
      each : (k : ℕ) → k < i + 1 → get_or new k (pos 0) ≡ pos (row_degree rows places k);
    }
degrees_pushed rows places i ds new d n h e ed = record {
  count = ap length e ∙ length-append ds (d ∷ []) ∙ ap (λ m. m + 1) n;
  each = λ k l. ⊎_elim
      (λ (g : k < i). ap (λ xs. get_or xs k (pos 0)) e ∙ get_or_append_left ds (d ∷ []) (pos 0) k (omega (arith, g, n))
      ∙ h k g)
      (λ (g : i ≤ k). let q : length ds ≡ k = omega (arith, g, l, n) in
      let q' : i ≡ k = omega arith in
      ap (λ xs. get_or xs k (pos 0)) e ∙ ap (λ m. get_or (ds ++ d ∷ []) m (pos 0)) (sym q)
      ∙ get_or-append_seam ds d [] (pos 0) ∙ ed ∙ ap (λ m. pos (row_degree rows places m)) q') (cases_lt k i);
}

-- the first w entries of rows of one width are all that they have
pub positions_of_width : {E : Type 0} (w : ℕ) (rows : List (List (List E))) (places : List ℕ)
    → ((i : ℕ) → i < length rows → length (get_or rows i []) ≡ w) → HaveLeadingPositions w rows places
    → HaveLeadingPositions (width_of rows) rows places
positions_of_width w [] places h p = record {
  count = p.count;
  leads = λ i l. absurd (omega arith);
  differ = p.differ;
}
positions_of_width w (r ∷ rs) places h p =
    subst (λ m. HaveLeadingPositions m (r ∷ rs) places) (sym (h 0 (omega arith))) p

module _ {E : Type 0} (o : Ops E) (L : FieldLaws o) where
  abbrev Rows : Type 0
  Rows = List (List (List E))

  -- ---- the rows that are put after others

  pub unit_rows-matrix : (n : ℕ) → IsPolynomialMatrix o n (unit_rows o.one n)
  unit_rows-matrix n = All-table (IsPolynomialRow o n) n (λ i. unit_row o.one n i) (λ i l. record {
    width = length-table n (λ k. cond (nat_eq k i) (o.one ∷ []) []);
    over = All-table (IsOver o) n (λ k. cond (nat_eq k i) (o.one ∷ []) [])
        (λ k g. either_way (IsOver o) (nat_eq k i) (o.one ∷ []) []
        (All-cons (IsElem o) o.one [] L.one-elem (All-nil (IsElem o)))
        (All-nil (IsElem o)));
    trimmed = All-table (IsTrimmed o.zero) n (λ k. cond (nat_eq k i) (o.one ∷ []) [])
        (λ k g. either_way (IsTrimmed o.zero) (nat_eq k i) (o.one ∷ []) [] L.one-nonzero tt);
  })

  pub zero_rows-matrix : (n w : ℕ) → IsPolynomialMatrix o w (zero_rows n w)
  zero_rows-matrix n w = All-table (IsPolynomialRow o w) n (λ _. zero_row w) (λ i l. record {
    width = length-table {X = List E} w (λ _. []);
    over = All-table (IsOver o) w (λ _. []) (λ k g. All-nil (IsElem o));
    trimmed = All-table (IsTrimmed o.zero) w (λ _. []) (λ k g. tt);
  })

  pub extended-matrix : (w t : ℕ) (rows tails : Rows) → IsPolynomialMatrix o w rows → IsPolynomialMatrix o t tails
      → length tails ≡ length rows → IsPolynomialMatrix o (w + t) (extended_by rows tails)
  extended-matrix w t rows tails hr ht e =
      All-table (IsPolynomialRow o (w + t)) (length rows) (both_rows o L rows tails)
      (both_polynomials o L w t rows tails hr ht e)

  pub units-length : (n : ℕ) → length (unit_rows o.one n) ≡ n
  units-length n = length-table n (λ i. unit_row o.one n i)

  pub zeros-length : (n w : ℕ) → length (zero_rows {E = E} n w) ≡ n
  zeros-length n w = length-table n (λ _. zero_row w)

  -- ---- what heads and tails want

  pub rows_over : (v : ℕ) (rows : Rows) → IsPolynomialMatrix o v rows → All (All (IsOver o)) rows
  rows_over v rows h i d l = let r = h i d l in r.over

  pub rows_wide : (w t : ℕ) (rows : Rows) → IsPolynomialMatrix o (w + t) rows → All (λ row. w ≤ length row) rows
  rows_wide w t rows h i d l = let r = h i d l in let e = r.width in omega arith

  -- ---- no rows at the start

  pub no_split : (w v : ℕ) → IsSplit o w v [] [] []
  no_split w v = record {
    basis_rows = All-nil (IsPolynomialRow o v);
    zero_rows = All-nil (IsPolynomialRow o v);
    positions = record {
      count = refl;
      leads = λ i l. absurd (omega arith);
      differ = λ i k l g e. absurd (omega arith);
    };
    zero = All-nil (IsZeroUpTo w);
  }

  pub split_read : (w v : ℕ) (basis : Rows) (places : List ℕ) (zeros : Rows) → basis ≡ [] → places ≡ [] → zeros ≡ []
      → IsSplit o w v basis places zeros
  split_read w v basis places zeros eb ep ez = subst (λ b. IsSplit o w v b places zeros) (sym eb)
      (subst (λ q. IsSplit o w v [] q zeros) (sym ep) (subst (IsSplit o w v [] []) (sym ez) (no_split w v)))

  -- what was brought in where no rows were
  pub from_nothing : (w v : ℕ) (b z X basis : Rows) (places : List ℕ) (zeros : Rows) → b ≡ [] → z ≡ []
      → IsSplitOf o w v ((b ++ z) ++ X) basis places zeros → IsSplitOf o w v X basis places zeros
  from_nothing w v b z X basis places zeros eb ez h =
      subst (λ x. IsSplitOf o w v (([] ++ x) ++ X) basis places zeros) ez
      (subst (λ x. IsSplitOf o w v ((x ++ z) ++ X) basis places zeros) eb h)

  -- ---- what was read, and in other words

  pub matrix_read : (w v : ℕ) (rows read : Rows) → w ≡ v → read ≡ rows → IsPolynomialMatrix o v rows
      → IsPolynomialMatrix o w read
  matrix_read w v rows read e er h = subst (λ m. IsPolynomialMatrix o m read) (sym e)
      (subst (IsPolynomialMatrix o v) (sym er) h)

  -- the heads of reduced rows are reduced, with the width that they have
  module _ (w n : ℕ) (basis : Rows) (places : List ℕ) (zeros : Rows) (h : IsSplit o w (w + n) basis places zeros)
      (b : Rows) (eb : b ≡ heads_of w basis) where
    pub heads_lead : HaveLeadingPositions w b places
    heads_lead = subst (λ r. HaveLeadingPositions w r places) (sym eb) (heads-positions o L w basis places h.positions)

    pub heads_reduced : (degrees : List ℤ) → HaveRowDegrees b places degrees → AreReducedRows (width_of b) b degrees
    heads_reduced degrees d = record {
      places = places;
      positions = positions_of_width w b places (λ i l.
          let r = row_at o L w b (subst (IsPolynomialMatrix o w) (sym eb) (heads-matrix o L w n basis h.basis_rows))
          i l in
          r.width) heads_lead;
      degrees_are = d;
    }

  -- ---- further rows on both sides

  pub image_append : (v : ℕ) (a s b : Rows) → IsPolynomialMatrix o v a → IsPolynomialMatrix o v s
      → IsPolynomialMatrix o v b → IsUnimodularImage o v a s → IsUnimodularImage o v (a ++ b) (s ++ b)
  image_append v a s [] ha hs hb h = subst (λ x. IsUnimodularImage o v x (s ++ [])) (sym (append-nil a))
      (subst (IsUnimodularImage o v a) (sym (append-nil s)) h)
  image_append v a s (x ∷ b) ha hs hb h =
      let hx : IsPolynomialRow o v x = All-get_or (IsPolynomialRow o v) (x ∷ b) 0 [] (omega arith) hb in
      let rest : IsPolynomialMatrix o v b = λ i d l. hb (suc i) d (omega arith) in
      let ax = All-push (IsPolynomialRow o v) a x ha hx in
      let sx = All-push (IsPolynomialRow o v) s x hs hx in
      subst (λ y. IsUnimodularImage o v y (s ++ x ∷ b)) (append_assoc a (x ∷ []) b)
      (subst (IsUnimodularImage o v ((a ++ x ∷ []) ++ b)) (append_assoc s (x ∷ []) b)
      (image_append v (a ++ x ∷ []) (s ++ x ∷ []) b ax sx rest
      (image_of_up o L v (a ++ x ∷ []) (s ++ x ∷ []) ax sx (transformed-more o L a s x (up_image o L v a s ha hs h)))))

  -- one split after another
  pub split_append : (w v : ℕ) (a b basis : Rows) (places : List ℕ) (zeros basis' : Rows) (places' : List ℕ)
      (zeros' : Rows)
      → IsPolynomialMatrix o v a → IsPolynomialMatrix o v b
      → IsSplitOf o w v a basis places zeros → IsSplitOf o w v ((basis ++ zeros) ++ b) basis' places' zeros'
      → IsSplitOf o w v (a ++ b) basis' places' zeros'
  split_append w v a b basis places zeros basis' places' zeros' ha hb s t =
      let x = s.split in
      record {
        split = t.split;
        image = image_trans o v (a ++ b) ((basis ++ zeros) ++ b) (basis' ++ zeros')
            (image_append v a (basis ++ zeros) b ha
            (All-append (IsPolynomialRow o v) basis zeros x.basis_rows x.zero_rows) hb s.image) t.image;
      }

  -- ---- the results

  module _ (w v : ℕ) (X basis : Rows) (places : List ℕ) (zeros : Rows) (hX : IsPolynomialMatrix o v X)
      (s : IsSplitOf o w v X basis places zeros) where
    abbrev x : IsSplit o w v basis places zeros
    x = s.split

    moved : RowsTransformed o L X (basis ++ zeros)
    moved = up_image o L v X (basis ++ zeros) hX
        (All-append (IsPolynomialRow o v) basis zeros x.basis_rows x.zero_rows) s.image

    none : (i : ℕ) → i < length zeros → IsZeroUpTo w (get_or zeros i [])
    none i l = All-get_or (IsZeroUpTo w) zeros i [] l x.zero

  module _ (w : ℕ) (rows basis : Rows) (places : List ℕ) (zeros : Rows) (hr : IsPolynomialMatrix o w rows)
      (s : IsSplitOf o w (w + length rows) (extended_by rows (unit_rows o.one (length rows))) basis places zeros) where
    abbrev n : ℕ
    n = length rows

    abbrev X : Rows
    X = extended_by rows (unit_rows o.one n)

    abbrev h : IsSplit o w (w + n) basis places zeros
    h = s.split

    hX : IsPolynomialMatrix o (w + n) X
    hX = extended-matrix w n rows (unit_rows o.one n) hr (unit_rows-matrix n) (units-length n)

    pub kernel_of_split : IsLatticeBasis o n (InRowKernel o rows) (tails_of w zeros)
    kernel_of_split = kernel_basis o L rows w hr basis zeros places h.basis_rows h.zero_rows
        (moved w (w + n) X basis places zeros hX s) h.positions (none w (w + n) X basis places zeros hX s)

    pub reduced_matrix : IsPolynomialMatrix o w (heads_of w basis)
    reduced_matrix = heads_matrix o L rows w hr basis zeros places h.basis_rows h.zero_rows
        (moved w (w + n) X basis places zeros hX s) h.positions (none w (w + n) X basis places zeros hX s)

    pub reduced_same : SameRowLattice o w rows (heads_of w basis)
    reduced_same = heads_same o L rows w hr basis zeros places h.basis_rows h.zero_rows
        (moved w (w + n) X basis places zeros hX s) h.positions (none w (w + n) X basis places zeros hX s)

    pub reduced_transform : IsRowTransform o rows (heads_of w basis) (tails_of w basis)
    reduced_transform = heads_transform o L rows w hr basis zeros places h.basis_rows h.zero_rows
        (moved w (w + n) X basis places zeros hX s) h.positions (none w (w + n) X basis places zeros hX s)

    pub reduced_positions : HaveLeadingPositions w (heads_of w basis) places
    reduced_positions = heads_positions o L rows w hr basis zeros places h.basis_rows h.zero_rows
        (moved w (w + n) X basis places zeros hX s) h.positions (none w (w + n) X basis places zeros hX s)

  module _ (w : ℕ) (X basis : Rows) (places : List ℕ) (zeros : Rows) (hX : IsPolynomialMatrix o w X)
      (s : IsSplitOf o w w X basis places zeros) where
    abbrev g : IsSplit o w w basis places zeros
    g = s.split

    pub split_same : SameRowLattice o w X basis
    split_same = basis_same o L w X basis zeros places hX g.basis_rows g.zero_rows (moved w w X basis places zeros hX s)
        g.positions (none w w X basis places zeros hX s)

    pub split_independent : RowsAreIndependent o basis
    split_independent = basis_independent o L w X basis zeros places hX g.basis_rows g.zero_rows
        (moved w w X basis places zeros hX s) g.positions (none w w X basis places zeros hX s)

  pub sum_of_split : (w : ℕ) (a b basis : Rows) (places : List ℕ) (zeros : Rows) → IsPolynomialMatrix o w a
      → IsPolynomialMatrix o w b → IsSplitOf o w w (a ++ b) basis places zeros
      → IsLatticeBasis o w (InLatticeSum o w a b) basis
  sum_of_split w a b basis places zeros ha hb s =
      let hab = All-append (IsPolynomialRow o w) a b ha hb in
      let x = s.split in
      sum_basis o L w a b basis ha hb x.basis_rows (split_independent w (a ++ b) basis places zeros hab s)
      (split_same w (a ++ b) basis places zeros hab s)

  pub meet_of_splits : (w : ℕ) (a b left : Rows) (left_places : List ℕ) (left_zeros right : Rows)
      (right_places : List ℕ)
      (right_zeros basis : Rows) (places : List ℕ) (zeros : Rows) → IsPolynomialMatrix o w a → IsPolynomialMatrix o w b
      → IsSplitOf o w w a left left_places left_zeros → IsSplitOf o w w b right right_places right_zeros
      → IsSplitOf o w (w + w) (extended_by left left ++ extended_by right (zero_rows (length right) w))
      basis places zeros
      → IsLatticeBasis o w (InLatticeMeet o a b) (tails_of w zeros)
  meet_of_splits w a b left lp lz right rp rz basis places zeros ha hb s t u =
      let l = s.split in
      let r = t.split in
      let x = u.split in
      let X = extended_by left left ++ extended_by right (zero_rows (length right) w) in
      let hX : IsPolynomialMatrix o (w + w) X = All-append (IsPolynomialRow o (w + w)) (extended_by left left)
      (extended_by right (zero_rows (length right) w))
      (extended-matrix w w left left l.basis_rows l.basis_rows refl)
      (extended-matrix w w right (zero_rows (length right) w) r.basis_rows (zero_rows-matrix (length right) w)
      (zeros-length (length right) w)) in
      meet_same o L w a b left right (tails_of w zeros) (split_same w a left lp lz ha s)
      (split_same w b right rp rz hb t)
      (meet_basis o L w left right l.basis_rows r.basis_rows (split_independent w a left lp lz ha s)
      (split_independent w b right rp rz hb t) basis zeros places x.basis_rows x.zero_rows
      (moved w (w + w) X basis places zeros hX u) x.positions (none w (w + w) X basis places zeros hX u))
