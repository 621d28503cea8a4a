-- The steps by which a further row is brought into a list of reduced rows, as invertible transforms of lists of rows.
use Rattle.std.specs.Prelude.{◌≡◌, ℕ, suc, ◌+◌, ◌-◌, ◌<◌, ◌≤◌, List, [], ◌∷◌, ◌++◌, length, get_or, slice_set}
use Rattle.std.proofs.Common.{refl, sym, ◌∙◌, ap, subst, arith, ⊎_elim}
use Rattle.std.proofs.lemmas.Bool.{cases_lt}
use Rattle.std.proofs.lemmas.List.{get_or_append_left, length-append, append_assoc, get_or-set_same, get_or-set_other}
use Rattle.std.proofs.lemmas.List.{length-set, get_or-append_right}
use Rattle.std.proofs.Math.Path.{fun_ext}
use Rattle.std.proofs.Math.Seq.{get_or-append_seam}
use Rattle.theory_rings.specs.Ops.{Ops, FieldLaws}
use Rattle.theory_rings.specs.Polynomial.{Poly}
use Rattle.theory_rings.proofs.Rings.RingLaws.{add-zero}
use Rattle.theory_rings.proofs.Sums.Bump.{bump, bump-below, bump-above}
use Rattle.theory_spaces.specs.Linear.{InSpan}
use Rattle.theory_spaces.proofs.Linear.Modules.{comb_congr_right, InSpan-scale, InSpan-member, InSpan-zero}
use Rattle.theory_rows.proofs.Transforms.{Transformed, Transformed-refl, Transformed-last, Transformed_congr}
use Rattle.theory_rows.proofs.Orders.{Transformed-exchange, Transformed-insert}
use Rattle.theory_rows.proofs.LiftedRows.{G, Q, M, up_row, up_rows}

length-snoc : {X : Type 0} (xs : List X) (x : X) → length (xs ++ x ∷ []) ≡ suc (length xs)
length-snoc xs x = let e : length xs + 1 ≡ suc (length xs) = omega arith in length-append xs (x ∷ []) ∙ e

module _ {E : Type 0} (o : Ops E) (L : FieldLaws o) where
  abbrev Rows : Type 0
  Rows = List (List (List E))

  -- the rows of b are those of a after an invertible transform
  abbrev pub RowsTransformed : Rows → Rows → Type 0
  RowsTransformed a b = Transformed (M o L) (length a) (length b) (up_rows o L a) (up_rows o L b)

  by_counts : (a b : Rows) (n m : ℕ) → length a ≡ n → length b ≡ m
      → Transformed (M o L) n m (up_rows o L a) (up_rows o L b) → RowsTransformed a b
  by_counts a b n m ea eb t = subst (λ k. Transformed (M o L) k (length b) (up_rows o L a) (up_rows o L b)) (sym ea)
      (subst (λ k. Transformed (M o L) n k (up_rows o L a) (up_rows o L b)) (sym eb) t)

  -- one more row on both sides, to which on one side a combination of the others may be added
  module _ (a b : Rows) (x y : List (List E)) (s : ℕ → Poly (let F = G o L in F.cring)) where
    abbrev a' : Rows
    a' = a ++ x ∷ []

    abbrev b' : Rows
    b' = b ++ y ∷ []

    pub transformed-last : RowsTransformed a b → InSpan (M o L) (length a) (up_rows o L a) s
        → ((j : ℕ) → up_row o L y j ≡ (let P = Q o L in P.◌⊕◌ (up_row o L x j) (s j))) → RowsTransformed a' b'
    transformed-last t si e = by_counts a' b' (suc (length a)) (suc (length b)) (length-snoc a x) (length-snoc b y)
        (Transformed-last (M o L) (length a) (length b) (up_rows o L a') (up_rows o L b') s
        (Transformed_congr (M o L) (length a) (length b) (up_rows o L a) (up_rows o L a') (up_rows o L b)
        (up_rows o L b') old-a (λ i l. ap (up_row o L) (sym (get_or_append_left b (y ∷ []) [] i l))) t)
        (record {
          weights = si.weights;
          combines = si.combines
              ∙ comb_congr_right (M o L) (length a) si.weights (up_rows o L a) (up_rows o L a') old-a;
        })
        (fun_ext (λ j. ap (λ r. up_row o L r j) (get_or-append_seam b y [] []) ∙ e j
        ∙ ap (λ r. (let P = Q o L in P.◌⊕◌ (up_row o L r j) (s j))) (sym (get_or-append_seam a x [] [])))))
      where
        old-a : (i : ℕ) → i < length a → up_rows o L a i ≡ up_rows o L a' i
        old-a i l = ap (up_row o L) (sym (get_or_append_left a (x ∷ []) [] i l))

  -- one more row
  pub transformed-more : (a b : Rows) (x : List (List E)) → RowsTransformed a b
      → RowsTransformed (a ++ x ∷ []) (b ++ x ∷ [])
  transformed-more a b x t = transformed-last a b x x (let N = M o L in N.zero) t
      (InSpan-zero (M o L) (length a) (up_rows o L a))
      (λ j. sym (add-zero (let P = Q o L in P.monoid) (up_row o L x j)))

  module _ (basis zeros : Rows) (r : List (List E)) where
    abbrev before : Rows
    before = (basis ++ zeros) ++ r ∷ []

    -- with the row comes what was got before
    pub transformed_refl : RowsTransformed before before
    transformed_refl = Transformed-refl (M o L) (length before) (up_rows o L before)

    -- a multiple of a row of the basis is added to the row
    pub transformed-multiple : (r' : List (List E)) (i : ℕ) (m : Poly (let F = G o L in F.cring)) → i < length basis
        → ((j : ℕ) → up_row o L r' j
        ≡ (let P = Q o L in P.◌⊕◌ (up_row o L r j) (P.◌⊗◌ m (up_row o L (get_or basis i []) j))))
        → RowsTransformed before ((basis ++ zeros) ++ r' ∷ [])
    transformed-multiple r' i m l e =
        let n = length (basis ++ zeros) in
        let b = up_row o L (get_or basis i []) in
        let inside : i < n = omega (arith, l, length-append basis zeros) in
        transformed-last (basis ++ zeros) (basis ++ zeros) r r' (let N = M o L in N.◌•◌ m b)
        (Transformed-refl (M o L) n (up_rows o L (basis ++ zeros)))
        (InSpan-scale (M o L) n (up_rows o L (basis ++ zeros)) m b
        (subst (InSpan (M o L) n (up_rows o L (basis ++ zeros)))
        (ap (up_row o L) (get_or_append_left basis zeros [] i l))
        (InSpan-member (M o L) n i (up_rows o L (basis ++ zeros)) inside))) e

    -- the row and a row of the basis change places
    pub transformed-exchange : (i : ℕ) → i < length basis
        → RowsTransformed before ((slice_set basis i r ++ zeros) ++ get_or basis i [] ∷ [])
    transformed-exchange i l =
        by_counts before after (suc n) (suc n) (length-snoc (basis ++ zeros) r)
        (length-snoc (slice_set basis i r ++ zeros) (get_or basis i []) ∙ ap suc same_length)
        (Transformed-exchange (M o L) n (up_rows o L before) (up_rows o L after) i
        (omega (arith, l, length-append basis zeros))
        (ap (up_row o L) (early i (omega (arith, l, length-append basis zeros))
        ∙ get_or_append_left (slice_set basis i r) zeros [] i (omega (arith, l, length-set basis i r))
        ∙ get_or-set_same basis i r [] l ∙ sym (get_or-append_seam (basis ++ zeros) r [] [])))
        (ap (up_row o L) (ap (λ k. get_or after k []) (sym same_length)
        ∙ get_or-append_seam (slice_set basis i r ++ zeros) (get_or basis i []) [] []
        ∙ sym (get_or_append_left (basis ++ zeros) (r ∷ []) [] i (omega (arith, l, length-append basis zeros))
        ∙ get_or_append_left basis zeros [] i l)))
        (λ k h d. ap (up_row o L) (early k h ∙ other k d ∙ sym (get_or_append_left (basis ++ zeros) (r ∷ []) [] k h))))
      where
        n : ℕ
        n = length (basis ++ zeros)

        after : Rows
        after = (slice_set basis i r ++ zeros) ++ get_or basis i [] ∷ []

        same_length : length (slice_set basis i r ++ zeros) ≡ n
        same_length = length-append (slice_set basis i r) zeros ∙ ap (λ k. k + length zeros) (length-set basis i r)
            ∙ sym (length-append basis zeros)

        early : (k : ℕ) → k < n → get_or after k [] ≡ get_or (slice_set basis i r ++ zeros) k []
        early k h = get_or_append_left (slice_set basis i r ++ zeros) (get_or basis i [] ∷ []) [] k
            (omega (arith, h, same_length))

        other : (k : ℕ) → (k ≡ i → ⊥) → get_or (slice_set basis i r ++ zeros) k [] ≡ get_or (basis ++ zeros) k []
        other k d = ⊎_elim
            (λ (g : k < length basis).
            get_or_append_left (slice_set basis i r) zeros [] k (omega (arith, g, length-set basis i r))
            ∙ get_or-set_other basis i k r [] d ∙ sym (get_or_append_left basis zeros [] k g))
            (λ (g : length basis ≤ k).
            get_or-append_right (slice_set basis i r) zeros (length basis) k [] (length-set basis i r) g
            ∙ sym (get_or-append_right basis zeros (length basis) k [] refl g)) (cases_lt k (length basis))

    -- the row goes to the zero rows
    pub transformed-zero : RowsTransformed before (basis ++ (zeros ++ r ∷ []))
    transformed-zero = subst (RowsTransformed before) (append_assoc basis zeros (r ∷ [])) transformed_refl

    -- the row goes to the basis
    pub transformed-push : RowsTransformed before ((basis ++ r ∷ []) ++ zeros)
    transformed-push = by_counts before after (suc n) (suc n) (length-snoc (basis ++ zeros) r) after_length
        (Transformed-insert (M o L) n (up_rows o L before) (up_rows o L after) (length basis)
        (omega (arith, length-append basis zeros))
        (ap (up_row o L) (get_or_append_left (basis ++ r ∷ []) zeros [] (length basis)
        (omega (arith, length-snoc basis r)) ∙ get_or-append_seam basis r [] []
        ∙ sym (get_or-append_seam (basis ++ zeros) r [] [])))
        (λ k h. ap (up_row o L) (moved k ∙ sym (get_or_append_left (basis ++ zeros) (r ∷ []) [] k h))))
      where
        n : ℕ
        n = length (basis ++ zeros)

        after : Rows
        after = (basis ++ r ∷ []) ++ zeros

        after_length : length after ≡ suc n
        after_length =
            let e : suc (length basis) + length zeros ≡ suc (length basis + length zeros) = omega arith in
            length-append (basis ++ r ∷ []) zeros ∙ ap (λ k. k + length zeros) (length-snoc basis r) ∙ e
            ∙ ap suc (sym (length-append basis zeros))

        moved : (k : ℕ) → get_or after (bump (length basis) k) [] ≡ get_or (basis ++ zeros) k []
        moved k = ⊎_elim
            (λ (g : k < length basis). ap (λ j. get_or after j []) (bump-below (length basis) k g)
            ∙ get_or_append_left (basis ++ r ∷ []) zeros [] k (omega (arith, g, length-snoc basis r))
            ∙ get_or_append_left basis (r ∷ []) [] k g ∙ sym (get_or_append_left basis zeros [] k g))
            (λ (g : length basis ≤ k). ap (λ j. get_or after j []) (bump-above (length basis) k g)
            ∙ get_or-append_right (basis ++ r ∷ []) zeros (suc (length basis)) (suc k) [] (length-snoc basis r)
            (omega arith)
            ∙ (let e : suc k - suc (length basis) ≡ k - length basis = omega arith in ap (λ j. get_or zeros j []) e)
            ∙ sym (get_or-append_right basis zeros (length basis) k [] refl g)) (cases_lt k (length basis))
