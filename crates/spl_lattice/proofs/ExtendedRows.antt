-- Rows with further columns that are brought in one after another, on lists over a program's field.
use Rattle.std.specs.Prelude.{◌≡◌, ℕ, suc, ◌+◌, ◌<◌, ◌≤◌, List, [], ◌∷◌, ◌++◌, length, get_or}
use Rattle.std.proofs.Common.{sym, ◌∙◌, ap, ap₂, subst, arith}
use Rattle.std.proofs.lemmas.List.{length-append, append_assoc, append-nil, get_or_default}
use Rattle.std.proofs.lemmas.List.Elements.{All-append, All-push}
use Rattle.theory_rings.specs.Ops.{Ops, FieldLaws}
use Rattle.theory_rings.specs.Sum.{table}
use Rattle.theory_rings.specs.Polynomial.{IsTrimmed}
use Rattle.theory_rings.proofs.Sums.Lists.{All-table}
use Rattle.spl_poly.specs.Operations.{IsOver}
use Rattle.theory_rows.specs.Rows.{IsPolynomialRow, IsPolynomialMatrix, IsUnimodularImage}
use Rattle.theory_rows.proofs.LiftedRows.{image_of_up, up_image, row_at}
use Rattle.theory_rows.proofs.Insertion.{transformed-more}
use Rattle.spl_lattice.specs.Reduction.{IsSplit, IsSplitOf}
use Rattle.spl_lattice.proofs.RowReduction.{image_refl, image_trans}

-- a copy of row i of one list, and then of another
pub joined : {X : Type 0} (rows tails : List (List X)) (i : ℕ) (a a' b b' r r' : List X) → i < length rows
    → i < length tails → a ≡ get_or rows i a → a' ≡ a → r ≡ a' → b ≡ get_or tails i b → b' ≡ b → r' ≡ r ++ b'
    → r' ≡ get_or rows i [] ++ get_or tails i []
joined rows tails i a a' b b' r r' l g ea ea' er eb eb' e =
    e ∙ ap₂ (λ x y. x ++ y) (er ∙ ea' ∙ ea ∙ get_or_default rows i a [] l) (eb' ∙ eb ∙ get_or_default tails i b [] g)

module _ {E : Type 0} (o : Ops E) (L : FieldLaws o) where
  -- the row i of the first list and that of the second
  abbrev pub both_rows : List (List (List E)) → List (List (List E)) → ℕ → List (List E)
  both_rows rows tails i = get_or rows i [] ++ get_or tails i []

  pub both_polynomials : (w t : ℕ) (rows tails : List (List (List E))) → IsPolynomialMatrix o w rows
      → IsPolynomialMatrix o t tails → length tails ≡ length rows → (i : ℕ) → i < length rows
      → IsPolynomialRow o (w + t) (both_rows rows tails i)
  both_polynomials w t rows tails hr ht e i l =
      let a = row_at o L w rows hr i l in
      let b = row_at o L t tails ht i (omega (arith, l, e)) in
      record {
        width = length-append (get_or rows i []) (get_or tails i []) ∙ ap₂ (λ x y. x + y) a.width b.width;
        over = All-append (IsOver o) (get_or rows i []) (get_or tails i []) a.over b.over;
        trimmed = All-append (IsTrimmed o.zero) (get_or rows i []) (get_or tails i []) a.trimmed b.trimmed;
      }

  pub split_start : (w v : ℕ) (basis : List (List (List E))) (places : List ℕ) (zeros : List (List (List E)))
      → IsSplit o w v basis places zeros → IsSplitOf o w v ((basis ++ zeros) ++ []) basis places zeros
  split_start w v basis places zeros s = subst (λ r. IsSplitOf o w v r basis places zeros)
      (sym (append-nil (basis ++ zeros)))
      (record { split = s; image = image_refl o v (basis ++ zeros) })

  module _ (w v : ℕ) (start : List (List (List E))) (n : ℕ) (f : ℕ → List (List E)) (hs : IsPolynomialMatrix o v start)
      (hf : (i : ℕ) → i < n → IsPolynomialRow o v (f i)) where
    pub split_pushed : (k : ℕ) → k < n → (basis : List (List (List E))) (places : List ℕ) (zeros : List (List (List E)))
        → IsSplitOf o w v (start ++ table k f) basis places zeros → (x : List (List E)) → x ≡ f k
        → (basis' : List (List (List E))) (places' : List ℕ) (zeros' : List (List (List E)))
        → IsSplitOf o w (length x) ((basis ++ zeros) ++ x ∷ []) basis' places' zeros'
        → IsSplitOf o w v (start ++ table (k + 1) f) basis' places' zeros'
    split_pushed k l basis places zeros s x e basis' places' zeros' g =
        let T = start ++ table k f in
        let S = basis ++ zeros in
        let hx : IsPolynomialRow o v x = subst (IsPolynomialRow o v) (sym e) (hf k l) in
        let a = s.split in
        let hT : IsPolynomialMatrix o v T = All-append (IsPolynomialRow o v) start (table k f) hs
        (All-table (IsPolynomialRow o v) k f (λ i q. hf i (omega (arith, q, l)))) in
        let hS : IsPolynomialMatrix o v S = All-append (IsPolynomialRow o v) basis zeros a.basis_rows a.zero_rows in
        let g' : IsSplitOf o w v (S ++ x ∷ []) basis' places' zeros' =
        subst (λ m. IsSplitOf o w m (S ++ x ∷ []) basis' places' zeros') hx.width g in
        let one : suc k ≡ k + 1 = omega arith in
        let longer : T ++ x ∷ [] ≡ start ++ table (k + 1) f = append_assoc start (table k f) (x ∷ [])
        ∙ ap (λ y. start ++ (table k f ++ y ∷ [])) e ∙ ap (λ m. start ++ table m f) one in
        record {
          split = g'.split;
          image = subst (λ r. IsUnimodularImage o v r (basis' ++ zeros')) longer
              (image_trans o v (T ++ x ∷ []) (S ++ x ∷ []) (basis' ++ zeros')
              (image_of_up o L v (T ++ x ∷ []) (S ++ x ∷ []) (All-push (IsPolynomialRow o v) T x hT hx)
              (All-push (IsPolynomialRow o v) S x hS hx)
              (transformed-more o L T S x (up_image o L v T S hT hS s.image))) g'.image);
        }

    pub split_ready : (k : ℕ) → k < n → w ≤ v → (basis : List (List (List E))) (places : List ℕ)
        (zeros : List (List (List E))) → IsSplitOf o w v (start ++ table k f) basis places zeros → (x : List (List E))
        → x ≡ f k → (w ≤ length x) × IsPolynomialRow o (length x) x × IsSplit o w (length x) basis places zeros
    split_ready k l le basis places zeros s x e =
        let hx : IsPolynomialRow o v x = subst (IsPolynomialRow o v) (sym e) (hf k l) in (
          subst (λ m. w ≤ m) (sym hx.width) le,
          subst (λ m. IsPolynomialRow o m x) (sym hx.width) hx,
          subst (λ m. IsSplit o w m basis places zeros) (sym hx.width) s.split,
        )
