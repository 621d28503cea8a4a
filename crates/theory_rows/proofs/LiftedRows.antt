-- Rows of lists as rows over the ring of polynomials: combinations, lattices and independence on lists are those in the
-- module of functions to polynomials.
use Rattle.std.specs.Prelude.{◌≡◌, ℕ, ◌<◌, ◌≤◌, List, [], ◌∷◌, length, get_or}
use Rattle.std.proofs.Common.{refl, sym, ◌∙◌, ap, subst, arith, ⊎_elim}
use Rattle.std.proofs.lemmas.Bool.{cases_lt}
use Rattle.std.proofs.lemmas.List.{get_or_past, length-map}
use Rattle.std.proofs.lemmas.List.Elements.{All-nil, All-get_or}
use Rattle.std.proofs.Math.Path.{fun_ext}
use Rattle.theory_rings.specs.Ring.{CommRingOn, FieldOn}
use Rattle.theory_rings.specs.Ops.{Ops, IsElem, FieldLaws}
use Rattle.theory_rings.specs.Elements.{Elem, elements}
use Rattle.theory_rings.specs.Sum.{at, sum, sum_of, table}
use Rattle.theory_rings.specs.Polynomial.{Poly, IsTrimmed, convolution_of}
use Rattle.theory_rings.proofs.Sums.Sums.{map-sum}
use Rattle.theory_rings.proofs.Sums.Lists.{length-table, get_or-table, All-table}
use Rattle.theory_rings.proofs.Polynomials.PolynomialRing.{last-ne-zero, IsTrimmed-injective}
use Rattle.theory_rings.proofs.Polynomials.ElementLists.{values, at-values, IsTrimmed-values}
use Rattle.theory_fractions.specs.PolynomialLists.{IsOver}
use Rattle.theory_fractions.proofs.Lifting.{P, Has, lift, has-lift, has-sum, has-mul, lift_nil, values-over}
use Rattle.theory_fractions.proofs.Lifting.{eq_of_coefficients, coefficients_of_eq}
use Rattle.theory_spaces.specs.Module.{ModuleOn}
use Rattle.theory_spaces.specs.Linear.{comb, InSpan, Independent}
use Rattle.theory_spaces.specs.Functions.{functions}
use Rattle.theory_spaces.proofs.Linear.Modules.{comb_congr, InSpan_trans, InSpan-member}
use Rattle.theory_rows.specs.Rows.{IsPolynomialRow, IsPolynomialMatrix, IsRowCombination, InRowLattice}
use Rattle.theory_rows.specs.Rows.{SameRowLattice, RowsAreIndependent, IsUnimodularImage}
use Rattle.theory_rows.proofs.Transforms.{Transformed}

module _ {E : Type 0} (o : Ops E) (L : FieldLaws o) where
  abbrev pub G : FieldOn (Elem o)
  G = elements o L

  abbrev pub Q : CommRingOn (Poly G.cring)
  Q = P o L

  abbrev pub up : List E → Poly G.cring
  up = lift o L

  -- the functions to polynomials
  abbrev pub M : ModuleOn Q.ring (ℕ → Poly G.cring)
  M = functions Q.ring

  abbrev pub up_row : List (List E) → ℕ → Poly G.cring
  up_row row j = up (get_or row j [])

  abbrev pub up_rows : List (List (List E)) → ℕ → ℕ → Poly G.cring
  up_rows rows i = up_row (get_or rows i [])

  -- ---- entries

  pub entry-over : (w : ℕ) (row : List (List E)) → IsPolynomialRow o w row → (j : ℕ) → IsOver o (get_or row j [])
  entry-over w row h j = ⊎_elim
      (λ (l : j < length row). All-get_or (IsOver o) row j [] l h.over)
      (λ (l : length row ≤ j). subst (IsOver o) (sym (get_or_past row j [] l)) (All-nil (IsElem o)))
      (cases_lt j (length row))

  pub entry-trimmed : (w : ℕ) (row : List (List E)) → IsPolynomialRow o w row → (j : ℕ)
      → IsTrimmed o.zero (get_or row j [])
  entry-trimmed w row h j = ⊎_elim
      (λ (l : j < length row). All-get_or (IsTrimmed o.zero) row j [] l h.trimmed)
      (λ (l : length row ≤ j). subst (IsTrimmed o.zero) (sym (get_or_past row j [] l)) tt)
      (cases_lt j (length row))

  pub entry_past : (w : ℕ) (row : List (List E)) → IsPolynomialRow o w row → (j : ℕ) → w ≤ j → get_or row j [] ≡ []
  entry_past w row h j l = let e = h.width in get_or_past row j [] (omega arith)

  pub row-nil : IsPolynomialRow o 0 []
  row-nil = record { width = refl; over = All-nil (IsOver o); trimmed = All-nil (IsTrimmed o.zero) }

  pub row_at : (w : ℕ) (rows : List (List (List E))) → IsPolynomialMatrix o w rows → (i : ℕ) → i < length rows
      → IsPolynomialRow o w (get_or rows i [])
  row_at w rows h i l = All-get_or (IsPolynomialRow o w) rows i [] l h

  pub matrix-over : (w : ℕ) (rows : List (List (List E))) → IsPolynomialMatrix o w rows → (i j : ℕ)
      → IsOver o (get_or (get_or rows i []) j [])
  matrix-over w rows h i j = ⊎_elim
      (λ (l : i < length rows). entry-over w (get_or rows i []) (row_at w rows h i l) j)
      (λ (l : length rows ≤ i). subst (λ r. IsOver o (get_or r j [])) (sym (get_or_past rows i [] l))
      (All-nil (IsElem o)))
      (cases_lt i (length rows))

  pub matrix-trimmed : (w : ℕ) (rows : List (List (List E))) → IsPolynomialMatrix o w rows → (i j : ℕ)
      → IsTrimmed o.zero (get_or (get_or rows i []) j [])
  matrix-trimmed w rows h i j = ⊎_elim
      (λ (l : i < length rows). entry-trimmed w (get_or rows i []) (row_at w rows h i l) j)
      (λ (l : length rows ≤ i). subst (λ r. IsTrimmed o.zero (get_or r j [])) (sym (get_or_past rows i [] l)) tt)
      (cases_lt i (length rows))

  -- a list is the values of its polynomial
  pub values-up : (a : List E) → IsOver o a → IsTrimmed o.zero a → values o L (up a).0 ≡ a
  values-up a h t = IsTrimmed-injective o.zero (values o L (up a).0) a (IsTrimmed-values o L (up a).0 (up a).1) t
      (λ k. at-values o L (up a).0 k ∙ sym (has-lift o L a h k))

  pub length-up : (a : List E) → IsOver o a → IsTrimmed o.zero a → length (up a).0 ≡ length a
  length-up a h t = sym (length-map (up a).0 (λ x. x.0)) ∙ ap length (values-up a h t)

  pub up_values : (p : Poly G.cring) → up (values o L p.0) ≡ p
  up_values p = eq_of_coefficients o L (up (values o L p.0)) p (at o (values o L p.0)) (at o (values o L p.0))
      (has-lift o L (values o L p.0) (values-over o L p.0)) (at-values o L p.0) (λ k. refl)

  -- a list that does not end with 0 and whose polynomial is 0 is empty
  pub nil_of_up : (a : List E) → IsOver o a → IsTrimmed o.zero a → up a ≡ Q.zero → a ≡ []
  nil_of_up [] h t e = refl
  nil_of_up (x ∷ xs) h t e = absurd (last-ne-zero o.zero x xs t
      (coefficients_of_eq o L (up (x ∷ xs)) (up []) (at o (x ∷ xs)) (at o []) (has-lift o L (x ∷ xs) h)
      (has-lift o L [] (All-nil (IsElem o))) (e ∙ sym (lift_nil o L)) (length xs)))

  -- ---- combinations

  pub comb_at : (n : ℕ) (c : ℕ → Poly G.cring) (v : ℕ → ℕ → Poly G.cring) (t : ℕ)
      → comb M n c v t ≡ sum Q.monoid n (λ i. Q.◌⊗◌ (c i) (v i t))
  comb_at n c v t = map-sum M.monoid Q.monoid (λ f. f t) refl (λ f g. refl) n (λ i. M.◌•◌ (c i) (v i))

  -- entry j of the combination of the rows with weights c
  abbrev pub combined : List (List E) → List (List (List E)) → ℕ → Poly G.cring
  combined c rows j = sum Q.monoid (length rows) (λ i. Q.◌⊗◌ (up_row c i) (up_rows rows i j))

  pub has-combined : (c : List (List E)) (rows : List (List (List E))) → ((i : ℕ) → IsOver o (get_or c i []))
      → ((i j : ℕ) → IsOver o (get_or (get_or rows i []) j [])) → (j : ℕ)
      → Has o L (combined c rows j) (λ k. sum_of o (length rows)
      (λ i. convolution_of o (at o (get_or c i [])) (at o (get_or (get_or rows i []) j [])) k))
  has-combined c rows hc hr j = has-sum o L (length rows) (λ i. Q.◌⊗◌ (up_row c i) (up_rows rows i j))
      (λ i. convolution_of o (at o (get_or c i [])) (at o (get_or (get_or rows i []) j [])))
      (λ i l. has-mul o L (up_row c i) (up_rows rows i j) (at o (get_or c i []))
      (at o (get_or (get_or rows i []) j [])) (has-lift o L (get_or c i []) (hc i))
      (has-lift o L (get_or (get_or rows i []) j []) (hr i j)))

  module _ (c : List (List E)) (rows : List (List (List E))) (x : List (List E))
      (hc : (i : ℕ) → IsOver o (get_or c i [])) (hr : (i j : ℕ) → IsOver o (get_or (get_or rows i []) j []))
      (hx : (j : ℕ) → IsOver o (get_or x j [])) where
    pub up_combination : IsRowCombination o c rows x → up_row x ≡ comb M (length rows) (up_row c) (up_rows rows)
    up_combination e = fun_ext (λ j.
        eq_of_coefficients o L (up_row x j) (combined c rows j) (at o (get_or x j []))
        (λ k. sum_of o (length rows)
        (λ i. convolution_of o (at o (get_or c i [])) (at o (get_or (get_or rows i []) j [])) k))
        (has-lift o L (get_or x j []) (hx j)) (has-combined c rows hc hr j) (e j)
        ∙ sym (comb_at (length rows) (up_row c) (up_rows rows) j))

    pub combination_of_up : ((j : ℕ) → up_row x j ≡ comb M (length rows) (up_row c) (up_rows rows) j)
        → IsRowCombination o c rows x
    combination_of_up e j =
        coefficients_of_eq o L (up_row x j) (combined c rows j) (at o (get_or x j []))
        (λ k. sum_of o (length rows)
        (λ i. convolution_of o (at o (get_or c i [])) (at o (get_or (get_or rows i []) j [])) k))
        (has-lift o L (get_or x j []) (hx j)) (has-combined c rows hc hr j)
        (e j ∙ comb_at (length rows) (up_row c) (up_rows rows) j)

  -- ---- weights

  -- the row of these polynomials
  abbrev pub row_of : ℕ → (ℕ → Poly G.cring) → List (List E)
  row_of n c = table n (λ i. values o L (c i).0)

  pub row_of-row : (n : ℕ) (c : ℕ → Poly G.cring) → IsPolynomialRow o n (row_of n c)
  row_of-row n c = record {
    width = length-table n (λ i. values o L (c i).0);
    over = All-table (IsOver o) n (λ i. values o L (c i).0) (λ i l. values-over o L (c i).0);
    trimmed = All-table (IsTrimmed o.zero) n (λ i. values o L (c i).0)
        (λ i l. IsTrimmed-values o L (c i).0 (c i).1);
  }

  pub up-row_of : (n : ℕ) (c : ℕ → Poly G.cring) (i : ℕ) → i < n → up_row (row_of n c) i ≡ c i
  up-row_of n c i l = ap up (get_or-table n (λ i. values o L (c i).0) i [] l) ∙ up_values (c i)

  pub up_row-nil : (j : ℕ) → up_row [] j ≡ Q.zero
  up_row-nil j = lift_nil o L

  pub row_unique : (w : ℕ) (x : List (List E)) → IsPolynomialRow o w x → ((j : ℕ) → j < w → up_row x j ≡ Q.zero)
      → (j : ℕ) → get_or x j [] ≡ []
  row_unique w x h e j = ⊎_elim
      (λ (l : j < w). nil_of_up (get_or x j []) (entry-over w x h j) (entry-trimmed w x h j) (e j l))
      (λ (l : w ≤ j). entry_past w x h j l) (cases_lt j w)

  module _ (w : ℕ) (rows : List (List (List E))) (hr : IsPolynomialMatrix o w rows) where
    abbrev n : ℕ
    n = length rows

    -- ---- lattices

    pub span_of_lattice : (x : List (List E)) → IsPolynomialRow o w x → InRowLattice o rows x
        → InSpan M n (up_rows rows) (up_row x)
    span_of_lattice x hx h = record {
      weights = up_row h.weights;
      combines = up_combination h.weights rows x (entry-over n h.weights h.polynomials) (matrix-over w rows hr)
          (entry-over w x hx) h.combines;
    }

    pub lattice_of_span : (x : List (List E)) → IsPolynomialRow o w x → InSpan M n (up_rows rows) (up_row x)
        → InRowLattice o rows x
    lattice_of_span x hx s =
        let c = row_of n s.weights in
        let hc = row_of-row n s.weights in
        record {
          weights = c;
          polynomials = hc;
          combines = combination_of_up c rows x (entry-over n c hc) (matrix-over w rows hr) (entry-over w x hx)
              (λ j. ap (λ (f : ℕ → Poly G.cring). f j) (s.combines
              ∙ comb_congr M n s.weights (up_row c) (up_rows rows) (λ i l. sym (up-row_of n s.weights i l))));
        }

    pub member_in : (i : ℕ) → i < n → InRowLattice o rows (get_or rows i [])
    member_in i l = lattice_of_span (get_or rows i []) (row_at w rows hr i l) (InSpan-member M n i (up_rows rows) l)

    -- ---- independence

    pub up_independent : RowsAreIndependent o rows → Independent M n (up_rows rows)
    up_independent h = record {
      only_zero = λ c z i l.
          let d = row_of n c in
          let hd = row_of-row n c in
          let e : (j : ℕ) → up_row [] j ≡ comb M n (up_row d) (up_rows rows) j = λ j. up_row-nil j
          ∙ ap (λ (f : ℕ → Poly G.cring). f j) (sym z
          ∙ comb_congr M n c (up_row d) (up_rows rows) (λ i l. sym (up-row_of n c i l))) in
          sym (up-row_of n c i l)
          ∙ ap up (h d hd (combination_of_up d rows [] (entry-over n d hd) (matrix-over w rows hr)
          (entry-over 0 [] row-nil) e) i) ∙ lift_nil o L;
    }

    pub independent_of_up : Independent M n (up_rows rows) → RowsAreIndependent o rows
    independent_of_up h c hc e = row_unique n c hc (h.only_zero (up_row c)
        (sym (up_combination c rows [] (entry-over n c hc) (matrix-over w rows hr) (entry-over 0 [] row-nil) e)
        ∙ fun_ext (λ j. up_row-nil j)))

  -- ---- transforms

  pub same_of_spans : (w : ℕ) (a b : List (List (List E))) → IsPolynomialMatrix o w a → IsPolynomialMatrix o w b
      → ((i : ℕ) → i < length a → InSpan M (length b) (up_rows b) (up_rows a i))
      → ((i : ℕ) → i < length b → InSpan M (length a) (up_rows a) (up_rows b i)) → SameRowLattice o w a b
  same_of_spans w a b ha hb forth back x hx = (
    λ h. lattice_of_span w b hb x hx (InSpan_trans M (length a) (length b) (up_rows a) (up_rows b) (up_row x) forth
        (span_of_lattice w a ha x hx h)),
    λ h. lattice_of_span w a ha x hx (InSpan_trans M (length b) (length a) (up_rows b) (up_rows a) (up_row x) back
        (span_of_lattice w b hb x hx h)),
  )

  module _ (w : ℕ) (a b : List (List (List E))) (ha : IsPolynomialMatrix o w a) (hb : IsPolynomialMatrix o w b) where
    pub image_of_up : Transformed M (length a) (length b) (up_rows a) (up_rows b) → IsUnimodularImage o w a b
    image_of_up t = record {
      same = same_of_spans w a b ha hb t.forth t.back;
      independent = λ h. independent_of_up w b hb (t.free (up_independent w a ha h));
    }

    pub up_image : IsUnimodularImage o w a b → Transformed M (length a) (length b) (up_rows a) (up_rows b)
    up_image s = record {
      forth = λ i l. span_of_lattice w b hb (get_or a i []) (row_at w a ha i l)
          ((s.same (get_or a i []) (row_at w a ha i l)).0 (member_in w a ha i l));
      back = λ i l. span_of_lattice w a ha (get_or b i []) (row_at w b hb i l)
          ((s.same (get_or b i []) (row_at w b hb i l)).1 (member_in w b hb i l));
      free = λ h. up_independent w b hb (s.independent (independent_of_up w a ha h));
    }
