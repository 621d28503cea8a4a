-- An invertible transform of rows keeps their lattice, and independence.
use Rattle.std.specs.Prelude.{◌≡◌, ℕ, ◌<◌, ◌≤◌, Bool, true, false, cond, nat_eq, List, [], ◌∷◌, length, get_or}
use Rattle.std.proofs.Common.{refl, sym, ◌∙◌, ap, subst, arith, ⊎_elim}
use Rattle.std.proofs.lemmas.Bool.{cases_lt, eq-eqb, ne_eqb}
use Rattle.std.proofs.lemmas.List.{get_or_past}
use Rattle.std.proofs.lemmas.List.Elements.{All-nil, All-cons}
use Rattle.std.proofs.Math.Path.{fun_ext}
use Rattle.theory_rings.specs.Ring.{CommRingOn}
use Rattle.theory_rings.specs.Ops.{Ops, IsElem, FieldLaws}
use Rattle.theory_rings.specs.Sum.{sum}
use Rattle.theory_rings.specs.Polynomial.{Poly}
use Rattle.theory_rings.proofs.Rings.RingLaws.{mul-zero}
use Rattle.theory_rings.proofs.Sums.Lists.{length-table, get_or-table}
use Rattle.theory_rings.proofs.Sums.Sums.{sum_eq_single}
use Rattle.theory_fractions.specs.PolynomialLists.{IsOver}
use Rattle.theory_fractions.proofs.Lifting.{lift_nil}
use Rattle.theory_spaces.specs.Module.{ModuleOn}
use Rattle.theory_spaces.specs.Linear.{comb, InSpan, Independent}
use Rattle.theory_spaces.proofs.Linear.Modules.{comb_congr, comb_congr_right, comb-comb, comb_zero}
use Rattle.theory_rows.specs.Augmented.{unit_row}
use Rattle.theory_rows.specs.Rows.{IsPolynomialMatrix, IsRowTransform, IsUnimodularImage}
use Rattle.theory_rows.specs.InvertibleMatrices.{IsSquarePolynomialMatrix, IsLeftInverse, IsInvertibleMatrix}
use Rattle.theory_rows.proofs.Transforms.{Transformed}
use Rattle.theory_rows.proofs.LiftedRows.{G, Q, M, up, up_row, up_rows, comb_at, matrix-over, up_combination}
use Rattle.theory_rows.proofs.LiftedRows.{image_of_up}
use Rattle.theory_rows.proofs.Kernels.{up_one}

module _ {E : Type 0} (o : Ops E) (L : FieldLaws o) where
  abbrev D : Type 0
  D = Poly (let F = G o L in F.cring)

  abbrev P : CommRingOn D
  P = Q o L

  abbrev N : ModuleOn P.ring (ℕ → D)
  N = M o L

  -- ---- unit rows

  abbrev δ : ℕ → ℕ → ℕ → D
  δ n i = up_row o L (unit_row o.one n i)

  unit-entry : (n i k : ℕ) → k < n → get_or (unit_row o.one n i) k [] ≡ cond (nat_eq k i) (o.one ∷ []) []
  unit-entry n i k l = get_or-table n (λ k. cond (nat_eq k i) (o.one ∷ []) []) k [] l

  unit-same : (n i : ℕ) → i < n → δ n i i ≡ P.one
  unit-same n i l = ap (up o L) (unit-entry n i i l ∙ ap (λ b. cond b (o.one ∷ []) []) (eq-eqb i i refl)) ∙ up_one o L

  unit-past : (n i k : ℕ) → n ≤ k → get_or (unit_row o.one n i) k [] ≡ []
  unit-past n i k l = get_or_past (unit_row o.one n i) k []
      (let e = length-table n (λ k. cond (nat_eq k i) (o.one ∷ []) []) in omega arith)

  unit-other : (n i k : ℕ) → (k ≡ i → ⊥) → δ n i k ≡ P.zero
  unit-other n i k d = ap (up o L) (⊎_elim
      (λ (l : k < n). unit-entry n i k l ∙ ap (λ b. cond b (o.one ∷ []) []) (ne_eqb k i d))
      (λ (l : n ≤ k). unit-past n i k l) (cases_lt k n)) ∙ lift_nil o L

  unit-over : (n i k : ℕ) → IsOver o (get_or (unit_row o.one n i) k [])
  unit-over n i k = ⊎_elim
      (λ (l : k < n). subst (IsOver o) (sym (unit-entry n i k l)) (either (nat_eq k i)))
      (λ (l : n ≤ k). subst (IsOver o) (sym (unit-past n i k l)) (All-nil (IsElem o))) (cases_lt k n)
    where
      either : (b : Bool) → IsOver o (cond b (o.one ∷ []) [])
      either true = All-cons (IsElem o) o.one [] L.one-elem (All-nil (IsElem o))
      either false = All-nil (IsElem o)

  -- the combination with a unit row as weights
  comb-unit : (n i : ℕ) → i < n → (v : ℕ → ℕ → D) → comb N n (δ n i) v ≡ v i
  comb-unit n i l v = fun_ext (λ t. comb_at o L n (δ n i) v t
      ∙ sum_eq_single P.monoid n i (λ k. P.◌⊗◌ (δ n i k) (v k t)) l
      (λ k _ d. ap (λ x. P.◌⊗◌ x (v k t)) (unit-other n i k d) ∙ P.mul_comm P.zero (v k t) ∙ mul-zero P.ring (v k t))
      ∙ ap (λ x. P.◌⊗◌ x (v i t)) (unit-same n i l) ∙ P.one-mul (v i t))

  -- that of the unit rows is its weights
  comb-units : (n i : ℕ) → i < n → (c : ℕ → D) → comb N n c (δ n) i ≡ c i
  comb-units n i l c = comb_at o L n c (δ n) i
      ∙ sum_eq_single P.monoid n i (λ k. P.◌⊗◌ (c k) (δ n k i)) l
      (λ k _ d. ap (P.◌⊗◌ (c k)) (unit-other n k i (λ e. d (sym e))) ∙ mul-zero P.ring (c k))
      ∙ ap (P.◌⊗◌ (c i)) (unit-same n i l) ∙ P.mul-one (c i)

  -- ---- a product that is the unit matrix

  product_unit : (n : ℕ) (s t : List (List (List E))) → IsSquarePolynomialMatrix o n s → IsSquarePolynomialMatrix o n t
      → IsLeftInverse o n s t
      → (i : ℕ) → i < n → comb N n (up_rows o L s i) (up_rows o L t) ≡ δ n i
  product_unit n s t hs ht h i l =
      sym (up_combination o L (get_or s i []) t (unit_row o.one n i) (matrix-over o L n s hs.matrix i)
      (matrix-over o L n t ht.matrix) (unit-over n i) (h i l)
      ∙ ap (λ k. comb N k (up_rows o L s i) (up_rows o L t)) ht.count)

  module _ (w : ℕ) (rows new t : List (List (List E))) (hr : IsPolynomialMatrix o w rows)
      (hn : IsPolynomialMatrix o w new) (h : IsRowTransform o rows new t) (inv : IsInvertibleMatrix o (length rows) t)
    where
      abbrev n : ℕ
      n = length rows

      abbrev v : ℕ → ℕ → D
      v = up_rows o L rows

      abbrev b : ℕ → ℕ → D
      b = up_rows o L new

      abbrev T : ℕ → ℕ → D
      T = up_rows o L t

      abbrev S : ℕ → ℕ → D
      S = up_rows o L inv.inverse

      new-length : length new ≡ n
      new-length = sym h.count ∙ (let q = inv.square in q.count)

      made : (i : ℕ) → i < n → b i ≡ comb N n (T i) v
      made i l = up_combination o L (get_or t i []) rows (get_or new i []) (matrix-over o L n t h.matrix i)
          (matrix-over o L w rows hr) (matrix-over o L w new hn i) (h.combines i (omega (arith, l, new-length)))

      -- combinations of the new rows, by the old ones
      through : (c : ℕ → D) → comb N n c b ≡ comb N n (λ k. sum P.monoid n (λ j. P.◌⊗◌ (c j) (T j k))) v
      through c = comb_congr_right N n c b (λ j. comb N n (T j) v) made ∙ comb-comb N n n c T v

      forth : (i : ℕ) → i < n → InSpan N n b (v i)
      forth i l = record {
        weights = S i;
        combines = sym (through (S i)
            ∙ comb_congr N n (λ k. sum P.monoid n (λ j. P.◌⊗◌ (S i j) (T j k))) (δ n i) v
            (λ k _. sym (comb_at o L n (S i) T k) ∙ ap (λ (f : ℕ → D). f k)
            (product_unit n inv.inverse t inv.inverse_square inv.square inv.left i l))
            ∙ comb-unit n i l v);
      }

      free : Independent N n v → Independent N n b
      free F = record {
        only_zero = λ c z i l.
            let d : ℕ → D = λ k. sum P.monoid n (λ j. P.◌⊗◌ (c j) (T j k)) in
            let none = F.only_zero d (sym (through c) ∙ z) in
            sym (comb-units n i l c)
            ∙ ap (λ (f : ℕ → D). f i) (comb_congr_right N n c (δ n) (λ j. comb N n (T j) S)
            (λ j g. sym (product_unit n t inv.inverse inv.square inv.inverse_square inv.right j g))
            ∙ comb-comb N n n c T S ∙ comb_zero N n d S none);
      }

      transformed : Transformed N n (length new) v b
      transformed = subst (λ k. Transformed N n k v b) (sym new-length) (record {
        forth = forth;
        back = λ i l. record { weights = T i; combines = made i l };
        free = free;
      })

      pub unimodular_image : IsUnimodularImage o w rows new
      unimodular_image = image_of_up o L w rows new hr hn transformed
