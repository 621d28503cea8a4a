-- Spaces of finitely many coordinates: independent vectors extend, families have a basis of their span.
use Rattle.std.specs.Prelude.{◌≡◌, ℕ, zero, suc, ◌<◌, ◌≤◌, ◌⊎◌}
use Rattle.std.proofs.Common.{refl, sym, ◌∙◌, ap, ap₂, subst, arith, inl, inr, ⊎_elim}
use Rattle.std.proofs.lemmas.Bool.{cases_lt}
use Rattle.theory_rings.specs.Ring.{RingOn, FieldOn}
use Rattle.theory_rings.specs.Sum.{sum}
use Rattle.theory_rings.proofs.Rings.RingLaws.{add-zero, mul-zero}
use Rattle.theory_rings.proofs.Sums.Bump.{bump, bump-below}
use Rattle.theory_rings.proofs.Sums.Sums.{sum_congr, map-sum}
use Rattle.theory_rings.proofs.Rings.ZeroTests.{eq_zero_or}
use Rattle.theory_spaces.specs.Module.{ModuleOn}
use Rattle.theory_spaces.specs.Linear.{comb, InSpan, Independent, Coords, Basis, BasisOf, Extension}
use Rattle.theory_spaces.proofs.Linear.Families.{push, push-below, push-above, push-at, below_suc}
use Rattle.theory_spaces.proofs.Linear.Modules.{zero-scale, comb_congr_right, comb_zero, comb_congr, comb-add}
use Rattle.theory_spaces.proofs.Linear.Modules.{comb-scale, comb-push, comb_injective, InSpan_trans, InSpan-member}
use Rattle.theory_spaces.proofs.Linear.Modules.{InSpan-push, InSpan-push_at, independent_none}
use Rattle.theory_spaces.proofs.Linear.Decide.{decide, Related, Free}
use Rattle.theory_spaces.proofs.Linear.Dimension.{exchange, in_others, dimension_unique}

module _ {K V : Type 0} {R : RingOn K} (M : ModuleOn R V) where
  -- the coordinates by a basis tell vectors apart
  abbrev pub coords_of : (n : ℕ) → Basis M n → Coords M n
  coords_of n B = record {
    coord = B.coord;
    coord-zero = B.coord-zero;
    coord-add = B.coord-add;
    coord-scale = B.coord-scale;
    faithful = λ x h. B.expand x ∙ comb_zero M n (B.coord x) B.vec h;
  }

  pub coord-comb : (m : ℕ) (C : Coords M m) (n : ℕ) (c : ℕ → K) (v : ℕ → V) (j : ℕ)
      → C.coord (comb M n c v) j ≡ sum R.monoid n (λ i. R.◌⊗◌ (c i) (C.coord (v i) j))
  coord-comb m C n c v j =
      map-sum M.monoid R.monoid (λ x. C.coord x j) (C.coord-zero j) (λ x y. C.coord-add x y j) n
      (λ i. M.◌•◌ (c i) (v i))
      ∙ sum_congr R.monoid n (λ i. C.coord (M.◌•◌ (c i) (v i)) j) (λ i. R.◌⊗◌ (c i) (C.coord (v i) j))
      (λ i _. C.coord-scale (c i) (v i) j)

  -- independent vectors that span everything are a basis
  module _ (n : ℕ) (v : ℕ → V) (ind : Independent M n v) (span : (x : V) → InSpan M n v x) where
    abbrev pub coord_in : V → ℕ → K
    coord_in x = push n R.zero (span x).weights

    pub coord_in-expand : (x : V) → x ≡ comb M n (coord_in x) v
    coord_in-expand x = (span x).combines
        ∙ sym (comb_congr M n (coord_in x) (span x).weights v (push-below n R.zero (span x).weights))

    pub coord_in-of : (x : V) (c : ℕ → K) → x ≡ comb M n c v → (i : ℕ) → i < n → coord_in x i ≡ c i
    coord_in-of x c e i l = comb_injective M n v ind (coord_in x) c (sym (coord_in-expand x) ∙ e) i l

    pub coord_in-above : (x : V) (i : ℕ) → n ≤ i → coord_in x i ≡ R.zero
    coord_in-above x i l = push-above n R.zero (span x).weights i l

    abbrev pub basis_of : Basis M n
    basis_of = record {
      vec = v;
      independent = ind;
      coord = coord_in;
      coord-zero = λ i. ⊎_elim
          (λ (l : i < n). coord_in-of M.zero (λ _. R.zero) (sym (comb_zero M n (λ _. R.zero) v (λ j g. refl))) i l)
          (λ (l : n ≤ i). coord_in-above M.zero i l) (cases_lt i n);
      coord-add = λ x y i. ⊎_elim
          (λ (l : i < n). coord_in-of (M.◌⊕◌ x y) (λ j. R.◌⊕◌ (coord_in x j) (coord_in y j))
          (ap₂ M.◌⊕◌ (coord_in-expand x) (coord_in-expand y) ∙ sym (comb-add M n (coord_in x) (coord_in y) v)) i l)
          (λ (l : n ≤ i). coord_in-above (M.◌⊕◌ x y) i l
          ∙ sym (ap₂ R.◌⊕◌ (coord_in-above x i l) (coord_in-above y i l) ∙ R.zero-add R.zero)) (cases_lt i n);
      coord-scale = λ a x i. ⊎_elim
          (λ (l : i < n). coord_in-of (M.◌•◌ a x) (λ j. R.◌⊗◌ a (coord_in x j))
          (ap (M.◌•◌ a) (coord_in-expand x) ∙ sym (comb-scale M n a (coord_in x) v)) i l)
          (λ (l : n ≤ i). coord_in-above (M.◌•◌ a x) i l ∙ sym (ap (R.◌⊗◌ a) (coord_in-above x i l) ∙ mul-zero R a))
          (cases_lt i n);
      expand = coord_in-expand;
    }

  -- the coordinates of a combination of a basis are its weights
  pub Basis-coord : (n : ℕ) (B : Basis M n) (c : ℕ → K) (i : ℕ) → i < n → B.coord (comb M n c B.vec) i ≡ c i
  Basis-coord n B c i l =
      comb_injective M n B.vec B.independent (B.coord (comb M n c B.vec)) c (sym (B.expand (comb M n c B.vec))) i l

module _ {K V : Type 0} (F : FieldOn K) (M : ModuleOn F.ring V) (m : ℕ) (C : Coords M m) where
  infixl 65 ◌⊕◌
  infixl 70 ◌•◌
  open M use {additive, monoid, ◌⊕◌, ◌•◌}

  -- a relation with a weight at x puts x in the span
  solved : (n : ℕ) (c : ℕ → K) (v : ℕ → V) (x : V) → (c n ≡ F.zero → ⊥) → comb M (suc n) c (push n x v) ≡ M.zero
      → InSpan M n v x
  solved n c v x d e =
      let s = in_others F M n n c (push n x v) (omega arith) e d in
      record {
        weights = s.weights;
        combines = sym (push-at n x v) ∙ s.combines
            ∙ comb_congr_right M n s.weights (λ i. push n x v (bump n i)) v
            (λ i l. ap (push n x v) (bump-below n i l) ∙ push-below n x v i l);
      }

  -- a vector lies in the span of independent ones, or makes them one more
  pub extend_or_span : (n : ℕ) (v : ℕ → V) → Independent M n v → (x : V) → InSpan M n v x
      ⊎ Independent M (suc n) (push n x v)
  extend_or_span n v h x = ⊎_elim
      (λ (r : Related F (suc n) m (λ i j. C.coord (push n x v i) j)). inl (
      let e : comb M (suc n) r.weights (push n x v) ≡ M.zero =
      C.faithful (comb M (suc n) r.weights (push n x v))
      (λ j l. coord-comb M m C (suc n) r.weights (push n x v) j ∙ r.vanishes j l) in
      let e1 : comb M n r.weights v ⊕ r.weights n • x ≡ M.zero = sym (comb-push M n r.weights x v) ∙ e in
      ⊎_elim
      (λ (z : r.weights n ≡ F.zero).
      let e2 : comb M n r.weights v ≡ M.zero =
      sym (add-zero monoid (comb M n r.weights v))
      ∙ ap (λ y. comb M n r.weights v ⊕ y) (sym (ap (λ a. a • x) z ∙ zero-scale M x)) ∙ e1 in
      let all : (i : ℕ) → i < n → r.weights i ≡ F.zero = h.only_zero r.weights e2 in
      let p = r.nontrivial in
      absurd (p.nonzero (⊎_elim (λ (l : p.place < n). all p.place l)
      (λ (l : n ≤ p.place). let w = p.within in let q : p.place ≡ n = omega arith in ap r.weights q ∙ z)
      (cases_lt p.place n))))
      (λ (d : r.weights n ≡ F.zero → ⊥). solved n r.weights v x d e)
      (eq_zero_or F.zero_test (r.weights n))))
      (λ (f : Free F (suc n) m (λ i j. C.coord (push n x v i) j)). inr (record {
        only_zero = λ c e. f.only_zero c
            (λ j l. sym (coord-comb M m C (suc n) c (push n x v) j) ∙ ap (λ y. C.coord y j) e ∙ C.coord-zero j);
      }))
      (decide F m (suc n) (λ i j. C.coord (push n x v i) j))

  -- the independent vectors u, and those of v that they do not span, added one at a time
  pub record Grown (k : ℕ) (u : ℕ → V) (n : ℕ) (v : ℕ → V) : Type 0 where
    pub size : ℕ
    pub vec : ℕ → V
    pub larger : k ≤ size
    pub starts : (i : ℕ) → i < k → vec i ≡ u i
    pub independent : Independent M size vec
    pub spans : (i : ℕ) → i < n → InSpan M size vec (v i)
    pub taken : (j : ℕ) → k ≤ j → j < size → (i : ℕ) × (i < n) × (vec j ≡ v i)

  pub grow : (k : ℕ) (u : ℕ → V) → Independent M k u → (n : ℕ) (v : ℕ → V) → Grown k u n v
  grow k u h zero v = record {
    size = k;
    vec = u;
    larger = omega arith;
    starts = λ i l. refl;
    independent = h;
    spans = λ i l. absurd (omega arith);
    taken = λ j l g. absurd (omega arith);
  }
  grow k u h (suc n) v = let g = grow k u h n v in
      ⊎_elim (stays g) (more g) (extend_or_span g.size g.vec g.independent (v n))
    where
      stays : (g : Grown k u n v) → InSpan M g.size g.vec (v n) → Grown k u (suc n) v
      stays g s = record {
        size = g.size;
        vec = g.vec;
        larger = g.larger;
        starts = g.starts;
        independent = g.independent;
        spans = below_suc n (λ i. InSpan M g.size g.vec (v i)) g.spans s;
        taken = λ j l b. let t = g.taken j l b in (t.0, (let w = t.1 in omega arith), t.2);
      }

      more : (g : Grown k u n v) → Independent M (suc g.size) (push g.size (v n) g.vec) → Grown k u (suc n) v
      more g ind =
          let larger = g.larger in
          record {
            size = suc g.size;
            vec = push g.size (v n) g.vec;
            larger = omega arith;
            starts = λ i l. push-below g.size (v n) g.vec i (omega arith) ∙ g.starts i l;
            independent = ind;
            spans = below_suc n (λ i. InSpan M (suc g.size) (push g.size (v n) g.vec) (v i))
                (λ i l. InSpan-push M g.size (v n) g.vec (v i) (g.spans i l)) (InSpan-push_at M g.size (v n) g.vec);
            taken = λ j l b. ⊎_elim
                (λ (d : j < g.size). let t = g.taken j l d in
                (t.0, (let w = t.1 in omega arith), push-below g.size (v n) g.vec j d ∙ t.2))
                (λ (d : g.size ≤ j). let e : g.size ≡ j = omega arith in
                (n, omega arith, ap (push g.size (v n) g.vec) (sym e) ∙ push-at g.size (v n) g.vec))
                (cases_lt j g.size);
          }

  -- m independent vectors of a space that m vectors span are a basis
  pub full_span : (n : ℕ) (e v : ℕ → V) → ((x : V) → InSpan M n e x) → Independent M n v → (x : V) → InSpan M n v x
  full_span n e v spans h x = ⊎_elim
      (λ (s : InSpan M n v x). s)
      (λ (i : Independent M (suc n) (push n x v)).
      let l = exchange F M (suc n) n (push n x v) e i (λ j g. spans (push n x v j)) in absurd (omega arith))
      (extend_or_span n v h x)

  -- what finitely many vectors span has a basis among them
  pub span_basis : (n : ℕ) (v : ℕ → V) → (r : ℕ) × BasisOf M r (InSpan M n v)
  span_basis n v =
      let g = grow zero v (independent_none M v) n v in (
        g.size,
        record {
          vec = g.vec;
          independent = g.independent;
          inside = λ j l. let t = g.taken j (omega arith) l in let P : V
              → Type 0 = InSpan M n v in subst P (sym t.2) (InSpan-member M n t.0 v t.1);
          spans = λ x s. InSpan_trans M n g.size v g.vec x g.spans s;
        },
      )

module _ {K V : Type 0} (F : FieldOn K) (M : ModuleOn F.ring V) where
  -- two bases of a subspace have one size
  pub BasisOf-size : (n m : ℕ) (S : V → Type 0) → BasisOf M n S → BasisOf M m S → n ≡ m
  BasisOf-size n m S B C =
      let l : n ≤ m = exchange F M n m B.vec C.vec B.independent (λ i g. C.spans (B.vec i) (B.inside i g)) in
      let g : m ≤ n = exchange F M m n C.vec B.vec C.independent (λ i g. B.spans (C.vec i) (C.inside i g)) in
      omega arith

  -- independent vectors are the first of a basis
  pub extend_basis : (n : ℕ) → Basis M n → (k : ℕ) (u : ℕ → V) → Independent M k u → Extension M k u n
  extend_basis n B k u h =
      let g = grow F M n (coords_of M n B) k u h n B.vec in
      let spans : (x : V) → InSpan M g.size g.vec x = λ x.
      InSpan_trans M n g.size B.vec g.vec x g.spans (record { weights = B.coord x; combines = B.expand x }) in
      let C : Basis M g.size = basis_of M g.size g.vec g.independent spans in
      subst (Extension M k u) (dimension_unique F M g.size n C B) (record { basis = C; starts = g.starts })
