-- Traces of linear maps: the same for both orders of a product, and 0 where some power is 0.
use Rattle.std.specs.Prelude.{◌≡◌, ℕ, zero, suc, ◌<◌}
use Rattle.std.proofs.Common.{refl, sym, ◌∙◌, ap, arith}
use Rattle.theory_rings.specs.Ring.{CommRingOn, FieldOn}
use Rattle.theory_rings.specs.Sum.{sum}
use Rattle.theory_rings.proofs.Sums.Sums.{sum_congr, sum_eq_zero}
use Rattle.theory_spaces.specs.Module.{ModuleOn}
use Rattle.theory_spaces.specs.Linear.{comb, Independent, Basis, IsLinear}
use Rattle.theory_spaces.specs.Algebra.{map_trace, iterate}
use Rattle.theory_spaces.proofs.Linear.Modules.{scale-zero, comb_congr_right, comb-comb, comb_injective}
use Rattle.theory_spaces.proofs.Linear.Modules.{map-comb, rows_of, independent_none}
use Rattle.theory_spaces.proofs.Matrices.Matrices.{mat_trace_comm}
use Rattle.theory_spaces.proofs.Linear.Families.{choose_each}
use Rattle.theory_spaces.proofs.Linear.Spaces.{coords_of, coord-comb, Grown, grow}

module _ {K V : Type 0} (C : CommRingOn K) (M : ModuleOn C.ring V) (m : ℕ) (B : Basis M m) where
  infixl 70 ◌⊗◌
  open C use {monoid, ◌⊗◌}

  -- f of a vector by the columns of f
  pub coord-map : (f : V → V) → IsLinear M M f → (x : V) (l : ℕ)
      → B.coord (f x) l ≡ sum monoid m (λ i. B.coord x i ⊗ B.coord (f (B.vec i)) l)
  coord-map f h x l = ap (λ y. B.coord (f y) l) (B.expand x)
      ∙ ap (λ y. B.coord y l) (map-comb M M f h m (B.coord x) B.vec)
      ∙ coord-comb M m (coords_of M m B) m (B.coord x) (λ i. f (B.vec i)) l

  -- tr(fg) = tr(gf)
  pub map_trace_comm : (f g : V → V) → IsLinear M M f → IsLinear M M g
      → map_trace M m B (λ x. f (g x)) ≡ map_trace M m B (λ x. g (f x))
  map_trace_comm f g hf hg =
      let F = λ (i j : ℕ). B.coord (f (B.vec i)) j in
      let G = λ (i j : ℕ). B.coord (g (B.vec i)) j in
      sum_congr monoid m (λ j. B.coord (f (g (B.vec j))) j) (λ j. sum monoid m (λ i. G j i ⊗ F i j))
      (λ j _. coord-map f hf (g (B.vec j)) j)
      ∙ mat_trace_comm C m m G F
      ∙ sum_congr monoid m (λ i. sum monoid m (λ j. F i j ⊗ G j i)) (λ i. B.coord (g (f (B.vec i))) i)
      (λ i _. sym (coord-map g hg (f (B.vec i)) i))

module _ {K V : Type 0} (F : FieldOn K) (M : ModuleOn F.ring V) (m : ℕ) (B : Basis M m) (f : V → V)
    (lf : IsLinear M M f) where
  -- independent vectors whose span f keeps, with the matrix of f on them
  record Kept (k : ℕ) (u : ℕ → V) (w : ℕ → ℕ → K) : Type 0 where
    pub free : Independent M k u
    pub maps : (i : ℕ) → i < k → f (u i) ≡ comb M k (w i) u

  -- the images of n vectors, the independent ones u among them, and their weights
  module _ (n : ℕ) (v : ℕ → V) where
    abbrev image : Grown F M m (coords_of M m B) zero (λ _. M.zero) n (λ j. f (v j))
    image = grow F M m (coords_of M m B) zero (λ _. M.zero) (independent_none M (λ _. M.zero)) n (λ j. f (v j))

    abbrev images : (a : ℕ → ℕ → K) × ((j : ℕ) → j < n → f (v j) ≡ comb M image.size (a j) image.vec)
    images = rows_of M n image.size (λ j. f (v j)) image.vec image.spans

    abbrev C : ℕ → ℕ → K
    C = images.0

    C-combines : (j : ℕ) → j < n → f (v j) ≡ comb M image.size (C j) image.vec
    C-combines = images.1

    -- where u l is the combination d l of v
    module _ (d : ℕ → ℕ → K) (inside : (l : ℕ) → l < image.size → image.vec l ≡ comb M n (d l) v) where
      abbrev next : ℕ → ℕ → K
      next l j = sum F.monoid n (λ i. F.◌⊗◌ (d l i) (C i j))

      kept_image : Kept image.size image.vec next
      kept_image = record {
        free = image.independent;
        maps = λ l g.
            ap f (inside l g) ∙ map-comb M M f lf n (d l) v
            ∙ comb_congr_right M n (d l) (λ i. f (v i)) (λ i. comb M image.size (C i) image.vec) C-combines
            ∙ comb-comb M n image.size (d l) C image.vec;
      }

      -- the diagonal of the product in the other order
      swapped : sum F.monoid n (λ i. sum F.monoid image.size (λ l. F.◌⊗◌ (C i l) (d l i))) ≡ sum F.monoid image.size
          (λ l. next l l)
      swapped = mat_trace_comm F.cring n image.size C d

  source : (k : ℕ) (u : ℕ → V) (w : ℕ → ℕ → K) → Kept k u w → (d : ℕ → ℕ → K)
      × ((l : ℕ) → l < (image k u).size → (image k u).vec l ≡ comb M k (d l) u)
  source k u w h = choose_each (image k u).size (λ l c. (image k u).vec l ≡ comb M k c u) (λ _. F.zero)
      (λ l q. let t = (image k u).taken l (omega arith) q in (w t.0, t.2 ∙ h.maps t.0 t.1))

  -- the diagonal of a nilpotent matrix sums to 0
  diagonal_zero : (e k : ℕ) (u : ℕ → V) (w : ℕ → ℕ → K) → Kept k u w → ((i : ℕ) → i < k → iterate f e (u i) ≡ M.zero)
      → sum F.monoid k (λ i. w i i) ≡ F.zero
  diagonal_zero zero k u w h z = none k (λ l. F.one-nonzero (h.free.only_zero (λ _. F.one)
      (sum_eq_zero M.monoid k (λ i. M.◌•◌ F.one (u i)) (λ i g. ap (M.◌•◌ F.one) (z i g) ∙ scale-zero M F.one)) 0 l))
    where
      none : (k : ℕ) → (0 < k → ⊥) → sum F.monoid k (λ i. w i i) ≡ F.zero
      none zero g = refl
      none (suc k) g = absurd (g (omega arith))
  diagonal_zero (suc e) k u w h z =
      let g = image k u in
      let d = source k u w h in
      sum_congr F.monoid k (λ i. w i i) (λ i. sum F.monoid g.size (λ l. F.◌⊗◌ (C k u i l) (d.0 l i)))
      (λ i l. comb_injective M k u h.free (w i) (λ j. sum F.monoid g.size (λ l. F.◌⊗◌ (C k u i l) (d.0 l j)))
      (sym (h.maps i l) ∙ C-combines k u i l
      ∙ comb_congr_right M g.size (C k u i) g.vec (λ l. comb M k (d.0 l) u) d.1
      ∙ comb-comb M g.size k (C k u i) d.0 u) i l)
      ∙ swapped k u d.0 d.1
      ∙ diagonal_zero e g.size g.vec (next k u d.0 d.1) (kept_image k u d.0 d.1)
      (λ l q. let t = g.taken l (omega arith) q in ap (iterate f e) t.2 ∙ z t.0 t.1)

  -- a nilpotent map has trace 0
  pub map_trace-nilpotent : (e : ℕ) → ((x : V) → iterate f e x ≡ M.zero) → map_trace M m B f ≡ F.zero
  map_trace-nilpotent e z =
      let g = image m B.vec in
      let d = λ (l i : ℕ). B.coord (g.vec l) i in
      let inside : (l : ℕ) → l < g.size → g.vec l ≡ comb M m (d l) B.vec = λ l q. B.expand (g.vec l) in
      sum_congr F.monoid m (λ j. B.coord (f (B.vec j)) j)
      (λ j. sum F.monoid g.size (λ l. F.◌⊗◌ (C m B.vec j l) (d l j)))
      (λ j l. ap (λ y. B.coord y j) (C-combines m B.vec j l)
      ∙ coord-comb M m (coords_of M m B) g.size (C m B.vec j) g.vec j)
      ∙ swapped m B.vec d inside
      ∙ diagonal_zero e g.size g.vec (next m B.vec d inside) (kept_image m B.vec d inside) (λ i l. z (g.vec i))
