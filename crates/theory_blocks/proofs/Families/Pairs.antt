-- Families with two indices: the images of n vectors by m linear maps, when they are independent, and what they span.
use Rattle.std.specs.Prelude.{◌≡◌, ℕ, zero, suc, ◌+◌, ◌*◌, ◌/◌, ◌%◌, ◌<◌}
use Rattle.std.proofs.Common.{refl, sym, ◌∙◌, ap, ap₂, arith}
use Rattle.std.proofs.lemmas.Nat.{div-mul-add, mod-mul-add, div-add-mod'}
use Rattle.theory_rings.specs.Ring.{AddCommMonoidOn, RingOn}
use Rattle.theory_rings.specs.Sum.{sum}
use Rattle.theory_rings.proofs.Sums.Sums.{sum_congr, sum-split}
use Rattle.theory_spaces.specs.Module.{ModuleOn}
use Rattle.theory_spaces.specs.Linear.{comb, InSpan, Independent, IsLinear}
use Rattle.theory_spaces.proofs.Linear.Modules.{comb_congr, rows_of, map-comb}
use Rattle.theory_spaces.proofs.Matrices.PairIndex.{row-lt, column-lt}

-- a sum over pairs, row by row
pub sum_pairs : {V : Type 0} (G : AddCommMonoidOn V) (n m : ℕ) (f : ℕ → V)
    → sum G (n * m) f ≡ sum G n (λ i. sum G m (λ j. f (i * m + j)))
sum_pairs G zero m f = let e : 0 * m ≡ 0 = omega arith in ap (λ t. sum G t f) e
sum_pairs G (suc n) m f =
    let e : suc n * m ≡ n * m + m = omega arith in
    ap (λ t. sum G t f) e ∙ sum-split G (n * m) m f
    ∙ ap (λ x. G.◌⊕◌ x (sum G m (λ j. f (n * m + j)))) (sum_pairs G n m f)

module _ {K V W : Type 0} {R : RingOn K} (M : ModuleOn R V) (N : ModuleOn R W) (n m : ℕ) (g : ℕ → V → W)
    (linear : (k : ℕ) → IsLinear M N (g k)) (v : ℕ → V) where
  -- the images of the vectors v by the maps g, map by map
  abbrev pub images : ℕ → W
  images t = g (t / m) (v (t % m))

  pub comb-images : (c : ℕ → K) → comb N (n * m) c images ≡ sum N.monoid n (λ k. g k (comb M m (λ j. c (k * m + j)) v))
  comb-images c =
      sum_pairs N.monoid n m (λ t. N.◌•◌ (c t) (images t))
      ∙ sum_congr N.monoid n (λ k. sum N.monoid m (λ j. N.◌•◌ (c (k * m + j)) (images (k * m + j))))
      (λ k. g k (comb M m (λ j. c (k * m + j)) v))
      (λ k _. sum_congr N.monoid m (λ j. N.◌•◌ (c (k * m + j)) (images (k * m + j)))
      (λ j. N.◌•◌ (c (k * m + j)) (g k (v j)))
      (λ j l. ap₂ (λ p q. N.◌•◌ (c (k * m + j)) (g p (v q))) (div-mul-add k m j l) (mod-mul-add k m j l))
      ∙ sym (map-comb M N (g k) (linear k) m (λ j. c (k * m + j)) v))

  -- the images of independent vectors are independent where g 0 (w 0) + .. is 0 only for combinations w of them that
  -- are 0
  pub independent_images : Independent M m v
      → ((w : ℕ → V) → ((k : ℕ) → k < n → InSpan M m v (w k)) → sum N.monoid n (λ k. g k (w k)) ≡ N.zero → (k : ℕ)
      → k < n → w k ≡ M.zero)
      → Independent N (n * m) images
  independent_images free h = record {
    only_zero = λ c e t l.
        let w : ℕ → V = λ k. comb M m (λ j. c (k * m + j)) v in
        let none = h w (λ k _. record { weights = λ j. c (k * m + j); combines = refl }) (sym (comb-images c) ∙ e)
        (t / m) (row-lt n m t l) in
        ap c (sym (div-add-mod' t m)) ∙ free.only_zero (λ j. c (t / m * m + j)) none (t % m) (column-lt n m t l);
  }

  -- they span the sums g 0 (w 0) + .. of combinations w
  pub span_images : (w : ℕ → V) → ((k : ℕ) → k < n → InSpan M m v (w k))
      → InSpan N (n * m) images (sum N.monoid n (λ k. g k (w k)))
  span_images w h =
      let a = rows_of M n m w v h in
      let c : ℕ → K = λ t. a.0 (t / m) (t % m) in
      record {
        weights = c;
        combines = sym (comb-images c
            ∙ sum_congr N.monoid n (λ k. g k (comb M m (λ j. c (k * m + j)) v)) (λ k. g k (w k))
            (λ k l. ap (g k) (comb_congr M m (λ j. c (k * m + j)) (a.0 k) v
            (λ j q. ap₂ a.0 (div-mul-add k m j q) (mod-mul-add k m j q)) ∙ sym (a.1 k l))));
      }
