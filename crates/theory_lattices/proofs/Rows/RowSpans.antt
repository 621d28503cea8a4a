-- Combinations of rows in their first w places.
use Rattle.std.specs.Prelude.{◌≡◌, ℕ, ◌<◌}
use Rattle.std.proofs.Common.{refl, sym, ◌∙◌, ap, ap₂}
use Rattle.theory_rings.specs.Ring.{RingOn}
use Rattle.theory_rings.specs.Sum.{sum}
use Rattle.theory_rings.proofs.Rings.RingLaws.{add-zero, zero-mul, neg-mul}
use Rattle.theory_rings.proofs.Sums.Sums.{sum_congr, sum_eq_zero, sum-add, map-sum, mul-sum}
use Rattle.theory_spaces.specs.Module.{ModuleOn}
use Rattle.theory_spaces.specs.Linear.{comb, InSpan}
use Rattle.theory_spaces.specs.Functions.{functions}
use Rattle.theory_spaces.proofs.Linear.Families.{choose_each}
use Rattle.theory_spaces.proofs.Linear.Modules.{comb-comb, InSpan-member}
use Rattle.theory_lattices.specs.ReducedRows.{row_sum, InRows, less_multiple}

module _ {K : Type 0} (R : RingOn K) where
  infixl 65 ◌⊕◌
  infixl 70 ◌⊗◌
  open R use {monoid, ◌⊕◌, ◌⊗◌, neg}

  abbrev M : ModuleOn R (ℕ → K)
  M = functions R

  comb-at : (n : ℕ) (c : ℕ → K) (v : ℕ → ℕ → K) (t : ℕ) → comb M n c v t ≡ row_sum R n c v t
  comb-at n c v t = map-sum M.monoid monoid (λ f. f t) refl (λ f g. refl) n (λ i. M.◌•◌ (c i) (v i))

  module _ (w n : ℕ) (v : ℕ → ℕ → K) where
    pub InRows_of_span : (x : ℕ → K) → InSpan M n v x → InRows R n w v x
    InRows_of_span x s = record {
      weights = s.weights;
      combines = λ t l. ap (λ (f : ℕ → K). f t) s.combines
          ∙ comb-at n s.weights v t;
    }

    pub InRows-member : (i : ℕ) → i < n → InRows R n w v (v i)
    InRows-member i l = InRows_of_span (v i) (InSpan-member M n i v l)

    pub InRows-zero : (x : ℕ → K) → ((t : ℕ) → t < w → x t ≡ R.zero) → InRows R n w v x
    InRows-zero x z = record {
      weights = λ _. R.zero;
      combines = λ t l. z t l ∙ sym (sum_eq_zero monoid n (λ i. R.zero ⊗ v i t) (λ i _. zero-mul R (v i t)));
    }

    pub InRows_congr : (x y : ℕ → K) → ((t : ℕ) → t < w → x t ≡ y t) → InRows R n w v x → InRows R n w v y
    InRows_congr x y e s = record { weights = s.weights; combines = λ t l. sym (e t l) ∙ s.combines t l }

    InRows-add : (x y : ℕ → K) → InRows R n w v x → InRows R n w v y → InRows R n w v (λ t. x t ⊕ y t)
    InRows-add x y h g = record {
      weights = λ i. h.weights i ⊕ g.weights i;
      combines = λ t l. ap₂ (λ a b. a ⊕ b) (h.combines t l) (g.combines t l)
          ∙ sym (sum_congr monoid n (λ i. (h.weights i ⊕ g.weights i) ⊗ v i t)
          (λ i. h.weights i ⊗ v i t ⊕ g.weights i ⊗ v i t) (λ i _. R.add-mul (h.weights i) (g.weights i) (v i t))
          ∙ sum-add monoid n (λ i. h.weights i ⊗ v i t) (λ i. g.weights i ⊗ v i t));
    }

    InRows-scale : (a : K) (x : ℕ → K) → InRows R n w v x → InRows R n w v (λ t. a ⊗ x t)
    InRows-scale a x h = record {
      weights = λ i. a ⊗ h.weights i;
      combines = λ t l. ap (λ y. a ⊗ y) (h.combines t l) ∙ mul-sum R n a (λ i. h.weights i ⊗ v i t)
          ∙ sum_congr monoid n (λ i. a ⊗ (h.weights i ⊗ v i t)) (λ i. a ⊗ h.weights i ⊗ v i t)
          (λ i _. sym (R.mul_assoc a (h.weights i) (v i t)));
    }

    -- a multiple of a member can be taken away, and given back
    pub InRows-less_multiple : (x y : ℕ → K) (m : K) → InRows R n w v x → InRows R n w v y
        → InRows R n w v (less_multiple R x m y)
    InRows-less_multiple x y m h g =
        InRows_congr (λ t. x t ⊕ neg m ⊗ y t) (less_multiple R x m y) (λ t _. ap (λ z. x t ⊕ z) (neg-mul R m (y t)))
        (InRows-add x (λ t. neg m ⊗ y t) h (InRows-scale (neg m) y g))

    pub InRows_of_less_multiple : (x y : ℕ → K) (m : K) → InRows R n w v (less_multiple R x m y) → InRows R n w v y
        → InRows R n w v x
    InRows_of_less_multiple x y m h g = InRows_congr (λ t. less_multiple R x m y t ⊕ m ⊗ y t) x
        (λ t _. R.add_assoc (x t) (neg (m ⊗ y t)) (m ⊗ y t) ∙ ap (λ z. x t ⊕ z) (R.neg-add (m ⊗ y t))
        ∙ add-zero monoid (x t))
        (InRows-add (less_multiple R x m y) (λ t. m ⊗ y t) h (InRows-scale m y g))

  pub InRows_trans : (w n m : ℕ) (v u : ℕ → ℕ → K) (x : ℕ → K) → ((i : ℕ) → i < n → InRows R m w u (v i))
      → InRows R n w v x → InRows R m w u x
  InRows_trans w n m v u x h s =
      let c = s.weights in
      let a = choose_each n (λ i (d : ℕ → K). (t : ℕ) → t < w → v i t ≡ row_sum R m d u t) (λ _. R.zero)
      (λ i l. let r = h i l in (r.weights, r.combines)) in
      let e = λ (j : ℕ). sum monoid n (λ i. c i ⊗ a.0 i j) in
      record {
        weights = e;
        combines = λ t l. s.combines t l
            ∙ sum_congr monoid n (λ i. c i ⊗ v i t) (λ i. c i ⊗ comb M m (a.0 i) u t)
            (λ i g. ap (λ z. c i ⊗ z) (a.1 i g t l ∙ sym (comb-at m (a.0 i) u t)))
            ∙ sym (comb-at n c (λ i. comb M m (a.0 i) u) t)
            ∙ ap (λ (f : ℕ → K). f t) (comb-comb M n m c a.0 u)
            ∙ comb-at m e u t;
      }
