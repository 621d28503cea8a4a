-- Combinations of vectors, spans, independent vectors and linear maps.
use Rattle.std.specs.Prelude.{◌≡◌, ℕ, zero, suc, ◌+◌, ◌-◌, ◌<◌, ◌≤◌}
use Rattle.std.proofs.Common.{refl, sym, ◌∙◌, ap, ap₂, subst, arith}
use Rattle.theory_rings.specs.Ring.{RingOn}
use Rattle.theory_rings.specs.Sum.{sum}
use Rattle.theory_rings.proofs.Rings.RingLaws.{add-zero, add-neg, add_cancel_left, neg-mul, additive-zero, additive-neg}
use Rattle.theory_rings.proofs.Sums.Sums.{sum_congr, sum_eq_zero, sum-add, map-sum, sum_comm, sum-split, sum_eq_single}
use Rattle.theory_spaces.specs.Module.{ModuleOn, AlgebraOn, module_of}
pub use Rattle.theory_spaces.specs.ModuleLaws.{scale-zero, zero-scale, scale-neg, neg-scale, neg_one-scale}
use Rattle.theory_spaces.specs.Linear.{comb, InSpan, Independent, IsSubmodule, IsLinear}
use Rattle.theory_spaces.proofs.Linear.Families.{push, push-below, push-above, push-at, join, join-below, join-above}
use Rattle.theory_spaces.proofs.Linear.Families.{each_join, put_at, put_at-here, put_at-else, choose_each}

module _ {K V : Type 0} {R : RingOn K} (M : ModuleOn R V) where
  infixl 65 ◌⊕◌
  infixl 70 ◌•◌
  open M use {additive, monoid, ◌⊕◌, ◌•◌, neg}

  pub scale-sum : (n : ℕ) (a : K) (f : ℕ → V) → a • sum monoid n f ≡ sum monoid n (λ i. a • f i)
  scale-sum n a f = map-sum monoid monoid (λ x. a • x) (scale-zero M a) (M.scale-add a) n f

  pub sum-scale : (n : ℕ) (f : ℕ → K) (x : V) → sum R.monoid n f • x ≡ sum monoid n (λ i. f i • x)
  sum-scale n f x = map-sum R.monoid monoid (λ a. a • x) (zero-scale M x) (λ a b. M.add-scale a b x) n f

  pub comb_congr : (n : ℕ) (c d : ℕ → K) (v : ℕ → V) → ((i : ℕ) → i < n → c i ≡ d i) → comb M n c v ≡ comb M n d v
  comb_congr n c d v h = sum_congr monoid n (λ i. c i • v i) (λ i. d i • v i) (λ i l. ap (λ a. a • v i) (h i l))

  pub comb_congr_right : (n : ℕ) (c : ℕ → K) (v w : ℕ → V) → ((i : ℕ) → i < n → v i ≡ w i) → comb M n c v ≡ comb M n c w
  comb_congr_right n c v w h = sum_congr monoid n (λ i. c i • v i) (λ i. c i • w i) (λ i l. ap (λ x. c i • x) (h i l))

  pub comb_zero : (n : ℕ) (c : ℕ → K) (v : ℕ → V) → ((i : ℕ) → i < n → c i ≡ R.zero) → comb M n c v ≡ M.zero
  comb_zero n c v h = sum_eq_zero monoid n (λ i. c i • v i) (λ i l. ap (λ a. a • v i) (h i l) ∙ zero-scale M (v i))

  pub comb-add : (n : ℕ) (c d : ℕ → K) (v : ℕ → V) → comb M n (λ i. R.◌⊕◌ (c i) (d i)) v ≡ comb M n c v ⊕ comb M n d v
  comb-add n c d v =
      sum_congr monoid n (λ i. R.◌⊕◌ (c i) (d i) • v i) (λ i. (c i • v i) ⊕ (d i • v i))
      (λ i _. M.add-scale (c i) (d i) (v i))
      ∙ sum-add monoid n (λ i. c i • v i) (λ i. d i • v i)

  pub comb-scale : (n : ℕ) (a : K) (c : ℕ → K) (v : ℕ → V) → comb M n (λ i. R.◌⊗◌ a (c i)) v ≡ a • comb M n c v
  comb-scale n a c v =
      sum_congr monoid n (λ i. R.◌⊗◌ a (c i) • v i) (λ i. a • (c i • v i)) (λ i _. M.mul-scale a (c i) (v i))
      ∙ sym (scale-sum n a (λ i. c i • v i))

  pub comb-neg : (n : ℕ) (c : ℕ → K) (v : ℕ → V) → comb M n (λ i. R.◌⊗◌ (R.neg R.one) (c i)) v ≡ neg (comb M n c v)
  comb-neg n c v = comb-scale n (R.neg R.one) c v ∙ neg_one-scale M (comb M n c v)

  -- combinations of combinations
  pub comb-comb : (n m : ℕ) (c : ℕ → K) (a : ℕ → ℕ → K) (w : ℕ → V)
      → comb M n c (λ i. comb M m (a i) w) ≡ comb M m (λ j. sum R.monoid n (λ i. R.◌⊗◌ (c i) (a i j))) w
  comb-comb n m c a w =
      sum_congr monoid n (λ i. c i • comb M m (a i) w) (λ i. sum monoid m (λ j. R.◌⊗◌ (c i) (a i j) • w j))
      (λ i _. scale-sum m (c i) (λ j. a i j • w j)
      ∙ sum_congr monoid m (λ j. c i • (a i j • w j)) (λ j. R.◌⊗◌ (c i) (a i j) • w j)
      (λ j _. sym (M.mul-scale (c i) (a i j) (w j))))
      ∙ sum_comm monoid n m (λ i j. R.◌⊗◌ (c i) (a i j) • w j)
      ∙ sum_congr monoid m (λ j. sum monoid n (λ i. R.◌⊗◌ (c i) (a i j) • w j))
      (λ j. sum R.monoid n (λ i. R.◌⊗◌ (c i) (a i j)) • w j)
      (λ j _. sym (sum-scale n (λ i. R.◌⊗◌ (c i) (a i j)) (w j)))

  pub comb-push : (n : ℕ) (c : ℕ → K) (x : V) (v : ℕ → V) → comb M (suc n) c (push n x v) ≡ comb M n c v ⊕ c n • x
  comb-push n c x v = ap₂ (λ y z. y ⊕ z) (comb_congr_right n c (push n x v) v (push-below n x v))
      (ap (λ y. c n • y) (push-at n x v))

  -- the sum of the combinations of two families is one of both
  pub comb-join : (n m : ℕ) (c : ℕ → K) (v w : ℕ → V)
      → comb M (n + m) c (join n v w) ≡ comb M n c v ⊕ comb M m (λ j. c (n + j)) w
  comb-join n m c v w = sum-split monoid n m (λ i. c i • join n v w i)
      ∙ ap₂ (λ x y. x ⊕ y) (comb_congr_right n c (join n v w) v (join-below n v w))
      (sum_congr monoid m (λ j. c (n + j) • join n v w (n + j)) (λ j. c (n + j) • w j)
      (λ j _. ap (λ x. c (n + j) • x) (join-above n v w j)))

  -- spans are closed
  pub InSpan-zero : (n : ℕ) (w : ℕ → V) → InSpan M n w M.zero
  InSpan-zero n w = record { weights = λ i. R.zero; combines = sym (comb_zero n (λ i. R.zero) w (λ i l. refl)) }

  pub InSpan-add : (n : ℕ) (w : ℕ → V) (x y : V) → InSpan M n w x → InSpan M n w y → InSpan M n w (x ⊕ y)
  InSpan-add n w x y h g = record {
    weights = λ i. R.◌⊕◌ (h.weights i) (g.weights i);
    combines = ap₂ (λ a b. a ⊕ b) h.combines g.combines ∙ sym (comb-add n h.weights g.weights w);
  }

  pub InSpan-scale : (n : ℕ) (w : ℕ → V) (a : K) (x : V) → InSpan M n w x → InSpan M n w (a • x)
  InSpan-scale n w a x h = record {
    weights = λ i. R.◌⊗◌ a (h.weights i);
    combines = ap (λ y. a • y) h.combines ∙ sym (comb-scale n a h.weights w);
  }

  pub InSpan-neg : (n : ℕ) (w : ℕ → V) (x : V) → InSpan M n w x → InSpan M n w (neg x)
  InSpan-neg n w x h = let P : V
      → Type 0 = InSpan M n w in subst P (neg_one-scale M x) (InSpan-scale n w (R.neg R.one) x h)

  pub InSpan-member : (n i : ℕ) (w : ℕ → V) → i < n → InSpan M n w (w i)
  InSpan-member n i w l =
      let d = put_at i R.one (λ _. R.zero) in
      record {
        weights = d;
        combines = sym (sum_eq_single monoid n i (λ j. d j • w j) l
            (λ j _ e. ap (λ a. a • w j) (put_at-else i R.one R.zero j e) ∙ zero-scale M (w j))
            ∙ ap (λ a. a • w i) (put_at-here i R.one (λ _. R.zero)) ∙ M.one-scale (w i));
      }

  -- the weights of a family in a span, as the rows of a matrix
  pub rows_of : (n m : ℕ) (v w : ℕ → V) → ((i : ℕ) → i < n → InSpan M m w (v i)) → (a : ℕ → ℕ → K)
      × ((i : ℕ) → i < n → v i ≡ comb M m (a i) w)
  rows_of n m v w h = choose_each n (λ i c. v i ≡ comb M m c w) (λ _. R.zero)
      (λ i l. ((h i l).weights, (h i l).combines))

  -- a combination of members of a span is a member
  pub InSpan-comb : (n m : ℕ) (c : ℕ → K) (v w : ℕ → V) → ((i : ℕ) → i < n → InSpan M m w (v i))
      → InSpan M m w (comb M n c v)
  InSpan-comb n m c v w h =
      let a = rows_of n m v w h in
      record {
        weights = λ j. sum R.monoid n (λ i. R.◌⊗◌ (c i) (a.0 i j));
        combines = comb_congr_right n c v (λ i. comb M m (a.0 i) w) a.1 ∙ comb-comb n m c a.0 w;
      }

  pub InSpan_trans : (n m : ℕ) (v w : ℕ → V) (x : V) → ((i : ℕ) → i < n → InSpan M m w (v i)) → InSpan M n v x
      → InSpan M m w x
  InSpan_trans n m v w x h s = let P : V
      → Type 0 = InSpan M m w in subst P (sym s.combines) (InSpan-comb n m s.weights v w h)

  pub InSpan-push : (n : ℕ) (y : V) (w : ℕ → V) (x : V) → InSpan M n w x → InSpan M (suc n) (push n y w) x
  InSpan-push n y w x h = InSpan_trans n (suc n) w (push n y w) x
      (λ i l. let P : V → Type 0 = InSpan M (suc n) (push n y w) in
      subst P (push-below n y w i l) (InSpan-member (suc n) i (push n y w) (omega arith))) h

  pub InSpan-push_at : (n : ℕ) (y : V) (w : ℕ → V) → InSpan M (suc n) (push n y w) y
  InSpan-push_at n y w = let P : V
      → Type 0 = InSpan M (suc n) (push n y w) in
      subst P (push-at n y w) (InSpan-member (suc n) n (push n y w) (omega arith))

  -- the members of two families span what both span
  pub InSpan-join_left : (n m : ℕ) (v w : ℕ → V) (i : ℕ) → i < n → InSpan M (n + m) (join n v w) (v i)
  InSpan-join_left n m v w i l = let P : V
      → Type 0 = InSpan M (n + m) (join n v w) in
      subst P (join-below n v w i l) (InSpan-member (n + m) i (join n v w) (omega arith))

  pub InSpan-join_right : (n m : ℕ) (v w : ℕ → V) (j : ℕ) → j < m → InSpan M (n + m) (join n v w) (w j)
  InSpan-join_right n m v w j l = let P : V
      → Type 0 = InSpan M (n + m) (join n v w) in
      subst P (join-above n v w j) (InSpan-member (n + m) (n + j) (join n v w) (omega arith))

  pub InSpan-join : (n m : ℕ) (v w : ℕ → V) (k : ℕ) (u : ℕ → V) → ((i : ℕ) → i < n → InSpan M k u (v i))
      → ((j : ℕ) → j < m → InSpan M k u (w j))
      → (x : V) → InSpan M (n + m) (join n v w) x → InSpan M k u x
  InSpan-join n m v w k u hv hw x s = InSpan_trans (n + m) k (join n v w) u x (each_join n m v w (InSpan M k u) hv hw) s

  -- submodules are closed under combinations
  pub comb_in : (S : V → Type 0) → IsSubmodule M S → (n : ℕ) (c : ℕ → K) (v : ℕ → V) → ((i : ℕ) → i < n → S (v i))
      → S (comb M n c v)
  comb_in S h zero c v g = h.zero-in
  comb_in S h (suc n) c v g =
      h.add-in (comb M n c v) (c n • v n) (comb_in S h n c v (λ i l. g i (omega arith)))
      (h.scale-in (c n) (v n) (g n (omega arith)))

  pub span_in : (S : V → Type 0) → IsSubmodule M S → (n : ℕ) (v : ℕ → V) → ((i : ℕ) → i < n → S (v i)) → (x : V)
      → InSpan M n v x → S x
  span_in S h n v g x s = subst S (sym s.combines) (comb_in S h n s.weights v g)

  -- independent vectors
  pub independent_none : (v : ℕ → V) → Independent M zero v
  independent_none v = record { only_zero = λ c e i l. absurd (omega arith) }

  -- weights that are zero from k on
  pub comb-push_zero : (k n : ℕ) (c : ℕ → K) (v : ℕ → V) → k ≤ n → comb M n (push k R.zero c) v ≡ comb M k c v
  comb-push_zero k n c v l =
      let q : n ≡ k + (n - k) = omega arith in
      ap (λ t. comb M t (push k R.zero c) v) q ∙ sum-split monoid k (n - k) (λ i. push k R.zero c i • v i)
      ∙ ap₂ (λ x y. x ⊕ y) (comb_congr k (push k R.zero c) c v (push-below k R.zero c))
      (comb_zero (n - k) (λ i. push k R.zero c (k + i)) (λ i. v (k + i))
      (λ i g. push-above k R.zero c (k + i) (omega arith)))
      ∙ add-zero monoid (comb M k c v)

  -- the first k of n independent vectors
  pub Independent-front : (k n : ℕ) (v : ℕ → V) → k ≤ n → Independent M n v → Independent M k v
  Independent-front k n v l h = record {
    only_zero = λ c e i g. sym (push-below k R.zero c i g)
        ∙ h.only_zero (push k R.zero c) (comb-push_zero k n c v l ∙ e) i (omega arith);
  }

  pub Independent_congr : (n : ℕ) (v w : ℕ → V) → ((i : ℕ) → i < n → v i ≡ w i) → Independent M n v → Independent M n w
  Independent_congr n v w h d = record { only_zero = λ c e. d.only_zero c (comb_congr_right n c v w h ∙ e) }

  -- a vector is a combination of independent ones in one way
  pub comb_injective : (n : ℕ) (v : ℕ → V) → Independent M n v → (c d : ℕ → K) → comb M n c v ≡ comb M n d v → (i : ℕ)
      → i < n → c i ≡ d i
  comb_injective n v h c d e i l =
      let m = R.neg R.one in
      let y = comb M n d v in
      let vanish : comb M n (λ j. R.◌⊕◌ (c j) (R.◌⊗◌ m (d j))) v ≡ M.zero =
      comb-add n c (λ j. R.◌⊗◌ m (d j)) v ∙ ap₂ (λ x y. x ⊕ y) e (comb-neg n d v) ∙ add-neg additive y in
      let z = h.only_zero (λ j. R.◌⊕◌ (c j) (R.◌⊗◌ m (d j))) vanish i l in
      let turned : R.◌⊗◌ m (d i) ≡ R.neg (d i) = neg-mul R R.one (d i) ∙ ap R.neg (R.one-mul (d i)) in
      add_cancel_left R.additive (R.neg (d i)) (c i) (d i)
      (R.add_comm (R.neg (d i)) (c i) ∙ ap (R.◌⊕◌ (c i)) (sym turned) ∙ z ∙ sym (R.neg-add (d i)))

-- linear maps
module _ {K V W : Type 0} {R : RingOn K} (M : ModuleOn R V) (N : ModuleOn R W) (f : V → W) (h : IsLinear M N f) where
  pub map-zero : f M.zero ≡ N.zero
  map-zero = additive-zero M.additive N.additive f h.map-add

  pub map-neg : (x : V) → f (M.neg x) ≡ N.neg (f x)
  map-neg x = additive-neg M.additive N.additive f h.map-add x

  pub map-comb : (n : ℕ) (c : ℕ → K) (v : ℕ → V) → f (comb M n c v) ≡ comb N n c (λ i. f (v i))
  map-comb n c v = map-sum M.monoid N.monoid f map-zero h.map-add n (λ i. M.◌•◌ (c i) (v i))
      ∙ sum_congr N.monoid n (λ i. f (M.◌•◌ (c i) (v i))) (λ i. N.◌•◌ (c i) (f (v i))) (λ i _. h.map-scale (c i) (v i))

-- linear maps that agree on vectors agree on their span
pub linear_ext : {K V W : Type 0} {R : RingOn K} (M : ModuleOn R V) (N : ModuleOn R W) (f g : V → W) → IsLinear M N f
    → IsLinear M N g
    → (n : ℕ) (v : ℕ → V) → ((i : ℕ) → i < n → f (v i) ≡ g (v i)) → (x : V) → InSpan M n v x → f x ≡ g x
linear_ext M N f g hf hg n v h x s =
    ap f s.combines ∙ map-comb M N f hf n s.weights v ∙ comb_congr_right N n s.weights (λ i. f (v i)) (λ i. g (v i)) h
    ∙ sym (map-comb M N g hg n s.weights v) ∙ ap g (sym s.combines)

pub linear_comp : {K U V W : Type 0} {R : RingOn K} (L : ModuleOn R U) (M : ModuleOn R V) (N : ModuleOn R W)
    (f : V → W) (g : U → V)
    → IsLinear M N f → IsLinear L M g → IsLinear L N (λ x. f (g x))
linear_comp L M N f g hf hg = record {
  map-add = λ x y. ap f (hg.map-add x y) ∙ hf.map-add (g x) (g y);
  map-scale = λ a x. ap f (hg.map-scale a x) ∙ hf.map-scale a (g x);
}

pub linear_id : {K V : Type 0} {R : RingOn K} (M : ModuleOn R V) → IsLinear M M (λ x. x)
linear_id M = record { map-add = λ x y. refl; map-scale = λ a x. refl }

-- the product with a fixed factor is linear
module _ {K V : Type 0} {R : RingOn K} (A : AlgebraOn R V) where
  infixl 70 ◌⊗◌
  open A use {◌⊗◌}

  pub left_linear : (a : V) → IsLinear (module_of A) (module_of A) (λ x. a ⊗ x)
  left_linear a = record { map-add = A.mul-add a; map-scale = λ b x. A.scale-right b a x }

  pub right_linear : (a : V) → IsLinear (module_of A) (module_of A) (λ x. x ⊗ a)
  right_linear a = record { map-add = λ x y. A.add-mul x y a; map-scale = λ b x. A.scale-left b x a }
