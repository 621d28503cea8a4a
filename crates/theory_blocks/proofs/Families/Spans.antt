-- What linear maps make of spans and subspaces, and when independent vectors span the span of others.
use Rattle.std.specs.Prelude.{◌≡◌, ℕ, ◌<◌, ◌≤◌}
use Rattle.std.proofs.Common.{refl, sym, ◌∙◌, ap, ap₂, subst, arith}
use Rattle.theory_rings.specs.Ring.{RingOn, FieldOn}
use Rattle.theory_rings.specs.Sum.{sum}
use Rattle.theory_rings.proofs.Rings.RingLaws.{add_add_add_comm}
use Rattle.theory_rings.proofs.Sums.Sums.{map-sum}
use Rattle.theory_spaces.specs.Module.{ModuleOn}
use Rattle.theory_spaces.specs.Linear.{comb, InSpan, Independent, IsSubmodule, IsLinear}
use Rattle.theory_spaces.specs.Matrix.{delta}
use Rattle.theory_spaces.specs.Subspaces.{Kernel, Image}
use Rattle.theory_spaces.proofs.Linear.Modules.{scale-zero, comb_zero, comb_congr, comb_congr_right, comb-comb, rows_of}
use Rattle.theory_spaces.proofs.Linear.Modules.{InSpan_trans, map-zero, linear_ext}
use Rattle.theory_spaces.proofs.Linear.IndependentVectors.{comb-delta}
use Rattle.theory_spaces.proofs.Linear.Decide.{Free}
use Rattle.theory_spaces.proofs.Linear.Dimension.{exchange}
use Rattle.theory_spaces.proofs.Algebras.Simple.{solve_free}
use Rattle.theory_spaces.specs.Functions.{maps}

-- the linear maps are a subspace
pub linear_submodule : {K V : Type 0} (F : FieldOn K) (M : ModuleOn F.ring V) → IsSubmodule (maps V M) (IsLinear M M)
linear_submodule F M = record {
  zero-in = record { map-add = λ x y. sym (M.zero-add M.zero); map-scale = λ a x. sym (scale-zero M a) };
  add-in = λ f g h k. record {
    map-add = λ x y. ap₂ M.◌⊕◌ (h.map-add x y) (k.map-add x y) ∙ add_add_add_comm M.monoid (f x) (f y) (g x) (g y);
    map-scale = λ a x. ap₂ M.◌⊕◌ (h.map-scale a x) (k.map-scale a x) ∙ sym (M.scale-add a (f x) (g x));
  };
  scale-in = λ b f h. record {
    map-add = λ x y. ap (M.◌•◌ b) (h.map-add x y) ∙ M.scale-add b (f x) (f y);
    map-scale = λ a x. ap (M.◌•◌ b) (h.map-scale a x) ∙ sym (M.mul-scale b a (f x))
        ∙ ap (λ c. M.◌•◌ c (f x)) (F.mul_comm b a) ∙ M.mul-scale a b (f x);
  };
}

-- a sum of maps is one value by value, and so is a combination
module _ {K U W : Type 0} {R : RingOn K} (M : ModuleOn R W) (n : ℕ) (f : ℕ → U → W) where
  pub sum-at : (u : U) → sum (maps U M).monoid n f u ≡ sum M.monoid n (λ i. f i u)
  sum-at u = map-sum (maps U M).monoid M.monoid (λ h. h u) refl (λ g h. refl) n f

module _ {K U W : Type 0} {R : RingOn K} (M : ModuleOn R W) (n : ℕ) (f : ℕ → U → W) where
  pub span-at : (h : U → W) → InSpan (maps U M) n f h → (u : U) → InSpan M n (λ t. f t u) (h u)
  span-at h s u = record {
    weights = s.weights;
    combines = ap (λ g. g u) s.combines ∙ sum-at M n (λ t. (maps U M).◌•◌ (s.weights t) (f t)) u;
  }

module _ {K V W : Type 0} {R : RingOn K} (M : ModuleOn R V) (N : ModuleOn R W) (f : V → W)
    (linear : IsLinear M N f) where
  -- a linear map that sends vectors to 0 does so on their span
  pub linear_eq_zero : (n : ℕ) (v : ℕ → V) → ((i : ℕ) → i < n → f (v i) ≡ N.zero) → (x : V) → InSpan M n v x
      → f x ≡ N.zero
  linear_eq_zero n v h x s = linear_ext M N f (λ _. N.zero) linear
      (record { map-add = λ x y. sym (N.zero-add N.zero); map-scale = λ a x. sym (scale-zero N a) }) n v h x s

  -- kernel and image of a subspace are subspaces
  pub kernel_submodule : (S : V → Type 0) → IsSubmodule M S → IsSubmodule M (Kernel M N f S)
  kernel_submodule S h = record {
    zero-in = (h.zero-in, map-zero M N f linear);
    add-in = λ x y p q. (h.add-in x y p.0 q.0, linear.map-add x y ∙ ap₂ (λ u v. N.◌⊕◌ u v) p.1 q.1 ∙ N.zero-add N.zero);
    scale-in = λ a x p. (h.scale-in a x p.0, linear.map-scale a x ∙ ap (λ u. N.◌•◌ a u) p.1 ∙ scale-zero N a);
  }

  pub image_submodule : (S : V → Type 0) → IsSubmodule M S → IsSubmodule N (Image M N f S)
  image_submodule S h = record {
    zero-in = (M.zero, h.zero-in, map-zero M N f linear);
    add-in = λ x y p q. (
      M.◌⊕◌ p.0 q.0,
      h.add-in p.0 q.0 p.1 q.1,
      linear.map-add p.0 q.0
          ∙ ap₂ (λ u v. N.◌⊕◌ u v) p.2 q.2,
    );
    scale-in = λ a x p. (M.◌•◌ a p.0, h.scale-in a p.0 p.1, linear.map-scale a p.0 ∙ ap (λ u. N.◌•◌ a u) p.2);
  }

-- the span of no vectors is 0
pub span_none : {K V : Type 0} {R : RingOn K} (M : ModuleOn R V) (n : ℕ) (v : ℕ → V) (x : V) → InSpan M n v x → n ≡ 0
    → x ≡ M.zero
span_none M n v x s e = s.combines ∙ ap (λ k. comb M k s.weights v) e

module _ {K V : Type 0} (F : FieldOn K) (M : ModuleOn F.ring V) where
  -- n independent vectors in the span of n vectors: these are combinations of them, as the weights can be solved for
  members_of_independent : (n : ℕ) (v w : ℕ → V) → Independent M n v → ((i : ℕ) → i < n → InSpan M n w (v i))
      → (i : ℕ) → i < n → InSpan M n v (w i)
  members_of_independent n v w free h i l =
      let a = rows_of M n n v w h in
      let combined : (c : ℕ → K) → comb M n c v ≡ comb M n (λ j. sum F.monoid n (λ i. F.◌⊗◌ (c i) (a.0 i j))) w = λ c.
      comb_congr_right M n c v (λ i. comb M n (a.0 i) w) a.1 ∙ comb-comb M n n c a.0 w in
      let rows : Free F n n a.0 =
      record {
        only_zero = λ c k.
            free.only_zero c (combined c ∙ comb_zero M n (λ j. sum F.monoid n (λ i. F.◌⊗◌ (c i) (a.0 i j))) w k);
      } in
      let s = solve_free F n a.0 rows (delta F.ring i) in
      record {
        weights = s.weights;
        combines = sym (combined s.weights
            ∙ comb_congr M n (λ j. sum F.monoid n (λ i. F.◌⊗◌ (s.weights i) (a.0 i j))) (delta F.ring i) w s.solves
            ∙ comb-delta M n i w l);
      }

  -- independent vectors in the span of no more vectors span it
  pub span_of_independent : (r n : ℕ) (v w : ℕ → V) → Independent M r v → ((i : ℕ) → i < r → InSpan M n w (v i)) → n ≤ r
      → (x : V) → InSpan M n w x → InSpan M r v x
  span_of_independent r n v w free h l x s =
      let g = exchange F M r n v w free h in
      let e : n ≡ r = omega arith in
      let P : ℕ → Type 0 = λ k. (i : ℕ) → i < r → InSpan M k w (v i) in
      let Q : ℕ → Type 0 = λ k. InSpan M k w x in
      InSpan_trans M r r w v x (members_of_independent r v w free (subst P e h)) (subst Q e s)
