-- Spans that are ideals: enough that the products of their vectors with all elements lie in them.
use Rattle.std.specs.Prelude.{ℕ, ◌<◌}
use Rattle.std.proofs.Common.{sym, ◌∙◌, ap, subst}
use Rattle.theory_rings.specs.Ring.{RingOn}
use Rattle.theory_spaces.specs.Module.{ModuleOn, AlgebraOn, module_of}
use Rattle.theory_spaces.specs.Linear.{InSpan, IsSubmodule}
use Rattle.theory_spaces.specs.Sets.{Whole, ring_ops, IsIdeal}
use Rattle.theory_spaces.specs.Algebra.{IdealSpan}
use Rattle.theory_spaces.proofs.Linear.Modules.{left_linear, right_linear, map-comb, InSpan-zero, InSpan-add}
use Rattle.theory_spaces.proofs.Linear.Modules.{InSpan-comb}

module _ {K V : Type 0} {R : RingOn K} (A : AlgebraOn R V) (n : ℕ) (g : ℕ → V) where
  infixl 70 ◌⊗◌
  open A use {◌⊗◌}

  abbrev M : ModuleOn R V
  M = module_of A

  abbrev In : V → Type 0
  In = InSpan M n g

  pub span_ideal : ((i : ℕ) → i < n → (x : V) → In (x ⊗ g i)) → ((i : ℕ) → i < n → (x : V) → In (g i ⊗ x))
      → IdealSpan A n g
  span_ideal left right = record {
    inside = λ x _. tt;
    zero_in = InSpan-zero M n g;
    add_in = InSpan-add M n g;
    left = λ x y _ s. subst In (sym (ap (λ z. x ⊗ z) s.combines
        ∙ map-comb M M (λ z. x ⊗ z) (left_linear A x) n s.weights g))
        (InSpan-comb M n n s.weights (λ i. x ⊗ g i) g (λ i l. left i l x));
    right = λ x y _ s. subst In (sym (ap (λ z. z ⊗ x) s.combines
        ∙ map-comb M M (λ z. z ⊗ x) (right_linear A x) n s.weights g))
        (InSpan-comb M n n s.weights (λ i. g i ⊗ x) g (λ i l. right i l x));
  }

  module _ (ideal : IdealSpan A n g) where
    pub ideal_left : (x y : V) → In y → In (x ⊗ y)
    ideal_left x y s = ideal.left x y tt s

    pub ideal_right : (x y : V) → In y → In (y ⊗ x)
    ideal_right x y s = ideal.right x y tt s

-- a two-sided ideal of an algebra is a submodule
pub ideal_submodule : {K V : Type 0} {R : RingOn K} (A : AlgebraOn R V) (J : V → Type 0)
    → IsIdeal (ring_ops A.ring) Whole J
    → IsSubmodule (module_of A) J
ideal_submodule A J I = record {
  zero-in = I.zero_in;
  add-in = I.add_in;
  scale-in = λ a x h. subst J (A.scale-left a A.one x ∙ ap (A.◌•◌ a) (A.one-mul x)) (I.left (A.◌•◌ a A.one) x tt h);
}

-- an ideal that holds one is everything
pub ideal_whole : {V : Type 0} (R : RingOn V) (J : V → Type 0) → IsIdeal (ring_ops R) Whole J → J R.one → (x : V) → J x
ideal_whole R J I h x = subst J (R.mul-one x) (I.left x R.one tt h)
