-- In an algebra with a basis the ideal that an element generates is the span of its products with two vectors of the
-- basis.
use Rattle.std.specs.Prelude.{ℕ, ◌+◌, ◌*◌, ◌/◌, ◌%◌, ◌<◌}
use Rattle.std.proofs.Common.{sym, ◌∙◌, ap, ap₂, subst}
use Rattle.std.proofs.lemmas.Nat.{div-mul-add, mod-mul-add}
use Rattle.theory_rings.specs.Ring.{RingOn}
use Rattle.theory_spaces.specs.Module.{ModuleOn, AlgebraOn, module_of}
use Rattle.theory_spaces.specs.Linear.{InSpan, IsLinear, Basis}
use Rattle.theory_spaces.specs.Algebra.{IdealSpan}
use Rattle.theory_spaces.specs.Sets.{Whole, ring_ops, IsIdeal}
use Rattle.theory_spaces.proofs.Algebras.Ideals.{span_ideal, ideal_submodule}
use Rattle.theory_spaces.proofs.Linear.Modules.{InSpan-comb, InSpan-member, left_linear, right_linear, linear_comp}
use Rattle.theory_spaces.proofs.Linear.Modules.{map-comb}
use Rattle.theory_spaces.proofs.Linear.Modules.{span_in}
use Rattle.theory_spaces.proofs.Matrices.PairIndex.{pair-lt}

module _ {K V : Type 0} {R : RingOn K} (A : AlgebraOn R V) (n : ℕ) (B : Basis (module_of A) n) (x : V) where
  infixl 70 ◌⊗◌
  open A use {◌⊗◌}

  abbrev M : ModuleOn R V
  M = module_of A

  -- the products of x with two vectors of the basis
  abbrev pub around : ℕ → V
  around t = (B.vec (t / n) ⊗ x) ⊗ B.vec (t % n)

  abbrev pub Around : V → Type 0
  Around = InSpan M (n * n) around

  -- a linear map that sends the basis into a span sends everything there
  span_of_basis : (f : V → V) → IsLinear M M f → ((i : ℕ) → i < n → Around (f (B.vec i))) → (y : V) → Around (f y)
  span_of_basis f h g y = subst Around (sym (ap f (B.expand y) ∙ map-comb M M f h n (B.coord y) B.vec))
      (InSpan-comb M n (n * n) (B.coord y) (λ i. f (B.vec i)) around g)

  pub around-in : (a b : V) → Around ((a ⊗ x) ⊗ b)
  around-in a b = span_of_basis (λ z. (z ⊗ x) ⊗ b)
      (linear_comp M M M (λ z. z ⊗ b) (λ z. z ⊗ x) (right_linear A b) (right_linear A x))
      (λ i l. span_of_basis (λ z. (B.vec i ⊗ x) ⊗ z) (left_linear A (B.vec i ⊗ x))
      (λ j g. subst Around (ap₂ (λ p q. (B.vec p ⊗ x) ⊗ B.vec q) (div-mul-add i n j g) (mod-mul-add i n j g))
      (InSpan-member M (n * n) (i * n + j) around (pair-lt n n i j l g))) b) a

  pub around_ideal : IdealSpan A (n * n) around
  around_ideal = span_ideal A (n * n) around
      (λ t _ c. subst Around
      (ap (λ z. z ⊗ B.vec (t % n)) (A.mul_assoc c (B.vec (t / n)) x)
      ∙ A.mul_assoc c (B.vec (t / n) ⊗ x) (B.vec (t % n)))
      (around-in (c ⊗ B.vec (t / n)) (B.vec (t % n))))
      (λ t _ c. subst Around (sym (A.mul_assoc (B.vec (t / n) ⊗ x) (B.vec (t % n)) c))
      (around-in (B.vec (t / n)) (B.vec (t % n) ⊗ c)))

  pub around-self : Around x
  around-self = subst Around (A.mul-one (A.one ⊗ x) ∙ A.one-mul x) (around-in A.one A.one)

  -- it lies in each ideal that holds x
  pub around_within : (J : V → Type 0) → IsIdeal (ring_ops A.ring) Whole J → J x → (y : V) → Around y → J y
  around_within J I h = span_in M J (ideal_submodule A J I) (n * n) around
      (λ t _. I.right (B.vec (t % n)) (B.vec (t / n) ⊗ x) tt (I.left (B.vec (t / n)) x tt h))
