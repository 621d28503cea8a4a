-- Simple algebras by spans and by tests. Over an infinite field no basis can be found of what a test tells; what is
-- in hand is the ideal that one of its members generates, and that is a span.
use Rattle.std.specs.Prelude.{◌≡◌, ℕ, ◌*◌, ◌<◌, Bool, IsTrue}
use Rattle.std.proofs.Common.{refl, sym, ◌∙◌, ap, ap₂, subst, inl, inr, ⊎_elim}
use Rattle.theory_rings.specs.Ring.{FieldOn}
use Rattle.theory_rings.proofs.Rings.RingLaws.{mul-zero, zero-mul}
use Rattle.theory_spaces.specs.Module.{ModuleOn, AlgebraOn, module_of}
use Rattle.theory_spaces.specs.Linear.{InSpan, Coords, Basis}
use Rattle.theory_spaces.specs.Algebra.{IsSimple, SimpleByTests}
use Rattle.theory_spaces.specs.Sets.{Whole, Zero, Within, Same, Test, ring_ops, IsIdeal}
use Rattle.theory_spaces.proofs.Linear.Modules.{scale-zero, InSpan-zero, InSpan-member, span_in}
use Rattle.theory_spaces.proofs.Linear.Spaces.{coords_of}
use Rattle.theory_spaces.proofs.Algebras.Ideals.{ideal_whole}
use Rattle.theory_spaces.proofs.Algebras.GeneratedIdeals.{around, Around, around_ideal, around-self, around_within}
use Rattle.theory_spaces.proofs.Algebras.SetLemmas.{ideal_same}
use Rattle.theory_spaces.proofs.Linear.SpanTests.{decided, span_test, span_test-in, in-span_test}

module _ {K V : Type 0} (F : FieldOn K) (A : AlgebraOn F.ring V) (m : ℕ) (B : Basis (module_of A) m) where
  abbrev M : ModuleOn F.ring V
  M = module_of A

  abbrev C : Coords M m
  C = coords_of M m B

  abbrev Ideal : (V → Type 0) → Type 0
  Ideal = IsIdeal (ring_ops A.ring) Whole

  span_of_zeros : (n : ℕ) (g : ℕ → V) → ((i : ℕ) → i < n → g i ≡ A.zero) → (x : V) → InSpan M n g x → x ≡ A.zero
  span_of_zeros n g z = span_in M (Zero (ring_ops A.ring)) (record {
    zero-in = refl;
    add-in = λ x y h k. ap₂ A.◌⊕◌ h k ∙ A.zero-add A.zero;
    scale-in = λ a x h. ap (A.◌•◌ a) h ∙ scale-zero M a;
  }) n g z

  pub simple_to_tests : IsSimple A × (A.one ≡ A.zero → ⊥) → SimpleByTests A
  simple_to_tests h = record {
    proper = λ w. h.1 (w A.one tt);
    nothing_between = λ t I _. ⊎_elim
        (λ (one : IsTrue (t A.one)). inr (λ x _. ideal_whole A.ring (Test t) I one x))
        (λ (no : IsTrue (t A.one) → ⊥). inl (λ x tx. ⊎_elim
        (λ (z : (i : ℕ) → i < m * m → around A m B x i ≡ A.zero).
        span_of_zeros (m * m) (around A m B x) z x (around-self A m B x))
        (λ (all : (y : V) → Around A m B x y). absurd (no (around_within A m B x (Test t) I tx A.one (all A.one))))
        (h.0 (m * m) (around A m B x) (around_ideal A m B x))))
        (decided (t A.one));
  }

  pub simple_of_tests : SimpleByTests A → IsSimple A × (A.one ≡ A.zero → ⊥)
  simple_of_tests h = (
    λ n g ideal.
        let t : V → Bool = span_test F M m C n g in
        let e : Same (InSpan M n g) (Test t) = (in-span_test F M m C n g, span_test-in F M m C n g) in
        ⊎_elim
        (λ (w : Within (Test t) (Zero (ring_ops A.ring))). inl (λ i l. w (g i) (e.0 (g i) (InSpan-member M n i g l))))
        (λ (w : Within Whole (Test t)). inr (λ x. e.1 x (w x tt)))
        (h.nothing_between t (ideal_same (ring_ops A.ring) Whole (InSpan M n g) (Test t) e ideal)
        (λ x z. e.0 x (subst (InSpan M n g) (sym z) (InSpan-zero M n g)))),
    λ e. h.proper (λ x _. ideal_whole A.ring (Zero (ring_ops A.ring)) zero_ideal e x),
  )
    where
      zero_ideal : Ideal (Zero (ring_ops A.ring))
      zero_ideal = record {
        inside = λ x _. tt;
        zero_in = refl;
        add_in = λ x y h k. ap₂ A.◌⊕◌ h k ∙ A.zero-add A.zero;
        left = λ a x _ h. ap (A.◌⊗◌ a) h ∙ mul-zero A.ring a;
        right = λ a x _ h. ap (λ y. A.◌⊗◌ y a) h ∙ zero-mul A.ring a;
      }
