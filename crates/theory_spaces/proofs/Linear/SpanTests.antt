-- Membership in the span of finitely many vectors of a space over a field is decided; and the test of what is decided.
use Rattle.std.specs.Prelude.{ℕ, zero, suc, ◌<◌, Bool, true, false, IsTrue, ◌⊎◌}
use Rattle.std.proofs.Common.{refl, sym, subst, arith, inl, inr, ⊎_elim}
use Rattle.theory_rings.specs.Ring.{FieldOn}
use Rattle.theory_spaces.specs.Module.{ModuleOn}
use Rattle.theory_spaces.specs.Linear.{InSpan, Independent, Coords}
use Rattle.theory_spaces.proofs.Linear.Families.{push, push-below, push-at, below_suc}
use Rattle.theory_spaces.proofs.Linear.Modules.{InSpan-member, InSpan_trans}
use Rattle.theory_spaces.proofs.Linear.Dimension.{exchange}
use Rattle.theory_spaces.proofs.Linear.Spaces.{extend_or_span, span_basis}

pub decided : (b : Bool) → (IsTrue b) ⊎ (IsTrue b → ⊥)
decided true = inl refl
decided false = inr (λ h. cc)

-- P holds of some number below n, or Q of all
pub some_or_all : (n : ℕ) (P Q : ℕ → Type 0) → ((i : ℕ) → i < n → P i ⊎ Q i) → ((i : ℕ) × (i < n) × P i)
    ⊎ ((i : ℕ) → i < n → Q i)
some_or_all zero P Q h = inr (λ i l. absurd (omega arith))
some_or_all (suc n) P Q h = ⊎_elim
    (λ (s : (i : ℕ) × (i < n) × P i). inl (s.0, (let l = s.1 in omega arith), s.2))
    (λ (a : (i : ℕ) → i < n → Q i). ⊎_elim
    (λ (p : P n). inl (n, omega arith, p)) (λ (q : Q n). inr (below_suc n Q a q)) (h n (omega arith)))
    (some_or_all n P Q (λ i l. h i (omega arith)))

-- the test of a decision
module _ {P : Type 0} where
  pub answer : P ⊎ (P → ⊥) → Bool
  answer (inl h) = true
  answer (inr n) = false

  pub answer-sound : (d : P ⊎ (P → ⊥)) → IsTrue (answer d) → P
  unfolding answer
  answer-sound (inl h) e = h
  answer-sound (inr n) e = cc

  pub answer-complete : (d : P ⊎ (P → ⊥)) → P → IsTrue (answer d)
  unfolding answer
  answer-complete (inl h) a = refl
  answer-complete (inr n) a = absurd (n a)

module _ {K V : Type 0} (F : FieldOn K) (M : ModuleOn F.ring V) (m : ℕ) (C : Coords M m) where
  pub in_span : (n : ℕ) (g : ℕ → V) (x : V) → InSpan M n g x ⊎ (InSpan M n g x → ⊥)
  in_span n g x =
      let b = span_basis F M m C n g in
      let r = b.0 in
      let B = b.1 in
      ⊎_elim
      (λ (s : InSpan M r B.vec x). inl (InSpan_trans M r n B.vec g x B.inside s))
      (λ (free : Independent M (suc r) (push r x B.vec)). inr (λ t.
      let P : V → Type 0 = InSpan M r B.vec in
      let below : (i : ℕ) → i < r → P (push r x B.vec i) =
      λ i l. subst P (sym (push-below r x B.vec i l)) (InSpan-member M r i B.vec l) in
      let all = below_suc r (λ i. P (push r x B.vec i)) below (subst P (sym (push-at r x B.vec)) (B.spans x t)) in
      let l = exchange F M (suc r) r (push r x B.vec) B.vec free all in
      absurd (omega arith)))
      (extend_or_span F M m C r B.vec B.independent x)

  pub span_test : (n : ℕ) (g : ℕ → V) → V → Bool
  span_test n g x = answer (in_span n g x)

  pub span_test-in : (n : ℕ) (g : ℕ → V) (x : V) → IsTrue (span_test n g x) → InSpan M n g x
  unfolding span_test
  span_test-in n g x = answer-sound (in_span n g x)

  pub in-span_test : (n : ℕ) (g : ℕ → V) (x : V) → InSpan M n g x → IsTrue (span_test n g x)
  unfolding span_test
  in-span_test n g x = answer-complete (in_span n g x)
