-- Membership in what finitely many vectors span over a valuation ring is decided.
use Rattle.std.specs.Prelude.{◌≡◌, ℕ, zero, suc, ◌+◌, ◌*◌, ◌/◌, ◌%◌, ◌<◌, Bool, true, false, IsTrue, ◌⊎◌}
use Rattle.std.proofs.Common.{refl, sym, ◌∙◌, ap, ap₂, subst, arith, inl, inr, ⊎_elim}
use Rattle.std.proofs.lemmas.Nat.{div-mul-add, mod-mul-add}
use Rattle.theory_rings.specs.Ring.{FieldOn}
use Rattle.theory_rings.proofs.Rings.RingLaws.{add-neg, neg_neg, neg_zero}
use Rattle.theory_spaces.specs.Module.{ModuleOn}
use Rattle.theory_spaces.specs.Linear.{comb, InSpan, Independent, Coords}
use Rattle.theory_spaces.specs.Lattice.{LatticeOver}
use Rattle.theory_spaces.specs.Valuation.{ValuationOn, IsIntegral}
use Rattle.theory_spaces.proofs.Linear.Families.{push, push-below, push-at, below_suc}
use Rattle.theory_spaces.proofs.Linear.Modules.{zero-scale, comb_congr, comb-push, comb_injective}
use Rattle.theory_spaces.proofs.Linear.LatticeSpans.{lattice_span, lattice_trans, lattice-member}
use Rattle.theory_spaces.proofs.Linear.Spaces.{extend_or_span}
use Rattle.theory_spaces.proofs.Linear.SpanTests.{answer, answer-sound, answer-complete}
pub use Rattle.theory_spaces.proofs.Linear.SpanTests.{decided}
use Rattle.theory_spaces.proofs.Linear.Lattices.{lattice_basis}

-- what each test below n tells is decided for all together
pub all_or_not : (n : ℕ) (t : ℕ → Bool) → ((i : ℕ) → i < n → IsTrue (t i)) ⊎ ((i : ℕ) × (i < n) × (IsTrue (t i) → ⊥))
all_or_not zero t = inl (λ i l. absurd (omega arith))
all_or_not (suc n) t = ⊎_elim
    (λ (h : (i : ℕ) → i < n → IsTrue (t i)). at_end (t n) refl h)
    (λ (h : (i : ℕ) × (i < n) × (IsTrue (t i) → ⊥)). let l = h.1 in inr (h.0, omega arith, h.2))
    (all_or_not n t)
  where
    at_end : (c : Bool) → t n ≡ c → ((i : ℕ) → i < n → IsTrue (t i)) → ((i : ℕ) → i < suc n → IsTrue (t i))
        ⊎ ((i : ℕ) × (i < suc n) × (IsTrue (t i) → ⊥))
    at_end true e h = inl (below_suc n (λ i. IsTrue (t i)) h e)
    at_end false e h = inr (n, omega arith, λ f. cc)

-- the products of two families, row by row
abbrev pub pairs_of : {X Y Z : Type 0} → (X → Y → Z) → ℕ → (ℕ → X) → (ℕ → Y) → ℕ → Z
pairs_of f m v w t = f (v (t / m)) (w (t % m))

pub pairs_of-at : {X Y Z : Type 0} (f : X → Y → Z) (m : ℕ) (v : ℕ → X) (w : ℕ → Y) (i j : ℕ) → j < m
    → pairs_of f m v w (i * m + j) ≡ f (v i) (w j)
pairs_of-at f m v w i j l = ap₂ (λ x y. f (v x) (w y)) (div-mul-add i m j l) (mod-mul-add i m j l)

module _ {K V : Type 0} (F : FieldOn K) (Z : ValuationOn F) (M : ModuleOn F.ring V) where
  infixl 65 ◌⊕◌
  infixl 70 ◌•◌
  open M use {◌⊕◌, ◌•◌}

  abbrev L : ℕ → (ℕ → V) → V → Type 0
  L = LatticeOver M (IsIntegral F Z)

  -- by independent vectors the weights are integral in each way to combine
  pub integral_weights : (r : ℕ) (v : ℕ → V) → Independent M r v → (x : V) → L r v x → (c : ℕ → K)
      → x ≡ comb M r c v → (i : ℕ) → i < r → IsTrue (Z.integral (c i))
  integral_weights r v h x s c e i l =
      subst (λ a. IsTrue (Z.integral a)) (comb_injective M r v h s.weights c (sym s.combines ∙ e) i l)
      (s.passes i l)

  not_both : (r : ℕ) (v : ℕ → V) (x : V) → Independent M (suc r) (push r x v) → InSpan M r v x → ⊥
  not_both r v x h s =
      let d = push r (F.neg F.one) s.weights in
      let e : comb M (suc r) d (push r x v) ≡ M.zero =
      comb-push M r d x v ∙ ap₂ M.◌⊕◌
      (comb_congr M r d s.weights v (λ i l. push-below r (F.neg F.one) s.weights i l) ∙ sym s.combines
      ∙ sym (M.one-scale x))
      (ap (λ a. a • x) (push-at r (F.neg F.one) s.weights))
      ∙ sym (M.add-scale F.one (F.neg F.one) x) ∙ ap (λ a. a • x) (add-neg F.additive F.one) ∙ zero-scale M x in
      F.one-nonzero (sym (neg_neg F.additive F.one)
      ∙ ap F.neg (sym (push-at r (F.neg F.one) s.weights) ∙ h.only_zero d e r (omega arith)) ∙ neg_zero F.additive)

  module _ (m : ℕ) (C : Coords M m) where
    pub in_lattice : (n : ℕ) (v : ℕ → V) (x : V) → L n v x ⊎ (L n v x → ⊥)
    in_lattice n v x =
        let B = lattice_basis F Z M m C n v in
        let r = B.rank in
        let to_basis : L n v x → L r B.vec x = lattice_trans F Z M n r v B.vec x B.spans in
        ⊎_elim
        (λ (s : InSpan M r B.vec x). ⊎_elim
        (λ (h : (i : ℕ) → i < r → IsTrue (Z.integral (s.weights i))). inl
        (lattice_trans F Z M r n B.vec v x B.within
        (record { weights = s.weights; passes = h; combines = s.combines })))
        (λ (h : (i : ℕ) × (i < r) × (IsTrue (Z.integral (s.weights i)) → ⊥)). inr (λ t.
        h.2 (integral_weights r B.vec B.independent x (to_basis t) s.weights s.combines h.0 h.1)))
        (all_or_not r (λ i. Z.integral (s.weights i))))
        (λ (h : Independent M (suc r) (push r x B.vec)). inr
        (λ t. not_both r B.vec x h (lattice_span F Z M r B.vec x (to_basis t))))
        (extend_or_span F M m C r B.vec B.independent x)

    pub lattice_test : (n : ℕ) (v : ℕ → V) → V → Bool
    lattice_test n v x = answer (in_lattice n v x)

    pub lattice_test-in : (n : ℕ) (v : ℕ → V) (x : V) → IsTrue (lattice_test n v x) → L n v x
    unfolding lattice_test
    lattice_test-in n v x = answer-sound (in_lattice n v x)

    pub in-lattice_test : (n : ℕ) (v : ℕ → V) (x : V) → L n v x → IsTrue (lattice_test n v x)
    unfolding lattice_test
    in-lattice_test n v x = answer-complete (in_lattice n v x)

    -- whether a lattice lies in another
    pub lattice_within : (n : ℕ) (v : ℕ → V) (k : ℕ) (w : ℕ → V) → ((x : V) → L n v x → L k w x)
        ⊎ (((x : V) → L n v x → L k w x) → ⊥)
    lattice_within n v k w = ⊎_elim
        (λ (h : (i : ℕ) → i < n → IsTrue (lattice_test k w (v i))). inl
        (λ x. lattice_trans F Z M n k v w x (λ i l. lattice_test-in k w (v i) (h i l))))
        (λ (h : (i : ℕ) × (i < n) × (IsTrue (lattice_test k w (v i)) → ⊥)). inr
        (λ g. h.2 (in-lattice_test k w (v h.0) (g (v h.0) (lattice-member F Z M n h.0 v h.1)))))
        (all_or_not n (λ i. lattice_test k w (v i)))
