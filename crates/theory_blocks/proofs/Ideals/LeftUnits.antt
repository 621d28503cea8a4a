-- In an algebra without nilpotent ideals but 0 each right ideal S has a left unit, by induction on its dimension. If
-- products of two members are 0, so is S. Else a member x sends S onto x·S other than 0. If x·S is smaller than S it
-- has a left unit f by induction, an idempotent other than 0, and so has the right ideal of the members that f sends to
-- 0, and both together give one of S. If not, x is x·e for a member e, which is a left unit since x sends no other
-- member than 0 to 0.
use Rattle.std.specs.Prelude.{◌≡◌, ℕ, zero, suc, ◌<◌, ◌≤◌}
use Rattle.std.proofs.Common.{refl, sym, ◌∙◌, ap, subst, arith, ⊎_elim}
use Rattle.std.proofs.lemmas.Bool.{cases_lt}
use Rattle.theory_rings.specs.Ring.{RingOn, FieldOn}
use Rattle.theory_rings.proofs.Rings.RingLaws.{add-neg, zero-mul}
use Rattle.theory_rings.proofs.Rings.Solver.{◌⊞◌, ◌⊠◌, minus, words3}
use Rattle.theory_rings.proofs.Rings.ZeroTests.{eq_of_sub_eq_zero}
use Rattle.theory_spaces.specs.Module.{ModuleOn, AlgebraOn, module_of}
use Rattle.theory_spaces.specs.Linear.{Coords, IsSubmodule, Basis, BasisOf}
use Rattle.theory_spaces.specs.Subspaces.{Kernel, Image, RankNullity}
use Rattle.theory_spaces.proofs.Linear.Modules.{span_in, left_linear, right_linear}
use Rattle.theory_spaces.proofs.Linear.Spaces.{coords_of}
use Rattle.theory_spaces.proofs.Linear.Subspaces.{neg_in}
use Rattle.theory_spaces.proofs.Linear.Kernels.{rank_nullity}
use Rattle.theory_blocks.specs.MaximalIdeals.{HasNoNilpotentIdeal}
use Rattle.theory_blocks.proofs.Families.Decisions.{some_or_all, other_or_all, vector_eq_zero_or}
use Rattle.theory_blocks.proofs.Families.Spans.{linear_eq_zero, kernel_submodule, image_submodule, span_none}
use Rattle.theory_blocks.proofs.Families.Spans.{span_of_independent}
use Rattle.theory_blocks.proofs.Ideals.Semiprime.{semiprime}

module _ {K V : Type 0} {R : RingOn K} (A : AlgebraOn R V) where
  infixl 65 ◌⊕◌
  infixl 70 ◌⊗◌
  open A use {ring, ◌⊕◌, ◌⊗◌, neg}

  abbrev M : ModuleOn R V
  M = module_of A

  -- an idempotent sends what is left of x without its product to 0
  pub idempotent_kills_rest : (e x : V) → e ⊗ e ≡ e → e ⊗ (x ⊕ neg (e ⊗ x)) ≡ A.zero
  idempotent_kills_rest e x idem =
      words3 ring (λ e x z. (e ⊠ (x ⊞ minus (e ⊠ x)), e ⊠ x ⊞ minus ((e ⊠ e) ⊠ x))) refl e x x
      ∙ ap (λ z. e ⊗ x ⊕ neg (z ⊗ x)) idem ∙ add-neg A.additive (e ⊗ x)

  pub product_and_rest : (e x : V) → e ⊗ x ⊕ (x ⊕ neg (e ⊗ x)) ≡ x
  product_and_rest e x = words3 ring (λ e x z. (e ⊠ x ⊞ (x ⊞ minus (e ⊠ x)), x)) refl e x x

  -- a subspace that is closed under products with all elements from the right
  pub record IsRightIdeal (S : V → Type 0) : Type 0 where
    pub subspace : IsSubmodule M S
    pub mul-in : (x a : V) → S x → S (x ⊗ a)

  -- a member that fixes all members from the left
  pub record LeftUnit (S : V → Type 0) : Type 0 where
    pub unit : V
    pub inside : S unit
    pub fixes : (x : V) → S x → unit ⊗ x ≡ x

  module _ (S : V → Type 0) (hS : IsRightIdeal S) (a : V) where
    abbrev AllTimes : V → Type 0
    AllTimes = Image M M (λ y. a ⊗ y) S

    abbrev Killed : V → Type 0
    Killed = Kernel M M (λ y. a ⊗ y) S

    image_right_ideal : IsRightIdeal AllTimes
    image_right_ideal = record {
      subspace = image_submodule M M (λ y. a ⊗ y) (left_linear A a) S hS.subspace;
      mul-in = λ y b h. (h.0 ⊗ b, hS.mul-in h.0 b h.1, sym (A.mul_assoc a h.0 b) ∙ ap (λ z. z ⊗ b) h.2);
    }

    kernel_right_ideal : IsRightIdeal Killed
    kernel_right_ideal = record {
      subspace = kernel_submodule M M (λ y. a ⊗ y) (left_linear A a) S hS.subspace;
      mul-in = λ x b g. (hS.mul-in x b g.0, sym (A.mul_assoc a x b) ∙ ap (λ z. z ⊗ b) g.1 ∙ zero-mul ring b);
    }

    -- from an idempotent of S and a left unit of the members that it sends to 0
    left_unit_of_idempotent : S a → a ⊗ a ≡ a → LeftUnit Killed → LeftUnit S
    left_unit_of_idempotent s idem u =
        let e = u.unit in record {
          unit = a ⊕ (e ⊕ neg (e ⊗ a));
          inside = hS.subspace.add-in a (e ⊕ neg (e ⊗ a)) s
              (hS.subspace.add-in e (neg (e ⊗ a)) u.inside.0
              (neg_in M S hS.subspace (e ⊗ a) (hS.mul-in e a u.inside.0)));
          fixes = λ x h.
              let y = x ⊕ neg (a ⊗ x) in
              let member : S y = hS.subspace.add-in x (neg (a ⊗ x)) h
              (neg_in M S hS.subspace (a ⊗ x) (hS.mul-in a x s)) in
              words3 ring (λ a e x. ((a ⊞ (e ⊞ minus (e ⊠ a))) ⊠ x, a ⊠ x ⊞ e ⊠ (x ⊞ minus (a ⊠ x)))) refl a e x
              ∙ ap (λ z. a ⊗ x ⊕ z) (u.fixes y (member, idempotent_kills_rest a x idem)) ∙ product_and_rest a x;
        }

    -- a member a with a·e = a, where 0 is the only member that a sends to 0
    left_unit_of_injective : (e : V) → S e → a ⊗ e ≡ a → ((y : V) → Killed y → y ≡ A.zero) → LeftUnit S
    left_unit_of_injective e s fix only = record {
      unit = e;
      inside = s;
      fixes = λ y h.
          let w = e ⊗ y ⊕ neg y in
          let killed : a ⊗ w ≡ A.zero =
          words3 ring (λ a e y. (a ⊠ (e ⊠ y ⊞ minus y), (a ⊠ e) ⊠ y ⊞ minus (a ⊠ y))) refl a e y
          ∙ ap (λ z. z ⊗ y ⊕ neg (a ⊗ y)) fix ∙ add-neg A.additive (a ⊗ y) in
          let member : S w = hS.subspace.add-in (e ⊗ y) (neg y) (hS.mul-in e y s) (neg_in M S hS.subspace y h) in
          eq_of_sub_eq_zero A.additive (e ⊗ y) y (only w (member, killed));
    }

module _ {K V : Type 0} (F : FieldOn K) (A : AlgebraOn F.ring V) (m : ℕ) (B : Basis (module_of A) m)
    (none : HasNoNilpotentIdeal A) where
  infixl 70 ◌⊗◌
  open A use {ring, ◌⊗◌}

  abbrev N : ModuleOn F.ring V
  N = module_of A

  abbrev C : Coords N m
  C = coords_of N m B

  -- a number of right ideals below which all have a left unit
  abbrev Smaller : ℕ → Type 1
  Smaller n = (T : V → Type 0) → IsRightIdeal A T → (r : ℕ) → BasisOf N r T → r < n → LeftUnit A T

  module _ (S : V → Type 0) (hS : IsRightIdeal A S) (n : ℕ) (D : BasisOf N n S) (smaller : Smaller n) where
    abbrev ranks : (a : V) → RankNullity N N (λ y. a ⊗ y) S n
    ranks a = rank_nullity F N N m C (λ y. a ⊗ y) (left_linear A a) S hS.subspace n D

    -- where all products of members are 0, so are the members
    left_unit_of_square_zero : ((i : ℕ) → i < n → (j : ℕ) → j < n → D.vec i ⊗ D.vec j ≡ A.zero) → LeftUnit A S
    left_unit_of_square_zero z = record {
      unit = A.zero;
      inside = hS.subspace.zero-in;
      fixes = λ x s.
          let products : (y : V) → S y
          → y ⊗ x ≡ A.zero = λ y h. linear_eq_zero N N (λ w. w ⊗ x) (right_linear A x) n D.vec
          (λ i l. linear_eq_zero N N (λ w. D.vec i ⊗ w) (left_linear A (D.vec i)) n D.vec (z i l) x (D.spans x s)) y
          (D.spans y h) in
          zero-mul ring x ∙ sym (semiprime F A m B none x (λ a. products (x ⊗ a) (hS.mul-in x a s)));
    }

    -- with an idempotent other than 0
    left_unit_of_member : (f : V) → S f → f ⊗ f ≡ f → (f ≡ A.zero → ⊥) → LeftUnit A S
    left_unit_of_member f s idem nonzero =
        let r = ranks f in
        let total = r.total in
        let less : r.nullity < n = ⊎_elim
        (λ (l : r.nullity < n). l)
        (λ (l : n ≤ r.nullity).
        absurd (nonzero (span_none N r.rank r.image.vec f (r.image.spans f (f, s, idem)) (omega arith))))
        (cases_lt r.nullity n) in
        left_unit_of_idempotent A S hS f s idem
        (smaller (Killed A S hS f) (kernel_right_ideal A S hS f) r.nullity r.kernel less)

    left_unit_of_product : (a b : V) → S a → S b → (a ⊗ b ≡ A.zero → ⊥) → LeftUnit A S
    left_unit_of_product a b sa sb nonzero =
        let r = ranks a in
        let total = r.total in
        let T = AllTimes A S hS a in
        let hT = image_right_ideal A S hS a in
        ⊎_elim
        (λ (l : r.rank < n).
        let u = smaller T hT r.rank r.image l in
        left_unit_of_member u.unit (subst S u.inside.2 (hS.mul-in a u.inside.0 sa)) (u.fixes u.unit u.inside)
        (λ e. nonzero (sym (u.fixes (a ⊗ b) (b, sb, refl)) ∙ ap (λ z. z ⊗ (a ⊗ b)) e ∙ zero-mul ring (a ⊗ b))))
        (λ (l : n ≤ r.rank).
        let into : (y : V) → T y → S y = λ y h. subst S h.2 (hS.mul-in a h.0 sa) in
        let e = span_in N T hT.subspace r.rank r.image.vec r.image.inside a
        (span_of_independent F N r.rank n r.image.vec D.vec r.image.independent
        (λ i g. D.spans (r.image.vec i) (into (r.image.vec i) (r.image.inside i g))) l a (D.spans a sa)) in
        left_unit_of_injective A S hS a e.0 e.1 e.2
        (λ y h. span_none N r.nullity r.kernel.vec y (r.kernel.spans y h) (omega arith)))
        (cases_lt r.rank n)

    left_unit_step : LeftUnit A S
    left_unit_step = ⊎_elim
        (λ (p : (i : ℕ) × (i < n) × ((j : ℕ) × (j < n) × (D.vec i ⊗ D.vec j ≡ A.zero → ⊥))).
        left_unit_of_product (D.vec p.0) (D.vec p.2.0) (D.inside p.0 p.1) (D.inside p.2.0 p.2.1) p.2.2)
        left_unit_of_square_zero
        (some_or_all n (λ i. (j : ℕ) × (j < n) × (D.vec i ⊗ D.vec j ≡ A.zero → ⊥))
        (λ i. (j : ℕ) → j < n → D.vec i ⊗ D.vec j ≡ A.zero)
        (λ i _. other_or_all A.zero (vector_eq_zero_or F N m B) n (λ j. D.vec i ⊗ D.vec j)))

  left_unit_below : (k : ℕ) → Smaller k
  left_unit_below zero T hT r D l = absurd (omega arith)
  left_unit_below (suc k) T hT r D l = left_unit_step T hT r D (λ U hU q E g. left_unit_below k U hU q E (omega arith))

  -- each right ideal has a left unit
  pub left_unit : (S : V → Type 0) → IsRightIdeal A S → (n : ℕ) → BasisOf N n S → LeftUnit A S
  left_unit S hS n D = left_unit_below (suc n) S hS n D (omega arith)
