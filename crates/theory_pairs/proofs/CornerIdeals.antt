-- The ideals of a corner: AJA meets the corner in J; the corner of a central simple algebra is central simple.
use Rattle.std.specs.Prelude.{◌≡◌, ℕ, zero, suc, ◌<◌, ◌⊎◌}
use Rattle.std.proofs.Common.{refl, sym, ◌∙◌, ap, ap₂, subst, arith, ⊎_elim, inl, inr}
use Rattle.theory_rings.specs.Ring.{RingOn, FieldOn}
use Rattle.theory_rings.specs.Sum.{sum}
use Rattle.theory_rings.proofs.Rings.RingLaws.{mul-zero, zero-mul}
use Rattle.theory_rings.proofs.Sums.Sums.{sum_congr, mul-sum}
use Rattle.theory_spaces.specs.Module.{ModuleOn, AlgebraOn, module_of}
use Rattle.theory_spaces.specs.Linear.{InSpan, Basis}
use Rattle.theory_spaces.specs.Subspaces.{Whole}
use Rattle.theory_spaces.specs.Algebra.{InCorner, IdealSpan, Central, CentralSimple}
use Rattle.theory_spaces.proofs.Linear.Families.{below_suc}
use Rattle.theory_spaces.proofs.Linear.Modules.{InSpan-member}
use Rattle.theory_spaces.proofs.Algebras.Corners.{corner_centre}
use Rattle.theory_spaces.proofs.Algebras.MinimalIdempotents.{one_through}
use Rattle.theory_orders.specs.Orders.{IsIdeal, Within}
use Rattle.theory_blocks.proofs.Families.Decisions.{vector_eq_zero_or}
use Rattle.theory_pairs.specs.Corner.{IsCorner, Between, IdealOf}
use Rattle.theory_pairs.proofs.CornerAlgebras.{between_corner, ι-zero, pull, ι-pull}

module _ {K V W : Type 0} {R : RingOn K} (A : AlgebraOn R V) (e : V) (idem : A.◌⊗◌ e e ≡ e) (C : AlgebraOn R W)
    (ι : W → V) (H : IsCorner A e C ι) (J : W → Type 0) where
  infixl 65 ◌⊕◌
  infixl 70 ◌⊗◌
  open A use {◌⊕◌, ◌⊗◌}

  abbrev In : V → Type 0
  In = IdealOf A e C ι J

  abbrev p : V → W
  p = pull A e idem C ι H

  -- a member of J is in AJA
  pub ideal_into : Within J (λ x. In (ι x))
  ideal_into x j = record {
    size = 1;
    term = λ _. ι x;
    each = λ _ _. (A.one, x, A.one, j, sym (A.mul-one (A.one ⊗ ι x) ∙ A.one-mul (ι x)));
    gives = sym (A.zero-add (ι x));
  }

  module _ (ideal : IsIdeal C Whole J) where
    regroup : (a x b : V) → InCorner A e x → (e ⊗ ((a ⊗ x) ⊗ b)) ⊗ e ≡ (((e ⊗ a) ⊗ e) ⊗ x) ⊗ ((e ⊗ b) ⊗ e)
    regroup a x b c = ap (λ t. (e ⊗ ((a ⊗ t) ⊗ b)) ⊗ e) (sym (between_corner A e idem x c)) ∙ moved
      where
        moved : (e ⊗ ((a ⊗ ((e ⊗ x) ⊗ e)) ⊗ b)) ⊗ e ≡ (((e ⊗ a) ⊗ e) ⊗ x) ⊗ ((e ⊗ b) ⊗ e)
        moved = simp A.mul_assoc

    -- e times a sum of members of AJA times e
    inner : (m : ℕ) (f : ℕ → V) → ((i : ℕ) → i < m → Between A e C ι J (f i)) → (x : W) × J x
        × (ι x ≡ (e ⊗ sum A.monoid m f) ⊗ e)
    inner zero f h = (
      C.zero,
      ideal.zero_in,
      ι-zero A e idem C ι H
          ∙ sym (ap (λ t. t ⊗ e) (mul-zero A.ring e) ∙ zero-mul A.ring e),
    )
    inner (suc m) f h =
        let r = inner m f (λ i l. h i (omega arith)) in
        let q = h m (omega arith) in
        let y : W = C.◌⊗◌ (C.◌⊗◌ (p q.0) q.1) (p q.2) in
        let jy : J y = ideal.right (p q.2) (C.◌⊗◌ (p q.0) q.1) tt (ideal.left (p q.0) q.1 tt q.3) in
        let ey : ι y ≡ (e ⊗ f m) ⊗ e =
        H.map-mul (C.◌⊗◌ (p q.0) q.1) (p q.2)
        ∙ ap₂ (λ s t. s ⊗ t) (H.map-mul (p q.0) q.1 ∙ ap (λ t. t ⊗ ι q.1) (ι-pull A e idem C ι H q.0))
        (ι-pull A e idem C ι H q.2)
        ∙ sym (regroup q.0 (ι q.1) q.2 (H.inside q.1)) ∙ ap (λ t. (e ⊗ t) ⊗ e) (sym q.4) in (
          C.◌⊕◌ r.0 y,
          ideal.add_in r.0 y r.1 jy,
          H.map-add r.0 y ∙ ap₂ (λ s t. s ⊕ t) r.2 ey
              ∙ sym (ap (λ t. t ⊗ e) (A.mul-add e (sum A.monoid m f) (f m))
              ∙ A.add-mul (e ⊗ sum A.monoid m f) (e ⊗ f m) e),
        )

    pub ideal_back : Within (λ x. In (ι x)) J
    ideal_back x s =
        let r = inner s.size s.term s.each in
        subst J (H.injective r.0 x (r.2 ∙ ap (λ t. (e ⊗ t) ⊗ e) (sym s.gives)
        ∙ between_corner A e idem (ι x) (H.inside x))) r.1

module _ {K V W : Type 0} (F : FieldOn K) (A : AlgebraOn F.ring V) (n : ℕ) (B : Basis (module_of A) n) (e : V)
    (idem : A.◌⊗◌ e e ≡ e) (nonzero : e ≡ A.zero → ⊥)
    (simple : CentralSimple A) (C : AlgebraOn F.ring W) (ι : W → V) (H : IsCorner A e C ι) where
  infixl 70 ◌⊗◌
  open A use {◌⊗◌}

  abbrev N : ModuleOn F.ring W
  N = module_of C

  corner_central : Central C
  corner_central = record {
    multiple = λ x commutes.
        let o = one_through A n B e simple.simple nonzero in
        let r = corner_centre A e idem o.size o.left o.right o.sums simple.central (ι x) (H.inside x) (λ a inside.
        let w = H.onto a inside in
        ap (λ t. ι x ⊗ t) (sym w.1) ∙ sym (H.map-mul x w.0) ∙ ap ι (commutes w.0) ∙ H.map-mul w.0 x
        ∙ ap (λ t. t ⊗ ι x) w.1) in
        (r.0, H.injective x (C.◌•◌ r.0 C.one) (r.1 ∙ sym (H.map-scale r.0 C.one ∙ ap (A.◌•◌ r.0) H.map-one)));
  }

  some_nonzero : (m : ℕ) (g : ℕ → W) → ((i : ℕ) → i < m → g i ≡ C.zero) ⊎ ((i : ℕ) × (i < m) × (ι (g i) ≡ A.zero → ⊥))
  some_nonzero zero g = inl (λ i l. absurd (omega arith))
  some_nonzero (suc m) g = ⊎_elim
      (λ (h : (i : ℕ) → i < m → g i ≡ C.zero). ⊎_elim
      (λ (z : ι (g m) ≡ A.zero). inl
      (below_suc m (λ i. g i ≡ C.zero) h (H.injective (g m) C.zero (z ∙ sym (ι-zero A e idem C ι H)))))
      (λ (d : ι (g m) ≡ A.zero → ⊥). inr (m, omega arith, d))
      (vector_eq_zero_or F (module_of A) n B (ι (g m))))
      (λ (h : (i : ℕ) × (i < m) × (ι (g i) ≡ A.zero → ⊥)). let l = h.1 in inr (h.0, omega arith, h.2))
      (some_nonzero m g)

  corner_simple : (m : ℕ) (g : ℕ → W) → IdealSpan C m g → ((i : ℕ) → i < m → g i ≡ C.zero) ⊎ ((x : W) → InSpan N m g x)
  corner_simple m g ideal = ⊎_elim
      (λ (h : (i : ℕ) → i < m → g i ≡ C.zero). inl h)
      (λ (h : (i : ℕ) × (i < m) × (ι (g i) ≡ A.zero → ⊥)). inr (λ x.
      let a = ι (g h.0) in
      let o = one_through A n B a simple.simple h.2 in
      let J : W → Type 0 = InSpan N m g in
      ideal_back A e idem C ι H J ideal x (record {
        size = o.size;
        term = λ t. ((ι x ⊗ o.left t) ⊗ a) ⊗ o.right t;
        each = λ t _. (ι x ⊗ o.left t, g h.0, o.right t, InSpan-member N m h.0 g h.1, refl);
        gives = sym (A.mul-one (ι x)) ∙ ap (λ t. ι x ⊗ t) o.sums
            ∙ mul-sum A.ring o.size (ι x) (λ t. (o.left t ⊗ a) ⊗ o.right t)
            ∙ sum_congr A.monoid o.size (λ t. ι x ⊗ ((o.left t ⊗ a) ⊗ o.right t))
            (λ t. ((ι x ⊗ o.left t) ⊗ a) ⊗ o.right t)
            (λ t _. sym (A.mul_assoc (ι x) (o.left t ⊗ a) (o.right t))
            ∙ ap (λ s. s ⊗ o.right t) (sym (A.mul_assoc (ι x) (o.left t) a)));
      })))
      (some_nonzero m g)

  pub corner_central_simple : CentralSimple C
  corner_central_simple = record { central = corner_central; simple = corner_simple }
