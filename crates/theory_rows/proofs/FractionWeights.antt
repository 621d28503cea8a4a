-- Rows over a ring in a field whose elements are its fractions: what is independent over the ring is so over the field,
-- and what spans the kernel of rows over the ring spans it over the field. All weights are brought to one denominator.
use Rattle.std.specs.Prelude.{◌≡◌, ℕ, ◌<◌}
use Rattle.std.proofs.Common.{refl, sym, ◌∙◌, ap, ⊎_elim}
use Rattle.theory_rings.specs.Ring.{CommRingOn, FieldOn}
use Rattle.theory_rings.specs.Homomorphism.{IsRingHom}
use Rattle.theory_rings.specs.Sum.{sum}
use Rattle.theory_rings.proofs.Rings.RingLaws.{mul-zero}
use Rattle.theory_rings.proofs.Rings.Fields.{eq-zero_of_mul-eq-zero, inv_mul_cancel_left}
use Rattle.theory_rings.proofs.Rings.Homomorphisms.{map-zero}
use Rattle.theory_rings.proofs.Sums.Sums.{sum_congr, map-sum, mul-sum, sum-mul, sum_comm, sum_eq_zero}
use Rattle.theory_spaces.proofs.Linear.Families.{choose_each}

-- each finite family has a common denominator
abbrev pub HasDenominators : {D K : Type 0} → CommRingOn D → FieldOn K → (D → K) → Type 0
HasDenominators C F of = (m : ℕ) (c : ℕ → _) → (v : _) × (of v ≡ F.zero → ⊥)
    × ((j : ℕ) → j < m → (u : _) × (F.◌⊗◌ (of v) (c j) ≡ of u))

module _ {D K : Type 0} (C : CommRingOn D) (F : FieldOn K) (of : D → K) (hom : IsRingHom C.ring F.ring of)
    (injective : (u : D) → of u ≡ F.zero → u ≡ C.zero) (clear : HasDenominators C F of) where
  infixl 70 ◌⊗◌
  open F use {◌⊗◌}

  -- entry j of a combination, over the ring and over the field
  abbrev pub ring_sum : ℕ → (ℕ → D) → (ℕ → ℕ → D) → ℕ → D
  ring_sum m u b j = sum C.monoid m (λ i. C.◌⊗◌ (u i) (b i j))

  abbrev pub field_sum : ℕ → (ℕ → K) → (ℕ → ℕ → D) → ℕ → K
  field_sum m c b j = sum F.monoid m (λ i. c i ⊗ of (b i j))

  of_sum : (m : ℕ) (u : ℕ → D) (b : ℕ → ℕ → D) (j : ℕ) → of (ring_sum m u b j) ≡ field_sum m (λ i. of (u i)) b j
  of_sum m u b j = map-sum C.monoid F.monoid of (map-zero C.ring F.ring of hom) hom.map-add m
      (λ i. C.◌⊗◌ (u i) (b i j))
      ∙ sum_congr F.monoid m (λ i. of (C.◌⊗◌ (u i) (b i j))) (λ i. of (u i) ⊗ of (b i j))
      (λ i _. hom.map-mul (u i) (b i j))

  field_sum-scale : (m : ℕ) (a : K) (c d : ℕ → K) (b : ℕ → ℕ → D) (j : ℕ) → ((i : ℕ) → i < m → a ⊗ c i ≡ d i)
      → field_sum m d b j ≡ a ⊗ field_sum m c b j
  field_sum-scale m a c d b j e =
      sum_congr F.monoid m (λ i. d i ⊗ of (b i j)) (λ i. a ⊗ (c i ⊗ of (b i j)))
      (λ i l. ap (λ t. t ⊗ of (b i j)) (sym (e i l)) ∙ F.mul_assoc a (c i) (of (b i j)))
      ∙ sym (mul-sum F.ring m a (λ i. c i ⊗ of (b i j)))

  -- weights as elements of the ring, over one denominator
  pub record Cleared (m : ℕ) (c : ℕ → K) : Type 0 where
    pub by : D
    pub nonzero : of by ≡ F.zero → ⊥
    pub weights : ℕ → D
    pub is : (i : ℕ) → i < m → of by ⊗ c i ≡ of (weights i)

  cleared : (m : ℕ) (c : ℕ → K) → Cleared m c
  cleared m c =
      let d = clear m c in
      let u = choose_each m (λ i t. of d.0 ⊗ c i ≡ of t) C.zero d.2 in
      record { by = d.0; nonzero = d.1; weights = u.0; is = u.1 }

  -- what is 0 over the field is so over the ring, by the cleared weights
  cleared_zero : (m : ℕ) (c : ℕ → K) (h : Cleared m c) (b : ℕ → ℕ → D) (j : ℕ) → field_sum m c b j ≡ F.zero
      → ring_sum m h.weights b j ≡ C.zero
  cleared_zero m c h b j e = injective (ring_sum m h.weights b j)
      (of_sum m h.weights b j ∙ field_sum-scale m (of h.by) c (λ i. of (h.weights i)) b j h.is
      ∙ ap (λ t. of h.by ⊗ t) e ∙ mul-zero F.ring (of h.by))

  -- ---- independent over the ring is so over the field

  pub free_over_field : (m n : ℕ) (b : ℕ → ℕ → D)
      → ((u : ℕ → D) → ((j : ℕ) → j < n → ring_sum m u b j ≡ C.zero) → (i : ℕ) → i < m → u i ≡ C.zero)
      → (c : ℕ → K) → ((j : ℕ) → j < n → field_sum m c b j ≡ F.zero) → (i : ℕ) → i < m → c i ≡ F.zero
  free_over_field m n b free c e i l =
      let h = cleared m c in
      let z = free h.weights (λ j g. cleared_zero m c h b j (e j g)) i l in
      ⊎_elim (λ (x : of h.by ≡ F.zero). absurd (h.nonzero x)) (λ (x : c i ≡ F.zero). x)
      (eq-zero_of_mul-eq-zero F (of h.by) (c i) (h.is i l ∙ ap of z ∙ map-zero C.ring F.ring of hom))

  -- ---- what spans the kernel over the ring spans it over the field

  -- entry j of x is that of a combination
  abbrev pub FieldWeights : (m n : ℕ) → (ℕ → ℕ → D) → (ℕ → K) → Type 0
  FieldWeights m n b x = (e : ℕ → K) × ((j : ℕ) → j < n → x j ≡ field_sum m e b j)

  pub spans_over_field : (m n w : ℕ) (a b : ℕ → ℕ → D)
      → ((u : ℕ → D) → ((j : ℕ) → j < w → ring_sum n u a j ≡ C.zero)
      → (e : ℕ → D) × ((j : ℕ) → j < n → u j ≡ ring_sum m e b j))
      → (x : ℕ → K) → ((j : ℕ) → j < w → field_sum n x a j ≡ F.zero) → FieldWeights m n b x
  spans_over_field m n w a b spans x z =
      let h = cleared n x in
      let s = spans h.weights (λ j g. cleared_zero n x h a j (z j g)) in
      let v : K = F.inv (of h.by) in (
        λ k. v ⊗ of (s.0 k),
        λ j l. sym (inv_mul_cancel_left F (of h.by) (x j) h.nonzero)
            ∙ ap (λ t. v ⊗ t) (h.is j l ∙ ap of (s.1 j l) ∙ of_sum m s.0 b j)
            ∙ sym (field_sum-scale m v (λ k. of (s.0 k)) (λ k. v ⊗ of (s.0 k)) b j (λ k _. refl)),
      )

  -- a combination of rows of the kernel is in it
  pub killed_over_field : (m n w : ℕ) (a b : ℕ → ℕ → D)
      → ((k : ℕ) → k < m → (j : ℕ) → j < w → ring_sum n (b k) a j ≡ C.zero)
      → (x : ℕ → K) → FieldWeights m n b x → (j : ℕ) → j < w → field_sum n x a j ≡ F.zero
  killed_over_field m n w a b inside x s j l =
      let e : ℕ → K = s.0 in
      sum_congr F.monoid n (λ i. x i ⊗ of (a i j))
      (λ i. sum F.monoid m (λ k. e k ⊗ (of (b k i) ⊗ of (a i j))))
      (λ i g. ap (λ t. t ⊗ of (a i j)) (s.1 i g)
      ∙ sum-mul F.ring m (of (a i j)) (λ k. e k ⊗ of (b k i))
      ∙ sum_congr F.monoid m (λ k. e k ⊗ of (b k i) ⊗ of (a i j)) (λ k. e k ⊗ (of (b k i) ⊗ of (a i j)))
      (λ k _. F.mul_assoc (e k) (of (b k i)) (of (a i j))))
      ∙ sum_comm F.monoid n m (λ i k. e k ⊗ (of (b k i) ⊗ of (a i j)))
      ∙ sum_eq_zero F.monoid m (λ k. sum F.monoid n (λ i. e k ⊗ (of (b k i) ⊗ of (a i j))))
      (λ k g. sym (mul-sum F.ring n (e k) (λ i. of (b k i) ⊗ of (a i j)))
      ∙ ap (λ t. e k ⊗ t) (sym (of_sum n (b k) a j) ∙ ap of (inside k g j l) ∙ map-zero C.ring F.ring of hom)
      ∙ mul-zero F.ring (e k))
