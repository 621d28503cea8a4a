-- An algebra without nilpotent ideals but 0, whose centre is the direct product of fields with the units e 0, e 1, ..:
-- an ideal that just one of these units sends to 0 is all that it sends to 0; and a proper ideal modulo which the
-- traces of enough solutions of z^q = z are scalars is sent to 0 by just one.
use Rattle.std.specs.Prelude.{◌≡◌, ◌⊎◌, ◌<◌, ◌^◌, ℕ, zero, suc}
use Rattle.std.proofs.Common.{refl, sym, ◌∙◌, ap, ap₂, subst, inl, inr, ⊎_elim}
use Rattle.std.proofs.lemmas.Bool.{cases_eq}
use Rattle.theory_rings.specs.Ring.{FieldOn}
use Rattle.theory_rings.specs.Sum.{sum}
use Rattle.theory_rings.specs.Power.{power}
use Rattle.theory_rings.specs.Enumerated.{Enumerated}
use Rattle.theory_rings.proofs.Rings.RingLaws.{zero-mul, mul-zero, add_cancel_left, add-zero}
use Rattle.theory_rings.proofs.Rings.Solver.{◌⊞◌, ◌⊠◌, minus, ring3}
use Rattle.theory_rings.proofs.Rings.ZeroTests.{eq_of_sub_eq_zero, eq_zero_or}
use Rattle.theory_rings.proofs.Sums.Sums.{sum_congr, sum_eq_single, mul-sum, sum-mul}
use Rattle.theory_spaces.specs.Module.{ModuleOn, AlgebraOn, module_of}
use Rattle.theory_spaces.specs.Linear.{InSpan, Basis, IsSubmodule}
use Rattle.theory_spaces.specs.Algebra.{IdealSpan}
use Rattle.theory_spaces.proofs.Linear.Modules.{zero-scale, scale-zero, sum-scale, map-comb, left_linear, span_in}
use Rattle.theory_blocks.specs.FixedPoints.{IsFixed}
use Rattle.theory_blocks.specs.FieldFactors.{FieldFactors}
use Rattle.theory_blocks.specs.FactorLaws.{SolutionsArePower}
use Rattle.theory_blocks.specs.Centre.{Centre}
use Rattle.theory_blocks.specs.MaximalIdeals.{HasNoNilpotentIdeal, CentralUnit, Annihilated}
use Rattle.theory_blocks.proofs.Families.Decisions.{some_or_all, vector_eq_zero_or}
use Rattle.theory_blocks.proofs.Ideals.Centres.{centre-mul, centre_subalgebra}
use Rattle.theory_blocks.proofs.Commutative.FieldFactorsFamilies.{mul_mul_mul_comm}
use Rattle.theory_blocks.proofs.Commutative.FieldFactorsUnique.{factor_unit}
use Rattle.theory_blocks.proofs.Ideals.CentralIdempotents.{central_units}

module _ {K V : Type 0} (F : FieldOn K) (A : AlgebraOn F.ring V) (m : ℕ) (B : Basis (module_of A) m)
    (none : HasNoNilpotentIdeal A) (D : FieldFactors F A (Centre A)) where
  infixl 65 ◌⊕◌
  infixl 70 ◌⊗◌
  infixl 70 ◌•◌
  open A use {ring, monoid, one, ◌⊕◌, ◌⊗◌, ◌•◌, neg}

  abbrev M : ModuleOn F.ring V
  M = module_of A

  abbrev e : ℕ → V
  e = D.idempotent

  -- e i sends the span of g 0, .., g (n − 1) to 0
  abbrev pub Kills : ℕ → ℕ → (ℕ → V) → Type 0
  Kills i n g = (x : V) → InSpan M n g x → Annihilated A (e i) x

  module _ (n : ℕ) (g : ℕ → V) (ideal : IdealSpan A n g) where
    unit : CentralUnit A n g
    unit = central_units F A m B none n g ideal

    abbrev u : V
    u = unit.unit

    out_or_in : (i : ℕ) → i < D.count → (e i ⊗ u ≡ A.zero) ⊎ (e i ⊗ u ≡ e i)
    out_or_in i l = ⊎_elim
        (λ (z : e i ⊗ u ≡ A.zero). inl z)
        (λ (d : e i ⊗ u ≡ A.zero → ⊥). inr (factor_unit F A (Centre A) (centre_subalgebra A) (λ x y p q. p y) D i l
        (e i ⊗ u) (centre-mul A (e i) u (D.inside i l) unit.central)
        (sym (A.mul_assoc (e i) (e i) u) ∙ ap (λ z. z ⊗ u) (D.idempotents i l))
        (mul_mul_mul_comm ring (e i) u (e i) u (sym (D.inside i l u))
        ∙ ap₂ (λ y z. y ⊗ z) (D.idempotents i l) unit.idempotent) d))
        (vector_eq_zero_or F M m B (e i ⊗ u))

    kills_of_zero : (i : ℕ) → e i ⊗ u ≡ A.zero → Kills i n g
    kills_of_zero i h x s = ap (λ z. e i ⊗ z) (sym ((unit.fixes x).0 s)) ∙ sym (A.mul_assoc (e i) u x)
        ∙ ap (λ z. z ⊗ x) h ∙ zero-mul ring x

    -- a proper ideal is sent to 0 by one of the units
    pub some_kills : (InSpan M n g one → ⊥) → (i : ℕ) × (i < D.count) × Kills i n g
    some_kills proper = ⊎_elim
        (λ (s : (i : ℕ) × (i < D.count) × (e i ⊗ u ≡ A.zero)). (s.0, s.1, kills_of_zero s.0 s.2))
        (λ (h : (i : ℕ) → i < D.count → e i ⊗ u ≡ e i). absurd (proper (subst (InSpan M n g)
        (sym (A.one-mul u) ∙ ap (λ z. z ⊗ u) (sym D.sum_to_one) ∙ sum-mul ring D.count u e
        ∙ sum_congr monoid D.count (λ i. e i ⊗ u) e h ∙ D.sum_to_one) unit.inside)))
        (some_or_all D.count (λ i. e i ⊗ u ≡ A.zero) (λ i. e i ⊗ u ≡ e i) out_or_in)

    -- where just one of the units does so, the ideal is all that this unit sends to 0
    pub whole_kernel : (i : ℕ) → i < D.count → Kills i n g
        → ((j : ℕ) → j < D.count → Kills j n g → j ≡ i) → (x : V) → Annihilated A (e i) x → InSpan M n g x
    whole_kernel i l kills only x h = (unit.fixes x).1
        (sym (A.one-mul (u ⊗ x)) ∙ ap (λ z. z ⊗ (u ⊗ x)) (sym D.sum_to_one) ∙ sum-mul ring D.count (u ⊗ x) e
        ∙ sum_congr monoid D.count (λ j. e j ⊗ (u ⊗ x)) (λ j. e j ⊗ x) each
        ∙ sym (sum-mul ring D.count x e) ∙ ap (λ z. z ⊗ x) D.sum_to_one ∙ A.one-mul x)
      where
        each : (j : ℕ) → j < D.count → e j ⊗ (u ⊗ x) ≡ e j ⊗ x
        each j g = ⊎_elim
            (λ (z : e j ⊗ u ≡ A.zero).
            let q : j ≡ i = only j g (kills_of_zero j z) in
            sym (A.mul_assoc (e j) u x) ∙ ap (λ y. y ⊗ x) z ∙ zero-mul ring x
            ∙ sym (ap (λ k. e k ⊗ x) q ∙ h))
            (λ (z : e j ⊗ u ≡ e j). sym (A.mul_assoc (e j) u x) ∙ ap (λ y. y ⊗ x) z)
            (out_or_in j g)

  -- ---- what a unit makes of scalars, powers and traces

  cancel : (i : ℕ) → i < D.count → (a b : K) → a • e i ≡ b • e i → a ≡ b
  cancel i l a b h =
      let c = F.◌⊕◌ a (F.neg b) in
      eq_of_sub_eq_zero F.additive a b (⊎_elim (λ (z : c ≡ F.zero). z)
      (λ (d : c ≡ F.zero → ⊥). absurd (D.nonzero i l
      (sym (A.one-scale (e i)) ∙ ap (λ t. t • e i) (sym (F.inv-mul c d)) ∙ A.mul-scale (F.inv c) c (e i)
      ∙ ap (λ t. F.inv c • t) gone ∙ scale-zero M (F.inv c))))
      (eq_zero_or F.zero_test c))
    where
      gone : F.◌⊕◌ a (F.neg b) • e i ≡ A.zero
      gone = A.add-scale a (F.neg b) (e i) ∙ ap (λ t. t ⊕ F.neg b • e i) h ∙ sym (A.add-scale b (F.neg b) (e i))
          ∙ ap (λ t. t • e i) (F.add_comm b (F.neg b) ∙ F.neg-add b) ∙ zero-scale M (e i)

  -- a scalar modulo an ideal that e i sends to 0
  pub scalar_on : (i n : ℕ) (g : ℕ → V) → Kills i n g → (t : V) (c : K) → InSpan M n g (t ⊕ neg (c • one))
      → e i ⊗ t ≡ c • e i
  scalar_on i n g kills t c s =
      let y = c • one in
      let mult : e i ⊗ y ≡ c • e i = A.scale-right c (e i) one ∙ ap (λ z. c • z) (A.mul-one (e i)) in
      add_cancel_left A.additive (e i ⊗ neg y) (e i ⊗ t) (c • e i)
      (A.add_comm (e i ⊗ neg y) (e i ⊗ t) ∙ sym (A.mul-add (e i) t (neg y)) ∙ kills (t ⊕ neg y) s
      ∙ sym (mul-zero ring (e i)) ∙ ap (λ z. e i ⊗ z) (sym (A.neg-add y)) ∙ A.mul-add (e i) (neg y) y
      ∙ ap (λ z. e i ⊗ neg y ⊕ z) mult)

  pub scalar-power : (i : ℕ) (z : V) (a : K) → e i ⊗ z ≡ a • e i → (n : ℕ)
      → e i ⊗ power ring z n ≡ power F.ring a n • e i
  scalar-power i z a h zero = A.mul-one (e i) ∙ sym (A.one-scale (e i))
  scalar-power i z a h (suc n) =
      sym (A.mul_assoc (e i) z (power ring z n)) ∙ ap (λ y. y ⊗ power ring z n) h
      ∙ A.scale-left a (e i) (power ring z n) ∙ ap (λ y. a • y) (scalar-power i z a h n)
      ∙ sym (A.mul-scale a (power F.ring a n) (e i))

  pub scalar-scale : (i : ℕ) (z : V) (a c : K) → e i ⊗ z ≡ a • e i → e i ⊗ (c • z) ≡ F.◌⊗◌ c a • e i
  scalar-scale i z a c h = A.scale-right c (e i) z ∙ ap (λ y. c • y) h ∙ sym (A.mul-scale c a (e i))

  module _ (q d : ℕ) where
    -- z + z^q + .., d terms
    abbrev pub trace : V → V
    trace z = sum monoid d (λ j. power ring z (q ^ j))

    abbrev pub scalar_trace : K → K
    scalar_trace a = sum F.monoid d (λ j. power F.ring a (q ^ j))

    pub scalar-trace : (i : ℕ) (z : V) (a : K) → e i ⊗ z ≡ a • e i → e i ⊗ trace z ≡ scalar_trace a • e i
    scalar-trace i z a h =
        mul-sum ring d (e i) (λ j. power ring z (q ^ j))
        ∙ sum_congr monoid d (λ j. e i ⊗ power ring z (q ^ j)) (λ j. power F.ring a (q ^ j) • e i)
        (λ j _. scalar-power i z a h (q ^ j))
        ∙ sym (sum-scale M d (λ j. power F.ring a (q ^ j)) (e i))

  module _ (E : Enumerated K) (solutions : SolutionsArePower F E A (Centre A) D.count D.idempotent) where
    -- a solution is a scalar on each unit
    pub scalar_of_solution : (z : V) → Centre A z → IsFixed A.ring E.size z → (i : ℕ) → i < D.count
        → (a : K) × (e i ⊗ z ≡ a • e i)
    scalar_of_solution z central fixed i l =
        let s = (solutions.solutions z).0 (central, fixed) in
        let c = s.weights in (
          c i,
          ap (λ y. e i ⊗ y) s.combines ∙ map-comb M M (λ x. e i ⊗ x) (left_linear A (e i)) D.count c e
              ∙ sum_eq_single A.monoid D.count i (λ j. c j • (e i ⊗ e j)) l
              (λ j g d. ap (λ y. c j • y) (D.orthogonal i j l g (λ q. d (sym q))) ∙ scale-zero M (c j))
              ∙ ap (λ y. c i • y) (D.idempotents i l),
        )

    pub solution-unit : (i : ℕ) → i < D.count → IsFixed A.ring E.size (e i)
    solution-unit i l = ((solutions.solutions (e i)).1 (record {
      weights = λ j. put i j;
      combines = sym (sum_eq_single A.monoid D.count i (λ j. put i j • e j) l
          (λ j _ d. ap (λ a. a • e j) (put-else i j d) ∙ zero-scale M (e j)) ∙ ap (λ a. a • e i) (put-here i)
          ∙ A.one-scale (e i));
    })).1
      where
        put : ℕ → ℕ → K
        put i j = ⊎_elim (λ (q : j ≡ i). F.one) (λ (d : j ≡ i → ⊥). F.zero) (cases_eq j i)

        choose : (i j : ℕ) (c : (j ≡ i) ⊎ (j ≡ i → ⊥)) → K
        choose i j c = ⊎_elim (λ (q : j ≡ i). F.one) (λ (d : j ≡ i → ⊥). F.zero) c

        choose-else : (i j : ℕ) (c : (j ≡ i) ⊎ (j ≡ i → ⊥)) → (j ≡ i → ⊥) → choose i j c ≡ F.zero
        choose-else i j (inl q) d = absurd (d q)
        choose-else i j (inr n) d = refl

        choose-here : (i : ℕ) (c : (i ≡ i) ⊎ (i ≡ i → ⊥)) → choose i i c ≡ F.one
        choose-here i (inl q) = refl
        choose-here i (inr n) = absurd (n refl)

        put-else : (i j : ℕ) → (j ≡ i → ⊥) → put i j ≡ F.zero
        put-else i j d = choose-else i j (cases_eq j i) d

        put-here : (i : ℕ) → put i i ≡ F.one
        put-here i = choose-here i (cases_eq i i)

    -- solutions z 0, .., z (s − 1) that span all, and scalars w 0, .., w (d − 1), such that the traces of the
    -- w u • z t are scalars on two units: these are one
    module _ (q d s : ℕ) (z : ℕ → V) (w : ℕ → K)
        (central : (t : ℕ) → t < s → Centre A (z t)) (fixed : (t : ℕ) → t < s → IsFixed A.ring E.size (z t))
        (spans : (x : V) → Centre A x → IsFixed A.ring E.size x → InSpan M s z x)
        (additive : (a b : K) → scalar_trace q d (F.◌⊕◌ a b) ≡ F.◌⊕◌ (scalar_trace q d a) (scalar_trace q d b))
        (faithful : (b : K) → ((u : ℕ) → u < d → scalar_trace q d (F.◌⊗◌ (w u) b) ≡ F.zero) → b ≡ F.zero) where
      module _ (i j : ℕ) (li : i < D.count) (lj : j < D.count)
          (both : (t u : ℕ) → t < s → u < d
          → (c : K) × (e i ⊗ trace q d (w u • z t) ≡ c • e i) × (e j ⊗ trace q d (w u • z t) ≡ c • e j)) where
        same : (t : ℕ) → t < s → (a : K) × (e i ⊗ z t ≡ a • e i) × (e j ⊗ z t ≡ a • e j)
        same t l =
            let x = scalar_of_solution (z t) (central t l) (fixed t l) i li in
            let y = scalar_of_solution (z t) (central t l) (fixed t l) j lj in
            let b = F.◌⊕◌ x.0 (F.neg y.0) in
            let zero_is : b ≡ F.zero = faithful b (λ u g.
            let k = both t u l g in
            let p = F.◌⊗◌ (w u) x.0 in
            let r = F.◌⊗◌ (w u) y.0 in
            let left : scalar_trace q d p ≡ k.0 = cancel i li (scalar_trace q d p) k.0
            (sym (scalar-trace q d i (w u • z t) p (scalar-scale i (z t) x.0 (w u) x.1)) ∙ k.1) in
            let right : scalar_trace q d r ≡ k.0 = cancel j lj (scalar_trace q d r) k.0
            (sym (scalar-trace q d j (w u • z t) r (scalar-scale j (z t) y.0 (w u) y.1)) ∙ k.2) in
            let v = scalar_trace q d (F.◌⊗◌ (w u) b) in
            add_cancel_left F.additive (scalar_trace q d r) v F.zero
            (F.add_comm (scalar_trace q d r) v ∙ sym (additive (F.◌⊗◌ (w u) b) r)
            ∙ ap (scalar_trace q d) (ring3 F.cring (λ w x y. (w ⊠ (x ⊞ minus y) ⊞ w ⊠ y, w ⊠ x)) refl (w u) x.0 y.0)
            ∙ left ∙ sym right ∙ sym (add-zero F.monoid (scalar_trace q d r)))) in
            (x.0, x.1, y.1 ∙ ap (λ a. a • e j) (sym (eq_of_sub_eq_zero F.additive x.0 y.0 zero_is)))

        abbrev Both : V → Type 0
        Both x = (a : K) × (e i ⊗ x ≡ a • e i) × (e j ⊗ x ≡ a • e j)

        both_submodule : IsSubmodule M Both
        both_submodule = record {
          zero-in = (
            F.zero,
            mul-zero ring (e i) ∙ sym (zero-scale M (e i)),
            mul-zero ring (e j) ∙ sym (zero-scale M (e j)),
          );
          add-in = λ x y g h. (
            F.◌⊕◌ g.0 h.0,
            A.mul-add (e i) x y ∙ ap₂ (λ u v. u ⊕ v) g.1 h.1 ∙ sym (A.add-scale g.0 h.0 (e i)),
            A.mul-add (e j) x y ∙ ap₂ (λ u v. u ⊕ v) g.2 h.2 ∙ sym (A.add-scale g.0 h.0 (e j)),
          );
          scale-in = λ c x h. (
            F.◌⊗◌ c h.0,
            scalar-scale i x h.0 c h.1,
            scalar-scale j x h.0 c h.2,
          );
        }

        pub one_unit : i ≡ j
        one_unit = ⊎_elim
            (λ (q : i ≡ j). q)
            (λ (n : i ≡ j → ⊥).
            let k = span_in M Both both_submodule s z same (e i)
            (spans (e i) (D.inside i li) (solution-unit i li)) in
            let null : k.0 ≡ F.zero = cancel j lj k.0 F.zero
            (sym k.2 ∙ D.orthogonal j i lj li (λ q. n (sym q)) ∙ sym (zero-scale M (e j))) in
            absurd (D.nonzero i li (sym (D.idempotents i li) ∙ k.1 ∙ ap (λ a. a • e i) null ∙ zero-scale M (e i))))
            (cases_eq i j)
