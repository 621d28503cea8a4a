-- The maximal ideals of an algebra without nilpotent ideals but 0 whose centre is a product of fields, with the
-- idempotents e 0, e 1, .. Where u is a central idempotent, (e i)·u is 0 or e i, since the block of e i in the centre
-- is a field. Taken of the central unit of an ideal this tells which of the blocks the ideal holds.
use Rattle.std.specs.Prelude.{◌≡◌, ℕ, ◌*◌, ◌<◌, ◌≤◌, Bool, IsTrue, ◌⊎◌, ◌↔◌}
use Rattle.std.proofs.Common.{sym, ◌∙◌, ap, ap₂, subst, arith, inl, inr, ⊎_elim}
use Rattle.std.proofs.lemmas.Bool.{cases_lt, cases_eq}
use Rattle.theory_rings.specs.Ring.{RingOn, FieldOn}
use Rattle.theory_rings.specs.Sum.{sum}
use Rattle.theory_rings.proofs.Rings.RingLaws.{mul-zero, zero-mul}
use Rattle.theory_rings.proofs.Sums.Sums.{sum_congr, sum-mul}
use Rattle.theory_spaces.specs.Module.{ModuleOn, AlgebraOn, module_of}
use Rattle.theory_spaces.specs.Linear.{InSpan, Basis}
use Rattle.theory_spaces.specs.Algebra.{IdealSpan}
use Rattle.theory_spaces.specs.AlgebraMap.{IsSimple}
use Rattle.theory_spaces.specs.Subspaces.{Whole}
use Rattle.theory_spaces.proofs.Linear.Modules.{InSpan-member, linear_ext, linear_id, left_linear}
use Rattle.theory_spaces.specs.Sets.{Within, Same, Test, ring_ops}
use Rattle.theory_spaces.proofs.Algebras.Ideals.{span_ideal, ideal_whole}
use Rattle.theory_spaces.proofs.Algebras.GeneratedIdeals.{around, around_ideal, around-self, around_within}
use Rattle.theory_spaces.proofs.Algebras.SetLemmas.{ideal_same}
use Rattle.theory_spaces.proofs.Linear.SpanTests.{answer, answer-sound, answer-complete, decided}
use Rattle.theory_spaces.proofs.Linear.Spaces.{coords_of}
use Rattle.theory_spaces.proofs.Linear.Subspaces.{whole_submodule, whole_basis}
use Rattle.theory_spaces.proofs.Linear.Kernels.{rank_nullity}
use Rattle.theory_radical.specs.Ideal.{IsIdeal}
use Rattle.theory_blocks.specs.FieldFactors.{FieldFactors}
use Rattle.theory_blocks.specs.Centre.{Centre}
use Rattle.theory_blocks.specs.MaximalIdeals.{HasNoNilpotentIdeal, CentralUnit, IsMaximalIdeal, Annihilated}
use Rattle.theory_blocks.specs.MaximalIdeals.{MaximalIdealsLaw}
use Rattle.theory_blocks.proofs.Families.Decisions.{some_or_all, vector_eq_zero_or}
use Rattle.theory_blocks.proofs.Ideals.Centres.{centre-mul, centre_subalgebra}
use Rattle.theory_blocks.proofs.Commutative.FieldFactorsFamilies.{mul_mul_mul_comm}
use Rattle.theory_blocks.proofs.Commutative.FieldFactorsUnique.{factor_unit}
use Rattle.theory_blocks.proofs.Families.Spans.{linear_eq_zero}
use Rattle.theory_blocks.proofs.Ideals.LeftUnits.{idempotent_kills_rest, product_and_rest}
use Rattle.theory_blocks.proofs.Ideals.CentralIdempotents.{central_units}

module _ {K V : Type 0} {R : RingOn K} (A : AlgebraOn R V) where
  infixl 65 ◌⊕◌
  infixl 70 ◌⊗◌
  open A use {ring, ◌⊕◌, ◌⊗◌, neg}

  abbrev M : ModuleOn R V
  M = module_of A

  module _ (e : V) (central : Centre A e) where
    -- what a central element sends to 0 is an ideal
    annihilated_ideal : IsIdeal ring (Annihilated A e)
    annihilated_ideal = record {
      inside = λ x _. tt;
      zero_in = mul-zero ring e;
      add_in = λ x y g h. A.mul-add e x y ∙ ap₂ (λ p q. p ⊕ q) g h ∙ A.zero-add A.zero;
      left = λ c x _ h. sym (A.mul_assoc e c x) ∙ ap (λ z. z ⊗ x) (central c) ∙ A.mul_assoc c e x ∙ ap (λ z. c ⊗ z) h
          ∙ mul-zero ring c;
      right = λ c x _ h. sym (A.mul_assoc e x c) ∙ ap (λ z. z ⊗ c) h ∙ zero-mul ring c;
    }

    module _ (idem : e ⊗ e ≡ e) (u : V) where
      fixes-mul : e ⊗ (e ⊗ u) ≡ e ⊗ u
      fixes-mul = sym (A.mul_assoc e e u) ∙ ap (λ z. z ⊗ u) idem

      idempotent-mul : u ⊗ u ≡ u → (e ⊗ u) ⊗ (e ⊗ u) ≡ e ⊗ u
      idempotent-mul h = mul_mul_mul_comm ring e u e u (sym (central u)) ∙ ap₂ (λ y z. y ⊗ z) idem h

  module _ (n : ℕ) (g : ℕ → V) (u : CentralUnit A n g) (e : V) where
    -- what sends the unit of an ideal to 0 does so to the ideal
    span_annihilated : e ⊗ u.unit ≡ A.zero → (x : V) → InSpan M n g x → Annihilated A e x
    span_annihilated h x s = ap (λ z. e ⊗ z) (sym ((u.fixes x).0 s)) ∙ sym (A.mul_assoc e u.unit x)
        ∙ ap (λ z. z ⊗ x) h ∙ zero-mul ring x

module _ {K V : Type 0} (F : FieldOn K) (A : AlgebraOn F.ring V) (m : ℕ) (B : Basis (module_of A) m) where
  infixl 65 ◌⊕◌
  infixl 70 ◌⊗◌
  open A use {ring, monoid, one, ◌⊕◌, ◌⊗◌, neg}

  abbrev N : ModuleOn F.ring V
  N = module_of A

  -- vectors that span what e sends to 0
  record AnnihilatedSpan (e : V) : Type 0 where
    pub size : ℕ
    pub vec : ℕ → V
    pub ideal : IdealSpan A size vec
    pub spans : (x : V) → Annihilated A e x → InSpan N size vec x
    pub annihilated : (x : V) → InSpan N size vec x → Annihilated A e x

  annihilated_span : (e : V) → Centre A e → AnnihilatedSpan e
  annihilated_span e central =
      let r = rank_nullity F N N m (coords_of N m B) (λ y. e ⊗ y) (left_linear A e) Whole (whole_submodule N) m
      (whole_basis N m B) in
      let v = r.kernel.vec in
      let J = annihilated_ideal A e central in
      record {
        size = r.nullity;
        vec = v;
        ideal = span_ideal A r.nullity v
            (λ i l x. r.kernel.spans (x ⊗ v i) (tt, J.left x (v i) tt (r.kernel.inside i l).1))
            (λ i l x. r.kernel.spans (v i ⊗ x) (tt, J.right x (v i) tt (r.kernel.inside i l).1));
        spans = λ x h. r.kernel.spans x (tt, h);
        annihilated = linear_eq_zero N N (λ y. e ⊗ y) (left_linear A e) r.nullity v (λ i l. (r.kernel.inside i l).1);
      }

  module _ (none : HasNoNilpotentIdeal A) (D : FieldFactors F A (Centre A)) where
    abbrev e : ℕ → V
    e = D.idempotent

    -- a central idempotent in the block of e i is 0 or e i
    zero_or_idempotent : (i : ℕ) → i < D.count → (u : V) → Centre A u → u ⊗ u ≡ u → e i ⊗ u ≡ u → (u ≡ A.zero)
        ⊎ (u ≡ e i)
    zero_or_idempotent i l u central idem within = ⊎_elim
        (λ (z : u ≡ A.zero). inl z)
        (λ (d : u ≡ A.zero → ⊥).
        inr (factor_unit F A (Centre A) (centre_subalgebra A) (λ x y p q. p y) D i l u central within idem d))
        (vector_eq_zero_or F N m B u)

    block_out_or_in : (n : ℕ) (g : ℕ → V) (u : CentralUnit A n g) (i : ℕ) → i < D.count → (e i ⊗ u.unit ≡ A.zero)
        ⊎ (e i ⊗ u.unit ≡ e i)
    block_out_or_in n g u i l =
        let c = D.inside i l in
        let h = D.idempotents i l in
        zero_or_idempotent i l (e i ⊗ u.unit) (centre-mul A (e i) u.unit c u.central)
        (idempotent-mul A (e i) c h u.unit u.idempotent)
        (fixes-mul A (e i) c h u.unit)

    one-not_annihilated : (i : ℕ) → i < D.count → Annihilated A (e i) one → ⊥
    one-not_annihilated i l h = D.nonzero i l (sym (A.mul-one (e i)) ∙ h)

    -- an ideal that holds e i and what it sends to 0 holds one
    holds_one : (i : ℕ) → i < D.count → (J : V → Type 0) → IsIdeal ring J → Within (Annihilated A (e i)) J → J (e i)
        → J one
    holds_one i l J I above h = subst J (product_and_rest A (e i) one)
        (I.add_in (e i ⊗ one) (one ⊕ neg (e i ⊗ one)) (I.right one (e i) tt h)
        (above (one ⊕ neg (e i ⊗ one)) (idempotent_kills_rest A (e i) one (D.idempotents i l))))

    annihilated_maximal : (i : ℕ) → i < D.count → IsMaximalIdeal A (Annihilated A (e i))
    annihilated_maximal i l = record {
      ideal = annihilated_ideal A (e i) (D.inside i l);
      simple = record {
        proper = λ h. one-not_annihilated i l (h one tt);
        nothing_between = λ t T above. ⊎_elim
            (λ (h : IsTrue (t one)). inr (λ x _. ideal_whole ring (Test t) T h x))
            (λ (no : IsTrue (t one) → ⊥). inl (λ x tx.
            let n = m * m in
            let g = around A m B x in
            let u = central_units F A m B none n g (around_ideal A m B x) in
            ⊎_elim
            (λ (h : e i ⊗ u.unit ≡ A.zero). span_annihilated A n g u (e i) h x (around-self A m B x))
            (λ (h : e i ⊗ u.unit ≡ e i). absurd (no (holds_one i l (Test t) T above (subst (Test t) h
            (T.left (e i) u.unit tt (around_within A m B x (Test t) T tx u.unit u.inside))))))
            (block_out_or_in n g u i l)))
            (decided (t one));
      };
    }

    annihilated_distinct : (i j : ℕ) → i < D.count → j < D.count
        → ((x : V) → Annihilated A (e i) x → Annihilated A (e j) x) → i ≡ j
    annihilated_distinct i j l g h = ⊎_elim
        (λ (q : i ≡ j). q)
        (λ (d : i ≡ j → ⊥). absurd (D.nonzero j g (sym (D.idempotents j g) ∙ h (e j) (D.orthogonal i j l g d))))
        (cases_eq i j)

    -- an idempotent that keeps each e i is one
    one_of_blocks : (u : V) → ((i : ℕ) → i < D.count → e i ⊗ u ≡ e i) → u ≡ one
    one_of_blocks u h = sym (A.one-mul u) ∙ ap (λ z. z ⊗ u) (sym D.sum_to_one) ∙ sum-mul ring D.count u e
        ∙ sum_congr monoid D.count (λ i. e i ⊗ u) e h ∙ D.sum_to_one

    module _ (n : ℕ) (g : ℕ → V) (ideal : IdealSpan A n g) where
      abbrev In : V → Type 0
      In = InSpan N n g

      unit : CentralUnit A n g
      unit = central_units F A m B none n g ideal

      -- a maximal ideal that the block of e i is not in
      holds_annihilated : IsMaximalIdeal A In → (i : ℕ) → i < D.count → ((x : V) → In x → Annihilated A (e i) x)
          → (x : V) → Annihilated A (e i) x → In x
      holds_annihilated maximal i l within =
          let t : V → Bool = λ x. answer (vector_eq_zero_or F N m B (e i ⊗ x)) in
          let same : Same (Annihilated A (e i)) (Test t) = (
            λ x. answer-complete (vector_eq_zero_or F N m B (e i ⊗ x)),
            λ x. answer-sound (vector_eq_zero_or F N m B (e i ⊗ x)),
          ) in
          ⊎_elim
          (λ (h : Within (Test t) In). λ x a. h x (same.0 x a))
          (λ (h : Within Whole (Test t)). absurd (one-not_annihilated i l (same.1 one (h one tt))))
          (maximal.simple.nothing_between t (ideal_same (ring_ops ring) Whole (Annihilated A (e i)) (Test t) same
          (annihilated_ideal A (e i) (D.inside i l))) (λ x m. same.0 x (within x m)))

      maximal_annihilated : IsMaximalIdeal A In → (i : ℕ) × (i < D.count) × ((x : V) → In x ↔ Annihilated A (e i) x)
      maximal_annihilated maximal = ⊎_elim
          (λ (s : (i : ℕ) × (i < D.count) × (e i ⊗ unit.unit ≡ A.zero)).
          let within = span_annihilated A n g unit (e s.0) s.2 in
          (s.0, s.1, λ x. (within x, holds_annihilated maximal s.0 s.1 within x)))
          (λ (h : (i : ℕ) → i < D.count → e i ⊗ unit.unit ≡ e i). absurd (maximal.simple.proper
          (λ x _. ideal_whole ring In ideal (subst In (one_of_blocks unit.unit h) unit.inside) x)))
          (some_or_all D.count (λ i. e i ⊗ unit.unit ≡ A.zero) (λ i. e i ⊗ unit.unit ≡ e i) (block_out_or_in n g unit))

      block_simple : (i : ℕ) → i < D.count → ((j : ℕ) → j < n → e i ⊗ g j ≡ g j)
          → ((j : ℕ) → j < n → g j ≡ A.zero) ⊎ ((x : V) → e i ⊗ x ≡ x → In x)
      block_simple i l fixed =
          let u = unit.unit in
          ⊎_elim
          (λ (z : u ≡ A.zero). inl
          (λ j b. sym ((unit.fixes (g j)).0 (InSpan-member N n j g b)) ∙ ap (λ y. y ⊗ g j) z ∙ zero-mul ring (g j)))
          (λ (q : u ≡ e i). inr (λ x h. (unit.fixes x).1 (ap (λ y. y ⊗ x) q ∙ h)))
          (zero_or_idempotent i l u unit.central unit.idempotent
          (linear_ext N N (λ x. e i ⊗ x) (λ x. x) (left_linear A (e i)) (linear_id N) n g fixed u unit.inside))

    -- two blocks give an ideal other than 0 and everything
    at_most_one_block : IsSimple A → 1 < D.count → ⊥
    at_most_one_block simple l =
        let s = annihilated_span (e 0) (D.inside 0 (omega arith)) in
        ⊎_elim
        (λ (z : (j : ℕ) → j < s.size → s.vec j ≡ A.zero). D.nonzero 1 l
        (linear_eq_zero N N (λ x. x) (linear_id N) s.size s.vec z (e 1)
        (s.spans (e 1) (D.orthogonal 0 1 (omega arith) l (λ q. omega arith)))))
        (λ (all : (x : V) → InSpan N s.size s.vec x). one-not_annihilated 0 (omega arith) (s.annihilated one (all one)))
        (simple s.size s.vec s.ideal)

    one_block : IsSimple A × (one ≡ A.zero → ⊥) → D.count ≡ 1
    one_block h = ⊎_elim
        (λ (l : D.count < 1). let q : D.count ≡ 0 = omega arith in
        absurd (h.1 (sym D.sum_to_one ∙ ap (λ k. sum monoid k e) q)))
        (λ (l : 1 ≤ D.count). ⊎_elim
        (λ (b : 1 < D.count). absurd (at_most_one_block h.0 b))
        (λ (b : D.count ≤ 1). let q : D.count ≡ 1 = omega arith in q)
        (cases_lt 1 D.count))
        (cases_lt D.count 1)

    simple_of_one_block : D.count ≡ 1 → IsSimple A × (one ≡ A.zero → ⊥)
    simple_of_one_block q =
        let l : 0 < D.count = omega arith in
        let same : one ≡ e 0 = sym D.sum_to_one ∙ ap (λ k. sum monoid k e) q ∙ A.zero-add (e 0) in
        let fix : (x : V) → e 0 ⊗ x ≡ x = λ x. ap (λ y. y ⊗ x) (sym same) ∙ A.one-mul x in (
          λ n g ideal. ⊎_elim (λ z. inl z) (λ h. inr (λ x. h x (fix x)))
              (block_simple n g ideal 0 l (λ j b. fix (g j))),
          λ z. D.nonzero 0 l (sym same ∙ z),
        )

  pub maximal_ideals_by_factors : MaximalIdealsLaw F A
  maximal_ideals_by_factors none D = record {
    maximal = annihilated_maximal none D;
    distinct = annihilated_distinct none D;
    complete = maximal_annihilated none D;
    blocks = λ i l n g ideal. block_simple none D n g ideal i l;
    simple = (one_block none D, simple_of_one_block none D);
  }
