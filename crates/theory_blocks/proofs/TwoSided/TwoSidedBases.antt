-- Where the centre is a field, the algebra has a basis over it: the vectors of a basis are taken one at a time, unless
-- those taken before span them. The products with a basis of the centre are a basis.
use Rattle.std.specs.Prelude.{◌≡◌, ℕ, zero, suc, ◌+◌, ◌*◌, ◌/◌, ◌%◌, ◌<◌, ◌≤◌}
use Rattle.std.proofs.Common.{sym, ◌∙◌, ap, ap₂, subst, arith, ⊎_elim}
use Rattle.theory_rings.specs.Ring.{FieldOn}
use Rattle.theory_rings.specs.Sum.{sum}
use Rattle.theory_rings.proofs.Rings.RingLaws.{add-zero, zero-mul, neg_unique, mul-neg, neg-mul}
use Rattle.theory_rings.proofs.Sums.Sums.{sum_congr, sum_eq_zero, mul-sum}
use Rattle.theory_spaces.specs.Module.{ModuleOn, AlgebraOn, module_of}
use Rattle.theory_spaces.specs.Linear.{comb, InSpan, Independent, Basis, BasisOf}
use Rattle.theory_spaces.proofs.Linear.Families.{push, push-below, push-at, below_suc}
use Rattle.theory_spaces.proofs.Linear.Modules.{right_linear, span_in, comb_in, InSpan_trans, InSpan-member}
use Rattle.theory_spaces.proofs.Linear.Dimension.{exchange, dimension_unique}
use Rattle.theory_spaces.proofs.Linear.Spaces.{coords_of, basis_of, extend_or_span}
use Rattle.theory_spaces.proofs.Linear.Subspaces.{neg_in}
use Rattle.theory_spaces.proofs.Matrices.PairIndex.{row-lt}
use Rattle.theory_blocks.specs.Centre.{Centre, CentreIsField}
use Rattle.theory_blocks.specs.TwoSidedRank.{IndependentOverCentre, InSpanOverCentre, BasisOverCentre}
use Rattle.theory_blocks.specs.TwoSidedRank.{BasisOverCentreExists}
use Rattle.theory_blocks.proofs.Families.Decisions.{vector_eq_zero_or}
use Rattle.theory_blocks.proofs.Families.Pairs.{comb-images, independent_images, span_images}
use Rattle.theory_blocks.proofs.Ideals.Centres.{centre_submodule, centre-one, centre-mul}

module _ {K V : Type 0} (F : FieldOn K) (A : AlgebraOn F.ring V) (m : ℕ) (B : Basis (module_of A) m) (z : ℕ)
    (C : BasisOf (module_of A) z (Centre A)) where
  infixl 65 ◌⊕◌
  infixl 70 ◌⊗◌
  open A use {ring, monoid, additive, one, neg, ◌⊕◌, ◌⊗◌}

  abbrev M : ModuleOn F.ring V
  M = module_of A

  -- the products of a basis of the centre with the vectors a
  abbrev products : (ℕ → V) → ℕ → V
  products a t = C.vec (t % z) ⊗ a (t / z)

  products_independent : (d : ℕ) (a : ℕ → V) → IndependentOverCentre A d a → Independent M (d * z) (products a)
  products_independent d a free =
      independent_images M M d z (λ k x. x ⊗ a k) (λ k. right_linear A (a k)) C.vec C.independent
      (λ w s e. free.only_zero w (λ k l. span_in M (Centre A) (centre_submodule A) z C.vec C.inside (w k) (s k l)) e)

  -- their combinations are those of the vectors a with weights in the centre
  products_span : (d : ℕ) (a : ℕ → V) (x : V) → InSpanOverCentre A d a x → InSpan M (d * z) (products a) x
  products_span d a x s =
      let P : V → Type 0 = InSpan M (d * z) (products a) in
      subst P (sym s.combines)
      (span_images M M d z (λ k x. x ⊗ a k) (λ k. right_linear A (a k)) C.vec s.weights
      (λ k l. C.spans (s.weights k) (s.central k l)))

  span_of_products : (d : ℕ) (a : ℕ → V) (x : V) → InSpan M (d * z) (products a) x → InSpanOverCentre A d a x
  span_of_products d a x s = record {
    weights = λ k. comb M z (λ j. s.weights (k * z + j)) C.vec;
    central = λ k l. comb_in M (Centre A) (centre_submodule A) z (λ j. s.weights (k * z + j)) C.vec C.inside;
    combines = s.combines ∙ comb-images M M d z (λ k x. x ⊗ a k) (λ k. right_linear A (a k)) C.vec s.weights;
  }

  -- a vector outside of the span of the products makes the vectors a one more
  push_independent : CentreIsField A → (d : ℕ) (a : ℕ → V) (x : V) → IndependentOverCentre A d a
      → Independent M (suc (d * z)) (push (d * z) x (products a))
      → IndependentOverCentre A (suc d) (push d x a)
  push_independent field d a x free outside = record {
    only_zero = λ c p e.
        let S = sum monoid d (λ i. c i ⊗ a i) in
        let same = sum_congr monoid d (λ i. c i ⊗ push d x a i) (λ i. c i ⊗ a i)
        (λ i l. ap (λ t. c i ⊗ t) (push-below d x a i l)) in
        let e1 : S ⊕ c d ⊗ x ≡ A.zero = sym (ap₂ (λ s t. s ⊕ c d ⊗ t) same (push-at d x a)) ∙ e in
        ⊎_elim
        (λ (q : c d ≡ A.zero). below_suc d (λ i. c i ≡ A.zero)
        (free.only_zero c (λ i l. p i (omega arith))
        (sym (add-zero monoid S) ∙ ap (λ t. S ⊕ t) (sym (ap (λ t. t ⊗ x) q ∙ zero-mul ring x)) ∙ e1)) q)
        (λ (q : c d ≡ A.zero → ⊥). absurd (not_spanned (spanned c p q e1)))
        (vector_eq_zero_or F M m B (c d));
  }
    where
      not_spanned : InSpanOverCentre A d a x → ⊥
      not_spanned s =
          let N = d * z in
          let P : V → Type 0 = InSpan M N (products a) in
          let l : suc N ≤ N = exchange F M (suc N) N (push N x (products a)) (products a) outside
          (below_suc N (λ i. P (push N x (products a) i))
          (λ i g. subst P (sym (push-below N x (products a) i g)) (InSpan-member M N i (products a) g))
          (subst P (sym (push-at N x (products a))) (products_span d a x s))) in
          omega arith

      spanned : (c : ℕ → V) → ((i : ℕ) → i < suc d → Centre A (c i)) → (c d ≡ A.zero → ⊥)
          → sum monoid d (λ i. c i ⊗ a i) ⊕ c d ⊗ x ≡ A.zero
          → InSpanOverCentre A d a x
      spanned c p q e =
          let i = field (c d) (p d (omega arith)) q in
          let w = i.0 in
          let S = sum monoid d (λ i. c i ⊗ a i) in
          record {
            weights = λ k. neg w ⊗ c k;
            central = λ k l. centre-mul A (neg w) (c k) (neg_in M (Centre A) (centre_submodule A) w i.1)
                (p k (omega arith));
            combines =
                sym (A.one-mul x) ∙ ap (λ t. t ⊗ x) (sym (i.1 (c d) ∙ i.2)) ∙ A.mul_assoc w (c d) x
                ∙ ap (λ t. w ⊗ t) (neg_unique additive S (c d ⊗ x) e) ∙ mul-neg ring w S ∙ sym (neg-mul ring w S)
                ∙ mul-sum ring d (neg w) (λ i. c i ⊗ a i)
                ∙ sum_congr monoid d (λ i. neg w ⊗ (c i ⊗ a i)) (λ i. (neg w ⊗ c i) ⊗ a i)
                (λ i _. sym (A.mul_assoc (neg w) (c i) (a i)));
          }

  -- vectors independent over the centre that span the first n vectors of the basis
  record Grown (n : ℕ) : Type 0 where
    pub size : ℕ
    pub vec : ℕ → V
    pub independent : IndependentOverCentre A size vec
    pub spans : (i : ℕ) → i < n → InSpan M (size * z) (products vec) (B.vec i)

  -- x is a combination of the vectors a and x
  last_in : (d : ℕ) (a : ℕ → V) (x : V) → InSpanOverCentre A (suc d) (push d x a) x
  last_in d a x =
      let c = push d one (λ _. A.zero) in
      let v = push d x a in
      record {
        weights = c;
        central = below_suc d (λ i. Centre A (c i))
            (λ i l. rw (push-below d one (λ _. A.zero) i l) (centre_submodule A).zero-in)
            (rw (push-at d one (λ _. A.zero)) (centre-one A));
        combines = sym (ap₂ (λ s t. s ⊕ t)
            (sum_eq_zero monoid d (λ i. c i ⊗ v i)
            (λ i l. ap (λ t. t ⊗ v i) (push-below d one (λ _. A.zero) i l) ∙ zero-mul ring (v i)))
            (ap₂ (λ s t. s ⊗ t) (push-at d one (λ _. A.zero)) (push-at d x a) ∙ A.one-mul x)
            ∙ A.zero-add x);
      }

  -- one vector more
  products_push : (d : ℕ) (a : ℕ → V) (x y : V) → InSpan M (d * z) (products a) y
      → InSpan M (suc d * z) (products (push d x a)) y
  products_push d a x y = InSpan_trans M (d * z) (suc d * z) (products a) (products (push d x a)) y (λ t l.
      let P : V → Type 0 = InSpan M (suc d * z) (products (push d x a)) in
      let e : suc d * z ≡ d * z + z = omega arith in
      subst P (ap (λ y. C.vec (t % z) ⊗ y) (push-below d x a (t / z) (row-lt d z t l)))
      (InSpan-member M (suc d * z) t (products (push d x a)) (omega arith)))

  grown_more : CentreIsField A → (n : ℕ) (g : Grown n)
      → Independent M (suc (g.size * z)) (push (g.size * z) (B.vec n) (products g.vec)) → Grown (suc n)
  grown_more field n g outside =
      let d = g.size in
      let b = B.vec n in
      let v = push d b g.vec in
      record {
        size = suc d;
        vec = v;
        independent = push_independent field d g.vec b g.independent outside;
        spans = below_suc n (λ i. InSpan M (suc d * z) (products v) (B.vec i))
            (λ i l. products_push d g.vec b (B.vec i) (g.spans i l))
            (products_span (suc d) v b (last_in d g.vec b));
      }

  grow : CentreIsField A → (n : ℕ) → Grown n
  grow field zero = record {
    size = zero;
    vec = B.vec;
    independent = record { only_zero = λ c p e i l. absurd (omega arith) };
    spans = λ i l. absurd (omega arith);
  }
  grow field (suc n) =
      let g = grow field n in
      ⊎_elim
      (λ (s : InSpan M (g.size * z) (products g.vec) (B.vec n)). record {
        size = g.size;
        vec = g.vec;
        independent = g.independent;
        spans = below_suc n (λ i. InSpan M (g.size * z) (products g.vec) (B.vec i)) g.spans s;
      })
      (grown_more field n g)
      (extend_or_span F M m (coords_of M m B) (g.size * z) (products g.vec)
      (products_independent g.size g.vec g.independent) (B.vec n))

  basis_of_grown : Grown m → (d : ℕ) × BasisOverCentre A d × (d * z ≡ m)
  basis_of_grown g =
      let spans : (x : V) → InSpan M (g.size * z) (products g.vec) x = λ x.
      InSpan_trans M m (g.size * z) B.vec (products g.vec) x g.spans
      (record { weights = B.coord x; combines = B.expand x }) in (
        g.size,
        record { vec = g.vec; independent = g.independent; spans = λ x. span_of_products g.size g.vec x (spans x) },
        dimension_unique F M (g.size * z) m
            (basis_of M (g.size * z) (products g.vec) (products_independent g.size g.vec g.independent) spans) B,
      )

  pub basis_over_centre : BasisOverCentreExists F A m B z
  basis_over_centre field = basis_of_grown (grow field m)
