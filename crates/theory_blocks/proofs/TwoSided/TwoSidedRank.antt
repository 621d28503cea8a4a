-- An algebra is simple exactly where its centre is a field and the maps y → b i·y·b j span a space of the dimension
-- m²/z, where m is the dimension of the algebra and z that of the centre.
use Rattle.std.specs.Prelude.{◌≡◌, ℕ, ◌+◌, ◌*◌, ◌/◌, ◌%◌, ◌<◌, ◌≤◌}
use Rattle.std.proofs.Common.{sym, ◌∙◌, ap, ap₂, subst, arith, inl, inr, ⊎_elim}
use Rattle.std.proofs.Math.Nat.{le_of_mul-le-mul_right, mul-le-mul_right}
use Rattle.std.proofs.lemmas.Nat.{div-mul-add, mod-mul-add}
use Rattle.std.proofs.lemmas.Bool.{cases_lt}
use Rattle.theory_rings.specs.Ring.{FieldOn}
use Rattle.theory_rings.proofs.Rings.RingLaws.{zero-mul}
use Rattle.theory_rings.proofs.Sums.Sums.{sum_eq_zero}
use Rattle.theory_spaces.specs.Module.{ModuleOn, AlgebraOn, module_of}
use Rattle.theory_spaces.specs.Linear.{InSpan, Basis, BasisOf}
use Rattle.theory_spaces.specs.Algebra.{IdealSpan}
use Rattle.theory_spaces.specs.AlgebraMap.{IsSimple}
use Rattle.theory_spaces.proofs.Linear.Modules.{InSpan_trans, InSpan-comb, InSpan-member, map-comb}
use Rattle.theory_spaces.proofs.Linear.Dimension.{exchange}
use Rattle.theory_spaces.proofs.Linear.Spaces.{BasisOf-size}
use Rattle.theory_spaces.proofs.Matrices.PairIndex.{pair-lt}
use Rattle.theory_spaces.proofs.Algebras.Ideals.{ideal_left, ideal_right}
use Rattle.theory_blocks.specs.Centre.{Centre, CentreIsField}
use Rattle.theory_spaces.specs.Functions.{maps}
use Rattle.theory_blocks.specs.TwoSidedRank.{BasisOverCentre, two_sided, TwoSidedRank, SimpleByRank}
use Rattle.theory_blocks.proofs.Families.Decisions.{other_or_all, vector_eq_zero_or}
use Rattle.theory_blocks.proofs.Families.Pairs.{independent_images}
use Rattle.theory_blocks.proofs.Families.Spans.{sum-at, span-at, span_none, span_of_independent}
use Rattle.theory_blocks.proofs.Ideals.Centres.{centre-one, centre_field}
use Rattle.theory_blocks.proofs.TwoSided.TwoSidedMaps.{two_sided_maps_vanish}
use Rattle.theory_blocks.proofs.TwoSided.TwoSidedBases.{basis_over_centre}
use Rattle.theory_blocks.proofs.TwoSided.TwoSidedFamilies.{times, times_linear, family, left_by, coefficient}
use Rattle.theory_blocks.proofs.TwoSided.TwoSidedFamilies.{sandwich_in, sandwich_over_centre, sandwich_by_coefficients}

module _ {K V : Type 0} (F : FieldOn K) (A : AlgebraOn F.ring V) (m : ℕ) (B : Basis (module_of A) m) where
  infixl 70 ◌⊗◌
  open A use {ring, monoid, one, ◌⊗◌}

  abbrev M : ModuleOn F.ring V
  M = module_of A

  abbrev Maps : ModuleOn F.ring (V → V)
  Maps = maps V M

  -- y → b i·y·b j, what these maps span, and its dimension
  abbrev both : ℕ → V → V
  both = two_sided F A m B

  abbrev InBoth : (V → V) → Type 0
  InBoth = InSpan Maps (m * m) both

  abbrev Rank : ℕ → Type 0
  Rank = TwoSidedRank F A m B

  pub rank_unique : (r s : ℕ) → Rank r → Rank s → r ≡ s
  rank_unique r s T U = BasisOf-size F Maps r s InBoth T U

  module _ (d : ℕ) (D : BasisOverCentre A d) where
    -- in a simple algebra the maps y → a k·y·b j by a basis a over the centre are a basis
    rank_of_basis : IsSimple A → Rank (d * m)
    rank_of_basis simple =
        let f = left_by F A m B D.vec in
        record {
          vec = family F A m B f;
          independent = independent_images M Maps d m (λ k. times F A m B (f k))
              (λ k. times_linear F A m B (f k)) B.vec B.independent
              (λ w _ e. two_sided_maps_vanish F A m B simple d D.vec w D.independent
              (λ y. sym (sum-at M d (λ k. times F A m B (f k) (w k)) y) ∙ ap (λ (h : V → V). h y) e));
          inside = λ t _. sandwich_in F A m B (D.vec (t / m)) (B.vec (t % m));
          spans = λ h s. InSpan_trans Maps (m * m) (d * m) both (family F A m B f) h
              (λ t _. sandwich_over_centre F A m B d D (B.vec (t / m)) (B.vec (t % m))) s;
        }

    abbrev c : ℕ → V → V
    c = coefficient F A m B d D

    -- the products c k y·b j of the coefficients c k with the basis span the maps y → b i·y·b j
    abbrev by_coefficients : ℕ → V → V
    by_coefficients = family F A m B c

    in_by_coefficients : (h : V → V) → InBoth h → InSpan Maps (d * m) by_coefficients h
    in_by_coefficients h =
        InSpan_trans Maps (m * m) (d * m) both by_coefficients h
        (λ t _. sandwich_by_coefficients F A m B d D (B.vec (t / m)) (B.vec (t % m)))

    -- so the rank is no more than their number
    rank_at_most : (r : ℕ) → Rank r → r ≤ d * m
    rank_at_most r T = exchange F Maps r (d * m) T.vec by_coefficients T.independent
        (λ i l. in_by_coefficients (T.vec i) (T.inside i l))

    module _ (T : Rank (d * m)) where
      -- where it is their number they are combinations of the maps y → b i·y·b j
      by_coefficients_in : (t : ℕ) → t < d * m → InBoth (by_coefficients t)
      by_coefficients_in t l = InSpan_trans Maps (d * m) (m * m) T.vec both (by_coefficients t) T.inside
          (span_of_independent F Maps (d * m) (d * m) T.vec by_coefficients T.independent
          (λ i q. in_by_coefficients (T.vec i) (T.inside i q)) (omega arith)
          (by_coefficients t) (InSpan-member Maps (d * m) t by_coefficients l))

      -- and so is c k, as one is a combination of the basis
      coefficient_in : (k : ℕ) → k < d → InBoth (times F A m B (c k) one)
      coefficient_in k l =
          let f = times F A m B (c k) in
          subst InBoth (sym (ap f (B.expand one)
          ∙ map-comb M Maps f (times_linear F A m B (c k)) m (B.coord one) B.vec))
          (InSpan-comb Maps m (m * m) (B.coord one) (λ j. f (B.vec j)) both
          (λ j g. subst InBoth (ap₂ (λ p q. times F A m B (c p) (B.vec q)) (div-mul-add k m j g) (mod-mul-add k m j g))
          (by_coefficients_in (k * m + j) (pair-lt d m k j l g))))

      module _ (n : ℕ) (g : ℕ → V) (ideal : IdealSpan A n g) where
        abbrev In : V → Type 0
        In = InSpan M n g

        -- an ideal holds what these maps make of its members
        kept : (h : V → V) → InBoth h → (x : V) → In x → In (h x)
        kept h s x i = InSpan_trans M (m * m) n (λ t. both t x) g (h x)
            (λ t _. ideal_right A n g ideal (B.vec (t % m)) (B.vec (t / m) ⊗ x)
            (ideal_left A n g ideal (B.vec (t / m)) x i))
            (span-at M (m * m) both h s x)

        -- it holds everything if it holds an element of the centre with an inverse
        whole_of_unit : (x u : V) → In x → x ⊗ u ≡ one → (y : V) → In y
        whole_of_unit x u i e y =
            subst In (sym (A.mul_assoc x u y) ∙ ap (λ t. t ⊗ y) e ∙ A.one-mul y) (ideal_right A n g ideal (u ⊗ y) x i)

        -- with a vector other than 0 it holds a coefficient other than 0
        whole : CentreIsField A → (x : V) → In x → (x ≡ A.zero → ⊥) → (y : V) → In y
        whole field x i q = ⊎_elim
            (λ (p : (k : ℕ) × (k < d) × (c k x ≡ A.zero → ⊥)).
            let u = field (c p.0 x) ((D.spans x).central p.0 p.1) p.2 in
            whole_of_unit (c p.0 x) u.0
            (subst In (A.mul-one (c p.0 x)) (kept (times F A m B (c p.0) one) (coefficient_in p.0 p.1) x i)) u.2)
            (λ (h : (k : ℕ) → k < d → c k x ≡ A.zero). absurd (q ((D.spans x).combines
            ∙ sum_eq_zero monoid d (λ k. c k x ⊗ D.vec k)
            (λ k l. ap (λ t. t ⊗ D.vec k) (h k l) ∙ zero-mul ring (D.vec k)))))
            (other_or_all A.zero (vector_eq_zero_or F M m B) d (λ k. c k x))

      simple_of_full : CentreIsField A → IsSimple A
      simple_of_full field n g ideal = ⊎_elim
          (λ (p : (i : ℕ) × (i < n) × (g i ≡ A.zero → ⊥)). inr
          (whole n g ideal field (g p.0) (InSpan-member M n p.0 g p.1) p.2))
          inl
          (other_or_all A.zero (vector_eq_zero_or F M m B) n g)

  module _ (z : ℕ) (C : BasisOf M z (Centre A)) where
    -- where one is not 0 the centre isn't 0
    centre-positive : (one ≡ A.zero → ⊥) → 0 < z
    centre-positive nonzero = ⊎_elim
        (λ (l : z < 1). absurd (nonzero (span_none M z C.vec one (C.spans one (centre-one A)) (omega arith))))
        (λ (l : 1 ≤ z). l)
        (cases_lt z 1)

    -- with m = d·z, d·m is m²/z
    total : (d : ℕ) → d * z ≡ m → d * m * z ≡ m * m
    total d e = let h = ap (λ t. t * m) e in omega arith

    rank_of_simple : IsSimple A → (r : ℕ) → Rank r → r * z ≡ m * m
    rank_of_simple simple r T =
        let D = basis_over_centre F A m B z C (centre_field A m B simple) in
        ap (λ t. t * z) (rank_unique r (D.0 * m) T (rank_of_basis D.0 D.1 simple)) ∙ total D.0 D.2

    rank_bound : CentreIsField A → (r : ℕ) → Rank r → r * z ≤ m * m
    rank_bound field r T =
        let D = basis_over_centre F A m B z C field in
        let P : ℕ → Type 0 = λ t. r * z ≤ t in
        subst P (total D.0 D.2) (mul-le-mul_right z (rank_at_most D.0 D.1 r T))

    full_rank : (one ≡ A.zero → ⊥) → (r d : ℕ) → r * z ≡ m * m → d * m * z ≡ m * m → r ≡ d * m
    full_rank nonzero r d e h =
        let p = centre-positive nonzero in
        let a : r ≤ d * m = le_of_mul-le-mul_right {m = r} {n = d * m} {k = z} (omega arith) p in
        let b : d * m ≤ r = le_of_mul-le-mul_right {m = d * m} {n = r} {k = z} (omega arith) p in
        omega arith

    simple_of_rank : (one ≡ A.zero → ⊥) → CentreIsField A → (r : ℕ) → Rank r → r * z ≡ m * m → IsSimple A
    simple_of_rank nonzero field r T e =
        let D = basis_over_centre F A m B z C field in
        simple_of_full D.0 D.1 (subst Rank (full_rank nonzero r D.0 e (total D.0 D.2)) T) field

  pub simple_by_rank : (z : ℕ) → BasisOf M z (Centre A) → (one ≡ A.zero → ⊥) → SimpleByRank F A m B z
  simple_by_rank z C nonzero = record {
    to_field = centre_field A m B;
    to_rank = rank_of_simple z C;
    of_rank = simple_of_rank z C nonzero;
    at_most = rank_bound z C;
  }
