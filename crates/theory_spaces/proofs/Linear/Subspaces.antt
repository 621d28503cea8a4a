-- Sum and meet of two subspaces: the sum of their dimensions is that of the dimensions of the two.
use Rattle.std.specs.Prelude.{◌≡◌, ℕ, ◌+◌, ◌-◌, ◌<◌, ◌≤◌}
use Rattle.std.proofs.Common.{refl, sym, ◌∙◌, ap, ap₂, subst, arith, ⊎_elim}
use Rattle.std.proofs.lemmas.Bool.{cases_lt}
use Rattle.theory_rings.specs.Ring.{RingOn, FieldOn}
use Rattle.theory_rings.proofs.Rings.RingLaws.{add-zero, add-neg, add_add_add_comm, neg_unique, neg_neg}
use Rattle.theory_rings.proofs.Sums.Sums.{sum_eq_zero}
use Rattle.theory_spaces.specs.Module.{ModuleOn}
use Rattle.theory_spaces.specs.Linear.{comb, Coords, IsSubmodule, Basis, BasisOf, IsLinear}
use Rattle.theory_spaces.specs.Subspaces.{Whole, Kernel, Image, Sum, Meet, SumAndMeet, pairs}
use Rattle.theory_spaces.proofs.Linear.Families.{join, join-below, join-above, each_join}
use Rattle.theory_spaces.proofs.Linear.Modules.{neg_one-scale, scale-zero, comb_congr, comb-join, map-comb}
use Rattle.theory_spaces.proofs.Linear.Spaces.{BasisOf-size}
use Rattle.theory_spaces.proofs.Linear.Kernels.{rank_nullity}

module _ {K V : Type 0} {R : RingOn K} (M : ModuleOn R V) where
  -- a basis of a subspace, by another name for its vectors
  pub BasisOf-iff : (n : ℕ) (S T : V → Type 0) → ((x : V) → S x → T x) → ((x : V) → T x → S x) → BasisOf M n S
      → BasisOf M n T
  BasisOf-iff n S T to from B = record {
    vec = B.vec;
    independent = B.independent;
    inside = λ j l. to (B.vec j) (B.inside j l);
    spans = λ x t. B.spans x (from x t);
  }

  pub whole_submodule : IsSubmodule M Whole
  whole_submodule = record { zero-in = tt; add-in = λ x y g h. tt; scale-in = λ a x g. tt }

  pub whole_basis : (n : ℕ) → Basis M n → BasisOf M n Whole
  whole_basis n B = record {
    vec = B.vec;
    independent = B.independent;
    inside = λ j l. tt;
    spans = λ x h. record { weights = B.coord x; combines = B.expand x };
  }

  pub neg_in : (S : V → Type 0) → IsSubmodule M S → (x : V) → S x → S (M.neg x)
  neg_in S h x s = subst S (neg_one-scale M x) (h.scale-in (R.neg R.one) x s)

-- pairs of a vector of each of two subspaces
module _ {K V W : Type 0} {R : RingOn K} (M : ModuleOn R V) (N : ModuleOn R W) where
  abbrev P : ModuleOn R (V × W)
  P = pairs M N

  pub fst_linear : IsLinear P M (λ p. p.0)
  fst_linear = record { map-add = λ p q. refl; map-scale = λ a p. refl }

  pub snd_linear : IsLinear P N (λ p. p.1)
  snd_linear = record { map-add = λ p q. refl; map-scale = λ a p. refl }

  abbrev pub left_pair : V → V × W
  left_pair x = (x, N.zero)

  abbrev pub right_pair : W → V × W
  right_pair y = (M.zero, y)

  pub left_pair_linear : IsLinear M P left_pair
  left_pair_linear = record {
    map-add = λ x y. λ i. (M.◌⊕◌ x y, sym (N.zero-add N.zero) i);
    map-scale = λ a x. λ i. (M.◌•◌ a x, sym (scale-zero N a) i);
  }

  pub right_pair_linear : IsLinear N P right_pair
  right_pair_linear = record {
    map-add = λ x y. λ i. (sym (M.zero-add M.zero) i, N.◌⊕◌ x y);
    map-scale = λ a x. λ i. (sym (scale-zero M a) i, N.◌•◌ a x);
  }

  module _ (U : V → Type 0) (Z : W → Type 0) (k l : ℕ) (B : BasisOf M k U) (C : BasisOf N l Z) where
    abbrev both : ℕ → V × W
    both = join k (λ i. left_pair (B.vec i)) (λ j. right_pair (C.vec j))

    comb-both : (c : ℕ → K) → comb P (k + l) c both ≡ (comb M k c B.vec, comb N l (λ j. c (k + j)) C.vec)
    comb-both c =
        comb-join P k l c (λ i. left_pair (B.vec i)) (λ j. right_pair (C.vec j))
        ∙ ap₂ P.◌⊕◌ (sym (map-comb M P left_pair left_pair_linear k c B.vec))
        (sym (map-comb N P right_pair right_pair_linear l (λ j. c (k + j)) C.vec))
        ∙ (λ i. (add-zero M.monoid (comb M k c B.vec) i, N.zero-add (comb N l (λ j. c (k + j)) C.vec) i))

    -- a basis of the pairs
    pub pairs_basis : U M.zero → Z N.zero → BasisOf P (k + l) (λ p. U p.0 × Z p.1)
    pairs_basis u0 z0 = record {
      vec = both;
      independent = record {
        only_zero = λ c e i g.
            let h = sym (comb-both c) ∙ e in
            let one : (i : ℕ) → i < k → c i ≡ R.zero = B.independent.only_zero c (ap (λ (p : V × W). p.0) h) in
            let two : (j : ℕ) → j < l
            → c (k + j) ≡ R.zero = C.independent.only_zero (λ j. c (k + j)) (ap (λ (p : V × W). p.1) h) in
            ⊎_elim (one i) (λ (d : k ≤ i). let q : i ≡ k + (i - k) = omega arith in ap c q
            ∙ two (i - k) (omega arith)) (cases_lt i k);
      };
      inside = each_join k l (λ i. left_pair (B.vec i)) (λ j. right_pair (C.vec j)) (λ p. U p.0 × Z p.1)
          (λ i g. (B.inside i g, z0)) (λ j g. (u0, C.inside j g));
      spans = λ p h.
          let s = B.spans p.0 h.0 in
          let t = C.spans p.1 h.1 in
          let c = join k s.weights t.weights in
          record {
            weights = c;
            combines = (λ i. (
              (s.combines ∙ sym (comb_congr M k c s.weights B.vec (join-below k s.weights t.weights))) i,
              (t.combines ∙ sym (comb_congr N l (λ j. c (k + j)) t.weights C.vec
                  (λ j _. join-above k s.weights t.weights j))) i,
            ))
                ∙ sym (comb-both c);
          };
    }

module _ {K V : Type 0} (F : FieldOn K) (M : ModuleOn F.ring V) (m : ℕ) (C : Coords M m) where
  infixl 65 ◌⊕◌
  open M use {◌⊕◌, neg}

  abbrev add_parts : V × V → V
  add_parts p = p.0 ⊕ p.1

  add_parts_linear : IsLinear (pairs M M) M add_parts
  add_parts_linear = record {
    map-add = λ p q. add_add_add_comm M.monoid p.0 q.0 p.1 q.1;
    map-scale = λ a p. sym (M.scale-add a p.0 p.1);
  }

  module _ (U W : V → Type 0) (hU : IsSubmodule M U) (hW : IsSubmodule M W) where
    abbrev Both : V × V → Type 0
    Both p = U p.0 × W p.1

    both_submodule : IsSubmodule (pairs M M) Both
    both_submodule = record {
      zero-in = (hU.zero-in, hW.zero-in);
      add-in = λ p q g h. (hU.add-in p.0 q.0 g.0 h.0, hW.add-in p.1 q.1 g.1 h.1);
      scale-in = λ a p g. (hU.scale-in a p.0 g.0, hW.scale-in a p.1 g.1);
    }

    abbrev InKernel : V × V → Type 0
    InKernel = Kernel (pairs M M) M add_parts Both

    opposite : (p : V × V) → p.0 ⊕ p.1 ≡ M.zero → neg p.1 ≡ p.0
    opposite p e = ap neg (neg_unique M.additive p.0 p.1 e) ∙ neg_neg M.additive p.0

    -- the first parts of the kernel are the meet
    meet_basis : (t : ℕ) → BasisOf (pairs M M) t InKernel → BasisOf M t (Meet M U W)
    meet_basis t B = record {
      vec = λ i. (B.vec i).0;
      independent = record {
        only_zero = λ c e.
            let p = comb (pairs M M) t c B.vec in
            let first : p.0 ≡ M.zero = map-comb (pairs M M) M (λ p. p.0) (fst_linear M M) t c B.vec ∙ e in
            let whole : p.0 ⊕ p.1 ≡ M.zero = map-comb (pairs M M) M add_parts add_parts_linear t c B.vec
            ∙ sum_eq_zero M.monoid t (λ i. M.◌•◌ (c i) (add_parts (B.vec i)))
            (λ i l. ap (M.◌•◌ (c i)) (B.inside i l).1 ∙ scale-zero M (c i)) in
            let second : p.1 ≡ M.zero = sym (M.zero-add p.1) ∙ ap (λ y. y ⊕ p.1) (sym first) ∙ whole in
            B.independent.only_zero c (λ i. (first i, second i));
      };
      inside = λ j l. let h = B.inside j l in
          (h.0.0, subst W (opposite (B.vec j) h.1) (neg_in M W hW (B.vec j).1 h.0.1));
      spans = λ x h.
          let s = B.spans (x, neg x) ((h.0, neg_in M W hW x h.1), add-neg M.additive x) in
          record {
            weights = s.weights;
            combines = ap (λ (p : V × V). p.0) s.combines
                ∙ map-comb (pairs M M) M (λ p. p.0) (fst_linear M M) t s.weights B.vec;
          };
    }

    -- dim(U + W) + dim(U ∩ W) = dim U + dim W
    pub sum_and_meet : (k l : ℕ) → BasisOf M k U → BasisOf M l W → SumAndMeet M U W (k + l)
    sum_and_meet k l B D =
        let h = rank_nullity F (pairs M M) M m C add_parts add_parts_linear Both both_submodule (k + l)
        (pairs_basis M M U W k l B D hU.zero-in hW.zero-in) in
        let total = h.total in
        record {
          sum_size = h.rank;
          meet_size = h.nullity;
          total = omega arith;
          sum = BasisOf-iff M h.rank (Image (pairs M M) M add_parts Both) (Sum M U W)
              (λ y g. (g.0.0, g.0.1, g.1.0, g.1.1, sym g.2)) (λ y g. ((g.0, g.1), (g.2, g.3), sym g.4)) h.image;
          meet = meet_basis h.nullity h.kernel;
        }

    -- whatever the bases are
    pub sum_add_meet : (k l s t : ℕ) → BasisOf M k U → BasisOf M l W → BasisOf M s (Sum M U W)
        → BasisOf M t (Meet M U W) → s + t ≡ k + l
    sum_add_meet k l s t B D P Q =
        let h = sum_and_meet k l B D in
        let total = h.total in
        let e : s ≡ h.sum_size = BasisOf-size F M s h.sum_size (Sum M U W) P h.sum in
        let d : t ≡ h.meet_size = BasisOf-size F M t h.meet_size (Meet M U W) Q h.meet in
        omega arith

module _ {K V W : Type 0} (F : FieldOn K) (M : ModuleOn F.ring V) (N : ModuleOn F.ring W) (m : ℕ) (C : Coords N m)
    (f : V → W) (lf : IsLinear M N f) where
  -- whatever the bases of kernel and image are
  pub nullity_add_rank : (S : V → Type 0) → IsSubmodule M S → (n k r : ℕ) → BasisOf M n S
      → BasisOf M k (Kernel M N f S) → BasisOf N r (Image M N f S) → k + r ≡ n
  nullity_add_rank S h n k r B P Q =
      let g = rank_nullity F M N m C f lf S h n B in
      let total = g.total in
      let e : k ≡ g.nullity = BasisOf-size F M k g.nullity (Kernel M N f S) P g.kernel in
      let d : r ≡ g.rank = BasisOf-size F N r g.rank (Image M N f S) Q g.image in
      omega arith
