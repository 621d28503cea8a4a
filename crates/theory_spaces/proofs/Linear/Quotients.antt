-- A class is 0 for the members of the subgroup alone, and the dimension of a quotient.
use Rattle.std.specs.Prelude.{◌≡◌, ℕ, ◌+◌, ◌-◌, ◌<◌, ◌≤◌, Bool, true, false, IsTrue}
use Rattle.std.proofs.Common.{refl, sym, ◌∙◌, ap, ap₂, subst, arith, ⊎_elim}
use Rattle.std.proofs.lemmas.Bool.{cases_lt}
use Rattle.std.proofs.Math.Bool.{Bool-set}
use mathlib.Core.HLevel.{Π_prop}
use mathlib.Core.Quot.{ind, lift}
use Rattle.theory_rings.specs.Ring.{AddCommGroupOn, RingOn, FieldOn}
use Rattle.theory_rings.proofs.Rings.RingLaws.{add-zero, add-neg, neg_neg, neg_add, neg_zero, neg-mul, mul-zero}
use Rattle.theory_rings.proofs.Sums.Sums.{sum-split}
use Rattle.theory_rings.proofs.Rings.ZeroTests.{eq_of_sub_eq_zero, group_set}
use Rattle.theory_spaces.specs.Module.{ModuleOn}
use Rattle.theory_spaces.specs.Linear.{comb, Independent, Basis, BasisOf, Extension, IsLinear}
use Rattle.theory_spaces.specs.Quotient.{SubgroupOn, SubmoduleOn, Near, Classes, cls, to_test, near-cls, subgroup_of}
use Rattle.theory_spaces.specs.Quotient.{classes_set, ModuleClasses, module_cls, quotient_module}
use Rattle.theory_spaces.specs.Subspaces.{QuotientBasis}
use Rattle.theory_spaces.proofs.Linear.Families.{push, push-below, push-above, join, join-below, join-above}
use Rattle.theory_spaces.proofs.Linear.Modules.{neg_one-scale, comb_congr, comb_congr_right, comb_zero, comb-push_zero}
use Rattle.theory_spaces.proofs.Linear.Modules.{comb_in, map-comb}
use Rattle.theory_spaces.proofs.Linear.Dimension.{exchange}
use Rattle.theory_spaces.proofs.Linear.Spaces.{Basis-coord, extend_basis}

bool_iff : (b c : Bool) → (IsTrue b → IsTrue c) → (IsTrue c → IsTrue b) → b ≡ c
bool_iff true c f g = sym (f refl)
bool_iff false true f g = g refl
bool_iff false false f g = refl

module _ {V : Type 0} (G : AddCommGroupOn V) (S : SubgroupOn G) where
  infixl 65 ◌⊕◌
  open G use {◌⊕◌, neg}

  near_back : (b c : V) → b ⊕ neg (b ⊕ neg c) ≡ c
  near_back b c = ap (λ x. b ⊕ x) (neg_add G b (neg c)) ∙ sym (G.add_assoc b (neg b) (neg (neg c)))
      ∙ ap (λ x. x ⊕ neg (neg c)) (add-neg G b) ∙ G.zero-add (neg (neg c)) ∙ neg_neg G c

  test_near : (b c : V) → Near G S b c → S.test b ≡ S.test c
  test_near b c h = bool_iff (S.test b) (S.test c)
      (λ t. to_test G S (b ⊕ neg (b ⊕ neg c)) c (near_back b c)
      (S.test-add b (neg (b ⊕ neg c)) t (S.test-neg (b ⊕ neg c) h)))
      (λ t. to_test G S ((b ⊕ neg c) ⊕ c) b
      (G.add_assoc b (neg c) c ∙ ap (λ x. b ⊕ x) (G.neg-add c) ∙ add-zero G.monoid b)
      (S.test-add (b ⊕ neg c) c h t))

  pub cls_zero : (a : V) → cls G S a ≡ cls G S G.zero → IsTrue (S.test a)
  cls_zero a e = let member : Classes G S → Bool = lift Bool-set S.test test_near in ap member e ∙ S.test-zero

  pub zero_cls : (a : V) → IsTrue (S.test a) → cls G S a ≡ cls G S G.zero
  zero_cls a h = near-cls G S a G.zero
      (to_test G S a (a ⊕ neg G.zero) (sym (ap (λ x. a ⊕ x) (neg_zero G) ∙ add-zero G.monoid a)) h)

-- to take the class is linear
pub cls_linear : {K V : Type 0} {R : RingOn K} (M : ModuleOn R V) (S : SubmoduleOn M)
    → IsLinear M (quotient_module M S) (module_cls M S)
cls_linear M S = record { map-add = λ x y. refl; map-scale = λ a x. refl }

-- a basis of the space that begins with one of the submodule: the classes of the others are a basis of the quotient
module _ {K V : Type 0} (F : FieldOn K) (M : ModuleOn F.ring V) (S : SubmoduleOn M) (k r : ℕ)
    (B : BasisOf M k (λ x. IsTrue (S.test x)))
    (D : Basis M (k + r)) (starts : (i : ℕ) → i < k → D.vec i ≡ B.vec i) where
  infixl 65 ◌⊕◌
  open M use {◌⊕◌, neg}

  abbrev Q : ModuleOn F.ring (ModuleClasses M S)
  Q = quotient_module M S

  abbrev Member : V → Type 0
  Member x = IsTrue (S.test x)

  abbrev rest : ℕ → V
  rest j = D.vec (k + j)

  K_set : IsSet K
  K_set = group_set F.additive F.zero_test

  -- the weights at the others
  abbrev late : V → ℕ → K
  late x = push r F.zero (λ j. D.coord x (k + j))

  late-at : (x : V) (j : ℕ) → j < r → late x j ≡ D.coord x (k + j)
  late-at x j l = push-below r F.zero (λ j. D.coord x (k + j)) j l

  late-past : (x : V) (j : ℕ) → r ≤ j → late x j ≡ F.zero
  late-past x j l = push-above r F.zero (λ j. D.coord x (k + j)) j l

  coord-member : (x : V) → Member x → (j : ℕ) → j < r → D.coord x (k + j) ≡ F.zero
  coord-member x h j l =
      let s = B.spans x h in
      let e : x ≡ comb M (k + r) (push k F.zero s.weights) D.vec =
      s.combines ∙ comb_congr_right M k s.weights B.vec D.vec (λ i g. sym (starts i g))
      ∙ sym (comb-push_zero M k (k + r) s.weights D.vec (omega arith)) in
      ap (λ y. D.coord y (k + j)) e ∙ Basis-coord M (k + r) D (push k F.zero s.weights) (k + j) (omega arith)
      ∙ push-above k F.zero s.weights (k + j) (omega arith)

  coord-neg : (x : V) (i : ℕ) → D.coord (neg x) i ≡ F.neg (D.coord x i)
  coord-neg x i = ap (λ y. D.coord y i) (sym (neg_one-scale M x)) ∙ D.coord-scale (F.neg F.one) x i
      ∙ neg-mul F.ring F.one (D.coord x i) ∙ ap F.neg (F.one-mul (D.coord x i))

  -- vectors of one class have the same weights at the others
  late-near : (b c : V) → Near M.additive (subgroup_of M S) b c → (j : ℕ) → late b j ≡ late c j
  late-near b c h j = ⊎_elim
      (λ (l : j < r). late-at b j l
      ∙ eq_of_sub_eq_zero F.additive (D.coord b (k + j)) (D.coord c (k + j))
      (ap (F.◌⊕◌ (D.coord b (k + j))) (sym (coord-neg c (k + j))) ∙ sym (D.coord-add b (neg c) (k + j))
      ∙ coord-member (b ⊕ neg c) h j l)
      ∙ sym (late-at c j l))
      (λ (l : r ≤ j). late-past b j l ∙ sym (late-past c j l)) (cases_lt j r)

  late_class : ModuleClasses M S → ℕ → K
  late_class q j = lift K_set (λ x. late x j) (λ b c h. late-near b c h j) q

  late-add : (x y : V) (j : ℕ) → late (x ⊕ y) j ≡ F.◌⊕◌ (late x j) (late y j)
  late-add x y j = ⊎_elim
      (λ (l : j < r). late-at (x ⊕ y) j l ∙ D.coord-add x y (k + j) ∙ sym (ap₂ F.◌⊕◌ (late-at x j l) (late-at y j l)))
      (λ (l : r ≤ j). late-past (x ⊕ y) j l ∙ sym (ap₂ F.◌⊕◌ (late-past x j l) (late-past y j l) ∙ F.zero-add F.zero))
      (cases_lt j r)

  late-scale : (a : K) (x : V) (j : ℕ) → late (M.◌•◌ a x) j ≡ F.◌⊗◌ a (late x j)
  late-scale a x j = ⊎_elim
      (λ (l : j < r). late-at (M.◌•◌ a x) j l ∙ D.coord-scale a x (k + j) ∙ sym (ap (F.◌⊗◌ a) (late-at x j l)))
      (λ (l : r ≤ j). late-past (M.◌•◌ a x) j l ∙ sym (ap (F.◌⊗◌ a) (late-past x j l) ∙ mul-zero F.ring a))
      (cases_lt j r)

  late-zero : (j : ℕ) → late M.zero j ≡ F.zero
  late-zero j = ⊎_elim (λ (l : j < r). late-at M.zero j l ∙ D.coord-zero (k + j))
      (λ (l : r ≤ j). late-past M.zero j l) (cases_lt j r)

  -- the combinations of the others in the quotient
  comb_classes : (c : ℕ → K) → module_cls M S (comb M r c rest) ≡ comb Q r c (λ j. module_cls M S (rest j))
  comb_classes c = map-comb M Q (module_cls M S) (cls_linear M S) r c rest

  -- a class is the combination of the classes of the others
  class_expand : (x : V) → module_cls M S x ≡ comb Q r (late x) (λ j. module_cls M S (rest j))
  class_expand x =
      let first = comb M k (D.coord x) D.vec in
      let member : Member first =
      comb_in M Member S.closed k (D.coord x) D.vec (λ i l. subst Member (sym (starts i l)) (B.inside i l)) in
      ap (module_cls M S) (D.expand x ∙ sum-split M.monoid k r (λ i. M.◌•◌ (D.coord x i) (D.vec i)))
      ∙ ap₂ Q.◌⊕◌ (zero_cls M.additive (subgroup_of M S) first member) (comb_classes (λ j. D.coord x (k + j)))
      ∙ Q.zero-add (comb Q r (λ j. D.coord x (k + j)) (λ j. module_cls M S (rest j)))
      ∙ sym (comb_congr Q r (late x) (λ j. D.coord x (k + j)) (λ j. module_cls M S (rest j)) (late-at x))

  classes_independent : Independent Q r (λ j. module_cls M S (rest j))
  classes_independent = record {
    only_zero = λ c e j l.
        let member : Member (comb M r c rest) =
        cls_zero M.additive (subgroup_of M S) (comb M r c rest) (comb_classes c ∙ e) in
        let w = join k (λ _. F.zero) c in
        let same : comb M (k + r) w D.vec ≡ comb M r c rest =
        sum-split M.monoid k r (λ i. M.◌•◌ (w i) (D.vec i))
        ∙ ap₂ (λ x y. x ⊕ y) (comb_zero M k w D.vec (join-below k (λ _. F.zero) c))
        (comb_congr M r (λ j. w (k + j)) c rest (λ j _. join-above k (λ _. F.zero) c j))
        ∙ M.zero-add (comb M r c rest) in
        sym (ap (λ y. D.coord y (k + j)) (sym same) ∙ Basis-coord M (k + r) D w (k + j) (omega arith)
        ∙ join-above k (λ _. F.zero) c j)
        ∙ coord-member (comb M r c rest) member j l;
  }

  classes_basis : Basis Q r
  unfolding late_class
  classes_basis = record {
    vec = λ j. module_cls M S (rest j);
    independent = classes_independent;
    coord = late_class;
    coord-zero = late-zero;
    coord-add = ind (λ p. Π_prop (λ q. Π_prop (λ j. K_set _ _)))
        (λ x. ind (λ q. Π_prop (λ j. K_set _ _)) (λ y j. late-add x y j));
    coord-scale = λ a. ind (λ q. Π_prop (λ j. K_set _ _)) (λ x j. late-scale a x j);
    expand = ind (λ q. classes_set M.additive (subgroup_of M S) _ _) class_expand;
  }

-- the quotient of a space of dimension n by a tested submodule of dimension k has the dimension that is left
pub quotient_basis : {K V : Type 0} (F : FieldOn K) (M : ModuleOn F.ring V) (S : SubmoduleOn M) (k n : ℕ)
    → BasisOf M k (λ x. IsTrue (S.test x)) → Basis M n
    → QuotientBasis M S k n
quotient_basis F M S k n B A =
    let small : k ≤ n = exchange F M k n B.vec A.vec B.independent
    (λ i l. record { weights = A.coord (B.vec i); combines = A.expand (B.vec i) }) in
    let total : k + (n - k) ≡ n = omega arith in
    let E = subst (Extension M k B.vec) (sym total) (extend_basis F M n A k B.vec B.independent) in
    record {
      size = n - k;
      total = total;
      basis = classes_basis F M S k (n - k) B E.basis E.starts;
    }
