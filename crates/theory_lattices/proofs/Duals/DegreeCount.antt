-- The degree count: a member of the finite order of greatest degree, and one of its dual basis of the opposite degree,
-- have a product in both orders that is neither nilpotent nor a unit; or all degrees are 0.
use Rattle.std.specs.Prelude.{◌≡◌, cond, eqb, ℕ, zero, suc, ◌<◌, ◌≤◌, ℤ, pos, ◌+ℤ◌, ◌≤ℤ◌, ◌<ℤ◌, neg_ℤ, ◌⊎◌}
use Rattle.std.proofs.Common.{refl, sym, ◌∙◌, ap, subst, arith, ⊎_elim, inl, inr}
use Rattle.std.proofs.lemmas.Int.{ints}
use Rattle.std.proofs.lemmas.Bool.{cases_lt, cases_eq, eq-eqb, ne_eqb}
use Rattle.theory_rings.specs.Ring.{FieldOn}
use Rattle.theory_rings.proofs.Rings.RingLaws.{zero-mul}
use Rattle.theory_rings.proofs.Sums.Sums.{sum_eq_zero, sum_eq_single}
use Rattle.theory_spaces.specs.Module.{ModuleOn, AlgebraOn, module_of}
use Rattle.theory_spaces.specs.Linear.{comb}
use Rattle.theory_spaces.proofs.Linear.Modules.{comb-scale, zero-scale, comb_injective}
use Rattle.theory_lattices.specs.Degree.{DegreeOn, DegreeBelow}
use Rattle.theory_lattices.specs.CommonBasis.{CommonBasis}
use Rattle.theory_lattices.specs.SelfDual.{PowersOf, SelfDualPair, Middle, DualVectors}
use Rattle.theory_lattices.proofs.Duals.DualCoordinates.{trace-zero, dual_one, dual_coord-comb}
use Rattle.theory_lattices.proofs.Degree.Degrees.{below-mul, below_of_degree, cases_int}

-- a greatest number above 0, or none above 0
pub record Greatest (n : ℕ) (a : ℕ → ℤ) : Type 0 where
  pub place : ℕ
  pub within : place < n
  pub positive : pos 0 <ℤ a place
  pub most : (i : ℕ) → i < n → a i ≤ℤ a place

pub greatest : (n : ℕ) (a : ℕ → ℤ) → Greatest n a ⊎ ((i : ℕ) → i < n → a i ≤ℤ pos 0)
greatest zero a = inr (λ i l. absurd (omega arith))
greatest (suc n) a = ⊎_elim
    (λ (g : Greatest n a). ⊎_elim
    (λ (h : a g.place <ℤ a n).
    inl (top (let p = g.positive in omega (arith, ints)) (λ i l. let m = g.most i l in omega (arith, ints))))
    (λ (h : a n ≤ℤ a g.place). inl (record {
      place = g.place;
      within = (let l = g.within in omega arith);
      positive = g.positive;
      most = λ i l. ⊎_elim (λ (x : i < n). g.most i x)
          (λ (x : n ≤ i). let e : n ≡ i = omega arith in let P : ℕ → Type 0 = λ t. a t ≤ℤ a g.place in subst P e h)
          (cases_lt i n);
    }))
    (cases_int (a g.place) (a n)))
    (λ (g : (i : ℕ) → i < n → a i ≤ℤ pos 0). ⊎_elim
    (λ (h : pos 0 <ℤ a n). inl (top h (λ i l. let m = g i l in omega (arith, ints))))
    (λ (h : a n ≤ℤ pos 0).
    inr (λ i l. ⊎_elim (λ (x : i < n). g i x)
    (λ (x : n ≤ i). let e : n ≡ i = omega arith in let P : ℕ → Type 0 = λ t. a t ≤ℤ pos 0 in subst P e h)
    (cases_lt i n)))
    (cases_int (pos 0) (a n)))
    (greatest n a)
  where
    top : pos 0 <ℤ a n → ((i : ℕ) → i < n → a i ≤ℤ a n) → Greatest (suc n) a
    top h m = record {
      place = n;
      within = omega arith;
      positive = h;
      most = λ i l. ⊎_elim (λ (x : i < n). m i x)
          (λ (x : n ≤ i). let e : n ≡ i = omega arith in let P : ℕ
          → Type 0 = λ t. a t ≤ℤ a n in subst P e (omega (arith, ints))) (cases_lt i n);
    }

module _ {K V : Type 0} (F : FieldOn K) (W : DegreeOn F.ring) (A : AlgebraOn F.ring V) (P : K → Type 0) (n : ℕ) where
  infixl 70 ◌⊗◌
  infixl 70 ◌•◌
  open A use {◌⊗◌, ◌•◌}

  module _ (finite infinite : V → Type 0) (tr : V → K) (S : SelfDualPair F W A P finite infinite tr) (T : ℤ → K)
      (X : PowersOf F W T)
      (b : ℕ → V) (a : ℕ → ℤ) (B : CommonBasis F W (module_of A) P n finite infinite b a)
      (one_poly : P F.one) (zero_poly : P F.zero) (low_poly : (c : K) → P c → DegreeBelow W (pos 0) c → c ≡ F.zero)
      (dual : ℕ → V) (D : DualVectors F A tr n b dual) where
    -- what holds of an element of degree d
    pub record Reaches (d : ℤ) (x : V) : Type 0 where
      pub in_finite : finite x
      pub in_infinite : infinite (T d • x)

    pub reaches-mul : (d e : ℤ) (x y : V) → Reaches d x → Reaches e y → Reaches (d +ℤ e) (x ⊗ y)
    reaches-mul d e x y h g = record {
      in_finite = S.finite-mul x y h.in_finite g.in_finite;
      in_infinite =
          let q : (T d • x) ⊗ (T e • y) ≡ T (d +ℤ e) • (x ⊗ y) =
          A.scale-left (T d) x (T e • y) ∙ ap (λ z. T d • z) (A.scale-right (T e) x y)
          ∙ sym (A.mul-scale (T d) (T e) (x ⊗ y)) ∙ ap (λ c. c • (x ⊗ y)) (X.joined d e) in
          subst infinite q (S.infinite-mul (T d • x) (T e • y) h.in_infinite g.in_infinite);
    }

    abbrev M : ModuleOn F.ring V
    M = module_of A

    -- the power times the power of the opposite degree
    pub opposite : (e : ℤ) (c : K) → F.◌⊗◌ (T (neg_ℤ e)) (F.◌⊗◌ (T e) c) ≡ c
    opposite e c =
        let z : neg_ℤ e +ℤ e ≡ pos 0 = omega (arith, ints) in
        sym (F.mul_assoc (T (neg_ℤ e)) (T e) c) ∙ ap (λ t. F.◌⊗◌ t c) (X.joined (neg_ℤ e) e ∙ ap T z ∙ X.none)
        ∙ F.one-mul c

    pub shift_below : (m e s : ℤ) (c : K) → (e +ℤ m) ≤ℤ s → DegreeBelow W m c → DegreeBelow W s (F.◌⊗◌ (T e) c)
    shift_below m e s c l h =
        below-mul W (e +ℤ pos 1) m s (T e) c (omega (arith, ints))
        (below_of_degree W e (e +ℤ pos 1) (T e) (omega (arith, ints)) (X.degree e)) h

    -- past the greatest degree there is nothing
    pub vanishes : (e : ℤ) (x : V) → ((i : ℕ) → i < n → a i <ℤ e) → Reaches e x → x ≡ A.zero
    vanishes e x h r =
        let f = B.finite_in x r.in_finite in
        let g = B.infinite_in (T e • x) r.in_infinite in
        let same = comb_injective M n b B.free g.weights (λ i. F.◌⊗◌ (T e) (f.weights i))
        (sym g.combines ∙ ap (λ z. T e • z) f.combines ∙ sym (comb-scale M n (T e) f.weights b)) in
        f.combines ∙ sum_eq_zero M.monoid n (λ i. f.weights i • b i) (λ i l.
        let Q : K → Type 0 = λ c. DegreeBelow W (a i +ℤ pos 1) c in
        let low : (a i <ℤ e) = h i l in
        let u : DegreeBelow W (pos 0) (F.◌⊗◌ (T (neg_ℤ e)) (F.◌⊗◌ (T e) (f.weights i))) =
        shift_below (a i +ℤ pos 1) (neg_ℤ e) (pos 0) (F.◌⊗◌ (T e) (f.weights i)) (omega (arith, ints))
        (subst Q (same i l) (g.passes i l)) in
        let Q0 : K → Type 0 = λ c. DegreeBelow W (pos 0) c in
        ap (λ c. c • b i) (low_poly (f.weights i) (f.passes i l) (subst Q0 (opposite e (f.weights i)) u))
        ∙ zero-scale M (b i))

    -- c at i and 0 elsewhere
    abbrev one_at : ℕ → K → ℕ → K
    one_at i c j = cond (eqb j i) c F.zero

    one_at-here : (i : ℕ) (c : K) → one_at i c i ≡ c
    one_at-here i c = ap (λ t. cond t c F.zero) (eq-eqb i i refl)

    one_at-else : (i j : ℕ) (c : K) → (j ≡ i → ⊥) → one_at i c j ≡ F.zero
    one_at-else i j c d = ap (λ t. cond t c F.zero) (ne_eqb j i d)

    single : (i : ℕ) (c : K) → i < n → c • b i ≡ comb M n (one_at i c) b
    single i c l = sym (sum_eq_single M.monoid n i (λ j. one_at i c j • b j) l
        (λ j g d. ap (λ t. t • b j) (one_at-else i j c d) ∙ zero-scale M (b j))
        ∙ ap (λ t. t • b i) (one_at-here i c))

    one_at-passes : (Q : ℕ → K → Type 0) (i : ℕ) (c : K) → Q i c → ((j : ℕ) → Q j F.zero) → (j : ℕ) → j < n
        → Q j (one_at i c j)
    one_at-passes Q i c h z j l = ⊎_elim
        (λ (e : j ≡ i). let R : ℕ → Type 0 = λ t. Q t (one_at i c t) in let S : K
        → Type 0 = λ x. Q i x in subst R (sym e) (subst S (sym (one_at-here i c)) h))
        (λ (d : j ≡ i → ⊥). let S : K → Type 0 = λ x. Q j x in subst S (sym (one_at-else i j c d)) (z j))
        (cases_eq j i)

    pub basis_reaches : (i : ℕ) → i < n → Reaches (a i) (b i)
    basis_reaches i l = record {
      in_finite = B.finite_back (b i)
          (record {
            weights = one_at i F.one;
            passes =
                one_at-passes (λ j c. P c) i F.one one_poly (λ j. zero_poly);
            combines = sym (A.one-scale (b i))
                ∙ single i F.one l;
          });
      in_infinite = B.infinite_back (T (a i) • b i) (record {
        weights = one_at i (T (a i));
        passes = one_at-passes (λ j c. DegreeBelow W (a j +ℤ pos 1) c) i (T (a i))
            (below_of_degree W (a i) (a i +ℤ pos 1) (T (a i)) (omega (arith, ints)) (X.degree (a i))) (λ j. inl refl);
        combines = single i (T (a i)) l;
      });
    }

    pub dual_reaches : (i : ℕ) → i < n → Reaches (neg_ℤ (a i)) (dual i)
    dual_reaches i l = record {
      in_finite = S.finite_dual (dual i) (λ y h.
          let f = B.finite_in y h in
          subst P (sym (ap (λ t. tr (t ⊗ dual i)) f.combines
          ∙ dual_coord-comb F W A P finite infinite tr S n b dual D f.weights i l)) (f.passes i l));
      in_infinite = S.infinite_dual (T (neg_ℤ (a i)) • dual i) (λ y h.
          let f = B.infinite_in y h in
          let e : tr (y ⊗ (T (neg_ℤ (a i)) • dual i)) ≡ F.◌⊗◌ (T (neg_ℤ (a i))) (f.weights i) =
          ap tr (A.scale-right (T (neg_ℤ (a i))) y (dual i)) ∙ S.tr-scale (T (neg_ℤ (a i))) (y ⊗ dual i)
          ∙ ap (F.◌⊗◌ (T (neg_ℤ (a i))))
          (ap (λ t. tr (t ⊗ dual i)) f.combines
          ∙ dual_coord-comb F W A P finite infinite tr S n b dual D f.weights i l) in
          let Q : K → Type 0 = λ c. DegreeBelow W (pos 1) c in
          subst Q (sym e) (shift_below (a i +ℤ pos 1) (neg_ℤ (a i)) (pos 1) (f.weights i) (omega (arith, ints))
          (f.passes i l)));
    }

    -- u·v, of trace 1, is no unit where u·u is of too great a degree
    pub no_right_inverse : (d : ℤ) (u v : V) → ((i : ℕ) → i < n → a i <ℤ (d +ℤ d)) → Reaches d u → tr (u ⊗ v) ≡ F.one
        → (y : V) → (u ⊗ v) ⊗ y ≡ A.one → ⊥
    no_right_inverse d u v most ru e y q =
        let uu : u ⊗ u ≡ A.zero = vanishes (d +ℤ d) (u ⊗ u) most (reaches-mul d d u u ru ru) in
        let gone : u ≡ A.zero =
        sym (A.mul-one u) ∙ ap (λ t. u ⊗ t) (sym q) ∙ sym (A.mul_assoc u (u ⊗ v) y)
        ∙ ap (λ t. t ⊗ y) (sym (A.mul_assoc u u v) ∙ ap (λ t. t ⊗ v) uu ∙ zero-mul A.ring v) ∙ zero-mul A.ring y in
        W.one-ne-zero (sym e ∙ ap tr (ap (λ t. t ⊗ v) gone ∙ zero-mul A.ring v)
        ∙ trace-zero F W A P finite infinite tr S)

    -- u of degree d > 0 and v of degree -d with tr (u v) = 1
    pub middle : (d : ℤ) (u v : V) → pos 0 <ℤ d → ((i : ℕ) → i < n → a i <ℤ (d +ℤ d))
        → Reaches d u → Reaches (neg_ℤ d) v → tr (u ⊗ v) ≡ F.one → Middle F W A P finite infinite (u ⊗ v)
    middle d u v p most ru rv e =
        let r = reaches-mul d (neg_ℤ d) u v ru rv in
        let z : d +ℤ neg_ℤ d ≡ pos 0 = omega (arith, ints) in
        record {
          in_finite = r.in_finite;
          in_infinite = subst infinite
              (ap (λ m. T m • (u ⊗ v)) z ∙ ap (λ c. c • (u ⊗ v)) X.none ∙ A.one-scale (u ⊗ v)) r.in_infinite;
          not_nilpotent = λ q. W.one-ne-zero (sym e ∙ S.tr_nilpotent (u ⊗ v) q);
          not_unit = λ y _ _ q _. no_right_inverse d u v most ru e y q;
        }

    -- some element of both orders is neither nilpotent nor a unit, or all degrees are 0
    pub degree_count : ((w : V) × Middle F W A P finite infinite w) ⊎ ((i : ℕ) → i < n → a i ≡ pos 0)
    degree_count = ⊎_elim
        (λ (g : Greatest n a). inl (
          b g.place ⊗ dual g.place,
          middle (a g.place) (b g.place) (dual g.place) g.positive
              (λ i l. let m = g.most i l in let p = g.positive in omega (arith, ints))
              (basis_reaches g.place g.within) (dual_reaches g.place g.within)
              (dual_one F W A P finite infinite tr S n b dual D g.place g.within),
        ))
        (λ (h : (i : ℕ) → i < n → a i ≤ℤ pos 0). ⊎_elim
        (λ (g : Greatest n (λ i. neg_ℤ (a i))). inl (
          dual g.place ⊗ b g.place,
          middle (neg_ℤ (a g.place)) (dual g.place) (b g.place) g.positive
              (λ i l. let m = h i l in let p = g.positive in omega (arith, ints))
              (dual_reaches g.place g.within)
              (let e : a g.place ≡ neg_ℤ (neg_ℤ (a g.place)) = omega (arith, ints) in let Q : ℤ
              → Type 0 = λ d. Reaches d (b g.place) in subst Q e (basis_reaches g.place g.within))
              (S.tr_comm (dual g.place) (b g.place)
              ∙ dual_one F W A P finite infinite tr S n b dual D g.place g.within),
        ))
        (λ (g : (i : ℕ) → i < n → neg_ℤ (a i) ≤ℤ pos 0). inr
        (λ i l. let x = h i l in let y = g i l in omega (arith, ints)))
        (greatest n (λ i. neg_ℤ (a i))))
        (greatest n a)
