-- Where all degrees are 0, the intersection is an algebra over the constants of the same dimension and with the
-- constants as its centre, so it is no division ring: some element of both orders is neither nilpotent nor a unit.
use Rattle.std.specs.Prelude.{◌≡◌, ℕ, ◌<◌, ◌≤◌, Bool, true, ℤ, pos, ◌+ℤ◌}
use Rattle.std.proofs.Common.{refl, sym, ◌∙◌, ap, ap₂, subst, arith, ⊎_elim}
use Rattle.std.proofs.Math.Bool.{Bool-set}
use Rattle.std.proofs.lemmas.Bool.{cases_eq}
use mathlib.Core.HLevel.{Σ_prop_path, Π_prop}
use Rattle.theory_rings.specs.Ring.{FieldOn}
use Rattle.theory_rings.specs.Enumerated.{Enumerated}
use Rattle.theory_rings.proofs.Rings.RingLaws.{mul-zero, zero-mul, neg_unique, add-neg}
use Rattle.theory_rings.proofs.Sums.Sums.{sum_eq_zero, sum_congr, map-sum}
use Rattle.theory_spaces.specs.Module.{ModuleOn, AlgebraOn, module_of}
use Rattle.theory_spaces.specs.Linear.{comb, InSpan, Independent}
use Rattle.theory_spaces.specs.Algebra.{Central}
use Rattle.theory_spaces.proofs.Linear.Families.{choose_each}
use Rattle.theory_spaces.proofs.Linear.Modules.{zero-scale, comb_congr, linear_ext, left_linear, right_linear}
use Rattle.theory_spaces.proofs.Linear.Decide.{pivot, NotAllZero}
use Rattle.theory_spaces.proofs.Linear.Spaces.{basis_of}
use Rattle.theory_division.proofs.Nonunits.{nonunit_exists}
use Rattle.theory_lattices.specs.Degree.{DegreeOn, DegreeBelow}
use Rattle.theory_lattices.specs.CommonBasis.{CommonBasis}
use Rattle.theory_lattices.specs.SelfDual.{SelfDualPair, Middle, DualVectors}
use Rattle.theory_lattices.proofs.Duals.DualCoordinates.{trace-zero, dual_one, dual_zero, dual_coord, dual_coord-zero}
use Rattle.theory_lattices.proofs.Duals.DualCoordinates.{dual_coord-add, dual_coord-scale, dual_coord-comb}
use Rattle.theory_lattices.proofs.Common.CommonBases.{in_both, both_in}

-- ι takes a field into another, and its values are those that pass the test
pub record ConstantsOf {k K : Type 0} (κ : FieldOn k) (F : FieldOn K) (ι : k → K) (const : K → Bool) : Type 0 where
  pub ι-zero : ι κ.zero ≡ F.zero
  pub ι-one : ι κ.one ≡ F.one
  pub ι-add : (s t : k) → ι (κ.◌⊕◌ s t) ≡ F.◌⊕◌ (ι s) (ι t)
  pub ι-mul : (s t : k) → ι (κ.◌⊗◌ s t) ≡ F.◌⊗◌ (ι s) (ι t)
  pub ι-injective : (s t : k) → ι s ≡ ι t → s ≡ t
  pub const_in : (c : K) → const c ≡ true → (s : k) × (c ≡ ι s)
  pub const_of : (s : k) → const (ι s) ≡ true

module _ {k K V : Type 0} (κ : FieldOn k) (F : FieldOn K) (ι : k → K) (const : K → Bool) (J : ConstantsOf κ F ι const)
    (A : AlgebraOn F.ring V)
    (n : ℕ) (cf : V → ℕ → K) (cf-zero : (i : ℕ) → cf A.zero i ≡ F.zero)
    (cf-add : (x y : V) (i : ℕ) → cf (A.◌⊕◌ x y) i ≡ F.◌⊕◌ (cf x i) (cf y i))
    (cf-scale : (c : K) (x : V) (i : ℕ) → cf (A.◌•◌ c x) i ≡ F.◌⊗◌ c (cf x i)) where
  abbrev pub InConst : V → Type 0
  InConst x = (i : ℕ) → i < n → const (cf x i) ≡ true

  InConst-prop : (x : V) → IsProp (InConst x)
  InConst-prop x = Π_prop (λ i. Π_prop (λ l. Bool-set (const (cf x i)) true))

  -- the elements with constant coordinates
  abbrev pub Const : Type 0
  Const = (x : V) × InConst x

  pub const_path : (x y : Const) → x.0 ≡ y.0 → x ≡ y
  const_path x y e = Σ_prop_path InConst-prop {u = x} {v = y} e

  as_const : (c : K) (s : k) → c ≡ ι s → const c ≡ true
  as_const c s e = ap const e ∙ J.const_of s

  pub in_zero : InConst A.zero
  in_zero i l = as_const (cf A.zero i) κ.zero (cf-zero i ∙ sym J.ι-zero)

  pub in_add : (x y : V) → InConst x → InConst y → InConst (A.◌⊕◌ x y)
  in_add x y h g i l =
      let s = J.const_in (cf x i) (h i l) in
      let t = J.const_in (cf y i) (g i l) in
      as_const (cf (A.◌⊕◌ x y) i) (κ.◌⊕◌ s.0 t.0) (cf-add x y i ∙ ap₂ F.◌⊕◌ s.1 t.1 ∙ sym (J.ι-add s.0 t.0))

  pub in_scale : (c : k) (x : V) → InConst x → InConst (A.◌•◌ (ι c) x)
  in_scale c x h i l =
      let s = J.const_in (cf x i) (h i l) in
      as_const (cf (A.◌•◌ (ι c) x) i) (κ.◌⊗◌ c s.0) (cf-scale (ι c) x i ∙ ap (F.◌⊗◌ (ι c)) s.1 ∙ sym (J.ι-mul c s.0))

  minus_one : (x : V) → A.neg x ≡ A.◌•◌ (ι (κ.neg κ.one)) x
  minus_one x = sym (neg_unique A.additive x (A.◌•◌ (ι (κ.neg κ.one)) x)
      (ap (λ t. A.◌⊕◌ t (A.◌•◌ (ι (κ.neg κ.one)) x)) (sym (A.one-scale x)) ∙ sym (A.add-scale F.one (ι (κ.neg κ.one)) x)
      ∙ ap (λ c. A.◌•◌ c x)
      (ap (λ t. F.◌⊕◌ t (ι (κ.neg κ.one))) (sym J.ι-one) ∙ sym (J.ι-add κ.one (κ.neg κ.one))
      ∙ ap ι (add-neg κ.additive κ.one) ∙ J.ι-zero) ∙ zero-scale (module_of A) x))

  pub in_neg : (x : V) → InConst x → InConst (A.neg x)
  in_neg x h = subst InConst (sym (minus_one x)) (in_scale (κ.neg κ.one) x h)

  module _ (in_one : InConst A.one) (in_mul : (x y : V) → InConst x → InConst y → InConst (A.◌⊗◌ x y)) where
    abbrev pub const_algebra : AlgebraOn κ.ring Const
    const_algebra =
        let plus : Const → Const → Const = λ x y. (A.◌⊕◌ x.0 y.0, in_add x.0 y.0 x.1 y.1) in
        let times : Const → Const → Const = λ x y. (A.◌⊗◌ x.0 y.0, in_mul x.0 y.0 x.1 y.1) in
        let minus : Const → Const = λ x. (A.neg x.0, in_neg x.0 x.1) in
        let scaled : k → Const → Const = λ c x. (A.◌•◌ (ι c) x.0, in_scale c x.0 x.1) in
        let z : Const = (A.zero, in_zero) in
        let u : Const = (A.one, in_one) in
        record {
          ring = record {
            additive = record {
              monoid = record {
                zero = z;
                ◌⊕◌ = plus;
                add_assoc = λ a b c. const_path (plus (plus a b) c) (plus a (plus b c)) (A.add_assoc a.0 b.0 c.0);
                add_comm = λ a b. const_path (plus a b) (plus b a) (A.add_comm a.0 b.0);
                zero-add = λ a. const_path (plus z a) a (A.zero-add a.0);
              };
              neg = minus;
              neg-add = λ a. const_path (plus (minus a) a) z (A.neg-add a.0);
            };
            one = u;
            ◌⊗◌ = times;
            mul_assoc = λ a b c. const_path (times (times a b) c) (times a (times b c)) (A.mul_assoc a.0 b.0 c.0);
            one-mul = λ a. const_path (times u a) a (A.one-mul a.0);
            mul-one = λ a. const_path (times a u) a (A.mul-one a.0);
            mul-add = λ a b c. const_path (times a (plus b c)) (plus (times a b) (times a c)) (A.mul-add a.0 b.0 c.0);
            add-mul = λ a b c. const_path (times (plus a b) c) (plus (times a c) (times b c)) (A.add-mul a.0 b.0 c.0);
          };
          scalars = record {
            ◌•◌ = scaled;
            scale-add = λ a x y. const_path (scaled a (plus x y)) (plus (scaled a x) (scaled a y))
                (A.scale-add (ι a) x.0 y.0);
            add-scale = λ a b x. const_path (scaled (κ.◌⊕◌ a b) x) (plus (scaled a x) (scaled b x))
                (ap (λ c. A.◌•◌ c x.0) (J.ι-add a b) ∙ A.add-scale (ι a) (ι b) x.0);
            mul-scale = λ a b x. const_path (scaled (κ.◌⊗◌ a b) x) (scaled a (scaled b x))
                (ap (λ c. A.◌•◌ c x.0) (J.ι-mul a b) ∙ A.mul-scale (ι a) (ι b) x.0);
            one-scale = λ x. const_path (scaled κ.one x) x (ap (λ c. A.◌•◌ c x.0) J.ι-one ∙ A.one-scale x.0);
          };
          scale-left = λ a x y. const_path (times (scaled a x) y) (scaled a (times x y)) (A.scale-left (ι a) x.0 y.0);
          scale-right = λ a x y. const_path (times x (scaled a y)) (scaled a (times x y)) (A.scale-right (ι a) x.0 y.0);
        }

module _ {k K V : Type 0} (κ : FieldOn k) (EK : Enumerated k) (F : FieldOn K) (W : DegreeOn F.ring) (ι : k → K)
    (const : K → Bool) (J : ConstantsOf κ F ι const) (A : AlgebraOn F.ring V)
    (P : K → Type 0) (n : ℕ) (poly_const : (c : K) → P c → DegreeBelow W (pos 1) c → (s : k) × (c ≡ ι s))
    (const_poly : (s : k) → P (ι s)) (const_below : (s : k) → DegreeBelow W (pos 1) (ι s))
    (finite infinite : V → Type 0) (tr : V → K) (S : SelfDualPair F W A P finite infinite tr)
    (finite_one : finite A.one) (infinite_one : infinite A.one)
    (b : ℕ → V) (a : ℕ → ℤ) (B : CommonBasis F W (module_of A) P n finite infinite b a)
    (b_spans : (x : V) → InSpan (module_of A) n b x)
    (dual : ℕ → V) (D : DualVectors F A tr n b dual) (central : Central A) (enough : 2 ≤ n) (bounded : n ≤ 36) where
  infixl 70 ◌⊗◌
  infixl 70 ◌•◌
  open A use {◌⊗◌, ◌•◌}

  abbrev M : ModuleOn F.ring V
  M = module_of A

  -- the coordinates
  abbrev cf : V → ℕ → K
  cf x i = dual_coord F W A P finite infinite tr S n b dual D x i

  abbrev cf-zero : (i : ℕ) → cf A.zero i ≡ F.zero
  cf-zero = dual_coord-zero F W A P finite infinite tr S n b dual D

  abbrev cf-add : (x y : V) (i : ℕ) → cf (A.◌⊕◌ x y) i ≡ F.◌⊕◌ (cf x i) (cf y i)
  cf-add = dual_coord-add F W A P finite infinite tr S n b dual D

  abbrev cf-scale : (c : K) (x : V) (i : ℕ) → cf (c • x) i ≡ F.◌⊗◌ c (cf x i)
  cf-scale = dual_coord-scale F W A P finite infinite tr S n b dual D

  abbrev cf_comb : (c : ℕ → K) (i : ℕ) → i < n → cf (comb M n c b) i ≡ c i
  cf_comb = dual_coord-comb F W A P finite infinite tr S n b dual D

  expand : (x : V) → x ≡ comb M n (cf x) b
  expand x =
      let s = b_spans x in
      s.combines ∙ comb_congr M n s.weights (cf x) b
      (λ i l. sym (cf_comb s.weights i l) ∙ ap (λ t. cf t i) (sym s.combines))

  abbrev In : V → Type 0
  In x = InConst κ F ι const J A n cf cf-zero cf-add cf-scale x

  module _ (flat : (i : ℕ) → i < n → a i ≡ pos 0) where
    to_in : (x : V) → finite x → infinite x → In x
    to_in x f g i l =
        let w = in_both F W M P n finite infinite b a B x f g in
        let p = w.passes i l in
        let Q : ℤ → Type 0 = λ m. DegreeBelow W (m +ℤ pos 1) (w.weights i) in
        let s = poly_const (w.weights i) p.0 (subst Q (flat i l) p.1) in
        ap const (ap (λ t. cf t i) w.combines ∙ cf_comb w.weights i l ∙ s.1) ∙ J.const_of s.0

    from_in : (x : V) → In x → finite x × infinite x
    from_in x h = both_in F W M P n finite infinite b a B x (record {
      weights = cf x;
      passes = λ i l.
          let s = J.const_in (cf x i) (h i l) in
          let Q : ℤ → Type 0 = λ m. DegreeBelow W (m +ℤ pos 1) (cf x i) in
          let U : K → Type 0 = λ c. DegreeBelow W (pos 1) c in
          (subst P (sym s.1) (const_poly s.0), subst Q (sym (flat i l)) (subst U (sym s.1) (const_below s.0)));
      combines = expand x;
    })

    in_one : In A.one
    in_one = to_in A.one finite_one infinite_one

    in_mul : (x y : V) → In x → In y → In (x ⊗ y)
    in_mul x y h g =
        let u = from_in x h in
        let w = from_in y g in
        to_in (x ⊗ y) (S.finite-mul x y u.0 w.0) (S.infinite-mul x y u.1 w.1)

    abbrev H : Type 0
    H = Const κ F ι const J A n cf cf-zero cf-add cf-scale

    abbrev HA : AlgebraOn κ.ring H
    HA = const_algebra κ F ι const J A n cf cf-zero cf-add cf-scale in_one in_mul

    h_path : (x y : H) → x.0 ≡ y.0 → x ≡ y
    h_path x y e = const_path κ F ι const J A n cf cf-zero cf-add cf-scale x y e

    cf_basis : (i : ℕ) → i < n → In (b i)
    cf_basis i l j g = ⊎_elim
        (λ (e : i ≡ j). ap const
        (ap (λ t. tr (b i ⊗ dual t)) (sym e) ∙ dual_one F W A P finite infinite tr S n b dual D i l ∙ sym J.ι-one)
        ∙ J.const_of κ.one)
        (λ (d : i ≡ j → ⊥). ap const (dual_zero F W A P finite infinite tr S n b dual D i j l g d ∙ sym J.ι-zero)
        ∙ J.const_of κ.zero)
        (cases_eq i j)

    basis : (s : ℕ → H) × ((i : ℕ) → i < n → (s i).0 ≡ b i)
    basis = choose_each n (λ i s. s.0 ≡ b i) HA.zero (λ i l. let x : H = (b i, cf_basis i l) in (x, refl))

    comb_first : (c : ℕ → k) → (comb (module_of HA) n c basis.0).0 ≡ comb M n (λ i. ι (c i)) b
    comb_first c =
        map-sum HA.monoid M.monoid (λ x. x.0) refl (λ x y. refl) n (λ i. HA.◌•◌ (c i) (basis.0 i))
        ∙ sum_congr M.monoid n (λ i. ι (c i) • (basis.0 i).0) (λ i. ι (c i) • b i)
        (λ i l. ap (λ t. ι (c i) • t) (basis.1 i l))

    h_free : Independent (module_of HA) n basis.0
    h_free = record {
      only_zero = λ c e i l.
          J.ι-injective (c i) κ.zero
          (B.free.only_zero (λ i. ι (c i)) (sym (comb_first c) ∙ ap (λ t. t.0) e) i l ∙ sym J.ι-zero);
    }

    weights_of : (x : H) → (s : ℕ → k) × ((i : ℕ) → i < n → cf x.0 i ≡ ι (s i))
    weights_of x = choose_each n (λ i s. cf x.0 i ≡ ι s) κ.zero (λ i l. J.const_in (cf x.0 i) (x.1 i l))

    h_spans : (x : H) → InSpan (module_of HA) n basis.0 x
    h_spans x =
        let s = weights_of x in
        record {
          weights = s.0;
          combines = h_path x (comb (module_of HA) n s.0 basis.0)
              (expand x.0 ∙ comb_congr M n (cf x.0) (λ i. ι (s.0 i)) b s.1 ∙ sym (comb_first s.0));
        }

    all_zero : (x : V) → ((j : ℕ) → j < n → cf x j ≡ F.zero) → x ≡ A.zero
    all_zero x h = expand x
        ∙ sum_eq_zero M.monoid n (λ i. cf x i • b i) (λ i l. ap (λ c. c • b i) (h i l) ∙ zero-scale M (b i))

    one-ne-zero : A.one ≡ A.zero → ⊥
    one-ne-zero e = W.one-ne-zero
        (sym (dual_one F W A P finite infinite tr S n b dual D 0 (omega arith))
        ∙ ap (λ t. tr (t ⊗ dual 0)) (sym (A.one-mul (b 0)) ∙ ap (λ t. t ⊗ b 0) e ∙ zero-mul A.ring (b 0)) ∙ cf-zero 0)

    -- what commutes with the basis commutes with all
    commutes_all : (x : V) → ((i : ℕ) → i < n → x ⊗ b i ≡ b i ⊗ x) → (y : V) → x ⊗ y ≡ y ⊗ x
    commutes_all x h y = linear_ext M M (λ y. x ⊗ y) (λ y. y ⊗ x) (left_linear A x) (right_linear A x) n b h y
        (b_spans y)

    h_multiple : (x : H) → ((y : H) → HA.◌⊗◌ x y ≡ HA.◌⊗◌ y x) → (c : k) × (x ≡ HA.◌•◌ c HA.one)
    h_multiple x h =
        let r = central.multiple x.0
        (commutes_all x.0 (λ i l. let y : H = (b i, cf_basis i l) in ap (λ t. t.0) (h y))) in
        let u = weights_of HA.one in
        let w = weights_of x in
        ⊎_elim
        (λ (p : NotAllZero κ n u.0).
        let i = p.place in
        let s = u.0 i in
        let si : F.◌⊗◌ (ι s) (ι (κ.inv s)) ≡ F.one = sym (J.ι-mul s (κ.inv s))
        ∙ ap ι (κ.mul_comm s (κ.inv s) ∙ κ.inv-mul s p.nonzero) ∙ J.ι-one in
        let t = κ.◌⊗◌ (w.0 i) (κ.inv s) in
        let e : F.◌⊗◌ r.0 (ι s) ≡ ι (w.0 i) = ap (F.◌⊗◌ r.0) (sym (u.1 i p.within)) ∙ sym (cf-scale r.0 A.one i)
        ∙ ap (λ z. cf z i) (sym r.1) ∙ w.1 i p.within in
        let q : r.0 ≡ ι t = sym (F.mul-one r.0) ∙ ap (F.◌⊗◌ r.0) (sym si) ∙ sym (F.mul_assoc r.0 (ι s) (ι (κ.inv s)))
        ∙ ap (λ z. F.◌⊗◌ z (ι (κ.inv s))) e ∙ sym (J.ι-mul (w.0 i) (κ.inv s)) in
        (t, h_path x (HA.◌•◌ t HA.one) (r.1 ∙ ap (λ c. c • A.one) q)))
        (λ (z : (i : ℕ) → i < n → u.0 i ≡ κ.zero). absurd
        (one-ne-zero (all_zero A.one (λ j l. u.1 j l ∙ ap ι (z j l) ∙ J.ι-zero))))
        (pivot κ n u.0)

    -- where all degrees are 0, some element of both orders is neither nilpotent nor a unit
    pub middle_flat : (w : V) × Middle F W A P finite infinite w
    middle_flat =
        let r = nonunit_exists κ EK HA n (basis_of (module_of HA) n basis.0 h_free h_spans)
        (record { multiple = h_multiple }) enough bounded in
        let w = r.0 in
        let N = r.1 in
        ⊎_elim
        (λ (p : NotAllZero F n (λ i. tr (w.0 ⊗ b i))).
        let i = p.place in
        let z = b i ⊗ w.0 in
        let bi : H = (b i, cf_basis i p.within) in
        let m = from_in z (in_mul (b i) w.0 (cf_basis i p.within) w.1) in (
          z,
          record {
            in_finite = m.0;
            in_infinite = m.1;
            not_nilpotent = λ q. p.nonzero (S.tr_comm w.0 (b i) ∙ S.tr_nilpotent z q);
            not_unit = λ y f g _ q.
                let y' : H = (y, to_in y f g) in
                N.no_inverse (HA.◌⊗◌ y' bi) (h_path (HA.◌⊗◌ (HA.◌⊗◌ y' bi) w) HA.one (A.mul_assoc y (b i) w.0 ∙ q));
          },
        ))
        (λ (h : (i : ℕ) → i < n → tr (w.0 ⊗ b i) ≡ F.zero). absurd
        (N.not_zero (h_path w HA.zero (all_zero w.0 (λ j l. no_trace w.0 h (dual j))))))
        (pivot F n (λ i. tr (w.0 ⊗ b i)))
      where
        no_trace : (x : V) → ((i : ℕ) → i < n → tr (x ⊗ b i) ≡ F.zero) → (y : V) → tr (x ⊗ y) ≡ F.zero
        no_trace x h y =
            ap (λ t. tr (x ⊗ t)) (expand y)
            ∙ map-sum M.monoid F.monoid (λ t. tr (x ⊗ t))
            (ap tr (mul-zero A.ring x) ∙ trace-zero F W A P finite infinite tr S)
            (λ s t. ap tr (A.mul-add x s t) ∙ S.tr-add (x ⊗ s) (x ⊗ t)) n (λ i. cf y i • b i)
            ∙ sum_eq_zero F.monoid n (λ i. tr (x ⊗ (cf y i • b i)))
            (λ i l. ap tr (A.scale-right (cf y i) x (b i)) ∙ S.tr-scale (cf y i) (x ⊗ b i)
            ∙ ap (F.◌⊗◌ (cf y i)) (h i l) ∙ mul-zero F.ring (cf y i))
