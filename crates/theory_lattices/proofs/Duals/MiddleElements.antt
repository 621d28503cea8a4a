-- A pair of self-dual orders in an algebra whose centre is the field, of dimension 2 to 36, holds an element that is
-- neither nilpotent nor a unit, where the finite order's ring is the polynomials over a finite field.
use Rattle.std.specs.Prelude.{◌≡◌, ℕ, ◌≤◌, Bool, true, false, ◌<◌, ℤ, pos, ◌⊎◌}
use Rattle.std.proofs.Common.{refl, sym, ◌∙◌, ap, subst, arith, ⊎_elim, inl, inr}
use Rattle.std.proofs.lemmas.Int.{ints}
use Rattle.theory_rings.specs.Ring.{FieldOn}
use Rattle.theory_rings.specs.Homomorphism.{IsRingHom}
use Rattle.theory_rings.specs.Enumerated.{Enumerated}
use Rattle.theory_rings.proofs.Rings.RingLaws.{add-neg, additive-neg}
use Rattle.theory_rings.proofs.Rings.ZeroTests.{eq_zero_or, eq_of_sub_eq_zero, sub_eq_zero_of_eq}
use Rattle.theory_spaces.specs.Module.{AlgebraOn, module_of}
use Rattle.theory_spaces.specs.Linear.{InSpan}
use Rattle.theory_spaces.specs.Algebra.{Central}
use Rattle.theory_division.proofs.Counts.{search_all}
use Rattle.theory_lattices.specs.Degree.{DegreeOn, DegreeBelow, HasDegree}
use Rattle.theory_lattices.specs.CommonBasis.{CommonBasis}
use Rattle.theory_lattices.specs.Members.{PolynomialsOf}
use Rattle.theory_lattices.specs.SelfDual.{SelfDualPair, Middle, DualVectors}
use Rattle.theory_lattices.proofs.Degree.Degrees.{below_of_degree}
use Rattle.theory_lattices.proofs.Degree.PowersOfDegreeOne.{powers, at}
use Rattle.theory_lattices.proofs.Duals.DegreeCount.{degree_count}
use Rattle.theory_lattices.proofs.Degree.Constants.{ConstantsOf, middle_flat}

module _ {k K : Type 0} (κ : FieldOn k) (F : FieldOn K) (W : DegreeOn F.ring) (P : K → Type 0) (ι : k → K)
    (hom : IsRingHom κ.ring F.ring ι)
    (T : ℕ → K) (X : PolynomialsOf F W P κ.ring ι T) (T-zero : T 0 ≡ F.one) where
  pub low_poly : (c : K) → P c → DegreeBelow W (pos 0) c → c ≡ F.zero
  low_poly c h u = (X.expand c h 0 u).1

  constant_sum : (s : ℕ → k) → F.◌⊕◌ F.zero (F.◌⊗◌ (ι (s 0)) (T 0)) ≡ ι (s 0)
  constant_sum s = F.zero-add (F.◌⊗◌ (ι (s 0)) (T 0)) ∙ ap (F.◌⊗◌ (ι (s 0))) T-zero ∙ F.mul-one (ι (s 0))

  poly_const : (c : K) → P c → DegreeBelow W (pos 1) c → (s : k) × (c ≡ ι s)
  poly_const c h u = let r = X.expand c h 1 u in (r.0 0, r.1 ∙ constant_sum r.0)

  pub const_poly : (s : k) → P (ι s)
  const_poly s = subst P (constant_sum (λ _. s)) (X.back 1 (λ _. s))

  const_below : (s : k) → DegreeBelow W (pos 1) (ι s)
  const_below s = ⊎_elim (λ (e : ι s ≡ F.zero). inl e)
      (λ (h : HasDegree W (pos 0) (ι s)). below_of_degree W (pos 0) (pos 1) (ι s) (omega (arith, ints)) h)
      (X.ι-degree s)

  module _ {V : Type 0} (A : AlgebraOn F.ring V) (n : ℕ) (finite infinite : V → Type 0) (tr : V → K)
      (S : SelfDualPair F W A P finite infinite tr)
      (b : ℕ → V) (a : ℕ → ℤ) (B : CommonBasis F W (module_of A) P n finite infinite b a) (dual : ℕ → V)
      (D : DualVectors F A tr n b dual) where
    -- an element of the kind, or all degrees are 0
    pub middle_or_flat : ((w : V) × Middle F W A P finite infinite w) ⊎ ((i : ℕ) → i < n → a i ≡ pos 0)
    middle_or_flat = degree_count F W A P n finite infinite tr S (at F W (T 1) (X.T-degree 1))
        (powers F W (T 1) (X.T-degree 1)) b a B
        (subst P hom.map-one (const_poly κ.one)) (subst P X.ι-zero (const_poly κ.zero)) low_poly dual D

-- the test of a search that ended
module _ {X Y : Type 0} (Q : X → Y → Type 0) where
  found : (x : X) → ((y : Y) × Q x y) ⊎ ((y : Y) → Q x y → ⊥) → Bool
  found x (inl s) = true
  found x (inr n) = false

  found-sound : (x : X) (s : ((y : Y) × Q x y) ⊎ ((y : Y) → Q x y → ⊥)) → found x s ≡ true → (y : Y) × Q x y
  unfolding found
  found-sound x (inl s) e = s
  found-sound x (inr n) e = cc

  found-complete : (x : X) (s : ((y : Y) × Q x y) ⊎ ((y : Y) → Q x y → ⊥)) (y : Y) → Q x y → found x s ≡ true
  unfolding found
  found-complete x (inl s) c e = refl
  found-complete x (inr n) c e = absurd (n c e)

module _ {k K : Type 0} (κ : FieldOn k) (E : Enumerated k) (F : FieldOn K) (W : DegreeOn F.ring) (P : K → Type 0)
    (ι : k → K) (hom : IsRingHom κ.ring F.ring ι)
    (T : ℕ → K) (X : PolynomialsOf F W P κ.ring ι T) (T-zero : T 0 ≡ F.one) where
  same_or_not : (x y : K) → (x ≡ y) ⊎ (x ≡ y → ⊥)
  same_or_not x y = ⊎_elim
      (λ (e : F.◌⊕◌ x (F.neg y) ≡ F.zero). inl (eq_of_sub_eq_zero F.additive x y e))
      (λ (n : F.◌⊕◌ x (F.neg y) ≡ F.zero → ⊥). inr (λ q. n (sub_eq_zero_of_eq F.additive x y q)))
      (eq_zero_or F.zero_test (F.◌⊕◌ x (F.neg y)))

  search : (c : K) → ((s : k) × (c ≡ ι s)) ⊎ ((s : k) → c ≡ ι s → ⊥)
  search c = search_all E (λ s. c ≡ ι s) (λ s. same_or_not c (ι s))

  is_constant : K → Bool
  is_constant c = found (λ c s. c ≡ ι s) c (search c)

  constants : ConstantsOf κ F ι is_constant
  unfolding is_constant
  constants = record {
    ι-zero = X.ι-zero;
    ι-one = hom.map-one;
    ι-add = hom.map-add;
    ι-mul = hom.map-mul;
    ι-injective = λ s t e. eq_of_sub_eq_zero κ.additive s t (X.ι-injective (κ.◌⊕◌ s (κ.neg t))
        (hom.map-add s (κ.neg t)
        ∙ ap (F.◌⊕◌ (ι s)) (additive-neg κ.additive F.additive ι hom.map-add t ∙ ap F.neg (sym e))
        ∙ add-neg F.additive (ι s)));
    const_in = λ c e. found-sound (λ c s. c ≡ ι s) c (search c) e;
    const_of = λ s. found-complete (λ c s. c ≡ ι s) (ι s) (search (ι s)) s refl;
  }

  module _ {V : Type 0} (A : AlgebraOn F.ring V) (n : ℕ) (finite infinite : V → Type 0) (tr : V → K)
      (S : SelfDualPair F W A P finite infinite tr)
      (b : ℕ → V) (a : ℕ → ℤ) (B : CommonBasis F W (module_of A) P n finite infinite b a) (dual : ℕ → V)
      (D : DualVectors F A tr n b dual) where
    pub middle_exists : finite A.one → infinite A.one → ((x : V) → InSpan (module_of A) n b x) → Central A → 2 ≤ n
        → n ≤ 36
        → (w : V) × Middle F W A P finite infinite w
    middle_exists f1 i1 spans central enough bounded = ⊎_elim
        (λ (m : (w : V) × Middle F W A P finite infinite w). m)
        (λ (flat : (i : ℕ) → i < n → a i ≡ pos 0).
        middle_flat κ E F W ι is_constant constants A P n (poly_const κ F W P ι hom T X T-zero)
        (const_poly κ F W P ι hom T X T-zero)
        (const_below κ F W P ι hom T X T-zero) finite infinite tr S f1 i1 b a B spans dual D central enough bounded
        flat)
        (middle_or_flat κ F W P ι hom T X T-zero A n finite infinite tr S b a B dual D)
