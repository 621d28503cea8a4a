-- A finite and an infinite lattice of one space have a common basis, over the fractions of a ring with a Euclidean
-- degree: the coordinates of the finite basis by the infinite one are brought to one denominator, and their numerators
-- reduced.
use Rattle.std.specs.Prelude.{◌≡◌, ℕ, zero, suc, ◌<◌, ◌≤◌, ℤ, pos, neg_ℤ}
use Rattle.std.proofs.Common.{sym, ◌∙◌, ap, subst, arith, ⊎_elim}
use Rattle.std.proofs.lemmas.Int.{ints}
use Rattle.std.proofs.lemmas.Bool.{cases_lt}
use Rattle.theory_rings.specs.Ring.{RingOn, FieldOn}
use Rattle.theory_rings.specs.Sum.{sum}
use Rattle.theory_rings.specs.Homomorphism.{IsRingHom}
use Rattle.theory_rings.proofs.Rings.RingLaws.{zero-mul}
use Rattle.theory_rings.proofs.Rings.Fields.{mul-inv, inv-ne-zero, field_mul-ne-zero}
use Rattle.theory_rings.proofs.Rings.Homomorphisms.{map-zero}
use Rattle.theory_rings.proofs.Sums.Sums.{map-sum, sum_congr}
use Rattle.theory_spaces.specs.Module.{ModuleOn}
use Rattle.theory_spaces.specs.Linear.{comb, InSpan, Independent, Coords}
use Rattle.theory_spaces.proofs.Linear.Families.{choose_each}
use Rattle.theory_spaces.proofs.Linear.Modules.{comb_congr, comb_congr_right, comb-comb, rows_of}
use Rattle.theory_spaces.proofs.Linear.Dimension.{exchange}
use Rattle.theory_lattices.specs.Degree.{DegreeOn, HasDegree, IsEuclidean}
use Rattle.theory_lattices.specs.ReducedRows.{Reduced, InRows, SameRows, Shifts}
use Rattle.theory_spaces.specs.Lattice.{LatticeOver}
use Rattle.theory_lattices.specs.CommonBasis.{InInfinite, CommonBasis}
use Rattle.theory_lattices.proofs.Degree.PowersOfDegreeOne.{has_degree-inv}
use Rattle.theory_lattices.proofs.Rows.ReductionStep.{reduced_shift}
use Rattle.theory_lattices.proofs.Rows.ReducedBases.{reduced_basis}
use Rattle.theory_lattices.proofs.Common.CommonBases.{common_basis}

-- a ring in a field whose elements are its fractions, with one degree
pub record IsFractionsOf {D K : Type 0} {R : RingOn D} (X : DegreeOn R) (F : FieldOn K) (W : DegreeOn F.ring)
    (of : D → K) : Type 0 where
  pub hom : IsRingHom R F.ring of
  pub keeps : Shifts X W (pos 0) of
  pub fraction : (c : K) → (u : D) × (v : D) × (v ≡ R.zero → ⊥) × (F.◌⊗◌ (of v) c ≡ of u)

module _ {D K : Type 0} {R : RingOn D} (X : DegreeOn R) (F : FieldOn K) (W : DegreeOn F.ring) (of : D → K)
    (I : IsFractionsOf X F W of) where
  infixl 70 ◌⊗◌
  open F use {◌⊗◌}

  abbrev hom : IsRingHom R F.ring of
  hom = I.hom

  -- v · v' is a denominator where v' is
  more_denominator : (v v' u : D) (c : K) → of v' ⊗ c ≡ of u → of (R.◌⊗◌ v v') ⊗ c ≡ of (R.◌⊗◌ v u)
  more_denominator v v' u c e = ap (λ t. t ⊗ c) (hom.map-mul v v') ∙ F.mul_assoc (of v) (of v') c
      ∙ ap (λ t. of v ⊗ t) e ∙ sym (hom.map-mul v u)

  -- and where v is
  other_denominator : (v v' u : D) (c : K) → of v ⊗ c ≡ of u → of (R.◌⊗◌ v v') ⊗ c ≡ of (R.◌⊗◌ v' u)
  other_denominator v v' u c e =
      ap (λ t. t ⊗ c) (hom.map-mul v v' ∙ F.mul_comm (of v) (of v')) ∙ F.mul_assoc (of v') (of v) c
      ∙ ap (λ t. of v' ⊗ t) e ∙ sym (hom.map-mul v' u)

  -- v makes all of c 0, .., c (m − 1) elements of the ring
  pub record Denominator (m : ℕ) (c : ℕ → K) (v : D) : Type 0 where
    pub nonzero : v ≡ R.zero → ⊥
    pub clears : (j : ℕ) → j < m → (u : D) × (of v ⊗ c j ≡ of u)

  pub denominator : (m : ℕ) (c : ℕ → K) → (v : D) × Denominator m c v
  denominator zero c = (R.one, record { nonzero = X.one-ne-zero; clears = λ j l. absurd (omega arith) })
  denominator (suc m) c =
      let d = denominator m c in
      let r = I.fraction (c m) in
      let t = d.1 in (
        R.◌⊗◌ r.1 d.0,
        record {
          nonzero = X.mul-ne-zero r.1 d.0 r.2 t.nonzero;
          clears = λ j l. ⊎_elim
              (λ (g : j < m). let u = t.clears j g in (R.◌⊗◌ r.1 u.0, more_denominator r.1 d.0 u.0 (c j) u.1))
              (λ (g : m ≤ j). let q : j ≡ m = omega arith in
              (R.◌⊗◌ d.0 r.0, ap (λ i. of (R.◌⊗◌ r.1 d.0) ⊗ c i) q ∙ other_denominator r.1 d.0 r.0 (c m) r.3))
              (cases_lt j m);
        },
      )

  -- v makes n rows of m elements rows of the ring
  record RowDenominator (n m : ℕ) (a : ℕ → ℕ → K) (v : D) : Type 0 where
    pub nonzero : v ≡ R.zero → ⊥
    pub clears : (i : ℕ) → i < n → (j : ℕ) → j < m → (u : D) × (of v ⊗ a i j ≡ of u)

  row_denominator : (n m : ℕ) (a : ℕ → ℕ → K) → (v : D) × RowDenominator n m a v
  row_denominator zero m a = (R.one, record { nonzero = X.one-ne-zero; clears = λ i l. absurd (omega arith) })
  row_denominator (suc n) m a =
      let d = row_denominator n m a in
      let r = denominator m (a n) in
      let t = d.1 in
      let s = r.1 in (
        R.◌⊗◌ r.0 d.0,
        record {
          nonzero = X.mul-ne-zero r.0 d.0 s.nonzero t.nonzero;
          clears = λ i l j b. ⊎_elim
              (λ (g : i < n). let u = t.clears i g j b in (R.◌⊗◌ r.0 u.0, more_denominator r.0 d.0 u.0 (a i j) u.1))
              (λ (g : n ≤ i). let q : i ≡ n = omega arith in
              let u = s.clears j b in
              (R.◌⊗◌ d.0 u.0, ap (λ k. of (R.◌⊗◌ r.0 d.0) ⊗ a k j) q ∙ other_denominator r.0 d.0 u.0 (a n j) u.1))
              (cases_lt i n);
        },
      )

  -- division by v, as a map of the ring
  module _ (v : D) (nv : v ≡ R.zero → ⊥) where
    of_v : of v ≡ F.zero → ⊥
    of_v = let k = I.keeps in k.map-ne-zero v nv

    abbrev over : D → K
    over u = of u ⊗ F.inv (of v)

    over-mul : (a u : D) → over (R.◌⊗◌ a u) ≡ of a ⊗ over u
    over-mul a u = ap (λ t. t ⊗ F.inv (of v)) (hom.map-mul a u) ∙ F.mul_assoc (of a) (of u) (F.inv (of v))

    over-add : (a u : D) → over (R.◌⊕◌ a u) ≡ F.◌⊕◌ (over a) (over u)
    over-add a u = ap (λ t. t ⊗ F.inv (of v)) (hom.map-add a u) ∙ F.add-mul (of a) (of u) (F.inv (of v))

    over-zero : over R.zero ≡ F.zero
    over-zero = ap (λ t. t ⊗ F.inv (of v)) (map-zero R F.ring of hom) ∙ zero-mul F.ring (F.inv (of v))

    over_of : (c : K) (u : D) → of v ⊗ c ≡ of u → c ≡ over u
    over_of c u e = sym (F.mul-one c) ∙ ap (λ t. c ⊗ t) (sym (mul-inv F (of v) of_v))
        ∙ sym (F.mul_assoc c (of v) (F.inv (of v)))
        ∙ ap (λ t. t ⊗ F.inv (of v)) (F.mul_comm c (of v) ∙ e)

    over_shifts : Shifts X W (neg_ℤ (X.deg v)) over
    over_shifts =
        let k = I.keeps in
        let i : HasDegree W (neg_ℤ (X.deg v)) (F.inv (of v)) = has_degree-inv F W (X.deg v) (of v)
        (record { nonzero = of_v; degree = (let e = k.map-degree v nv in omega (arith, ints)) }) in
        record {
          map-zero = over-zero;
          map-ne-zero = λ a h. field_mul-ne-zero F (of a) (F.inv (of v)) (k.map-ne-zero a h)
              (inv-ne-zero F (of v) of_v);
          map-degree = λ a h.
              let m = W.deg-mul (of a) (F.inv (of v)) (k.map-ne-zero a h) (inv-ne-zero F (of v) of_v) in
              let d = k.map-degree a h in
              let e = i.degree in
              omega (arith, ints);
        }

    module _ {V : Type 0} (M : ModuleOn F.ring V) (n : ℕ) (e : ℕ → V) where
      abbrev vector : (ℕ → D) → V
      vector row = comb M n (λ t. over (row t)) e

      -- combinations of rows are those of their vectors
      carried : (k : ℕ) (rows : ℕ → ℕ → D) (row : ℕ → D) (s : InRows R k n rows row)
          → vector row ≡ comb M k (λ l. of (s.weights l)) (λ l. vector (rows l))
      carried k rows row s =
          comb_congr M n (λ t. over (row t)) (λ t. sum F.monoid k (λ l. of (s.weights l) ⊗ over (rows l t))) e
          (λ t g. ap over (s.combines t g)
          ∙ map-sum R.monoid F.monoid over over-zero over-add k (λ l. R.◌⊗◌ (s.weights l) (rows l t))
          ∙ sum_congr F.monoid k (λ l. over (R.◌⊗◌ (s.weights l) (rows l t)))
          (λ l. of (s.weights l) ⊗ over (rows l t)) (λ l _. over-mul (s.weights l) (rows l t)))
          ∙ sym (comb-comb M k n (λ l. of (s.weights l)) (λ l t. over (rows l t)) e)

-- weights in the ring
module _ {D K V : Type 0} {R : RingOn D} (F : FieldOn K) (of : D → K) (hom : IsRingHom R F.ring of) (P : K → Type 0)
    (P_of : (u : D) → P (of u)) (of_P : (c : K) → P c → (u : D) × (c ≡ of u)) (M : ModuleOn F.ring V) (n : ℕ) where
  -- what is a combination of combinations is one
  InFinite_trans : (f g : ℕ → V) (U : ℕ → ℕ → D) → ((i : ℕ) → i < n → f i ≡ comb M n (λ j. of (U i j)) g)
      → (x : V) → LatticeOver M P n f x → LatticeOver M P n g x
  InFinite_trans f g U h x s =
      let p = choose_each n (λ i u. s.weights i ≡ of u) R.zero (λ i l. of_P (s.weights i) (s.passes i l)) in
      let q = λ (j : ℕ). sum R.monoid n (λ i. R.◌⊗◌ (p.0 i) (U i j)) in
      record {
        weights = λ j. of (q j);
        passes = λ j l. P_of (q j);
        combines = s.combines
            ∙ comb_congr M n s.weights (λ i. of (p.0 i)) f p.1
            ∙ comb_congr_right M n (λ i. of (p.0 i)) f (λ i. comb M n (λ j. of (U i j)) g) h
            ∙ comb-comb M n n (λ i. of (p.0 i)) (λ i j. of (U i j)) g
            ∙ comb_congr M n (λ j. sum F.monoid n (λ i. F.◌⊗◌ (of (p.0 i)) (of (U i j)))) (λ j. of (q j)) g
            (λ j _. sym (map-sum R.monoid F.monoid of (map-zero R F.ring of hom) hom.map-add n
            (λ i. R.◌⊗◌ (p.0 i) (U i j))
            ∙ sum_congr F.monoid n (λ i. of (R.◌⊗◌ (p.0 i) (U i j))) (λ i. F.◌⊗◌ (of (p.0 i)) (of (U i j)))
            (λ i _. hom.map-mul (p.0 i) (U i j))));
      }

module _ {D K V : Type 0} {R : RingOn D} (X : DegreeOn R) (euclid : IsEuclidean X) (F : FieldOn K)
    (W : DegreeOn F.ring) (of : D → K) (I : IsFractionsOf X F W of)
    (P : K → Type 0) (P_of : (u : D) → P (of u)) (of_P : (c : K) → P c → (u : D) × (c ≡ of u))
    (M : ModuleOn F.ring V) (n : ℕ) (C : Coords M n) (f e : ℕ → V) (f_free : Independent M n f)
    (e_free : Independent M n e) (e_spans : (x : V) → InSpan M n e x) where
  abbrev Result : Type 0
  Result = (b : ℕ → V) × (a : ℕ → ℤ) × CommonBasis F W M P n (LatticeOver M P n f) (InInfinite F W M P n e) b a

  -- the coordinates, a common denominator and the numerators
  module _ (v : D) (nv : v ≡ R.zero → ⊥) (B : ℕ → ℕ → D)
      (f_is : (i : ℕ) → i < n → f i ≡ vector X F W of I v nv M n e (B i)) where
    abbrev vec : (ℕ → D) → V
    vec row = vector X F W of I v nv M n e row

    finish : (new : ℕ → ℕ → D) → SameRows R n n n B new → Reduced X n n new → Result
    finish new same red =
        let rows = λ (i j : ℕ). over X F W of I v nv (new i j) in
        let red' = reduced_shift X W (neg_ℤ (X.deg v)) (over X F W of I v nv)
        (over_shifts X F W of I v nv) n n new red in
        let b = λ (i : ℕ). vec (new i) in
        let cb = common_basis F W M P n C e e_free e_spans rows red' in
        let into = choose_each n (λ i (u : ℕ → D). vec (new i) ≡ comb M n (λ l. of (u l)) (λ l. vec (B l)))
        (λ _. R.zero)
        (λ i l. let s = same.into i l in (s.weights, carried X F W of I v nv M n e n B (new i) s)) in
        let back = choose_each n (λ i (u : ℕ → D). vec (B i) ≡ comb M n (λ l. of (u l)) b) (λ _. R.zero)
        (λ i l. let s = same.back i l in (s.weights, carried X F W of I v nv M n e n new (B i) s)) in
        let hom = I.hom in (
          b,
          λ i. neg_ℤ (red'.degree i),
          record {
            free = cb.free;
            finite_in = λ x h. InFinite_trans F of hom P P_of of_P M n f b back.0 (λ i l. f_is i l ∙ back.1 i l) x h;
            finite_back = λ x h. InFinite_trans F of hom P P_of of_P M n b f into.0
                (λ i l. into.1 i l ∙ comb_congr_right M n (λ j. of (into.0 i j)) (λ j. vec (B j)) f
                (λ j g. sym (f_is j g))) x h;
            infinite_in = cb.infinite_in;
            infinite_back = cb.infinite_back;
          },
        )

    -- as the vectors f are independent, no row is lost
    whole : (m : ℕ) (new : ℕ → ℕ → D) → m ≤ n → SameRows R n n m B new → Reduced X m n new → Result
    whole m new le same red =
        let g : n ≤ m = exchange F M n m f (λ l. vec (new l)) f_free (λ i l. let s = same.back i l in
        record {
          weights = λ k. of (s.weights k);
          combines = f_is i l
              ∙ carried X F W of I v nv M n e m new (B i) s;
        }) in
        let q : m ≡ n = omega arith in
        finish new (subst (λ t. SameRows R n n t B new) q same) (subst (λ t. Reduced X t n new) q red)

    found : Result
    found = let r = reduced_basis X n euclid n B in whole r.0 r.2 r.1 r.3 r.4

  pub common_basis_exists : Result
  common_basis_exists =
      let a = rows_of M n n f e (λ i l. e_spans (f i)) in
      let d = row_denominator X F W of I n n a.0 in
      let t = d.1 in
      let B = choose_each n (λ i (row : ℕ → D). (j : ℕ) → j < n → F.◌⊗◌ (of d.0) (a.0 i j) ≡ of (row j)) (λ _. R.zero)
      (λ i l. choose_each n (λ j u. F.◌⊗◌ (of d.0) (a.0 i j) ≡ of u) R.zero (λ j g. t.clears i l j g)) in
      found d.0 t.nonzero B.0 (λ i l. a.1 i l ∙ comb_congr M n (a.0 i) (λ j. over X F W of I d.0 t.nonzero (B.0 i j)) e
      (λ j g. over_of X F W of I d.0 t.nonzero (a.0 i j) (B.0 i j) (B.1 i l j g)))
