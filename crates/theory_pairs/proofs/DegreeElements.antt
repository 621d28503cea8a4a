-- The degree count with its element: the product of a basis vector of the greatest degree and its dual vector.
use Rattle.std.specs.Prelude.{◌≡◌, ℕ, zero, suc, ◌<◌, ◌≤◌, ℤ, pos, ◌+ℤ◌, ◌≤ℤ◌, ◌<ℤ◌, neg_ℤ}
use Rattle.std.proofs.Common.{sym, ◌∙◌, ap, subst, arith, ⊎_elim}
use Rattle.std.proofs.lemmas.Int.{ints}
use Rattle.std.proofs.lemmas.Bool.{cases_lt}
use Rattle.theory_rings.specs.Ring.{FieldOn}
use Rattle.theory_rings.specs.Homomorphism.{IsRingHom}
use Rattle.theory_spaces.specs.Module.{AlgebraOn, module_of}
use Rattle.theory_spaces.proofs.Linear.Families.{below_suc}
use Rattle.theory_lattices.specs.Degree.{DegreeOn, DegreeBelow}
use Rattle.theory_lattices.specs.CommonBasis.{CommonBasis}
use Rattle.theory_lattices.specs.Members.{PolynomialsOf}
use Rattle.theory_lattices.specs.SelfDual.{PowersOf, SelfDualPair, DualVectors}
use Rattle.theory_lattices.proofs.Duals.DualCoordinates.{trace-zero, dual_one}
use Rattle.theory_lattices.proofs.Degree.Degrees.{cases_int}
use Rattle.theory_lattices.proofs.Degree.PowersOfDegreeOne.{powers, at}
use Rattle.theory_lattices.proofs.Duals.DegreeCount.{Reaches, reaches-mul, vanishes, basis_reaches, dual_reaches}
use Rattle.theory_lattices.proofs.Duals.DegreeCount.{middle}
use Rattle.theory_lattices.proofs.Duals.DegreeCount.{no_right_inverse}
use Rattle.theory_lattices.proofs.Duals.MiddleElements.{low_poly, const_poly}
use Rattle.theory_pairs.specs.DegreeElement.{FirstGreatest, DegreeElement}

-- the first of the greatest
pub first_greatest : (n : ℕ) (a : ℕ → ℤ) → 0 < n → FirstGreatest n a
first_greatest zero a l = absurd (omega arith)
first_greatest (suc n) a l = ⊎_elim
    (λ (h : 0 < n). more (first_greatest n a h))
    (λ (h : n ≤ 0). record {
      place = n;
      within = omega arith;
      most = λ i g. let e : n ≡ i = omega arith in let P : ℕ → Type 0 =
          λ t. a t ≤ℤ a n in subst P e (omega (arith, ints));
      before = λ i g. absurd (omega arith);
    })
    (cases_lt 0 n)
  where
    more : FirstGreatest n a → FirstGreatest (suc n) a
    more g = ⊎_elim
        (λ (h : a g.place <ℤ a n). record {
          place = n;
          within = omega arith;
          most = below_suc n (λ i. a i ≤ℤ a n) (λ i x. let m = g.most i x in omega (arith, ints)) (omega (arith, ints));
          before = λ i x. let m = g.most i x in omega (arith, ints);
        })
        (λ (h : a n ≤ℤ a g.place). record {
          place = g.place;
          within = (let w = g.within in omega arith);
          most = below_suc n (λ i. a i ≤ℤ a g.place) g.most h;
          before = g.before;
        })
        (cases_int (a g.place) (a n))

module _ {K V : Type 0} (F : FieldOn K) (W : DegreeOn F.ring) (A : AlgebraOn F.ring V) (P : K → Type 0) (n : ℕ)
    (finite infinite : V → Type 0) (tr : V → K) (S : SelfDualPair F W A P finite infinite tr)
    (T : ℤ → K) (X : PowersOf F W T)
    (b : ℕ → V) (a : ℕ → ℤ) (B : CommonBasis F W (module_of A) P n finite infinite b a)
    (one_poly : P F.one) (zero_poly : P F.zero) (low_poly : (c : K) → P c → DegreeBelow W (pos 0) c → c ≡ F.zero)
    (dual : ℕ → V) (D : DualVectors F A tr n b dual) where
  infixl 70 ◌⊗◌
  open A use {◌⊗◌}

  abbrev Reach : ℤ → V → Type 0
  Reach = Reaches F W A P n finite infinite tr S T X b a B one_poly zero_poly low_poly dual D

  module _ (i : ℕ) (l : i < n) (most : (j : ℕ) → j < n → a j ≤ℤ a i) where
    abbrev w : V
    w = b i ⊗ dual i

    abbrev own : Reach (a i) (b i)
    own = basis_reaches F W A P n finite infinite tr S T X b a B one_poly zero_poly low_poly dual D i l

    abbrev other : Reach (neg_ℤ (a i)) (dual i)
    other = dual_reaches F W A P n finite infinite tr S T X b a B one_poly zero_poly low_poly dual D i l

    w-trace : tr w ≡ F.one
    w-trace = dual_one F W A P finite infinite tr S n b dual D i l

    -- a greatest degree is not negative
    pub greatest_natural : pos 0 ≤ℤ a i
    greatest_natural = ⊎_elim
        (λ (h : a i <ℤ pos 0). absurd (W.one-ne-zero (sym w-trace
        ∙ ap tr (vanishes F W A P n finite infinite tr S T X b a B one_poly zero_poly low_poly dual D
        (a i +ℤ neg_ℤ (a i)) w
        (λ j g. let m = most j g in omega (arith, ints))
        (reaches-mul F W A P n finite infinite tr S T X b a B one_poly zero_poly low_poly dual D
        (a i) (neg_ℤ (a i)) (b i) (dual i) own other))
        ∙ trace-zero F W A P finite infinite tr S)))
        (λ (h : pos 0 ≤ℤ a i). h)
        (cases_int (a i) (pos 0))

    twice : pos 0 <ℤ a i → (j : ℕ) → j < n → a j <ℤ (a i +ℤ a i)
    twice p j g = let m = most j g in omega (arith, ints)

    pub degree_element : pos 0 <ℤ a i → DegreeElement F W A P finite infinite tr w
    degree_element p = record {
      middle = middle F W A P n finite infinite tr S T X b a B one_poly zero_poly low_poly dual D
          (a i) (b i) (dual i) p (twice p) own other w-trace;
      trace-one = w-trace;
      no_right_inverse = no_right_inverse F W A P n finite infinite tr S T X b a B one_poly zero_poly low_poly dual D
          (a i) (b i) (dual i) (twice p) own w-trace;
    }

-- with the polynomials over a field of constants as the weights of the finite order
module _ {k K V : Type 0} (κ : FieldOn k) (F : FieldOn K) (W : DegreeOn F.ring) (P : K → Type 0) (ι : k → K)
    (hom : IsRingHom κ.ring F.ring ι)
    (T : ℕ → K) (X : PolynomialsOf F W P κ.ring ι T) (T-zero : T 0 ≡ F.one)
    (A : AlgebraOn F.ring V) (n : ℕ) (finite infinite : V → Type 0) (tr : V → K)
    (S : SelfDualPair F W A P finite infinite tr)
    (b : ℕ → V) (a : ℕ → ℤ) (B : CommonBasis F W (module_of A) P n finite infinite b a) (dual : ℕ → V)
    (D : DualVectors F A tr n b dual)
    (i : ℕ) (l : i < n) (most : (j : ℕ) → j < n → a j ≤ℤ a i) where
  one_in : P F.one
  one_in = subst P hom.map-one (const_poly κ F W P ι hom T X T-zero κ.one)

  zero_in : P F.zero
  zero_in = subst P X.ι-zero (const_poly κ F W P ι hom T X T-zero κ.zero)

  pub pair_natural : pos 0 ≤ℤ a i
  pair_natural = greatest_natural F W A P n finite infinite tr S (at F W (T 1) (X.T-degree 1))
      (powers F W (T 1) (X.T-degree 1)) b a B one_in zero_in
      (low_poly κ F W P ι hom T X T-zero) dual D i l most

  pub pair_element : pos 0 <ℤ a i → DegreeElement F W A P finite infinite tr (A.◌⊗◌ (b i) (dual i))
  pair_element p = degree_element F W A P n finite infinite tr S (at F W (T 1) (X.T-degree 1))
      (powers F W (T 1) (X.T-degree 1)) b a B one_in zero_in
      (low_poly κ F W P ι hom T X T-zero) dual D i l most p
