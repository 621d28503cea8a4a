-- The matrix units as the basis of two self-dual orders, by the trace of matrices.
use Rattle.std.specs.Prelude.{◌≡◌, ℕ, ◌+◌, ◌*◌, ◌/◌, ◌%◌, ◌<◌, pos}
use Rattle.std.proofs.Common.{sym, ◌∙◌, ap, ap₂, subst}
use Rattle.std.proofs.lemmas.Nat.{div-add-mod'}
use Rattle.theory_rings.specs.Ring.{FieldOn}
use Rattle.theory_rings.specs.Sum.{sum}
use Rattle.theory_rings.proofs.Rings.Fields.{field_set}
use Rattle.theory_rings.proofs.Rings.Semirings.{semiring, mul_left_comm}
use Rattle.theory_rings.proofs.Sums.Sums.{sum_congr}
use Rattle.theory_spaces.specs.Module.{ModuleOn, AlgebraOn, module_of}
use Rattle.theory_spaces.specs.Linear.{Basis}
use Rattle.theory_spaces.specs.Matrix.{Matrix, Mat, delta, mat_trace}
use Rattle.theory_spaces.specs.Form.{gram}
use Rattle.theory_spaces.specs.MatrixAlgebra.{IsMatrixAlgebra, MatrixUnits}
use Rattle.theory_spaces.specs.MinimalIdempotent.{IsMinimalIdempotent}
use Rattle.theory_spaces.proofs.Matrices.Matrices.{Mat-ext, delta-same, delta_comm, sum-delta_mul, sum-mul_delta}
use Rattle.theory_spaces.proofs.Matrices.MatrixAlgebra.{unit_matrix, unit_matrix-entry, mul-unit_matrix}
use Rattle.theory_spaces.proofs.Matrices.MatrixAlgebra.{unit_matrix-mul}
use Rattle.theory_spaces.proofs.Matrices.MatrixAlgebra.{unit_matrix-mul_unit_matrix, matrix_space, matrix_basis}
use Rattle.theory_spaces.proofs.Matrices.MatrixAlgebra.{matrix_basis-vec, matrices_central}
use Rattle.theory_spaces.proofs.Tuples.Tables.{space_basis-coord}
use Rattle.theory_spaces.proofs.Matrices.PairIndex.{pair-lt, row-lt, column-lt, delta-pairs}
use Rattle.theory_lattices.specs.Degree.{DegreeOn, DegreeBelow}
use Rattle.theory_spaces.specs.Lattice.{IsSubring, LatticeOver}
use Rattle.theory_pairs.specs.OwnDual.{UnimodularGram, IsTraceMap}
use Rattle.theory_pairs.specs.MatrixPair.{MatrixPair}
use Rattle.theory_spaces.proofs.Linear.LatticeSpans.{delta_in, span-member, span-scale}
use Rattle.theory_pairs.proofs.PairsByGram.{below_subring, pair_by_gram, trace_by_gram}
use Rattle.theory_pairs.proofs.MatrixTraces.{matrix_trace_map}

module _ {K : Type 0} (F : FieldOn K) (n : ℕ) (A : AlgebraOn F.ring (Mat F.ring n))
    (H : IsMatrixAlgebra F.ring n A) where
  infixl 70 ◌⊗◌
  open F use {◌⊗◌}

  abbrev M : ModuleOn F.ring (Mat F.ring n)
  M = module_of A

  abbrev tr : Mat F.ring n → K
  tr x = mat_trace F.ring n x.0

  abbrev form : Mat F.ring n → Mat F.ring n → K
  form x y = tr (A.◌⊗◌ x y)

  abbrev d : ℕ → ℕ → K
  d = delta F.ring

  abbrev U : MatrixUnits F.ring n A
  U = record {
    unit = unit_matrix F.cring (field_set F) n A H;
    entries = unit_matrix-entry F.cring (field_set F) n A H;
    products = unit_matrix-mul_unit_matrix F.cring (field_set F) n A H;
    basis = matrix_basis F.cring (field_set F) n A H;
    basis-vec = matrix_basis-vec F.cring (field_set F) n A H;
  }

  abbrev E : ℕ → ℕ → Mat F.ring n
  E = let u = U in u.unit

  abbrev b : ℕ → Mat F.ring n
  b = let u = U in let v = u.basis in v.vec

  b-is : (t : ℕ) → t < n * n → b t ≡ E (t / n) (t % n)
  b-is t l = let u = U in ap b (sym (div-add-mod' t n))
      ∙ u.basis-vec (t / n) (t % n) (row-lt n n t l) (column-lt n n t l)

  -- tr (E i j) is 1 where i is j, and else 0
  trace-unit : (i j : ℕ) → i < n → tr (E i j) ≡ d i j
  trace-unit i j l =
      let u = U in
      sum_congr F.monoid n (λ m. (E i j).0 m m) (λ m. d i m ⊗ d j m) (λ m g. u.entries i j m m g g)
      ∙ sum-delta_mul F.ring n (λ m. d j m) i l ∙ delta_comm F.ring j i

  form-units : (i j k l : ℕ) → i < n → j < n → k < n → form (E i j) (E k l) ≡ d j k ⊗ d i l
  form-units i j k l li lj lk =
      let u = U in
      let T : IsTraceMap A tr = matrix_trace_map F n A H in
      ap tr (u.products i j k l lj lk) ∙ T.tr-scale (d j k) (E i l) ∙ ap (λ t. d j k ⊗ t) (trace-unit i l li)

  -- the number of the unit with row and column exchanged
  abbrev turned : ℕ → ℕ
  turned t = t % n * n + t / n

  turned-lt : (t : ℕ) → t < n * n → turned t < n * n
  turned-lt t l = pair-lt n n (t % n) (t / n) (column-lt n n t l) (row-lt n n t l)

  b-turned : (t : ℕ) → t < n * n → b (turned t) ≡ E (t % n) (t / n)
  b-turned t l = let u = U in u.basis-vec (t % n) (t / n) (column-lt n n t l) (row-lt n n t l)

  abbrev N : Matrix K
  N k j = d k (turned j)

  gram-entry : (i j : ℕ) → i < n * n → j < n * n → gram M form b i j ≡ d (i % n) (j / n) ⊗ d (i / n) (j % n)
  gram-entry i j l g = ap₂ form (b-is i l) (b-is j g)
      ∙ form-units (i / n) (i % n) (j / n) (j % n) (row-lt n n i l) (column-lt n n i l) (row-lt n n j g)

  inverts : (i j : ℕ) → i < n * n → j < n * n → sum F.monoid (n * n) (λ k. gram M form b i k ⊗ N k j) ≡ d i j
  inverts i j l g =
      sum-mul_delta F.ring (n * n) (gram M form b i) (turned j) (turned-lt j g)
      ∙ ap₂ form (b-is i l) (b-turned j g)
      ∙ form-units (i / n) (i % n) (j % n) (j / n) (row-lt n n i l) (column-lt n n i l) (column-lt n n j g)
      ∙ F.mul_comm (d (i % n) (j % n)) (d (i / n) (j / n))
      ∙ sym (delta-pairs F.ring n (i / n) (i % n) (j / n) (j % n) (column-lt n n i l) (column-lt n n j g))
      ∙ ap₂ d (div-add-mod' i n) (div-add-mod' j n)

  module _ (P : K → Type 0) (R : IsSubring F.ring P) where
    pub unimodular : UnimodularGram M form P (n * n) b
    unimodular = record {
      inverse = N;
      inverts = inverts;
      gram-in = λ i j l g. subst P (sym (gram-entry i j l g))
          (R.mul_in (d (i % n) (j / n)) (d (i / n) (j % n)) (delta_in F P R (i % n) (j / n))
          (delta_in F P R (i / n) (j % n)));
      inverse-in = λ i j _ _. delta_in F P R i (turned j);
    }

    abbrev In : Mat F.ring n → Type 0
    In = LatticeOver M P (n * n) b

    unit-in : (i j : ℕ) → i < n → j < n → In (E i j)
    unit-in i j l g = let u = U in
        subst In (u.basis-vec i j l g) (span-member F P R M (n * n) b (i * n + j) (pair-lt n n i j l g))

    pub products-in : (i j : ℕ) → i < n * n → j < n * n → In (A.◌⊗◌ (b i) (b j))
    products-in i j l g = let u = U in
        subst In (sym (ap₂ A.◌⊗◌ (b-is i l) (b-is j g)
        ∙ u.products (i / n) (i % n) (j / n) (j % n) (column-lt n n i l) (row-lt n n j g)))
        (span-scale F P R M (n * n) b (d (i % n) (j / n)) (E (i / n) (j % n)) (delta_in F P R (i % n) (j / n))
        (unit-in (i / n) (j % n) (row-lt n n i l) (column-lt n n j g)))

    pub one-in : In A.one
    one-in =
        let B : Basis M (n * n) = let u = U in u.basis in
        record {
          weights = B.coord A.one;
          passes = λ t l. subst P
              (sym (space_basis-coord M (n * n) (matrix_space F.cring (field_set F) n A H) A.one t l
              ∙ H.one-is (t / n) (t % n) (row-lt n n t l) (column-lt n n t l)))
              (delta_in F P R (t / n) (t % n));
          combines = B.expand A.one;
        }

  minimal : 0 < n → IsMinimalIdempotent A (E 0 0)
  minimal l =
      let u = U in
      let e = E 0 0 in
      record {
        idempotent = u.products 0 0 0 0 l l ∙ ap (λ t. A.◌•◌ t e) (delta-same F.ring 0) ∙ A.one-scale e;
        nonzero = λ z. F.one-nonzero (sym (u.entries 0 0 0 0 l l
            ∙ ap₂ F.◌⊗◌ (delta-same F.ring 0) (delta-same F.ring 0) ∙ F.one-mul F.one)
            ∙ ap (λ (x : Mat F.ring n). x.0 0 0) z ∙ H.zero-is 0 0);
        corner = λ x. (x.0 0 0, corner_unit l x);
      }
    where
      corner_unit : 0 < n → (x : Mat F.ring n) → A.◌⊗◌ (A.◌⊗◌ (E 0 0) x) (E 0 0) ≡ A.◌•◌ (x.0 0 0) (E 0 0)
      corner_unit l x = Mat-ext F.ring (field_set F) n (A.◌⊗◌ (A.◌⊗◌ (E 0 0) x) (E 0 0)) (A.◌•◌ (x.0 0 0) (E 0 0))
          (λ p q c g.
          let r = x.0 0 0 in
          mul-unit_matrix F.cring (field_set F) n A H (A.◌⊗◌ (E 0 0) x) 0 0 p q l g
          ∙ ap (λ t. t ⊗ d 0 q) (unit_matrix-mul F.cring (field_set F) n A H x 0 0 p 0 l c)
          ∙ F.mul_assoc (d 0 p) r (d 0 q) ∙ mul_left_comm (semiring F.cring) (d 0 p) r (d 0 q)
          ∙ sym (H.scale-is r (E 0 0) p q ∙ ap (λ t. r ⊗ t)
          (unit_matrix-entry F.cring (field_set F) n A H 0 0 p q c g)))

  pub matrix_pair : (W : DegreeOn F.ring) (P : K → Type 0) → IsSubring F.ring P → MatrixPair F W P n A
  matrix_pair W P R =
      let u = U in
      let Q : K → Type 0 = λ c. DegreeBelow W (pos 1) c in
      let S : IsSubring F.ring Q = below_subring F W in
      let T : IsTraceMap A tr = matrix_trace_map F n A H in
      record {
        units = u;
        unimodular = unimodular P R;
        pair = pair_by_gram F A tr T (n * n) W P R u.basis u.basis (unimodular P R) (unimodular Q S)
            (products-in P R) (products-in Q S);
        integral = trace_by_gram F A tr T (n * n) W P R u.basis u.basis (unimodular P R) (unimodular Q S)
            (one-in P R) (one-in Q S);
        idempotent = minimal;
        central = matrices_central F.cring (field_set F) n A H;
      }
