-- The trace of matrices is a trace: linear, the same for both orders of a product, and 0 at nilpotent matrices, as
-- these act nilpotently on columns.
use Rattle.std.specs.Prelude.{◌≡◌, ℕ, zero, suc}
use Rattle.std.proofs.Common.{sym, ◌∙◌, ap, inl}
use Rattle.theory_rings.specs.Ring.{FieldOn}
use Rattle.theory_rings.specs.Sum.{sum}
use Rattle.theory_rings.specs.Power.{power}
use Rattle.theory_rings.proofs.Rings.RingLaws.{zero-mul}
use Rattle.theory_rings.proofs.Rings.Semirings.{semiring, mul_left_comm}
use Rattle.theory_rings.proofs.Sums.Sums.{sum_congr, sum_eq_zero, sum-add, mul-sum}
use Rattle.theory_rings.proofs.Powers.Powers.{power_last}
use Rattle.theory_spaces.specs.Module.{ModuleOn, AlgebraOn}
use Rattle.theory_spaces.specs.Linear.{Basis, IsLinear}
use Rattle.theory_spaces.specs.Matrix.{Mat, delta, mat_mul, mat_trace}
use Rattle.theory_spaces.specs.Space.{SpaceOn}
use Rattle.theory_spaces.specs.Algebra.{iterate, map_trace}
use Rattle.theory_spaces.specs.MatrixAlgebra.{IsMatrixAlgebra}
use Rattle.theory_spaces.proofs.Matrices.Matrices.{mat_mul_assoc, mat_trace_comm, sum-mul_delta, sum-delta_mul}
use Rattle.theory_spaces.proofs.Tuples.Tables.{unit, coord-unit, space_basis, space_basis-coord}
use Rattle.theory_spaces.proofs.Forms.MapTraces.{map_trace-nilpotent}
use Rattle.theory_orders.proofs.Lattices.Columns.{Column, columns, column_space}
use Rattle.theory_pairs.specs.OwnDual.{IsTraceMap}

module _ {K : Type 0} (F : FieldOn K) (n : ℕ) (A : AlgebraOn F.ring (Mat F.ring n))
    (H : IsMatrixAlgebra F.ring n A) where
  infixl 70 ◌⊗◌
  open F use {◌⊗◌}

  abbrev C : ModuleOn F.ring (Column F n)
  C = columns F n

  abbrev S : SpaceOn C n
  S = column_space F n

  abbrev tr : Mat F.ring n → K
  tr x = mat_trace F.ring n x.0

  -- a matrix times a column
  abbrev act : Mat F.ring n → Column F n → Column F n
  act a x = (
    λ i. sum F.monoid n (λ j. a.0 i j ⊗ x.0 j),
    λ i l. sum_eq_zero F.monoid n (λ j. a.0 i j ⊗ x.0 j)
        (λ j _. ap (λ t. t ⊗ x.0 j) (a.1 i j (inl l)) ∙ zero-mul F.ring (x.0 j)),
  )

  act_linear : (a : Mat F.ring n) → IsLinear C C (act a)
  act_linear a = record {
    map-add = λ x y. S.ext (act a (C.◌⊕◌ x y)) (C.◌⊕◌ (act a x) (act a y)) (λ i _.
        sum_congr F.monoid n (λ j. a.0 i j ⊗ F.◌⊕◌ (x.0 j) (y.0 j)) (λ j. F.◌⊕◌ (a.0 i j ⊗ x.0 j) (a.0 i j ⊗ y.0 j))
        (λ j _. F.mul-add (a.0 i j) (x.0 j) (y.0 j))
        ∙ sum-add F.monoid n (λ j. a.0 i j ⊗ x.0 j) (λ j. a.0 i j ⊗ y.0 j));
    map-scale = λ c x. S.ext (act a (C.◌•◌ c x)) (C.◌•◌ c (act a x)) (λ i _.
        sum_congr F.monoid n (λ j. a.0 i j ⊗ (c ⊗ x.0 j)) (λ j. c ⊗ (a.0 i j ⊗ x.0 j))
        (λ j _. mul_left_comm (semiring F.cring) (a.0 i j) c (x.0 j))
        ∙ sym (mul-sum F.ring n c (λ j. a.0 i j ⊗ x.0 j)));
  }

  act-mul : (a b : Mat F.ring n) (x : Column F n) → act (A.◌⊗◌ a b) x ≡ act a (act b x)
  act-mul a b x = S.ext (act (A.◌⊗◌ a b) x) (act a (act b x)) (λ i _.
      sum_congr F.monoid n (λ j. (A.◌⊗◌ a b).0 i j ⊗ x.0 j) (λ j. mat_mul F.ring n a.0 b.0 i j ⊗ x.0 j)
      (λ j _. ap (λ t. t ⊗ x.0 j) (H.mul-is a b i j))
      ∙ ap (λ (m : ℕ → ℕ → K). m i 0) (mat_mul_assoc F.ring n n a.0 b.0 (λ s _. x.0 s)))

  act-one : (x : Column F n) → act A.one x ≡ x
  act-one x = S.ext (act A.one x) x (λ i l.
      sum_congr F.monoid n (λ j. A.one.0 i j ⊗ x.0 j) (λ j. delta F.ring i j ⊗ x.0 j)
      (λ j g. ap (λ t. t ⊗ x.0 j) (H.one-is i j l g)) ∙ sum-delta_mul F.ring n x.0 i l)

  iterate-power : (a : Mat F.ring n) (e : ℕ) (x : Column F n) → iterate (act a) e x ≡ act (power A.ring a e) x
  iterate-power a zero x = sym (act-one x)
  iterate-power a (suc e) x =
      iterate-power a e (act a x) ∙ sym (act-mul (power A.ring a e) a x)
      ∙ ap (λ t. act t x) (sym (power_last A.ring a e))

  act-zero : (x : Column F n) → act A.zero x ≡ C.zero
  act-zero x = S.ext (act A.zero x) C.zero (λ i _. sum_eq_zero F.monoid n (λ j. A.zero.0 i j ⊗ x.0 j)
      (λ j _. ap (λ t. t ⊗ x.0 j) (H.zero-is i j) ∙ zero-mul F.ring (x.0 j)))

  abbrev B : Basis C n
  B = space_basis C n S

  trace-action : (a : Mat F.ring n) → tr a ≡ map_trace C n B (act a)
  trace-action a = sum_congr F.monoid n (λ j. a.0 j j) (λ j. B.coord (act a (B.vec j)) j) (λ j l. sym (
      space_basis-coord C n S (act a (unit C n S j)) j l
      ∙ sum_congr F.monoid n (λ k. a.0 j k ⊗ (unit C n S j).0 k) (λ k. a.0 j k ⊗ delta F.ring k j)
      (λ k g. ap (λ t. a.0 j k ⊗ t) (coord-unit C n S j k g))
      ∙ sum-mul_delta F.ring n (a.0 j) j l))

  pub matrix_trace_map : IsTraceMap A tr
  matrix_trace_map = record {
    tr-add = λ x y. sum_congr F.monoid n (λ i. (A.◌⊕◌ x y).0 i i) (λ i. F.◌⊕◌ (x.0 i i) (y.0 i i))
        (λ i _. H.add-is x y i i)
        ∙ sum-add F.monoid n (λ i. x.0 i i) (λ i. y.0 i i);
    tr-scale = λ c x. sum_congr F.monoid n (λ i. (A.◌•◌ c x).0 i i) (λ i. c ⊗ x.0 i i) (λ i _. H.scale-is c x i i)
        ∙ sym (mul-sum F.ring n c (λ i. x.0 i i));
    tr_comm = λ x y. sum_congr F.monoid n (λ i. (A.◌⊗◌ x y).0 i i) (λ i. mat_mul F.ring n x.0 y.0 i i)
        (λ i _. H.mul-is x y i i)
        ∙ mat_trace_comm F.cring n n x.0 y.0
        ∙ sym (sum_congr F.monoid n (λ i. (A.◌⊗◌ y x).0 i i) (λ i. mat_mul F.ring n y.0 x.0 i i)
        (λ i _. H.mul-is y x i i));
    tr_nilpotent = λ x h. trace-action x ∙ map_trace-nilpotent F C n B (act x) (act_linear x) h.exponent
        (λ y. iterate-power x h.exponent y ∙ ap (λ t. act t y) h.vanishes ∙ act-zero y);
  }
