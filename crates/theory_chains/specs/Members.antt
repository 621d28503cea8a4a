-- The members of the chain of ideals by lifted traces, as spans of rows: the first is where the trace form is 0, each
-- next one is where a form by a tuple is 0, and one that is nilpotent, or the last one, is the radical. (Rónyai,
-- Computing the structure of finite algebras.)
use Rattle.std.specs.Prelude.{◌≡◌, ℕ, suc, ◌^◌, ◌<◌, List, length}
use Rattle.theory_rings.specs.Ring.{FieldOn}
use Rattle.theory_rings.specs.Ops.{Ops, FieldLaws}
use Rattle.theory_rings.specs.Elements.{Elem, elements}
use Rattle.theory_rings.specs.Power.{power}
use Rattle.theory_rings.specs.Prime.{IsPrime}
use Rattle.theory_rings.specs.Sum.{sum_of, at}
use Rattle.theory_spaces.specs.Module.{AlgebraOn, module_of}
use Rattle.theory_spaces.specs.Linear.{Basis}
use Rattle.theory_spaces.specs.Tuples.{IsTuple, Tuple, basis, product}
use Rattle.theory_radical.specs.LiftRing.{LiftRingOn}
use Rattle.theory_radical.specs.Chain.{Chain}
use Rattle.theory_radical.specs.Functional.{TraceResidue}
use Rattle.theory_tables.specs.Matrix.{IsMatrix, entry}
use Rattle.theory_tables.specs.Subspace as rows_of
use Rattle.theory_tables.specs.Structure.{Structure, IsOver, IsAssociative}
use Rattle.theory_tables.specs.Algebras.{IsIdentity}
use Rattle.theory_tables.specs.Traces.{PowerVanishes, trace_matrix}
use Rattle.theory_tables.proofs.Algebras.Bridge.{algebra, table_basis, row}
use Rattle.theory_chains.specs.Radical.{SpansRadical}

module _ {E : Type 0} (o : Ops E) (L : FieldLaws o) (T : Structure E) (over : IsOver o T) (assoc : IsAssociative o T)
    (one : List E) (is_one : IsIdentity o T one) {W : Type 0} {p n : ℕ} (lift : LiftRingOn (elements o L) p n W) where
  abbrev K : FieldOn (Elem o)
  K = elements o L

  abbrev A : AlgebraOn K.ring (Tuple o T.dim)
  A = algebra o L T over.of_elements assoc one is_one

  abbrev B : Basis (module_of A) T.dim
  B = table_basis o L T over.of_elements assoc one is_one

  -- the combinations of the rows are member i of the chain
  pub record SpansMember (i : ℕ) (rows : List (List E)) : Type 0 where
    pub shape : IsMatrix o T.dim rows
    pub inside : (x : Tuple o T.dim) → rows_of.InSpan o T.dim rows x.0 → Chain lift A T.dim B i x
    pub spans : (x : Tuple o T.dim) → Chain lift A T.dim B i x → rows_of.InSpan o T.dim rows x.0

  -- the sum of the products of the items of row s and of w is an element y whose p^i-th power is the residue of the
  -- trace of the p^i-th power of a lift of the row over p^i
  abbrev pub HasRootAt : (i : ℕ) (rows : List (List E)) → IsMatrix o T.dim rows → List E → ℕ → Type 0
  HasRootAt i rows shape w s = (y : Elem o)
      × (y.0 ≡ sum_of o T.dim (λ j. o.mul (entry o rows s j) (at o w j)))
      × TraceResidue lift A T.dim B i (row o L T.dim rows shape s) (power K.ring y (p ^ i))

  -- row j of the matrix has the sums of the products of the items of w and of b_i·b_j, for all i
  abbrev pub IsFormOf : List E → List (List E) → Type 0
  IsFormOf w form = (i j : ℕ) → i < T.dim → j < T.dim
      → entry o form j i ≡ sum_of o T.dim
      (λ k. o.mul (at o w k) (at o (product o T.dim T.constants (basis o T.dim i) (basis o T.dim j)) k))

  pub record MembersByRows : Type 0 where
    pub first : (rows : List (List E)) → IsMatrix o T.dim rows
        → rows_of.SpansKernel o T.dim T.dim (trace_matrix o T) rows → SpansMember 1 rows
    pub next : (i : ℕ) → i < n → (rows : List (List E)) (h : SpansMember i rows) (w : List E) → IsTuple o T.dim w
        → ((s : ℕ) → s < length rows → HasRootAt i rows h.shape w s)
        → (form : List (List E)) → IsFormOf w form
        → (kernel new : List (List E)) → rows_of.SpansKernel o T.dim T.dim form kernel
        → rows_of.SpansMeet o T.dim new rows kernel → IsMatrix o T.dim new → SpansMember (suc i) new
    pub stop : (i : ℕ) (rows : List (List E)) → SpansMember i rows → PowerVanishes o T rows → SpansRadical o T rows
    pub last : T.dim < p ^ n → (rows : List (List E)) → SpansMember n rows → SpansRadical o T rows

abbrev pub MembersByRowsLaw : {E W : Type 0} (o : Ops E) (L : FieldLaws o) {p n : ℕ}
    → LiftRingOn (elements o L) p n W → Type 0
MembersByRowsLaw {E} o L {p} lift = IsPrime p → (T : Structure E) (over : IsOver o T) (assoc : IsAssociative o T)
    (one : List E) (is_one : IsIdentity o T one) → MembersByRows o L T over assoc one is_one lift
