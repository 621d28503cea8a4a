-- Roots of the residues at rows of a member of the chain, from one lift of each row.
use Rattle.std.specs.Prelude.{◌≡◌, ℕ, ◌^◌, ◌<◌, List, [], length, get_or}
use Rattle.std.proofs.Common.{sym, ◌∙◌, ap, subst}
use Rattle.theory_rings.specs.Ring.{FieldOn}
use Rattle.theory_rings.specs.Ops.{Ops, FieldLaws}
use Rattle.theory_rings.specs.Elements.{Elem, Elem-path, elements}
use Rattle.theory_rings.specs.Power.{power, times}
use Rattle.theory_rings.specs.Prime.{IsPrime}
use Rattle.theory_rings.specs.Sum.{sum_of, at}
use Rattle.theory_spaces.specs.Module.{AlgebraOn, module_of}
use Rattle.theory_spaces.specs.Linear.{Basis}
use Rattle.theory_spaces.specs.Matrix.{Matrix}
use Rattle.theory_spaces.specs.Tuples.{Tuple, basis, product}
use Rattle.theory_radical.specs.LiftRing.{LiftRingOn}
use Rattle.theory_radical.specs.Chain.{IsLift, trace_power}
use Rattle.theory_radical.proofs.Chain.ChainLaws.{additive_on_chain}
use Rattle.theory_tables.specs.Matrix.{entry}
use Rattle.theory_tables.specs.Subspace as rows_of
use Rattle.theory_tables.specs.Structure.{Structure, IsAssociative}
use Rattle.theory_tables.specs.Structure as structures
use Rattle.theory_tables.specs.Algebras.{IsIdentity}
use Rattle.theory_tables.proofs.Algebras.Bridge.{algebra, algebra_is, table_basis, coord-is, vec-is, row, row-is}
use Rattle.theory_tables.proofs.Rows.Spans.{InSpan-member}
use Rattle.theory_chains.specs.Members.{SpansMember, HasRootAt}

module _ {E : Type 0} (o : Ops E) (L : FieldLaws o) (T : Structure E) (over : structures.IsOver o T)
    (assoc : IsAssociative o T) (one : List E) (is_one : IsIdentity o T one)
    {W : Type 0} {p n : ℕ} (prime : IsPrime p) (lift : LiftRingOn (elements o L) p n W) where
  abbrev K : FieldOn (Elem o)
  K = elements o L

  abbrev m : ℕ
  m = T.dim

  abbrev A : AlgebraOn K.ring (Tuple o m)
  A = algebra o L T over.of_elements assoc one is_one

  abbrev B : Basis (module_of A) m
  B = table_basis o L T over.of_elements assoc one is_one

  -- entry by entry: coordinate a of the product with the basis element j
  abbrev pub LiftsProducts : List E → Matrix W → Type 0
  LiftsProducts x N = (a j : ℕ) → a < m → j < m
      → (lift.down (N a j)).0 ≡ at o (product o m T.constants x (basis o m j)) a

  lift_of_products : (x : Tuple o m) (y : List E) → x.0 ≡ y → (N : Matrix W) → LiftsProducts y N
      → IsLift lift A m B x N
  lift_of_products x y e N h a j la lj =
      let c = B.coord (A.◌⊗◌ x (B.vec j)) a in
      Elem-path o (lift.down (N a j)) c (h a j la lj
      ∙ ap (λ xs. at o (product o m T.constants xs (basis o m j)) a) (sym e)
      ∙ sym (coord-is o L T over.of_elements assoc one is_one (A.◌⊗◌ x (B.vec j)) a la
      ∙ ap (λ xs. at o xs a) ((let t = algebra_is o L T over.of_elements assoc one is_one in t.product-is x (B.vec j))
      ∙ ap (product o m T.constants x.0) (vec-is o L T over.of_elements assoc one is_one j))))

  -- a root of what is the residue of each quotient of the trace
  pub root_by_lift : (i : ℕ) (rows : List (List E))
      (h : SpansMember o L T over assoc one is_one lift i rows) (w : List E) (s : ℕ) → s < length rows
      → (N : Matrix W) → LiftsProducts (get_or rows s []) N
      → (y : Elem o) → y.0 ≡ sum_of o m (λ j. o.mul (entry o rows s j) (at o w j))
      → ((q : W) → trace_power lift A m B i N ≡ times lift.ring.monoid (p ^ i) q
      → lift.down q ≡ power K.ring y (p ^ i))
      → HasRootAt o L T over assoc one is_one lift i rows h.shape w s
  root_by_lift i rows h w s l N products y e root =
      let x = row o L m rows h.shape s in
      let is = row-is o L m rows h.shape s l in
      let is_lift = lift_of_products x (get_or rows s []) is N products in
      let P : List E → Type 0 = rows_of.InSpan o m rows in
      let member = h.inside x (subst P (sym is) (InSpan-member o L m rows h.shape s l)) in
      let chain = additive_on_chain prime lift A m B in
      let q = chain.multiple i x member N is_lift in (
        y,
        e,
        record { lift = N; is_lift = is_lift; quotient = q.part; divides = q.is; residue = root q.part q.is },
      )
