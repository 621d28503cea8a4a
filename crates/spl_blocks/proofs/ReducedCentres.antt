-- 0 alone among the central elements has the q-th power 0, over a field of q elements, exactly where 0 alone solves the
-- equations of z^q = 0 for a basis of the centre.
use Rattle.std.specs.Prelude.{◌≡◌, ◌↔◌, ◌≤◌, ◌<◌, ◌^◌, ℕ, List, length}
use Rattle.std.proofs.Common.{sym, ◌∙◌, ap, subst, ⊎_elim, arith}
use Rattle.std.proofs.lemmas.Bool.{cases_lt}
use Rattle.theory_rings.specs.Ring.{FieldOn}
use Rattle.theory_rings.specs.Ops.{Ops, FieldLaws}
use Rattle.theory_rings.specs.Elements.{Elem}
use Rattle.theory_rings.specs.Prime.{IsPrime}
use Rattle.theory_rings.specs.Power.{power, times}
use Rattle.theory_rings.specs.Enumerated.{Enumerated}
use Rattle.theory_spaces.specs.Module.{ModuleOn, AlgebraOn}
use Rattle.theory_spaces.specs.Linear.{comb, Independent}
use Rattle.theory_spaces.specs.Tuples.{Tuple, tuple_zero}
use Rattle.theory_spaces.proofs.Linear.IndependentVectors.{Independent-ne-zero}
use Rattle.theory_spaces.proofs.Linear.Modules.{map-zero, InSpan-member}
use Rattle.theory_spaces.proofs.Tuples.Tuples.{tuples}
use Rattle.theory_tables.specs.Subspace.{IsReducedBasis, SpansKernel}
use Rattle.theory_tables.specs.Structure.{Structure}
use Rattle.theory_tables.proofs.Algebras.Bridge.{IsTuple-of, row, to_span, from_span, to_independent}
use Rattle.theory_blocks.proofs.Commutative.FixedPoints.{size_pos}
use Rattle.spl_matrix.proofs.ReducedBases.{reduced_basis_is_independent}
use Rattle.spl_algebra.specs.Subspaces.{SpansCentre}
use Rattle.spl_blocks.specs.Blocks.{IsUnital}
use Rattle.spl_blocks.specs.Fixed.{power_in, nilpotent_equations}
use Rattle.spl_blocks.specs.Ranks.{HasReducedCentre}
use Rattle.spl_blocks.proofs.Tables.{V, K, A, A_is, M, V-path, tuple, power-is, from_is_central, central_of}
use Rattle.spl_blocks.proofs.FixedWeights as weights

module _ {E : Type 0} (o : Ops E) (L : FieldLaws o) (T : Structure E) (u : IsUnital o T) (N : Enumerated (Elem o))
    (p e : ℕ) (prime : IsPrime p) (char : times (K o L T u).monoid p (K o L T u).one ≡ (K o L T u).zero)
    (size : N.size ≡ p ^ e) (centre : List (List E)) (basis : IsReducedBasis o T.dim centre)
    (members : SpansCentre o T centre) (kernel : List (List E)) (kbasis : IsReducedBasis o (length centre) kernel)
    (spans : SpansKernel o T.dim (length centre) (nilpotent_equations o T N.size centre) kernel) where
  abbrev F : FieldOn (Elem o)
  F = K o L T u

  abbrev q : ℕ
  q = N.size

  abbrev r : ℕ
  r = length centre

  abbrev B : AlgebraOn F.ring (V o L T u)
  B = A o L T u

  abbrev X : ModuleOn F.ring (V o L T u)
  X = M o L T u

  abbrev Y : ModuleOn F.ring (Tuple o r)
  Y = tuples o L r

  abbrev G : Tuple o r → V o L T u
  G = weights.G o L T u N p e prime char size centre basis.shape members

  abbrev W : ℕ → Tuple o r
  W = row o L r kernel kbasis.shape

  W_independent : Independent Y (length kernel) W
  W_independent = to_independent o L r kernel kbasis.shape (reduced_basis_is_independent o L r kernel kbasis)

  -- the power by lists is 0 exactly where that of the algebra is
  null_up : (x : V o L T u) → power_in o T x.0 q ≡ tuple_zero o T.dim → power B.ring x q ≡ B.zero
  null_up x h = let is = A_is o L T u in
      V-path o L T u (power B.ring x q) B.zero (power-is o L T u x q (size_pos F N B) ∙ h ∙ sym is.zero-is)

  null_down : (x : V o L T u) → power B.ring x q ≡ B.zero → power_in o T x.0 q ≡ tuple_zero o T.dim
  null_down x h = let is = A_is o L T u in
      sym (power-is o L T u x q (size_pos F N B)) ∙ ap (λ (y : V o L T u). y.0) h ∙ is.zero-is

  -- where no weights but 0 solve the equations
  reduced : length kernel ≡ 0 → HasReducedCentre o q T
  reduced none a ca s =
      let is = A_is o L T u in
      let x : V o L T u = tuple o L T u a ca.tuple in
      let zx = from_is_central o L T u x ca in
      let w = weights.G-make o L T u N p e prime char size centre basis.shape members x zx in
      let k = weights.nilpotent_iff o L T u N p e prime char size centre basis.shape members w.0 in
      let killed = k.1 (ap (λ y. power B.ring y q) (sym w.1) ∙ null_up x s) in
      let c = to_span o L r kernel kbasis.shape w.0 ((spans w.0.0 (IsTuple-of o L r w.0)).1 killed) in
      let zero_w : w.0 ≡ Y.zero = subst (λ n. w.0 ≡ comb Y n c.weights W) none c.combines in
      ap (λ (y : V o L T u). y.0) (w.1 ∙ ap G zero_w
      ∙ map-zero Y X G (weights.G_linear o L T u N p e prime char size centre basis.shape members))
      ∙ is.zero-is

  -- a row of the kernel is the weights of a central element but 0 with the q-th power 0
  none_reduced : 0 < length kernel → HasReducedCentre o q T → ⊥
  none_reduced l h =
      let is = A_is o L T u in
      let x = G (W 0) in
      let k = weights.nilpotent_iff o L T u N p e prime char size centre basis.shape members (W 0) in
      let null = k.0 ((spans (W 0).0 (IsTuple-of o L r (W 0))).0
      (from_span o L r kernel kbasis.shape (W 0) (InSpan-member Y (length kernel) 0 W l))) in
      let central = weights.G_central o L T u N p e prime char size centre basis.shape members (W 0) in
      let zero_x : x ≡ B.zero =
      V-path o L T u x B.zero (h x.0 (central_of o L T u x central) (null_down x null) ∙ sym is.zero-is) in
      Independent-ne-zero Y F.one-nonzero (length kernel) W W_independent 0 l
      (weights.G_faithful o L T u N p e prime char size centre basis.shape members basis (W 0) zero_x)

  pub reduced_iff : (length kernel ≡ 0) ↔ HasReducedCentre o q T
  reduced_iff = (
    reduced,
    λ h. ⊎_elim
        (λ (l : 0 < length kernel). absurd (none_reduced l h))
        (λ (l : length kernel ≤ 0). let e : length kernel ≡ 0 = omega (arith, l) in e)
        (cases_lt 0 (length kernel)),
  )
