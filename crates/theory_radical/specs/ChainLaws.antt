-- What the traces of powers of lifts and the chain do.
use Rattle.std.specs.Prelude.{◌≡◌, ℕ, suc, ◌^◌, ◌<◌, ◌≤◌}
use Rattle.theory_rings.specs.Ring.{RingOn, CommRingOn, AddCommGroupOn, FieldOn}
use Rattle.theory_rings.specs.Power.{power, times}
use Rattle.theory_rings.specs.Prime.{IsPrime}
use Rattle.theory_spaces.specs.Module.{AlgebraOn, module_of}
use Rattle.theory_spaces.specs.Linear.{Basis}
use Rattle.theory_spaces.specs.Matrix.{Matrix, mat_trace}
use Rattle.theory_spaces.specs.Algebra.{IsNilpotent}
use Rattle.theory_radical.specs.Congruence.{MultipleOf, CongruentMod}
use Rattle.theory_radical.specs.Ideal.{IsIdeal, ProductsVanish, IsNilpotentIdeal, IsLargestNilpotentIdeal}
use Rattle.theory_radical.specs.LiftRing.{LiftRingOn, HasRoots}
use Rattle.theory_radical.specs.Chain.{mat_power, IsLift, trace_power, Vanishes, Chain}
use Rattle.theory_radical.specs.Functional.{ResidueOnChain, NextFunctional, ResidueEquations, LinearEquations}

-- in a ring with a trace: the p^i-th powers of elements that agree modulo p have traces that agree modulo p^(i + 1)
abbrev pub TracesOfPowers : {K V : Type 0} → RingOn K → AddCommGroupOn V → (K → V) → Type 0
TracesOfPowers R G t = (p : ℕ) → IsPrime p → (i : ℕ) (x y : _) → CongruentMod R.monoid p x y
    → CongruentMod G.monoid (p ^ suc i) (t (power R x (p ^ i))) (t (power R y (p ^ i)))

-- so have m by m matrices over a commutative ring whose entries agree modulo p
abbrev pub TracesOfMatrixPowers : {W : Type 0} → CommRingOn W → Type 0
TracesOfMatrixPowers C = (p : ℕ) → IsPrime p → (m i : ℕ) (M N : Matrix _)
    → ((a b : ℕ) → a < m → b < m → CongruentMod C.monoid p (M a b) (N a b))
    → CongruentMod C.monoid (p ^ suc i) (mat_trace C.ring m (mat_power C.ring m M (p ^ i)))
    (mat_trace C.ring m (mat_power C.ring m N (p ^ i)))

module _ {K W V : Type 0} {F : FieldOn K} {p n : ℕ} (L : LiftRingOn F p n W) (A : AlgebraOn F.ring V) (m : ℕ)
    (B : Basis (module_of A) m) where
  -- each element has a lift, and modulo p^(i + 1) the trace of the p^i-th power is the same for all of them
  pub record IndependentOfLift : Type 0 where
    pub lifts : (x : V) → (N : Matrix W) × IsLift L A m B x N
    pub same : (i : ℕ) (x : V) (M N : Matrix W) → IsLift L A m B x M → IsLift L A m B x N
        → CongruentMod L.ring.monoid (p ^ suc i) (trace_power L A m B i M) (trace_power L A m B i N)

  -- on member i of the chain the trace of the p^i-th power is a multiple of p^i and, modulo p^(i + 1), additive;
  -- everywhere a scalar comes out as its p^i-th power
  pub record AdditiveOnChain : Type 0 where
    pub multiple : (i : ℕ) (x : V) → Chain L A m B i x → (N : Matrix W) → IsLift L A m B x N
        → MultipleOf L.ring.monoid (p ^ i) (trace_power L A m B i N)
    pub additive : (i : ℕ) (x y : V) → Chain L A m B i x → Chain L A m B i y
        → (X Y Z : Matrix W) → IsLift L A m B x X → IsLift L A m B y Y → IsLift L A m B (A.◌⊕◌ x y) Z
        → CongruentMod L.ring.monoid (p ^ suc i) (trace_power L A m B i Z)
        (L.ring.◌⊕◌ (trace_power L A m B i X) (trace_power L A m B i Y))
    pub scale : (i : ℕ) (x : V) (c : W) (X Z : Matrix W) → IsLift L A m B x X → IsLift L A m B (A.◌•◌ (L.down c) x) Z
        → CongruentMod L.ring.monoid (p ^ suc i) (trace_power L A m B i Z)
        (L.ring.◌⊗◌ (power L.ring.ring c (p ^ i)) (trace_power L A m B i X))

  -- the traces of an idempotent are its rank, a number up to m that is 0 only for 0
  pub record IdempotentRank (e : V) : Type 0 where
    pub rank : ℕ
    pub rank_le : rank ≤ m
    pub none : rank ≡ 0 → e ≡ A.zero
    pub trace : (i : ℕ) (N : Matrix W) → IsLift L A m B e N
        → CongruentMod L.ring.monoid (p ^ suc i) (trace_power L A m B i N) (times L.ring.monoid rank L.ring.one)

  -- those of a nilpotent element are 0
  pub record TracesOfNilpotentsAndIdempotents : Type 0 where
    pub nilpotent : (i : ℕ) (x : V) → IsNilpotent A.ring x → Vanishes L A m B i x
    pub idempotent : (e : V) → A.◌⊗◌ e e ≡ e → IdempotentRank e

  -- each member of the chain is a two-sided ideal
  abbrev pub ChainOfIdeals : Type 0
  ChainOfIdeals = (i : ℕ) → IsIdeal A.ring (Chain L A m B i)

  -- each member holds each nilpotent ideal
  abbrev pub ChainHolds : (V → Type 0) → Type 0
  ChainHolds J = IsNilpotentIdeal A.ring J → (i : ℕ) (x : V) → J x → Chain L A m B i x

  -- a member that is nilpotent is the largest nilpotent ideal, and all later ones are the same
  pub record MayStop : Type 0 where
    pub largest : (i : ℕ) → IsNilpotentIdeal A.ring (Chain L A m B i) → IsLargestNilpotentIdeal A (Chain L A m B i)
    pub stays : (i : ℕ) → IsNilpotentIdeal A.ring (Chain L A m B i) → (j : ℕ) (x : V) → Chain L A m B i x
        → Chain L A m B j x

  -- member n is the largest nilpotent ideal, where the dimension m is below p^n, and products of m of its elements are
  -- 0
  pub record EndsInRadical : Type 0 where
    pub largest : m < p ^ n → IsLargestNilpotentIdeal A (Chain L A m B n)
    pub products : m < p ^ n → ProductsVanish A.ring (Chain L A m B n) m

  -- for i below n member i + 1 is given by equations, by linear ones where the residues have roots, and by a linear
  -- functional where all elements of the field have p-th roots
  pub record NextIsKernel : Type 0 where
    pub functional : HasRoots F.ring p → (i : ℕ) → i < n → NextFunctional L A m B i
    pub linear : (i : ℕ) → i < n → LinearEquations L A m B i
    pub equations : (i : ℕ) → i < n → ResidueEquations L A m B i
    pub residue : (i : ℕ) → i < n → ResidueOnChain L A m B i

  -- all of it, with J in the place of each nilpotent ideal
  pub record IsRadicalChain (J : V → Type 0) : Type 0 where
    pub independent : IndependentOfLift
    pub additive : AdditiveOnChain
    pub traces : TracesOfNilpotentsAndIdempotents
    pub ideals : ChainOfIdeals
    pub holds : ChainHolds J
    pub stop : MayStop
    pub ends : EndsInRadical
    pub next : NextIsKernel
