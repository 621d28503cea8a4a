-- An algebra over a field, lifted: matrices over the lift ring that reduce to the multiplications by its elements, the
-- traces of their powers, and the chain of ideals that these traces define. (Rónyai, Computing the structure of finite
-- algebras; Ivanyos, Rónyai and Szántó, Decomposition of algebras over F_q(X_1, .., X_m).)
use Rattle.std.specs.Prelude.{◌≡◌, ℕ, zero, suc, ◌^◌, ◌<◌}
use Rattle.theory_rings.specs.Ring.{RingOn, FieldOn}
use Rattle.theory_rings.specs.Power.{power_by_ops}
use Rattle.theory_spaces.specs.Module.{AlgebraOn, module_of}
use Rattle.theory_spaces.specs.Linear.{Basis}
use Rattle.theory_spaces.specs.Matrix.{Matrix, mat_mul, delta, mat_trace}
use Rattle.theory_radical.specs.Congruence.{MultipleOf}
use Rattle.theory_radical.specs.LiftRing.{LiftRingOn}

-- the powers of an m by m matrix
abbrev pub mat_power : {K : Type 0} → RingOn K → ℕ → Matrix K → ℕ → Matrix K
mat_power R m N k = power_by_ops (delta R) (mat_mul R m) N k

module _ {K W V : Type 0} {F : FieldOn K} {p n : ℕ} (L : LiftRingOn F p n W) (A : AlgebraOn F.ring V) (m : ℕ)
    (B : Basis (module_of A) m) where
  -- N reduces to the matrix of the multiplication by x from the left
  abbrev pub IsLift : V → Matrix W → Type 0
  IsLift x N = (i j : ℕ) → i < m → j < m → L.down (N i j) ≡ B.coord (A.◌⊗◌ x (B.vec j)) i

  -- the trace of the p^i-th power of N
  abbrev pub trace_power : ℕ → Matrix W → W
  trace_power i N = mat_trace L.ring.ring m (mat_power L.ring.ring m N (p ^ i))

  -- the trace of the p^i-th power of a lift of x is 0 modulo p^(i + 1)
  abbrev pub Vanishes : ℕ → V → Type 0
  Vanishes i x = (N : Matrix W) → IsLift x N → MultipleOf L.ring.monoid (p ^ suc i) (trace_power i N)

  -- the chain begins with the whole algebra. Member i + 1 is those x of member i for which this trace is 0 for x and
  -- all its multiples from the right
  abbrev pub Chain : ℕ → V → Type 0
  Chain zero x = Unit {0}
  Chain (suc i) x = Chain i x × ((c : V) → Vanishes i (A.◌⊗◌ x c))
