-- On member i of the chain the trace of the p^i-th power over p^i, modulo p, has p^i-th roots that are a linear
-- functional, and the next member is the kernel of functionals. (Rónyai, Computing the structure of finite algebras.)
use Rattle.std.specs.Prelude.{◌≡◌, ℕ, suc, ◌^◌, ◌<◌, ◌↔◌}
use Rattle.theory_rings.specs.Ring.{FieldOn}
use Rattle.theory_rings.specs.Sum.{sum}
use Rattle.theory_rings.specs.Power.{power, times}
use Rattle.theory_spaces.specs.Module.{AlgebraOn, module_of}
use Rattle.theory_spaces.specs.Linear.{comb, Basis}
use Rattle.theory_spaces.specs.Matrix.{Matrix}
use Rattle.theory_radical.specs.LiftRing.{LiftRingOn}
use Rattle.theory_radical.specs.Chain.{IsLift, trace_power, Vanishes, Chain}

module _ {K W V : Type 0} {F : FieldOn K} {p n : ℕ} (L : LiftRingOn F p n W) (A : AlgebraOn F.ring V) (m : ℕ)
    (B : Basis (module_of A) m) where
  -- r is the residue of the trace of the p^i-th power of a lift of x, over p^i
  pub record TraceResidue (i : ℕ) (x : V) (r : K) : Type 0 where
    pub lift : Matrix W
    pub is_lift : IsLift L A m B x lift
    pub quotient : W
    pub divides : trace_power L A m B i lift ≡ times L.ring.monoid (p ^ i) quotient
    pub residue : L.down quotient ≡ r

  -- on member i of the chain there is exactly one residue at each element. It is additive, takes a scalar out as its
  -- p^i-th power, and is 0 just where the trace vanishes
  pub record ResidueOnChain (i : ℕ) : Type 0 where
    pub residue : (x : V) → Chain L A m B i x → K
    pub is_residue : (x : V) (h : Chain L A m B i x) → TraceResidue i x (residue x h)
    pub unique : (x : V) (h : Chain L A m B i x) (r : K) → TraceResidue i x r → residue x h ≡ r
    pub map-add : (x y : V) (h : Chain L A m B i x) (g : Chain L A m B i y) (s : Chain L A m B i (A.◌⊕◌ x y))
        → residue (A.◌⊕◌ x y) s ≡ F.◌⊕◌ (residue x h) (residue y g)
    pub map-scale : (c : K) (x : V) (h : Chain L A m B i x) (s : Chain L A m B i (A.◌•◌ c x))
        → residue (A.◌•◌ c x) s ≡ F.◌⊗◌ (power F.ring c (p ^ i)) (residue x h)
    pub kernel : (x : V) (h : Chain L A m B i x) → (residue x h ≡ F.zero) ↔ Vanishes L A m B i x

  -- a linear functional on member i of the chain: its value at x is the p^i-th root of the residue. Its kernel is where
  -- the trace vanishes, and x lies in the next member just where the functional is 0 at the products of x and the
  -- vectors of a basis
  pub record NextFunctional (i : ℕ) : Type 0 where
    pub functional : (x : V) → Chain L A m B i x → K
    pub power-functional : (x : V) (h : Chain L A m B i x) (r : K) → TraceResidue i x r
        → power F.ring (functional x h) (p ^ i) ≡ r
    pub map-add : (x y : V) (h : Chain L A m B i x) (g : Chain L A m B i y) (s : Chain L A m B i (A.◌⊕◌ x y))
        → functional (A.◌⊕◌ x y) s ≡ F.◌⊕◌ (functional x h) (functional y g)
    pub map-scale : (c : K) (x : V) (h : Chain L A m B i x) (s : Chain L A m B i (A.◌•◌ c x))
        → functional (A.◌•◌ c x) s ≡ F.◌⊗◌ c (functional x h)
    pub kernel : (x : V) (h : Chain L A m B i x) → (functional x h ≡ F.zero) ↔ Vanishes L A m B i x
    pub next : (x : V) → Chain L A m B i x
        → Chain L A m B (suc i) x ↔
        ((j : ℕ) → j < m → (g : Chain L A m B i (A.◌⊗◌ x (B.vec j))) → functional (A.◌⊗◌ x (B.vec j)) g ≡ F.zero)

  -- which combinations of k elements v of member i lie in the next: those whose weights solve these equations, where
  -- the numbers r are the residues at the products of the elements and the vectors of a basis
  abbrev pub ResidueEquations : ℕ → Type 0
  ResidueEquations i = (k : ℕ) (v : ℕ → V) → ((s : ℕ) → s < k → Chain L A m B i (v s))
      → (r : ℕ → ℕ → K) → ((s j : ℕ) → s < k → j < m → TraceResidue i (A.◌⊗◌ (v s) (B.vec j)) (r s j)) → (c : ℕ → K)
      → Chain L A m B (suc i) (comb (module_of A) k c v) ↔
      ((j : ℕ) → j < m → sum F.monoid k (λ s. F.◌⊗◌ (power F.ring (c s) (p ^ i)) (r s j)) ≡ F.zero)

  -- the same by the p^i-th roots y of the residues: linear equations
  abbrev pub LinearEquations : ℕ → Type 0
  LinearEquations i = (k : ℕ) (v : ℕ → V) → ((s : ℕ) → s < k → Chain L A m B i (v s))
      → (y : ℕ → ℕ → K) → ((s j : ℕ) → s < k → j < m
      → TraceResidue i (A.◌⊗◌ (v s) (B.vec j)) (power F.ring (y s j) (p ^ i))) → (c : ℕ → K)
      → Chain L A m B (suc i) (comb (module_of A) k c v) ↔
      ((j : ℕ) → j < m → sum F.monoid k (λ s. F.◌⊗◌ (c s) (y s j)) ≡ F.zero)
