-- Lagrange's interpolation at a solution of z^q = z: idempotents on which z is a scalar.
-- (Lidl and Niederreiter, Finite Fields, section 1.4; Rónyai, Computing the structure of finite algebras, 1990.)
use Rattle.std.specs.Prelude.{◌≡◌, ℕ, ◌<◌, cond, eqb}
use Rattle.theory_rings.specs.Ring.{FieldOn}
use Rattle.theory_rings.specs.Sum.{sum}
use Rattle.theory_rings.specs.Enumerated.{Enumerated}
use Rattle.theory_spaces.specs.Module.{AlgebraOn, module_of}
use Rattle.theory_spaces.specs.Linear.{comb}
use Rattle.theory_radical.specs.Ideal.{product}
use Rattle.theory_blocks.specs.FixedPoints.{IsFixed, IsScalar}
use Rattle.theory_blocks.specs.Splitting.{less_scalar}

module _ {K V : Type 0} (F : FieldOn K) (E : Enumerated K) (A : AlgebraOn F.ring V) where
  -- (z − d)/(c − d), where c and d have the numbers k and j; 1 where they are one
  abbrev pub lagrange_factor : V → ℕ → ℕ → V
  lagrange_factor z k j =
      cond (eqb j k) A.one (A.◌•◌ (F.inv (F.◌⊕◌ (E.member k) (F.neg (E.member j)))) (less_scalar A z (E.member j)))

  -- the product of (z − d)/(c − d) over the elements d of the field other than c, where c has the number k
  abbrev pub lagrange : V → ℕ → V
  lagrange z k = product A.ring (lagrange_factor z k) E.size

  -- these are orthogonal idempotents with the sum 1; z is the scalar c on each, and the sum of their multiples by c
  pub record LagrangeSplits (z : V) : Type 0 where
    pub idempotent : (k : ℕ) → k < E.size → A.◌⊗◌ (lagrange z k) (lagrange z k) ≡ lagrange z k
    pub orthogonal : (k l : ℕ) → k < E.size → l < E.size → (k ≡ l → ⊥) → A.◌⊗◌ (lagrange z k) (lagrange z l) ≡ A.zero
    pub sum_to_one : sum A.monoid E.size (lagrange z) ≡ A.one
    pub scalar_on : (k : ℕ) → k < E.size → A.◌⊗◌ z (lagrange z k) ≡ A.◌•◌ (E.member k) (lagrange z k)
    pub combines : z ≡ comb (module_of A) E.size E.member (lagrange z)

  -- so it is wherever z^q = z
  abbrev pub LagrangeIdempotents : Type 0
  LagrangeIdempotents = (z : V) → IsFixed A.ring E.size z → LagrangeSplits z

  -- where z is no multiple of one, one of them is neither 0 nor 1
  pub record SplitIdempotent (z : V) : Type 0 where
    pub place : ℕ
    pub within : place < E.size
    pub not_zero : lagrange z place ≡ A.zero → ⊥
    pub not_one : lagrange z place ≡ A.one → ⊥

  abbrev pub SplitIdempotentsExist : Type 0
  SplitIdempotentsExist = (z : V) → IsFixed A.ring E.size z → (IsScalar A z → ⊥) → SplitIdempotent z
