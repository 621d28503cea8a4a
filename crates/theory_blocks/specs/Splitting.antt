-- What a solution of z^q = z splits in an algebra over a field of q elements.
-- (Berlekamp, Factoring polynomials over finite fields, 1967; Lidl and Niederreiter, Finite Fields, section 4.1.)
use Rattle.std.specs.Prelude.{◌≡◌}
use Rattle.theory_rings.specs.Ring.{RingOn, FieldOn}
use Rattle.theory_rings.specs.Enumerated.{Enumerated}
use Rattle.theory_spaces.specs.Module.{AlgebraOn}
use Rattle.theory_radical.specs.Ideal.{product}
use Rattle.theory_blocks.specs.FixedPoints.{IsFixed, IsScalar}

-- z − c·1
abbrev pub less_scalar : {K V : Type 0} {R : RingOn K} → AlgebraOn R V → V → K → V
less_scalar A z c = A.◌⊕◌ z (A.neg (A.◌•◌ c A.one))

-- x is not 0, and a product x·y with y not 0 is
pub record IsZeroDivisor {V : Type 0} (R : RingOn V) (x : V) : Type 0 where
  pub not_zero : x ≡ R.zero → ⊥
  pub cofactor : V
  pub cofactor_not_zero : cofactor ≡ R.zero → ⊥
  pub vanishes : R.◌⊗◌ x cofactor ≡ R.zero

module _ {K V : Type 0} (F : FieldOn K) (E : Enumerated K) (A : AlgebraOn F.ring V) where
  -- where z^q = z, the product of z − c over the q elements c of the field is 0
  abbrev pub ScalarFactorsVanish : Type 0
  ScalarFactorsVanish = (z : V) → IsFixed A.ring E.size z
      → product A.ring (λ i. less_scalar A z (E.member i)) E.size ≡ A.zero

  -- where z^q = z and z is no multiple of one, some z − c is a zero divisor
  abbrev pub ZeroDivisorsExist : Type 0
  ZeroDivisorsExist = (z : V) → IsFixed A.ring E.size z → (IsScalar A z → ⊥) → (c : K)
      × IsZeroDivisor A.ring (less_scalar A z c)
