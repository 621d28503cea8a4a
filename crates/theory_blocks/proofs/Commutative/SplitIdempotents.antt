-- Where z^q = z and z is no multiple of one, one of Lagrange's idempotents is neither 0 nor 1: z is the scalar c on the
-- one of c, so that none of them is 1; and they are not all 0, since z is a combination of them.
use Rattle.std.specs.Prelude.{◌≡◌, ℕ, ◌<◌}
use Rattle.std.proofs.Common.{sym, ◌∙◌, ap, ⊎_elim}
use Rattle.theory_rings.specs.Ring.{FieldOn}
use Rattle.theory_rings.specs.Enumerated.{Enumerated}
use Rattle.theory_rings.proofs.Sums.Sums.{sum_eq_zero}
use Rattle.theory_spaces.specs.Module.{AlgebraOn, module_of}
use Rattle.theory_spaces.specs.Linear.{Basis}
use Rattle.theory_spaces.proofs.Linear.Modules.{zero-scale, scale-zero}
use Rattle.theory_blocks.specs.FixedPoints.{IsScalar}
use Rattle.theory_blocks.specs.Lagrange.{lagrange, LagrangeSplits, SplitIdempotentsExist}
use Rattle.theory_blocks.proofs.Families.Decisions.{other_or_all, vector_eq_zero_or}
use Rattle.theory_blocks.proofs.Commutative.Lagrange.{lagrange_idempotents}

module _ {K V : Type 0} (F : FieldOn K) (E : Enumerated K) (A : AlgebraOn F.ring V) (z : V)
    (s : LagrangeSplits F E A z) where
  abbrev e : ℕ → V
  e = lagrange F E A z

  scalar_of_one : (k : ℕ) → k < E.size → e k ≡ A.one → IsScalar A z
  scalar_of_one k l h = record {
    scalar = E.member k;
    is_multiple = sym (A.mul-one z) ∙ ap (λ y. A.◌⊗◌ z y) (sym h) ∙ s.scalar_on k l ∙ ap (λ y. A.◌•◌ (E.member k) y) h;
  }

  scalar_of_none : ((k : ℕ) → k < E.size → e k ≡ A.zero) → IsScalar A z
  scalar_of_none h = record {
    scalar = F.zero;
    is_multiple = s.combines
        ∙ sum_eq_zero A.monoid E.size (λ k. A.◌•◌ (E.member k) (e k))
        (λ k l. ap (λ y. A.◌•◌ (E.member k) y) (h k l) ∙ scale-zero (module_of A) (E.member k))
        ∙ sym (zero-scale (module_of A) A.one);
  }

module _ {K V : Type 0} (F : FieldOn K) (E : Enumerated K) (A : AlgebraOn F.ring V) where
  pub split_idempotent : (m : ℕ) → Basis (module_of A) m → SplitIdempotentsExist F E A
  split_idempotent m B z fixed free =
      let s = lagrange_idempotents F E A z fixed in
      ⊎_elim
      (λ (p : (k : ℕ) × (k < E.size) × (lagrange F E A z k ≡ A.zero → ⊥)). record {
        place = p.0;
        within = p.1;
        not_zero = p.2;
        not_one = λ h. free (scalar_of_one F E A z s p.0 p.1 h);
      })
      (λ (h : (k : ℕ) → k < E.size → lagrange F E A z k ≡ A.zero). absurd (free (scalar_of_none F E A z s h)))
      (other_or_all A.zero (vector_eq_zero_or F (module_of A) m B) E.size (lagrange F E A z))
