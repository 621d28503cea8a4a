-- Where z^q = z and z is no multiple of one, some z − c is a zero divisor: the first products of such factors are not
-- 0, and all together are.
use Rattle.std.specs.Prelude.{◌≡◌, ℕ, zero, suc, ◌⊎◌}
use Rattle.std.proofs.Common.{sym, ◌∙◌, ap, ⊎_elim}
use Rattle.theory_rings.specs.Ring.{FieldOn}
use Rattle.theory_rings.specs.Enumerated.{Enumerated}
use Rattle.theory_rings.proofs.Rings.RingLaws.{mul-zero}
use Rattle.theory_rings.proofs.Rings.ZeroTests.{eq_of_sub_eq_zero}
use Rattle.theory_spaces.specs.Module.{AlgebraOn, module_of}
use Rattle.theory_spaces.specs.Linear.{Basis}
use Rattle.theory_spaces.proofs.Linear.Modules.{zero-scale}
use Rattle.theory_blocks.specs.Splitting.{ZeroDivisorsExist}
use Rattle.theory_blocks.proofs.Families.Decisions.{vector_eq_zero_or}
use Rattle.theory_blocks.proofs.Commutative.Newton.{newton}
use Rattle.theory_blocks.proofs.Ideals.Annihilation.{factors_vanish}

module _ {K V : Type 0} (F : FieldOn K) (A : AlgebraOn F.ring V) (c : ℕ → K) (z : V) where
  record LastNonzero : Type 0 where
    pub place : ℕ
    pub nonzero : newton A c z place ≡ A.zero → ⊥
    pub next : newton A c z (suc place) ≡ A.zero

  last_nonzero : ((x : V) → (x ≡ A.zero) ⊎ (x ≡ A.zero → ⊥)) → (A.one ≡ A.zero → ⊥) → (n : ℕ)
      → newton A c z n ≡ A.zero → LastNonzero
  last_nonzero dec one zero e = absurd (one e)
  last_nonzero dec one (suc n) e = ⊎_elim
      (λ (h : newton A c z n ≡ A.zero). last_nonzero dec one n h)
      (λ (h : newton A c z n ≡ A.zero → ⊥). record { place = n; nonzero = h; next = e })
      (dec (newton A c z n))

module _ {K V : Type 0} (F : FieldOn K) (E : Enumerated K) (A : AlgebraOn F.ring V) where
  pub zero_divisors : (m : ℕ) → Basis (module_of A) m → ZeroDivisorsExist F E A
  zero_divisors m B z fixed free =
      let one : A.one ≡ A.zero → ⊥ = λ e. free (record {
        scalar = F.zero;
        is_multiple = sym (A.mul-one z) ∙ ap (λ y. A.◌⊗◌ z y) e ∙ mul-zero A.ring z
            ∙ sym (zero-scale (module_of A) A.one);
      }) in
      let p = last_nonzero F A E.member z (vector_eq_zero_or F (module_of A) m B) one E.size
      (factors_vanish F E A z fixed) in
      let a = E.member p.place in (
        a,
        record {
          not_zero = λ e. free (record { scalar = a; is_multiple = eq_of_sub_eq_zero A.additive z (A.◌•◌ a A.one) e });
          cofactor = newton A E.member z p.place;
          cofactor_not_zero = p.nonzero;
          vanishes = p.next;
        },
      )
