-- Over a field with p-th roots the p^i-th root of the residue is a linear functional on member i of the chain, i below
-- n, and the next member is the kernel of functionals.
use Rattle.std.specs.Prelude.{◌≡◌, ℕ, zero, suc, ◌^◌, ◌<◌}
use Rattle.std.proofs.Common.{sym, ◌∙◌, ap, ap₂}
use Rattle.std.proofs.Math.Nat.{pow-zero, pow-suc}
use Rattle.theory_rings.specs.Ring.{FieldOn}
use Rattle.theory_rings.specs.Sum.{sum}
use Rattle.theory_rings.specs.Power.{power, times}
use Rattle.theory_rings.specs.Prime.{IsPrime}
use Rattle.theory_rings.proofs.Sums.Sums.{sum_congr}
use Rattle.theory_rings.proofs.Powers.Powers.{power_first, power-zero, power-mul, power-power, power_only_zero}
use Rattle.theory_rings.proofs.Powers.FrobeniusMap.{frobenius_injective, frobenius_iterate-add, frobenius_iterate-sum}
use Rattle.theory_spaces.specs.Module.{AlgebraOn, module_of}
use Rattle.theory_spaces.specs.Linear.{Basis}
use Rattle.theory_radical.specs.LiftRing.{LiftRingOn, HasRoots}
use Rattle.theory_radical.specs.Chain.{Vanishes, Chain}
use Rattle.theory_radical.specs.Functional.{NextFunctional, LinearEquations}
use Rattle.theory_radical.proofs.Words.Orbits.{pow_pos}
use Rattle.theory_radical.proofs.Chain.AlgebraChain.{in_chain, chain_in, val_vanishes, vanishes_val}
use Rattle.theory_radical.proofs.Chain.TraceResidues.{residue, residue_is, residue-add, residue-scale}
use Rattle.theory_radical.proofs.Chain.TraceResidues.{vanishes_of_residue, residue_of_vanishes, next_of_residues}
use Rattle.theory_radical.proofs.Chain.TraceResidues.{residue_equations}

module _ {K : Type 0} (F : FieldOn K) (p : ℕ) where
  open F use {ring}

  power_pow-suc : (x : K) (i : ℕ) → power ring x (p ^ suc i) ≡ power ring (power ring x (p ^ i)) p
  power_pow-suc x i = ap (power ring x) (pow-suc p i) ∙ sym (power-power ring x (p ^ i) p)

  power_pow-zero : (x : K) → power ring x (p ^ 0) ≡ x
  power_pow-zero x = ap (power ring x) (pow-zero p) ∙ power_first ring x

  -- powers by p^i tell elements apart
  pub power_pow_injective : IsPrime p → times F.monoid p F.one ≡ F.zero → (i : ℕ) (x y : K)
      → power ring x (p ^ i) ≡ power ring y (p ^ i) → x ≡ y
  power_pow_injective prime char zero x y e = sym (power_pow-zero x) ∙ e ∙ power_pow-zero y
  power_pow_injective prime char (suc i) x y e = power_pow_injective prime char i x y
      (frobenius_injective F p prime char (power ring x (p ^ i)) (power ring y (p ^ i))
      (sym (power_pow-suc x i) ∙ e ∙ power_pow-suc y i))

  -- p^i-th roots
  abbrev pub iterated_root : HasRoots F.ring p → ℕ → K → K
  iterated_root R zero x = x
  iterated_root R (suc i) x = iterated_root R i (R.root x)

  pub power-iterated_root : (R : HasRoots F.ring p) (i : ℕ) (x : K) → power ring (iterated_root R i x) (p ^ i) ≡ x
  power-iterated_root R zero x = power_pow-zero x
  power-iterated_root R (suc i) x = power_pow-suc (iterated_root R i (R.root x)) i
      ∙ ap (λ z. power ring z p) (power-iterated_root R i (R.root x)) ∙ R.power-root x

module _ {K W V : Type 0} {F : FieldOn K} {p n : ℕ} (prime : IsPrime p) (L : LiftRingOn F p n W)
    (A : AlgebraOn F.ring V) (m : ℕ) (B : Basis (module_of A) m)
    (i : ℕ) (within : i < n) where
  infixl 65 ◌⊕◌
  infixl 70 ◌⊗◌
  infixl 70 ◌•◌
  open A use {◌⊕◌, ◌⊗◌, ◌•◌}

  abbrev q : ℕ
  q = p ^ i

  abbrev char : times F.monoid p F.one ≡ F.zero
  char = L.is_lift.characteristic

  -- linear equations by the roots of the residues
  pub linear_equations : LinearEquations L A m B i
  linear_equations k v members y given c =
      let h = residue_equations prime L A m B i within k v members (λ s j. power F.ring (y s j) q) given c in (
        λ x j l. power_only_zero F (sum F.monoid k (λ s. F.◌⊗◌ (c s) (y s j))) q (sym (whole j) ∙ h.0 x j l),
        λ e. h.1 (λ j l. whole j ∙ ap (λ z. power F.ring z q) (e j l) ∙ power-zero F.ring q (pow_pos p prime i)),
      )
    where
      whole : (j : ℕ) → sum F.monoid k (λ s. F.◌⊗◌ (power F.ring (c s) q) (power F.ring (y s j) q)) ≡ power F.ring
          (sum F.monoid k (λ s. F.◌⊗◌ (c s) (y s j))) q
      whole j =
          sum_congr F.monoid k (λ s. F.◌⊗◌ (power F.ring (c s) q) (power F.ring (y s j) q))
          (λ s. power F.ring (F.◌⊗◌ (c s) (y s j)) q)
          (λ s _. sym (power-mul F.ring (c s) (y s j) (F.mul_comm (c s) (y s j)) q))
          ∙ sym (frobenius_iterate-sum F.cring p prime char i k (λ s. F.◌⊗◌ (c s) (y s j)))

  module _ (R : HasRoots F.ring p) where
    abbrev functional : (x : V) → Chain L A m B i x → K
    functional x h = iterated_root F p R i (residue prime L A m B i within x (in_chain prime L A m B i x h))

    power-functional : (x : V) (h : Chain L A m B i x)
        → power F.ring (functional x h) q ≡ residue prime L A m B i within x (in_chain prime L A m B i x h)
    power-functional x h = power-iterated_root F p R i (residue prime L A m B i within x (in_chain prime L A m B i x h))

    kernel_vanishes : (x : V) (h : Chain L A m B i x) → functional x h ≡ F.zero → Vanishes L A m B i x
    kernel_vanishes x h e =
        vanishes_val prime L A m B i x (vanishes_of_residue prime L A m B i within x (in_chain prime L A m B i x h)
        (sym (power-functional x h) ∙ ap (λ z. power F.ring z q) e ∙ power-zero F.ring q (pow_pos p prime i)))

    vanishes_kernel : (x : V) (h : Chain L A m B i x) → Vanishes L A m B i x → functional x h ≡ F.zero
    vanishes_kernel x h v = power_only_zero F (functional x h) q
        (power-functional x h
        ∙ residue_of_vanishes prime L A m B i within x (in_chain prime L A m B i x h)
        (val_vanishes prime L A m B i x v))

    pub next_functional : NextFunctional L A m B i
    next_functional = record {
      functional = functional;
      power-functional = λ x h r t. power-functional x h
          ∙ residue_is prime L A m B i within x (in_chain prime L A m B i x h) r t;
      map-add = λ x y h g s.
          power_pow_injective F p prime char i (functional (x ⊕ y) s) (F.◌⊕◌ (functional x h) (functional y g))
          (power-functional (x ⊕ y) s
          ∙ residue-add prime L A m B i within x y (in_chain prime L A m B i x h) (in_chain prime L A m B i y g)
          (in_chain prime L A m B i (x ⊕ y) s)
          ∙ sym (frobenius_iterate-add F.cring p prime char i (functional x h) (functional y g)
          ∙ ap₂ F.◌⊕◌ (power-functional x h) (power-functional y g)));
      map-scale = λ c x h s. power_pow_injective F p prime char i (functional (c • x) s) (F.◌⊗◌ c (functional x h))
          (power-functional (c • x) s
          ∙ residue-scale prime L A m B i within c x (in_chain prime L A m B i x h) (in_chain prime L A m B i (c • x) s)
          ∙ sym (power-mul F.ring c (functional x h) (F.mul_comm c (functional x h)) q
          ∙ ap (F.◌⊗◌ (power F.ring c q)) (power-functional x h)));
      kernel = λ x h. (kernel_vanishes x h, vanishes_kernel x h);
      next = λ x h. (
        λ s j l g. vanishes_kernel (x ⊗ B.vec j) g (s.1 (B.vec j)),
        λ z. chain_in prime L A m B (suc i) x
            (next_of_residues prime L A m B i within x (in_chain prime L A m B i x h) (λ j l g.
            residue_of_vanishes prime L A m B i within (x ⊗ B.vec j) g
            (val_vanishes prime L A m B i (x ⊗ B.vec j)
            (kernel_vanishes (x ⊗ B.vec j) (chain_in prime L A m B i (x ⊗ B.vec j) g)
            (z j l (chain_in prime L A m B i (x ⊗ B.vec j) g)))))),
      );
    }
