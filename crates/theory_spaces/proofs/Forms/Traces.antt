-- The regular trace of an algebra with a one, as that of its product alone: linear, the same for both orders of a
-- product, and 0 at nilpotent elements.
use Rattle.std.specs.Prelude.{◌≡◌, ℕ, zero, suc}
use Rattle.std.proofs.Common.{sym, ◌∙◌, ap}
use Rattle.theory_rings.specs.Ring.{CommRingOn, FieldOn}
use Rattle.theory_rings.specs.Sum.{sum}
use Rattle.theory_rings.specs.Power.{power}
use Rattle.theory_rings.proofs.Rings.RingLaws.{mul-zero, additive-neg}
use Rattle.theory_spaces.specs.Module.{ModuleOn, AlgebraOn, module_of}
use Rattle.theory_spaces.specs.Linear.{comb, Basis}
use Rattle.theory_spaces.specs.Space.{product_on}
use Rattle.theory_spaces.specs.Algebra.{IsNilpotent, trace}
use Rattle.theory_spaces.proofs.Forms.ProductTraces.{product_trace_comm, product_trace-add, product_trace-scale}
use Rattle.theory_spaces.proofs.Forms.ProductTraces.{product_trace-zero, product_trace-comb, product_trace-nilpotent}
use Rattle.theory_spaces.proofs.Forms.ProductTraces.{next_power}

module _ {K V : Type 0} (C : CommRingOn K) (A : AlgebraOn C.ring V) (m : ℕ) (B : Basis (module_of A) m) where
  infixl 65 ◌⊕◌
  infixl 70 ◌⊗◌
  infixl 70 ◌•◌
  open A use {◌⊕◌, ◌⊗◌, ◌•◌}

  abbrev M : ModuleOn C.ring V
  M = module_of A

  abbrev tr : V → K
  tr = trace A m B

  -- tr(ab) = tr(ba)
  pub trace_comm : (a b : V) → tr (a ⊗ b) ≡ tr (b ⊗ a)
  trace_comm = product_trace_comm C M (product_on A) m B A.mul_assoc

  pub trace-add : (a b : V) → tr (a ⊕ b) ≡ C.◌⊕◌ (tr a) (tr b)
  trace-add = product_trace-add C M (product_on A) m B

  pub trace-scale : (c : K) (a : V) → tr (c • a) ≡ C.◌⊗◌ c (tr a)
  trace-scale = product_trace-scale C M (product_on A) m B

  pub trace-zero : tr A.zero ≡ C.zero
  trace-zero = product_trace-zero C M (product_on A) m B

  pub trace-neg : (x : V) → tr (A.neg x) ≡ C.neg (tr x)
  trace-neg = additive-neg A.additive C.additive tr trace-add

  pub trace-comb : (n : ℕ) (c : ℕ → K) (v : ℕ → V) → tr (comb M n c v) ≡ sum C.monoid n (λ i. C.◌⊗◌ (c i) (tr (v i)))
  trace-comb = product_trace-comb C M (product_on A) m B

  next_power-power : (a : V) (e : ℕ) → next_power C M (product_on A) m B A.mul_assoc a e ≡ power A.ring a (suc e)
  next_power-power a zero = sym (A.mul-one a)
  next_power-power a (suc e) = ap (λ y. a ⊗ y) (next_power-power a e)

-- a nilpotent element has trace 0
pub trace-nilpotent : {K V : Type 0} (F : FieldOn K) (A : AlgebraOn F.ring V) (m : ℕ) (B : Basis (module_of A) m)
    (a : V)
    → IsNilpotent A.ring a → trace A m B a ≡ F.zero
trace-nilpotent F A m B a h = product_trace-nilpotent F (module_of A) (product_on A) m B A.mul_assoc a h.exponent
    (next_power-power F.cring A m B a h.exponent ∙ ap (λ t. A.◌⊗◌ a t) h.vanishes ∙ mul-zero A.ring a)
