-- The maps from a set to a module, added and scaled value by value, as a module; the functions from the numbers to a
-- ring are a case of it.
use Rattle.std.specs.Prelude.{ℕ}
use Rattle.std.proofs.Math.Path.{fun_ext}
use Rattle.theory_rings.specs.Ring.{RingOn}
use Rattle.theory_spaces.specs.Module.{ModuleOn}

abbrev pub maps : {K W : Type 0} {R : RingOn K} (U : Type 0) → ModuleOn R W → ModuleOn R (U → W)
maps U M = record {
  additive = record {
    monoid = record {
      zero = λ u. M.zero;
      ◌⊕◌ = λ f g. λ u. M.◌⊕◌ (f u) (g u);
      add_assoc = λ f g h. fun_ext (λ u. M.add_assoc (f u) (g u) (h u));
      add_comm = λ f g. fun_ext (λ u. M.add_comm (f u) (g u));
      zero-add = λ f. fun_ext (λ u. M.zero-add (f u));
    };
    neg = λ f. λ u. M.neg (f u);
    neg-add = λ f. fun_ext (λ u. M.neg-add (f u));
  };
  scalars = record {
    ◌•◌ = λ a f. λ u. M.◌•◌ a (f u);
    scale-add = λ a f g. fun_ext (λ u. M.scale-add a (f u) (g u));
    add-scale = λ a b f. fun_ext (λ u. M.add-scale a b (f u));
    mul-scale = λ a b f. fun_ext (λ u. M.mul-scale a b (f u));
    one-scale = λ f. fun_ext (λ u. M.one-scale (f u));
  };
}

-- a ring as a module over itself
abbrev pub regular : {K : Type 0} → (R : RingOn K) → ModuleOn R K
regular R = record {
  additive = R.additive;
  scalars = record {
    ◌•◌ = R.◌⊗◌;
    scale-add = R.mul-add;
    add-scale = R.add-mul;
    mul-scale = R.mul_assoc;
    one-scale = R.one-mul;
  };
}

abbrev pub functions : {K : Type 0} → (R : RingOn K) → ModuleOn R (ℕ → K)
functions R = maps ℕ (regular R)
