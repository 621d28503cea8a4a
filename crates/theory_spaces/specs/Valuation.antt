-- Valuation rings of a field, given by a test, and lattices over them: the combinations of vectors with integral
-- weights.
use Rattle.std.specs.Prelude.{◌≡◌, ℕ, ◌<◌, Bool, true, IsTrue, ◌⊎◌}
use Rattle.std.proofs.Math.Bool.{Bool-set}
use mathlib.Core.HLevel.{Σ_prop_path}
use Rattle.theory_rings.specs.Ring.{RingOn, FieldOn}
use Rattle.theory_spaces.specs.Module.{ModuleOn}
use Rattle.theory_spaces.specs.Linear.{Independent}
use Rattle.theory_spaces.specs.Lattice.{LatticeOver}

-- the elements of a valuation ring: of each element, it or its inverse is one
pub record ValuationOn {K : Type 0} (F : FieldOn K) : Type 0 where
  pub integral : K → Bool
  pub zero_in : IsTrue (integral F.zero)
  pub one_in : IsTrue (integral F.one)
  pub add_in : (a b : K) → IsTrue (integral a) → IsTrue (integral b) → IsTrue (integral (F.◌⊕◌ a b))
  pub mul_in : (a b : K) → IsTrue (integral a) → IsTrue (integral b) → IsTrue (integral (F.◌⊗◌ a b))
  pub neg_in : (a : K) → IsTrue (integral a) → IsTrue (integral (F.neg a))
  pub total : (a : K) → IsTrue (integral a) ⊎ IsTrue (integral (F.inv a))

module _ {K : Type 0} (F : FieldOn K) (W : ValuationOn F) where
  abbrev pub IsIntegral : K → Type 0
  IsIntegral a = IsTrue (W.integral a)

  -- the elements of the valuation ring as a type
  abbrev pub Integer : Type 0
  Integer = (a : K) × IsTrue (W.integral a)

  pub Integer-path : (a b : Integer) → a.0 ≡ b.0 → a ≡ b
  Integer-path a b e = Σ_prop_path (λ x. Bool-set (W.integral x) true) {u = a} {v = b} e

  -- the valuation ring
  abbrev pub integers : RingOn Integer
  integers =
      let plus : Integer → Integer → Integer = λ a b. (F.◌⊕◌ a.0 b.0, W.add_in a.0 b.0 a.1 b.1) in
      let times : Integer → Integer → Integer = λ a b. (F.◌⊗◌ a.0 b.0, W.mul_in a.0 b.0 a.1 b.1) in
      let minus : Integer → Integer = λ a. (F.neg a.0, W.neg_in a.0 a.1) in
      record {
        additive = record {
          monoid = record {
            zero = (F.zero, W.zero_in);
            ◌⊕◌ = plus;
            add_assoc = λ a b c. Integer-path (plus (plus a b) c) (plus a (plus b c)) (F.add_assoc a.0 b.0 c.0);
            add_comm = λ a b. Integer-path (plus a b) (plus b a) (F.add_comm a.0 b.0);
            zero-add = λ a. Integer-path (plus (F.zero, W.zero_in) a) a (F.zero-add a.0);
          };
          neg = minus;
          neg-add = λ a. Integer-path (plus (minus a) a) (F.zero, W.zero_in) (F.neg-add a.0);
        };
        one = (F.one, W.one_in);
        ◌⊗◌ = times;
        mul_assoc = λ a b c. Integer-path (times (times a b) c) (times a (times b c)) (F.mul_assoc a.0 b.0 c.0);
        one-mul = λ a. Integer-path (times (F.one, W.one_in) a) a (F.one-mul a.0);
        mul-one = λ a. Integer-path (times a (F.one, W.one_in)) a (F.mul-one a.0);
        mul-add = λ a b c. Integer-path (times a (plus b c)) (plus (times a b) (times a c)) (F.mul-add a.0 b.0 c.0);
        add-mul = λ a b c. Integer-path (times (plus a b) c) (plus (times a c) (times b c)) (F.add-mul a.0 b.0 c.0);
      }

  -- a module over the field as one over the valuation ring
  abbrev pub restrict : {V : Type 0} → ModuleOn F.ring V → ModuleOn integers V
  restrict M = record {
    additive = M.additive;
    scalars = record {
      ◌•◌ = λ a x. M.◌•◌ a.0 x;
      scale-add = λ a x y. M.scale-add a.0 x y;
      add-scale = λ a b x. M.add-scale a.0 b.0 x;
      mul-scale = λ a b x. M.mul-scale a.0 b.0 x;
      one-scale = M.one-scale;
    };
  }

-- independent vectors whose combinations with integral weights are those of v 0, .., v (n − 1)
pub record LatticeBasis {K V : Type 0} (F : FieldOn K) (W : ValuationOn F) (M : ModuleOn F.ring V) (n : ℕ)
    (v : ℕ → V) : Type 0 where
  pub rank : ℕ
  pub vec : ℕ → V
  pub independent : Independent M rank vec
  pub spans : (i : ℕ) → i < n → LatticeOver M (IsIntegral F W) rank vec (v i)
  pub within : (j : ℕ) → j < rank → LatticeOver M (IsIntegral F W) n v (vec j)
