-- A commutative ring on a set is determined by its operations.
use Rattle.std.specs.Prelude.{◌≡◌}
use mathlib.Core.HLevel.{is_prop→PathP}
use Rattle.theory_rings.specs.Ring.{CommRingOn}

module _ {K : Type 0} (set : IsSet K) (A B : CommRingOn K) (on_zero : A.zero ≡ B.zero) (on_one : A.one ≡ B.one)
    (on_add : (a b : K) → A.◌⊕◌ a b ≡ B.◌⊕◌ a b) (on_neg : (a : K) → A.neg a ≡ B.neg a)
    (on_mul : (a b : K) → A.◌⊗◌ a b ≡ B.◌⊗◌ a b) where
  abbrev plus : 𝕀 → K → K → K
  plus i a b = on_add a b i

  abbrev times : 𝕀 → K → K → K
  times i a b = on_mul a b i

  pub CommRingOn-path : A ≡ B
  CommRingOn-path = λ i. record {
    ring = record {
      additive = record {
        monoid = record {
          zero = on_zero i;
          ◌⊕◌ = plus i;
          add_assoc = λ a b c. is_prop→PathP (λ j. plus j (plus j a b) c ≡ plus j a (plus j b c))
              (λ j. set (plus j (plus j a b) c) (plus j a (plus j b c))) (A.add_assoc a b c) (B.add_assoc a b c) i;
          add_comm = λ a b. is_prop→PathP (λ j. plus j a b ≡ plus j b a) (λ j. set (plus j a b) (plus j b a))
              (A.add_comm a b) (B.add_comm a b) i;
          zero-add = λ a. is_prop→PathP (λ j. plus j (on_zero j) a ≡ a) (λ j. set (plus j (on_zero j) a) a)
              (A.zero-add a) (B.zero-add a) i;
        };
        neg = λ a. on_neg a i;
        neg-add = λ a. is_prop→PathP (λ j. plus j (on_neg a j) a ≡ on_zero j)
            (λ j. set (plus j (on_neg a j) a) (on_zero j)) (A.neg-add a) (B.neg-add a) i;
      };
      one = on_one i;
      ◌⊗◌ = times i;
      mul_assoc = λ a b c. is_prop→PathP (λ j. times j (times j a b) c ≡ times j a (times j b c))
          (λ j. set (times j (times j a b) c) (times j a (times j b c))) (A.mul_assoc a b c) (B.mul_assoc a b c) i;
      one-mul = λ a. is_prop→PathP (λ j. times j (on_one j) a ≡ a) (λ j. set (times j (on_one j) a) a) (A.one-mul a)
          (B.one-mul a) i;
      mul-one = λ a. is_prop→PathP (λ j. times j a (on_one j) ≡ a) (λ j. set (times j a (on_one j)) a) (A.mul-one a)
          (B.mul-one a) i;
      mul-add = λ a b c. is_prop→PathP (λ j. times j a (plus j b c) ≡ plus j (times j a b) (times j a c))
          (λ j. set (times j a (plus j b c)) (plus j (times j a b) (times j a c))) (A.mul-add a b c)
          (B.mul-add a b c) i;
      add-mul = λ a b c. is_prop→PathP (λ j. times j (plus j a b) c ≡ plus j (times j a c) (times j b c))
          (λ j. set (times j (plus j a b) c) (plus j (times j a c) (times j b c))) (A.add-mul a b c)
          (B.add-mul a b c) i;
    };
    mul_comm = λ a b. is_prop→PathP (λ j. times j a b ≡ times j b a) (λ j. set (times j a b) (times j b a))
        (A.mul_comm a b) (B.mul_comm a b) i;
  }
