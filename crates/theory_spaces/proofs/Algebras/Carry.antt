-- An algebra on A, a bijection of A with B and operations on B that it keeps: these make B an algebra, and what holds
-- of the algebra on A and of two families of vectors holds of that on B. By univalence: nothing is proved of the
-- notions.
use Rattle.std.specs.Prelude.{◌≡◌, ℕ}
use mathlib.Core.Path.{PathP}
use mathlib.Core.Equiv.{◌≃◌}
use Rattle.theory_rings.specs.Ring.{RingOn}
use Rattle.theory_spaces.specs.Module.{AlgebraOn}

-- along a bijection of types
module _ {A B : Type 0} (e : A ≃ B) where
  abbrev pub along : 𝕀 → Type 0
  along i = V i A B e

  -- a value, and maps of one and two values
  pub value : {a : A} {b : B} → e.0 a ≡ b → PathP (λ i. along i) a b
  value {a} p = λ i. vin i a (p i)

  pub map₁ : (f : A → A) (g : B → B) → ((x : A) → e.0 (f x) ≡ g (e.0 x)) → PathP (λ i. along i → along i) f g
  map₁ f g h = λ i a. vin i (f a) (hcom 1 0 (g (vproj i a e)) [ i = 0 ↦ j. h a j | i = 1 ↦ _. g a ])

  pub map₂ : (f : A → A → A) (g : B → B → B) → ((x y : A) → e.0 (f x y) ≡ g (e.0 x) (e.0 y))
      → PathP (λ i. along i → along i → along i) f g
  map₂ f g h = λ i a b.
      vin i (f a b) (hcom 1 0 (g (vproj i a e) (vproj i b e)) [ i = 0 ↦ j. h a b j | i = 1 ↦ _. g a b ])

-- operations on B that g keeps
pub record KeptBy {K A B : Type 0} {R : RingOn K} (S : AlgebraOn R A) (g : A → B) : Type 0 where
  pub zero : B
  pub one : B
  pub add : B → B → B
  pub neg : B → B
  pub scale : K → B → B
  pub mul : B → B → B
  pub zero-is : g S.zero ≡ zero
  pub one-is : g S.one ≡ one
  pub add-is : (x y : A) → g (S.◌⊕◌ x y) ≡ add (g x) (g y)
  pub neg-is : (x : A) → g (S.neg x) ≡ neg (g x)
  pub scale-is : (c : K) (x : A) → g (S.◌•◌ c x) ≡ scale c (g x)
  pub mul-is : (x y : A) → g (S.◌⊗◌ x y) ≡ mul (g x) (g y)

module _ {K A B : Type 0} {R : RingOn K} (S : AlgebraOn R A) (e : A ≃ B) (k : KeptBy S e.0) where
  abbrev pub algebra_along : (i : 𝕀) → AlgebraOn R (along e i)
  algebra_along i =
      let T : 𝕀 → Type 0 = along e in
      let z : (i : 𝕀) → T i = λ i. value e k.zero-is i in
      let u : (i : 𝕀) → T i = λ i. value e k.one-is i in
      let plus : (i : 𝕀) → T i → T i → T i = λ i. map₂ e S.◌⊕◌ k.add k.add-is i in
      let minus : (i : 𝕀) → T i → T i = λ i. map₁ e S.neg k.neg k.neg-is i in
      let by : (i : 𝕀) → K → T i → T i = λ i c. map₁ e (S.◌•◌ c) (k.scale c) (k.scale-is c) i in
      let times : (i : 𝕀) → T i → T i → T i = λ i. map₂ e S.◌⊗◌ k.mul k.mul-is i in
      record {
        ring = record {
          additive = record {
            monoid = record {
              zero = z i;
              ◌⊕◌ = plus i;
              add_assoc = coe 0 i (j. (a b c : T j) → plus j (plus j a b) c ≡ plus j a (plus j b c)) S.add_assoc;
              add_comm = coe 0 i (j. (a b : T j) → plus j a b ≡ plus j b a) S.add_comm;
              zero-add = coe 0 i (j. (a : T j) → plus j (z j) a ≡ a) S.zero-add;
            };
            neg = minus i;
            neg-add = coe 0 i (j. (a : T j) → plus j (minus j a) a ≡ z j) S.neg-add;
          };
          one = u i;
          ◌⊗◌ = times i;
          mul_assoc = coe 0 i (j. (a b c : T j) → times j (times j a b) c ≡ times j a (times j b c)) S.mul_assoc;
          one-mul = coe 0 i (j. (a : T j) → times j (u j) a ≡ a) S.one-mul;
          mul-one = coe 0 i (j. (a : T j) → times j a (u j) ≡ a) S.mul-one;
          mul-add = coe 0 i (j. (a b c : T j) → times j a (plus j b c) ≡ plus j (times j a b) (times j a c)) S.mul-add;
          add-mul = coe 0 i (j. (a b c : T j) → times j (plus j a b) c ≡ plus j (times j a c) (times j b c)) S.add-mul;
        };
        scalars = record {
          ◌•◌ = by i;
          scale-add = coe 0 i (j. (a : K) (x y : T j) → by j a (plus j x y) ≡ plus j (by j a x) (by j a y)) S.scale-add;
          add-scale = coe 0 i (j. (a b : K) (x : T j) → by j (R.◌⊕◌ a b) x ≡ plus j (by j a x) (by j b x)) S.add-scale;
          mul-scale = coe 0 i (j. (a b : K) (x : T j) → by j (R.◌⊗◌ a b) x ≡ by j a (by j b x)) S.mul-scale;
          one-scale = coe 0 i (j. (x : T j) → by j R.one x ≡ x) S.one-scale;
        };
        scale-left = coe 0 i (j. (a : K) (x y : T j) → times j (by j a x) y ≡ by j a (times j x y)) S.scale-left;
        scale-right = coe 0 i (j. (a : K) (x y : T j) → times j x (by j a y) ≡ by j a (times j x y)) S.scale-right;
      }

  -- the algebra on B: its operations are those of k by computation
  unfoldable pub carried : AlgebraOn R B
  carried = algebra_along 1

  pub carry : (F : (X : Type 0) → AlgebraOn R X → (ℕ → X) → (ℕ → X) → Type 0) (v v' : ℕ → A) (w w' : ℕ → B)
      → ((i : ℕ) → e.0 (v i) ≡ w i) → ((i : ℕ) → e.0 (v' i) ≡ w' i) → F A S v v' → F B carried w w'
  unfolding carried
  carry F v v' w w' h h' f =
      coe 0 1 (i. F (along e i) (algebra_along i) (λ n. value e (h n) i) (λ n. value e (h' n) i)) f
