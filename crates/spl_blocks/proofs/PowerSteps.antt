-- The steps of powers by halves, and of powers taken one after the other.
use Rattle.std.specs.Prelude.{◌≡◌, ◌+◌, ◌*◌, ◌/◌, ◌%◌, ◌^◌, ◌<◌, ◌≤◌, ℕ, suc, List}
use Rattle.std.proofs.Common.{refl, sym, ◌∙◌, ap, ap₂, subst, arith}
use Rattle.std.proofs.Math.Nat.{pow-zero, pow-suc, one-le-pow}
use Rattle.theory_rings.specs.Ops.{Ops, FieldLaws}
use Rattle.theory_rings.specs.Power.{power}
use Rattle.theory_rings.proofs.Powers.Powers.{power-add, power-power}
use Rattle.theory_spaces.specs.Tuples.{IsTuple}
use Rattle.theory_tables.specs.Structure.{Structure, IsElement, product_of}
use Rattle.spl_blocks.specs.Blocks.{IsUnital}
use Rattle.spl_blocks.specs.Fixed.{power_in}
use Rattle.spl_blocks.proofs.Tables.{V, A, A_is, tuple, of_tuple, power-is}

pub power_start : {E : Type 0} (o : Ops E) (T : Structure E) (z : List E) (e : ℕ) → 1 ≤ e → e < 2 → z ≡ power_in o T z e
power_start o T z e l g = let q : 1 ≡ e = omega (arith, l, g) in subst (λ n. z ≡ power_in o T z n) q refl

module _ {E : Type 0} (o : Ops E) (L : FieldLaws o) (T : Structure E) (u : IsUnital o T) (z : List E)
    (hz : IsElement o T z) where
  abbrev x : V o L T u
  x = tuple o L T u z hz

  powers : (n k : ℕ) → 1 ≤ n → 1 ≤ k → product_of o T (power_in o T z n) (power_in o T z k) ≡ power_in o T z (n + k)
  powers n k l g =
      let B = A o L T u in
      let t = A_is o L T u in
      ap₂ (product_of o T) (sym (power-is o L T u x n l)) (sym (power-is o L T u x k g))
      ∙ sym (t.product-is (power B.ring x n) (power B.ring x k))
      ∙ ap (λ (y : V o L T u). y.0) (sym (power-add B.ring x n k))
      ∙ power-is o L T u x (n + k) (omega (arith, l))

  pub power_even : (half square : List E) (e : ℕ) → 2 ≤ e → half ≡ power_in o T z (e / 2) → e % 2 ≡ 0
      → square ≡ product_of o T half half → square ≡ power_in o T z e
  power_even half square e l h even s =
      let q : e / 2 + e / 2 ≡ e = omega arith in
      let p : 1 ≤ e / 2 = omega arith in
      s ∙ ap₂ (product_of o T) h h ∙ powers (e / 2) (e / 2) p p ∙ ap (power_in o T z) q

  pub power_odd : (half square whole : List E) (e : ℕ) → 2 ≤ e → half ≡ power_in o T z (e / 2) → (e % 2 ≡ 0 → ⊥)
      → square ≡ product_of o T half half → whole ≡ product_of o T z square → whole ≡ power_in o T z e
  power_odd half square whole e l h odd s w =
      let q : 1 + (e / 2 + e / 2) ≡ e = omega arith in
      let p : 1 ≤ e / 2 = omega arith in
      w ∙ ap (product_of o T z) (s ∙ ap₂ (product_of o T) h h ∙ powers (e / 2) (e / 2) p p)
      ∙ powers 1 (e / 2 + e / 2) (omega arith) (omega arith) ∙ ap (power_in o T z) q

  pub power_tuple : (n : ℕ) → 1 ≤ n → IsElement o T (power_in o T z n)
  power_tuple n l =
      let B = A o L T u in
      subst (IsTuple o T.dim) (power-is o L T u x n l) (of_tuple o L T u (power B.ring x n))

  pub iterated_start : (q : ℕ) (y : List E) → y ≡ z → y ≡ power_in o T z (q ^ 0)
  iterated_start q y e = subst (λ n. y ≡ power_in o T z n) (sym (pow-zero q)) e

  pub iterated_next : (q i : ℕ) (y w : List E) → 1 ≤ q → y ≡ power_in o T z (q ^ i) → w ≡ power_in o T y q
      → w ≡ power_in o T z (q ^ (i + 1))
  iterated_next q i y w l h e =
      let B = A o L T u in
      let n = q ^ i in
      let p = one-le-pow i q l in
      let b = power B.ring x n in
      let s : q ^ i * q ≡ q ^ (i + 1) =
      (let k : suc i ≡ i + 1 = omega arith in sym (pow-suc q i) ∙ ap (λ j. q ^ j) k) in
      let r : 1 ≤ n * q = subst (λ j. 1 ≤ j) (pow-suc q i) (one-le-pow (suc i) q l) in
      e ∙ ap (λ v. power_in o T v q) (h ∙ sym (power-is o L T u x n p))
      ∙ sym (power-is o L T u b q l) ∙ ap (λ (y : V o L T u). y.0) (power-power B.ring x n q)
      ∙ power-is o L T u x (n * q) r ∙ ap (power_in o T z) s
