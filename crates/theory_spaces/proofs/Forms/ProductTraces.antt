-- The regular trace of a product that need not have a one: the trace of the multiplication by an element from the
-- left. It is linear, the same for both orders of a product, and 0 where some power is 0.
use Rattle.std.specs.Prelude.{◌≡◌, ℕ, zero, suc}
use Rattle.std.proofs.Common.{refl, sym, ◌∙◌, ap}
use Rattle.theory_rings.specs.Ring.{CommRingOn, FieldOn}
use Rattle.theory_rings.specs.Sum.{sum}
use Rattle.theory_rings.proofs.Rings.RingLaws.{additive-zero}
use Rattle.theory_rings.proofs.Sums.Sums.{sum_congr, sum-add, map-sum, mul-sum}
use Rattle.theory_spaces.specs.Module.{ModuleOn}
use Rattle.theory_spaces.specs.Linear.{comb, Basis, IsLinear}
use Rattle.theory_spaces.specs.Space.{ProductOn}
use Rattle.theory_spaces.specs.Algebra.{map_trace, iterate}
use Rattle.theory_spaces.proofs.Linear.Modules.{zero-scale}
use Rattle.theory_spaces.proofs.Forms.MapTraces.{map_trace_comm, map_trace-nilpotent}

module _ {K V : Type 0} (C : CommRingOn K) (M : ModuleOn C.ring V) (P : ProductOn M) (m : ℕ) (B : Basis M m) where
  infixl 65 ◌⊕◌
  infixl 70 ◌⊗◌
  infixl 70 ◌•◌
  open M use {◌⊕◌, ◌•◌}
  open P use {◌⊗◌}

  pub by_left_linear : (x : V) → IsLinear M M (λ y. x ⊗ y)
  by_left_linear x = record { map-add = P.mul-add x; map-scale = λ a y. P.scale-right a x y }

  pub by_right_linear : (y : V) → IsLinear M M (λ x. x ⊗ y)
  by_right_linear y = record { map-add = λ a b. P.add-mul a b y; map-scale = λ a x. P.scale-left a x y }

  abbrev pub product_trace : V → K
  product_trace x = map_trace M m B (λ y. x ⊗ y)

  pub product_trace-add : (a b : V) → product_trace (a ⊕ b) ≡ C.◌⊕◌ (product_trace a) (product_trace b)
  product_trace-add a b =
      sum_congr C.monoid m (λ j. B.coord ((a ⊕ b) ⊗ B.vec j) j)
      (λ j. C.◌⊕◌ (B.coord (a ⊗ B.vec j) j) (B.coord (b ⊗ B.vec j) j))
      (λ j _. ap (λ y. B.coord y j) (P.add-mul a b (B.vec j)) ∙ B.coord-add (a ⊗ B.vec j) (b ⊗ B.vec j) j)
      ∙ sum-add C.monoid m (λ j. B.coord (a ⊗ B.vec j) j) (λ j. B.coord (b ⊗ B.vec j) j)

  pub product_trace-scale : (c : K) (a : V) → product_trace (c • a) ≡ C.◌⊗◌ c (product_trace a)
  product_trace-scale c a =
      sum_congr C.monoid m (λ j. B.coord (c • a ⊗ B.vec j) j) (λ j. C.◌⊗◌ c (B.coord (a ⊗ B.vec j) j))
      (λ j _. ap (λ y. B.coord y j) (P.scale-left c a (B.vec j)) ∙ B.coord-scale c (a ⊗ B.vec j) j)
      ∙ sym (mul-sum C.ring m c (λ j. B.coord (a ⊗ B.vec j) j))

  pub product_trace-zero : product_trace M.zero ≡ C.zero
  product_trace-zero = additive-zero M.additive C.additive product_trace product_trace-add

  pub product_trace-comb : (n : ℕ) (c : ℕ → K) (v : ℕ → V)
      → product_trace (comb M n c v) ≡ sum C.monoid n (λ i. C.◌⊗◌ (c i) (product_trace (v i)))
  product_trace-comb n c v =
      map-sum M.monoid C.monoid product_trace product_trace-zero product_trace-add n (λ i. c i • v i)
      ∙ sum_congr C.monoid n (λ i. product_trace (c i • v i)) (λ i. C.◌⊗◌ (c i) (product_trace (v i)))
      (λ i _. product_trace-scale (c i) (v i))

  pub zero_product : (x : V) → M.zero ⊗ x ≡ M.zero
  zero_product x = ap (λ y. y ⊗ x) (sym (zero-scale M M.zero)) ∙ P.scale-left C.zero M.zero x
      ∙ zero-scale M (M.zero ⊗ x)

  module _ (assoc : (x y z : V) → (x ⊗ y) ⊗ z ≡ x ⊗ (y ⊗ z)) where
    pub product_trace_comm : (a b : V) → product_trace (a ⊗ b) ≡ product_trace (b ⊗ a)
    product_trace_comm a b =
        sum_congr C.monoid m (λ j. B.coord (a ⊗ b ⊗ B.vec j) j) (λ j. B.coord (a ⊗ (b ⊗ B.vec j)) j)
        (λ j _. ap (λ y. B.coord y j) (assoc a b (B.vec j)))
        ∙ map_trace_comm C M m B (λ x. a ⊗ x) (λ x. b ⊗ x) (by_left_linear a) (by_left_linear b)
        ∙ sum_congr C.monoid m (λ j. B.coord (b ⊗ (a ⊗ B.vec j)) j) (λ j. B.coord (b ⊗ a ⊗ B.vec j) j)
        (λ j _. ap (λ y. B.coord y j) (sym (assoc b a (B.vec j))))

    -- x to the power e + 1
    abbrev pub next_power : V → ℕ → V
    next_power x zero = x
    next_power x (suc e) = x ⊗ next_power x e

    power_commutes : (x : V) (e : ℕ) → next_power x e ⊗ x ≡ x ⊗ next_power x e
    power_commutes x zero = refl
    power_commutes x (suc e) = assoc x (next_power x e) x ∙ ap (λ y. x ⊗ y) (power_commutes x e)

    pub iterate-power : (x : V) (e : ℕ) (y : V) → iterate (λ z. x ⊗ z) (suc e) y ≡ next_power x e ⊗ y
    iterate-power x zero y = refl
    iterate-power x (suc e) y = iterate-power x e (x ⊗ y) ∙ sym (assoc (next_power x e) x y)
        ∙ ap (λ z. z ⊗ y) (power_commutes x e)

module _ {K V : Type 0} (F : FieldOn K) (M : ModuleOn F.ring V) (P : ProductOn M) (m : ℕ) (B : Basis M m)
    (assoc : (x y z : V) → P.◌⊗◌ (P.◌⊗◌ x y) z ≡ P.◌⊗◌ x (P.◌⊗◌ y z)) where
  -- an element with a power that is 0 has trace 0
  pub product_trace-nilpotent : (x : V) (e : ℕ) → next_power F.cring M P m B assoc x e ≡ M.zero
      → product_trace F.cring M P m B x ≡ F.zero
  product_trace-nilpotent x e h = map_trace-nilpotent F M m B (λ y. P.◌⊗◌ x y) (by_left_linear F.cring M P m B x)
      (suc e)
      (λ y. iterate-power F.cring M P m B assoc x e y ∙ ap (λ z. P.◌⊗◌ z y) h ∙ zero_product F.cring M P m B y)
