-- A basis that spans the same lattice as its dual basis spans all that pairs with it into the ring of the weights.
use Rattle.std.specs.Prelude.{◌≡◌, ℕ, ◌<◌}
use Rattle.std.proofs.Common.{sym, ◌∙◌, ap, subst}
use Rattle.theory_rings.specs.Ring.{FieldOn}
use Rattle.theory_rings.proofs.Rings.RingLaws.{mul-zero, additive-zero}
use Rattle.theory_rings.proofs.Sums.Sums.{sum_eq_single, sum_congr, map-sum}
use Rattle.theory_spaces.specs.Module.{ModuleOn}
use Rattle.theory_spaces.specs.Linear.{comb, InSpan}
use Rattle.theory_spaces.specs.Matrix.{delta}
use Rattle.theory_spaces.specs.Form.{IsBilinear}
use Rattle.theory_spaces.proofs.Matrices.Matrices.{delta-same, delta-other}
use Rattle.theory_spaces.proofs.Linear.Modules.{InSpan_trans}
use Rattle.theory_spaces.specs.Lattice.{LatticeOver}

-- f and g are dual vectors for a bilinear form
module _ {K V : Type 0} (F : FieldOn K) (M : ModuleOn F.ring V) (Q : K → Type 0) (n : ℕ) (form : V → V → K)
    (bilinear : IsBilinear M form) (f g : ℕ → V)
    (pairing : (i j : ℕ) → i < n → j < n → form (f i) (g j) ≡ delta F.ring i j) where
  abbrev Span : (ℕ → V) → V → Type 0
  Span v = LatticeOver M Q n v

  -- the weights against a dual basis are the values of the form
  pub weights_are : (c : ℕ → K) (i : ℕ) → i < n → form (f i) (comb M n c g) ≡ c i
  weights_are c i l =
      map-sum M.monoid F.monoid (λ x. form (f i) x)
      (additive-zero M.additive F.additive (λ x. form (f i) x) (bilinear.add-right (f i)))
      (λ x y. bilinear.add-right (f i) x y) n (λ j. M.◌•◌ (c j) (g j))
      ∙ sum_congr F.monoid n (λ j. form (f i) (M.◌•◌ (c j) (g j))) (λ j. F.◌⊗◌ (c j) (form (f i) (g j)))
      (λ j _. bilinear.scale-right (c j) (f i) (g j))
      ∙ sum_eq_single F.monoid n i (λ j. F.◌⊗◌ (c j) (form (f i) (g j))) l
      (λ j h e. ap (F.◌⊗◌ (c j)) (pairing i j l h ∙ delta-other F.ring i j (λ q. e (sym q)))
      ∙ mul-zero F.ring (c j))
      ∙ ap (F.◌⊗◌ (c i)) (pairing i i l l ∙ delta-same F.ring i) ∙ F.mul-one (c i)

  -- f spans the space, f and its dual basis g span the same lattice: then what pairs with the lattice into Q lies in it
  pub self_dual : ((x : V) → InSpan M n f x) → ((x : V) → Span f x → Span g x) → ((x : V) → Span g x → Span f x)
      → ((i : ℕ) → i < n → Span f (f i)) → (x : V) → ((y : V) → Span f y → Q (form y x)) → Span f x
  self_dual spans into back own x h =
      let s : InSpan M n g x =
      InSpan_trans M n n f g x
      (λ i l. let w = into (f i) (own i l) in record { weights = w.weights; combines = w.combines }) (spans x) in
      back x (record {
        weights = s.weights;
        passes = λ i l. subst Q (ap (form (f i)) s.combines ∙ weights_are s.weights i l) (h (f i) (own i l));
        combines = s.combines;
      })
