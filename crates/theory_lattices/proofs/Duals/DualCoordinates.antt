-- The coordinates by a basis are the traces of the products with its dual vectors.
use Rattle.std.specs.Prelude.{◌≡◌, ℕ, ◌<◌}
use Rattle.std.proofs.Common.{◌∙◌, ap}
use Rattle.theory_rings.specs.Ring.{FieldOn}
use Rattle.theory_rings.proofs.Rings.RingLaws.{mul-zero, zero-mul, additive-zero}
use Rattle.theory_rings.proofs.Sums.Sums.{sum_eq_single, sum_congr, map-sum}
use Rattle.theory_spaces.specs.Module.{ModuleOn, AlgebraOn, module_of}
use Rattle.theory_spaces.specs.Linear.{comb}
use Rattle.theory_spaces.specs.Form.{IsBilinear}
use Rattle.theory_spaces.proofs.Matrices.Matrices.{delta-same, delta-other}
use Rattle.theory_lattices.specs.Degree.{DegreeOn}
use Rattle.theory_lattices.specs.SelfDual.{SelfDualPair, DualVectors}

module _ {K V : Type 0} (F : FieldOn K) (W : DegreeOn F.ring) (A : AlgebraOn F.ring V) (P : K → Type 0)
    (finite infinite : V → Type 0) (tr : V → K)
    (S : SelfDualPair F W A P finite infinite tr) where
  infixl 70 ◌⊗◌
  infixl 70 ◌•◌
  open A use {◌⊗◌, ◌•◌}

  abbrev M : ModuleOn F.ring V
  M = module_of A

  pub trace-zero : tr A.zero ≡ F.zero
  trace-zero = additive-zero A.additive F.additive tr S.tr-add

  -- the trace form
  pub trace_bilinear : IsBilinear M (λ x y. tr (x ⊗ y))
  trace_bilinear = record {
    add-left = λ x y z. ap tr (A.add-mul x y z) ∙ S.tr-add (x ⊗ z) (y ⊗ z);
    add-right = λ x y z. ap tr (A.mul-add x y z) ∙ S.tr-add (x ⊗ y) (x ⊗ z);
    scale-left = λ c x y. ap tr (A.scale-left c x y) ∙ S.tr-scale c (x ⊗ y);
    scale-right = λ c x y. ap tr (A.scale-right c x y) ∙ S.tr-scale c (x ⊗ y);
  }

  module _ (n : ℕ) (b dual : ℕ → V) (D : DualVectors F A tr n b dual) where
    pub dual_one : (i : ℕ) → i < n → tr (b i ⊗ dual i) ≡ F.one
    dual_one i l = D.pairing i i l l ∙ delta-same F.ring i

    pub dual_zero : (i j : ℕ) → i < n → j < n → (i ≡ j → ⊥) → tr (b i ⊗ dual j) ≡ F.zero
    dual_zero i j l g d = D.pairing i j l g ∙ delta-other F.ring i j d

    abbrev pub dual_coord : V → ℕ → K
    dual_coord x i = tr (x ⊗ dual i)

    pub dual_coord-zero : (i : ℕ) → dual_coord A.zero i ≡ F.zero
    dual_coord-zero i = ap tr (zero-mul A.ring (dual i)) ∙ trace-zero

    pub dual_coord-add : (x y : V) (i : ℕ) → dual_coord (A.◌⊕◌ x y) i ≡ F.◌⊕◌ (dual_coord x i) (dual_coord y i)
    dual_coord-add x y i = ap tr (A.add-mul x y (dual i)) ∙ S.tr-add (x ⊗ dual i) (y ⊗ dual i)

    pub dual_coord-scale : (c : K) (x : V) (i : ℕ) → dual_coord (c • x) i ≡ F.◌⊗◌ c (dual_coord x i)
    dual_coord-scale c x i = ap tr (A.scale-left c x (dual i)) ∙ S.tr-scale c (x ⊗ dual i)

    pub dual_coord-comb : (c : ℕ → K) (i : ℕ) → i < n → dual_coord (comb M n c b) i ≡ c i
    dual_coord-comb c i l =
        map-sum M.monoid F.monoid (λ x. dual_coord x i) (dual_coord-zero i) (λ x y. dual_coord-add x y i) n
        (λ j. c j • b j)
        ∙ sum_congr F.monoid n (λ j. dual_coord (c j • b j) i) (λ j. F.◌⊗◌ (c j) (dual_coord (b j) i))
        (λ j g. dual_coord-scale (c j) (b j) i)
        ∙ sum_eq_single F.monoid n i (λ j. F.◌⊗◌ (c j) (dual_coord (b j) i)) l
        (λ j g d. ap (F.◌⊗◌ (c j)) (dual_zero j i g l d) ∙ mul-zero F.ring (c j))
        ∙ ap (F.◌⊗◌ (c i)) (dual_one i l) ∙ F.mul-one (c i)
