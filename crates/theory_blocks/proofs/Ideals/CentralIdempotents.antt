-- In an algebra without nilpotent ideals but 0 each ideal has a central unit: its left unit e is one from the right
-- too, since x − x·e kills the ideal from the left, and it commutes with each a, since e·a = (e·a)·e = e·(a·e) = a·e.
use Rattle.std.specs.Prelude.{◌≡◌, ℕ}
use Rattle.std.proofs.Common.{refl, sym, ◌∙◌, ap, subst}
use Rattle.theory_rings.specs.Ring.{FieldOn}
use Rattle.theory_rings.proofs.Rings.RingLaws.{add-neg}
use Rattle.theory_rings.proofs.Rings.Solver.{◌⊞◌, ◌⊠◌, minus, words3}
use Rattle.theory_rings.proofs.Rings.ZeroTests.{eq_of_sub_eq_zero}
use Rattle.theory_spaces.specs.Module.{ModuleOn, AlgebraOn, module_of}
use Rattle.theory_spaces.specs.Linear.{InSpan, Basis}
use Rattle.theory_spaces.specs.Algebra.{IdealSpan}
use Rattle.theory_spaces.proofs.Linear.Modules.{InSpan-zero, InSpan-add, InSpan-scale, InSpan-neg}
use Rattle.theory_spaces.proofs.Linear.Spaces.{coords_of, span_basis}
use Rattle.theory_spaces.proofs.Algebras.Ideals.{ideal_left, ideal_right}
use Rattle.theory_blocks.specs.MaximalIdeals.{HasNoNilpotentIdeal, CentralUnit, IdealsHaveCentralUnits}
use Rattle.theory_blocks.proofs.Ideals.Semiprime.{semiprime}
use Rattle.theory_blocks.proofs.Ideals.LeftUnits.{LeftUnit, left_unit}

module _ {K V : Type 0} (F : FieldOn K) (A : AlgebraOn F.ring V) (m : ℕ) (B : Basis (module_of A) m) where
  infixl 65 ◌⊕◌
  infixl 70 ◌⊗◌
  open A use {ring, ◌⊕◌, ◌⊗◌, neg}

  abbrev M : ModuleOn F.ring V
  M = module_of A

  module _ (none : HasNoNilpotentIdeal A) (n : ℕ) (g : ℕ → V) (ideal : IdealSpan A n g) where
    abbrev In : V → Type 0
    In = InSpan M n g

    unit_from_left : LeftUnit A In
    unit_from_left =
        let b = span_basis F M m (coords_of M m B) n g in
        left_unit F A m B none In (record {
          subspace = record { zero-in = InSpan-zero M n g; add-in = InSpan-add M n g; scale-in = InSpan-scale M n g };
          mul-in = λ x a. ideal_right A n g ideal a x;
        }) b.0 b.1

    module _ (u : LeftUnit A In) where
      fixes_from_right : (x : V) → In x → x ⊗ u.unit ≡ x
      fixes_from_right x s =
          let y = x ⊕ neg (x ⊗ u.unit) in
          let member : In y = InSpan-add M n g x (neg (x ⊗ u.unit)) s
          (InSpan-neg M n g (x ⊗ u.unit) (ideal_right A n g ideal u.unit x s)) in
          let kills : (w : V) → In w → y ⊗ w ≡ A.zero = λ w h.
          words3 ring (λ x e w. ((x ⊞ minus (x ⊠ e)) ⊠ w, x ⊠ w ⊞ minus (x ⊠ (e ⊠ w)))) refl x u.unit w
          ∙ ap (λ z. x ⊗ w ⊕ neg (x ⊗ z)) (u.fixes w h) ∙ add-neg A.additive (x ⊗ w) in
          sym (eq_of_sub_eq_zero A.additive x (x ⊗ u.unit)
          (semiprime F A m B none y (λ a. A.mul_assoc y a y ∙ kills (a ⊗ y) (ideal_left A n g ideal a y member))))

      central_unit : CentralUnit A n g
      central_unit =
          let e = u.unit in record {
            unit = e;
            inside = u.inside;
            central = λ a. sym (fixes_from_right (e ⊗ a) (ideal_right A n g ideal a e u.inside)) ∙ A.mul_assoc e a e
                ∙ u.fixes (a ⊗ e) (ideal_left A n g ideal a e u.inside);
            idempotent = u.fixes e u.inside;
            fixes = λ x. (u.fixes x, λ h. subst In h (ideal_right A n g ideal x e u.inside));
          }

  pub central_units : IdealsHaveCentralUnits A
  central_units none n g ideal = central_unit none n g ideal (unit_from_left none n g ideal)
