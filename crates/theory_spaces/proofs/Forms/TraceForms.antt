-- The trace form of an algebra with a basis: bilinear, symmetric, associative.
use Rattle.std.specs.Prelude.{ℕ}
use Rattle.std.proofs.Common.{◌∙◌, ap}
use Rattle.theory_rings.specs.Ring.{CommRingOn}
use Rattle.theory_spaces.specs.Module.{AlgebraOn, module_of}
use Rattle.theory_spaces.specs.Linear.{Basis}
use Rattle.theory_spaces.specs.Algebra.{trace}
use Rattle.theory_spaces.specs.Form.{IsBilinear, IsSymmetric, IsInvariant, trace_form}
use Rattle.theory_spaces.proofs.Forms.Traces.{trace_comm, trace-add, trace-scale}

module _ {K V : Type 0} (C : CommRingOn K) (A : AlgebraOn C.ring V) (n : ℕ) (B : Basis (module_of A) n) where
  infixl 70 ◌⊗◌
  open A use {◌⊗◌}

  pub trace_form_bilinear : IsBilinear (module_of A) (trace_form A n B)
  trace_form_bilinear = record {
    add-left = λ x y z. ap (trace A n B) (A.add-mul x y z) ∙ trace-add C A n B (x ⊗ z) (y ⊗ z);
    add-right = λ x y z. ap (trace A n B) (A.mul-add x y z) ∙ trace-add C A n B (x ⊗ y) (x ⊗ z);
    scale-left = λ a x y. ap (trace A n B) (A.scale-left a x y) ∙ trace-scale C A n B a (x ⊗ y);
    scale-right = λ a x y. ap (trace A n B) (A.scale-right a x y) ∙ trace-scale C A n B a (x ⊗ y);
  }

  pub trace_form_symmetric : IsSymmetric (trace_form A n B)
  trace_form_symmetric = record { symmetric = trace_comm C A n B }

  pub trace_form_associative : IsInvariant A (trace_form A n B)
  trace_form_associative = record { associative = λ x y z. ap (trace A n B) (A.mul_assoc x y z) }
