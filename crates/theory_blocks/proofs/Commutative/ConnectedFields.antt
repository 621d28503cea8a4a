-- A commutative algebra with a basis in which each element but 0 has an inverse is a field, since by the basis 0 can be
-- told apart from the other elements.
use Rattle.std.specs.Prelude.{◌≡◌, ℕ, ◌⊎◌, Bool, true, false}
use Rattle.std.proofs.Common.{refl, ◌∙◌, inl, inr}
use Rattle.theory_rings.specs.Ring.{CommRingOn, FieldOn}
use Rattle.theory_rings.specs.Enumerated.{Enumerated}
use Rattle.theory_spaces.specs.Module.{AlgebraOn, module_of}
use Rattle.theory_spaces.specs.Linear.{Basis}
use Rattle.theory_blocks.specs.FixedPoints.{HasInverses, ConnectedIsField}
use Rattle.theory_blocks.proofs.Commutative.Connected.{inverses}
use Rattle.theory_blocks.proofs.Families.Decisions.{vector_eq_zero_or}

module _ {V : Type 0} (C : CommRingOn V) (dec : (x : V) → (x ≡ C.zero) ⊎ (x ≡ C.zero → ⊥))
    (h : HasInverses C.ring) where
  abbrev is_left : (x : V) → (x ≡ C.zero) ⊎ (x ≡ C.zero → ⊥) → Bool
  is_left x (inl e) = true
  is_left x (inr n) = false

  sound : (x : V) (d : (x ≡ C.zero) ⊎ (x ≡ C.zero → ⊥)) → is_left x d ≡ true → x ≡ C.zero
  sound x (inl e) t = e
  sound x (inr n) t = cc

  complete : (d : (C.zero ≡ C.zero) ⊎ (C.zero ≡ C.zero → ⊥)) → is_left C.zero d ≡ true
  complete (inl e) = refl
  complete (inr n) = absurd (n refl)

  abbrev inverse : (x : V) → (x ≡ C.zero) ⊎ (x ≡ C.zero → ⊥) → V
  inverse x (inl e) = C.zero
  inverse x (inr n) = (h x n).0

  inverse-mul : (x : V) (d : (x ≡ C.zero) ⊎ (x ≡ C.zero → ⊥)) → (x ≡ C.zero → ⊥) → C.◌⊗◌ (inverse x d) x ≡ C.one
  inverse-mul x (inl e) m = absurd (m e)
  inverse-mul x (inr n) m = C.mul_comm (h x n).0 x ∙ (h x n).1

  pub field_of_inverses : (C.one ≡ C.zero → ⊥) → (G : FieldOn V) × (G.ring ≡ C.ring)
  field_of_inverses one = (
    record {
      cring = C;
      inv = λ x. inverse x (dec x);
      is_zero = λ x. is_left x (dec x);
      zero_test = record { is_zero-sound = λ x t. sound x (dec x) t; is_zero-zero = complete (dec C.zero) };
      one-nonzero = one;
      inv-mul = λ x n. inverse-mul x (dec x) n;
    },
    refl,
  )

module _ {K V : Type 0} (F : FieldOn K) (E : Enumerated K) (A : AlgebraOn F.ring V) where
  pub connected_field : (m : ℕ) → Basis (module_of A) m → ConnectedIsField F E A
  connected_field m B comm reduced only one =
      field_of_inverses (record { ring = A.ring; mul_comm = comm }) (vector_eq_zero_or F (module_of A) m B)
      (inverses F E A m B comm reduced only) one
