-- The centre of an algebra over a field of q elements is a field exactly where 0 alone has the q-th power 0 there, and
-- the solutions of z^q = z in it have dimension 1.
use Rattle.std.specs.Prelude.{◌≡◌, ◌↔◌, ◌≤◌, ◌<◌, ◌+◌, ◌*◌, ◌-◌, ◌^◌, ℕ, zero, suc, List, length}
use Rattle.std.proofs.Common.{sym, ◌∙◌, ap, subst, ⊎_elim, arith}
use Rattle.std.proofs.Math.Nat.{mul-le-mul_left}
use Rattle.theory_rings.specs.Ring.{FieldOn}
use Rattle.theory_rings.specs.Ops.{Ops, FieldLaws}
use Rattle.theory_rings.specs.Elements.{Elem}
use Rattle.theory_rings.specs.Prime.{IsPrime}
use Rattle.theory_rings.specs.Power.{power, times}
use Rattle.theory_rings.specs.Sum.{sum}
use Rattle.theory_rings.specs.Enumerated.{Enumerated}
use Rattle.theory_rings.proofs.Powers.Powers.{power_first, power-one, power-add, power-power, power-mul}
use Rattle.theory_rings.proofs.Rings.RingLaws.{zero-mul}
use Rattle.theory_spaces.specs.Module.{AlgebraOn, module_of}
use Rattle.theory_spaces.specs.Linear.{Basis, BasisOf}
use Rattle.theory_spaces.proofs.Linear.Modules.{InSpan-member}
use Rattle.theory_blocks.specs.Centre.{Centre, CentreIsField}
use Rattle.theory_blocks.specs.FixedPoints.{IsFixed}
use Rattle.theory_blocks.specs.FieldFactors.{IsCommutativeIn, IsReducedIn, FieldFactors}
use Rattle.theory_blocks.proofs.Commutative.FieldFactors.{field_factors}
use Rattle.theory_blocks.proofs.Commutative.FieldFactorsSolutions.{fixed_points_by_factors}
use Rattle.theory_blocks.proofs.Families.Decisions.{vector_eq_zero_or}
use Rattle.theory_blocks.proofs.Ideals.Centres.{centre_subalgebra, centre_basis, centre-one, centre-mul}
use Rattle.theory_factors.proofs.Powers.{two_le_size}
use Rattle.theory_tables.specs.Subspace.{IsReducedBasis, SpansKernel}
use Rattle.theory_tables.specs.Structure.{Structure}
use Rattle.spl_algebra.specs.Subspaces.{SpansCentre}
use Rattle.spl_blocks.specs.Blocks.{IsUnital}
use Rattle.spl_blocks.specs.Fixed.{power_equations}
use Rattle.spl_blocks.specs.Ranks.{HasReducedCentre, HasFieldCentre, FieldCentreByPowers}
use Rattle.spl_blocks.proofs.Tables.{K, A, A_basis, A_is, V, V-path, tuple, power-is, from_is_central, central_of}
use Rattle.spl_blocks.proofs.SimpleBlocks.{one-ne-zero}
use Rattle.spl_blocks.proofs.Ranks.{field_up, field_down}
use Rattle.spl_blocks.proofs.FixedWeights.{size_unique}

mul_two : (k q : ℕ) → 1 ≤ k → 2 ≤ q → suc k ≤ k * q
mul_two k q pos two = let le : k * 2 ≤ k * q = mul-le-mul_left k two in omega (arith, le, pos)

module _ {F V : Type 0} (K : FieldOn F) (E : Enumerated F) (B : AlgebraOn K.ring V) (m : ℕ)
    (base : Basis (module_of B) m) where
  abbrev Z : V → Type 0
  Z = Centre B

  comm : IsCommutativeIn K B Z
  comm x y s t = s y

  -- powers of central elements
  central-power : (x : V) → Z x → (n : ℕ) → Z (power B.ring x n)
  central-power x h zero = centre-one B
  central-power x h (suc n) = centre-mul B x (power B.ring x n) h (central-power x h n)

  -- where no q-th power of another is 0, no power is
  reduced : (q : ℕ) → 2 ≤ q → ((x : V) → Z x → power B.ring x q ≡ B.zero → x ≡ B.zero) → IsReducedIn K B Z
  reduced q two h x zx nil = down nil.exponent nil.vanishes
    where
      down : (n : ℕ) → power B.ring x n ≡ B.zero → x ≡ B.zero
      down zero e = sym (B.one-mul x) ∙ ap (λ y. B.◌⊗◌ y x) e ∙ zero-mul B.ring x
      down (suc zero) e = sym (power_first B.ring x) ∙ e
      down (suc (suc n)) e =
          let k = suc n in
          let y = power B.ring x k in
          let r = k * q - suc k in
          let le : suc k ≤ k * q = mul_two k q (omega arith) two in
          let sp : k * q ≡ suc k + r = omega (arith, le) in
          down (suc n) (h y (central-power x zx k) (power-power B.ring x k q ∙ ap (power B.ring x) sp
          ∙ power-add B.ring x (suc k) r ∙ ap (λ z. B.◌⊗◌ z (power B.ring x r)) e ∙ zero-mul B.ring (power B.ring x r)))

  -- a field is one factor
  module _ (one-ne-zero : B.one ≡ B.zero → ⊥) where
    one_factor : CentreIsField B → FieldFactors K B Z
    one_factor f = record {
      count = 1;
      idempotent = λ _. B.one;
      inside = λ i l. centre-one B;
      nonzero = λ i l. one-ne-zero;
      idempotents = λ i l. B.one-mul B.one;
      orthogonal = λ i j l g n. absurd (n (omega (arith, l, g)));
      sum_to_one = B.zero-add B.one;
      field = λ i l x z e n. let y = f x z n in (y.0, y.1, B.one-mul y.0, y.2);
    }

    field_of : (D : FieldFactors K B Z) → D.count ≡ 1 → CentreIsField B
    field_of D c x z n =
        let e0 = D.idempotent 0 in
        let i0 : 0 < D.count = omega (arith, c) in
        let one : e0 ≡ B.one = sym (B.zero-add e0)
        ∙ subst (λ k. sum B.monoid k D.idempotent ≡ B.one) c D.sum_to_one in
        let g = D.field 0 i0 x z (ap (λ y. B.◌⊗◌ y x) one ∙ B.one-mul x) n in
        (g.0, g.1, g.3 ∙ one)

  solutions : (D : FieldFactors K B Z) → BasisOf (module_of B) D.count (λ z. Z z × IsFixed B.ring E.size z)
  solutions D =
      let s = fixed_points_by_factors K E B m base Z (centre_subalgebra B) comm D in
      record {
        vec = D.idempotent;
        independent = s.independent;
        inside = λ j l. (s.solutions (D.idempotent j)).1 (InSpan-member (module_of B) D.count j D.idempotent l);
        spans = λ z t. (s.solutions z).0 t;
      }

module _ {E : Type 0} (o : Ops E) (L : FieldLaws o) (T : Structure E) (u : IsUnital o T) (positive : 1 ≤ T.dim)
    (N : Enumerated (Elem o)) (p e : ℕ) (prime : IsPrime p)
    (char : times (K o L T u).monoid p (K o L T u).one ≡ (K o L T u).zero) (size : N.size ≡ p ^ e) where
  abbrev F : FieldOn (Elem o)
  F = K o L T u

  abbrev X : AlgebraOn F.ring (V o L T u)
  X = A o L T u

  abbrev base : Basis (module_of X) T.dim
  base = A_basis o L T u

  two : 2 ≤ N.size
  two = two_le_size F N

  reduced_down : HasReducedCentre o N.size T → IsReducedIn F X (Centre X)
  reduced_down h = reduced F N X T.dim base N.size two (λ x z s.
      let is = A_is o L T u in
      V-path o L T u x X.zero (h x.0 (central_of o L T u x z)
      (sym (power-is o L T u x N.size (omega (arith, two))) ∙ ap (λ (y : V o L T u). y.0) s ∙ is.zero-is)
      ∙ sym is.zero-is))

  field_by_powers : (centre : List (List E)) → IsReducedBasis o T.dim centre → SpansCentre o T centre
      → (weights : List (List E)) → IsReducedBasis o (length centre) weights
      → SpansKernel o T.dim (length centre) (power_equations o T N.size centre) weights
      → HasFieldCentre o T ↔ (HasReducedCentre o N.size T × (length weights ≡ 1))
  unfolding one_factor
  field_by_powers centre basis members weights wbasis wmembers =
      let ne = one-ne-zero o L T u positive in
      let count : (D : FieldFactors F X (Centre X)) → length weights ≡ D.count = λ D.
      size_unique o L T u N p e prime char size centre basis.shape members weights wbasis.shape wmembers basis wbasis
      D.count (solutions F N X T.dim base D) in (
        λ f. let g = field_down o L T u f in (
          λ a ca s.
              let x = tuple o L T u a ca.tuple in
              let is = A_is o L T u in
              let zx = from_is_central o L T u x ca in
              let null : power X.ring x N.size ≡ X.zero = V-path o L T u (power X.ring x N.size) X.zero
              (power-is o L T u x N.size (omega (arith, two)) ∙ s ∙ sym is.zero-is) in
              ⊎_elim
              (λ (z : x ≡ X.zero). ap (λ (y : V o L T u). y.0) z ∙ is.zero-is)
              (λ (n : x ≡ X.zero → ⊥).
              let y = g x zx n in
              absurd (ne (sym (power-one X.ring N.size) ∙ ap (λ z. power X.ring z N.size) (sym y.2)
              ∙ power-mul X.ring x y.0 (zx y.0) N.size ∙ ap (λ z. X.◌⊗◌ z (power X.ring y.0 N.size)) null
              ∙ zero-mul X.ring (power X.ring y.0 N.size))))
              (vector_eq_zero_or F (module_of X) T.dim base x),
          count (one_factor F N X T.dim base ne g),
        ),
        λ h.
            let cb = centre_basis F X T.dim base in
            let D = field_factors F N X T.dim base (Centre X) p e prime char size (centre_subalgebra X)
            (comm F N X T.dim base) (reduced_down h.0) cb.0 cb.1 in
            field_up o L T u (field_of F N X T.dim base ne D (sym (count D) ∙ h.1)),
      )

pub field_centre_by_powers : {E : Type 0} (o : Ops E) (L : FieldLaws o) → FieldCentreByPowers o L
field_centre_by_powers o L N p e prime char size T u positive =
    field_by_powers o L T u positive N p e prime char size
