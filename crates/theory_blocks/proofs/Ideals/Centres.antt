-- The centre of an algebra is a subalgebra, with a basis where the algebra has one, and in a simple algebra it is a
-- field.
use Rattle.std.specs.Prelude.{◌≡◌, ℕ, zero, suc, ◌<◌}
use Rattle.std.proofs.Common.{sym, ◌∙◌, ap, ap₂, arith}
use Rattle.theory_rings.specs.Ring.{RingOn, FieldOn}
use Rattle.theory_rings.specs.Sum.{sum}
use Rattle.theory_rings.proofs.Rings.RingLaws.{mul-zero, zero-mul}
use Rattle.theory_rings.proofs.Rings.ZeroTests.{eq_of_sub_eq_zero, sub_eq_zero_of_eq}
use Rattle.theory_rings.proofs.Sums.Sums.{sum_congr, mul-sum}
use Rattle.theory_spaces.specs.Module.{ModuleOn, AlgebraOn, module_of}
use Rattle.theory_spaces.specs.Linear.{IsSubmodule, IsLinear, Basis, BasisOf}
use Rattle.theory_spaces.specs.Subspaces.{Whole, Kernel}
use Rattle.theory_spaces.specs.AlgebraMap.{IsSimple}
use Rattle.theory_spaces.proofs.Linear.Families.{below_suc}
use Rattle.theory_spaces.proofs.Linear.Modules.{left_linear, right_linear, linear_ext}
use Rattle.theory_spaces.proofs.Linear.Spaces.{coords_of}
use Rattle.theory_spaces.proofs.Linear.Subspaces.{BasisOf-iff, whole_basis, neg_in}
use Rattle.theory_spaces.proofs.Linear.Kernels.{rank_nullity}
use Rattle.theory_spaces.proofs.Algebras.MinimalIdempotents.{one_through}
use Rattle.theory_blocks.specs.FixedPoints.{IsSubalgebra}
use Rattle.theory_blocks.specs.Centre.{Centre, CentreIsField}
use Rattle.theory_spaces.specs.Functions.{maps}
use Rattle.theory_blocks.proofs.Families.Spans.{linear_submodule}

module _ {K V : Type 0} {R : RingOn K} (A : AlgebraOn R V) where
  infixl 65 ◌⊕◌
  infixl 70 ◌⊗◌
  infixl 70 ◌•◌
  open A use {ring, monoid, one, ◌⊕◌, ◌⊗◌, ◌•◌}

  -- what commutes with each y i is a subspace
  commuting_submodule : {I : Type 0} (y : I → V) → IsSubmodule (module_of A) (λ x. (i : I) → x ⊗ y i ≡ y i ⊗ x)
  commuting_submodule y = record {
    zero-in = λ i. zero-mul ring (y i) ∙ sym (mul-zero ring (y i));
    add-in = λ x z h g i. A.add-mul x z (y i) ∙ ap₂ (λ p q. p ⊕ q) (h i) (g i) ∙ sym (A.mul-add (y i) x z);
    scale-in = λ c x h i. A.scale-left c x (y i) ∙ ap (λ z. c • z) (h i) ∙ sym (A.scale-right c (y i) x);
  }

  pub centre_submodule : IsSubmodule (module_of A) (Centre A)
  centre_submodule = commuting_submodule (λ y. y)

  pub centre-one : Centre A one
  centre-one y = A.one-mul y ∙ sym (A.mul-one y)

  pub centre-mul : (x z : V) → Centre A x → Centre A z → Centre A (x ⊗ z)
  centre-mul x z h g y = A.mul_assoc x z y ∙ ap (λ t. x ⊗ t) (g y) ∙ sym (A.mul_assoc x y z) ∙ ap (λ t. t ⊗ z) (h y)
      ∙ A.mul_assoc y x z

  pub centre_subalgebra : IsSubalgebra A (Centre A)
  centre_subalgebra = record { subspace = centre_submodule; one-in = centre-one; mul-in = centre-mul }

  -- the inverse of an element of the centre is in the centre
  centre-inverse : (x w : V) → Centre A x → x ⊗ w ≡ one → Centre A w
  centre-inverse x w p e y =
      let e' : w ⊗ x ≡ one = sym (p w) ∙ e in
      sym (A.mul-one (w ⊗ y)) ∙ ap (λ t. w ⊗ y ⊗ t) (sym e) ∙ A.mul_assoc w y (x ⊗ w)
      ∙ ap (λ t. w ⊗ t) (sym (A.mul_assoc y x w) ∙ ap (λ t. t ⊗ w) (sym (p y)) ∙ A.mul_assoc x y w)
      ∙ sym (A.mul_assoc w x (y ⊗ w)) ∙ ap (λ t. t ⊗ (y ⊗ w)) e' ∙ A.one-mul (y ⊗ w)

  -- in a simple algebra one is a sum of products u·x·v, which is x·(u·v + ..) for x in the centre
  pub centre_field : (m : ℕ) → Basis (module_of A) m → IsSimple A → CentreIsField A
  centre_field m B simple x p d =
      let o = one_through A m B x simple d in
      let w = sum monoid o.size (λ i. o.left i ⊗ o.right i) in
      let e : x ⊗ w ≡ one =
      mul-sum ring o.size x (λ i. o.left i ⊗ o.right i)
      ∙ sum_congr monoid o.size (λ i. x ⊗ (o.left i ⊗ o.right i)) (λ i. (o.left i ⊗ x) ⊗ o.right i)
      (λ i _. sym (A.mul_assoc x (o.left i) (o.right i)) ∙ ap (λ t. t ⊗ o.right i) (p (o.left i)))
      ∙ sym o.sums in
      (w, centre-inverse x w p e, e)

-- a basis of what commutes with the first vectors of a basis, one vector more at a time
module _ {K V : Type 0} (F : FieldOn K) (A : AlgebraOn F.ring V) (m : ℕ) (B : Basis (module_of A) m) where
  infixl 65 ◌⊕◌
  infixl 70 ◌⊗◌
  open A use {◌⊕◌, ◌⊗◌, neg}

  abbrev M : ModuleOn F.ring V
  M = module_of A

  abbrev Commutes : ℕ → V → Type 0
  Commutes n x = (p : (i : ℕ) × (i < n)) → x ⊗ B.vec p.0 ≡ B.vec p.0 ⊗ x

  commutator_linear : (b : V) → IsLinear M M (λ x. x ⊗ b ⊕ neg (b ⊗ x))
  commutator_linear b =
      let linear = linear_submodule F M in
      linear.add-in (λ x. x ⊗ b) (λ x. neg (b ⊗ x)) (right_linear A b)
      (neg_in (maps V M) (IsLinear M M) linear (λ x. b ⊗ x) (left_linear A b))

  commuting_basis : (n : ℕ) → (r : ℕ) × BasisOf M r (Commutes n)
  commuting_basis zero = (
    m,
    BasisOf-iff M m Whole (Commutes zero) (λ x _ p. let l = p.1 in absurd (omega arith)) (λ x _. tt)
        (whole_basis M m B),
  )
  commuting_basis (suc n) =
      let b = B.vec n in
      let f = λ (x : V). x ⊗ b ⊕ neg (b ⊗ x) in
      let T = commuting_basis n in
      let r = rank_nullity F M M m (coords_of M m B) f (commutator_linear b) (Commutes n)
      (commuting_submodule A (λ p. B.vec p.0)) T.0 T.1 in (
        r.nullity,
        BasisOf-iff M r.nullity (Kernel M M f (Commutes n)) (Commutes (suc n))
            (λ x k p. below_suc n (λ i. x ⊗ B.vec i ≡ B.vec i ⊗ x) (λ i l. k.0 (i, l))
            (eq_of_sub_eq_zero A.additive (x ⊗ b) (b ⊗ x) k.1) p.0 p.1)
            (λ x h. (
              λ p. h (p.0, (let l = p.1 in omega arith)),
              sub_eq_zero_of_eq A.additive (x ⊗ b) (b ⊗ x) (h (n, omega arith)),
            ))
            r.kernel,
      )

  pub centre_basis : (r : ℕ) × BasisOf M r (Centre A)
  centre_basis =
      let T = commuting_basis m in (
        T.0,
        BasisOf-iff M T.0 (Commutes m) (Centre A)
            (λ x h y. linear_ext M M (λ y. x ⊗ y) (λ y. y ⊗ x) (left_linear A x) (right_linear A x) m B.vec
            (λ i l. h (i, l))
            y (record { weights = B.coord y; combines = B.expand y }))
            (λ x h p. h (B.vec p.0)) T.1,
      )
