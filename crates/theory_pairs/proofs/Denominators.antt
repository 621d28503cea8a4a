-- Common denominators: where each element of a field becomes one of a subring by a factor of it other than 0, finitely
-- many do by one factor. So a lattice is its own dual at each place at which one denominator is a unit.
use Rattle.std.specs.Prelude.{◌≡◌, ℕ, zero, suc, ◌<◌}
use Rattle.std.proofs.Common.{sym, ap, subst, arith}
use Rattle.theory_rings.specs.Ring.{FieldOn}
use Rattle.theory_rings.proofs.Rings.Fields.{field_mul-ne-zero, inv_mul_cancel_left}
use Rattle.theory_spaces.specs.Module.{ModuleOn, AlgebraOn, module_of}
use Rattle.theory_spaces.specs.Linear.{Basis}
use Rattle.theory_spaces.specs.Matrix.{Matrix}
use Rattle.theory_spaces.specs.Algebra.{Nondegenerate}
use Rattle.theory_spaces.specs.Form.{gram, trace_form}
use Rattle.theory_spaces.specs.Lattice.{IsSubring}
use Rattle.theory_spaces.proofs.Linear.Families.{below_suc}
use Rattle.theory_spaces.proofs.Forms.TraceForms.{trace_form_bilinear}
use Rattle.theory_orders.specs.Uniformizer.{IsIntegral}
use Rattle.theory_pairs.specs.Subring.{HasFractions}
use Rattle.theory_pairs.specs.OwnDual.{InvertsGram}
use Rattle.theory_pairs.specs.PlaceLaws.{SelfDualOutside}
use Rattle.theory_pairs.proofs.DualSpans.{gram_inverse}
use Rattle.theory_pairs.proofs.DualsAtPlaces.{self_dual_iff}

module _ {K : Type 0} (F : FieldOn K) (P : K → Type 0) (R : IsSubring F.ring P) (H : HasFractions F P) where
  infixl 70 ◌⊗◌
  open F use {◌⊗◌}

  -- some element of the subring other than 0 has the property
  abbrev pub Some : (K → Type 0) → Type 0
  Some X = (d : K) × P d × (d ≡ F.zero → ⊥) × X d

  -- where multiples keep each of m properties, some element has all of them
  common : (m : ℕ) (X : ℕ → K → Type 0) → ((i : ℕ) (c d : K) → P c → X i d → X i (c ⊗ d))
      → ((i : ℕ) → i < m → Some (X i)) → Some (λ d. (i : ℕ) → i < m → X i d)
  common zero X more h = (F.one, R.one_in, F.one-nonzero, λ i l. absurd (omega arith))
  common (suc m) X more h =
      let a = common m X more (λ i l. h i (omega arith)) in
      let b = h m (omega arith) in (
        a.0 ⊗ b.0,
        R.mul_in a.0 b.0 a.1 b.1,
        field_mul-ne-zero F a.0 b.0 a.2 b.2,
        below_suc m (λ i. X i (a.0 ⊗ b.0)) (λ i l. subst (X i) (F.mul_comm b.0 a.0) (more i b.0 a.0 b.1 (a.3 i l)))
            (more m a.0 b.0 a.1 b.3),
      )

  more_one : (x c d : K) → P c → P (d ⊗ x) → P ((c ⊗ d) ⊗ x)
  more_one x c d p h = subst P (sym (F.mul_assoc c d x)) (R.mul_in c (d ⊗ x) p h)

  pub row_denominator : (n : ℕ) (f : ℕ → K) → Some (λ d. (i : ℕ) → i < n → P (d ⊗ f i))
  row_denominator n f = common n (λ i d. P (d ⊗ f i)) (λ i. more_one (f i))
      (λ i _. let h = H (f i) in let d = h.1 in (h.0, d.inside, d.nonzero, d.clears))

  pub matrix_denominator : (m n : ℕ) (f : ℕ → ℕ → K) → Some (λ d. (i : ℕ) → i < m → (j : ℕ) → j < n → P (d ⊗ f i j))
  matrix_denominator m n f = common m (λ i d. (j : ℕ) → j < n → P (d ⊗ f i j))
      (λ i c d p h j l. more_one (f i j) c d p (h j l)) (λ i _. row_denominator n (f i))

  -- one element carries all structure constants into the subring
  pub table_denominator : (n : ℕ) (f : ℕ → ℕ → ℕ → K)
      → Some (λ d. (i : ℕ) → i < n → (j : ℕ) → j < n → (k : ℕ) → k < n → P (d ⊗ f i j k))
  table_denominator n f = common n (λ i d. (j : ℕ) → j < n → (k : ℕ) → k < n → P (d ⊗ f i j k))
      (λ i c d p h j l k g. more_one (f i j k) c d p (h j l k g)) (λ i _. matrix_denominator n n (f i))

  module _ {V : Type 0} (A : AlgebraOn F.ring V) (n : ℕ) (B : Basis (module_of A) n) (non : Nondegenerate A n B)
      (v : Basis (module_of A) n) where
    abbrev M : ModuleOn F.ring V
    M = module_of A

    abbrev f : V → V → K
    f = trace_form A n B

    abbrev G : Matrix K
    G = gram M f v.vec

    inverse : (N : Matrix K) × InvertsGram M f n v.vec N
    inverse = gram_inverse F M f (trace_form_bilinear F.cring A n B) n v non

    pub self_dual_outside : (d : K) × SelfDualOutside F P A n B v.vec d
    self_dual_outside =
        let a = matrix_denominator n n G in
        let b = matrix_denominator n n inverse.0 in
        let d : K = a.0 ⊗ b.0 in
        let nd = field_mul-ne-zero F a.0 b.0 a.2 b.2 in (
          d,
          record {
            inside = R.mul_in a.0 b.0 a.1 b.1;
            nonzero = nd;
            self_dual = λ Z within unit.
                let in_at : (x : K) → P (d ⊗ x) → IsIntegral F Z x = λ x p.
                let Q : K → Type 0 = IsIntegral F Z in
                subst Q (inv_mul_cancel_left F d x nd) (Z.mul_in (F.inv d) (d ⊗ x) unit.1 (within (d ⊗ x) p)) in
                (self_dual_iff F Z A n B v inverse.0 inverse.1).1 (
                  λ i j l g. in_at (G i j)
                      (subst P (ap (λ t. t ⊗ G i j) (F.mul_comm b.0 a.0)) (more_one (G i j) b.0 a.0 b.1 (a.3 i l j g))),
                  λ i j l g. in_at (inverse.0 i j) (more_one (inverse.0 i j) a.0 b.0 a.1 (b.3 i l j g)),
                );
          },
        )
