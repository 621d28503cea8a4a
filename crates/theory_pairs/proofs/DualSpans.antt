-- The dual of the lattice of a basis is the lattice of the dual basis; a lattice is its own dual just where its Gram
-- matrix and the inverse have entries in the ring of the weights.
use Rattle.std.specs.Prelude.{◌≡◌, ℕ, ◌<◌}
use Rattle.std.proofs.Common.{refl, sym, ◌∙◌, ap, ap₂, subst}
use Rattle.theory_rings.specs.Ring.{FieldOn}
use Rattle.theory_rings.proofs.Sums.Sums.{sum_congr}
use Rattle.theory_spaces.specs.Module.{ModuleOn}
use Rattle.theory_spaces.specs.Linear.{comb, Basis}
use Rattle.theory_spaces.specs.Matrix.{Matrix, delta}
use Rattle.theory_spaces.specs.Form.{IsBilinear, IsNondegenerate, DualBasis, gram, transpose, flip}
use Rattle.theory_spaces.proofs.Matrices.Matrices.{delta_comm}
use Rattle.theory_spaces.proofs.Linear.Modules.{comb_injective}
use Rattle.theory_spaces.proofs.Forms.Forms.{form-comb_left, form-comb_right, flip_bilinear, flip_nondegenerate}
use Rattle.theory_spaces.proofs.Forms.Forms.{flip_nondegenerate_of_dual, left_dual_basis, dual_basis, dual-expand}
use Rattle.theory_spaces.proofs.Forms.Forms.{gram_mul-gram_dual}
use Rattle.theory_orders.specs.Orders.{Same}
use Rattle.theory_spaces.specs.Lattice.{IsSubring, LatticeOver, DualOf, IsOwnDual}
use Rattle.theory_lattices.proofs.Duals.DualLattices.{weights_are}
use Rattle.theory_pairs.specs.OwnDual.{EntriesIn, InvertsGram}
use Rattle.theory_spaces.proofs.Linear.LatticeSpans.{sum_in, span-comb, span-member}

module _ {K V : Type 0} (F : FieldOn K) (M : ModuleOn F.ring V) (form : V → V → K) (bilinear : IsBilinear M form)
    (n : ℕ) (B : Basis M n) where
  -- vectors with the pairing of a dual basis are one
  abbrev pub dual_of_pairing : (d : ℕ → V) → ((i j : ℕ) → i < n → j < n → form (B.vec i) (d j) ≡ delta F.ring i j)
      → DualBasis M form n B
  dual_of_pairing d p =
      let back : IsBilinear M (flip form) = flip_bilinear F.cring M form bilinear in
      let left : (i j : ℕ) → i < n → j < n → form (B.vec j) (d i) ≡ delta F.ring i j =
      λ i j l g. p j i g l ∙ delta_comm F.ring j i in
      let non : IsNondegenerate M form = flip_nondegenerate_of_dual F M (flip form) back n B d left in
      record {
        basis = left_dual_basis F M (flip form) back n B d left (flip_nondegenerate F M form bilinear n B non);
        dual = record { pairing = p };
      }

  -- a nondegenerate form has invertible Gram matrices
  pub gram_inverse : IsNondegenerate M form → (N : Matrix K) × InvertsGram M form n B.vec N
  gram_inverse non =
      let D : DualBasis M form n B = dual_basis F M form bilinear n B non in
      let d = D.basis in
      (transpose (gram M form d.vec), gram_mul-gram_dual F M form bilinear n B D)

  module _ (P : K → Type 0) (closed : IsSubring F.ring P) where
    abbrev Span : (ℕ → V) → V → Type 0
    Span v = LatticeOver M P n v

    abbrev In : V → Type 0
    In = Span B.vec

    abbrev Star : V → Type 0
    Star = DualOf form P In

    member : (v : ℕ → V) (i : ℕ) → i < n → Span v (v i)
    member v i l = span-member F P closed M n v i l

    module _ (D : DualBasis M form n B) where
      abbrev d : ℕ → V
      d = D.basis.vec

      pub dual_span : Same Star (Span d)
      dual_span = (
        λ x h. record {
          weights = λ i. form (B.vec i) x;
          passes = λ i l. h (B.vec i) (member B.vec i l);
          combines = dual-expand F M form bilinear n B D x;
        },
        λ x s y t. subst P
            (sym (ap₂ form t.combines s.combines
            ∙ form-comb_left F.cring M form bilinear n t.weights B.vec (comb M n s.weights d)
            ∙ sum_congr F.monoid n (λ i. F.◌⊗◌ (t.weights i) (form (B.vec i) (comb M n s.weights d)))
            (λ i. F.◌⊗◌ (t.weights i) (s.weights i))
            (λ i l. ap (F.◌⊗◌ (t.weights i)) (weights_are F M P n form bilinear B.vec d D.pairing s.weights i l))))
            (sum_in F P closed n (λ i. F.◌⊗◌ (t.weights i) (s.weights i))
            (λ i l. closed.mul_in (t.weights i) (s.weights i) (t.passes i l) (s.passes i l))),
      )

    module _ (N : Matrix K) (inverts : InvertsGram M form n B.vec N) where
      abbrev e : ℕ → V
      e j = comb M n (λ k. N k j) B.vec

      e-pairing : (i j : ℕ) → i < n → j < n → form (B.vec i) (e j) ≡ delta F.ring i j
      e-pairing i j l g = form-comb_right F.cring M form bilinear n (λ k. N k j) B.vec (B.vec i)
          ∙ sum_congr F.monoid n (λ k. F.◌⊗◌ (N k j) (form (B.vec i) (B.vec k)))
          (λ k. F.◌⊗◌ (form (B.vec i) (B.vec k)) (N k j))
          (λ k _. F.mul_comm (N k j) (form (B.vec i) (B.vec k)))
          ∙ inverts i j l g

      star_is : Same Star (Span e)
      star_is = dual_span (dual_of_pairing e e-pairing)

      pub entries_of_own_dual : IsOwnDual form P In → EntriesIn P n (gram M form B.vec) × EntriesIn P n N
      entries_of_own_dual h = (
        λ i j l g. h.1 (B.vec j) (member B.vec j g) (B.vec i) (member B.vec i l),
        λ k j l g.
            let s = h.0 (e j) (star_is.1 (e j) (member e j g)) in
            subst P (comb_injective M n B.vec B.independent s.weights (λ k. N k j) (sym s.combines) k l) (s.passes k l),
      )

      pub own_dual_of_entries : EntriesIn P n (gram M form B.vec) → EntriesIn P n N → IsOwnDual form P In
      own_dual_of_entries g h = (
        λ x s.
            let t = star_is.0 x s in
            subst In (sym t.combines) (span-comb F P closed M n B.vec n t.weights e t.passes
            (λ j l. record { weights = λ k. N k j; passes = λ k a. h k j a l; combines = refl })),
        λ x s y t. subst P
            (sym (ap₂ form t.combines s.combines
            ∙ form-comb_left F.cring M form bilinear n t.weights B.vec (comb M n s.weights B.vec)))
            (sum_in F P closed n (λ i. F.◌⊗◌ (t.weights i) (form (B.vec i) (comb M n s.weights B.vec))) (λ i l.
            closed.mul_in (t.weights i) (form (B.vec i) (comb M n s.weights B.vec)) (t.passes i l)
            (subst P (sym (form-comb_right F.cring M form bilinear n s.weights B.vec (B.vec i)))
            (sum_in F P closed n (λ j. F.◌⊗◌ (s.weights j) (form (B.vec i) (B.vec j))) (λ j a.
            closed.mul_in (s.weights j) (form (B.vec i) (B.vec j)) (s.passes j a) (g i j l a)))))),
      )
