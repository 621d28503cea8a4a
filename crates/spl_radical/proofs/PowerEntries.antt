-- Powers of matrices whose entries in the first rows and columns are known.
use Rattle.std.specs.Prelude.{◌≡◌, ℕ, zero, suc, ◌+◌, ◌<◌}
use Rattle.std.proofs.Common.{refl, sym, ◌∙◌, ap}
use Rattle.theory_rings.specs.Ring.{RingOn, CommRingOn}
use Rattle.theory_rings.specs.Power.{power}
use Rattle.theory_rings.proofs.Powers.Powers.{power-add}
use Rattle.theory_spaces.specs.Matrix.{Matrix, mat_mul, Mat}
use Rattle.theory_spaces.proofs.Matrices.Matrices.{mat, matrices, mat_mul_congr, mat_mul-delta}
use Rattle.theory_radical.specs.Chain.{mat_power}
use Rattle.theory_radical.proofs.Lifts.LiftedMatrices.{power-entry}

module _ {W : Type 0} (C : CommRingOn W) (set : IsSet W) (m : ℕ) (f : Matrix W) where
  abbrev M : RingOn (Mat C.ring m)
  M = matrices C.ring set m

  abbrev Within : (Matrix W) → ℕ → Type 0
  Within P e = (i j : ℕ) → i < m → j < m → P i j ≡ mat_power C.ring m f e i j

  abbrev pow : ℕ → Mat C.ring m
  pow e = power M (mat C.ring set m f) e

  entry : (e i j : ℕ) → i < m → j < m → (pow e).0 i j ≡ mat_power C.ring m f e i j
  entry = power-entry C set m f

  -- the first power
  pub first_entry : (i j : ℕ) → j < m → f i j ≡ mat_power C.ring m f 1 i j
  first_entry i j l = sym (mat_mul-delta C.ring m f i j l)

  -- the square of a power
  pub square_entry : (h e : ℕ) (P : Matrix W) → e ≡ h + h → Within P h → Within (mat_mul C.ring m P P) e
  square_entry h e P s g i j a b =
      mat_mul_congr C.ring m P (pow h).0 P (pow h).0 i j (λ k l. g i k a l ∙ sym (entry h i k a l))
      (λ k l. g k j l b ∙ sym (entry h k j l b))
      ∙ ap (λ (x : Mat C.ring m). x.0 i j) (sym (power-add M (mat C.ring set m f) h h))
      ∙ entry (h + h) i j a b ∙ ap (λ e. mat_power C.ring m f e i j) (sym s)

  -- the next power
  pub next_entry : (d e : ℕ) (P : Matrix W) → e ≡ suc d → Within P d → Within (mat_mul C.ring m f P) e
  next_entry d e P s g i j a b =
      mat_mul_congr C.ring m f f P (mat_power C.ring m f d) i j (λ k l. refl) (λ k l. g k j l b)
      ∙ ap (λ e. mat_power C.ring m f e i j) (sym s)

-- powers of matrices with the same entries
pub power_entries : {W : Type 0} (R : RingOn W) (m : ℕ) (f g : Matrix W)
    → ((i j : ℕ) → i < m → j < m → f i j ≡ g i j) → (e i j : ℕ) → i < m → j < m
    → mat_power R m f e i j ≡ mat_power R m g e i j
power_entries R m f g h zero i j a b = refl
power_entries R m f g h (suc e) i j a b =
    mat_mul_congr R m f g (mat_power R m f e) (mat_power R m g e) i j (λ k l. h i k a l)
    (λ k l. power_entries R m f g h e k j l b)
