-- Matrices over a lift ring: they agree modulo p where their residues do, entry by entry, and a matrix over the field
-- is lifted entry by entry.
use Rattle.std.specs.Prelude.{◌≡◌, ℕ, zero, suc, ◌<◌, ◌≤◌, cond, eqb, Bool, true, false, ◌⊎◌}
use Rattle.std.proofs.Common.{refl, sym, ◌∙◌, ap, ap₂, inl, inr, ⊎_elim}
use Rattle.std.proofs.lemmas.Bool.{cases_lt}
use Rattle.theory_rings.specs.Ring.{RingOn, CommRingOn, FieldOn}
use Rattle.theory_rings.specs.Power.{power, times}
use Rattle.theory_rings.proofs.Rings.Fields.{field_set}
use Rattle.theory_rings.proofs.Sums.Sums.{sum_congr, map-sum}
use Rattle.theory_rings.proofs.Powers.Times.{map-times}
use Rattle.theory_spaces.specs.Matrix.{Matrix, delta, mat_trace, Mat}
use Rattle.theory_spaces.proofs.Matrices.Matrices.{Mat-ext, mat, mat-entry, matrices, mat_trace_comm, mat_trace-add}
use Rattle.theory_radical.specs.Congruence.{CongruentMod}
use Rattle.theory_radical.specs.Trace.{IsTrace}
use Rattle.theory_radical.specs.LiftRing.{LiftRingOn}
use Rattle.theory_radical.specs.Chain.{mat_power}
use Rattle.theory_radical.proofs.Words.Multiples.{congruent_of_eq}
use Rattle.theory_radical.proofs.Chain.RingChains.{IsLiftMap}
use Rattle.theory_radical.proofs.Lifts.LiftRings.{up, down-up, down-zero, congruent_of_down}

module _ {W : Type 0} (C : CommRingOn W) (set : IsSet W) (m : ℕ) where
  infixl 65 ◌⊕◌
  infixl 70 ◌⊗◌
  open C use {ring, additive, monoid, ◌⊕◌, ◌⊗◌}

  abbrev M : RingOn (Mat ring m)
  M = matrices ring set m

  -- the trace of a matrix over a commutative ring is a trace
  pub mat_trace_is : IsTrace M additive (λ x. mat_trace ring m x.0)
  mat_trace_is = record {
    map-add = λ x y. mat_trace-add ring m x.0 y.0;
    map-mul_comm = λ x y. mat_trace_comm C m m x.0 y.0;
  }

  -- powers and their traces, of matrices that need not be 0 outside
  pub power-entry : (f : Matrix W) (k i j : ℕ) → i < m → j < m
      → (power M (mat ring set m f) k).0 i j ≡ mat_power ring m f k i j
  power-entry f zero i j a b = mat-entry ring set m (delta ring) i j a b
  power-entry f (suc k) i j a b =
      sum_congr monoid m (λ l. (mat ring set m f).0 i l ⊗ (power M (mat ring set m f) k).0 l j)
      (λ l. f i l ⊗ mat_power ring m f k l j)
      (λ l g. ap₂ (λ x y. x ⊗ y) (mat-entry ring set m f i l a g) (power-entry f k l j g b))

  pub trace-power : (f : Matrix W) (k : ℕ)
      → mat_trace ring m (power M (mat ring set m f) k).0 ≡ mat_trace ring m (mat_power ring m f k)
  trace-power f k = sum_congr monoid m (λ i. (power M (mat ring set m f) k).0 i i) (λ i. mat_power ring m f k i i)
      (λ i l. power-entry f k i i l l)

  times-entry : (q : ℕ) (x : Mat ring m) (i j : ℕ) → (times M.monoid q x).0 i j ≡ times monoid q (x.0 i j)
  times-entry q x i j = map-times M.monoid monoid (λ (y : Mat ring m). y.0 i j) refl (λ a b. refl) q x

  -- matrices that agree entry by entry
  pub congruent_matrices : (q : ℕ) (x y : Mat ring m)
      → ((i j : ℕ) → i < m → j < m → CongruentMod monoid q (x.0 i j) (y.0 i j)) → CongruentMod M.monoid q x y
  congruent_matrices q x y h = record {
    part = mat ring set m part;
    is = Mat-ext ring set m x (M.◌⊕◌ y (times M.monoid q (mat ring set m part))) (λ i j a b.
        (each i j).is ∙ ap (λ z. y.0 i j ⊕ times monoid q z) (sym (mat-entry ring set m part i j a b))
        ∙ ap (λ z. y.0 i j ⊕ z) (sym (times-entry q (mat ring set m part) i j)));
  }
    where
      outside : (i j : ℕ) → (m ≤ i) ⊎ (m ≤ j) → CongruentMod monoid q (x.0 i j) (y.0 i j)
      outside i j d = congruent_of_eq monoid q (x.0 i j) (y.0 i j) (x.1 i j d ∙ sym (y.1 i j d))

      each : (i j : ℕ) → CongruentMod monoid q (x.0 i j) (y.0 i j)
      each i j = ⊎_elim
          (λ (a : i < m). ⊎_elim (λ (b : j < m). h i j a b) (λ (b : m ≤ j). outside i j (inr b)) (cases_lt j m))
          (λ (a : m ≤ i). outside i j (inl a)) (cases_lt i m)

      part : Matrix W
      part i j = (each i j).part

module _ {K W : Type 0} {F : FieldOn K} {p n : ℕ} (L : LiftRingOn F p n W) (m : ℕ) where
  abbrev pub MF : RingOn (Mat F.ring m)
  MF = matrices F.ring (field_set F) m

  abbrev pub MW : RingOn (Mat L.ring.ring m)
  MW = matrices L.ring.ring L.set m

  abbrev pub tr : Mat L.ring.ring m → W
  tr x = mat_trace L.ring.ring m x.0

  abbrev rep : K → W
  rep = up F.cring L.ring p n L.down L.is_lift

  -- matrices whose residues are the same agree modulo p
  pub congruent_of_residues : (x y : Mat L.ring.ring m)
      → ((i j : ℕ) → i < m → j < m → L.down (x.0 i j) ≡ L.down (y.0 i j)) → CongruentMod MW.monoid p x y
  congruent_of_residues x y h =
      congruent_matrices L.ring L.set m p x y
      (λ i j a b. congruent_of_down F.cring L.ring p n L.down L.is_lift (x.0 i j) (y.0 i j) (h i j a b))

  -- a matrix over the field, lifted entry by entry
  pub raise : Mat F.ring m → Mat L.ring.ring m
  raise x = mat L.ring.ring L.set m (λ i j. rep (x.0 i j))

  pub down-raise : (x : Mat F.ring m) (i j : ℕ) → i < m → j < m → L.down ((raise x).0 i j) ≡ x.0 i j
  unfolding raise
  down-raise x i j a b = ap L.down (mat-entry L.ring.ring L.set m (λ i j. rep (x.0 i j)) i j a b)
      ∙ down-up F.cring L.ring p n L.down L.is_lift (x.0 i j)

  pub down-delta : (i j : ℕ) → L.down (delta L.ring.ring i j) ≡ delta F.ring i j
  down-delta i j = go (eqb i j)
    where
      go : (b : Bool) → L.down (cond b L.ring.one L.ring.zero) ≡ cond b F.one F.zero
      go true = L.is_lift.homomorphism.map-one
      go false = down-zero F.cring L.ring p n L.down L.is_lift

  -- the residue of a product
  down-mul : (x y : Mat L.ring.ring m) (u v : Mat F.ring m) → ((i j : ℕ) → i < m → j < m → L.down (x.0 i j) ≡ u.0 i j)
      → ((i j : ℕ) → i < m → j < m → L.down (y.0 i j) ≡ v.0 i j)
      → (i j : ℕ) → i < m → j < m → L.down ((MW.◌⊗◌ x y).0 i j) ≡ (MF.◌⊗◌ u v).0 i j
  down-mul x y u v hx hy i j a b =
      let H = L.is_lift.homomorphism in
      map-sum L.ring.monoid F.monoid L.down (down-zero F.cring L.ring p n L.down L.is_lift) H.map-add m
      (λ k. L.ring.◌⊗◌ (x.0 i k) (y.0 k j))
      ∙ sum_congr F.monoid m (λ k. L.down (L.ring.◌⊗◌ (x.0 i k) (y.0 k j))) (λ k. F.◌⊗◌ (u.0 i k) (v.0 k j))
      (λ k l. H.map-mul (x.0 i k) (y.0 k j) ∙ ap₂ F.◌⊗◌ (hx i k a l) (hy k j l b))

  pub raise_is_lift : IsLiftMap MF MW p raise
  raise_is_lift = record {
    lift-add = λ x y. congruent_of_residues (raise (MF.◌⊕◌ x y)) (MW.◌⊕◌ (raise x) (raise y)) (λ i j a b.
        down-raise (MF.◌⊕◌ x y) i j a b
        ∙ sym (L.is_lift.homomorphism.map-add ((raise x).0 i j) ((raise y).0 i j)
        ∙ ap₂ F.◌⊕◌ (down-raise x i j a b) (down-raise y i j a b)));
    lift-mul = λ x y. congruent_of_residues (raise (MF.◌⊗◌ x y)) (MW.◌⊗◌ (raise x) (raise y)) (λ i j a b.
        down-raise (MF.◌⊗◌ x y) i j a b ∙ sym (down-mul (raise x) (raise y) x y (down-raise x) (down-raise y) i j a b));
    lift-one = congruent_of_residues (raise MF.one) MW.one (λ i j a b.
        down-raise MF.one i j a b ∙ mat-entry F.ring (field_set F) m (delta F.ring) i j a b
        ∙ sym (ap L.down (mat-entry L.ring.ring L.set m (delta L.ring.ring) i j a b) ∙ down-delta i j));
  }
