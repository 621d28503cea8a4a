-- What claims exclude.
use Rattle.std.specs.Prelude.{◌≡◌, ℕ, ◌+◌, ◌*◌, ◌-◌, ◌<◌, ◌==◌, ◌&&◌, List, [], ◌∷◌, length, get_or, suc}
use Rattle.std.proofs.Common.{refl, sym, ◌∙◌, ap, ap₂, arith, ⊎_elim}
use Rattle.theory_rings.specs.Ring.{CommRingOn, FieldOn}
use Rattle.theory_rings.specs.Ops.{Ops, IsElem, FieldLaws}
use Rattle.theory_rings.specs.Elements.{Elem, Elem-path, elements}
use Rattle.theory_rings.specs.Sum.{sum, table, at}
use Rattle.theory_rings.proofs.Sums.Sums.{sum_congr, sum_eq_zero, sum-add, sum_comm, mul-sum}
use Rattle.theory_rings.proofs.Rings.RingLaws.{mul-zero}
use Rattle.theory_rings.proofs.Rings.Elements.{at-elem, sum_of-elements, sum_of_congr}
use Rattle.theory_rings.proofs.Rings.Solver.{◌⊞◌, ◌⊠◌, ring5}
use Rattle.theory_spaces.specs.Matrix.{delta}
use Rattle.theory_spaces.specs.Space.{sum2}
use Rattle.theory_spaces.specs.Tuples.{tuple_scale, basis, product, constant}
use Rattle.theory_spaces.proofs.Matrices.Matrices.{sum-mul_delta}
use Rattle.theory_spaces.proofs.Linear.Dimension.{exchange}
use Rattle.theory_spaces.proofs.Tuples.Tables.{unit, units_independent, sum2_congr, mul-sum2}
use Rattle.theory_spaces.proofs.Tuples.Tuples.{at-table, IsTuple-table, tuples, tuple_space}
use Rattle.theory_spaces.proofs.Tuples.TupleProducts.{IsTuple-basis, scale-product}
use Rattle.theory_tables.specs.Matrix.{entry}
use Rattle.theory_tables.specs.Structure.{Structure, IsOver}
use Rattle.theory_tables.specs.Conditions.{multiplier_at}
use Rattle.theory_tables.proofs.Rows.Terms as terms
use Rattle.theory_tables.proofs.Rows.Sums.{sum_of_zeros}
use Rattle.theory_tables.specs.Algebras.{HasIdentity, HasSmallCentre, IsCentralSimple, AreZero, SpansAll}
use Rattle.theory_tables.specs.Claims.{NoIdentityClaim, CentralClaim, IdealClaim}
use Rattle.theory_tables.specs.Laws.{ClaimsExcludeCentralSimple}
use Rattle.theory_tables.proofs.Algebras.Bridge.{sum2_of-elements, IsTuple-of, basis-at, row, to_span, product_basis-at}
use Rattle.theory_tables.proofs.Algebras.Bridge.{basis_product-at}
use Rattle.theory_tables.proofs.Algebras.SpannedIdeals.{spans_ideal}

-- multipliers l and r of the equations Σ_i e_i·a_ijk = δ_kj and Σ_i e_i·b_ijk = δ_kj that make their left sides 0 make
-- their right sides 0
module _ {R : Type 0} (C : CommRingOn R) where
  infixl 65 ◌⊕◌
  infixl 70 ◌⊗◌
  open C use {ring, monoid, ◌⊕◌, ◌⊗◌}

  pub right_sides_vanish : (n : ℕ) (l r : ℕ → ℕ → R) (a b : ℕ → ℕ → ℕ → R) (e : ℕ → R)
      → ((j k : ℕ) → j < n → k < n → sum monoid n (λ i. e i ⊗ a i j k) ≡ delta ring k j)
      → ((j k : ℕ) → j < n → k < n → sum monoid n (λ i. e i ⊗ b i j k) ≡ delta ring k j)
      → ((i : ℕ) → i < n → sum2 ring n (λ j k. l j k ⊗ a i j k ⊕ r j k ⊗ b i j k) ≡ C.zero)
      → sum monoid n (λ j. l j j ⊕ r j j) ≡ C.zero
  right_sides_vanish n l r a b e ha hb kills =
      let term : ℕ → ℕ → ℕ → R = λ i j k. l j k ⊗ a i j k ⊕ r j k ⊗ b i j k in
      let both : ℕ → ℕ → R = λ j k. l j k ⊗ delta ring k j ⊕ r j k ⊗ delta ring k j in
      let each : (j k : ℕ) → j < n → k < n → both j k ≡ sum monoid n (λ i. e i ⊗ term i j k) = λ j k j_in k_in.
      ap₂ (λ x y. l j k ⊗ x ⊕ r j k ⊗ y) (sym (ha j k j_in k_in)) (sym (hb j k j_in k_in))
      ∙ ap₂ (λ x y. x ⊕ y) (mul-sum ring n (l j k) (λ i. e i ⊗ a i j k)) (mul-sum ring n (r j k) (λ i. e i ⊗ b i j k))
      ∙ sym (sum-add monoid n (λ i. l j k ⊗ (e i ⊗ a i j k)) (λ i. r j k ⊗ (e i ⊗ b i j k)))
      ∙ sum_congr monoid n (λ i. l j k ⊗ (e i ⊗ a i j k) ⊕ r j k ⊗ (e i ⊗ b i j k)) (λ i. e i ⊗ term i j k)
      (λ i _. ring5 C (λ l r e a b. (l ⊠ (e ⊠ a) ⊞ r ⊠ (e ⊠ b), e ⊠ (l ⊠ a ⊞ r ⊠ b))) refl (l j k) (r j k) (e i)
      (a i j k) (b i j k)) in
      sum_congr monoid n (λ j. l j j ⊕ r j j) (λ j. sum monoid n (both j)) (λ j j_in.
      ap₂ (λ x y. x ⊕ y) (sym (sum-mul_delta ring n (l j) j j_in)) (sym (sum-mul_delta ring n (r j) j j_in))
      ∙ sym (sum-add monoid n (λ k. l j k ⊗ delta ring k j) (λ k. r j k ⊗ delta ring k j)))
      ∙ sum2_congr ring n both (λ j k. sum monoid n (λ i. e i ⊗ term i j k)) each
      ∙ sum_congr monoid n (λ j. sum monoid n (λ k. sum monoid n (λ i. e i ⊗ term i j k)))
      (λ j. sum monoid n (λ i. sum monoid n (λ k. e i ⊗ term i j k)))
      (λ j _. sum_comm monoid n n (λ k i. e i ⊗ term i j k))
      ∙ sum_comm monoid n n (λ j i. sum monoid n (λ k. e i ⊗ term i j k))
      ∙ sum_eq_zero monoid n (λ i. sum2 ring n (λ j k. e i ⊗ term i j k))
      (λ i i_in. sym (mul-sum2 ring n (e i) (term i)) ∙ ap (λ x. e i ⊗ x) (kills i i_in) ∙ mul-zero ring (e i))

module _ {E : Type 0} (o : Ops E) where
  -- multipliers are elements, and so is the 0 elsewhere
  pub multiplier_at-elem : FieldLaws o → (list : List (ℕ × ℕ × E))
      → ((s : ℕ) → s < length list → IsElem o (get_or list s (0, 0, o.zero)).2)
      → (j k : ℕ) → IsElem o (multiplier_at o list j k)
  multiplier_at-elem L [] h j k = L.zero-elem
  multiplier_at-elem L ((a, b, x) ∷ rest) h j k =
      terms.cond_either (IsElem o) ((a == j) && (b == k)) x (multiplier_at o rest j k)
      (h 0 (omega arith)) (multiplier_at-elem L rest (λ s l. h (suc s) (omega arith)) j k)

module _ {E : Type 0} (o : Ops E) (L : FieldLaws o) (A : Structure E) where
  abbrev m : ℕ
  m = A.dim

  abbrev cs : List E
  cs = A.constants

  abbrev K : FieldOn (Elem o)
  K = elements o L

  module _ (t : IsOver o A) where
    -- an identity solves the equations that the multipliers refute
    no_identity : (left right : List (ℕ × ℕ × E)) → NoIdentityClaim o A left right → HasIdentity o A → ⊥
    no_identity left right c h =
        let e = h.one in
        let g = t.of_elements in
        let l : ℕ → ℕ → Elem o = λ j k. (
          multiplier_at o left (j + 1) (k + 1),
          multiplier_at-elem o L left c.fits.0.of_field (j + 1) (k + 1),
        ) in
        let r : ℕ → ℕ → Elem o = λ j k. (
          multiplier_at o right (j + 1) (k + 1),
          multiplier_at-elem o L right c.fits.1.of_field (j + 1) (k + 1),
        ) in
        let a : ℕ → ℕ → ℕ → Elem o = λ i j k. (constant o m cs i j k, at-elem o L cs g ((i * m + j) * m + k)) in
        let b : ℕ → ℕ → ℕ → Elem o = λ i j k. a j i k in
        let u : ℕ → Elem o = λ i. (at o e i, at-elem o L e h.is_one.tuple.of_elements i) in
        let sides = right_sides_vanish K.cring m l r a b u
        (λ j k j_in k_in. Elem-path o (sum K.monoid m (λ i. K.◌⊗◌ (u i) (a i j k))) (delta K.ring k j)
        (sym (sum_of-elements o L m (λ i. K.◌⊗◌ (u i) (a i j k)))
        ∙ sym (product_basis-at o L m cs g e h.is_one.tuple j k j_in k_in)
        ∙ ap (λ xs. at o xs k) (h.is_one.one-mul j j_in) ∙ basis-at o L m j k k_in))
        (λ j k j_in k_in. Elem-path o (sum K.monoid m (λ i. K.◌⊗◌ (u i) (b i j k))) (delta K.ring k j)
        (sym (sum_of-elements o L m (λ i. K.◌⊗◌ (u i) (b i j k)))
        ∙ sym (basis_product-at o L m cs g e h.is_one.tuple j k j_in k_in)
        ∙ ap (λ xs. at o xs k) (h.is_one.mul-one j j_in) ∙ basis-at o L m j k k_in))
        (λ i i_in. Elem-path o (sum2 K.ring m (λ j k. K.◌⊕◌ (K.◌⊗◌ (l j k) (a i j k)) (K.◌⊗◌ (r j k) (b i j k)))) K.zero
        (sym (sum2_of-elements o L m (λ j k. K.◌⊕◌ (K.◌⊗◌ (l j k) (a i j k)) (K.◌⊗◌ (r j k) (b i j k))))
        ∙ c.annihilate i i_in)) in
        L.one-nonzero (sym c.refute ∙ sum_of-elements o L m (λ j. K.◌⊕◌ (l j j) (r j j))
        ∙ ap (λ (x : Elem o). x.0) sides)

    -- a multiple of the identity multiplies each basis element by its factor
    central : (a : List E) → CentralClaim o A a → HasSmallCentre o A → ⊥
    central a c h =
        let q = h.multiple a (record { tuple = c.fits; commutes = c.commutes }) in
        let g = t.of_elements in
        c.no_multiple q.factor q.of_field (λ i i_in.
        ap (λ x. product o m cs x (basis o m i)) q.is_multiple
        ∙ scale-product o L m cs g q.factor h.one (basis o m i) q.of_field h.is_one.tuple (IsTuple-basis o L m cs g i)
        ∙ ap (tuple_scale o m q.factor) (h.is_one.one-mul i i_in))

    -- rows that are 0 aren't independent, and fewer than m don't span everything
    ideal : (rows : List (List E)) → IdealClaim o A rows → IsCentralSimple o A → ⊥
    ideal rows c s = ⊎_elim
        (λ (z : AreZero o A rows).
        let n = length rows in
        let some = c.fits.0 in
        L.one-nonzero (sym (at-table o n (λ _. o.one) 0 (omega arith))
        ∙ c.independent (table n (λ _. o.one)) (IsTuple-table o n (λ _. o.one) (λ _ _. L.one-elem)) (λ j j_in.
        sum_of_congr o n (λ i. o.mul (at o (table n (λ _. o.one)) i) (entry o rows i j)) (λ _. o.zero) (λ i i_in.
        ap₂ o.mul (at-table o n (λ _. o.one) i i_in)
        (ap (λ xs. at o xs j) (z i i_in) ∙ at-table o m (λ _. o.zero) j j_in)
        ∙ terms.mul-zero o L o.one L.one-elem)
        ∙ sum_of_zeros o L n) 0 (omega arith)))
        (λ (a : SpansAll o A rows).
        let M = tuples o L m in
        let shape = c.fits.2 in
        let S = tuple_space o L m in
        let few = c.fits.1 in
        let many = exchange K M m (length rows) (unit M m S) (row o L m rows shape) (units_independent M m S)
        (λ i _. to_span o L m rows shape (unit M m S i)
        (a (unit M m S i).0 (IsTuple-of o L m (unit M m S i)))) in
        omega arith)
        (s.simple rows (spans_ideal o L A t.of_elements rows c.fits.2 c.left c.right))

  -- each claim excludes that the algebra is central simple
  pub claims_exclude : ClaimsExcludeCentralSimple o A
  claims_exclude t = record {
    triple = λ i j k c h.
        let i_low = c.fits.0.0 in
        let i_high = c.fits.0.1 in
        let j_low = c.fits.1.0 in
        let j_high = c.fits.1.1 in
        let k_low = c.fits.2.0 in
        let k_high = c.fits.2.1 in
        c.differ (h (i - 1) (j - 1) (k - 1) (omega arith) (omega arith) (omega arith));
    no_identity = no_identity t;
    central = central t;
    ideal = ideal t;
  }
