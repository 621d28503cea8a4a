-- A claim of a splitting by n² matrices is one: the unit tuples give each matrix with one entry 1 as a combination of
-- the matrices, so they span the n by n matrices, and n² that do are independent.
use Rattle.std.specs.Prelude.{◌≡◌, ℕ, ◌+◌, ◌*◌, ◌/◌, ◌%◌, ◌<◌, ◌==◌, ◌&&◌, Bool, true, false, cond, List, []}
use Rattle.std.specs.List.{All}
use Rattle.std.proofs.Common.{refl, sym, ◌∙◌, ap, ap₂, subst, arith}
use Rattle.std.proofs.lemmas.List.{get_or_default}
use Rattle.std.proofs.lemmas.Nat.{div-add-mod'}
use Rattle.theory_rings.specs.Ring.{FieldOn}
use Rattle.theory_rings.specs.Ops.{Ops, FieldLaws}
use Rattle.theory_rings.specs.Elements.{Elem, Elem-path, elements}
use Rattle.theory_rings.specs.Sum.{sum_of, table, at}
use Rattle.theory_rings.proofs.Rings.Fields.{field_set}
use Rattle.theory_rings.proofs.Rings.Elements.{at-elem, sum_of-elements, sum_of_congr}
use Rattle.theory_rings.proofs.Sums.Sums.{map-sum, sum_congr}
use Rattle.theory_spaces.specs.Module.{ModuleOn, AlgebraOn, module_of}
use Rattle.theory_spaces.specs.Linear.{comb, InSpan, Independent, Basis}
use Rattle.theory_spaces.specs.Matrix.{Mat, delta}
use Rattle.theory_spaces.specs.MatrixAlgebra.{IsMatrixAlgebra}
use Rattle.theory_spaces.specs.Tuples.{IsTuple}
use Rattle.theory_spaces.proofs.Linear.Dimension.{independent_of_span}
use Rattle.theory_spaces.proofs.Matrices.Matrices.{delta_comm, mat, mat-entry, Mat-ext}
use Rattle.theory_spaces.proofs.Matrices.MatrixAlgebra.{matrix_algebra, matrix_algebra_is, matrix_basis}
use Rattle.theory_spaces.proofs.Matrices.MatrixAlgebra.{matrix_basis-vec, unit_matrix, unit_matrix-entry}
use Rattle.theory_spaces.proofs.Linear.Modules.{InSpan_trans, comb_injective}
use Rattle.theory_spaces.proofs.Matrices.PairIndex.{row-lt, column-lt}
use Rattle.theory_spaces.proofs.Tuples.Tuples.{at-table, IsTuple-table, IsTuple-ext}
use Rattle.theory_tables.specs.Matrix.{entry}
use Rattle.theory_tables.specs.Structure.{Structure}
use Rattle.theory_tables.specs.Conditions.{map_entry}
use Rattle.theory_tables.proofs.Rows.Terms.{zero-mul}
use Rattle.theory_tables.proofs.Rows.Sums.{entry-elem}
use Rattle.theory_tables.specs.Split.{IsSquare, IsCombination, IsSplitBy}
use Rattle.theory_tables.specs.Claims.{SplitClaim}
use Rattle.theory_tables.proofs.Split.Splittings.{map_entry-elem}

module _ {E : Type 0} (o : Ops E) (L : FieldLaws o) (A : Structure E) (n : ℕ) (maps : List (List (List E)))
    (units : List (List E))
    (size : A.dim ≡ n * n) (C : SplitClaim o A n maps units) where
  abbrev m : ℕ
  m = A.dim

  abbrev K : FieldOn (Elem o)
  K = elements o L

  abbrev T : AlgebraOn K.ring (Mat K.ring n)
  T = matrix_algebra K.cring (field_set K) n

  abbrev M : ModuleOn K.ring (Mat K.ring n)
  M = module_of T

  H : IsMatrixAlgebra K.ring n T
  H = matrix_algebra_is K.cring (field_set K) n

  abbrev B : Basis M (n * n)
  B = matrix_basis K.cring (field_set K) n T H

  abbrev U : ℕ → ℕ → Mat K.ring n
  U = unit_matrix K.cring (field_set K) n T H

  maps_square : All (IsSquare o n) maps
  maps_square k d l = let e = C.fits.map_count in
      subst (IsSquare o n) (get_or_default maps k [] d l) (C.fits.square k (omega arith))

  abbrev map : ℕ → ℕ → ℕ → Elem o
  map k r s = (map_entry o maps k r s, map_entry-elem o L n maps maps_square k r s)

  abbrev phi : ℕ → Mat K.ring n
  phi k = mat K.ring (field_set K) n (map k)

  comb-entry : (c : ℕ → Elem o) (r s : ℕ) → r < n → s < n
      → ((comb M m c phi).0 r s).0 ≡ sum_of o m (λ k. o.mul (c k).0 (map_entry o maps k r s))
  comb-entry c r s hr hs =
      let f : ℕ → Elem o = λ k. K.◌⊗◌ (c k) (map k r s) in
      ap (λ (x : Elem o). x.0)
      (map-sum M.monoid K.monoid (λ (x : Mat K.ring n). x.0 r s) refl (λ x y. refl) m (λ k. M.◌•◌ (c k) (phi k))
      ∙ sum_congr K.monoid m (λ k. (M.◌•◌ (c k) (phi k)).0 r s) f
      (λ k _. ap (K.◌⊗◌ (c k)) (mat-entry K.ring (field_set K) n (map k) r s hr hs)))
      ∙ sym (sum_of-elements o L m f)

  -- the unit tuples give the matrices with one entry 1
  unit-value : (r s p q : ℕ)
      → (K.◌⊗◌ (delta K.ring p r) (delta K.ring q s)).0 ≡ cond ((p == r) && (q == s)) o.one o.zero
  unit-value r s p q = value (p == r) (q == s)
    where
      value : (b c : Bool) → o.mul (cond b K.one K.zero).0 (cond c K.one K.zero).0 ≡ cond (b && c) o.one o.zero
      value true true = L.one-mul o.one L.one-elem
      value true false = L.one-mul o.zero L.zero-elem
      value false true = zero-mul o L o.one L.one-elem
      value false false = zero-mul o L o.zero L.zero-elem

  unit_spanned : (r s : ℕ) → r < n → s < n → InSpan M m phi (U r s)
  unit_spanned r s hr hs =
      let i = r * n + s in
      let w : ℕ → Elem o = λ k. (entry o units i k, entry-elem o L m units C.fits.tuples i k) in
      record {
        weights = w;
        combines = Mat-ext K.ring (field_set K) n (U r s) (comb M m w phi)
            (λ p q hp hq. Elem-path o ((U r s).0 p q) ((comb M m w phi).0 p q)
            (ap (λ (x : Elem o). x.0)
            (unit_matrix-entry K.cring (field_set K) n T H r s p q hp hq
            ∙ ap₂ K.◌⊗◌ (delta_comm K.ring r p) (delta_comm K.ring s q))
            ∙ unit-value r s p q ∙ sym (comb-entry w p q hp hq ∙ C.gives_units r s p q hr hs hp hq)));
      }

  -- so the maps span the matrices
  spans : (x : Mat K.ring n) → InSpan M m phi x
  spans x = InSpan_trans M (n * n) m B.vec phi x each (record { weights = B.coord x; combines = B.expand x })
    where
      each : (t : ℕ) → t < n * n → InSpan M m phi (B.vec t)
      each t l =
          let hr = row-lt n n t l in
          let hs = column-lt n n t l in
          subst (InSpan M m phi)
          (sym (matrix_basis-vec K.cring (field_set K) n T H (t / n) (t % n) hr hs) ∙ ap B.vec (div-add-mod' t n))
          (unit_spanned (t / n) (t % n) hr hs)

  independent : Independent M m phi
  independent =
      let P : ℕ → Type 0 = λ k. Independent M k B.vec in
      independent_of_span K M m B.vec phi (subst P (sym size) B.independent) (λ i _. spans (B.vec i))

  -- a list of rows as a matrix
  abbrev entries : (x : List (List E)) → IsSquare o n x → ℕ → ℕ → Elem o
  entries x h r s = (entry o x r s, entry-elem o L n x h.shape r s)

  abbrev matrix : (x : List (List E)) → IsSquare o n x → Mat K.ring n
  matrix x h = mat K.ring (field_set K) n (entries x h)

  matrix-entry : (x : List (List E)) (h : IsSquare o n x) (r s : ℕ) → r < n → s < n
      → ((matrix x h).0 r s).0 ≡ entry o x r s
  matrix-entry x h r s hr hs = ap (λ (a : Elem o). a.0) (mat-entry K.ring (field_set K) n (entries x h) r s hr hs)

  abbrev weights : (c : List E) → IsTuple o m c → ℕ → Elem o
  weights c h k = (at o c k, at-elem o L c h.of_elements k)

  comb-of : (x : List (List E)) (h : IsSquare o n x) (c : List E) (t : IsTuple o m c) → IsCombination o m n maps c x
      → comb M m (weights c t) phi ≡ matrix x h
  comb-of x h c t e = Mat-ext K.ring (field_set K) n (comb M m (weights c t) phi) (matrix x h) (λ r s hr hs.
      Elem-path o ((comb M m (weights c t) phi).0 r s) ((matrix x h).0 r s)
      (comb-entry (weights c t) r s hr hs ∙ sym (e r s hr hs) ∙ sym (matrix-entry x h r s hr hs)))

  pub split_claim_splits : IsSplitBy o A n maps
  split_claim_splits = record {
    count = C.fits.map_count;
    square = maps_square;
    multiplies = C.multiplies;
    onto = λ x h.
        let y = spans (matrix x h) in
        let w : ℕ → E = λ k. (y.weights k).0 in (
          table m w,
          IsTuple-table o m w (λ k _. (y.weights k).1),
          λ r s hr hs. sym (matrix-entry x h r s hr hs) ∙ ap (λ (z : Mat K.ring n). (z.0 r s).0) y.combines
              ∙ comb-entry y.weights r s hr hs
              ∙ sum_of_congr o m (λ k. o.mul (w k) (map_entry o maps k r s))
              (λ k. o.mul (at o (table m w) k) (map_entry o maps k r s))
              (λ k l. ap (λ a. o.mul a (map_entry o maps k r s)) (sym (at-table o m w k l))),
        );
    once = λ x c d h hc hd ec ed. IsTuple-ext o m c d hc hd (λ k l.
        ap (λ (a : Elem o). a.0)
        (comb_injective M m phi independent (weights c hc) (weights d hd)
        (comb-of x h c hc ec ∙ sym (comb-of x h d hd ed)) k l));
  }
