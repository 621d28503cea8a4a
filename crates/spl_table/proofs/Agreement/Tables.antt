-- Two tables of one text have the same field, with the same operations, the same degree and the same constants.
use Rattle.std.proofs.Common.{◌≡◌, ◌≢◌, ℕ, ◌+◌, ◌*◌, ◌/◌, ◌%◌, ◌^◌, ◌<◌, ◌≤◌, ⊎_elim, Bool, true, false, cond, ◌&&◌}
use Rattle.std.proofs.Common.{eqb, List, [], ◌∷◌, length}
use Rattle.std.proofs.Common.{get_or, Option, Some, None, refl, sym, ap, ap₂, ◌∙◌, subst, arith}
use Rattle.std.specs.Prelude.{IfSome}
use Rattle.std.specs.List.{AllByRecursion}
use Rattle.std.proofs.Math.Nat.{div-add-mod, mod-lt, div-lt_iff_lt-mul, mul_comm, mul-le-mul}
use Rattle.std.proofs.lemmas.List.{ext_get_or}
use Rattle.theory_rings.specs.Ops.{Ops}
use Rattle.theory_rings.specs.Polynomial.{IsTrimmed}
use Rattle.theory_fractions.specs.Fraction.{Pair, IsLowestTerms, IsFraction}
use Rattle.theory_tables.specs.Structure.{Structure}
use Rattle.spl_field.specs.SmallField.{characteristic, modulus_of, small_ops, size_of as elements_of, small_laws}
use Rattle.spl_field.specs.declared.small.SmallField.{SmallField}
use Rattle.spl_text.specs.Text.{FractionText, IsFractionText, IsNumberList, lists_of}
use Rattle.spl_text.proofs.NumberLists.{last-from_IsTrimmed}
use Rattle.spl_field.proofs.EqualFields.{equal_fields}
use Rattle.spl_fraction.proofs.FractionsSame.{fractions_same}
use Rattle.spl_fraction.specs.Fractions.{field_of as base_of}
use Rattle.spl_table.specs.TableText.{Entry, Head, TableText, size_of, constant_at, IsOverZero, AreRightEntries}
use Rattle.spl_table.specs.TableText.{HasSmallDegrees, IsWellFormed}
use Rattle.spl_table.specs.Table.{ops_of, denominator_of, IsConstant, AreConstants, IsTableOf, HasSameAlgebra}
use Rattle.spl_table.specs.declared.table.Table.{Table}
use Rattle.spl_table.proofs.Constants.{IsOver-small, denominator_elements}
use Rattle.spl_table.proofs.Agreement.OneFraction.{one_fraction}

-- ---- the fraction that right entries give a triple

-- a fraction of a right entry
pub record IsRightValue (q : ℕ) (v : FractionText) : Type 0 where
  pub form : IsFractionText v
  pub elements : AllByRecursion (AllByRecursion (λ c. c < q)) (lists_of v)
  pub denominator : IsOverZero v → ⊥
  pub degrees : HasSmallDegrees v

pub right_value : (h : Head) (previous : Option Entry) (es : List Entry) → AreRightEntries h previous es → (i j k : ℕ)
    (v : FractionText) → constant_at es i j k ≡ Some v → IsRightValue (size_of h) v
right_value h previous [] right i j k v at = absurd (cc)
right_value h previous (e ∷ es) right i j k v at =
    go ((eqb e.i i && eqb e.j j) && eqb e.k k) at (right_value h (Some e) es right.1 i j k v)
  where
    own : IsRightValue (size_of h) e.value
    own = let is = right.0 in let form = is.form in let range = is.range in
        record {
          form = form.fraction;
          elements = range.elements;
          denominator = is.denominator;
          degrees = is.degrees;
        }

    go : (b : Bool) → cond b (Some e.value) (constant_at es i j k) ≡ Some v
        → (constant_at es i j k ≡ Some v → IsRightValue (size_of h) v) → IsRightValue (size_of h) v
    go true same later = let value : e.value ≡ v = cc in subst (IsRightValue (size_of h)) value own
    go false same later = later same

-- its denominator isn't 0
pub nonzero_at : (v : FractionText) → IsFractionText v → (IsOverZero v → ⊥)
    → (k : ℕ) × (get_or (denominator_of v.denominator) k 0 ≢ 0)
nonzero_at v is other = go v.denominator is.denominator other
  where
    listed : (d : List ℕ) → IsNumberList d → (◌≡◌ {A = Option (List ℕ)} (Some d) (Some (0 ∷ [])) → ⊥)
        → (k : ℕ) × (get_or d k 0 ≢ 0)
    listed [] d_is not_zero = let are = d_is.numbers in absurd (omega (arith, are.some))
    listed (n ∷ ns) d_is not_zero = ⊎_elim
        (λ (zero_alone : n ∷ ns ≡ 0 ∷ []). absurd (not_zero (ap Some zero_alone)))
        (λ (trimmed : IsTrimmed 0 (n ∷ ns)). (length ns, last-from_IsTrimmed n ns trimmed))
        d_is.last

    go : (d : Option (List ℕ)) → IfSome d IsNumberList → (d ≡ Some (0 ∷ []) → ⊥)
        → (k : ℕ) × (get_or (denominator_of d) k 0 ≢ 0)
    go None d_is not_zero = (0, λ e. omega (arith, e))
    go (Some d) d_is not_zero = listed d d_is not_zero

-- ---- one constant

module _ (f g : SmallField) (p : characteristic f ≡ characteristic g) (m : modulus_of f ≡ modulus_of g) where
  -- a constant over g is one over f
  constant_back : (c : Option FractionText) (w : Pair ℕ) → IsConstant (small_ops g) c w → IsConstant (small_ops f) c w
  constant_back c w is = subst (λ o. IsConstant o c w) (sym (equal_fields f g p m)) is

  one_constant : (c : Option FractionText) → ((v : FractionText) → c ≡ Some v → IsRightValue (elements_of f) v)
      → (w x : Pair ℕ) → IsConstant (small_ops f) c w → IsConstant (small_ops g) c x → w ≡ x
  one_constant None right w x is_w is_x = is_w ∙ sym is_x
  one_constant (Some v) right w x is_w is_x =
      let r = right v refl in
      let b = constant_back (Some v) x is_x in
      let k = nonzero_at v r.form r.denominator in
      let each = r.elements in
      one_fraction (small_ops f) (small_laws f) v.numerator (denominator_of v.denominator)
      (IsOver-small f v.numerator each.0)
      (IsOver-small f (denominator_of v.denominator)
      (denominator_elements (elements_of f) v (omega (arith, f.two_elements)) each)) k.0 k.1 w x is_w.0 b.0 is_w.1 b.1

-- ---- all constants

module _ (m : ℕ) (some : 0 < m) where
  -- lists that agree at each triple are one
  constants_same : (cs ds : List (Pair ℕ)) → length cs ≡ m * m * m → length ds ≡ m * m * m
      → ((i j k : ℕ) → i < m → j < m → k < m → get_or cs ((i * m + j) * m + k) ([], [])
      ≡ get_or ds ((i * m + j) * m + k) ([], []))
      → cs ≡ ds
  constants_same cs ds full full' same = ext_get_or ([], []) cs ds (full ∙ sym full') (λ n below.
      let inside : n < m * m * m = omega (arith, below, full) in
      let row : n / m < m * m = (div-lt_iff_lt-mul {k = m} {x = n} {y = m * m} some).1 inside in
      let first : n / m / m < m = (div-lt_iff_lt-mul {k = m} {x = n / m} {y = m} some).1 row in
      let inner : n / m / m * m + n / m % m ≡ n / m = omega (arith, div-add-mod (n / m) m, mul_comm m (n / m / m)) in
      let outer : n / m * m + n % m ≡ n = omega (arith, div-add-mod n m, mul_comm m (n / m)) in
      let whole : (n / m / m * m + n / m % m) * m + n % m ≡ n = ap (λ r. r * m + n % m) inner ∙ outer in
      subst (λ i. get_or cs i ([], []) ≡ get_or ds i ([], [])) whole
      (same (n / m / m) (n / m % m) (n % m) first (mod-lt (n / m) some) (mod-lt n some)))

-- ---- two tables of one text

module _ (t : TableText) (right : IsWellFormed t) (T U : Table) (is_T : IsTableOf t T) (is_U : IsTableOf t U) where
  same_p : characteristic (base_of T.fractions) ≡ characteristic (base_of U.fractions)
  same_p = is_T.characteristic ∙ sym is_U.characteristic

  same_modulus : modulus_of (base_of T.fractions) ≡ modulus_of (base_of U.fractions)
  same_modulus = is_T.modulus ∙ sym is_U.modulus

  same_size : elements_of (base_of T.fractions) ≡ size_of t.head
  same_size =
      let x : SmallField = base_of T.fractions in
      x.power ∙ ap₂ (λ a l. a ^ length l) is_T.characteristic is_T.modulus

  same_dim : T.algebra.dim ≡ U.algebra.dim
  same_dim = is_T.dimension ∙ sym is_U.dimension

  some : 0 < T.algebra.dim
  some =
      let head = right.head in
      let square : 2 * 2 ≤ t.head.degree * t.head.degree = mul-le-mul head.degree_low head.degree_low in
      omega (arith, square, is_T.dimension)

  values : AreConstants (small_ops (base_of U.fractions)) T.algebra.dim t.entries U.algebra.constants
  values = subst (λ n. AreConstants (small_ops (base_of U.fractions)) n t.entries U.algebra.constants)
      (sym same_dim) is_U.constants

  same_constants : T.algebra.constants ≡ U.algebra.constants
  same_constants =
      let a = is_T.constants in
      let b = values in
      constants_same T.algebra.dim some T.algebra.constants U.algebra.constants a.count b.count (λ i j k il jl kl.
      one_constant (base_of T.fractions) (base_of U.fractions) same_p same_modulus
      (constant_at t.entries (i + 1) (j + 1) (k + 1))
      (λ v e. subst (λ q. IsRightValue q v) (sym same_size)
      (right_value t.head None t.entries right.entries (i + 1) (j + 1) (k + 1) v e))
      (get_or T.algebra.constants ((i * T.algebra.dim + j) * T.algebra.dim + k) ([], []))
      (get_or U.algebra.constants ((i * T.algebra.dim + j) * T.algebra.dim + k) ([], []))
      (a.at i j k il jl kl) (b.at i j k il jl kl))

  pub tables_agree : HasSameAlgebra T U
  tables_agree = record {
    characteristic = same_p;
    modulus = same_modulus;
    operations = fractions_same (base_of T.fractions) (base_of U.fractions) same_p same_modulus;
    degree = is_T.degree ∙ sym is_U.degree;
    algebra = λ i. record { dim = same_dim i; constants = same_constants i };
  }
