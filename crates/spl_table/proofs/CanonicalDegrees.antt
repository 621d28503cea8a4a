-- Lowest terms are of no greater degree than what they were made of, so the table of a text has a canonical text, which
-- reads as the same table.
use Rattle.std.proofs.Common.{◌≡◌, ◌≢◌, ℕ, zero, suc, ◌+◌, ◌*◌, ◌/◌, ◌%◌, ◌^◌, ◌<◌, ◌≤◌, List, [], length, get_or}
use Rattle.std.proofs.Common.{Option, Some, None, refl, sym, ap, ap₂, subst, ◌∙◌, arith}
use Rattle.std.proofs.Math.Nat.{div-add-mod, mod-lt, div-lt_iff_lt-mul, mul_comm, mul-le-mul}
use Rattle.std.proofs.lemmas.List.{get_or_past, get_or_default}
use Rattle.theory_rings.specs.Ring.{FieldOn, CommRingOn}
use Rattle.theory_rings.specs.Ops.{Ops, FieldLaws}
use Rattle.theory_rings.specs.Elements.{Elem, Elem-path, elements}
use Rattle.theory_rings.specs.Sum.{at}
use Rattle.theory_rings.specs.Polynomial.{Poly, coefficient, degree}
use Rattle.theory_rings.proofs.Rings.RingLaws.{left_ne_zero_of_mul, right_ne_zero_of_mul}
use Rattle.theory_rings.proofs.Rings.Solver.{◌⊠◌, ring3}
use Rattle.theory_rings.proofs.Polynomials.Bezout.{field_degree-mul, poly_mul_cancel_left, poly_mul-ne-zero}
use Rattle.theory_rings.proofs.Polynomials.Bezout.{coprime_comm, divides_of_coprime}
use Rattle.theory_rings.proofs.Polynomials.Degrees.{length_le, length-degree_of_ne_zero, ne_zero_of_length}
use Rattle.theory_rings.proofs.Fractions.Lowest.{Lowest, IsMonic-ne-zero}
use Rattle.theory_fractions.specs.PolynomialLists.{IsOver}
use Rattle.theory_fractions.specs.Fraction.{Pair, IsLowestTerms, IsFraction}
use Rattle.theory_fractions.proofs.ListPolynomials.{has_polynomial_of, length-polynomial_of}
use Rattle.spl_field.specs.SmallField.{modulus_of, small_ops, size_of as elements_of, small_laws}
use Rattle.spl_field.specs.declared.small.SmallField.{SmallField}
use Rattle.spl_text.specs.Text.{FractionText}
use Rattle.spl_table.specs.TableText.{TableText, size_of, constant_at, HasSmallDegrees, IsWellFormed}
use Rattle.spl_table.specs.Refusal.{whole, IsTableText, IsOnlyTableText}
use Rattle.spl_table.specs.Reading.{place}
use Rattle.spl_table.specs.Table.{field_of, denominator_of, IsConstant, IsTableOf, HasSameAlgebra}
use Rattle.spl_table.specs.CanonicalTable.{canonical_of, canonical_table_text, IsWritable}
use Rattle.spl_table.specs.declared.table.Table.{Table}
use Rattle.spl_table.proofs.Constants.{IsOver-small, denominator_elements}
use Rattle.spl_table.proofs.TextLaws.{table_unique, no_table_fault}
use Rattle.spl_table.proofs.Agreement.OneFraction.{P, poly, den-ne-zero, lowest, value}
use Rattle.spl_table.proofs.Agreement.Tables.{IsRightValue, right_value, nonzero_at, tables_agree}
use Rattle.spl_table.proofs.CanonicalReading.{well_formed, canonical_is_table_text, canonical_says_table}

-- ---- lowest terms are short

module _ (o : Ops ℕ) (L : FieldLaws o) where
  length_poly : (xs : List ℕ) → IsOver o xs → length (poly o L xs).0 ≤ length xs
  length_poly xs over =
      let K : FieldOn (Elem o) = elements o L in
      length_le K.cring (poly o L xs) (length xs) (λ k past.
      Elem-path o (coefficient K.cring (poly o L xs) k) K.zero
      (sym (has_polynomial_of o L xs over k) ∙ get_or_past xs k o.zero past))

  factor_shorter : (q v n : Poly (elements o L).cring) → n ≡ (P o L).◌⊗◌ q v → n ≢ (P o L).zero
      → length v.0 ≤ length n.0
  factor_shorter q v n e nonzero =
      let K : FieldOn (Elem o) = elements o L in
      let R : CommRingOn (Poly K.cring) = P o L in
      let product : R.◌⊗◌ q v ≢ R.zero = λ z. nonzero (e ∙ z) in
      let q_nonzero = left_ne_zero_of_mul R.ring q v product in
      let v_nonzero = right_ne_zero_of_mul R.ring q v product in
      omega (
        arith,
        ap (λ (p : Poly K.cring). degree p.0) e,
        field_degree-mul K q v q_nonzero v_nonzero,
        length-degree_of_ne_zero K.cring K.zero_test n nonzero,
        length-degree_of_ne_zero K.cring K.zero_test v v_nonzero,
      )

  module _ (num den : List ℕ) (over_num : IsOver o num) (over_den : IsOver o den)
      (k : ℕ) (nonzero : at o den k ≢ o.zero) (w : Pair ℕ) (low : IsLowestTerms o w.0 w.1)
      (is : IsFraction o w num den) where
    abbrev K : FieldOn (Elem o)
    K = elements o L

    abbrev R : CommRingOn (Poly K.cring)
    R = P o L

    abbrev u : Poly K.cring
    u = poly o L w.0

    abbrev v : Poly K.cring
    v = poly o L w.1

    d_nonzero : poly o L den ≢ R.zero
    d_nonzero = den-ne-zero o L num den over_num over_den k nonzero

    terms : Lowest K u v
    terms = lowest o L num den over_num over_den k nonzero w low is

    same : R.◌⊗◌ u (poly o L den) ≡ R.◌⊗◌ (poly o L num) v
    same = value o L num den over_num over_den k nonzero w low is

    length_num : length u.0 ≡ length w.0
    length_num = length-polynomial_of o L w.0 (record { over = low.numerator_over; trimmed = low.numerator_trimmed })

    length_den : length v.0 ≡ length w.1
    length_den =
        length-polynomial_of o L w.1 (record { over = low.denominator_over; trimmed = low.denominator_trimmed })

    cofactor : (q : Poly K.cring) × (poly o L den ≡ R.◌⊗◌ q v)
    cofactor = divides_of_coprime K v u (poly o L den) (coprime_comm K u v terms.coprime) (poly o L num, same)

    pub denominator_shorter : length w.1 ≤ length den
    denominator_shorter =
        omega (
          arith,
          length_den,
          factor_shorter cofactor.0 v (poly o L den) cofactor.1 d_nonzero,
          length_poly den over_den,
        )

    numerators : poly o L num ≡ R.◌⊗◌ cofactor.0 u
    numerators =
        poly_mul_cancel_left K v (poly o L num) (R.◌⊗◌ cofactor.0 u) (IsMonic-ne-zero K v terms.monic)
        (R.mul_comm v (poly o L num) ∙ sym same ∙ ap (R.◌⊗◌ u) cofactor.1
        ∙ ring3 R (λ a q b. (a ⊠ (q ⊠ b), b ⊠ (q ⊠ a))) refl u cofactor.0 v)

    some_shorter : 0 < length w.0 → length w.0 ≤ length num
    some_shorter some =
        let u_nonzero = ne_zero_of_length K.cring K.zero_test u (omega (arith, length_num, some)) in
        let q_nonzero = left_ne_zero_of_mul R.ring cofactor.0 v (λ z. d_nonzero (cofactor.1 ∙ z)) in
        let product = poly_mul-ne-zero K cofactor.0 u q_nonzero u_nonzero in
        omega (
          arith,
          length_num,
          factor_shorter cofactor.0 u (poly o L num) numerators (λ z. product (sym numerators ∙ z)),
          length_poly num over_num,
        )

    pub numerator_shorter : length w.0 ≤ length num
    numerator_shorter = go (length w.0) refl
      where
        go : (n : ℕ) → length w.0 ≡ n → length w.0 ≤ length num
        go zero e = omega (arith, e)
        go (suc n) e = some_shorter (omega (arith, e))

-- ---- the constants of a table of a text

abbrev IsShort : Pair ℕ → Type 0
IsShort w = (length w.0 ≤ 33) × (length w.1 ≤ 33)

denominator_few : (t : FractionText) → HasSmallDegrees t → length (denominator_of t.denominator) ≤ 33
denominator_few t small = go t.denominator refl
  where
    go : (d : Option (List ℕ)) → t.denominator ≡ d → length (denominator_of d) ≤ 33
    go None e = omega arith
    go (Some d) e = (rw e at small.1).0

constant_short : (f : SmallField) (c : Option FractionText)
    → ((v : FractionText) → c ≡ Some v → IsRightValue (elements_of f) v) → (w : Pair ℕ) → IsConstant (small_ops f) c w
    → IsShort w
constant_short f None right w is =
    (omega (arith, ap (λ (x : Pair ℕ). length x.0) is), omega (arith, ap (λ (x : Pair ℕ). length x.1) is))
constant_short f (Some v) right w is =
    let r = right v refl in
    let k = nonzero_at v r.form r.denominator in
    let each = r.elements in
    let small = r.degrees in
    let num = IsOver-small f v.numerator each.0 in
    let den = IsOver-small f (denominator_of v.denominator)
    (denominator_elements (elements_of f) v (omega (arith, f.two_elements)) each) in (
      omega (
        arith,
        numerator_shorter (small_ops f) (small_laws f) v.numerator (denominator_of v.denominator) num den k.0 k.1 w
            is.0 is.1,
        small.0,
      ),
      omega (
        arith,
        denominator_shorter (small_ops f) (small_laws f) v.numerator (denominator_of v.denominator) num den k.0 k.1 w
            is.0 is.1,
        denominator_few v small,
      ),
    )

-- each place is that of a triple
record IsPlaceOf (m n : ℕ) : Type 0 where
  i : ℕ
  j : ℕ
  k : ℕ
  first : i < m
  second : j < m
  third : k < m
  same : place m i j k ≡ n

triple_at : (m n : ℕ) → 0 < m → n < m * m * m → IsPlaceOf m n
triple_at m n some inside =
    let row : n / m < m * m = (div-lt_iff_lt-mul {k = m} {x = n} {y = m * m} some).1 inside in
    let inner : n / m / m * m + n / m % m ≡ n / m = omega (arith, div-add-mod (n / m) m, mul_comm m (n / m / m)) in
    let outer : n / m * m + n % m ≡ n = omega (arith, div-add-mod n m, mul_comm m (n / m)) in
    record {
      i = n / m / m;
      j = n / m % m;
      k = n % m;
      first = (div-lt_iff_lt-mul {k = m} {x = n / m} {y = m} some).1 row;
      second = mod-lt (n / m) some;
      third = mod-lt n some;
      same = ap (λ r. r * m + n % m) inner ∙ outer;
    }

module _ (t : TableText) (right : IsWellFormed t) (T : Table) (is : IsTableOf t T) where
  abbrev f : SmallField
  f = field_of T

  same_size : elements_of f ≡ size_of t.head
  same_size = f.power ∙ ap₂ (λ a l. a ^ length l) is.characteristic is.modulus

  right_values : (i j k : ℕ) (x : FractionText) → constant_at t.entries i j k ≡ Some x → IsRightValue (elements_of f) x
  right_values i j k x e =
      subst (λ q. IsRightValue q x) (sym same_size) (right_value t.head None t.entries right.entries i j k x e)

  some_dim : 0 < T.algebra.dim
  some_dim =
      let square : 2 * 2 ≤ T.degree * T.degree = mul-le-mul T.degree_low T.degree_low in
      omega (arith, square, T.dim)

  pub writable : IsWritable T
  writable = λ n d below.
      let constants = is.constants in
      let at_n = triple_at T.algebra.dim n some_dim (omega (arith, below, T.count)) in
      subst IsShort
      (ap (λ p. get_or T.algebra.constants p ([], [])) at_n.same
      ∙ get_or_default T.algebra.constants n ([], []) d below)
      (constant_short f (constant_at t.entries (at_n.i + 1) (at_n.j + 1) (at_n.k + 1))
      (right_values (at_n.i + 1) (at_n.j + 1) (at_n.k + 1))
      (get_or T.algebra.constants (place T.algebra.dim at_n.i at_n.j at_n.k) ([], []))
      (constants.at at_n.i at_n.j at_n.k at_n.first at_n.second at_n.third))

-- ---- the laws

pub canonical_is_only : (T : Table) → IsWritable T → IsOnlyTableText whole (canonical_table_text T) (canonical_of T) []
canonical_is_only T w =
    let bytes = canonical_table_text T in
    let is = canonical_is_table_text T w in
    record {
      is_text = is;
      only = λ u s other. table_unique whole bytes (canonical_of T) u [] s is other;
      no_refusal = λ refusal refused. no_table_fault whole bytes (canonical_of T) [] is refusal refused;
    }

pub canonical_reads : (T U : Table) (t : TableText) → IsWritable T → IsTableText whole (canonical_table_text T) t []
    → IsTableOf t U → HasSameAlgebra T U
canonical_reads T U t w is is_U =
    let own = canonical_is_table_text T w in
    let one = table_unique whole (canonical_table_text T) t (canonical_of T) [] [] is own in
    tables_agree (canonical_of T) (well_formed T w) T U (canonical_says_table T)
    (subst (λ x. IsTableOf x U) one.0 is_U)
