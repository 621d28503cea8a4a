-- The canonical text of a table is a table text, and what it says is the table.
use Rattle.std.proofs.Common.{◌≡◌, ℕ, zero, suc, ◌+◌, ◌*◌, ◌^◌, ◌<◌, ◌≤◌, Bool, true, false, nat_lt, List, [], ◌∷◌}
use Rattle.std.proofs.Common.{length, get_or, Option, None, refl, sym, ap, subst, ◌∙◌, append-nil, arith}
use Rattle.std.specs.List.{AllByRecursion, filter}
use Rattle.std.proofs.Math.Nat.{mul-le-mul, pow-suc, one-le-pow}
use Rattle.std.proofs.lemmas.Bool.{lt-ltb, ltb-true}
use Rattle.std.proofs.lemmas.List.{length-map}
use Rattle.std.proofs.lemmas.List.Elements.{All-weaker, recursion_from_All}
use Rattle.std.proofs.lemmas.List.Sums.{length-filter, count_by-le-length}
use Rattle.theory_rings.specs.Ops.{Ops, IsElem}
use Rattle.theory_rings.specs.Sum.{at}
use Rattle.theory_rings.specs.Polynomial.{degree, convolution_of}
use Rattle.theory_fractions.specs.Fraction.{Pair, IsLowestTerms, IsFraction}
use Rattle.theory_fractions.specs.PolynomialLists.{IsOver}
use Rattle.theory_fractions.proofs.ElementClauses.{lowest_of_elem, eq_zero, zero_is}
use Rattle.theory_tables.specs.Structure.{Structure}
use Rattle.spl_field.specs.SmallField.{characteristic, modulus_of, small_ops, small_laws}
use Rattle.spl_field.specs.FieldByDigits.{FitsField}
use Rattle.spl_field.specs.declared.small.SmallField.{SmallField}
use Rattle.spl_text.specs.Text.{lists_of}
use Rattle.spl_fraction.specs.CanonicalWords.{numbers_of, denominator_of, words_of}
use Rattle.spl_field.proofs.AdmittedFields.{fields_are_admitted}
use Rattle.spl_fraction.specs.FractionsOver.{fractions_over}
use Rattle.spl_fraction.proofs.CanonicalTexts.{numbers_over, is_fraction_text, denominator-some}
use Rattle.spl_table.specs.TableText.{Entry, Head, dimension_of, size_of, constant_at, IsInRange, IsAfter, IsOverZero}
use Rattle.spl_table.specs.TableText.{IsRightEntry, IsWellFormed, AreRightEntries}
use Rattle.spl_table.specs.Refusal.{whole, IsTableText}
use Rattle.spl_table.specs.Table.{field_of, algebra_of, IsConstant, IsTableOf}
use Rattle.spl_table.specs.Table.{denominator_of as text_denominator}
use Rattle.spl_table.specs.CanonicalTable.{triples, constant_of, is_nonzero, canonical_entry, nonzero_entries}
use Rattle.spl_table.specs.CanonicalTable.{canonical_of, canonical_table_text, IsWritable}
use Rattle.spl_table.specs.declared.table.Table.{Table}
use Rattle.spl_table.proofs.Admitted.{characteristic_most}
use Rattle.spl_table.specs.Reading.{place}
use Rattle.spl_table.proofs.Places.{place-lt}
use Rattle.spl_table.proofs.CanonicalTriples.{Rising, rising_triples, right_entries, length_triples, In-triples}
use Rattle.spl_table.proofs.CanonicalTriples.{none_named, one_named}
use Rattle.spl_table.proofs.CanonicalBytes.{IsShortList, IsShortEntry, IsShortHead, IsPiece, IsPiece-spelling}

-- ---- the words of a fraction

lists_all : (P : List ℕ → Type 0) (w : Pair ℕ) → P (numbers_of w.0) → P w.1 → AllByRecursion P (lists_of (words_of w))
lists_all P (u, []) num den = (num, tt)
lists_all P (u, c ∷ []) num den = (num, tt)
lists_all P (u, c ∷ d ∷ ds) num den = (num, (den, tt))

numbers_few : (u : List ℕ) → length u ≤ 33 → length (numbers_of u) ≤ 33
numbers_few [] few = omega arith
numbers_few (c ∷ cs) few = few

-- the numbers are those of the fraction
at_numbers : (u : List ℕ) (k : ℕ) → get_or (numbers_of u) k 0 ≡ get_or u k 0
at_numbers [] zero = refl
at_numbers [] (suc k) = refl
at_numbers (c ∷ cs) k = refl

denominator_again : (o : Ops ℕ) (v : List ℕ) → 0 < length v → at o v (degree v) ≡ 1
    → text_denominator (denominator_of v) ≡ v
denominator_again o [] some monic = absurd (omega arith)
denominator_again o (c ∷ []) some monic = ap (λ y. y ∷ []) (sym monic)
denominator_again o (c ∷ d ∷ ds) some monic = refl

words_say : (f : SmallField) (w : Pair ℕ) → IsLowestTerms (small_ops f) w.0 w.1
    → IsFraction (small_ops f) w (numbers_of w.0) (text_denominator (denominator_of w.1))
words_say f w low =
    let o : Ops ℕ = small_ops f in
    let num : at o (numbers_of w.0) ≡ at o w.0 = λ i k. at_numbers w.0 k i in
    let den : at o (text_denominator (denominator_of w.1)) ≡ at o w.1 =
    ap (at o) (denominator_again o w.1 low.denominator_nonzero low.monic) in
    record {
      products = λ k. ap (λ g. convolution_of o (at o w.0) g k) den
          ∙ ap (λ g. convolution_of o g (at o w.1) k) (sym num);
    }

not_over_zero : (w : Pair ℕ) → IsOverZero (words_of w) → ⊥
not_over_zero w over =
    let both = denominator-some w.1 (0 ∷ []) (sym over) in
    omega (arith, ap length both.0, both.1)

empty_of_zero : (u : List ℕ) → nat_lt 0 (length u) ≡ false → u ≡ []
empty_of_zero [] e = refl
empty_of_zero (c ∷ cs) e =
    let some : nat_lt 0 (length (c ∷ cs)) ≡ true = lt-ltb 0 (length (c ∷ cs)) (omega arith) in
    absurd (cc)

length_le_pow : (p : ℕ) → 2 ≤ p → (n : ℕ) → n ≤ p ^ n
length_le_pow p two zero = omega arith
length_le_pow p two (suc n) =
    let before = length_le_pow p two n in
    let e = pow-suc p n in
    let some : 1 ≤ p ^ n = one-le-pow n p (omega arith) in
    let twice : p ^ n * 2 ≤ p ^ n * p = mul-le-mul (omega arith) two in
    omega (arith, before, e, some, twice)

-- ---- the text of a table

module _ (T : Table) (w : IsWritable T) where
  abbrev f : SmallField
  f = field_of T

  abbrev o : Ops ℕ
  o = small_ops f

  abbrev A : Structure (Pair ℕ)
  A = algebra_of T

  abbrev h : Head
  h = let t = canonical_of T in t.head

  dim_most : A.dim ≤ 25
  dim_most =
      let most : T.degree * T.degree ≤ 5 * 5 = mul-le-mul T.degree_high T.degree_high in
      omega (arith, most, T.dim)

  module _ (i j k : ℕ) (il : i < dimension_of h) (jl : j < dimension_of h) (kl : k < dimension_of h) where
    abbrev value : Pair ℕ
    value = constant_of A i j k

    i_in : i < A.dim
    i_in = omega (arith, il, T.dim)

    j_in : j < A.dim
    j_in = omega (arith, jl, T.dim)

    k_in : k < A.dim
    k_in = omega (arith, kl, T.dim)

    inside : (i * A.dim + j) * A.dim + k < length A.constants
    inside = omega (arith, place-lt A.dim i j k i_in j_in k_in, T.count)

    elem : IsElem (fractions_over f) value
    elem = T.over ((i * A.dim + j) * A.dim + k) ([], []) inside

    low : IsLowestTerms o value.0 value.1
    low = lowest_of_elem o (small_laws f) value elem

    below_size : (n : ℕ) → IsElem o n → n < f.size
    below_size n is = ltb-true n f.size is

    elements : (u : List ℕ) → IsOver o u → AllByRecursion (λ c. c < size_of h) u
    elements u over =
        recursion_from_All (λ c. c < size_of h) u
        (All-weaker (IsElem o) (λ c. c < size_of h) (λ c is. subst (λ q. c < q) f.power (below_size c is)) u over)

    short : (u : List ℕ) → length u ≤ 33 → IsOver o u → IsShortList u
    short u few over = record {
      few = few;
      each = recursion_from_All (λ c. c < 1000) u
          (All-weaker (IsElem o) (λ c. c < 1000) (λ c is. omega (arith, below_size c is, f.most)) u over);
    }

    num_over : IsOver o (numbers_of value.0)
    num_over = numbers_over f value.0 low.numerator_over

    num_few : length value.0 ≤ 33
    num_few = (w ((i * A.dim + j) * A.dim + k) ([], []) inside).0

    den_few : length value.1 ≤ 33
    den_few = (w ((i * A.dim + j) * A.dim + k) ([], []) inside).1

    in_range : IsInRange h (canonical_entry A i j k)
    in_range = record {
      i_low = omega arith;
      i_high = omega (arith, il);
      j_low = omega arith;
      j_high = omega (arith, jl);
      k_low = omega arith;
      k_high = omega (arith, kl);
      elements = lists_all (AllByRecursion (λ c. c < size_of h)) value (elements (numbers_of value.0) num_over)
          (elements value.1 low.denominator_over);
    }

    right_entry : (previous : Option Entry) → IsAfter previous (canonical_entry A i j k)
        → IsRightEntry h previous (canonical_entry A i j k)
    right_entry previous after = record {
      form = record {
        first = omega (arith, i_in, dim_most);
        second = omega (arith, j_in, dim_most);
        third = omega (arith, k_in, dim_most);
        fraction = is_fraction_text f value low;
      };
      range = in_range;
      order = after;
      denominator = not_over_zero value;
      degrees = lists_all (λ c. length c ≤ 33) value (numbers_few value.0 num_few) den_few;
    }

    short_entry : IsShortEntry (canonical_entry A i j k)
    short_entry = record {
      i = omega (arith, i_in, dim_most);
      j = omega (arith, j_in, dim_most);
      k = omega (arith, k_in, dim_most);
      lists = lists_all IsShortList value
          (short (numbers_of value.0) (numbers_few value.0 num_few) num_over)
          (short value.1 den_few low.denominator_over);
    }

  entries_right : AreRightEntries h None (nonzero_entries A (triples A.dim))
      × AllByRecursion IsShortEntry (nonzero_entries A (triples A.dim))
  entries_right =
      right_entries A h IsShortEntry in_range right_entry short_entry 0 (place (dimension_of h) (dimension_of h) 0 0) 0
      None (triples A.dim)
      (subst (λ n. Rising (dimension_of h) 0 (place (dimension_of h) (dimension_of h) 0 0) (triples n)) (sym T.dim)
      (rising_triples (dimension_of h)))
      (record { range = tt; place = refl }) (omega arith)

  pub well_formed : IsWellFormed (canonical_of T)
  well_formed = record {
    head = record {
      admitted = fields_are_admitted f;
      degree_low = T.degree_low;
      degree_high = T.degree_high;
      apart = T.apart;
    };
    entries = entries_right.0;
  }

  short_head : IsShortHead h
  short_head =
      let admitted = fields_are_admitted f in
      let fits : FitsField (characteristic f) (modulus_of f) = admitted.fits in
      let most = characteristic_most (characteristic f) (modulus_of f) fits in
      record {
        characteristic = omega (arith, most);
        modulus = recursion_from_All (λ n. n < 1000) (modulus_of f)
            (All-weaker (λ n. n < characteristic f) (λ n. n < 1000) (λ n below. omega (arith, below, most))
            (modulus_of f) fits.below);
        few = omega (arith, length_le_pow (characteristic f) fits.least (length (modulus_of f)), fits.most);
        degree = omega (arith, T.degree_high);
      }

  entries_few : length (nonzero_entries A (triples A.dim)) ≤ 15625
  entries_few =
      let kept : ℕ × ℕ × ℕ → Bool = λ t. is_nonzero (constant_of A t.0 t.1 t.2) in
      let square : A.dim * A.dim ≤ 25 * 25 = mul-le-mul dim_most dim_most in
      let cube : A.dim * (A.dim * A.dim) ≤ 25 * (25 * 25) = mul-le-mul dim_most square in
      omega (
        arith,
        cube,
        length_triples A.dim,
        count_by-le-length kept (triples A.dim),
        length-filter kept (triples A.dim),
        length-map (filter kept (triples A.dim)) (λ t. canonical_entry A t.0 t.1 t.2),
      )

  pub canonical_is_table_text : IsTableText whole (canonical_table_text T) (canonical_of T) []
  canonical_is_table_text =
      let piece : IsPiece (1062 + 278 * length (nonzero_entries A (triples A.dim))) (canonical_table_text T) =
      IsPiece-spelling (canonical_of T) short_head entries_right.1 in
      record {
        within = omega (arith, piece.short, entries_few);
        text = piece.text;
        well_formed = well_formed;
        spelled = sym (append-nil (canonical_table_text T));
        follows = refl;
      }

-- ---- the table that it says

module _ (T : Table) where
  abbrev g : SmallField
  g = field_of T

  abbrev B : Structure (Pair ℕ)
  B = algebra_of T

  constant_said : (i j k : ℕ) → i < B.dim → j < B.dim → k < B.dim
      → IsConstant (small_ops g) (constant_at (nonzero_entries B (triples B.dim)) (i + 1) (j + 1) (k + 1))
      (constant_of B i j k)
  constant_said i j k il jl kl = go (is_nonzero (constant_of B i j k)) refl
    where
      inside_B : (i * B.dim + j) * B.dim + k < length B.constants
      inside_B = omega (arith, place-lt B.dim i j k il jl kl, T.count)

      elem_B : IsElem (fractions_over g) (constant_of B i j k)
      elem_B = T.over ((i * B.dim + j) * B.dim + k) ([], []) inside_B

      low_B : IsLowestTerms (small_ops g) (constant_of B i j k).0 (constant_of B i j k).1
      low_B = lowest_of_elem (small_ops g) (small_laws g) (constant_of B i j k) elem_B

      go : (b : Bool) → is_nonzero (constant_of B i j k) ≡ b
          → IsConstant (small_ops g) (constant_at (nonzero_entries B (triples B.dim)) (i + 1) (j + 1) (k + 1))
          (constant_of B i j k)
      go true some =
          subst (λ c. IsConstant (small_ops g) c (constant_of B i j k))
          (sym (one_named B i j k some (triples B.dim) (In-triples B.dim i j k il jl kl)))
          (low_B, words_say g (constant_of B i j k) low_B)
      go false none =
          subst (λ c. IsConstant (small_ops g) c (constant_of B i j k)) (sym (none_named B i j k none (triples B.dim)))
          (eq_zero (small_ops g) (small_laws g) (constant_of B i j k) elem_B
          (empty_of_zero (constant_of B i j k).0 none) ∙ zero_is (small_ops g) (small_laws g))

  pub canonical_says_table : IsTableOf (canonical_of T) T
  canonical_says_table = record {
    characteristic = refl;
    modulus = refl;
    degree = refl;
    dimension = T.dim;
    constants = record { count = T.count; at = constant_said };
  }
