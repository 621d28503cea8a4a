-- The rows that are the products of the rows of two bases span the products, and the steps to a power.
use Rattle.std.specs.Prelude.{◌≡◌, ◌+◌, ◌-◌, ◌*◌, ◌/◌, ◌%◌, ◌<◌, ◌≤◌, ℕ, suc, List, [], length, get_or}
use Rattle.std.specs.List.{All}
use Rattle.std.proofs.Common.{sym, ◌∙◌, ap, ap₂, subst, arith, mul-le-mul, mul-le-mul_left}
use Rattle.std.proofs.lemmas.Nat.{div-mul-add, mod-mul-add}
use Rattle.theory_rings.specs.Ops.{Ops, IsElem, FieldLaws}
use Rattle.theory_rings.specs.Sum.{table}
use Rattle.theory_rings.proofs.Sums.Lists.{length-table, get_or-table}
use Rattle.theory_spaces.specs.Sets.{Power}
use Rattle.theory_spaces.specs.Tuples.{product}
use Rattle.theory_spaces.proofs.Matrices.PairIndex.{pair-lt, row-lt, column-lt}
use Rattle.theory_tables.specs.Matrix.{IsMatrix}
use Rattle.theory_tables.specs.Subspace.{InSpan, Combinations, SameSpan}
use Rattle.theory_tables.specs.Structure.{Structure, tuple_ops}
use Rattle.theory_tables.specs.Powers.{SpansProducts, SpansPower}
use Rattle.theory_tables.proofs.Rows.Spans.{InSpan-member}
use Rattle.theory_tables.proofs.Algebras.SetPowers.{products_mono, power_stable}
use Rattle.theory_tables.proofs.Algebras.Powers.{spans_products}

-- the places of pairs fit where those of triples do
pub rows_fit : (k n m b : ℕ) → k ≤ m → n ≤ m → 1 ≤ m → m * m * m < b → k * n < b
rows_fit k n m b low l one h =
    let x : k * n ≤ m * m = mul-le-mul low l in
    let y : m * m * 1 ≤ m * m * m = mul-le-mul_left (m * m) one in
    omega arith

module _ {E : Type 0} (o : Ops E) (L : FieldLaws o) (m : ℕ) (cs : List E) (constants : All (IsElem o) cs) where
  abbrev A : Structure E
  A = record { dim = m; constants = cs }

  module _ (a b rows : List (List E)) (sa : IsMatrix o m a) (sb : IsMatrix o m b) (shape : IsMatrix o m rows)
      (rows_are : rows ≡ table (length a * length b)
      (λ t. product o m cs (get_or a (t / length b) []) (get_or b (t % length b) []))) where
    abbrev n : ℕ
    n = length b

    abbrev pair : ℕ → ℕ → List E
    pair r s = product o m cs (get_or a r []) (get_or b s [])

    long : length rows ≡ length a * n
    long = ap length rows_are ∙ length-table (length a * n) (λ t. pair (t / n) (t % n))

    row-is : (t : ℕ) → t < length a * n → get_or rows t [] ≡ pair (t / n) (t % n)
    row-is t t_in = ap (λ xs. get_or xs t []) rows_are
        ∙ get_or-table (length a * n) (λ t. pair (t / n) (t % n)) t [] t_in

    pub rows_span_products : SpansProducts o A a b rows
    rows_span_products = spans_products o L A constants a b rows sa sb shape
        (λ r s r_in s_in.
        let t_in = pair-lt (length a) n r s r_in s_in in
        let P : List E → Type 0 = InSpan o m rows in
        subst P (row-is (r * n + s) t_in ∙ ap₂ pair (div-mul-add r n s s_in) (mod-mul-add r n s s_in))
        (InSpan-member o L m rows shape (r * n + s) (rw long t_in)))
        (λ t t_rows.
        let t_in : t < length a * n = rw (← long) t_rows in
        let r_in = row-lt (length a) n t t_in in
        let s_in = column-lt (length a) n t t_in in (
          get_or a (t / n) [],
          get_or b (t % n) [],
          (sa (t / n) [] r_in, InSpan-member o L m a sa (t / n) r_in),
          (sb (t % n) [] s_in, InSpan-member o L m b sb (t % n) s_in),
          row-is t t_in,
        ))

    pub products_spanned : (spanned : List (List E)) → SameSpan o m spanned rows → SpansProducts o A a b spanned
    products_spanned spanned same = (
      λ x h. rows_span_products.0 x (h.0, (same x h.0).0 h.1),
      λ x h. let k = rows_span_products.1 x h in (k.0, (same x k.0).1 k.1),
    )

module _ {E : Type 0} (o : Ops E) (A : Structure E) (by : List (List E)) where
  pub power_starts : (rows : List (List E)) → rows ≡ by → SpansPower o A by 0 rows
  power_starts rows e = let P : List (List E) → Type 0 = SpansPower o A by 0 in
      subst P (sym e) (λ x h. h, λ x h. h)

  -- one factor more
  pub power_next : (e : ℕ) (power next : List (List E)) → 1 ≤ e → SpansPower o A by (e - 1) power
      → SpansProducts o A power by next → SpansPower o A by (e + 1 - 1) next
  power_next e power next one now made =
      let S = tuple_ops o A in
      let J = Combinations o A.dim by in
      let I = Combinations o A.dim power in
      let P = Power S J (e - 1) in
      let q : suc (e - 1) ≡ e + 1 - 1 = omega arith in
      let Q : ℕ → Type 0 = λ k. SpansPower o A by k next in
      subst Q q (
        λ x h. products_mono S I P J J now.0 (λ y j. j) x (made.0 x h),
        λ x h. made.1 x (products_mono S P I J J now.1 (λ y j. j) x h),
      )

  -- where the next power is the same, all further ones are
  pub power_stays : (e exponent : ℕ) (power next : List (List E)) → 1 ≤ e → e < exponent
      → SpansPower o A by (e - 1) power → SpansProducts o A power by next → power ≡ next
      → SpansPower o A by (exponent - 1) power
  power_stays e exponent power next one less now made same =
      let P : List (List E) → Type 0 = SpansProducts o A power by in
      let q : (e - 1) + (exponent - e) ≡ exponent - 1 = omega arith in
      let Q : ℕ → Type 0 = λ k. SpansPower o A by k power in
      subst Q q (power_stable (tuple_ops o A) (Combinations o A.dim power) (Combinations o A.dim by) (e - 1) now
      (subst P (sym same) made) (exponent - e))
