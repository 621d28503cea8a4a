-- The rows of a first order: one, and a polynomial on the diagonal, over the denominator of one.
use Rattle.std.specs.Prelude.{◌≡◌, ◌≢◌, ◌<◌, ℕ, zero, suc, Bool, true, false, List, [], ◌∷◌, ◌++◌, length, get_or}
use Rattle.std.specs.Prelude.{map, cond, nat_eq}
use Rattle.std.proofs.Common.{refl, sym, ◌∙◌, ap, ap₂, subst, arith, length-append}
use Rattle.std.proofs.lemmas.List.{map_push, get_or_append_left}
use Rattle.std.proofs.lemmas.List.Elements.{All-nil, All-cons, All-append, All-get_or}
use Rattle.theory_rings.specs.Ring.{FieldOn}
use Rattle.theory_rings.specs.Ops.{Ops, IsElem, FieldLaws}
use Rattle.theory_rings.specs.Elements.{Elem, elements}
use Rattle.theory_rings.specs.Polynomial.{IsTrimmed}
use Rattle.theory_rings.specs.Sum.{at, table}
use Rattle.theory_rings.proofs.Rings.Fields.{inv_mul_cancel_left}
use Rattle.theory_rings.proofs.Sums.Lists.{length-table, get_or-table, All-table, table_congr}
use Rattle.theory_fractions.specs.PolynomialLists.{IsOver, IsPolynomialList}
use Rattle.theory_fractions.specs.Fraction.{Pair}
use Rattle.theory_fractions.specs.CommonDenominator.{as_fraction}
use Rattle.theory_fractions.proofs.ElementClauses.{zero_is, ne_zero}
use Rattle.theory_fractions.proofs.PolynomialFractions.{as_fraction-elem}
use Rattle.theory_spaces.specs.Linear.{InSpan}
use Rattle.theory_spaces.specs.Tuples.{IsTuple, tuple_scale, basis}
use Rattle.theory_spaces.proofs.Linear.Modules.{InSpan-scale, InSpan-member, InSpan-comb}
use Rattle.theory_spaces.proofs.Tuples.Tables.{space_basis}
use Rattle.theory_spaces.proofs.Tuples.Tuples.{tuples, tuple_space, Tuple-path, IsTuple-table, at-table}
use Rattle.theory_spaces.proofs.Tuples.Tuples.{tuples-scale, unit-basis}
use Rattle.theory_tables.specs.Matrix.{IsMatrix, width_of}
use Rattle.theory_tables.specs.Subspace as lists
use Rattle.theory_tables.proofs.Algebras.Bridge.{row, row-is, from_span, as_tuple}
use Rattle.theory_tables.proofs.Rows.Terms.{cond_either, mul-one, mul-zero, zero-mul}
use Rattle.theory_rows.specs.Rows.{IsPolynomialRow, IsPolynomialMatrix}
use Rattle.theory_bases.specs.Bases.{fraction_over, tuples_of}
use Rattle.theory_bases.proofs.FractionsOver.{K, M, over_of_multiple, inverse, inverse-elem}
use Rattle.spl_numerators.specs.Numerators.{HasMultiples}
use Rattle.spl_order.specs.Values.{scaled_unit}
use Rattle.spl_order.proofs.NumeratorRows.{multiples-row, multiples-tuple}

pub table-map : {X Y : Type 0} (f : X → Y) (n : ℕ) (g : ℕ → X) → map f (table n g) ≡ table n (λ i. f (g i))
table-map f zero g = refl
table-map f (suc n) g = map_push f (table n g) (g n) ∙ ap (λ xs. xs ++ f (g n) ∷ []) (table-map f n g)

module _ {E : Type 0} (o : Ops E) (L : FieldLaws o) where
  -- the row with a polynomial at one place
  pub unit-row : (n : ℕ) (s : List E) (i : ℕ) → IsPolynomialList o s → IsPolynomialRow o n (scaled_unit s n i)
  unit-row n s i hs = record {
    width = length-table n (λ k. cond (nat_eq k i) s []);
    over = All-table (IsOver o) n (λ k. cond (nat_eq k i) s [])
        (λ k _. cond_either (IsOver o) (nat_eq k i) s [] hs.over (All-nil (IsElem o)));
    trimmed = All-table (IsTrimmed o.zero) n (λ k. cond (nat_eq k i) s [])
        (λ k _. cond_either (IsTrimmed o.zero) (nat_eq k i) s [] hs.trimmed tt);
  }

module _ {E : Type 0} (o : Ops E) (L : FieldLaws o) (n : ℕ) (c d s : List E) (hc : IsPolynomialList o c) (nc : c ≢ [])
    (hd : IsPolynomialList o d) (nd : d ≢ []) (hs : IsPolynomialList o s)
    (s-is : as_fraction o s ≡ (let k : Ops (Pair E) = K o L in k.mul (as_fraction o c) (as_fraction o d)))
    (one : List (Pair E)) (h1 : IsTuple (K o L) n one) where
  abbrev k : Ops (Pair E)
  k = K o L

  abbrev laws : FieldLaws k
  laws = M o L

  abbrev F : FieldOn (Elem k)
  F = elements k laws

  abbrev scaled : ℕ → List (Pair E)
  scaled i = tuple_scale k n (as_fraction o c) (basis k n i)

  -- the multiples of the units, and one
  abbrev start : List (List (Pair E))
  start = table n scaled ++ one ∷ []

  abbrev fc : Elem k
  fc = (as_fraction o c, as_fraction-elem o L c hc)

  delta-elem : (b : Bool) → IsElem k (cond b k.one k.zero)
  delta-elem b = cond_either (IsElem k) b k.one k.zero laws.one-elem laws.zero-elem

  scaled-tuple : (i : ℕ) → IsTuple k n (scaled i)
  scaled-tuple i = IsTuple-table k n (λ t. k.mul fc.0 (at k (basis k n i) t)) (λ t t_in.
      subst (λ x. IsElem k (k.mul fc.0 x)) (sym (at-table k n (λ t. cond (nat_eq t i) k.one k.zero) t t_in))
      (laws.mul-elem fc.0 (cond (nat_eq t i) k.one k.zero) fc.1 (delta-elem (nat_eq t i))))

  pub start-matrix : IsMatrix k n start
  start-matrix = All-append (IsTuple k n) (table n scaled) (one ∷ [])
      (All-table (IsTuple k n) n scaled (λ i _. scaled-tuple i))
      (All-cons (IsTuple k n) one [] h1 (All-nil (IsTuple k n)))

  start-length : length start ≡ suc n
  start-length = length-append (table n scaled) (one ∷ []) ∙ omega (arith, length-table n scaled)

  -- they span everything
  pub start_spans : (v : List (Pair E)) → IsTuple k n v → lists.InSpan k n start v
  start_spans v hv =
      let N = tuples k laws n in
      let B = space_basis N n (tuple_space k laws n) in
      let x = as_tuple k laws n v hv in
      let rows = row k laws n start start-matrix in
      from_span k laws n start start-matrix x
      (subst (InSpan N (length start) rows) (sym (B.expand x))
      (InSpan-comb N n (length start) (B.coord x) B.vec rows (λ i i_in.
      let ic = F.inv fc in
      subst (InSpan N (length start) rows)
      (Tuple-path k laws n (N.◌•◌ ic (rows i)) (B.vec i) (
      tuples-scale k laws n ic (rows i)
      ∙ ap (tuple_scale k n ic.0) (row-is k laws n start start-matrix i (omega (arith, i_in, start-length))
      ∙ start_at i i_in)
      ∙ unscaled i ∙ sym (unit-basis k laws n i)))
      (InSpan-scale N (length start) rows ic (rows i)
      (InSpan-member N (length start) i rows (omega (arith, i_in, start-length)))))))
    where
      start_at : (i : ℕ) → i < n → get_or start i [] ≡ scaled i
      start_at i i_in = get_or_append_left (table n scaled) (one ∷ []) [] i (omega (arith, i_in, length-table n scaled))
          ∙ get_or-table n scaled i [] i_in

      unscaled : (i : ℕ) → tuple_scale k n (F.inv fc).0 (scaled i) ≡ basis k n i
      unscaled i = table_congr n (λ t. k.mul (F.inv fc).0 (at k (scaled i) t)) (λ t. cond (nat_eq t i) k.one k.zero)
          (λ t t_in.
          let e : Elem k = (cond (nat_eq t i) k.one k.zero, delta-elem (nat_eq t i)) in
          ap (k.mul (F.inv fc).0) (at-table k n (λ t. k.mul fc.0 (at k (basis k n i) t)) t t_in
          ∙ ap (k.mul fc.0) (at-table k n (λ t. cond (nat_eq t i) k.one k.zero) t t_in))
          ∙ ap (λ (z : Elem k). z.0) (inv_mul_cancel_left F fc e
          (λ z. ne_zero o L fc.0 nc (ap (λ (z : Elem k). z.0) z))))

  module _ (line : List (List E)) (M1 : HasMultiples o L d one (length one) line) where
    abbrev pub rows : List (List (List E))
    rows = table n (scaled_unit s n) ++ line ∷ []

    pub rows-matrix : IsPolynomialMatrix o n rows
    rows-matrix = All-append (IsPolynomialRow o n) (table n (scaled_unit s n)) (line ∷ [])
        (All-table (IsPolynomialRow o n) n (scaled_unit s n) (λ i _. unit-row o L n s i hs))
        (All-cons (IsPolynomialRow o n) line [] (multiples-row o L d hd nd n one h1 line M1)
        (All-nil (IsPolynomialRow o n)))

    pub rows-width : width_of rows ≡ n
    rows-width =
        let h = All-get_or (IsPolynomialRow o n) rows 0 []
        (omega (arith, length-append (table n (scaled_unit s n)) (line ∷ []))) rows-matrix in
        h.width

    item : (b : Bool) → fraction_over o L d (cond b s []) ≡ k.mul (as_fraction o c) (cond b k.one k.zero)
    item true = over_of_multiple o L d hd nd s (k.mul fc.0 k.one) (laws.mul-elem fc.0 k.one fc.1 laws.one-elem)
        (s-is ∙ laws.mul_comm fc.0 (as_fraction o d) fc.1 (as_fraction-elem o L d hd)
        ∙ ap (k.mul (as_fraction o d)) (sym (mul-one k laws fc.0 fc.1)))
    item false = ap (λ z. k.mul z (inverse o L d hd nd)) (sym (zero_is o L))
        ∙ zero-mul k laws (inverse o L d hd nd) (inverse-elem o L d hd nd) ∙ sym (mul-zero k laws fc.0 fc.1)

    pub rows-tuples : tuples_of o L (record { denominator = d; numerators = rows }) ≡ start
    rows-tuples =
        let f = fraction_over o L d in
        map_push (map f) (table n (scaled_unit s n)) line
        ∙ ap₂ (λ xs x. xs ++ x ∷ [])
        (table-map (map f) n (scaled_unit s n)
        ∙ table_congr n (λ i. map f (scaled_unit s n i)) scaled (λ i _.
        table-map f n (λ t. cond (nat_eq t i) s [])
        ∙ table_congr n (λ t. f (cond (nat_eq t i) s [])) (λ t. k.mul fc.0 (at k (basis k n i) t))
        (λ t t_in. item (nat_eq t i)
        ∙ ap (k.mul fc.0) (sym (at-table k n (λ t. cond (nat_eq t i) k.one k.zero) t t_in)))))
        (multiples-tuple o L d hd nd n one h1 line M1)

    pub rows_span : (v : List (Pair E)) → IsTuple k (width_of rows) v
        → lists.InSpan k (width_of rows) (tuples_of o L (record { denominator = d; numerators = rows })) v
    rows_span v hv = subst (λ w. lists.InSpan k w (tuples_of o L (record { denominator = d; numerators = rows })) v)
        (sym rows-width) (subst (λ ts. lists.InSpan k n ts v) (sym rows-tuples)
        (start_spans v (subst (λ w. IsTuple k w v) rows-width hv)))
