-- Rows over one denominator as rows over another, and whether the lattice of a basis lies in that of another.
use Rattle.std.specs.Prelude.{◌≡◌, ◌≢◌, ◌<◌, ◌↔◌, ℕ, List, [], length, get_or, map, Option, None, Some, is_some}
use Rattle.std.specs.Prelude.{IfSome, IsTrue, false}
use Rattle.std.specs.List.{All}
use Rattle.std.proofs.Common.{refl, sym, ◌∙◌, ap, subst, arith, ext_get_or}
use Rattle.std.proofs.lemmas.Bool.{both_ways}
use Rattle.std.proofs.lemmas.List.{length-map, get_or-map}
use Rattle.std.proofs.lemmas.List.Elements.{All-get_or}
use Rattle.theory_rings.specs.Ops.{Ops, FieldLaws}
use Rattle.theory_rings.specs.Ring.{FieldOn}
use Rattle.theory_rings.specs.Elements.{Elem, Elem-path, elements}
use Rattle.theory_rings.specs.Sum.{at}
use Rattle.theory_rings.proofs.Rings.RingLaws.{add_cancel_left}
use Rattle.theory_fractions.specs.PolynomialLists.{IsPolynomialList, IsProduct, IsDivision}
use Rattle.theory_fractions.specs.Fraction.{Pair}
use Rattle.theory_fractions.specs.FractionOps.{fraction_ops}
use Rattle.theory_fractions.specs.CommonDenominator.{as_fraction}
use Rattle.theory_fractions.proofs.ElementClauses.{zero_is}
use Rattle.theory_fractions.proofs.CommonDenominators.{nonzero_of_monic}
use Rattle.theory_fractions.proofs.PolynomialFractions.{as_fraction-elem, as_fraction-mul, as_fraction-add}
use Rattle.theory_spaces.specs.Sets.{Within}
use Rattle.theory_rows.specs.Rows.{IsPolynomialRow, IsPolynomialMatrix, IsRowCombination, InRowLattice, SameRowLattice}
use Rattle.theory_tables.specs.Matrix.{width_of}
use Rattle.theory_bases.specs.TupleLattices.{TupleLattice, SameTupleLattice}
use Rattle.theory_bases.specs.Bases.{BasisForm, IsBasis, IsPolynomialFraction, fraction_over, tuples_of}
use Rattle.theory_bases.proofs.FractionsOver.{M, over-elem, mul-over, over_of_multiple, divided-mul, mul-divided}
use Rattle.theory_bases.proofs.FractionsOver.{inverse}
use Rattle.theory_bases.proofs.FractionsOver.{inverse-elem, count-tuples}
use Rattle.theory_bases.proofs.PolynomialDivisors.{fraction_product, product_of_fractions, divides_of_fractions}
use Rattle.theory_bases.proofs.TupleRows.{lattice_of_row, row_of_lattice, same_tuples}
use Rattle.theory_bases.proofs.PolynomialWeights.{polynomials_are_subring}
use Rattle.spl_order.specs.Values.{HasRow, multiple_over}
use Rattle.spl_order.proofs.InverseRows.{square-width}
use Rattle.spl_order.proofs.ExactQuotients.{quotient_times}
use Rattle.spl_order.proofs.Values.{row_is, row_unique}
use Rattle.spl_order.proofs.LatticeMembers.{lattice_member, lattice_within}

module _ {E : Type 0} (o : Ops E) (L : FieldLaws o) where
  abbrev k : Ops (Pair E)
  k = fraction_ops o L

  abbrev laws : FieldLaws k
  laws = M o L

  abbrev Is : List E → Type 0
  Is = IsPolynomialList o

  abbrev up : List E → Pair E
  up = as_fraction o

  abbrev up-elem : (u : List E) → Is u → Elem k
  up-elem u hu = (up u, as_fraction-elem o L u hu)

  -- ---- one polynomial

  module _ (a g q r : List E) (ha : Is a) (hg : Is g) (hq : Is q) (hr : Is r) (division : IsDivision o a g q r) where
    division_value : up a ≡ k.add (k.mul (up q) (up g)) (up r)
    division_value =
        let p = fraction_product o L q g hq hg in
        let product = product_of_fractions o L q g p.0 hq hg p.1 p.2 in
        as_fraction-add o L p.0 r a p.1 hr ha
        (λ i. division.whole i ∙ ap (λ x. o.add x (at o r i)) (sym (product i)))
        ∙ ap (λ x. k.add x (up r)) p.2

    quotient_of_rest : r ≡ [] → up a ≡ k.mul (up q) (up g)
    quotient_of_rest e =
        let F : FieldOn (Elem k) = elements k laws in
        let m = F.◌⊗◌ (up-elem q hq) (up-elem g hg) in
        division_value ∙ ap (λ x. k.add (k.mul (up q) (up g)) (up x)) e
        ∙ ap (k.add (k.mul (up q) (up g))) (sym (zero_is o L))
        ∙ ap (λ (x : Elem k). x.0) (F.add_comm m F.zero ∙ F.zero-add m)

    rest_of_multiple : (p : List E) → Is p → g ≢ [] → up a ≡ k.mul (up p) (up g) → r ≡ []
    rest_of_multiple p hp n e =
        let F : FieldOn (Elem k) = elements k laws in
        let m = F.◌⊗◌ (up-elem q hq) (up-elem g hg) in
        let t : up a ≡ m.0 = quotient_times o L g a q r hg n ha hq hr
        (divides_of_fractions o L g a p hg ha hp e) division in
        let z : up-elem r hr ≡ F.zero = add_cancel_left F.additive m (up-elem r hr) F.zero
        (Elem-path k (F.◌⊕◌ m (up-elem r hr)) (F.◌⊕◌ m F.zero)
        (sym division_value ∙ t ∙ sym (ap (λ (x : Elem k). x.0) (F.add_comm m F.zero ∙ F.zero-add m)))) in
        ap (λ (x : Elem k). x.0.0) z ∙ ap (λ (x : Pair E). x.0) (zero_is o L)

  -- d·item divided by c
  module _ (d c item u q r : List E) (hd : Is d) (hc : Is c) (n : c ≢ []) (hi : Is item) (hu : Is u) (hq : Is q)
      (hr : Is r) (product : IsProduct o d item u) (division : IsDivision o u c q r) where
    abbrev i : Pair E
    i = up item

    abbrev over_c : Pair E
    over_c = fraction_over o L c item

    u-is : up u ≡ k.mul (up d) i
    u-is = as_fraction-mul o L d item u hd hi hu product

    -- u / c
    u_over : k.mul (up u) (inverse o L c hc n) ≡ multiple_over o L d c item
    u_over = ap (λ x. k.mul x (inverse o L c hc n)) u-is
        ∙ laws.mul_assoc (up d) i (inverse o L c hc n) (as_fraction-elem o L d hd) (as_fraction-elem o L item hi)
        (inverse-elem o L c hc n)

    pub item_value : r ≡ [] → up q ≡ multiple_over o L d c item
    item_value e = sym (mul-divided o L c hc n (up q) (as_fraction-elem o L q hq))
        ∙ ap (λ x. k.mul x (inverse o L c hc n)) (sym (quotient_of_rest u c q r hu hc hq hr division e)) ∙ u_over

    pub item_none : (r ≡ [] → ⊥) → (p : List E) → Is p → up p ≡ multiple_over o L d c item → ⊥
    item_none h p hp e = h (rest_of_multiple u c q r hu hc hq hr division p hp n
        (sym (divided-mul o L c hc n (up u) (as_fraction-elem o L u hu)) ∙ ap (λ x. k.mul x (up c)) (u_over ∙ sym e)))

  -- ---- rows

  module _ (d c : List E) (hd : Is d) (nd : d ≢ []) (hc : Is c) (nc : c ≢ []) (row : List (List E))
      (hrow : All Is row) where
    abbrev w : ℕ
    w = length row

    abbrev value : ℕ → Pair E
    value j = multiple_over o L d c (get_or row j [])

    abbrev x : List (Pair E)
    x = map (fraction_over o L c) row

    item_is : (j : ℕ) → j < w → Is (get_or row j [])
    item_is j l = All-get_or Is row j [] l hrow

    -- the row over d is the given one over c
    over_same : (y : List (List E)) → HasRow o value w y → map (fraction_over o L d) y ≡ x
    over_same y h = ext_get_or k.zero (map (fraction_over o L d) y) x
        (length-map y (fraction_over o L d) ∙ h.count ∙ sym (length-map row (fraction_over o L c))) (λ j l.
        let j_in : j < w = omega (arith, l, length-map y (fraction_over o L d), h.count) in
        get_or-map (fraction_over o L d) y j [] k.zero (omega (arith, j_in, h.count))
        ∙ over_of_multiple o L d hd nd (get_or y j []) (fraction_over o L c (get_or row j []))
        (over-elem o L c hc nc (get_or row j []) (item_is j j_in)) (h.values j j_in)
        ∙ sym (get_or-map (fraction_over o L c) row j [] k.zero j_in))

    -- and only that
    has_of_over : (y : List (List E)) → IsPolynomialRow o w y → map (fraction_over o L d) y ≡ x → HasRow o value w y
    has_of_over y hy e = record {
      count = hy.width;
      polynomials = λ j l. y_is j l;
      values = λ j l. sym (mul-over o L d hd nd (get_or y j []) (y_is j l))
          ∙ ap (k.mul (up d)) (sym (get_or-map (fraction_over o L d) y j [] k.zero (omega (arith, l, hy.width)))
          ∙ ap (λ z. get_or z j k.zero) e ∙ get_or-map (fraction_over o L c) row j [] k.zero l);
    }
      where
        y_is : (j : ℕ) → j < w → Is (get_or y j [])
        y_is j l = let j_in : j < length y = omega (arith, l, hy.width) in
            record { over = hy.over j [] j_in; trimmed = hy.trimmed j [] j_in }

    module _ (rows : List (List (List E))) (hr : IsPolynomialMatrix o w rows) where
      abbrev Lat : Type 0
      Lat = TupleLattice k (IsPolynomialFraction o) w
          (tuples_of o L (record { denominator = d; numerators = rows })) x

      pub has_row : (y : List (List E)) → HasRow o value w y → InRowLattice o rows y → Lat
      has_row y h m = subst (TupleLattice k (IsPolynomialFraction o) w
          (tuples_of o L (record { denominator = d; numerators = rows }))) (over_same y h)
          (lattice_of_row o L w d hd nd rows hr y (row_is o value w y h) m)

      -- the row of a tuple in the lattice
      found : Lat → (y : List (List E)) × HasRow o value w y × InRowLattice o rows y
      found h =
          let r = row_of_lattice o L w d hd nd rows hr x h in
          (r.row, has_of_over r.row r.is_row r.value, r.inside)

      pub no_row_none : ((y : List (List E)) → HasRow o value w y → ⊥) → Lat → ⊥
      no_row_none f h = let r = found h in f r.0 r.1

      pub no_row_outside : (y : List (List E)) → HasRow o value w y → (InRowLattice o rows y → ⊥) → Lat → ⊥
      no_row_outside y hy f h = let r = found h in
          f (subst (InRowLattice o rows) (row_unique o value w r.0 y r.1 hy) r.2)

      -- what a search for the coordinates of the row tells
      pub member_tells : (y : List (List E)) → HasRow o value w y → (r : Option (List (List E)))
          → (r ≡ None → InRowLattice o rows y → ⊥) → IfSome r (IsPolynomialRow o (length rows))
          → IfSome r (λ c. IsRowCombination o c rows y) → IsTrue (is_some r) ↔ Lat
      member_tells y h None none p c =
          ((λ t. absurd (both_ways false refl t)), (λ l. absurd (no_row_outside y h (none refl) l)))
      member_tells y h (Some z) none p c =
          ((λ _. has_row y h (record { weights = z; polynomials = p; combines = c })), (λ _. refl))

  -- ---- bases

  module _ (n : ℕ) (a b : BasisForm E) (ha : IsBasis o L n a) (hb : IsBasis o L n b) where
    abbrev T : BasisForm E → List (Pair E) → Type 0
    T f = TupleLattice k (IsPolynomialFraction o) n (tuples_of o L f)

    -- the tuple that the row i of a stands for
    abbrev tuple_at : ℕ → List (Pair E)
    tuple_at i = map (fraction_over o L a.denominator) (get_or a.numerators i [])

    tuple_is : (i : ℕ) → i < length a.numerators → get_or (tuples_of o L a) i [] ≡ tuple_at i
    tuple_is i l = get_or-map (map (fraction_over o L a.denominator)) a.numerators i [] [] l

    -- the tuples of a are in its lattice
    pub own_tuple : (i : ℕ) → i < length a.numerators → T a (tuple_at i)
    own_tuple i l = let s = ha.independent in
        subst (T a) (tuple_is i l) (lattice_member k laws (IsPolynomialFraction o) (polynomials_are_subring o L) n
        (tuples_of o L a) s.shape i (omega (arith, l, count-tuples o L a)))

    -- where all are in that of b, its lattice is
    pub all_within : ((i : ℕ) → i < length a.numerators → T b (tuple_at i)) → Within (T a) (T b)
    all_within h x hx = let s = ha.independent in let t = hb.independent in
        lattice_within k laws (IsPolynomialFraction o) (polynomials_are_subring o L) n (tuples_of o L a)
        (tuples_of o L b) s.shape t.shape
        (λ i l. let l' : i < length a.numerators = omega (arith, l, count-tuples o L a) in
        subst (T b) (sym (tuple_is i l')) (h i l')) x hx

    -- a basis has as many rows as each has entries
    wide : (f : BasisForm E) → IsBasis o L n f → width_of f.numerators ≡ n
    wide f h =
        let s = h.independent in
        let tall : length f.numerators ≡ n = sym (count-tuples o L f) ∙ s.count in
        square-width o f.numerators (subst (λ m. IsPolynomialMatrix o m f.numerators) (sym tall) h.rows) ∙ tall

    pub can_reduce : IsPolynomialMatrix o (width_of b.numerators) b.numerators
    can_reduce = subst (λ m. IsPolynomialMatrix o m b.numerators) (sym (wide b hb)) hb.rows

    pub own_nonzero : a.denominator ≢ []
    own_nonzero = nonzero_of_monic o L a.denominator (let l = ha.least in l.monic)

    pub other_nonzero : b.denominator ≢ []
    other_nonzero = nonzero_of_monic o L b.denominator (let l = hb.least in l.monic)

    -- the row i of a, and the rows of b, reduced
    module _ (basis : List (List (List E))) (m : IsPolynomialMatrix o (width_of b.numerators) basis)
        (s : SameRowLattice o (width_of b.numerators) b.numerators basis) (i : ℕ) (i_in : i < length a.numerators)
        (row : List (List E)) (row_is : row ≡ get_or a.numerators i []) where
      own_row : IsPolynomialRow o n row
      own_row = subst (IsPolynomialRow o n) (sym row_is) (ha.rows i [] i_in)

      pub row_polynomials : All (IsPolynomialList o) row
      row_polynomials j d l = record { over = own_row.over j d l; trimmed = own_row.trimmed j d l }

      matrix : IsPolynomialMatrix o n basis
      matrix = subst (λ w. IsPolynomialMatrix o w basis) (wide b hb) m

      pub row_matrix : IsPolynomialMatrix o (length row) basis
      row_matrix = subst (λ w. IsPolynomialMatrix o w basis) (sym own_row.width) matrix

      reduced : SameTupleLattice k (IsPolynomialFraction o) n (tuples_of o L b)
          (tuples_of o L (record { denominator = b.denominator; numerators = basis }))
      reduced = same_tuples o L n b.denominator hb.polynomial other_nonzero b.numerators basis hb.rows matrix
          (subst (λ w. SameRowLattice o w b.numerators basis) (wide b hb) s)

      -- it is in the lattice of b where it is in that of the reduced rows
      pub row_in : TupleLattice k (IsPolynomialFraction o) (length row)
          (tuples_of o L (record { denominator = b.denominator; numerators = basis }))
          (map (fraction_over o L a.denominator) row) ↔ T b (tuple_at i)
      row_in =
          let Lat : ℕ → List (List E) → Type 0 = λ w r. TupleLattice k (IsPolynomialFraction o) w
          (tuples_of o L (record { denominator = b.denominator; numerators = basis }))
          (map (fraction_over o L a.denominator) r) in (
            (λ h. reduced.1 (tuple_at i) (subst (Lat n) row_is (subst (λ w. Lat w row) own_row.width h))),
            (λ h. subst (λ w. Lat w row) (sym own_row.width) (subst (Lat n) (sym row_is) (reduced.0 (tuple_at i) h))),
          )
