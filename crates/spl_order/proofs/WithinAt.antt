-- Whether the lattice of a basis at a finite place, or its multiples, lie in that of another, by the tuples of rows.
use Rattle.std.specs.Prelude.{◌≡◌, ◌≢◌, ◌<◌, ◌↔◌, ℕ, Bool, List, [], IsTrue, length, get_or, map}
use Rattle.std.specs.List.{All}
use Rattle.std.proofs.Common.{refl, sym, ◌∙◌, ap, subst, arith}
use Rattle.std.proofs.lemmas.List.{get_or-map}
use Rattle.std.proofs.lemmas.List.Elements.{All-get_or}
use Rattle.theory_rings.specs.Ring.{FieldOn}
use Rattle.theory_rings.specs.Ops.{Ops, IsElem, FieldLaws}
use Rattle.theory_rings.specs.Elements.{Elem, elements}
use Rattle.theory_rings.specs.Sum.{at, sum_of}
use Rattle.theory_rings.proofs.Rings.Elements.{at-elem, sum_of_congr}
use Rattle.theory_rings.proofs.Rings.Solver.{◌⊠◌, ring3}
use Rattle.theory_spaces.specs.Lattice.{IsSubring}
use Rattle.theory_spaces.specs.Sets.{Within}
use Rattle.theory_spaces.specs.Tuples.{IsTuple, tuple_scale}
use Rattle.theory_spaces.proofs.Tuples.Tuples.{IsTuple-table, IsTuple-ext, at-table}
use Rattle.theory_tables.specs.Matrix.{entry, IsMatrix}
use Rattle.theory_tables.proofs.Algebras.Bridge.{row, row-at, IsTuple-of}
use Rattle.theory_tables.proofs.Rows.Sums.{mul-sum_of}
use Rattle.theory_fractions.specs.PolynomialLists.{IsPolynomialList}
use Rattle.theory_fractions.specs.Fraction.{Pair}
use Rattle.theory_fractions.specs.CommonDenominator.{as_fraction}
use Rattle.theory_fractions.proofs.CommonDenominators.{nonzero_of_monic}
use Rattle.theory_fractions.proofs.PolynomialFractions.{as_fraction-elem}
use Rattle.theory_remainders.specs.RemainderOps.{remainder_ops}
use Rattle.theory_remainders.proofs.RemainderField.{monic, remainder_laws}
use Rattle.theory_places.specs.Places.{Finite}
use Rattle.theory_places.specs.FractionPlaces.{IsIntegralAt, IsMonicIrreducible}
use Rattle.theory_rows.specs.Rows.{IsPolynomialMatrix}
use Rattle.theory_rows.proofs.LiftedRows.{matrix-over, matrix-trimmed}
use Rattle.theory_bases.specs.TupleLattices.{TupleLattice}
use Rattle.theory_bases.specs.Bases.{BasisForm, IsBasis, fraction_over, tuples_of}
use Rattle.theory_bases.proofs.FractionsOver.{K, M, count-tuples, entry-tuples, over_rows-matrix, inverse, inverse-elem}
use Rattle.theory_left_orders.specs.FractionResidues.{ResidueRingsBy}
use Rattle.theory_left_orders.proofs.FractionResidues.{residue_rings}
use Rattle.spl_field.specs.declared.small.SmallField.{SmallField}
use Rattle.spl_field.specs.SmallField.{small_ops, small_laws}
use Rattle.spl_fraction.specs.FractionsOver.{fractions_over}
use Rattle.spl_order.specs.Values.{HasMatrix, fraction_entry}
use Rattle.spl_order.proofs.Values.{matrix_is}
use Rattle.spl_order.proofs.LatticeMembers.{lattice_member, lattice_within}

module _ {E : Type 0} (o : Ops E) (L : FieldLaws o) (m : List E) (place : IsMonicIrreducible o m) where
  abbrev k : Ops (Pair E)
  k = K o L

  abbrev laws : FieldLaws k
  laws = M o L

  abbrev P : Pair E → Type 0
  P = IsIntegralAt o (Finite m)

  -- what is integral at the place is a subring
  pub place_subring : IsSubring (let F = elements k laws in F.ring) (λ (c : Elem k). P c.0)
  place_subring =
      let N = remainder_laws o L m place.irreducible in
      let r = remainder_ops o L m (monic o L m place.irreducible) in
      let R : ResidueRingsBy o L laws m r N = residue_rings o L laws m place N in
      let D = R.at_place in D.subring

  module _ (n : ℕ) (a b : BasisForm E) (ha : IsBasis o L n a) (hb : IsBasis o L n b) where
    abbrev Lat : BasisForm E → List (Pair E) → Type 0
    Lat f = TupleLattice k P n (tuples_of o L f)

    abbrev A : List (List (Pair E))
    A = tuples_of o L a

    a_shape : IsMatrix k n A
    a_shape = let i = ha.independent in i.shape

    b_shape : IsMatrix k n (tuples_of o L b)
    b_shape = let i = hb.independent in i.shape

    na : a.denominator ≢ []
    na = nonzero_of_monic o L a.denominator (let l = ha.least in l.monic)

    -- the tuple of the row i
    abbrev tuple_at : ℕ → List (Pair E)
    tuple_at i = map (fraction_over o L a.denominator) (get_or a.numerators i [])

    tuple_is : (i : ℕ) → i < length a.numerators → get_or A i [] ≡ tuple_at i
    tuple_is i l = get_or-map (map (fraction_over o L a.denominator)) a.numerators i [] [] l

    pub tuples_within : ((i : ℕ) → i < length a.numerators → Lat b (tuple_at i)) ↔ Within (Lat a) (Lat b)
    tuples_within = (
      λ h x hx. lattice_within k laws P place_subring n A (tuples_of o L b) a_shape b_shape
          (λ i l. let l' : i < length a.numerators = omega (arith, l, count-tuples o L a) in
          subst (Lat b) (sym (tuple_is i l')) (h i l')) x hx,
      λ w i l. subst (Lat b) (tuple_is i l) (w (get_or A i []) (lattice_member k laws P place_subring n A a_shape i
          (omega (arith, l, count-tuples o L a)))),
    )

    -- ---- multiples

    module _ (c : List E) (hc : IsPolynomialList o c) (rows : List (List (List E)))
        (R : HasMatrix o (λ i j. k.mul (as_fraction o c) (fraction_entry o a.numerators i j)) (length a.numerators) n
        rows) where
      abbrev value : ℕ → ℕ → Pair E
      value i j = k.mul (as_fraction o c) (fraction_entry o a.numerators i j)

      abbrev up-c : Pair E
      up-c = as_fraction o c

      c-elem : IsElem k up-c
      c-elem = as_fraction-elem o L c hc

      matrix : IsPolynomialMatrix o n rows
      matrix = matrix_is o value (length a.numerators) n rows R

      abbrev multiple : BasisForm E
      multiple = record { denominator = a.denominator; numerators = rows }

      abbrev D : List (List (Pair E))
      D = tuples_of o L multiple

      abbrev multiple_at : ℕ → List (Pair E)
      multiple_at i = map (fraction_over o L a.denominator) (get_or rows i [])

      multiple_tuple : (i : ℕ) → i < length rows → get_or D i [] ≡ multiple_at i
      multiple_tuple i l = get_or-map (map (fraction_over o L a.denominator)) rows i [] [] l

      D-shape : IsMatrix k n D
      D-shape = over_rows-matrix o L a.denominator ha.polynomial na n rows matrix

      D-count : length D ≡ length A
      D-count = count-tuples o L multiple ∙ R.count ∙ sym (count-tuples o L a)

      entry-elem : (i j : ℕ) → j < n → IsElem k (entry k A i j)
      entry-elem i j l = let v = row k laws n A a_shape i in
          subst (IsElem k) (row-at k laws n A a_shape i j l)
          (at-elem k laws v.0 (let t = IsTuple-of k laws n v in t.of_elements) j)

      -- the entries are c times those of the tuples
      D-entry : (i j : ℕ) → i < length A → j < n → entry k D i j ≡ k.mul up-c (entry k A i j)
      D-entry i j i_in j_in =
          let i_row : i < length a.numerators = omega (arith, i_in, count-tuples o L a) in
          let i_rows : i < length rows = omega (arith, i_row, R.count) in
          let e = R.each i i_row in
          let u = get_or (get_or a.numerators i []) j [] in
          entry-tuples o L n multiple matrix i j i_rows j_in
          ∙ ap (λ x. k.mul x (inverse o L a.denominator ha.polynomial na)) (e.values j j_in)
          ∙ laws.mul_assoc up-c (as_fraction o u) (inverse o L a.denominator ha.polynomial na) c-elem
          (as_fraction-elem o L u (record {
            over = matrix-over o L n a.numerators ha.rows i j;
            trimmed = matrix-trimmed o L n a.numerators ha.rows i j;
          })) (inverse-elem o L a.denominator ha.polynomial na)
          ∙ ap (k.mul up-c) (sym (entry-tuples o L n a ha.rows i j i_row j_in))

      -- c times a combination of the tuples is that of the multiples
      scaled_sum : (w : List (Pair E)) → All (IsElem k) w → (j : ℕ) → j < n
          → k.mul up-c (sum_of k (length A) (λ i. k.mul (at k w i) (entry k A i j)))
          ≡ sum_of k (length D) (λ i. k.mul (at k w i) (entry k D i j))
      scaled_sum w hw j j_in =
          let F : FieldOn (Elem k) = elements k laws in
          mul-sum_of k laws (length A) up-c (λ i. k.mul (at k w i) (entry k A i j)) c-elem
          (λ i. laws.mul-elem (at k w i) (entry k A i j) (at-elem k laws w hw i) (entry-elem i j j_in))
          ∙ sum_of_congr k (length A) (λ i. k.mul up-c (k.mul (at k w i) (entry k A i j)))
          (λ i. k.mul (at k w i) (entry k D i j))
          (λ i i_in. ap (λ (z : Elem k). z.0) (ring3 F.cring (λ c w t. (c ⊠ (w ⊠ t), w ⊠ (c ⊠ t))) refl (up-c, c-elem)
          (at k w i, at-elem k laws w hw i) (entry k A i j, entry-elem i j j_in))
          ∙ ap (k.mul (at k w i)) (sym (D-entry i j i_in j_in)))
          ∙ ap (λ t. sum_of k t (λ i. k.mul (at k w i) (entry k D i j))) (sym D-count)

      -- c times a member of the lattice of a is in that of the multiples
      scaled_member : (y : List (Pair E)) → Lat a y → Lat multiple (tuple_scale k n up-c y)
      scaled_member y h =
          let s = h.1 in
          let w = s.weights in (
            IsTuple-table k n (λ j. k.mul up-c (at k y j))
                (λ j _. laws.mul-elem up-c (at k y j) c-elem (at-elem k laws y (let t = h.0 in t.of_elements) j)),
            record {
              weights = w;
              tuple = subst (λ t. IsTuple k t w) (sym D-count) s.tuple;
              allowed = s.allowed;
              combines = λ j j_in.
                  at-table k n (λ j. k.mul up-c (at k y j)) j j_in ∙ ap (k.mul up-c) (s.combines j j_in)
                  ∙ scaled_sum w s.tuple.of_elements j j_in;
            },
          )

      pub multiples_within : ((i : ℕ) → i < length rows → Lat b (multiple_at i))
          ↔ Within (λ x. (y : List (Pair E)) × Lat a y × (x ≡ tuple_scale k n up-c y)) (Lat b)
      multiples_within = (
        λ h x hx. subst (Lat b) (sym hx.2) (lattice_within k laws P place_subring n D (tuples_of o L b) D-shape b_shape
            (λ i l. let l' : i < length rows = omega (arith, l, count-tuples o L multiple) in
            subst (Lat b) (sym (multiple_tuple i l')) (h i l')) (tuple_scale k n up-c hx.0) (scaled_member hx.0 hx.1)),
        λ w i l.
            let i_in : i < length A = omega (arith, l, R.count, count-tuples o L a) in
            let y = get_or A i [] in
            let hy : Lat a y = lattice_member k laws P place_subring n A a_shape i i_in in
            subst (Lat b) (IsTuple-ext k n (tuple_scale k n up-c y) (get_or D i []) (scaled_member y hy).0
            (All-get_or (IsTuple k n) D i [] (omega (arith, i_in, D-count)) D-shape)
            (λ j j_in. at-table k n (λ j. k.mul up-c (at k y j)) j j_in ∙ sym (D-entry i j i_in j_in))
            ∙ multiple_tuple i l) (w (tuple_scale k n up-c y) (y, hy, refl)),
      )

-- what a program reads is what it is read of
module _ (F g : SmallField) (g-is : g ≡ F) (w n : ℕ) (w-is : w ≡ n) where
  pub carried : (T : SmallField → ℕ → Type 0) → T F n → T g w
  carried T h = subst (λ f. T f w) (sym g-is) (subst (T F) (sym w-is) h)

  pub back : (T : SmallField → ℕ → Type 0) → T g w → T F n
  back T h = subst (T F) w-is (subst (λ f. T f w) g-is h)

  module _ (b : BasisForm ℕ) (p : List ℕ) (r : Bool) where
    abbrev pub Tells : SmallField → ℕ → List (List (List ℕ)) → List ℕ → Type 0
    Tells f w z d = IsTrue r ↔ ((i : ℕ) → i < length z → TupleLattice (fractions_over f)
        (IsIntegralAt (small_ops f) (Finite p)) w (tuples_of (small_ops f) (small_laws f) b)
        (map (fraction_over (small_ops f) (small_laws f) d) (get_or z i [])))

    pub tells_of : (z y : List (List (List ℕ))) → z ≡ y → (d e : List ℕ) → d ≡ e → Tells g w z d → Tells F n y e
    tells_of z y z-is d e d-is h =
        subst (Tells F n y) d-is (subst (λ z. Tells F n z d) z-is (back (λ f w. Tells f w z d) h))

  -- the multiples of rows
  pub multiples_of : (c : List ℕ) (z y rows : List (List (List ℕ))) → z ≡ y
      → HasMatrix (small_ops g) (λ i j. (fractions_over g).mul (as_fraction (small_ops g) c)
      (fraction_entry (small_ops g) z i j)) (length z) w rows
      → HasMatrix (small_ops F) (λ i j. (fractions_over F).mul (as_fraction (small_ops F) c)
      (fraction_entry (small_ops F) y i j)) (length y) n rows
  multiples_of c z y rows z-is h =
      let T : List (List (List ℕ)) → SmallField → ℕ → Type 0 = λ z f w.
      HasMatrix (small_ops f) (λ i j. (fractions_over f).mul (as_fraction (small_ops f) c)
      (fraction_entry (small_ops f) z i j)) (length z) w rows in
      subst (λ z. T z F n) z-is (back (T z) h)
