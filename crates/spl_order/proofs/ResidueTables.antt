-- The residues of the coordinates of an order's products as the constants of the order modulo the place.
use Rattle.std.specs.Prelude.{◌≡◌, ◌<◌, ◌+◌, ◌*◌, ◌/◌, ◌%◌, ℕ, List, [], ◌∷◌, ◌++◌, length, get_or}
use Rattle.std.proofs.Common.{refl, sym, ◌∙◌, ap, subst, arith, length-append}
use Rattle.std.proofs.Math.Nat.{div-add-mod'}
use Rattle.std.proofs.lemmas.List.{get_or_default}
use Rattle.std.proofs.lemmas.List.Elements.{All-from_get_or}
use Rattle.theory_rings.specs.Ops.{Ops, IsElem, FieldLaws}
use Rattle.theory_spaces.proofs.Matrices.PairIndex.{pair-lt, row-lt, column-lt}
use Rattle.theory_tables.specs.Structure.{Structure, IsOver, IsAssociative, product_of}
use Rattle.theory_tables.specs.Algebras.{HasIdentity}
use Rattle.theory_tables.proofs.Rows.Spans.{grow_at}
use Rattle.theory_fractions.specs.Fraction.{Pair}
use Rattle.theory_fractions.specs.FractionOps.{fraction_ops}
use Rattle.theory_fractions.proofs.FractionField.{fraction_laws}
use Rattle.theory_remainders.specs.RemainderOps.{remainder_ops}
use Rattle.theory_remainders.proofs.RemainderField.{monic, remainder_laws}
use Rattle.theory_places.specs.Places.{Finite}
use Rattle.theory_places.specs.FractionPlaces.{IsIntegralAt, IsMonicIrreducible, fractions}
use Rattle.theory_reductions.specs.Reductions.{IsResidueOf}
use Rattle.theory_bases.specs.TupleLattices.{TupleLattice, AreIndependentTuples, SpanOrder}
use Rattle.theory_bases.specs.Bases.{fraction_over}
use Rattle.theory_left_orders.specs.FractionResidues.{ResidueRingsBy}
use Rattle.theory_left_orders.proofs.FractionResidues.{residue_rings}
use Rattle.spl_order.specs.Coordinates.{AreCoordinatesOver, AreCoordinatesAt}
use Rattle.spl_order.specs.Residues.{AreProductResidues, AreResiduesOver}
use Rattle.spl_order.proofs.PlaceResidues.{integral_of_congruent, residue_of_congruent}
use Rattle.spl_order.proofs.ProductCoordinates.{products_inside, coordinates_allowed, laws_of_residues}

-- a number below n³ by its three digits to the base n
module _ (n p : ℕ) (l : p < n * n * n) where
  pub first_digit : ℕ
  first_digit = p / n / n

  pub second_digit : ℕ
  second_digit = p / n % n

  pub third_digit : ℕ
  third_digit = p % n

  pair_in : p / n < n * n
  pair_in = row-lt (n * n) n p l

  pub first_in : first_digit < n
  unfolding first_digit
  first_in = row-lt n n (p / n) pair_in

  pub second_in : second_digit < n
  unfolding second_digit
  second_in = column-lt n n (p / n) pair_in

  pub third_in : third_digit < n
  unfolding third_digit
  third_in = column-lt (n * n) n p l

  pub by_digits : (first_digit * n + second_digit) * n + third_digit ≡ p
  unfolding first_digit second_digit third_digit
  by_digits = ap (λ z. z * n + p % n) (div-add-mod' (p / n) n) ∙ div-add-mod' p n

-- a structure by its dimension and its constants
pub structure_is : {E : Type 0} (P : Structure E → Type 0) (B : Structure E) (n : ℕ) (cs : List E) → B.dim ≡ n
    → B.constants ≡ cs → P (record { dim = n; constants = cs }) → P B
structure_is P B n cs d e h =
    subst (λ m. P (record { dim = m; constants = B.constants })) (sym d)
    (subst (λ xs. P (record { dim = n; constants = xs })) (sym e) h)

module _ {E : Type 0} (o : Ops E) (L : FieldLaws o) (m : List E) where
  -- ---- how lists of residues grow

  module _ (r : Ops (List E)) (d : List E) (items : List (List E)) where
    pub no_residues : (residues : List (List E)) → residues ≡ [] → AreResiduesOver o L m r d items 0 residues
    no_residues residues e = record {
      count = ap length e;
      elements = λ p l. absurd (omega arith);
      values = λ p l. absurd (omega arith);
    }

    pub more_residues : (n : ℕ) (before after : List (List E)) (x : List E) → AreResiduesOver o L m r d items n before
        → after ≡ before ++ x ∷ [] → IsElem r x → IsResidueOf o m r (fraction_over o L d (get_or items n [])) x
        → AreResiduesOver o L m r d items (n + 1) after
    more_residues n before after x h e hx v = record {
      count = ap length e ∙ length-append before (x ∷ []) ∙ omega (arith, h.count);
      elements = grow_at (λ _. IsElem r) [] n before after x h.count h.elements hx e;
      values = grow_at (λ p y. IsResidueOf o m r (fraction_over o L d (get_or items p [])) y) [] n before after x
          h.count h.values v e;
    }

  module _ (s : IsMonicIrreducible o m) (A : Structure (Pair E)) (tuples : List (List (Pair E))) (scale : List E)
      (items : List (List E)) (C : AreCoordinatesAt o L m A tuples scale items) where
    abbrev k : Ops (Pair E)
    k = fraction_ops o L

    abbrev laws : FieldLaws k
    laws = fraction_laws o L

    abbrev n : ℕ
    n = A.dim

    abbrev X : AreCoordinatesOver o L A tuples scale C.exact
    X = C.coordinates

    abbrev coordinate : ℕ → ℕ → ℕ → Pair E
    coordinate i j l = fraction_over o L scale (get_or C.exact ((i * n + j) * n + l) [])

    module _ (independent : AreIndependentTuples k n tuples)
        (inside : (i j : ℕ) → i < n → j < n
        → TupleLattice k (IsIntegralAt o (Finite m)) n tuples (product_of k A (get_or tuples i []) (get_or tuples j []))) where
      -- the coordinates are integral where the products of the tuples are in their lattice
      coordinates_integral : (p : ℕ) → p < n * n * n
          → IsIntegralAt o (Finite m) (fraction_over o L scale (get_or C.exact p []))
      coordinates_integral p l =
          let N = remainder_laws o L m s.irreducible in
          let r = remainder_ops o L m (monic o L m s.irreducible) in
          let R : ResidueRingsBy o L laws m r N = residue_rings o L laws m s N in
          subst (λ q. IsIntegralAt o (Finite m) (fraction_over o L scale (get_or C.exact q []))) (by_digits n p l)
          (coordinates_allowed k laws (IsIntegralAt o (Finite m)) R.p (let F = fractions o L laws in F.inv R.p) r N
          R.at_place A tuples independent inside coordinate X.coordinates (first_digit n p l)
          (second_digit n p l) (third_digit n p l) (first_in n p l) (second_in n p l) (third_in n p l))

      -- and so is what is congruent to them
      pub integral_items : (p : ℕ) → p < n * n * n
          → IsIntegralAt o (Finite m) (fraction_over o L scale (get_or items p []))
      integral_items p l = integral_of_congruent o L m s scale X.polynomial X.nonzero (get_or items p [])
          (get_or C.exact p []) (C.polynomials p l) (X.polynomials p l) (C.congruent p l) (coordinates_integral p l)

      -- whose residues are those of the products
      pub product_residues : (r : Ops (List E)) → remainder_ops o L m (monic o L m s.irreducible) ≡ r
          → (residues : List (List E))
          → AreResiduesOver o L m r scale items (n * n * n) residues → AreProductResidues o L m r A tuples residues
      product_residues r e residues H = record {
        shape = record {
          right_length = H.count;
          of_elements = All-from_get_or (IsElem r) residues [] (λ p l. H.elements p (omega (arith, l, H.count)));
        };
        coordinate = coordinate;
        coordinates = X.coordinates;
        residues = λ i j l i_in j_in l_in.
            let p = (i * n + j) * n + l in
            let p_in : p < n * n * n = pair-lt (n * n) n (i * n + j) l (pair-lt n n i j i_in j_in) l_in in
            let z = get_or residues p [] in
            subst (IsResidueOf o m r (coordinate i j l))
            (get_or_default residues p [] r.zero (omega (arith, p_in, H.count)))
            (subst (λ r. IsResidueOf o m r (coordinate i j l) z) e
            (residue_of_congruent o L m s scale X.polynomial X.nonzero (get_or items p []) (get_or C.exact p [])
            (C.polynomials p p_in) (X.polynomials p p_in) (C.congruent p p_in) (coordinates_integral p p_in) z
            (subst (λ r. IsResidueOf o m r (fraction_over o L scale (get_or items p [])) z) (sym e) (H.values p p_in))));
      }

  -- an order holds the products of its tuples
  pub order_products : (s : IsMonicIrreducible o m) (A : Structure (Pair E)) (tuples : List (List (Pair E)))
      → SpanOrder (fraction_ops o L) A (IsIntegralAt o (Finite m)) tuples → (i j : ℕ) → i < A.dim → j < A.dim
      → TupleLattice (fraction_ops o L) (IsIntegralAt o (Finite m)) A.dim tuples
      (product_of (fraction_ops o L) A (get_or tuples i []) (get_or tuples j []))
  order_products s A tuples S =
      let M = fraction_laws o L in
      let N = remainder_laws o L m s.irreducible in
      let r = remainder_ops o L m (monic o L m s.irreducible) in
      let R : ResidueRingsBy o L M m r N = residue_rings o L M m s N in
      products_inside (fraction_ops o L) M (IsIntegralAt o (Finite m)) R.p
      (let F = fractions o L M in F.inv R.p) r N R.at_place A tuples S.basis (let O = S.order in O.mul_in)

  -- the laws of the algebra with these constants, over operations that are those of the remainders
  pub residue_laws : (s : IsMonicIrreducible o m) (A : Structure (Pair E)) (tuples : List (List (Pair E)))
      (r : Ops (List E))
      → r ≡ remainder_ops o L m (monic o L m s.irreducible) → (B : Structure (List E)) → B.dim ≡ A.dim
      → AreProductResidues o L m r A tuples B.constants
      → SpanOrder (fraction_ops o L) A (IsIntegralAt o (Finite m)) tuples → IsOver (fraction_ops o L) A
      → IsAssociative (fraction_ops o L) A → IsAssociative r B × HasIdentity r B
  residue_laws s A tuples r e B d H S over assoc =
      let M = fraction_laws o L in
      let N = remainder_laws o L m s.irreducible in
      let q = remainder_ops o L m (monic o L m s.irreducible) in
      let R = residue_rings o L M m s N in
      structure_is (λ B. IsAssociative r B × HasIdentity r B) B A.dim B.constants d refl
      (subst (λ r. IsAssociative r (record { dim = A.dim; constants = B.constants })
      × HasIdentity r (record { dim = A.dim; constants = B.constants })) (sym e)
      (laws_of_residues o L M m s N R A tuples B.constants
      (subst (λ r. AreProductResidues o L m r A tuples B.constants) e H) over assoc S))
