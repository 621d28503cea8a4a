-- The image of a lattice inside an order at a place, as the rows over the residue field that theorems speak of.
use Rattle.std.specs.Prelude.{◌≡◌, ◌<◌, ℕ, List, [], ◌∷◌, length, get_or}
use Rattle.std.proofs.Common.{refl, sym, ◌∙◌, ap, subst, arith}
use Rattle.std.proofs.lemmas.List.Elements.{All-get_or}
use Rattle.theory_rings.specs.Ops.{Ops, FieldLaws}
use Rattle.theory_rings.specs.Elements.{Elem}
use Rattle.theory_rings.specs.Sum.{at, table}
use Rattle.theory_rings.proofs.Rings.Elements.{sum_of_congr}
use Rattle.theory_rings.proofs.Sums.Lists.{length-table, get_or-table, All-table}
use Rattle.theory_spaces.specs.Sets.{Within}
use Rattle.theory_spaces.specs.Tuples.{IsTuple, tuple_zero}
use Rattle.theory_spaces.proofs.Tuples.Tuples.{IsTuple-table, at-table}
use Rattle.theory_tables.specs.Matrix.{entry, IsMatrix}
use Rattle.theory_tables.specs.Structure.{Structure}
use Rattle.theory_tables.specs.Subspace.{SameSpan, IsReducedBasis}
use Rattle.theory_fractions.specs.Fraction.{Pair}
use Rattle.theory_fractions.specs.FractionOps.{fraction_ops}
use Rattle.theory_remainders.specs.RemainderOps.{remainder_ops}
use Rattle.theory_remainders.proofs.RemainderField.{monic}
use Rattle.theory_places.specs.Places.{Finite}
use Rattle.theory_places.specs.FractionPlaces.{IsIntegralAt, IsMonicIrreducible, fractions}
use Rattle.theory_bases.specs.TupleLattices.{TupleLattice, AreIndependentTuples}
use Rattle.theory_left_orders.specs.FractionResidues.{ResidueRingsBy}
use Rattle.theory_left_orders.specs.TupleResidues.{HasResidue, AreResidueRows}
use Rattle.theory_left_orders.specs.TupleIdeals.{AreCombinations, Preimage}
use Rattle.theory_left_orders.proofs.TupleLattices.{lattice_by_weights}
use Rattle.spl_order.specs.Images.{AreCoordinateResidues}
use Rattle.spl_order.proofs.LatticeMembers.{lattice_member}

-- a reduced basis of zero rows has none
pub no_rows : {E : Type 0} (o : Ops E) (L : FieldLaws o) (w : ℕ) (rows : List (List E)) → IsReducedBasis o w rows
    → ((r : ℕ) → r < length rows → get_or rows r [] ≡ tuple_zero o w) → rows ≡ []
no_rows o L w [] B z = refl
no_rows o L w (x ∷ xs) B z =
    let R = B.reduced in
    let p = get_or B.pivots 0 0 in
    let some : 0 < length B.pivots = omega (arith, B.each) in
    absurd (L.one-nonzero (sym (R.unit 0 0 some (omega arith)) ∙ ap (λ r. at o r p) (z 0 (omega arith))
    ∙ at-table o w (λ _. o.zero) p (R.below 0 some)))

module _ {E : Type 0} (o : Ops E) (L : FieldLaws o) (M : FieldLaws (fraction_ops o L)) (m : List E)
    (s : IsMonicIrreducible o m) (N : FieldLaws (remainder_ops o L m (monic o L m s.irreducible)))
    (R : ResidueRingsBy o L M m (remainder_ops o L m (monic o L m s.irreducible)) N) (A : Structure (Pair E))
    (order : List (List (Pair E))) where
  abbrev k : Ops (Pair E)
  k = fraction_ops o L

  abbrev r : Ops (List E)
  r = remainder_ops o L m (monic o L m s.irreducible)

  abbrev q : Elem k
  q = let F = fractions o L M in F.inv R.p

  abbrev P : Pair E → Type 0
  P = IsIntegralAt o (Finite m)

  abbrev n : ℕ
  n = A.dim

  abbrev Lat : List (List (Pair E)) → List (Pair E) → Type 0
  Lat = TupleLattice k P n

  -- rows with the same span have the same preimage
  pub same_preimage : (a b : List (List (List E))) → SameSpan r n a b → (x : List (Pair E))
      → Preimage k M P R.p q r N R.at_place A order a x → Preimage k M P R.p q r N R.at_place A order b x
  same_preimage a b e x h =
      let c = h.1 in
      let t = c.inside in (
        h.0,
        record {
          weights = c.weights;
          tuple = c.tuple;
          combines = c.combines;
          residues = c.residues;
          each = c.each;
          inside = (t.0, (e c.residues t.0).0 t.1);
        },
      )

  module _ (inside : List (List (Pair E))) (count : length inside ≡ n) (shape : IsMatrix k n inside)
      (free : AreIndependentTuples k n order) (within : Within (Lat inside) (Lat order)) (rows : List (List (List E)))
      (H : AreCoordinateResidues o L m r n order inside rows) where
    abbrev pub coordinates : List (List (Pair E))
    coordinates = table n (λ i. table n (H.coordinate i))

    coordinates-count : length coordinates ≡ n
    coordinates-count = length-table n (λ i. table n (H.coordinate i))

    coordinates-shape : IsMatrix k n coordinates
    coordinates-shape = All-table (IsTuple k n) n (λ i. table n (H.coordinate i))
        (λ i _. IsTuple-table k n (H.coordinate i) (λ l _. H.elements_of i l))

    coordinates-entry : (i l : ℕ) → i < n → l < n → entry k coordinates i l ≡ H.coordinate i l
    coordinates-entry i l i_in l_in = ap (λ v. get_or v l k.zero)
        (get_or-table n (λ i. table n (H.coordinate i)) i [] i_in) ∙ get_or-table n (H.coordinate i) l k.zero l_in

    pub combinations : AreCombinations k M P R.p q r N R.at_place A order coordinates inside
    combinations = record {
      count = count ∙ sym coordinates-count;
      shape = shape;
      combines = λ i c i_in c_in.
          let i_n : i < n = omega (arith, i_in, coordinates-count) in
          H.combines i c i_n c_in
          ∙ sum_of_congr k n (λ l. k.mul (H.coordinate i l) (entry k order l c))
          (λ l. k.mul (entry k coordinates i l) (entry k order l c))
          (λ l l_in. ap (λ z. k.mul z (entry k order l c)) (sym (coordinates-entry i l i_n l_in)));
    }

    allowed : (i l : ℕ) → i < n → l < n → P (H.coordinate i l)
    allowed i l i_in l_in =
        let i' : i < length inside = omega (arith, i_in, count) in
        let D = R.at_place in
        (lattice_by_weights k M n order free P (get_or inside i []) (All-get_or (IsTuple k n) inside i [] i' shape)
        (λ l. (H.coordinate i l, H.elements_of i l)) (λ c c_in. H.combines i c i_in c_in)).0
        (within (get_or inside i []) (lattice_member k M P D.subring n inside shape i i')) l l_in

    pub residue_rows : AreResidueRows k M P R.p q r N R.at_place n coordinates rows
    residue_rows = record {
      count = coordinates-count ∙ sym H.count;
      shape = coordinates-shape;
      entries = λ i l i_in l_in.
          let i_n : i < n = omega (arith, i_in, coordinates-count) in
          let e = H.elements_of i l in
          let a = allowed i l i_n l_in in
          subst (λ z. HasResidue k M P R.p q r N R.at_place z (entry r rows i l)) (sym (coordinates-entry i l i_n l_in))
          (record {
            elem = e;
            allowed = a;
            residue = (let V = R.at_place_values in
                V.value (H.coordinate i l, e) (entry r rows i l) a (H.residues i l i_n l_in));
          });
    }
