-- Lattices of tuples, as those of vectors of an algebra whose operations are those of a table; the laws of the table.
use Rattle.std.specs.Prelude.{◌≡◌, ◌↔◌, ◌<◌, ℕ, zero, suc, IsTrue, List, [], length, get_or}
use Rattle.std.proofs.Common.{sym, ◌∙◌, ap, ap₂, subst, arith}
use Rattle.std.proofs.lemmas.List.{get_or_default}
use Rattle.theory_rings.specs.Ring.{FieldOn}
use Rattle.theory_rings.specs.Ops.{Ops, FieldLaws}
use Rattle.theory_rings.specs.Elements.{Elem, elements}
use Rattle.theory_spaces.specs.Module.{ModuleOn, AlgebraOn, module_of}
use Rattle.theory_spaces.specs.Linear.{comb, Independent}
use Rattle.theory_spaces.specs.Lattice.{LatticeOver}
use Rattle.theory_spaces.specs.Valuation.{ValuationOn}
use Rattle.theory_spaces.specs.Tuples.{IsTuple, Tuple, tuple_add, basis, product, IsTableAlgebra}
use Rattle.theory_spaces.proofs.Linear.Modules.{comb_congr_right}
use Rattle.theory_spaces.proofs.Tuples.Tuples.{Tuple-path, tuples, tuples-zero, tuples-add, tuples-scale}
use Rattle.theory_spaces.proofs.Tuples.TupleProducts.{IsTuple-basis, product-one, one-product}
use Rattle.theory_orders.specs.Lattices.{Lattice}
use Rattle.theory_tables.specs.Matrix.{IsMatrix}
use Rattle.theory_tables.specs.Structure.{Structure, IsOver, IsAssociative}
use Rattle.theory_tables.specs.Algebras.{IsIdentity}
use Rattle.theory_tables.specs.Ramified.{AreTuples}
use Rattle.theory_tables.proofs.Algebras.Bridge.{as_tuple, IsTuple-of, row, row-is, from_independent}
use Rattle.theory_bases.specs.TupleLattices.{TupleLattice, AreIndependentTuples}
use Rattle.theory_bases.proofs.LatticeBridge.{to_lattice, from_lattice}
use Rattle.theory_left_orders.proofs.TupleLattices.{vectors}

module _ {E : Type 0} (o : Ops E) (L : FieldLaws o) (T : Structure E)
    (A : AlgebraOn (elements o L).ring (Tuple o T.dim)) (is : IsTableAlgebra o L T.dim T.constants A) where
  abbrev m : ℕ
  m = T.dim

  abbrev K : FieldOn (Elem o)
  K = elements o L

  abbrev V : Type 0
  V = Tuple o m

  abbrev N : ModuleOn K.ring V
  N = tuples o L m

  of : (x : V) → IsTuple o m x.0
  of x = IsTuple-of o L m x

  path : (x y : V) → x.0 ≡ y.0 → x ≡ y
  path = Tuple-path o L m

  -- ---- the laws of the table

  module _ (over : IsOver o T) where
    unit : ℕ → V
    unit i = as_tuple o L m (basis o m i) (IsTuple-basis o L m T.constants over.of_elements i)

    pub associative : IsAssociative o T
    unfolding unit
    associative i j k _ _ _ =
        let x = unit i in
        let y = unit j in
        let z = unit k in
        ap (λ u. product o m T.constants u z.0) (sym (is.product-is x y)) ∙ sym (is.product-is (A.◌⊗◌ x y) z)
        ∙ ap (λ (u : V). u.0) (A.mul_assoc x y z)
        ∙ is.product-is x (A.◌⊗◌ y z) ∙ ap (product o m T.constants x.0) (is.product-is y z)

    pub is_one : IsIdentity o T A.one.0
    unfolding unit
    is_one = record {
      tuple = of A.one;
      one-mul = λ i _. sym (is.product-is A.one (unit i)) ∙ ap (λ (u : V). u.0) (A.one-mul (unit i));
      mul-one = λ i _. sym (is.product-is (unit i) A.one) ∙ ap (λ (u : V). u.0) (A.mul-one (unit i));
    }

    -- each identity of the table is the one of the algebra
    pub only_one : (e : List E) → IsIdentity o T e → A.one.0 ≡ e
    only_one e h = sym (one-product o L m T.constants over.of_elements e h A.one.0 (of A.one))
        ∙ product-one o L m T.constants over.of_elements A.one.0 is_one e h.tuple

  -- ---- lattices

  comb-is : (n : ℕ) (c : ℕ → Elem o) (v : ℕ → V) → comb (module_of A) n c v ≡ comb N n c v
  comb-is zero c v = path A.zero N.zero (is.zero-is ∙ sym (tuples-zero o L m))
  comb-is (suc n) c v =
      let x = comb (module_of A) n c v in
      let y = comb N n c v in
      path (A.◌⊕◌ x (A.◌•◌ (c n) (v n))) (N.◌⊕◌ y (N.◌•◌ (c n) (v n)))
      (is.add-is x (A.◌•◌ (c n) (v n))
      ∙ ap₂ (tuple_add o m) (ap (λ (z : V). z.0) (comb-is n c v))
      (is.scale-is (c n) (v n) ∙ sym (tuples-scale o L m (c n) (v n)))
      ∙ sym (tuples-add o L m y (N.◌•◌ (c n) (v n))))

  module _ (rows : List (List E)) (v : ℕ → V) (t : AreTuples o L T rows v) where
    items : (i : ℕ) → i < length rows → (v i).0 ≡ get_or rows i []
    items i l = t.item i (omega (arith, l, t.count))

    module _ (P : E → Type 0) (Z : ValuationOn K) (tells : (a : Elem o) → IsTrue (Z.integral a) ↔ P a.0) where
      pub lattice_to : (x : V) → TupleLattice o P m rows x.0 → Lattice K Z A m v x
      lattice_to x h =
          let S : ℕ → Type 0 = λ n. LatticeOver N (λ c. P c.0) n v x in
          let s = subst S t.count (to_lattice o L P m rows v items x h) in
          record {
            weights = s.weights;
            passes = λ i l. (tells (s.weights i)).1 (s.passes i l);
            combines = s.combines ∙ sym (comb-is m s.weights v);
          }

      pub lattice_from : (x : V) → Lattice K Z A m v x → TupleLattice o P m rows x.0
      lattice_from x s =
          let S : ℕ → Type 0 = λ n. LatticeOver N (λ c. P c.0) n v x in
          from_lattice o L P m rows v items x (subst S (sym t.count) (record {
            weights = s.weights;
            passes = λ i l. (tells (s.weights i)).0 (s.passes i l);
            combines = s.combines ∙ comb-is m s.weights v;
          }))

    -- ---- independent tuples

    pub matrix : IsMatrix o m rows
    matrix i d l = subst (IsTuple o m) (items i l ∙ get_or_default rows i [] d l) (of (v i))

    same : (sh : IsMatrix o m rows) (c : ℕ → Elem o) → comb (module_of A) m c v ≡ comb N m c (row o L m rows sh)
    same sh c = comb-is m c v ∙ comb_congr_right N m c v (row o L m rows sh) (λ i l.
        let l' : i < length rows = omega (arith, l, t.count) in
        path (v i) (row o L m rows sh i) (t.item i l ∙ sym (row-is o L m rows sh i l')))

    zero-same : A.zero ≡ N.zero
    zero-same = path A.zero N.zero (is.zero-is ∙ sym (tuples-zero o L m))

    pub independent_from : Independent (module_of A) m v → AreIndependentTuples o m rows
    independent_from h = record {
      count = t.count;
      shape = matrix;
      independent =
          let S : ℕ → Type 0 = λ n. Independent N n (row o L m rows matrix) in
          from_independent o L m rows matrix (subst S (sym t.count) (record {
            only_zero = λ c e i l. h.only_zero c (same matrix c ∙ e ∙ sym zero-same) i l;
          }));
    }

    pub independent_to : AreIndependentTuples o m rows → Independent (module_of A) m v
    independent_to h = record {
      only_zero = λ c e i l. (vectors o L m rows h).only_zero c (sym (same h.shape c) ∙ e ∙ zero-same) i l;
    }
