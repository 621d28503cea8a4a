-- The conditions on tuples at a place are together the claim of a ramified place; those on the radical say that it is
-- one, with a simple quotient.
use Rattle.std.specs.Prelude.{◌≡◌, ℕ, List}
use Rattle.std.proofs.Common.{sym, subst, arith}
use Rattle.theory_rings.specs.Ring.{FieldOn}
use Rattle.theory_rings.specs.Ops.{Ops, FieldLaws}
use Rattle.theory_rings.specs.Elements.{Elem, elements}
use Rattle.theory_spaces.specs.Module.{AlgebraOn, module_of}
use Rattle.theory_spaces.specs.Linear.{Basis}
use Rattle.theory_spaces.specs.Sets.{Within, Same}
use Rattle.theory_spaces.specs.Tuples.{IsTuple, Tuple, IsTableAlgebra}
use Rattle.theory_spaces.proofs.Linear.LatticeSpans.{lattice-zero, lattice-add, lattice-neg}
use Rattle.theory_spaces.proofs.Linear.Spaces.{coords_of}
use Rattle.theory_orders.specs.Lattices.{Lattice, IsOrderAt}
use Rattle.theory_orders.specs.Orders.{IsIdeal, Radical, SimpleQuotient}
use Rattle.theory_orders.proofs.Ideals.SimpleQuotients.{simple_by_elements, radical_of_simple}
use Rattle.theory_tables.specs.Structure.{Structure, IsOver}
use Rattle.theory_tables.specs.Ramified.{AreTuples}
use Rattle.theory_tables.proofs.Algebras.Bridge.{algebra, algebra_is, table_basis, as_tuple, IsTuple-of}
use Rattle.theory_tables.proofs.Algebras.Bridge.{row, row-is}
use Rattle.theory_fractions.specs.Fraction.{Pair}
use Rattle.theory_fractions.specs.FractionOps.{fraction_ops}
use Rattle.theory_fractions.proofs.FractionField.{fraction_laws}
use Rattle.theory_places.specs.Places.{PlaceOf}
use Rattle.theory_places.specs.FractionPlaces.{IsPlace, IsIntegralAt, uniformizer_at, RamifiedAtPlace}
use Rattle.theory_places.specs.FractionPlaces.{FractionPlaceValuation}
use Rattle.theory_places.proofs.FractionPlaces.{fraction_places}
use Rattle.theory_bases.specs.TupleLattices.{AreIndependentTuples}
use Rattle.theory_ramified.specs.Conditions.{LatticeAt, GivesOrder, GivesSimpleRadical, MeetsConditions}
use Rattle.theory_ramified.specs.ConditionLaws.{IsSimpleRadical, ConditionsOnRadical, ConditionsAreRamified}
use Rattle.theory_ramified.proofs.TableSets as sets
use Rattle.theory_ramified.proofs.TableLattices as lattices

module _ {E : Type 0} (o : Ops E) (L : FieldLaws o) (M : FieldLaws (fraction_ops o L)) (A : Structure (Pair E))
    (over : IsOver (fraction_ops o L) A) (place : PlaceOf (List E)) (os js : List (List (Pair E))) where
  abbrev k : Ops (Pair E)
  k = fraction_ops o L

  abbrev K : FieldOn (Elem k)
  K = elements k M

  abbrev n : ℕ
  n = A.dim

  abbrev V : Type 0
  V = Tuple k n

  abbrev I : List (Pair E) → Type 0
  I = LatticeAt o L A place os

  abbrev J : List (Pair E) → Type 0
  J = LatticeAt o L A place js

  wI : Within I (IsTuple k n)
  wI a h = h.0

  wJ : Within J (IsTuple k n)
  wJ a h = h.0

  abbrev tuple : (a : List (Pair E)) → IsTuple k n a → V
  tuple = as_tuple k M n

  of : (x : V) → IsTuple k n x.0
  of x = IsTuple-of k M n x

  -- the radical has the properties
  pub simple_radical_gives : IsSimpleRadical o L A place os js → GivesSimpleRadical o L A place os js
  simple_radical_gives h = record {
    inside = h.radical.ideal.inside;
    absorbs = record { left = h.radical.ideal.left; right = h.radical.ideal.right };
    over = h.radical.over;
    power = record { exponent = h.radical.exponent; falls = h.radical.falls };
    simple = h.simple;
  }

  -- an algebra whose operations are those of the table, and the vectors of the tuples
  module _ (Z : FractionPlaceValuation o L M place) (B : AlgebraOn K.ring V)
      (is : IsTableAlgebra k M n A.constants B) (v w : ℕ → V) (tv : AreTuples k M A os v)
      (tw : AreTuples k M A js w) where
    abbrev Lv : V → Type 0
    Lv = Lattice K Z.valuation B n v

    abbrev Lw : V → Type 0
    Lw = Lattice K Z.valuation B n w

    pub eI : Same (λ (x : V). I x.0) Lv
    eI = (
      lattices.lattice_to k M A B is os v tv (IsIntegralAt o place) Z.valuation Z.tells,
      lattices.lattice_from k M A B is os v tv (IsIntegralAt o place) Z.valuation Z.tells,
    )

    pub eJ : Same (λ (x : V). J x.0) Lw
    eJ = (
      lattices.lattice_to k M A B is js w tw (IsIntegralAt o place) Z.valuation Z.tells,
      lattices.lattice_from k M A B is js w tw (IsIntegralAt o place) Z.valuation Z.tells,
    )

    pub order_at : GivesOrder o L A place os → IsOrderAt K Z.valuation B n v
    order_at h =
        let e = h.identity.one in
        let one : B.one.0 ≡ e = lattices.only_one k M A B is over e h.identity.is_one in
        record {
          independent = lattices.independent_to k M A B is os v tv h.independent;
          order = record {
            one_in = eI.0 B.one (subst I (sym one) (h.holds e h.identity.is_one));
            zero_in = lattice-zero K Z.valuation (module_of B) n v;
            add_in = lattice-add K Z.valuation (module_of B) n v;
            neg_in = lattice-neg K Z.valuation (module_of B) n v;
            mul_in = λ x y a b. eI.0 (B.◌⊗◌ x y)
                (subst I (sym (is.product-is x y)) (h.closed x.0 y.0 (eI.1 x a) (eI.1 y b)));
          };
        }

    module _ (basis : Basis (module_of B) n) (D : IsOrderAt K Z.valuation B n v)
        (h : GivesSimpleRadical o L A place os js) where
      pub simple : SimpleQuotient B Lv Lw
      simple = sets.simple_to k M A B is I J wI wJ Lv Lw eI eJ h.simple

      pub radical : Radical B Z.p Lv Lw
      radical =
          let S = simple_by_elements K Z.valuation B n (coords_of (module_of B) n basis) n v n w D.order ideal simple in
          radical_of_simple B Lv Lw D.order S Z.p ideal
          (λ x g. eJ.0 x (h.over x.0 (sets.multiple_from k M A B is I J wI wJ Lv Lw eI eJ Z.p
          (uniformizer_at o place) Z.p_is x g)))
          h.power.exponent
          (λ x g. sets.multiple_to k M A B is I J wI wJ Lv Lw eI eJ Z.p (uniformizer_at o place) Z.p_is x
          (h.power.falls x.0 (sets.power_from k M A B is I J wI wJ Lv Lw eI eJ h.power.exponent x g)))
        where
          ideal : IsIdeal B Lv Lw
          ideal = record {
            inside = λ x j. eI.0 x (h.inside x.0 (eJ.1 x j));
            zero_in = lattice-zero K Z.valuation (module_of B) n w;
            add_in = lattice-add K Z.valuation (module_of B) n w;
            left = λ a x l j. eJ.0 (B.◌⊗◌ a x)
                (subst J (sym (is.product-is a x)) (h.absorbs.left a.0 x.0 (eI.1 a l) (eJ.1 x j)));
            right = λ a x l j. eJ.0 (B.◌⊗◌ x a)
                (subst J (sym (is.product-is x a)) (h.absorbs.right a.0 x.0 (eI.1 a l) (eJ.1 x j)));
          }

      pub simple_radical : IsSimpleRadical o L A place os js
      simple_radical = record {
        radical = sets.radical_from k M A B is I J wI wJ Lv Lw eI eJ Z.p (uniformizer_at o place) Z.p_is radical;
        simple = h.simple;
      }

  -- ---- from the conditions

  are_tuples : (rs : List (List (Pair E))) (h : AreIndependentTuples k n rs) → AreTuples k M A rs (row k M n rs h.shape)
  are_tuples rs h = record {
    count = h.count;
    item = λ i l. row-is k M n rs h.shape i (omega (arith, l, h.count));
  }

  module _ (g : GivesOrder o L A place os) (ind : AreIndependentTuples k n js) where
    abbrev Z : FractionPlaceValuation o L M place
    Z = fraction_places o L M place g.is_place

    abbrev Alg : AlgebraOn K.ring V
    Alg = algebra k M A over.of_elements g.associative g.identity.one g.identity.is_one

    is : IsTableAlgebra k M n A.constants Alg
    is = algebra_is k M A over.of_elements g.associative g.identity.one g.identity.is_one

    abbrev B0 : Basis (module_of Alg) n
    B0 = table_basis k M A over.of_elements g.associative g.identity.one g.identity.is_one

    abbrev v : ℕ → V
    v = row k M n os g.independent.shape

    abbrev w : ℕ → V
    w = row k M n js ind.shape

    tv : AreTuples k M A os v
    tv = are_tuples os g.independent

    tw : AreTuples k M A js w
    tw = are_tuples js ind

    D : IsOrderAt K Z.valuation Alg n v
    D = order_at Z Alg is v w tv tw g

    pub is_simple_radical : GivesSimpleRadical o L A place os js → IsSimpleRadical o L A place os js
    is_simple_radical = simple_radical Z Alg is v w tv tw B0 D

  pub ramified_of : MeetsConditions o L A place os js → RamifiedAtPlace o L M A place os js
  ramified_of h =
      let g = h.order in
      let ind = h.independent in
      let Z = fraction_places o L M place g.is_place in
      let B = Alg g ind in
      let b = is g ind in
      let tv = tv g ind in
      let tw = tw g ind in
      let eI = eI Z B b (v g ind) (w g ind) tv tw in
      let eJ = eJ Z B b (v g ind) (w g ind) tv tw in
      let Lv = Lattice K Z.valuation B n (v g ind) in
      let Lw = Lattice K Z.valuation B n (w g ind) in
      record {
        at_place = Z;
        ramified = record {
          algebra = B;
          is_table = b;
          order = v g ind;
          is_order = tv;
          radical = w g ind;
          is_radical = tw;
          ramified = record {
            order = D g ind;
            independent = lattices.independent_to k M A B b js (w g ind) tw ind;
            radical = radical Z B b (v g ind) (w g ind) tv tw (B0 g ind) (D g ind) h.radical;
            simple = simple Z B b (v g ind) (w g ind) tv tw (B0 g ind) (D g ind) h.radical;
            left_order = (
              λ x a. eI.0 x (h.left_order.0 x.0 (of x, sets.left_from k M A B b I J wI wJ Lv Lw eI eJ x a)),
              λ x l. sets.left_to k M A B b I J wI wJ Lv Lw eI eJ x (h.left_order.1 x.0 (eI.1 x l)).1,
            );
            not_multiple = λ f. h.not_multiple (
              λ a j. let x = tuple a (wJ a j) in
                  sets.multiple_from k M A B b I J wI wJ Lv Lw eI eJ Z.p (uniformizer_at o place) Z.p_is x
                  (f x (eJ.0 x j)),
              h.radical.over,
            );
          };
        };
      }

  -- ---- from a ramified place

  pub conditions_of : IsPlace o place → RamifiedAtPlace o L M A place os js → MeetsConditions o L A place os js
  conditions_of p h =
      let Z = h.at_place in
      let t = h.ramified in
      let B = t.algebra in
      let b = t.is_table in
      let r = t.ramified in
      let eI = eI Z B b t.order t.radical t.is_order t.is_radical in
      let eJ = eJ Z B b t.order t.radical t.is_order t.is_radical in
      let Lv = Lattice K Z.valuation B n t.order in
      let Lw = Lattice K Z.valuation B n t.radical in
      record {
        order = record {
          is_place = p;
          associative = lattices.associative k M A B b over;
          identity = record { one = B.one.0; is_one = lattices.is_one k M A B b over };
          independent = lattices.independent_from k M A B b os t.order t.is_order r.order.independent;
          holds = λ e i. subst I (lattices.only_one k M A B b over e i) (eI.1 B.one r.order.order.one_in);
          closed = λ x y hx hy.
              let u = tuple x (wI x hx) in
              let z = tuple y (wI y hy) in
              subst I (b.product-is u z) (eI.1 (B.◌⊗◌ u z) (r.order.order.mul_in u z (eI.0 u hx) (eI.0 z hy)));
        };
        independent = lattices.independent_from k M A B b js t.radical t.is_radical r.independent;
        radical = simple_radical_gives (record {
          radical = sets.radical_from k M A B b I J wI wJ Lv Lw eI eJ Z.p (uniformizer_at o place) Z.p_is r.radical;
          simple = sets.simple_from k M A B b I J wI wJ Lv Lw eI eJ r.simple;
        });
        left_order = (
          λ a g. let x = tuple a g.0 in
              eI.1 x (r.left_order.0 x (sets.left_to k M A B b I J wI wJ Lv Lw eI eJ x g.1)),
          λ a l. let x = tuple a (wI a l) in
              (wI a l, sets.left_from k M A B b I J wI wJ Lv Lw eI eJ x (r.left_order.1 x (eI.0 x l))),
        );
        not_multiple = λ s. r.not_multiple (λ x j.
            sets.multiple_to k M A B b I J wI wJ Lv Lw eI eJ Z.p (uniformizer_at o place) Z.p_is x
            (s.0 x.0 (eJ.1 x j)));
      }

pub conditions_on_radical : {E : Type 0} (o : Ops E) (L : FieldLaws o) → ConditionsOnRadical o L
conditions_on_radical o L A over place os js g ind = (
  is_simple_radical o L (fraction_laws o L) A over place os js g ind,
  simple_radical_gives o L (fraction_laws o L) A over place os js,
)

pub conditions_are_ramified : {E : Type 0} (o : Ops E) (L : FieldLaws o) (M : FieldLaws (fraction_ops o L))
    → ConditionsAreRamified o L M
conditions_are_ramified o L M A over place os js = (
  λ h. (h.order.is_place, ramified_of o L M A over place os js h),
  λ h. conditions_of o L M A over place os js h.0 h.1,
)
