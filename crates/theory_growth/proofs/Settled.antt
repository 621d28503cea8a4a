-- An order over the polynomials is settled at a finite place where nothing grows.
use Rattle.std.specs.Prelude.{◌≡◌, ◌<◌, ◌≤◌, ℕ, List}
use Rattle.std.specs.Int.{◌∣◌}
use Rattle.std.proofs.Common.{sym, ◌∙◌, ap, subst, arith, ⊎_elim}
use Rattle.std.proofs.lemmas.Bool.{cases_lt}
use Rattle.std.proofs.lemmas.Nat.Gcd.{dvd-zero}
use Rattle.theory_rings.specs.Ring.{FieldOn}
use Rattle.theory_rings.specs.Ops.{Ops, FieldLaws}
use Rattle.theory_rings.specs.Elements.{Elem, Elem-path}
use Rattle.theory_rings.specs.Power.{times_of}
use Rattle.theory_rings.specs.Prime.{IsPrime}
use Rattle.theory_rings.proofs.Rings.RingLaws.{zero-mul}
use Rattle.theory_spaces.specs.Module.{AlgebraOn, module_of}
use Rattle.theory_spaces.specs.Sets.{Same, IsOrder}
use Rattle.theory_spaces.specs.Tuples.{Tuple}
use Rattle.theory_spaces.proofs.Matrices.Matrices.{delta-same}
use Rattle.theory_orders.specs.Uniformizer.{IsIntegral, UniformizerOn}
use Rattle.theory_orders.proofs.LeftOrder.Settled.{unit_of_characteristic}
use Rattle.theory_residue.proofs.ResidueAlgebra.{coord-vec}
use Rattle.theory_tables.specs.Structure.{Structure, IsOver, IsAssociative, tuple_ops}
use Rattle.theory_tables.specs.Algebras.{HasSmallCentre}
use Rattle.theory_tables.specs.Ramified.{AreTuples}
use Rattle.theory_tables.proofs.Algebras.Bridge.{algebra, algebra_is, row, row-is, table_basis, to_central}
use Rattle.theory_fractions.specs.Fraction.{Pair}
use Rattle.theory_fractions.specs.FractionOps.{fraction_ops}
use Rattle.theory_places.specs.Places.{Finite}
use Rattle.theory_places.specs.FractionPlaces.{IsIntegralAt, IsMonicIrreducible, fractions, FractionPlaceValuation}
use Rattle.theory_places.proofs.FractionPlaces.{fraction_places}
use Rattle.theory_bases.specs.TupleLattices.{TupleLattice, AreIndependentTuples}
use Rattle.theory_bases.specs.Bases.{IsPolynomialFraction}
use Rattle.theory_left_orders.specs.FractionResidues.{ResidueRingsBy}
use Rattle.theory_left_orders.specs.TupleIdeals.{IsResidueTable, Preimage}
use Rattle.theory_growth.specs.Steps.{NoneGrows}
use Rattle.theory_growth.specs.Settled.{residues, IsOrderModulo, IsRadicalBy, NothingGrowsBy, IsSettled}
use Rattle.theory_growth.specs.Settled.{residue_algebra, SettledWhereNothingGrows}
use Rattle.theory_growth.proofs.Localized.{order_of, table_of, preimage_of, does_not_grow}
use Rattle.theory_growth.proofs.FractionPlaces.{localizes, residues_agree, fraction_characteristic}
use Rattle.theory_growth.proofs.Placed as placed

module _ {E : Type 0} (o : Ops E) (L : FieldLaws o) (M : FieldLaws (fraction_ops o L)) (m : List E)
    (s : IsMonicIrreducible o m) (N : FieldLaws (residues o L M m s))
    (R : ResidueRingsBy o L M m (residues o L M m s) N)
    (A : Structure (Pair E)) (over : IsOver (fraction_ops o L) A) (assoc : IsAssociative (fraction_ops o L) A)
    (centre : HasSmallCentre (fraction_ops o L) A)
    (c : ℕ) (prime : IsPrime c) (char : times_of o c o.one ≡ o.zero) (apart : c ∣ A.dim → ⊥)
    (tuples : List (List (Pair E))) (cs : List (List E)) (O : IsOrderModulo o L M m s N R A tuples cs)
    (count : ℕ) (ideals : ℕ → List (List (List E))) (G : NothingGrowsBy o L M m s N R A tuples cs count ideals)
    (rows : List (List (List E))) (js : List (List (Pair E)))
    (J : IsRadicalBy o L M m s N R A tuples cs rows js) where
  abbrev k : Ops (Pair E)
  k = fraction_ops o L

  abbrev r : Ops (List E)
  r = residues o L M m s

  abbrev K : FieldOn (Elem k)
  K = fractions o L M

  abbrev n : ℕ
  n = A.dim

  abbrev p : Elem k
  p = R.p

  abbrev q : Elem k
  q = K.inv p

  abbrev P : Pair E → Type 0
  P = IsIntegralAt o (Finite m)

  abbrev one : List (Pair E)
  one = O.order.one

  abbrev Alg : AlgebraOn K.ring (Tuple k n)
  Alg = algebra k M A over.of_elements assoc one O.order.is_one

  -- ---- the place

  V : FractionPlaceValuation o L M (Finite m)
  V = fraction_places o L M (Finite m) s

  V-p : V.p ≡ p
  V-p = Elem-path k V.p p (V.p_is ∙ sym R.p_is)

  U : UniformizerOn K V.valuation p q
  U = subst (λ x. UniformizerOn K V.valuation x (K.inv x)) V-p V.uniformizer

  strict : IsIntegral K V.valuation q → ⊥
  strict i = V.not_unit (subst (λ x. IsIntegral K V.valuation (K.inv x)) (sym V-p) i)

  at_place : FractionPlaceValuation o L M (Finite m)
  at_place = record {
    valuation = V.valuation;
    tells = V.tells;
    p = p;
    p_is = R.p_is;
    uniformizer = U;
    not_unit = strict;
  }

  -- ---- the algebra is not 0

  some : 0 < n
  some = ⊎_elim (λ (l : 0 < n). l)
      (λ (l : n ≤ 0). let e : 0 ≡ n = omega arith in absurd (apart (subst (λ d. c ∣ d) e (dvd-zero c))))
      (cases_lt 0 n)

  nonzero : Alg.one ≡ Alg.zero → ⊥
  nonzero e =
      let b = table_basis k M A over.of_elements assoc one O.order.is_one in
      let x = b.vec 0 in
      let z : x ≡ Alg.zero = sym (Alg.one-mul x) ∙ ap (λ y. Alg.◌⊗◌ y x) e ∙ zero-mul Alg.ring x in
      K.one-nonzero (sym (delta-same K.ring 0) ∙ sym (coord-vec (module_of Alg) n b 0 0 some some)
      ∙ ap (λ y. b.coord y 0) z ∙ b.coord-zero 0)

  -- ---- at the place

  abbrev order : IsOrder (tuple_ops k A) one (TupleLattice k P n tuples)
  order = order_of k M (IsPolynomialFraction o) P p q r N R.polynomials R.at_place (localizes o L M m s)
      (residues_agree o L M m s N R) A over assoc one O.order.is_one tuples O.order.basis.shape O.order.order

  abbrev table : IsResidueTable k M P p q r N R.at_place A tuples cs
  table = table_of k M (IsPolynomialFraction o) P p q r N R.polynomials R.at_place (localizes o L M m s)
      (residues_agree o L M m s N R) A over assoc one O.order.is_one tuples cs O.table

  none : NoneGrows k M P p q r N R.at_place A tuples (residue_algebra o L M m s N R A tuples cs) count ideals
  none = record {
    complete = G.complete;
    each = λ i l. does_not_grow k M (IsPolynomialFraction o) P p q r N R.polynomials R.at_place (localizes o L M m s)
        (residues_agree o L M m s N R) A over assoc one O.order.is_one tuples O.order.basis.shape (ideals i)
        (G.each i l);
  }

  pre : Same (Preimage k M P p q r N R.at_place A tuples rows) (TupleLattice k P n js)
  pre = preimage_of k M (IsPolynomialFraction o) P p q r N R.polynomials R.at_place (localizes o L M m s)
      (residues_agree o L M m s N R) A over assoc one O.order.is_one tuples O.order.basis.shape rows
      J.radical.ideal.shape js J.independent.shape J.preimage

  are_tuples : (rs : List (List (Pair E))) (h : AreIndependentTuples k n rs)
      → AreTuples k M A rs (row k M n rs h.shape)
  are_tuples rs h = record {
    count = h.count;
    item = λ i l. row-is k M n rs h.shape i (omega (arith, l, h.count));
  }

  pub settled : IsSettled o L M m s N R A tuples cs rows js
  unfolding at_place V
  settled =
      let ct = to_central k M A over.of_elements assoc one O.order.is_one centre in
      record {
        unimodular = λ zero.
            placed.list_dual k M P p q r N R.at_place V.valuation V.tells U A over assoc one O.order.is_one tuples
            O.order.basis order cs table count ideals none strict nonzero ct rows J.radical js J.independent pre
            (placed.own_dual k M P p q r N R.at_place V.valuation V.tells U A over assoc one O.order.is_one tuples
            O.order.basis order cs table count ideals none strict nonzero ct rows J.radical js J.independent pre zero
            (unit_of_characteristic K V.valuation c prime (fraction_characteristic o L M c char) n apart));
        only = placed.only_unimodular k M P p q r N R.at_place V.valuation V.tells U A over assoc one O.order.is_one
            tuples O.order.basis order cs table count ideals none strict nonzero ct rows J.radical js J.independent pre;
        ramified = λ nonzero_rows. record {
          at_place = at_place;
          ramified = record {
            algebra = Alg;
            is_table = algebra_is k M A over.of_elements assoc one O.order.is_one;
            order = row k M n tuples O.order.basis.shape;
            is_order = are_tuples tuples O.order.basis;
            radical = row k M n js J.independent.shape;
            is_radical = are_tuples js J.independent;
            ramified =
                placed.ramified k M P p q r N R.at_place V.valuation V.tells U A over assoc one O.order.is_one tuples
                O.order.basis order cs table count ideals none strict nonzero ct rows J.radical js J.independent pre
                nonzero_rows;
          };
        };
      }

pub settled_where_nothing_grows : {E : Type 0} (o : Ops E) (L : FieldLaws o) (M : FieldLaws (fraction_ops o L))
    → SettledWhereNothingGrows o L M
settled_where_nothing_grows o L M m s N R A over assoc centre c prime char apart tuples cs O count ideals G rows js J =
    settled o L M m s N R A over assoc centre c prime char apart tuples cs O count ideals G rows js J
