-- What pairs with a lattice of tuples into the polynomials by the trace is a combination of the dual basis.
use Rattle.std.specs.Prelude.{◌≡◌, ◌<◌, ℕ, Bool, true, false, cond, eqb, List, [], length, get_or}
use Rattle.std.proofs.Common.{refl, sym, ◌∙◌, ap, ap₂, subst, arith}
use Rattle.theory_rings.specs.Ring.{FieldOn}
use Rattle.theory_rings.specs.Ops.{Ops, FieldLaws}
use Rattle.theory_rings.specs.Elements.{Elem, Elem-path}
use Rattle.theory_spaces.specs.Module.{ModuleOn, AlgebraOn, module_of}
use Rattle.theory_spaces.specs.Linear.{comb, Independent, Basis}
use Rattle.theory_spaces.specs.Matrix.{delta}
use Rattle.theory_spaces.specs.Lattice.{IsSubring, LatticeOver}
use Rattle.theory_spaces.specs.Form.{IsBilinear, trace_form, flip}
use Rattle.theory_spaces.specs.Tuples.{Tuple, IsTableAlgebra, tuple_scale}
use Rattle.theory_spaces.proofs.Forms.Forms.{flip_bilinear, left_dual-independent, expand-left_dual}
use Rattle.theory_spaces.proofs.Forms.TraceForms.{trace_form_bilinear}
use Rattle.theory_spaces.proofs.Linear.LatticeSpans.{comb_in_closed, span-zero, span-add, span-scale, span-member}
use Rattle.theory_spaces.proofs.Linear.Modules.{scale-zero}
use Rattle.theory_spaces.proofs.Linear.Spaces.{basis_of}
use Rattle.theory_spaces.proofs.Matrices.Matrices.{delta_comm}
use Rattle.theory_spaces.proofs.Tuples.TupleProducts.{tuple_algebra}
use Rattle.theory_orders.proofs.Splitting.Ramified.{spanning}
use Rattle.theory_tables.specs.Matrix.{IsMatrix}
use Rattle.theory_tables.specs.Structure.{Structure, IsOver, IsAssociative}
use Rattle.theory_tables.specs.Algebras.{IsIdentity}
use Rattle.theory_tables.specs.Traces.{trace as list_trace}
use Rattle.theory_tables.proofs.Algebras.Bridge.{algebra, algebra_is, row, row-is, as_tuple, table_basis, trace-is}
use Rattle.theory_fractions.specs.Fraction.{Pair}
use Rattle.theory_fractions.specs.FractionOps.{fraction_ops}
use Rattle.theory_fractions.specs.PolynomialLists.{IsPolynomialList}
use Rattle.theory_fractions.specs.CommonDenominator.{as_fraction}
use Rattle.theory_fractions.proofs.FractionField.{fraction_laws}
use Rattle.theory_fractions.proofs.PolynomialFractions.{as_fraction-elem}
use Rattle.theory_places.specs.FractionPlaces.{fractions}
use Rattle.theory_bases.specs.TupleLattices.{AreIndependentTuples, AreTraceDual, trace_of_product}
use Rattle.theory_bases.specs.Bases.{IsPolynomialFraction}
use Rattle.theory_bases.proofs.PolynomialWeights.{polynomials_are_subring}
use Rattle.theory_left_orders.proofs.TupleLattices.{to_lattice, from_lattice, vectors}
use Rattle.theory_growth.specs.Growths.{PolynomialLattice, CarriesDual, DualBasisIsCarried}

module _ {E : Type 0} (o : Ops E) (L : FieldLaws o) (A : Structure (Pair E)) (over : IsOver (fraction_ops o L) A)
    (assoc : IsAssociative (fraction_ops o L) A) (one : List (Pair E)) (is_one : IsIdentity (fraction_ops o L) A one)
    (tuples duals : List (List (Pair E))) (ind : AreIndependentTuples (fraction_ops o L) A.dim tuples)
    (shape : IsMatrix (fraction_ops o L) A.dim duals) (dual : AreTraceDual (fraction_ops o L) A tuples duals)
    (long : length duals ≡ A.dim) (c : List E) (hc : IsPolynomialList o c)
    (carried : (i : ℕ) → i < A.dim
    → PolynomialLattice o L A tuples (tuple_scale (fraction_ops o L) A.dim (as_fraction o c) (get_or duals i []))) where
  abbrev k : Ops (Pair E)
  k = fraction_ops o L

  abbrev M : FieldLaws k
  M = fraction_laws o L

  abbrev K : FieldOn (Elem k)
  K = fractions o L M

  abbrev n : ℕ
  n = A.dim

  abbrev X : Type 0
  X = Tuple k n

  abbrev Al : AlgebraOn K.ring X
  Al = algebra k M A over.of_elements assoc one is_one

  is : IsTableAlgebra k M n A.constants Al
  is = algebra_is k M A over.of_elements assoc one is_one

  abbrev Mod : ModuleOn K.ring X
  Mod = module_of Al

  abbrev B0 : Basis Mod n
  B0 = table_basis k M A over.of_elements assoc one is_one

  abbrev form : X → X → Elem k
  form = trace_form Al n B0

  abbrev bil : IsBilinear Mod form
  bil = trace_form_bilinear K.cring Al n B0

  form_is : (x y : X) → (form x y).0 ≡ trace_of_product k A x.0 y.0
  form_is x y = trace-is k M A over.of_elements assoc one is_one (Al.◌⊗◌ x y) ∙ ap (list_trace k A) (is.product-is x y)

  abbrev t : ℕ → X
  t = row k M n tuples ind.shape

  abbrev d : ℕ → X
  d = row k M n duals shape

  t_free : Independent Mod n t
  unfolding tuple_algebra
  t_free = vectors k M n tuples ind

  abbrev tb : Basis Mod n
  tb = basis_of Mod n t t_free (spanning K Al n B0 t t_free)

  pairs : (i j : ℕ) → i < n → j < n → form (t i) (d j) ≡ delta K.ring i j
  pairs i j i_in j_in = Elem-path k (form (t i) (d j)) (delta K.ring i j)
      (form_is (t i) (d j)
      ∙ ap₂ (trace_of_product k A) (row-is k M n tuples ind.shape i (omega (arith, i_in, ind.count)))
      (row-is k M n duals shape j (omega (arith, j_in, long)))
      ∙ dual.pairing i j i_in j_in ∙ sym (delta_is i j))
    where
      delta_is : (i j : ℕ) → (delta K.ring i j).0 ≡ cond (eqb i j) k.one k.zero
      delta_is i j = go (eqb i j)
        where
          go : (b : Bool) → (cond b K.one K.zero).0 ≡ cond b k.one k.zero
          go true = refl
          go false = refl

  d_free : Independent Mod n d
  d_free = left_dual-independent K Mod (flip form) (flip_bilinear K.cring Mod form bil) n tb d
      (λ i j i_in j_in. pairs j i j_in i_in ∙ delta_comm K.ring j i)

  abbrev db : Basis Mod n
  db = basis_of Mod n d d_free (spanning K Al n B0 d d_free)

  expands : (x : X) → x ≡ comb Mod n (λ i. form (t i) x) d
  expands = expand-left_dual K Mod form bil n db t pairs

  abbrev Lat : X → Type 0
  Lat x = PolynomialLattice o L A tuples x.0

  abbrev cc : Elem k
  cc = (as_fraction o c, as_fraction-elem o L c hc)

  abbrev IsP : Elem k → Type 0
  IsP a = IsPolynomialFraction o a.0

  sub : IsSubring K.ring IsP
  sub = polynomials_are_subring o L

  -- sums and multiples by polynomials stay in the lattice
  lat_to : (x : X) → Lat x → LatticeOver Mod IsP (length tuples) t x
  unfolding tuple_algebra
  lat_to x h = to_lattice k M n tuples ind.shape (IsPolynomialFraction o) x h.1

  lat_from : (x : X) → LatticeOver Mod IsP (length tuples) t x → Lat x
  unfolding tuple_algebra
  lat_from x h = from_lattice k M n tuples ind.shape (IsPolynomialFraction o) x h

  abbrev Carried : X → Type 0
  Carried z = Lat (Al.◌•◌ cc z)

  t_in : (i : ℕ) → i < n → Lat (t i)
  t_in i l = lat_from (t i) (span-member K IsP sub Mod (length tuples) t i (omega (arith, l, ind.count)))

  pub carries : CarriesDual o L A c tuples
  carries x tx h =
      let y = as_tuple k M n x tx in
      let len = length tuples in
      subst (PolynomialLattice o L A tuples) (is.scale-is cc y) (subst Carried (sym (expands y))
      (comb_in_closed K IsP Mod Carried
      (subst Lat (sym (scale-zero Mod cc)) (lat_from Mod.zero (span-zero K IsP sub Mod len t)))
      (λ a b ha hb. subst Lat (sym (Al.scale-add cc a b)) (lat_from (Al.◌⊕◌ (Al.◌•◌ cc a) (Al.◌•◌ cc b))
      (span-add K IsP sub Mod len t (Al.◌•◌ cc a) (Al.◌•◌ cc b) (lat_to (Al.◌•◌ cc a) ha) (lat_to (Al.◌•◌ cc b) hb))))
      (λ w a hw ha. subst Lat (sym (Al.mul-scale w cc a) ∙ ap (λ u. Al.◌•◌ u a) (K.mul_comm w cc) ∙ Al.mul-scale cc w a)
      (lat_from (Al.◌•◌ w (Al.◌•◌ cc a))
      (span-scale K IsP sub Mod len t w (Al.◌•◌ cc a) hw (lat_to (Al.◌•◌ cc a) ha))))
      n (λ i. form (t i) y) d
      (λ i l. subst (IsPolynomialFraction o) (sym (form_is (t i) y)) (h (t i).0 (t_in i l)))
      (λ i l. subst (PolynomialLattice o L A tuples)
      (ap (tuple_scale k n (as_fraction o c)) (sym (row-is k M n duals shape i (omega (arith, l, long))))
      ∙ sym (is.scale-is cc (d i))) (carried i l))))

module _ {E : Type 0} (o : Ops E) (L : FieldLaws o) (A : Structure (Pair E)) where
  pub dual_basis_is_carried : DualBasisIsCarried o L A
  dual_basis_is_carried over assoc one is_one tuples duals ind shape dual long c hc carried =
      carries o L A over assoc one is_one tuples duals ind shape dual long c hc carried
