-- Lattices and orders of tuples at a valuation ring, as those of vectors; the dual by the trace.
use Rattle.std.specs.Prelude.{◌≡◌, ◌↔◌, ℕ, IsTrue, List, length}
use Rattle.std.proofs.Common.{sym, ◌∙◌, ap, subst}
use Rattle.theory_rings.specs.Ring.{FieldOn}
use Rattle.theory_rings.specs.Ops.{Ops, FieldLaws}
use Rattle.theory_rings.specs.Elements.{Elem, elements}
use Rattle.theory_spaces.specs.Module.{AlgebraOn, module_of}
use Rattle.theory_spaces.specs.Linear.{Independent, Basis}
use Rattle.theory_spaces.specs.Algebra.{trace}
use Rattle.theory_spaces.specs.Valuation.{ValuationOn}
use Rattle.theory_spaces.specs.Sets.{IsOrder}
use Rattle.theory_spaces.specs.Tuples.{Tuple, IsTableAlgebra}
use Rattle.theory_spaces.proofs.Tuples.TupleProducts.{tuple_algebra}
use Rattle.theory_orders.specs.Dual.{IsSelfDual}
use Rattle.theory_orders.specs.Lattices.{Lattice, IsOrderAt}
use Rattle.theory_tables.specs.Matrix.{IsMatrix}
use Rattle.theory_tables.specs.Structure.{Structure, IsOver, IsAssociative, tuple_ops}
use Rattle.theory_tables.specs.Algebras.{IsIdentity}
use Rattle.theory_tables.specs.Traces.{trace as list_trace}
use Rattle.theory_tables.proofs.Algebras.Bridge.{algebra, algebra_is, one-is, row, as_tuple, table_basis, trace-is}
use Rattle.theory_bases.specs.TupleLattices.{TupleLattice, AreIndependentTuples, IsTraceDualOfItself, trace_of_product}
use Rattle.theory_left_orders.proofs.TupleLattices as lattices
use Rattle.theory_left_orders.proofs.TupleLattices.{to_lattice, from_lattice}

module _ {E : Type 0} (o : Ops E) (L : FieldLaws o) (P : E → Type 0) (Z : ValuationOn (elements o L))
    (tells : (a : Elem o) → IsTrue (Z.integral a) ↔ P a.0)
    (A : Structure E) (over : IsOver o A) (assoc : IsAssociative o A) (one : List E) (is_one : IsIdentity o A one) where
  abbrev n : ℕ
  n = A.dim

  abbrev K : FieldOn (Elem o)
  K = elements o L

  abbrev V : Type 0
  V = Tuple o n

  abbrev Alg : AlgebraOn K.ring V
  Alg = algebra o L A over.of_elements assoc one is_one

  is : IsTableAlgebra o L n A.constants Alg
  is = algebra_is o L A over.of_elements assoc one is_one

  abbrev B0 : Basis (module_of Alg) n
  B0 = table_basis o L A over.of_elements assoc one is_one

  abbrev Lat : ℕ → (ℕ → V) → V → Type 0
  Lat = Lattice K Z Alg

  lat_to : (rs : List (List E)) (sh : IsMatrix o n rs) (x : V) → TupleLattice o P n rs x.0
      → Lat (length rs) (row o L n rs sh) x
  unfolding tuple_algebra
  lat_to rs sh x h = let s = to_lattice o L n rs sh P x h.1 in
      record { weights = s.weights; passes = λ i l. (tells (s.weights i)).1 (s.passes i l); combines = s.combines }

  lat_from : (rs : List (List E)) (sh : IsMatrix o n rs) (x : V) → Lat (length rs) (row o L n rs sh) x
      → TupleLattice o P n rs x.0
  unfolding tuple_algebra
  lat_from rs sh x s = from_lattice o L n rs sh P x
      (record { weights = s.weights; passes = λ i l. (tells (s.weights i)).0 (s.passes i l); combines = s.combines })

  module _ (rows : List (List E)) (ind : AreIndependentTuples o n rows) where
    abbrev v : ℕ → V
    v = row o L n rows ind.shape

    pub full_to : (x : V) → TupleLattice o P n rows x.0 → Lat n v x
    full_to x h = let S : ℕ → Type 0 = λ t. Lat t v x in subst S ind.count (lat_to rows ind.shape x h)

    pub full_from : (x : V) → Lat n v x → TupleLattice o P n rows x.0
    full_from x h = let S : ℕ → Type 0 = λ t. Lat t v x in lat_from rows ind.shape x (subst S (sym ind.count) h)

    pub full_independent : Independent (module_of Alg) n v
    unfolding tuple_algebra
    full_independent = lattices.vectors o L n rows ind

    abbrev T : List E → Type 0
    T = TupleLattice o P n rows

    pub order_at : IsOrder (tuple_ops o A) one T → IsOrderAt K Z Alg n v
    order_at h = record {
      independent = full_independent;
      order = record {
        one_in = full_to Alg.one (subst T (sym (one-is o L A over.of_elements assoc one is_one)) h.one_in);
        zero_in = full_to Alg.zero (subst T (sym is.zero-is) h.zero_in);
        add_in = λ x y a b. full_to (Alg.◌⊕◌ x y)
            (subst T (sym (is.add-is x y)) (h.add_in x.0 y.0 (full_from x a) (full_from y b)));
        neg_in = λ x a. full_to (Alg.neg x) (subst T (sym (is.neg-is x)) (h.neg_in x.0 (full_from x a)));
        mul_in = λ x y a b. full_to (Alg.◌⊗◌ x y)
            (subst T (sym (is.product-is x y)) (h.mul_in x.0 y.0 (full_from x a) (full_from y b)));
      };
    }

    pub list_dual : IsSelfDual K Z Alg n B0 (Lat n v) → IsTraceDualOfItself o A P rows
    list_dual h = record {
      into = λ x tx d.
          let y = as_tuple o L n x tx in
          full_from y
          (h.0 y (λ z hz. (tells (form z y)).1 (subst P (sym (form_is z y)) (d z.0 (full_from z hz)))));
      back = λ x hx y hy.
          let a = as_tuple o L n x hx.0 in
          let c = as_tuple o L n y hy.0 in
          subst P (form_is c a) ((tells (form c a)).0 (h.1 a (full_to a hx) c (full_to c hy)));
    }
      where
        form : V → V → Elem o
        form a c = trace Alg n B0 (Alg.◌⊗◌ a c)

        form_is : (a c : V) → (trace Alg n B0 (Alg.◌⊗◌ a c)).0 ≡ trace_of_product o A a.0 c.0
        form_is a c = trace-is o L A over.of_elements assoc one is_one (Alg.◌⊗◌ a c)
            ∙ ap (list_trace o A) (is.product-is a c)
