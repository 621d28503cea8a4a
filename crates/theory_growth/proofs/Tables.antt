-- From lists to the algebra on tuples of an associative table with an identity: maximal ideals, families of tuples as
-- rows, and the radical.
use Rattle.std.specs.Prelude.{◌≡◌, ◌↔◌, ◌<◌, ℕ, zero, suc, Bool, List, [], length, get_or}
use Rattle.std.proofs.Common.{refl, sym, ◌∙◌, ap, subst, inl, inr, ⊎_elim, arith}
use Rattle.theory_rings.specs.Ring.{FieldOn}
use Rattle.theory_rings.specs.Ops.{Ops, FieldLaws}
use Rattle.theory_rings.specs.Elements.{Elem, elements}
use Rattle.theory_rings.specs.Sum.{table}
use Rattle.theory_rings.proofs.Sums.Lists.{length-table, get_or-table}
use Rattle.theory_spaces.specs.Module.{ModuleOn, AlgebraOn, module_of}
use Rattle.theory_spaces.specs.Linear.{comb, InSpan}
use Rattle.theory_spaces.specs.Sets as sets
use Rattle.theory_spaces.specs.Sets.{Within, Same, Test, Whole, IsIdeal, ring_ops}
use Rattle.theory_spaces.specs.Tuples.{IsTuple, Tuple, tuple_zero, tuple_add, product, IsTableAlgebra}
use Rattle.theory_spaces.proofs.Algebras.SetLemmas.{ideal_same, maximal_same}
use Rattle.theory_spaces.proofs.Linear.Modules.{comb_congr_right}
use Rattle.theory_spaces.proofs.Tuples.TupleProducts.{tuple_algebra}
use Rattle.theory_spaces.proofs.Tuples.Tuples.{Tuple-path}
use Rattle.theory_radical.specs.Ideal.{IsNilpotentIdeal, IsLargestNilpotentIdeal}
use Rattle.theory_blocks.specs.MaximalIdeals.{IsMaximalIdeal}
use Rattle.theory_tables.specs.Matrix.{IsMatrix}
use Rattle.theory_tables.specs.Subspace as rows_of
use Rattle.theory_tables.specs.Subspace.{Combinations}
use Rattle.theory_tables.specs.Structure.{Structure, IsOver, IsAssociative, tuple_ops}
use Rattle.theory_tables.specs.Algebras.{IsIdentity, SpansIdeal}
use Rattle.theory_tables.specs.Traces.{PowerVanishes}
use Rattle.theory_tables.proofs.Algebras.Bridge.{algebra, algebra_is, one-is, as_tuple, IsTuple-of, row, row-is}
use Rattle.theory_tables.proofs.Algebras.Bridge.{to_span, from_span, to_ideal, ideal_row, list_span}
use Rattle.theory_tables.proofs.Algebras.Powers.{nilpotent_by_powers}
use Rattle.theory_chains.specs.Radical.{SpansRadical}
use Rattle.theory_growth.proofs.TupleTests as tests
use Rattle.theory_growth.proofs.TupleTests.{test_same}

module _ {E : Type 0} (o : Ops E) (L : FieldLaws o) (T : Structure E) (over : IsOver o T) (assoc : IsAssociative o T)
    (one : List E) (is_one : IsIdentity o T one) where
  abbrev m : ℕ
  m = T.dim

  abbrev V : Type 0
  V = Tuple o m

  abbrev K : FieldOn (Elem o)
  K = elements o L

  abbrev A : AlgebraOn K.ring V
  A = algebra o L T over.of_elements assoc one is_one

  is : IsTableAlgebra o L m T.constants A
  is = algebra_is o L T over.of_elements assoc one is_one

  abbrev M : ModuleOn K.ring V
  M = module_of A

  abbrev tuple : (a : List E) → IsTuple o m a → V
  tuple = as_tuple o L m

  of_tuple : (x : V) → IsTuple o m x.0
  of_tuple x = IsTuple-of o L m x

  abbrev On : (V → Type 0) → List E → Type 0
  On = tests.On o L m

  abbrev to_on : (J : V → Type 0) (x : V) (a : List E) → x.0 ≡ a → J x → On J a
  to_on = tests.to_on o L m

  abbrev from_on : (J : V → Type 0) (x : V) → On J x.0 → J x
  from_on = tests.from_on o L m

  abbrev test : (V → Bool) → List E → Bool
  test = tests.test o L m

  ideal_down : (C : List E → Type 0) → IsIdeal (tuple_ops o T) (IsTuple o m) C
      → IsIdeal (ring_ops A.ring) Whole (λ (x : V). C x.0)
  ideal_down C h = record {
    inside = λ x _. tt;
    zero_in = subst C (sym is.zero-is) h.zero_in;
    add_in = λ x y p q. subst C (sym (is.add-is x y)) (h.add_in x.0 y.0 p q);
    left = λ a x _ p. subst C (sym (is.product-is a x)) (h.left a.0 x.0 (of_tuple a) p);
    right = λ a x _ p. subst C (sym (is.product-is x a)) (h.right a.0 x.0 (of_tuple a) p);
  }

  ideal_up : (J : V → Type 0) → IsIdeal (ring_ops A.ring) Whole J → IsIdeal (tuple_ops o T) (IsTuple o m) (On J)
  ideal_up J h = record {
    inside = λ a p. p.0;
    zero_in = to_on J A.zero (tuple_zero o m) is.zero-is h.zero_in;
    add_in = λ a b p q. let x = tuple a p.0 in let y = tuple b q.0 in
        to_on J (A.◌⊕◌ x y) (tuple_add o m a b) (is.add-is x y) (h.add_in x y p.1 q.1);
    left = λ c a hc p. let x = tuple c hc in let y = tuple a p.0 in
        to_on J (A.◌⊗◌ x y) (product o m T.constants c a) (is.product-is x y) (h.left x y tt p.1);
    right = λ c a hc p. let x = tuple c hc in let y = tuple a p.0 in
        to_on J (A.◌⊗◌ y x) (product o m T.constants a c) (is.product-is y x) (h.right x y tt p.1);
  }

  maximal_up : (J : V → Type 0) → IsMaximalIdeal A J
      → sets.IsMaximalIdeal (tuple_ops o T) (IsTuple o m) (On J)
  maximal_up J h = record {
    ideal = ideal_up J h.ideal;
    simple = record {
      proper = λ w. h.simple.proper (λ x _. from_on J x (w x.0 (of_tuple x)));
      nothing_between = λ t I above.
          let t' : V → Bool = λ x. t x.0 in
          ⊎_elim
          (λ (w : Within (Test t') J). inl (λ a ta. let h = I.inside a ta in (h, w (tuple a h) ta)))
          (λ (w : Within Whole (Test t')). inr (λ a ta. w (tuple a ta) tt))
          (h.simple.nothing_between t' (ideal_down (Test t) I) (λ x j. above x.0 (to_on J x x.0 refl j)));
    };
  }

  pub maximal_down : (C : List E → Type 0) → sets.IsMaximalIdeal (tuple_ops o T) (IsTuple o m) C
      → IsMaximalIdeal A (λ (x : V). C x.0)
  maximal_down C h = record {
    ideal = ideal_down C h.ideal;
    simple = record {
      proper = λ w. h.simple.proper (λ a ta. w (tuple a ta) tt);
      nothing_between = λ t I above.
          let s = test_same o L m t in
          ⊎_elim
          (λ (w : Within (Test (test t)) C). inl (λ x tx. w x.0 (s.0 x.0 (to_on (Test t) x x.0 refl tx))))
          (λ (w : Within (IsTuple o m) (Test (test t))).
          inr (λ x _. from_on (Test t) x (s.1 x.0 (w x.0 (of_tuple x)))))
          (h.simple.nothing_between (test t)
          (ideal_same (tuple_ops o T) (IsTuple o m) (On (Test t)) (Test (test t)) s (ideal_up (Test t) I))
          (λ a c. let ta = h.ideal.inside a c in s.0 a (ta, above (tuple a ta) c)));
    };
  }

  -- ---- families of tuples as rows

  module _ (n : ℕ) (g : ℕ → V) where
    abbrev pub family : List (List E)
    family = table n (λ i. (g i).0)

    pub family-at : (i : ℕ) (d : List E) → i < n → get_or family i d ≡ (g i).0
    family-at i d l = get_or-table n (λ i. (g i).0) i d l

    pub family_long : length family ≡ n
    family_long = length-table n (λ i. (g i).0)

    pub family_shape : IsMatrix o m family
    family_shape = λ i d l. let i_in : i < n = omega (arith, l, family_long) in
        subst (IsTuple o m) (sym (family-at i d i_in)) (of_tuple (g i))

    same_rows : (i : ℕ) → i < n → row o L m family family_shape i ≡ g i
    same_rows i l = Tuple-path o L m (row o L m family family_shape i) (g i)
        (row-is o L m family family_shape i (omega (arith, l, family_long)) ∙ family-at i [] l)

    same_comb : (c : ℕ → Elem o) → comb M (length family) c (row o L m family family_shape) ≡ comb M n c g
    same_comb c = ap (λ k. comb M k c (row o L m family family_shape)) family_long
        ∙ comb_congr_right M n c (row o L m family family_shape) g same_rows

    pub to_family : (x : V) → rows_of.InSpan o m family x.0 → InSpan M n g x
    unfolding tuple_algebra
    to_family x h =
        let s = to_span o L m family family_shape x h in
        record { weights = s.weights; combines = s.combines ∙ same_comb s.weights }

    pub from_family : (x : V) → InSpan M n g x → rows_of.InSpan o m family x.0
    unfolding tuple_algebra
    from_family x s = from_span o L m family family_shape x
        (record { weights = s.weights; combines = s.combines ∙ sym (same_comb s.weights) })

    family_same : Same (On (InSpan M n g)) (Combinations o m family)
    family_same = (
      λ a p. (p.0, from_family (tuple a p.0) p.1),
      λ a p. (p.0, to_family (tuple a p.0) p.1),
    )

    -- the rows span an ideal, or a maximal one, where the family does
    pub family_ideal : IsIdeal (ring_ops A.ring) Whole (InSpan M n g) → SpansIdeal o T family
    family_ideal h = record {
      shape = family_shape;
      ideal = ideal_same (tuple_ops o T) (IsTuple o m) (On (InSpan M n g)) (Combinations o m family) family_same
          (ideal_up (InSpan M n g) h);
    }

    pub family_maximal : IsMaximalIdeal A (InSpan M n g)
        → sets.IsMaximalIdeal (tuple_ops o T) (IsTuple o m) (Combinations o m family)
    family_maximal h = maximal_same (tuple_ops o T) (IsTuple o m) (On (InSpan M n g)) (Combinations o m family)
        family_same (maximal_up (InSpan M n g) h)

  -- ---- the radical

  product-is : (x : ℕ → V) (e : ℕ)
      → (sets.product (ring_ops A.ring) A.one x e).0 ≡ sets.product (tuple_ops o T) one (λ i. (x i).0) e
  product-is x zero = one-is o L T over.of_elements assoc one is_one
  product-is x (suc e) = is.product-is (x e) (sets.product (ring_ops A.ring) A.one x e)
      ∙ ap (product o m T.constants (x e).0) (product-is x e)

  abbrev by_powers : (rows : List (List E)) → SpansIdeal o T rows
      → sets.IsNilpotentIdeal (tuple_ops o T) one (IsTuple o m) (Combinations o m rows) ↔ PowerVanishes o T rows
  by_powers rows ideal = let h = nilpotent_by_powers o L T over assoc one is_one rows ideal in h.nilpotent

  -- rows whose powers vanish span a nilpotent ideal
  pub nilpotent_of_rows : (rows : List (List E)) (ideal : SpansIdeal o T rows) → PowerVanishes o T rows
      → IsNilpotentIdeal A.ring
      (InSpan M (length rows) (ideal_row o L T over.of_elements assoc one is_one rows ideal))
  nilpotent_of_rows rows ideal power =
      let nil = (by_powers rows ideal).1 power in
      record {
        ideal = to_ideal o L T over.of_elements assoc one is_one rows ideal;
        exponent = nil.exponent;
        vanishes = λ x hx. Tuple-path o L m (sets.product (ring_ops A.ring) A.one x nil.exponent) A.zero
            (product-is x nil.exponent
            ∙ nil.vanishes (λ i. (x i).0) (λ i. (
              of_tuple (x i),
              list_span o L T over.of_elements assoc one is_one rows ideal (x i) (hx i),
            )) ∙ sym is.zero-is);
      }

  -- and the other way
  rows_of_nilpotent : (n : ℕ) (g : ℕ → V) → IsNilpotentIdeal A.ring (InSpan M n g) → PowerVanishes o T (family n g)
  rows_of_nilpotent n g h =
      let ideal = family_ideal n g h.ideal in
      (by_powers (family n g) ideal).0 (record {
        ideal = ideal.ideal;
        exponent = h.exponent;
        vanishes = λ a ha.
            let x : ℕ → V = λ i. tuple (a i) (ha i).0 in
            sym (product-is x h.exponent)
            ∙ ap (λ (y : V). y.0) (h.vanishes x (λ i. to_family n g (x i) (ha i).1)) ∙ is.zero-is;
      })

  -- the rows of a nilpotent ideal, and of a maximal one
  module _ (rows : List (List E)) (ideal : SpansIdeal o T rows) where
    abbrev R : V → Type 0
    R = InSpan M (length rows) (ideal_row o L T over.of_elements assoc one is_one rows ideal)

    rows_on : Same (On R) (Combinations o m rows)
    unfolding tuple_algebra
    rows_on = (
      λ a p. (p.0, list_span o L T over.of_elements assoc one is_one rows ideal (tuple a p.0) p.1),
      λ a p. (p.0, to_span o L m rows ideal.shape (tuple a p.0) p.1),
    )

    pub rows_of_nilpotent_rows : IsNilpotentIdeal A.ring R → PowerVanishes o T rows
    unfolding rows_on
    rows_of_nilpotent_rows h = (by_powers rows ideal).0 (record {
      ideal = ideal.ideal;
      exponent = h.exponent;
      vanishes = λ a ha.
          let x : ℕ → V = λ i. tuple (a i) (ha i).0 in
          sym (product-is x h.exponent)
          ∙ ap (λ (y : V). y.0) (h.vanishes x (λ i. (rows_on.1 (a i) (ha i)).1)) ∙ is.zero-is;
    })

    pub rows_maximal_of : IsMaximalIdeal A R
        → sets.IsMaximalIdeal (tuple_ops o T) (IsTuple o m) (Combinations o m rows)
    rows_maximal_of h = maximal_same (tuple_ops o T) (IsTuple o m) (On R) (Combinations o m rows) rows_on
        (maximal_up R h)

  -- rows that span the radical span the largest nilpotent ideal
  pub largest_of_rows : (rows : List (List E)) (S : SpansRadical o T rows)
      → IsLargestNilpotentIdeal A
      (InSpan M (length rows) (ideal_row o L T over.of_elements assoc one is_one rows S.ideal))
  unfolding tuple_algebra
  largest_of_rows rows S = record {
    nilpotent = nilpotent_of_rows rows S.ideal S.nilpotent;
    largest = λ n g nil x s.
        let c = S.largest (family n g) (family_ideal n g nil.ideal) (rows_of_nilpotent n g nil) x.0
        (of_tuple x, from_family n g x s) in
        to_span o L m rows S.ideal.shape x c.1;
  }
