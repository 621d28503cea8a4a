-- From lists to the algebra on tuples of an associative table with an identity: sets of tuples as sets of lists and
-- back, with ideals, maximal and nilpotent ones, simple algebras, families of tuples as rows, the centre, and powers.
use Rattle.std.specs.Prelude.{◌≡◌, ◌⊎◌, ◌-◌, ◌<◌, ◌≤◌, ℕ, zero, suc, Bool, false, IsTrue, List, [], length, get_or}
use Rattle.std.proofs.lemmas.Bool.{both_ways}
use Rattle.std.proofs.Common.{refl, sym, ◌∙◌, ap, ap₂, subst, inl, inr, ⊎_elim, arith}
use Rattle.theory_rings.specs.Ring.{FieldOn}
use Rattle.theory_rings.specs.Ops.{Ops, FieldLaws}
use Rattle.theory_rings.specs.Elements.{Elem, elements}
use Rattle.theory_rings.specs.Sum.{table}
use Rattle.theory_rings.specs.Power.{power, power_by_ops}
use Rattle.theory_rings.proofs.Powers.Powers.{power_first}
use Rattle.theory_rings.proofs.Sums.Lists.{length-table, get_or-table}
use Rattle.theory_spaces.specs.Module.{ModuleOn, AlgebraOn, module_of}
use Rattle.theory_spaces.specs.Linear.{comb, InSpan, Independent, Basis}
use Rattle.theory_spaces.specs.Algebra as algebras
use Rattle.theory_spaces.specs.Algebra.{IdealSpan}
use Rattle.theory_spaces.specs.Sets as sets
use Rattle.theory_spaces.specs.Sets.{Within, Same, Test, Whole, IsIdeal, ring_ops}
use Rattle.theory_spaces.specs.Tuples.{IsTuple, Tuple, is_tuple, tuple_zero, tuple_add}
use Rattle.theory_spaces.specs.Tuples.{IsTableAlgebra}
use Rattle.theory_spaces.proofs.Algebras.SetLemmas.{ideal_same}
use Rattle.theory_spaces.proofs.Linear.Modules.{comb_congr_right}
use Rattle.theory_spaces.proofs.Linear.SpanTests.{decided}
use Rattle.theory_spaces.proofs.Tuples.TupleProducts.{tuple_algebra, product_comm_of_basis, one-product, product-one}
use Rattle.theory_spaces.proofs.Tuples.Tuples.{Tuple-path}
use Rattle.theory_tables.specs.Matrix.{IsMatrix}
use Rattle.theory_tables.specs.Subspace as rows_of
use Rattle.theory_tables.specs.Subspace.{Combinations, AreIndependent}
use Rattle.theory_tables.specs.Structure.{Structure, tuple_ops, product_of}
use Rattle.theory_tables.specs.Algebras.{IsIdentity, IsCentral, AreZero, SpansAll}
use Rattle.theory_tables.proofs.Algebras.Bridge.{algebra, algebra_is, one-is, table_basis, as_tuple, IsTuple-of, row}
use Rattle.theory_tables.proofs.Algebras.Bridge.{row-is, to_span, from_span, to_independent, to_ideal, ideal_row}
use Rattle.theory_tables.proofs.Algebras.Bridge.{list_span, to_is_central}
use Rattle.theory_blocks.specs.Centre.{Centre}
use Rattle.theory_blocks.specs.MaximalIdeals as blocks
use Rattle.spl_algebra.specs.Subspaces.{SpansCentre}
use Rattle.spl_blocks.specs.Blocks.{IsUnital, HasNoNilpotentIdeal, IsSimple}
use Rattle.spl_blocks.specs.Fixed.{power_in}

module _ {E : Type 0} (o : Ops E) (L : FieldLaws o) (T : Structure E) (u : IsUnital o T) where
  abbrev m : ℕ
  m = T.dim

  abbrev pub V : Type 0
  V = Tuple o m

  abbrev pub K : FieldOn (Elem o)
  K = elements o L

  abbrev one : List E
  one = u.identity.one

  abbrev pub A : AlgebraOn K.ring V
  A = algebra o L T u.over.of_elements u.associative one u.identity.is_one

  pub A_is : IsTableAlgebra o L m T.constants A
  A_is = algebra_is o L T u.over.of_elements u.associative one u.identity.is_one

  abbrev pub M : ModuleOn K.ring V
  M = module_of A

  abbrev pub A_basis : Basis M m
  A_basis = table_basis o L T u.over.of_elements u.associative one u.identity.is_one

  abbrev pub tuple : (a : List E) → IsTuple o m a → V
  tuple = as_tuple o L m

  pub of_tuple : (x : V) → IsTuple o m x.0
  of_tuple x = IsTuple-of o L m x

  pub V-path : (x y : V) → x.0 ≡ y.0 → x ≡ y
  V-path = Tuple-path o L m

  one_is : A.one.0 ≡ one
  one_is = one-is o L T u.over.of_elements u.associative one u.identity.is_one

  -- each identity is the one of the algebra
  pub one_of : (e : List E) → IsIdentity o T e → A.one.0 ≡ e
  one_of e h = one_is ∙ sym (sym (one-product o L m T.constants u.over.of_elements one u.identity.is_one e h.tuple)
      ∙ product-one o L m T.constants u.over.of_elements e h one (let i = u.identity.is_one in i.tuple))

  -- ---- powers

  power-more : (x : V) (n : ℕ) → (power A.ring x (suc n)).0 ≡ power_by_ops x.0 (product_of o T) x.0 n
  power-more x zero = ap (λ (y : V). y.0) (power_first A.ring x)
  power-more x (suc n) = A_is.product-is x (power A.ring x (suc n)) ∙ ap (product_of o T x.0) (power-more x n)

  pub power-is : (x : V) (n : ℕ) → 1 ≤ n → (power A.ring x n).0 ≡ power_in o T x.0 n
  power-is x n l =
      let q : n ≡ suc (n - 1) = omega (arith, l) in
      ap (λ k. (power A.ring x k).0) q ∙ power-more x (n - 1)

  -- ---- sets of tuples as sets of lists

  -- the lists that are tuples of the set
  abbrev pub On : (V → Type 0) → List E → Type 0
  On J a = (h : IsTuple o m a) × J (tuple a h)

  -- the tuples whose lists are in the set
  abbrev pub Down : (List E → Type 0) → V → Type 0
  Down C x = C x.0

  again : (x : V) (h : IsTuple o m x.0) → tuple x.0 h ≡ x
  again x h = V-path (tuple x.0 h) x refl

  pub to_on : (J : V → Type 0) (x : V) (a : List E) → x.0 ≡ a → J x → On J a
  to_on J x a e j = subst (On J) e (of_tuple x, subst J (sym (again x (of_tuple x))) j)

  pub from_on : (J : V → Type 0) (x : V) → On J x.0 → J x
  from_on J x h = subst J (again x h.0) h.1

  pub ideal_down : (C : List E → Type 0) → IsIdeal (tuple_ops o T) (IsTuple o m) C
      → IsIdeal (ring_ops A.ring) Whole (Down C)
  ideal_down C h = record {
    inside = λ x _. tt;
    zero_in = subst C (sym A_is.zero-is) h.zero_in;
    add_in = λ x y p q. subst C (sym (A_is.add-is x y)) (h.add_in x.0 y.0 p q);
    left = λ a x _ p. subst C (sym (A_is.product-is a x)) (h.left a.0 x.0 (of_tuple a) p);
    right = λ a x _ p. subst C (sym (A_is.product-is x a)) (h.right a.0 x.0 (of_tuple a) p);
  }

  pub ideal_up : (J : V → Type 0) → IsIdeal (ring_ops A.ring) Whole J → IsIdeal (tuple_ops o T) (IsTuple o m) (On J)
  ideal_up J h = record {
    inside = λ a p. p.0;
    zero_in = to_on J A.zero (tuple_zero o m) A_is.zero-is h.zero_in;
    add_in = λ a b p q. let x = tuple a p.0 in let y = tuple b q.0 in
        to_on J (A.◌⊕◌ x y) (tuple_add o m a b) (A_is.add-is x y) (h.add_in x y p.1 q.1);
    left = λ c a hc p. let x = tuple c hc in let y = tuple a p.0 in
        to_on J (A.◌⊗◌ x y) (product_of o T c a) (A_is.product-is x y) (h.left x y tt p.1);
    right = λ c a hc p. let x = tuple c hc in let y = tuple a p.0 in
        to_on J (A.◌⊗◌ y x) (product_of o T a c) (A_is.product-is y x) (h.right x y tt p.1);
  }

  -- a test of tuples as one of lists
  abbrev lifted : (V → Bool) → (a : List E) → (IsTrue (is_tuple o m a) ⊎ (IsTrue (is_tuple o m a) → ⊥)) → Bool
  lifted t a d = ⊎_elim (λ (h : IsTrue (is_tuple o m a)). t (a, h)) (λ (n : IsTrue (is_tuple o m a) → ⊥). false) d

  abbrev test : (V → Bool) → List E → Bool
  test t a = lifted t a (decided (is_tuple o m a))

  lifted-at : (t : V → Bool) (x : V) (d : IsTrue (is_tuple o m x.0) ⊎ (IsTrue (is_tuple o m x.0) → ⊥))
      → lifted t x.0 d ≡ t x
  lifted-at t x (inl h) = ap t (V-path (x.0, h) x refl)
  lifted-at t x (inr n) = absurd (n x.1)

  lifted-tuple : (t : V → Bool) (a : List E) (d : IsTrue (is_tuple o m a) ⊎ (IsTrue (is_tuple o m a) → ⊥))
      → IsTrue (lifted t a d) → IsTrue (is_tuple o m a)
  lifted-tuple t a (inl h) p = h
  lifted-tuple t a (inr n) p = absurd (false_is p)
    where
      false_is : IsTrue false → ⊥
      false_is q = both_ways false refl q

  test_same : (t : V → Bool) → Same (On (Test t)) (Test (test t))
  test_same t = (
    λ a p. let x = tuple a p.0 in subst IsTrue (sym (lifted-at t x (decided (is_tuple o m a)))) p.1,
    λ a p. let x : V = (a, lifted-tuple t a (decided (is_tuple o m a)) p) in
        to_on (Test t) x a refl (subst IsTrue (lifted-at t x (decided (is_tuple o m a))) p),
  )

  pub maximal_down : (C : List E → Type 0) → sets.IsMaximalIdeal (tuple_ops o T) (IsTuple o m) C
      → sets.IsMaximalIdeal (ring_ops A.ring) Whole (Down C)
  maximal_down C h = record {
    ideal = ideal_down C h.ideal;
    simple = record {
      proper = λ w. h.simple.proper (λ a ta. w (tuple a ta) tt);
      nothing_between = λ t I above.
          let s = test_same t in
          ⊎_elim
          (λ (w : Within (Test (test t)) C). inl (λ x tx. w x.0 (s.0 x.0 (to_on (Test t) x x.0 refl tx))))
          (λ (w : Within (IsTuple o m) (Test (test t))).
          inr (λ x _. from_on (Test t) x (s.1 x.0 (w x.0 (of_tuple x)))))
          (h.simple.nothing_between (test t)
          (ideal_same (tuple_ops o T) (IsTuple o m) (On (Test t)) (Test (test t)) s (ideal_up (Test t) I))
          (λ a c. let ta = h.ideal.inside a c in s.0 a (ta, above (tuple a ta) c)));
    };
  }

  pub maximal_up : (J : V → Type 0) → sets.IsMaximalIdeal (ring_ops A.ring) Whole J
      → sets.IsMaximalIdeal (tuple_ops o T) (IsTuple o m) (On J)
  maximal_up J h = record {
    ideal = ideal_up J h.ideal;
    simple = record {
      proper = λ w. h.simple.proper (λ x _. from_on J x (w x.0 (of_tuple x)));
      nothing_between = λ t I above.
          let t' : V → Bool = λ x. t x.0 in
          ⊎_elim
          (λ (w : Within (Test t') J). inl (λ a ta. let h = I.inside a ta in (h, w (tuple a h) ta)))
          (λ (w : Within Whole (Test t')). inr (λ a ta. w (tuple a ta) tt))
          (h.simple.nothing_between t' (ideal_down (Test t) I) (λ x j. above x.0 (to_on J x x.0 refl j)));
    };
  }

  -- ---- families of tuples as rows

  module _ (n : ℕ) (g : ℕ → V) where
    abbrev pub rows : List (List E)
    rows = table n (λ i. (g i).0)

    pub rows-at : (i : ℕ) (d : List E) → i < n → get_or rows i d ≡ (g i).0
    rows-at i d l = get_or-table n (λ i. (g i).0) i d l

    pub rows_long : length rows ≡ n
    rows_long = length-table n (λ i. (g i).0)

    pub rows_shape : IsMatrix o m rows
    rows_shape = λ i d l. let i_in : i < n = omega (arith, l, rows_long) in
        subst (IsTuple o m) (sym (rows-at i d i_in)) (of_tuple (g i))

    same_rows : (i : ℕ) → i < n → row o L m rows rows_shape i ≡ g i
    same_rows i l = V-path (row o L m rows rows_shape i) (g i)
        (row-is o L m rows rows_shape i (omega (arith, l, rows_long)) ∙ rows-at i [] l)

    same_comb : (c : ℕ → Elem o) → comb M (length rows) c (row o L m rows rows_shape) ≡ comb M n c g
    same_comb c = ap (λ k. comb M k c (row o L m rows rows_shape)) rows_long
        ∙ comb_congr_right M n c (row o L m rows rows_shape) g same_rows

    pub to_family : (x : V) → rows_of.InSpan o m rows x.0 → InSpan M n g x
    unfolding tuple_algebra
    to_family x h =
        let s = to_span o L m rows rows_shape x h in
        record { weights = s.weights; combines = s.combines ∙ same_comb s.weights }

    pub from_family : (x : V) → InSpan M n g x → rows_of.InSpan o m rows x.0
    unfolding tuple_algebra
    from_family x s = from_span o L m rows rows_shape x
        (record { weights = s.weights; combines = s.combines ∙ sym (same_comb s.weights) })

    abbrev pub family_same : Same (On (InSpan M n g)) (Combinations o m rows)
    family_same = (
      λ a p. (p.0, from_family (tuple a p.0) p.1),
      λ a p. (p.0, to_family (tuple a p.0) p.1),
    )

  -- rows as a family
  module _ (list : List (List E)) (shape : IsMatrix o m list) where
    abbrev pub family : ℕ → V
    family = row o L m list shape

    pub family-is : (i : ℕ) → i < length list → (family i).0 ≡ get_or list i []
    family-is i l = row-is o L m list shape i l

    pub to_rows : (x : V) → rows_of.InSpan o m list x.0 → InSpan M (length list) family x
    unfolding tuple_algebra
    to_rows x h = to_span o L m list shape x h

    pub from_rows : (x : V) → InSpan M (length list) family x → rows_of.InSpan o m list x.0
    unfolding tuple_algebra
    from_rows x h = from_span o L m list shape x h

    abbrev pub rows_same : Same (On (InSpan M (length list) family)) (Combinations o m list)
    rows_same = (
      λ a p. (p.0, from_rows (tuple a p.0) p.1),
      λ a p. (p.0, to_rows (tuple a p.0) p.1),
    )

    pub rows_independent : AreIndependent o m list → Independent M (length list) family
    unfolding tuple_algebra
    rows_independent h = to_independent o L m list shape h

  -- ---- nilpotent ideals and simple algebras

  product-is : (a : ℕ → List E) (b : ℕ → V) → ((i : ℕ) → (b i).0 ≡ a i) → (n : ℕ)
      → (sets.product (ring_ops A.ring) A.one b n).0 ≡ sets.product (tuple_ops o T) one a n
  product-is a b h zero = one_is
  product-is a b h (suc n) = A_is.product-is (b n) (sets.product (ring_ops A.ring) A.one b n)
      ∙ ap₂ (product_of o T) (h n) (product-is a b h n)

  pub no_nilpotent : HasNoNilpotentIdeal o T → blocks.HasNoNilpotentIdeal A
  no_nilpotent none n g nil i l =
      let J = InSpan M n g in
      let same = family_same n g in
      V-path (g i) A.zero (sym (rows-at n g i [] l)
      ∙ none one u.identity.is_one (rows n g) (rows_shape n g) (record {
        ideal = ideal_same (tuple_ops o T) (IsTuple o m) (On J) (Combinations o m (rows n g)) same
            (ideal_up J nil.ideal);
        exponent = nil.exponent;
        vanishes = λ a ha.
            let b : ℕ → V = λ i. tuple (a i) (ha i).0 in
            sym (product-is a b (λ i. refl) nil.exponent)
            ∙ ap (λ (x : V). x.0) (nil.vanishes b (λ i. (same.1 (a i) (ha i)).1)) ∙ A_is.zero-is;
      }) i (omega (arith, l, rows_long n g))
      ∙ sym A_is.zero-is)

  pub simple_up : algebras.IsSimple A → IsSimple o T
  simple_up h list ideal = ⊎_elim
      (λ (z : (i : ℕ) → i < length list → R i ≡ A.zero). inl (λ i l.
      sym (row-is o L m list ideal.shape i l) ∙ ap (λ (x : V). x.0) (z i l) ∙ A_is.zero-is))
      (λ (s : (x : V) → InSpan M (length list) R x). inr (λ v tv.
      list_span o L T u.over.of_elements u.associative one u.identity.is_one list ideal (tuple v tv) (s (tuple v tv))))
      (h (length list) R (to_ideal o L T u.over.of_elements u.associative one u.identity.is_one list ideal))
    where
      R : ℕ → V
      R = ideal_row o L T u.over.of_elements u.associative one u.identity.is_one list ideal

  pub simple_down : IsSimple o T → algebras.IsSimple A
  simple_down h n g ideal = ⊎_elim
      (λ (z : AreZero o T (rows n g)). inl (λ i l. V-path (g i) A.zero (sym (rows-at n g i [] l)
      ∙ z i (omega (arith, l, rows_long n g)) ∙ sym A_is.zero-is)))
      (λ (s : SpansAll o T (rows n g)). inr (λ x. to_family n g x (s x.0 (of_tuple x))))
      (h (rows n g) (record {
        shape = rows_shape n g;
        ideal = ideal_same (tuple_ops o T) (IsTuple o m) (On (InSpan M n g)) (Combinations o m (rows n g))
            (family_same n g) (ideal_up (InSpan M n g) ideal);
      }))

  -- ---- the centre

  pub from_is_central : (x : V) → IsCentral o T x.0 → Centre A x
  from_is_central x c y = V-path (A.◌⊗◌ x y) (A.◌⊗◌ y x)
      (A_is.product-is x y
      ∙ product_comm_of_basis o L m T.constants u.over.of_elements x.0 c.tuple c.commutes y.0 (of_tuple y)
      ∙ sym (A_is.product-is y x))

  pub central_of : (x : V) → Centre A x → IsCentral o T x.0
  central_of x h = to_is_central o L T u.over.of_elements u.associative one u.identity.is_one x h

  module _ (centre : List (List E)) (members : SpansCentre o T centre) where
    pub to_centre : (x : V) → rows_of.InSpan o m centre x.0 → Centre A x
    to_centre x h = from_is_central x ((members x.0 (of_tuple x)).0 h)

    pub from_centre : (x : V) → Centre A x → rows_of.InSpan o m centre x.0
    from_centre x h = (members x.0 (of_tuple x)).1 (central_of x h)
