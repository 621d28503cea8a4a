-- Simple quotients of an order by tests and by elements, each way; an ideal over p·L with a power in p·L and a simple
-- quotient is the radical.
use Rattle.std.specs.Prelude.{◌≡◌, ℕ, zero, suc, ◌+◌, ◌*◌, ◌/◌, ◌%◌, ◌<◌, Bool, IsTrue, ◌⊎◌}
use Rattle.std.proofs.Common.{refl, sym, ◌∙◌, ap, subst, inl, inr, ⊎_elim}
use Rattle.theory_rings.specs.Ring.{RingOn, FieldOn}
use Rattle.theory_rings.proofs.Rings.RingLaws.{add-zero}
use Rattle.theory_spaces.specs.Module.{ModuleOn, AlgebraOn, module_of}
use Rattle.theory_spaces.specs.Linear.{Coords}
use Rattle.theory_spaces.specs.Valuation.{ValuationOn, Integer, integers, restrict}
use Rattle.theory_spaces.proofs.Linear.Families.{join, each_join}
use Rattle.theory_spaces.proofs.Linear.Modules.{left_linear, right_linear, map-comb}
use Rattle.theory_spaces.proofs.Matrices.PairIndex.{pair-lt, row-lt, column-lt}
use Rattle.theory_orders.specs.Orders.{IsOrder, IsIdeal, Power, Around, Generated, Multiple, Within, Test, Radical}
use Rattle.theory_orders.specs.Orders.{SimpleQuotient, SimpleByElements}
use Rattle.theory_orders.specs.Lattices.{Lattice}
use Rattle.theory_orders.proofs.LeftOrder.LeftOrders.{Power_one}
use Rattle.theory_orders.proofs.Ideals.Ideals.{IdealSum, IdealSum_ideal, whole, generated_in}
use Rattle.theory_orders.proofs.Splitting.Chains.{Chain, Chain_inside, chain_in_power}
use Rattle.theory_spaces.proofs.Linear.LatticeTests.{decided, pairs_of, pairs_of-at, lattice_test, lattice_test-in}
use Rattle.theory_spaces.proofs.Linear.LatticeTests.{in-lattice_test}
use Rattle.theory_spaces.proofs.Linear.LatticeSpans.{lattice-add, lattice-scale, lattice-member, lattice-comb}
use Rattle.theory_spaces.proofs.Linear.LatticeSpans.{lattice_trans, lattice-join_left, lattice-join_right}

-- from elements to tests, and to the radical
module _ {K V : Type 0} {R : RingOn K} (A : AlgebraOn R V) (L J : V → Type 0) (O : IsOrder A L) where
  infixl 65 ◌⊕◌
  infixl 70 ◌⊗◌
  open A use {◌⊕◌, ◌⊗◌}

  module _ (S : SimpleByElements A L J) where
    pub simple_by_tests : SimpleQuotient A L J
    simple_by_tests = record {
      proper = λ h. S.proper (h A.one O.one_in);
      nothing_between = λ t IT j. ⊎_elim
          (λ (h : IsTrue (t A.one)). inr (whole A L J O (Test t) IT h))
          (λ (h : IsTrue (t A.one) → ⊥). inl (λ x tx. ⊎_elim (λ w. w)
          (λ (r : Generated A L J x A.one). absurd (h (generated_in A L J O (Test t) IT j x tx A.one r)))
          (S.generates x (IT.inside x tx))))
          (decided (t A.one));
    }

    module _ (p : K) (I : IsIdeal A L J) (over : Within (Multiple A p L) J) (e : ℕ)
        (falls : Within (Power A J e) (Multiple A p L))
        (T : V → Type 0) (IT : IsIdeal A L T) (T_over : Within (Multiple A p L) T) where
      -- where T and J make one, T is everything
      absorbed : (a b : V) → T a → J b → A.one ≡ a ⊕ b → (m : ℕ) → Within (Chain A J L m) T → Within L T
      absorbed a b ha hb s zero h = h
      absorbed a b ha hb s (suc m) h = absorbed a b ha hb s m (λ x c.
          let l = Chain_inside A L O J I m x c in
          subst T (sym (sym (A.one-mul x) ∙ ap (λ z. z ⊗ x) s ∙ A.add-mul a b x))
          (IT.add_in (a ⊗ x) (b ⊗ x) (IT.right x a l ha) (h (b ⊗ x) (b, x, hb, c, refl))))

      -- an ideal over p·L holds one, or lies in J
      pub one_or_within : (x : V) → T x → J x ⊎ T A.one
      one_or_within x h = ⊎_elim inl
          (λ (r : Generated A L J x A.one).
          let m = generated_in A L J O (IdealSum A T J) (IdealSum_ideal A L O T J IT I)
          (λ y hy. (A.zero, y, IT.zero_in, hy, sym (A.zero-add y))) x
          (x, A.zero, h, I.zero_in, sym (add-zero A.monoid x)) A.one r in
          inr (absorbed m.0 m.1 m.2 m.3 m.4 (suc e)
          (λ y c. T_over y (falls y (chain_in_power A L O J I e y c))) A.one O.one_in))
          (S.generates x (IT.inside x h))

      pub nilpotent_within : (k : ℕ) → Within (Power A T k) (Multiple A p L) → Within T J
      nilpotent_within k f x h =
          ⊎_elim (λ w. w) (λ (t : T A.one). absurd (S.proper (over A.one (f A.one (Power_one A L O T k t)))))
          (one_or_within x h)

    pub radical_of_simple : (p : K) → IsIdeal A L J → Within (Multiple A p L) J → (e : ℕ)
        → Within (Power A J e) (Multiple A p L) → Radical A p L J
    radical_of_simple p I over e falls = record {
      ideal = I;
      over = over;
      exponent = e;
      falls = falls;
      largest = λ t k IT o f. nilpotent_within p I over e falls (Test t) IT o k f;
    }

-- from tests to elements, for lattices
module _ {K V : Type 0} (F : FieldOn K) (Z : ValuationOn F) (A : AlgebraOn F.ring V) (m : ℕ)
    (C : Coords (module_of A) m) (N : ℕ) (b : ℕ → V) where
  infixl 65 ◌⊕◌
  infixl 70 ◌⊗◌
  infixl 70 ◌•◌
  open A use {◌⊕◌, ◌⊗◌, ◌•◌}

  abbrev RA : ModuleOn (integers F Z) V
  RA = restrict F Z (module_of A)

  abbrev Lam : V → Type 0
  Lam = Lattice F Z A N b

  abbrev M : ModuleOn F.ring V
  M = module_of A

  -- a product lies in a lattice where the products with the vectors do
  pub mul_lattice : (k : ℕ) (v : ℕ → V) (x y : V) (n : ℕ) (g : ℕ → V)
      → ((i : ℕ) → i < k → Lattice F Z A n g (x ⊗ v i)) → Lattice F Z A k v y → Lattice F Z A n g (x ⊗ y)
  mul_lattice k v x y n g h s =
      let P : V → Type 0 = Lattice F Z A n g in
      subst P (sym (ap (λ z. x ⊗ z) s.combines
      ∙ map-comb M M (λ z. x ⊗ z) (left_linear A x) k s.weights v))
      (lattice-comb F Z (module_of A) k n s.weights (λ i. x ⊗ v i) g s.passes h)

  pub lattice_mul : (k : ℕ) (v : ℕ → V) (x y : V) (n : ℕ) (g : ℕ → V)
      → ((i : ℕ) → i < k → Lattice F Z A n g (v i ⊗ x)) → Lattice F Z A k v y → Lattice F Z A n g (y ⊗ x)
  lattice_mul k v x y n g h s =
      let P : V → Type 0 = Lattice F Z A n g in
      subst P (sym (ap (λ z. z ⊗ x) s.combines
      ∙ map-comb M M (λ z. z ⊗ x) (right_linear A x) k s.weights v))
      (lattice-comb F Z (module_of A) k n s.weights (λ i. v i ⊗ x) g s.passes h)

  module _ (n : ℕ) (g : ℕ → V) (O : IsOrder A Lam) (I : IsIdeal A Lam (Lattice F Z A n g)) where
    abbrev Jac : V → Type 0
    Jac = Lattice F Z A n g

    module _ (a : V) (la : Lam a) where
      abbrev pub T : V → Type 0
      T x = Around A Lam a x ⊎ Jac x

      abbrev around : ℕ → V
      around = pairs_of (λ x y. (x ⊗ a) ⊗ y) N b b

      -- the vectors that generate a and J together
      abbrev pub vec : ℕ → V
      vec = join n g around

      abbrev pub size : ℕ
      size = n + N * N

      abbrev Gen : V → Type 0
      Gen = Lattice F Z A size vec

      b-in : (i : ℕ) → i < N → Lam (b i)
      b-in i l = lattice-member F Z (module_of A) N i b l

      T_inside : Within T Lam
      T_inside x = ⊎_elim (λ (w : Around A Lam a x).
          subst Lam (sym w.4) (O.mul_in (w.0 ⊗ a) w.1 (O.mul_in w.0 a w.2 la) w.3)) (I.inside x)

      pub each : (i : ℕ) → i < size → T (vec i)
      each = each_join n (N * N) g around T (λ i l. inr (lattice-member F Z (module_of A) n i g l))
          (λ t l. inl (b (t / N), b (t % N), b-in (t / N) (row-lt N N t l), b-in (t % N) (column-lt N N t l), refl))

      pub J_Gen : Within Jac Gen
      J_Gen x = lattice_trans F Z (module_of A) n size g vec x
          (lattice-join_left F Z (module_of A) n (N * N) g around)

      around_in : (l r : V) → Lam l → Lam r → Gen ((l ⊗ a) ⊗ r)
      around_in l r hl hr = mul_lattice N b (l ⊗ a) r size vec (λ j k.
          subst Gen (sym (A.mul_assoc l a (b j))) (lattice_mul N b (a ⊗ b j) l size vec (λ i h.
          subst Gen (pairs_of-at (λ x y. (x ⊗ a) ⊗ y) N b b i j k ∙ A.mul_assoc (b i) a (b j))
          (lattice-join_right F Z (module_of A) n (N * N) g around (i * N + j) (pair-lt N N i j h k))) hl)) hr

      pub T_Gen : Within T Gen
      T_Gen x = ⊎_elim (λ (w : Around A Lam a x). subst Gen (sym w.4) (around_in w.0 w.1 w.2 w.3)) (J_Gen x)

      T_left : (l x : V) → Lam l → T x → T (l ⊗ x)
      T_left l x hl = ⊎_elim
          (λ (w : Around A Lam a x).
          inl (
            l ⊗ w.0,
            w.1,
            O.mul_in l w.0 hl w.2,
            w.3,
            ap (λ z. l ⊗ z) w.4 ∙ sym (A.mul_assoc l (w.0 ⊗ a) w.1)
                ∙ ap (λ z. z ⊗ w.1) (sym (A.mul_assoc l w.0 a)),
          ))
          (λ (h : Jac x). inr (I.left l x hl h))

      T_right : (r x : V) → Lam r → T x → T (x ⊗ r)
      T_right r x hr = ⊎_elim
          (λ (w : Around A Lam a x).
          inl (w.0, w.1 ⊗ r, w.2, O.mul_in w.1 r w.3 hr, ap (λ z. z ⊗ r) w.4 ∙ A.mul_assoc (w.0 ⊗ a) w.1 r))
          (λ (h : Jac x). inr (I.right r x hr h))

      pub Gen_ideal : IsIdeal A Lam Gen
      Gen_ideal = record {
        inside = λ x s. lattice_trans F Z (module_of A) size N vec b x (λ i l. T_inside (vec i) (each i l)) s;
        zero_in = J_Gen A.zero I.zero_in;
        add_in = λ x y h k. lattice-add F Z (module_of A) size vec x y h k;
        left = λ l x hl s. mul_lattice size vec l x size vec
            (λ i h. T_Gen (l ⊗ vec i) (T_left l (vec i) hl (each i h))) s;
        right = λ r x hr s. lattice_mul size vec r x size vec
            (λ i h. T_Gen (vec i ⊗ r) (T_right r (vec i) hr (each i h))) s;
      }

      test : V → Bool
      test = lattice_test F Z M m C size vec

      test_in : (x : V) → IsTrue (test x) → Gen x
      unfolding test
      test_in = lattice_test-in F Z M m C size vec

      in_test : (x : V) → Gen x → IsTrue (test x)
      unfolding test
      in_test = in-lattice_test F Z M m C size vec

      test_ideal : IsIdeal A Lam (Test test)
      test_ideal = record {
        inside = λ x h. Gen_ideal.inside x (test_in x h);
        zero_in = in_test A.zero Gen_ideal.zero_in;
        add_in = λ x y h k. in_test (x ⊕ y) (Gen_ideal.add_in x y (test_in x h) (test_in y k));
        left = λ l x hl h. in_test (l ⊗ x) (Gen_ideal.left l x hl (test_in x h));
        right = λ r x hr h. in_test (x ⊗ r) (Gen_ideal.right r x hr (test_in x h));
      }

      T_scale : (c : Integer F Z) (x : V) → T x → T (c.0 • x)
      T_scale c x h = subst T (A.scale-left c.0 A.one x ∙ ap (λ z. c.0 • z) (A.one-mul x))
          (T_left (c.0 • A.one) x (lattice-scale F Z (module_of A) N b c A.one O.one_in) h)

      zero_or_generates : SimpleQuotient A Lam Jac → Jac a ⊎ Generated A Lam Jac a A.one
      zero_or_generates S = ⊎_elim
          (λ (h : Within (Test test) Jac). inl
          (h a (in_test a (T_Gen a
          (inl (A.one, A.one, O.one_in, O.one_in, sym (A.mul-one (A.one ⊗ a) ∙ A.one-mul a)))))))
          (λ (h : Within Lam (Test test)).
          let s = test_in A.one (h A.one O.one_in) in
          inr (record {
            size = size;
            term = λ i. (s.weights i) • vec i;
            each = λ i l.
                T_scale (s.weights i, s.passes i l) (vec i) (each i l);
            gives = s.combines;
          }))
          (S.nothing_between test test_ideal (λ x h. in_test x (J_Gen x h)))

    -- a simple quotient by tests is one by elements
    pub simple_by_elements : SimpleQuotient A Lam Jac → SimpleByElements A Lam Jac
    simple_by_elements S = record {
      proper = λ h. S.proper (whole A Lam Jac O Jac I h);
      generates = λ a l. zero_or_generates a l S;
    }
