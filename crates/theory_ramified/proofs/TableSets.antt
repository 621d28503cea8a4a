-- Sets of tuples as lists, and as elements of an algebra whose operations are those of a table: ideals, powers,
-- multiples, left orders and simple quotients are the same.
use Rattle.std.specs.Prelude.{◌≡◌, ◌⊎◌, ◌<◌, ◌≤◌, ℕ, zero, suc, Bool, List}
use Rattle.std.proofs.Common.{refl, sym, ◌∙◌, ap, subst, inl, inr, ⊎_elim, arith}
use Rattle.std.proofs.lemmas.Bool.{cases_lt}
use Rattle.theory_rings.specs.Ring.{FieldOn}
use Rattle.theory_rings.specs.Ops.{Ops, FieldLaws}
use Rattle.theory_rings.specs.Elements.{Elem, elements}
use Rattle.theory_rings.proofs.Sums.Sums.{sum_by_ops_congr}
use Rattle.theory_spaces.specs.Module.{AlgebraOn}
use Rattle.theory_spaces.specs.Sets as sets
use Rattle.theory_spaces.specs.Sets.{RingOps, Within, Same, Test, ring_ops, total}
use Rattle.theory_spaces.specs.Tuples.{IsTuple, Tuple, tuple_zero, tuple_add, tuple_scale, product, IsTableAlgebra}
use Rattle.theory_spaces.proofs.Algebras.SetLemmas.{ideal_same}
use Rattle.theory_spaces.proofs.Tuples.Tuples.{Tuple-path}
use Rattle.theory_tables.specs.Structure.{Structure, tuple_ops}
use Rattle.theory_tables.proofs.Algebras.Bridge.{as_tuple, IsTuple-of}
use Rattle.theory_growth.proofs.TupleTests.{On, to_on, from_on, test, test_same}

module _ {E : Type 0} (o : Ops E) (L : FieldLaws o) (T : Structure E)
    (A : AlgebraOn (elements o L).ring (Tuple o T.dim)) (is : IsTableAlgebra o L T.dim T.constants A) where
  abbrev m : ℕ
  m = T.dim

  abbrev K : FieldOn (Elem o)
  K = elements o L

  abbrev V : Type 0
  V = Tuple o m

  abbrev S : RingOps (List E)
  S = tuple_ops o T

  abbrev R : RingOps V
  R = ring_ops A.ring

  abbrev tuple : (a : List E) → IsTuple o m a → V
  tuple = as_tuple o L m

  of : (x : V) → IsTuple o m x.0
  of x = IsTuple-of o L m x

  path : (x y : V) → x.0 ≡ y.0 → x ≡ y
  path = Tuple-path o L m

  zero_tuple : IsTuple o m (tuple_zero o m)
  zero_tuple = subst (IsTuple o m) is.zero-is (of A.zero)

  add_tuple : (a b : List E) → IsTuple o m a → IsTuple o m b → IsTuple o m (tuple_add o m a b)
  add_tuple a b ha hb = let x = tuple a ha in let y = tuple b hb in
      subst (IsTuple o m) (is.add-is x y) (of (A.◌⊕◌ x y))

  mul_tuple : (a b : List E) → IsTuple o m a → IsTuple o m b → IsTuple o m (product o m T.constants a b)
  mul_tuple a b ha hb = let x = tuple a ha in let y = tuple b hb in
      subst (IsTuple o m) (is.product-is x y) (of (A.◌⊗◌ x y))

  total-is : (n : ℕ) (f : ℕ → V) → (total R n f).0 ≡ total S n (λ i. (f i).0)
  total-is zero f = is.zero-is
  total-is (suc n) f = is.add-is (total R n f) (f n) ∙ ap (λ xs. tuple_add o m xs (f n).0) (total-is n f)

  total_tuple : (n : ℕ) (f : ℕ → List E) → ((i : ℕ) → i < n → IsTuple o m (f i)) → IsTuple o m (total S n f)
  total_tuple zero f h = zero_tuple
  total_tuple (suc n) f h = add_tuple (total S n f) (f n) (total_tuple n f (λ i l. h i (omega arith)))
      (h n (omega arith))

  -- tuples of which the first n are the given lists
  module _ (n : ℕ) (f : ℕ → List E) (h : (i : ℕ) → i < n → IsTuple o m (f i)) where
    pick : (i : ℕ) → (i < n) ⊎ (n ≤ i) → V
    pick i (inl l) = tuple (f i) (h i l)
    pick i (inr g) = A.zero

    pick-is : (i : ℕ) (d : (i < n) ⊎ (n ≤ i)) → i < n → (pick i d).0 ≡ f i
    unfolding pick
    pick-is i (inl l) _ = refl
    pick-is i (inr g) l = absurd (omega (arith, g, l))

    picked : ℕ → V
    picked i = pick i (cases_lt i n)

    picked-is : (i : ℕ) → i < n → (picked i).0 ≡ f i
    unfolding picked
    picked-is i l = pick-is i (cases_lt i n) l

    total-picked : (total R n picked).0 ≡ total S n f
    total-picked = total-is n picked
        ∙ sum_by_ops_congr S.zero S.add n (λ i. (picked i).0) f picked-is

  -- sets of lists, and what they are of elements
  module _ (I J : List E → Type 0) (wI : Within I (IsTuple o m)) (wJ : Within J (IsTuple o m)) (M N : V → Type 0)
      (e : Same (λ (x : V). I x.0) M) (f : Same (λ (x : V). J x.0) N) where
    abbrev inJ : (a : List E) (x : V) → a ≡ x.0 → N x → J a
    inJ a x p h = subst J (sym p) (f.1 x h)

    pub ideal_to : sets.IsIdeal S I J → sets.IsIdeal R M N
    ideal_to h = record {
      inside = λ x j. e.0 x (h.inside x.0 (f.1 x j));
      zero_in = f.0 A.zero (subst J (sym is.zero-is) h.zero_in);
      add_in = λ x y p q. f.0 (A.◌⊕◌ x y) (subst J (sym (is.add-is x y)) (h.add_in x.0 y.0 (f.1 x p) (f.1 y q)));
      left = λ a x l p. f.0 (A.◌⊗◌ a x) (subst J (sym (is.product-is a x)) (h.left a.0 x.0 (e.1 a l) (f.1 x p)));
      right = λ a x l p. f.0 (A.◌⊗◌ x a) (subst J (sym (is.product-is x a)) (h.right a.0 x.0 (e.1 a l) (f.1 x p)));
    }

    pub ideal_from : sets.IsIdeal R M N → sets.IsIdeal S I J
    ideal_from h = record {
      inside = λ a j. let x = tuple a (wJ a j) in e.1 x (h.inside x (f.0 x j));
      zero_in = subst J is.zero-is (f.1 A.zero h.zero_in);
      add_in = λ a b p q. let x = tuple a (wJ a p) in let y = tuple b (wJ b q) in
          subst J (is.add-is x y) (f.1 (A.◌⊕◌ x y) (h.add_in x y (f.0 x p) (f.0 y q)));
      left = λ a b l p. let x = tuple a (wI a l) in let y = tuple b (wJ b p) in
          subst J (is.product-is x y) (f.1 (A.◌⊗◌ x y) (h.left x y (e.0 x l) (f.0 y p)));
      right = λ a b l p. let x = tuple a (wI a l) in let y = tuple b (wJ b p) in
          subst J (is.product-is y x) (f.1 (A.◌⊗◌ y x) (h.right x y (e.0 x l) (f.0 y p)));
    }

    module _ (p : Elem o) (π : E) (p_is : p.0 ≡ π) where
      pub multiple_to : (x : V) → sets.Multiple S (tuple_scale o m) π I x.0 → sets.Multiple R A.◌•◌ p M x
      multiple_to x h =
          let y = tuple h.0 (wI h.0 h.1) in
          (y, e.0 y h.1, path x (A.◌•◌ p y) (h.2 ∙ ap (λ c. tuple_scale o m c h.0) (sym p_is) ∙ sym (is.scale-is p y)))

      pub multiple_from : (x : V) → sets.Multiple R A.◌•◌ p M x → sets.Multiple S (tuple_scale o m) π I x.0
      multiple_from x h =
          let y = h.0 in
          (y.0, e.1 y h.1, ap (λ (z : V). z.0) h.2 ∙ is.scale-is p y ∙ ap (λ c. tuple_scale o m c y.0) p_is)

    pub power_from : (k : ℕ) (x : V) → sets.Power R N k x → sets.Power S J k x.0
    power_from zero x h = f.1 x h
    power_from (suc k) x h = record {
      size = h.size;
      term = λ i. (h.term i).0;
      each = λ i l. let w = h.each i l in
          (w.0.0, w.1.0, power_from k w.0 w.2, f.1 w.1 w.3, ap (λ (z : V). z.0) w.4 ∙ is.product-is w.0 w.1);
      gives = ap (λ (z : V). z.0) h.gives ∙ total-is h.size h.term;
    }

    pub power_tuple : (k : ℕ) → Within (sets.Power S J k) (IsTuple o m)
    power_tuple zero a h = wJ a h
    power_tuple (suc k) a h = subst (IsTuple o m) (sym h.gives) (total_tuple h.size h.term (λ i l.
        let w = h.each i l in
        subst (IsTuple o m) (sym w.4) (mul_tuple w.0 w.1 (power_tuple k w.0 w.2) (wJ w.1 w.3))))

    pub power_to : (k : ℕ) (x : V) → sets.Power S J k x.0 → sets.Power R N k x
    power_to zero x h = f.0 x h
    power_to (suc k) x h =
        let tup : (i : ℕ) → i < h.size → IsTuple o m (h.term i) = λ i l.
        let w = h.each i l in
        subst (IsTuple o m) (sym w.4) (mul_tuple w.0 w.1 (power_tuple k w.0 w.2) (wJ w.1 w.3)) in
        record {
          size = h.size;
          term = picked h.size h.term tup;
          each = λ i l.
              let w = h.each i l in
              let y = tuple w.0 (power_tuple k w.0 w.2) in
              let z = tuple w.1 (wJ w.1 w.3) in (
                y,
                z,
                power_to k y w.2,
                f.0 z w.3,
                path (picked h.size h.term tup i) (A.◌⊗◌ y z)
                    (picked-is h.size h.term tup i l ∙ w.4 ∙ sym (is.product-is y z)),
              );
          gives = path x (total R h.size (picked h.size h.term tup))
              (h.gives ∙ sym (total-picked h.size h.term tup));
        }

    pub left_to : (x : V) → sets.LeftOrder S J x.0 → sets.LeftOrder R N x
    left_to x h y j = f.0 (A.◌⊗◌ x y) (subst J (sym (is.product-is x y)) (h y.0 (f.1 y j)))

    pub left_from : (x : V) → sets.LeftOrder R N x → sets.LeftOrder S J x.0
    left_from x h b j = let y = tuple b (wJ b j) in
        subst J (is.product-is x y) (f.1 (A.◌⊗◌ x y) (h y (f.0 y j)))

    -- an ideal of elements, as one of lists
    ideal_on : (Q : V → Type 0) → sets.IsIdeal R M Q → sets.IsIdeal S I (On o L m Q)
    ideal_on Q h = record {
      inside = λ a p. let x = tuple a p.0 in e.1 x (h.inside x p.1);
      zero_in = to_on o L m Q A.zero (tuple_zero o m) is.zero-is h.zero_in;
      add_in = λ a b p q. let x = tuple a p.0 in let y = tuple b q.0 in
          to_on o L m Q (A.◌⊕◌ x y) (tuple_add o m a b) (is.add-is x y) (h.add_in x y p.1 q.1);
      left = λ c a l p. let x = tuple c (wI c l) in let y = tuple a p.0 in
          to_on o L m Q (A.◌⊗◌ x y) (product o m T.constants c a) (is.product-is x y) (h.left x y (e.0 x l) p.1);
      right = λ c a l p. let x = tuple c (wI c l) in let y = tuple a p.0 in
          to_on o L m Q (A.◌⊗◌ y x) (product o m T.constants a c) (is.product-is y x) (h.right x y (e.0 x l) p.1);
    }

    pub simple_to : sets.SimpleQuotient S I J → sets.SimpleQuotient R M N
    simple_to h = record {
      proper = λ w. h.proper (λ a i. let x = tuple a (wI a i) in f.1 x (w x (e.0 x i)));
      nothing_between = λ t Q above.
          let s = test_same o L m t in
          ⊎_elim
          (λ (w : Within (Test (test o L m t)) J). inl (λ x tx.
          f.0 x (w x.0 (s.0 x.0 (to_on o L m (Test t) x x.0 refl tx)))))
          (λ (w : Within I (Test (test o L m t))). inr (λ x i.
          from_on o L m (Test t) x (s.1 x.0 (w x.0 (e.1 x i)))))
          (h.nothing_between (test o L m t)
          (ideal_same S I (On o L m (Test t)) (Test (test o L m t)) s (ideal_on (Test t) Q))
          (λ a j. let x = tuple a (wJ a j) in s.0 a (wJ a j, above x (f.0 x j))));
    }

  -- the sets of the elements of sets of lists
  abbrev At : (List E → Type 0) → V → Type 0
  At I x = I x.0

  abbrev same : (I : List E → Type 0) → Same (At I) (At I)
  same I = ((λ x i. i), (λ x i. i))

  module _ (I J : List E → Type 0) (wI : Within I (IsTuple o m)) (wJ : Within J (IsTuple o m)) (M N : V → Type 0)
      (e : Same (λ (x : V). I x.0) M) (f : Same (λ (x : V). J x.0) N) where
    pub simple_from : sets.SimpleQuotient R M N → sets.SimpleQuotient S I J
    simple_from h = record {
      proper = λ w. h.proper (λ x i. f.0 x (w x.0 (e.1 x i)));
      nothing_between = λ t Q above.
          let t' : V → Bool = λ x. t x.0 in
          let wQ : Within (Test t) (IsTuple o m) = λ a q. wI a (Q.inside a q) in
          ⊎_elim
          (λ (w : Within (Test t') N). inl (λ a q. let x = tuple a (wQ a q) in f.1 x (w x q)))
          (λ (w : Within M (Test t')). inr (λ a i. let x = tuple a (wI a i) in w x (e.0 x i)))
          (h.nothing_between t' (ideal_to I (Test t) wI wQ M (Test t') e (same (Test t)) Q)
          (λ x j. above x.0 (f.1 x j)));
    }

    -- the radical by lists, where it is known to be one by elements
    module _ (p : Elem o) (π : E) (p_is : p.0 ≡ π) where
      pub radical_from : sets.Radical R A.◌•◌ p M N → sets.Radical S (tuple_scale o m) π I J
      radical_from h = record {
        ideal = ideal_from I J wI wJ M N e f h.ideal;
        over = λ a g.
            let i = g.1 in
            let y = tuple g.0 (wI g.0 i) in
            let z = A.◌•◌ p y in
            let q : z.0 ≡ a = is.scale-is p y ∙ ap (λ c. tuple_scale o m c g.0) p_is ∙ sym g.2 in
            subst J q (f.1 z (h.over z (y, e.0 y i, refl)));
        exponent = h.exponent;
        falls = λ a g.
            let x = tuple a (power_tuple I J wI wJ M N e f h.exponent a g) in
            multiple_from I J wI wJ M N e f p π p_is x
            (h.falls x (power_to I J wI wJ M N e f h.exponent x g));
        largest = λ t k Q over falls a q.
            let t' : V → Bool = λ x. t x.0 in
            let wQ : Within (Test t) (IsTuple o m) = λ a q. wI a (Q.inside a q) in
            let x = tuple a (wQ a q) in
            f.1 x (h.largest t' k (ideal_to I (Test t) wI wQ M (Test t') e (same (Test t)) Q)
            (λ y g. over y.0 (multiple_from I J wI wJ M N e f p π p_is y g))
            (λ y g. multiple_to I J wI wJ M N e f p π p_is y
            (falls y.0 (power_from I (Test t) wI wQ M (Test t') e (same (Test t)) k y g))) x q);
      }
