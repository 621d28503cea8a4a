-- A ramified place by one algebra, and by another with the same operations.
use Rattle.std.specs.Prelude.{◌≡◌, ◌<◌, ℕ, zero, suc}
use Rattle.std.proofs.Common.{sym, ◌∙◌, ap, ap₂, subst, inl, inr, ⊎_elim}
use Rattle.std.proofs.Math.Path.{fun_ext}
use Rattle.theory_rings.specs.Ring.{FieldOn}
use Rattle.theory_spaces.specs.Module.{AlgebraOn, module_of}
use Rattle.theory_spaces.specs.Linear.{comb}
use Rattle.theory_spaces.specs.Valuation.{ValuationOn}
use Rattle.theory_spaces.specs.Sets as sets
use Rattle.theory_spaces.specs.Sets.{RingOps, Within, Same, Test, ring_ops}
use Rattle.theory_spaces.proofs.Linear.Modules.{comb_congr_right}
use Rattle.theory_orders.specs.Lattices.{Lattice}
use Rattle.theory_orders.specs.Ramified.{IsRamified}

-- ideals, the radical and simple quotients of orders with the same members
module _ {V : Type 0} (S : RingOps V) (L L' J : V → Type 0) (e : Same L L') where
  ideal_order : sets.IsIdeal S L J → sets.IsIdeal S L' J
  ideal_order h = record {
    inside = λ x j. e.0 x (h.inside x j);
    zero_in = h.zero_in;
    add_in = h.add_in;
    left = λ a x l j. h.left a x (e.1 a l) j;
    right = λ a x l j. h.right a x (e.1 a l) j;
  }

-- what is asked of a ramified order and its radical, on sets
pub record RamifiedSets {K V : Type 0} (S : RingOps V) (scale : K → V → V) (p : K) (L J : V → Type 0) : Type 0 where
  pub radical : sets.Radical S scale p L J
  pub simple : sets.SimpleQuotient S L J
  pub left_order : Within (sets.LeftOrder S J) L
  pub not_multiple : Within J (sets.Multiple S scale p L) → ⊥

module _ {K V : Type 0} (S : RingOps V) (scale : K → V → V) (p : K) (L L' J J' : V → Type 0) (e : Same L L')
    (f : Same J J') where
  power_of : (k : ℕ) → Within (sets.Power S J' k) (sets.Power S J k)
  power_of zero x h = f.1 x h
  power_of (suc k) x h = record {
    size = h.size;
    term = h.term;
    each = λ i l. let w = h.each i l in (w.0, w.1, power_of k w.0 w.2, f.1 w.1 w.3, w.4);
    gives = h.gives;
  }

  ideal_both : sets.IsIdeal S L J → sets.IsIdeal S L' J'
  ideal_both h = record {
    inside = λ x j. e.0 x (h.inside x (f.1 x j));
    zero_in = f.0 S.zero h.zero_in;
    add_in = λ x y a b. f.0 (S.add x y) (h.add_in x y (f.1 x a) (f.1 y b));
    left = λ a x l j. f.0 (S.mul a x) (h.left a x (e.1 a l) (f.1 x j));
    right = λ a x l j. f.0 (S.mul x a) (h.right a x (e.1 a l) (f.1 x j));
  }

  pub ramified_sets_same : RamifiedSets S scale p L J → RamifiedSets S scale p L' J'
  ramified_sets_same h =
      let back : Same L' L = (e.1, e.0) in
      record {
        radical = record {
          ideal = ideal_both h.radical.ideal;
          over = λ x m. f.0 x (h.radical.over x (m.0, e.1 m.0 m.1, m.2));
          exponent = h.radical.exponent;
          falls = λ x g. let m = h.radical.falls x (power_of h.radical.exponent x g) in (m.0, e.0 m.0 m.1, m.2);
          largest = λ t k i o g x s. f.0 x (h.radical.largest t k (ideal_order S L' L (Test t) back i)
              (λ x m. o x (m.0, e.0 m.0 m.1, m.2))
              (λ x y. let m = g x y in (m.0, e.1 m.0 m.1, m.2)) x s);
        };
        simple = record {
          proper = λ w. h.simple.proper (λ x l. f.1 x (w x (e.0 x l)));
          nothing_between = λ t i above. ⊎_elim
              (λ (w : Within (Test t) J). inl (λ x s. f.0 x (w x s)))
              (λ (w : Within L (Test t)). inr (λ x l. w x (e.1 x l)))
              (h.simple.nothing_between t (ideal_order S L' L (Test t) back i) (λ x j. above x (f.0 x j)));
        };
        left_order = λ a g. e.0 a (h.left_order a (λ x j. f.1 (S.mul a x) (g x (f.0 x j))));
        not_multiple = λ w. h.not_multiple (λ x j. let m = w x (f.0 x j) in (m.0, e.1 m.0 m.1, m.2));
      }

module _ {K V : Type 0} (F : FieldOn K) (Z : ValuationOn F) (p : K) (A B : AlgebraOn F.ring V)
    (zero_same : A.zero ≡ B.zero) (add_same : (x y : V) → A.◌⊕◌ x y ≡ B.◌⊕◌ x y)
    (neg_same : (x : V) → A.neg x ≡ B.neg x)
    (mul_same : (x y : V) → A.◌⊗◌ x y ≡ B.◌⊗◌ x y) (scale_same : (a : K) (x : V) → A.◌•◌ a x ≡ B.◌•◌ a x) where
  abbrev make : V → (V → V → V) → (V → V) → (V → V → V) → RingOps V
  make z a n m = record { zero = z; add = a; neg = n; mul = m }

  ops_same : ring_ops A.ring ≡ ring_ops B.ring
  ops_same = ap (λ z. make z A.◌⊕◌ A.neg A.◌⊗◌) zero_same
      ∙ ap (λ f. make B.zero f A.neg A.◌⊗◌) (fun_ext (λ x. fun_ext (λ y. add_same x y)))
      ∙ ap (λ f. make B.zero B.◌⊕◌ f A.◌⊗◌) (fun_ext (λ x. neg_same x))
      ∙ ap (λ f. make B.zero B.◌⊕◌ B.neg f) (fun_ext (λ x. fun_ext (λ y. mul_same x y)))

  scales_same : A.◌•◌ ≡ B.◌•◌
  scales_same = fun_ext (λ a. fun_ext (λ x. scale_same a x))

  comb_same : (n : ℕ) (c : ℕ → K) (v : ℕ → V) → comb (module_of A) n c v ≡ comb (module_of B) n c v
  comb_same zero c v = zero_same
  comb_same (suc n) c v = add_same (comb (module_of A) n c v) (A.◌•◌ (c n) (v n))
      ∙ ap₂ B.◌⊕◌ (comb_same n c v) (scale_same (c n) (v n))

  module _ (n : ℕ) where
    lattice_to : (v w : ℕ → V) → ((i : ℕ) → i < n → v i ≡ w i) → Within (Lattice F Z A n v) (Lattice F Z B n w)
    lattice_to v w e x h = record {
      weights = h.weights;
      passes = h.passes;
      combines = h.combines ∙ comb_same n h.weights v ∙ comb_congr_right (module_of B) n h.weights v w e;
    }

    lattice_back : (v w : ℕ → V) → ((i : ℕ) → i < n → v i ≡ w i) → Within (Lattice F Z B n w) (Lattice F Z A n v)
    lattice_back v w e x h = record {
      weights = h.weights;
      passes = h.passes;
      combines = h.combines ∙ comb_congr_right (module_of B) n h.weights w v (λ i l. sym (e i l))
          ∙ sym (comb_same n h.weights v);
    }

    pub ramified_sets : (v w v' w' : ℕ → V) → ((i : ℕ) → i < n → v i ≡ v' i) → ((i : ℕ) → i < n → w i ≡ w' i)
        → IsRamified F Z p A n v w
        → RamifiedSets (ring_ops B.ring) B.◌•◌ p (Lattice F Z B n v') (Lattice F Z B n w')
    ramified_sets v w v' w' ev ew h =
        let L = Lattice F Z A n v in
        let J = Lattice F Z A n w in
        subst (λ (sc : K → V → V). RamifiedSets (ring_ops B.ring) sc p (Lattice F Z B n v') (Lattice F Z B n w'))
        scales_same
        (subst (λ S. RamifiedSets S A.◌•◌ p (Lattice F Z B n v') (Lattice F Z B n w')) ops_same
        (ramified_sets_same (ring_ops A.ring) A.◌•◌ p L (Lattice F Z B n v') J (Lattice F Z B n w')
        (lattice_to v v' ev, lattice_back v v' ev) (lattice_to w w' ew, lattice_back w w' ew) (record {
          radical = h.radical;
          simple = h.simple;
          left_order = h.left_order.0;
          not_multiple = h.not_multiple;
        })))
