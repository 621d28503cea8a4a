-- The radical and the maximal ideals of an order, and those of an algebra of finite dimension onto which it is mapped.
use Rattle.std.specs.Prelude.{ℕ, suc, ◌*◌, ◌&&◌, Bool, IsTrue}
use Rattle.std.proofs.Common.{refl, sym, ◌∙◌, ap, subst, inl, inr, ⊎_elim}
use Rattle.std.proofs.lemmas.Bool.{and_from, and_parts}
use Rattle.theory_rings.specs.Ring.{RingOn, FieldOn}
use Rattle.theory_rings.proofs.Rings.RingLaws.{mul-zero}
use Rattle.theory_spaces.specs.Module.{AlgebraOn, module_of}
use Rattle.theory_spaces.specs.Linear.{InSpan, Basis}
use Rattle.theory_spaces.specs.Sets.{Whole}
use Rattle.theory_spaces.proofs.Linear.Spaces.{coords_of}
use Rattle.theory_spaces.proofs.Linear.SpanTests.{span_test, span_test-in, in-span_test}
use Rattle.theory_orders.specs.Orders.{IsOrder, IsIdeal, Multiple, Within, Same, Test, Radical, SimpleQuotient}
use Rattle.theory_orders.proofs.Ideals.Ideals.{ideal_same, whole}
use Rattle.theory_radical.specs.Ideal.{ProductsVanish, IsNilpotentIdeal, IsLargestNilpotentIdeal}
use Rattle.theory_radical.specs.Ideal.{IsIdeal as IsRingIdeal}
use Rattle.theory_blocks.specs.MaximalIdeals.{IsMaximalIdeal}
use Rattle.theory_spaces.proofs.Algebras.GeneratedIdeals.{around, around_ideal, around-self, around_within}
use Rattle.theory_residue.specs.Residue.{ReductionOn, Reduced, Lifted}
use Rattle.theory_residue.proofs.Correspondence.{of_reduced, reduced_ideal, lifted_ideal, lifted_over, vanish_of_falls}
use Rattle.theory_residue.proofs.Correspondence.{falls_of_vanish}

module _ {K E V W : Type 0} {R : RingOn K} {Q : RingOn E} (A : AlgebraOn R V) (L N : V → Type 0) (O : IsOrder A L)
    (B : AlgebraOn Q W) (r : ReductionOn A L N B) (l : V → Bool) (decides : Same (Test l) L) where
  open r use {red, lift, lift_in, red-lift}

  abbrev Red : (V → Type 0) → W → Type 0
  Red = Reduced A L N B r

  abbrev Lift : (W → Type 0) → V → Type 0
  Lift = Lifted A L N B r

  -- what a test tells, as a test of what it comes from
  module _ (u : W → Bool) where
    abbrev t : V → Bool
    t x = l x && u (red x)

    from_test : Same (Lift (Test u)) (Test t)
    from_test = (
      λ x h. and_from (l x) (u (red x)) (decides.1 x h.0) h.1,
      λ x h. let p = and_parts (l x) (u (red x)) h in (decides.0 x p.0, p.1),
    )

    module _ (ideal : IsRingIdeal B.ring (Test u)) where
      t_ideal : IsIdeal A L (Test t)
      t_ideal = ideal_same A L (Lift (Test u)) (Test t) from_test (lifted_ideal A L N O B r (Test u) ideal)

      t_over : Within N (Test t)
      t_over x h = from_test.0 x (lifted_over A L N O B r (Test u) ideal x h)

      t_reduced : (w : W) → Red (Test t) w → Test u w
      t_reduced w h = subst (Test u) h.2 (from_test.1 h.0 h.1).1

      t_lift : (w : W) → Test u w → IsTrue (t (lift w))
      t_lift w s = from_test.0 (lift w) (lift_in w, subst (Test u) (sym (red-lift w)) s)

  module _ (J : V → Type 0) (I : IsIdeal A L J) (over : Within N J) where
    -- one lies in J just where it does in its image
    one_of_reduced : Red J B.one → J A.one
    one_of_reduced h = of_reduced A L N O B r J I over A.one O.one_in (subst (Red J) (sym r.map-one) h)

    pub maximal_of_simple : SimpleQuotient A L J → IsMaximalIdeal B (Red J)
    maximal_of_simple S = record {
      ideal = reduced_ideal A L N O B r J I;
      simple = record {
        proper = λ h. S.proper (whole A L J O J I (one_of_reduced (h B.one tt)));
        nothing_between = λ u H above. ⊎_elim
            (λ (w : Within (Test (t u)) J). inl (λ x s. (lift x, w (lift x) (t_lift u H x s), red-lift x)))
            (λ (w : Within L (Test (t u))). inr (λ x _. t_reduced u H x (lift x, w (lift x) (lift_in x), red-lift x)))
            (S.nothing_between (t u) (t_ideal u H)
            (λ x j. (from_test u).0 x (I.inside x j, above (red x) (x, j, refl))));
      };
    }

    pub simple_of_maximal : IsMaximalIdeal B (Red J) → SimpleQuotient A L J
    simple_of_maximal M = record {
      proper = λ h. M.simple.proper (λ w _. (lift w, h (lift w) (lift_in w), red-lift w));
      nothing_between = λ u T above.
          let s : W → Bool = λ w. u (lift w) in
          let over_T : Within N (Test u) = λ z h. above z (over z h) in
          let same : Same (Red (Test u)) (Test s) = (
            λ w h. of_reduced A L N O B r (Test u) T over_T (lift w) (lift_in w) (h.0, h.1, h.2 ∙ sym (red-lift w)),
            λ w h. (lift w, h, red-lift w),
          ) in
          ⊎_elim
          (λ (w : Within (Test s) (Red J)). inl (λ x h.
          of_reduced A L N O B r J I over x (T.inside x h) (w (red x) (same.0 (red x) (x, h, refl)))))
          (λ (w : Within Whole (Test s)). inr (λ x h.
          of_reduced A L N O B r (Test u) T over_T x h (same.1 (red x) (w (red x) tt))))
          (M.simple.nothing_between s
          (ideal_same B Whole (Red (Test u)) (Test s) same (reduced_ideal A L N O B r (Test u) T))
          (λ w j. same.0 w (j.0, above j.0 j.1, j.2)));
    }

pub vanish_more : {W : Type 0} (R : RingOn W) (J : W → Type 0) (e : ℕ) → ProductsVanish R J e
    → ProductsVanish R J (suc e)
vanish_more R J e h a g = ap (R.◌⊗◌ (a e)) (h a g) ∙ mul-zero R (a e)

module _ {K E V W : Type 0} {R : RingOn K} (k : FieldOn E) (A : AlgebraOn R V) (p : K) (L : V → Type 0)
    (O : IsOrder A L) (B : AlgebraOn k.ring W)
    (r : ReductionOn A L (Multiple A p L) B) (d : ℕ) (D : Basis (module_of B) d) (l : V → Bool)
    (decides : Same (Test l) L)
    (J : V → Type 0) (I : IsIdeal A L J) (over : Within (Multiple A p L) J) where
  open r use {red, lift, lift_in, red-lift}

  abbrev N : V → Type 0
  N = Multiple A p L

  abbrev RedJ : W → Type 0
  RedJ = Reduced A L N B r J

  pub largest_of_radical : Radical A p L J → IsLargestNilpotentIdeal B RedJ
  largest_of_radical H = record {
    nilpotent = record {
      ideal = reduced_ideal A L N O B r J I;
      exponent = suc H.exponent;
      vanishes = vanish_of_falls A L N O B r J I H.exponent H.falls;
    };
    largest = λ n g nil w s.
        let MB = module_of B in
        let C = coords_of MB d D in
        let test = span_test k MB d C n g in
        let same : Same (InSpan MB n g) (Test test) = (in-span_test k MB d C n g, span_test-in k MB d C n g) in
        let H' = ideal_same B Whole (InSpan MB n g) (Test test) same nil.ideal in
        let u = t A L N O B r l decides test in
        let IT = t_ideal A L N O B r l decides test H' in
        let below : (y : W) → Reduced A L N B r (Test u) y → InSpan MB n g y =
        λ y h. same.1 y (t_reduced A L N O B r l decides test H' y h) in
        let inside = H.largest u nil.exponent IT (t_over A L N O B r l decides test H')
        (falls_of_vanish A L N O B r (Test u) IT nil.exponent
        (vanish_more B.ring (Reduced A L N B r (Test u)) nil.exponent (λ a h. nil.vanishes a (λ i. below (a i) (h i)))))
        in
        (lift w, inside (lift w) (t_lift A L N O B r l decides test H' w (same.0 w s)), red-lift w);
  }

  pub radical_of_largest : IsLargestNilpotentIdeal B RedJ → Radical A p L J
  radical_of_largest H = record {
    ideal = I;
    over = over;
    exponent = H.nilpotent.exponent;
    falls = falls_of_vanish A L N O B r J I H.nilpotent.exponent
        (vanish_more B.ring RedJ H.nilpotent.exponent H.nilpotent.vanishes);
    largest = λ u e IT _ falls x ux.
        let y = red x in
        let below = around_within B d D y (Reduced A L N B r (Test u)) (reduced_ideal A L N O B r (Test u) IT)
        (x, ux, refl) in
        let nil : IsNilpotentIdeal B.ring (InSpan (module_of B) (d * d) (around B d D y)) = record {
          ideal = around_ideal B d D y;
          exponent = suc e;
          vanishes = λ a h. vanish_of_falls A L N O B r (Test u) IT e falls a (λ i. below (a i) (h i));
        } in
        of_reduced A L N O B r J I over x (IT.inside x ux)
        (H.largest (d * d) (around B d D y) nil y (around-self B d D y));
  }
