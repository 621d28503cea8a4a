-- Valuation rings, uniformizers and residue fields carried back along a homomorphism of fields.
use Rattle.std.specs.Prelude.{◌≡◌, ◌≢◌, ◌⊎◌}
use Rattle.std.proofs.Common.{sym, ◌∙◌, ap, subst, inl, inr, ⊎_elim}
use Rattle.theory_rings.specs.Ring.{FieldOn}
use Rattle.theory_rings.specs.Power.{power}
use Rattle.theory_rings.specs.Homomorphism.{IsRingHom}
use Rattle.theory_rings.proofs.Rings.RingLaws.{mul-zero}
use Rattle.theory_rings.proofs.Rings.ZeroTests.{eq_zero_or}
use Rattle.theory_rings.proofs.Rings.Fields.{mul-inv, mul_left_cancel}
use Rattle.theory_rings.proofs.Rings.Homomorphisms.{map-zero, map-neg}
use Rattle.theory_rings.proofs.Powers.Powers.{map-power}
use Rattle.theory_spaces.specs.Valuation.{ValuationOn}
use Rattle.theory_orders.specs.Uniformizer.{IsIntegral, IsUnit, UniformizerOn}
use Rattle.theory_residue.specs.Residue.{ResidueOn}

module _ {K N : Type 0} (F : FieldOn K) (G : FieldOn N) (h : K → N) (H : IsRingHom F.ring G.ring h)
    (Z : ValuationOn G) where
  infixl 70 ◌⊗◌
  open F use {◌⊗◌, inv}

  abbrev In : N → Type 0
  In = IsIntegral G Z

  pub h-zero : h F.zero ≡ G.zero
  h-zero = map-zero F.ring G.ring h H

  -- what is not 0 does not go to 0
  pub h-ne : (a : K) → a ≢ F.zero → h a ≢ G.zero
  h-ne a n e = G.one-nonzero (sym H.map-one ∙ ap h (sym (F.inv-mul a n)) ∙ H.map-mul (inv a) a
      ∙ ap (G.◌⊗◌ (h (inv a))) e ∙ mul-zero G.ring (h (inv a)))

  pub h-inv : (a : K) → a ≢ F.zero → h (inv a) ≡ G.inv (h a)
  h-inv a n = mul_left_cancel G (h a) (h (inv a)) (G.inv (h a)) (h-ne a n)
      (sym (H.map-mul a (inv a)) ∙ ap h (mul-inv F a n) ∙ H.map-one ∙ sym (mul-inv G (h a) (h-ne a n)))

  pub pulled_total : (a : K) → In (h a) ⊎ In (h (inv a))
  pulled_total a = ⊎_elim
      (λ (z : a ≡ F.zero). inl (subst In (sym (ap h z ∙ h-zero)) Z.zero_in))
      (λ (n : a ≢ F.zero). ⊎_elim
      (λ (i : In (h a)). inl i)
      (λ (i : In (G.inv (h a))). inr (subst In (sym (h-inv a n)) i))
      (Z.total (h a)))
      (eq_zero_or F.zero_test a)

  abbrev pub pulled : ValuationOn F
  pulled = record {
    integral = λ a. Z.integral (h a);
    zero_in = subst In (sym h-zero) Z.zero_in;
    one_in = subst In (sym H.map-one) Z.one_in;
    add_in = λ a b i j. subst In (sym (H.map-add a b)) (Z.add_in (h a) (h b) i j);
    mul_in = λ a b i j. subst In (sym (H.map-mul a b)) (Z.mul_in (h a) (h b) i j);
    neg_in = λ a i. subst In (sym (map-neg F.ring G.ring h H a)) (Z.neg_in (h a) i);
    total = pulled_total;
  }

  pub pulled_uniformizer : (p q : K) → p ⊗ q ≡ F.one → UniformizerOn G Z (h p) (h q) → UniformizerOn F pulled p q
  pulled_uniformizer p q e U = record {
    p_in = U.p_in;
    pq = e;
    multiple_or_unit = λ c i. ⊎_elim
        (λ (m : In (G.◌⊗◌ (h q) (h c))). inl (subst In (sym (H.map-mul q c)) m))
        (λ (u : IsUnit G Z (h c)).
        let n : c ≢ F.zero = λ z. u.0 (ap h z ∙ h-zero) in inr (n, subst In (sym (h-inv c n)) u.1))
        (U.multiple_or_unit (h c) i);
    reach = λ c. let r = U.reach (h c) in (
      r.0,
      subst In (ap (λ t. G.◌⊗◌ t (h c)) (sym (map-power F.ring G.ring h H.map-one H.map-mul p r.0))
          ∙ sym (H.map-mul (power F.ring p r.0) c)) r.1,
    );
  }

  -- the residue of the image, where the map is onto
  pub pulled_residue : {E : Type 0} (k : FieldOn E) (q : K) (back : N → K) → ((x : N) → h (back x) ≡ x)
      → ResidueOn G Z (h q) k → ResidueOn F pulled q k
  pulled_residue k q back onto D = record {
    res = λ a. D.res (h a);
    lift = λ c. back (D.lift c);
    lift_in = λ c. subst In (sym (onto (D.lift c))) (D.lift_in c);
    res-lift = λ c. ap D.res (onto (D.lift c)) ∙ D.res-lift c;
    map-one = ap D.res H.map-one ∙ D.map-one;
    map-add = λ a b i j. ap D.res (H.map-add a b) ∙ D.map-add (h a) (h b) i j;
    map-mul = λ a b i j. ap D.res (H.map-mul a b) ∙ D.map-mul (h a) (h b) i j;
    kernel = λ a i. let t = D.kernel (h a) i in (
      λ z. subst In (sym (H.map-mul q a)) (t.0 z),
      λ g. t.1 (subst In (H.map-mul q a) g),
    );
  }
