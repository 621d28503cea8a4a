-- Residue fields carried back along a homomorphism of fields, and over to a field with the same sums and products.
use Rattle.std.specs.Prelude.{◌≡◌}
use Rattle.std.proofs.Common.{sym, ◌∙◌, ap, subst}
use Rattle.theory_rings.specs.Ring.{FieldOn}
use Rattle.theory_rings.specs.Homomorphism.{IsRingHom}
use Rattle.theory_rings.proofs.Rings.Homomorphisms.{map-zero}
use Rattle.theory_spaces.specs.Valuation.{ValuationOn}
use Rattle.theory_orders.specs.Uniformizer.{IsIntegral}
use Rattle.theory_residue.specs.Residue.{ResidueOn}
use Rattle.theory_places.proofs.PulledBack.{pulled}

module _ {K V A B : Type 0} (F : FieldOn K) (G : FieldOn V) (h : K → V) (H : IsRingHom F.ring G.ring h)
    (back : V → K)
    (onto : (x : V) → h (back x) ≡ x) (Z : ValuationOn G) (u : V) (k : FieldOn A) (l : FieldOn B) (f : A → B)
    (J : IsRingHom k.ring l.ring f) (g : B → A) (f-g : (b : B) → f (g b) ≡ b)
    (f-zero : (a : A) → f a ≡ l.zero → a ≡ k.zero) (D : ResidueOn G Z u k) where
  abbrev In : V → Type 0
  In = IsIntegral G Z

  -- the map of the images
  abbrev pub carried_residue : ResidueOn F (pulled F G h H Z) (back u) l
  carried_residue = record {
    res = λ a. f (D.res (h a));
    lift = λ b. back (D.lift (g b));
    lift_in = λ b. subst In (sym (onto (D.lift (g b)))) (D.lift_in (g b));
    res-lift = λ b. ap (λ x. f (D.res x)) (onto (D.lift (g b))) ∙ ap f (D.res-lift (g b)) ∙ f-g b;
    map-one = ap (λ x. f (D.res x)) H.map-one ∙ ap f D.map-one ∙ J.map-one;
    map-add = λ a b i j. ap (λ x. f (D.res x)) (H.map-add a b) ∙ ap f (D.map-add (h a) (h b) i j)
        ∙ J.map-add (D.res (h a)) (D.res (h b));
    map-mul = λ a b i j. ap (λ x. f (D.res x)) (H.map-mul a b) ∙ ap f (D.map-mul (h a) (h b) i j)
        ∙ J.map-mul (D.res (h a)) (D.res (h b));
    kernel = λ a i.
        let t = D.kernel (h a) i in
        let e : h (F.◌⊗◌ (back u) a) ≡ G.◌⊗◌ u (h a) =
        H.map-mul (back u) a ∙ ap (λ x. G.◌⊗◌ x (h a)) (onto u) in (
          λ z. subst In (sym e) (t.0 (f-zero (D.res (h a)) z)),
          λ s. ap f (t.1 (subst In e s)) ∙ map-zero k.ring l.ring f J,
        );
  }
