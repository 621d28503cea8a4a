-- A linear map whose kernel is an ideal keeps products, if it keeps those of vectors whose images span.
use Rattle.std.specs.Prelude.{◌≡◌, ◌<◌, ℕ}
use Rattle.std.proofs.Common.{refl, sym, ◌∙◌, ap, ap₂}
use Rattle.theory_rings.specs.Ring.{RingOn}
use Rattle.theory_rings.proofs.Rings.RingLaws.{add_cancel_left}
use Rattle.theory_spaces.specs.Module.{ModuleOn}
use Rattle.theory_spaces.specs.Linear.{comb, InSpan, IsLinear}
use Rattle.theory_spaces.specs.Space.{ProductOn}
use Rattle.theory_spaces.proofs.Linear.Modules.{map-neg, map-comb, linear_ext, linear_comp}
use Rattle.theory_spaces.proofs.Tuples.Tables.{product_left, product_right}

module _ {K V W : Type 0} {R : RingOn K} (M : ModuleOn R V) (N : ModuleOn R W) where
  -- what a linear map sends to one vector another does, if it sends to 0 what the first does
  pub same_image : (f g : V → W) → IsLinear M N f → IsLinear M N g → ((x : V) → f x ≡ N.zero → g x ≡ N.zero)
      → (x y : V) → f x ≡ f y → g x ≡ g y
  same_image f g hf hg within x y e =
      let d = M.◌⊕◌ (M.neg y) x in
      let zero_f : f d ≡ N.zero = hf.map-add (M.neg y) x ∙ ap₂ N.◌⊕◌ (map-neg M N f hf y) e ∙ N.neg-add (f y) in
      add_cancel_left N.additive (N.neg (g y)) (g x) (g y)
      (ap (λ z. N.◌⊕◌ z (g x)) (sym (map-neg M N g hg y)) ∙ sym (hg.map-add (M.neg y) x) ∙ within d zero_f
      ∙ sym (N.neg-add (g y)))

  module _ (P : ProductOn M) (Q : ProductOn N) (f : V → W) (h : IsLinear M N f) (n : ℕ) (lifts : ℕ → V)
      (reaches : (y : W) → InSpan N n (λ i. f (lifts i)) y)
      (left : (x y : V) → f x ≡ N.zero → f (P.◌⊗◌ y x) ≡ N.zero)
      (right : (x y : V) → f x ≡ N.zero → f (P.◌⊗◌ x y) ≡ N.zero)
      (agrees : (i j : ℕ) → i < n → j < n → f (P.◌⊗◌ (lifts i) (lifts j)) ≡ Q.◌⊗◌ (f (lifts i)) (f (lifts j))) where
    -- a combination of the lifts with the same image
    abbrev pub lift : W → V
    lift y = comb M n (reaches y).weights lifts

    pub map-lift : (y : W) → f (lift y) ≡ y
    map-lift y = map-comb M N f h n (reaches y).weights lifts ∙ sym (reaches y).combines

    in_lifts : (y : W) → InSpan M n lifts (lift y)
    in_lifts y = record { weights = (reaches y).weights; combines = refl }

    map_right : (y : V) → IsLinear M N (λ x. f (P.◌⊗◌ x y))
    map_right y = linear_comp M M N f (λ x. P.◌⊗◌ x y) h (product_right M P y)

    map_left : (x : V) → IsLinear M N (λ y. f (P.◌⊗◌ x y))
    map_left x = linear_comp M M N f (λ y. P.◌⊗◌ x y) h (product_left M P x)

    -- the products of combinations of the lifts
    keeps_lift : (i : ℕ) → i < n → (z : W) → f (P.◌⊗◌ (lifts i) (lift z)) ≡ Q.◌⊗◌ (f (lifts i)) (f (lift z))
    keeps_lift i i_in z = linear_ext M N (λ y. f (P.◌⊗◌ (lifts i) y)) (λ y. Q.◌⊗◌ (f (lifts i)) (f y))
        (map_left (lifts i)) (linear_comp M N N (λ y. Q.◌⊗◌ (f (lifts i)) y) f (product_left N Q (f (lifts i))) h)
        n lifts (λ j j_in. agrees i j i_in j_in) (lift z) (in_lifts z)

    keeps_lifts : (y z : W) → f (P.◌⊗◌ (lift y) (lift z)) ≡ Q.◌⊗◌ (f (lift y)) (f (lift z))
    keeps_lifts y z = linear_ext M N (λ x. f (P.◌⊗◌ x (lift z))) (λ x. Q.◌⊗◌ (f x) (f (lift z)))
        (map_right (lift z)) (linear_comp M N N (λ x. Q.◌⊗◌ x (f (lift z))) f (product_right N Q (f (lift z))) h)
        n lifts (λ i i_in. keeps_lift i i_in z) (lift y) (in_lifts y)

    pub keeps_products : (x y : V) → f (P.◌⊗◌ x y) ≡ Q.◌⊗◌ (f x) (f y)
    keeps_products x y =
        let u = lift (f x) in
        let v = lift (f y) in
        let same_u : f x ≡ f u = sym (map-lift (f x)) in
        let same_v : f y ≡ f v = sym (map-lift (f y)) in
        same_image f (λ z. f (P.◌⊗◌ z y)) h (map_right y) (λ z e. right z y e) x u same_u
        ∙ same_image f (λ z. f (P.◌⊗◌ u z)) h (map_left u) (λ z e. left z u e) y v same_v
        ∙ keeps_lifts (f x) (f y) ∙ ap₂ Q.◌⊗◌ (map-lift (f x)) (map-lift (f y))
