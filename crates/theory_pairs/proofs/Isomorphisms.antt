-- A degree, and the polynomials by it, along an isomorphism of fields.
use Rattle.std.specs.Prelude.{◌≡◌, ℕ, ℤ, pos, ◌<ℤ◌}
use Rattle.std.proofs.Common.{refl, sym, ◌∙◌, ap, ap₂, subst, inl, inr, ⊎_elim}
use Rattle.theory_rings.specs.Ring.{RingOn, FieldOn}
use Rattle.theory_rings.specs.Homomorphism.{IsRingHom}
use Rattle.theory_rings.proofs.Rings.Homomorphisms.{map-zero, map-neg}
use Rattle.theory_rings.proofs.Sums.Sums.{sum_congr, map-sum}
use Rattle.theory_lattices.specs.Degree.{DegreeOn, DegreeBelow, HasDegree, BelowBy}
use Rattle.theory_lattices.specs.Members.{polynomial_of, PolynomialsOf}
use Rattle.theory_pairs.specs.Isomorphism.{IsRingIso, IsDegreeAlong}

module _ {K L : Type 0} (F : FieldOn K) (G : FieldOn L) (map : K → L) (I : IsRingIso F.ring G.ring map) where
  open I use {back, map-back, back-map}

  h : IsRingHom F.ring G.ring map
  h = I.hom

  zero-map : map F.zero ≡ G.zero
  zero-map = map-zero F.ring G.ring map h

  -- 0 alone goes to 0
  map-eq-zero : (a : K) → map a ≡ G.zero → a ≡ F.zero
  map-eq-zero a e = sym (back-map a) ∙ ap back (e ∙ sym zero-map) ∙ back-map F.zero

  map-ne-zero : (a : K) → (a ≡ F.zero → ⊥) → map a ≡ G.zero → ⊥
  map-ne-zero a n e = n (map-eq-zero a e)

  pub back_hom : IsRingHom G.ring F.ring back
  back_hom = record {
    map-one = ap back (sym h.map-one) ∙ back-map F.one;
    map-add = λ x y. ap back (sym (h.map-add (back x) (back y) ∙ ap₂ G.◌⊕◌ (map-back x) (map-back y)))
        ∙ back-map (F.◌⊕◌ (back x) (back y));
    map-mul = λ x y. ap back (sym (h.map-mul (back x) (back y) ∙ ap₂ G.◌⊗◌ (map-back x) (map-back y)))
        ∙ back-map (F.◌⊗◌ (back x) (back y));
  }

  back-zero : back G.zero ≡ F.zero
  back-zero = map-zero G.ring F.ring back back_hom

  module _ (X : DegreeOn G.ring) where
    abbrev Below : ℤ → K → Type 0
    Below n a = BelowBy F.zero (λ x. X.deg (map x)) n a

    up : (n : ℤ) (a : K) → Below n a → DegreeBelow X n (map a)
    up n a (inl e) = inl (ap map e ∙ zero-map)
    up n a (inr l) = inr l

    down : (n : ℤ) (a : K) → DegreeBelow X n (map a) → Below n a
    down n a (inl e) = inl (map-eq-zero a e)
    down n a (inr l) = inr l

    degree_along : DegreeOn F.ring
    degree_along = record {
      deg = λ a. X.deg (map a);
      eq_zero_or = λ a. ⊎_elim
          (λ (e : map a ≡ G.zero). inl (map-eq-zero a e))
          (λ (n : map a ≡ G.zero → ⊥). inr (λ e. n (ap map e ∙ zero-map)))
          (X.eq_zero_or (map a));
      one-ne-zero = λ e. F.one-nonzero e;
      mul-ne-zero = λ a b n m e. X.mul-ne-zero (map a) (map b) (map-ne-zero a n) (map-ne-zero b m)
          (sym (h.map-mul a b) ∙ ap map e ∙ zero-map);
      deg-mul = λ a b n m. ap X.deg (h.map-mul a b)
          ∙ X.deg-mul (map a) (map b) (map-ne-zero a n) (map-ne-zero b m);
      deg-neg = λ a. ap X.deg (map-neg F.ring G.ring map h a) ∙ X.deg-neg (map a);
      add-below = λ n a b p q. down n (F.◌⊕◌ a b)
          (let S : L → Type 0 = DegreeBelow X n in
          subst S (sym (h.map-add a b)) (X.add-below n (map a) (map b) (up n a p) (up n b q)));
    }

    pub has_degree_along : (W : DegreeOn F.ring) × IsDegreeAlong W X map
    unfolding degree_along
    has_degree_along = (degree_along, λ a. refl)

    module _ (W : DegreeOn F.ring) (along : IsDegreeAlong W X map) (P : L → Type 0) {k : Type 0} (κ : RingOn k)
        (ι : k → L) (T : ℕ → L) (O : PolynomialsOf G X P κ ι T) where
      abbrev ι' : k → K
      ι' c = back (ι c)

      abbrev T' : ℕ → K
      T' j = back (T j)

      has : (n : ℤ) (y : L) → HasDegree X n y → HasDegree W n (back y)
      has n y d = record {
        nonzero = λ e. d.nonzero (sym (map-back y) ∙ ap map e ∙ zero-map);
        degree = along (back y) ∙ ap X.deg (map-back y) ∙ d.degree;
      }

      below_up : (n : ℤ) (a : K) → DegreeBelow W n a → DegreeBelow X n (map a)
      below_up n a (inl e) = inl (ap map e ∙ zero-map)
      below_up n a (inr l) = inr (let S : ℤ → Type 0 = λ d. d <ℤ n in subst S (along a) l)

      back-polynomial : (m : ℕ) (s : ℕ → k) → back (polynomial_of G ι T m s) ≡ polynomial_of F ι' T' m s
      back-polynomial m s =
          map-sum G.monoid F.monoid back back-zero back_hom.map-add m (λ j. G.◌⊗◌ (ι (s j)) (T j))
          ∙ sum_congr F.monoid m (λ j. back (G.◌⊗◌ (ι (s j)) (T j))) (λ j. F.◌⊗◌ (ι' (s j)) (T' j))
          (λ j _. back_hom.map-mul (ι (s j)) (T j))

      pub polynomials_along : PolynomialsOf F W (λ a. P (map a)) κ ι' T'
      polynomials_along = record {
        ι-zero = ap back O.ι-zero ∙ back-zero;
        ι-degree = λ c. ⊎_elim
            (λ (e : ι c ≡ G.zero). inl (ap back e ∙ back-zero))
            (λ (d : HasDegree X (pos 0) (ι c)). inr (has (pos 0) (ι c) d))
            (O.ι-degree c);
        ι-injective = λ c e. O.ι-injective c (sym (map-back (ι c)) ∙ ap map e ∙ zero-map);
        T-degree = λ j. has (pos j) (T j) (O.T-degree j);
        expand = λ c p m l.
            let r = O.expand (map c) p m (below_up (pos m) c l) in
            (r.0, sym (back-map c) ∙ ap back r.1 ∙ back-polynomial m r.0);
        back = λ m s. subst P (sym (ap map (sym (back-polynomial m s)) ∙ map-back (polynomial_of G ι T m s)))
            (O.back m s);
      }
