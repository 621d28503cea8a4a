-- A map that is its own inverse, and on a closed set U keeps the operations of one structure as those of another,
-- carries orders, ideals, powers, left orders and radicals of sets in U.
use Rattle.std.specs.Prelude.{◌≡◌, ℕ, zero, suc, ◌<◌, Bool}
use Rattle.std.proofs.Common.{sym, ◌∙◌, ap, subst, arith, inl, inr, ⊎_elim}
use Rattle.theory_spaces.specs.Sets.{Within, Test, RingOps, total, IsOrder, IsIdeal, Product, Products}
use Rattle.theory_spaces.specs.Sets.{Power, LeftOrder, Multiple, Radical, SimpleQuotient}

module _ {V : Type 0} (f : V → V) (twice : (x : V) → f (f x) ≡ x) (U : V → Type 0) where
  pub record Keeps (S S' : RingOps V) : Type 0 where
    pub zero_in : U S.zero
    pub add_in : (x y : V) → U x → U y → U (S.add x y)
    pub mul_in : (x y : V) → U x → U y → U (S.mul x y)
    pub zero : f S.zero ≡ S'.zero
    pub add : (x y : V) → U x → U y → f (S.add x y) ≡ S'.add (f x) (f y)
    pub neg : (x : V) → U x → f (S.neg x) ≡ S'.neg (f x)
    pub mul : (x y : V) → U x → U y → f (S.mul x y) ≡ S'.mul (f x) (f y)

  -- f carries I to I', and back
  pub record Goes (I I' : V → Type 0) : Type 0 where
    pub into : (x : V) → I x → I' (f x)
    pub back : (x : V) → I' x → I (f x)

  pub goes_back : {I I' : V → Type 0} → Goes I I' → Goes I' I
  goes_back g = record { into = g.back; back = g.into }

  -- to the set of the images
  pub goes : (I : V → Type 0) → Goes I (λ x. I (f x))
  goes I = record { into = λ x i. subst I (sym (twice x)) i; back = λ x i. i }

  module _ {I I' : V → Type 0} (g : Goes I I') where
    pub pull : (x : V) → I (f x) → I' x
    pull x i = subst I' (twice x) (g.into (f x) i)

    pub push : (x : V) → I' (f x) → I x
    push x i = subst I (twice x) (g.back (f x) i)

  module _ (u : (x : V) → U x → U (f x)) (S S' : RingOps V) (K : Keeps S S') (K' : Keeps S' S) where
    -- what is in U
    within_image : {I I' : V → Type 0} → Goes I I' → Within I U → Within I' U
    within_image g w x i = subst U (twice x) (u (f x) (w (f x) (g.back x i)))

    total_in : (n : ℕ) (t : ℕ → V) → ((i : ℕ) → i < n → U (t i)) → U (total S n t)
    total_in zero t h = K.zero_in
    total_in (suc n) t h = K.add_in (total S n t) (t n) (total_in n t (λ i l. h i (omega arith))) (h n (omega arith))

    map-total : (n : ℕ) (t : ℕ → V) → ((i : ℕ) → i < n → U (t i)) → f (total S n t) ≡ total S' n (λ i. f (t i))
    map-total zero t h = K.zero
    map-total (suc n) t h =
        let below : (i : ℕ) → i < n → U (t i) = λ i l. h i (omega arith) in
        K.add (total S n t) (t n) (total_in n t below) (h n (omega arith))
        ∙ ap (λ x. S'.add x (f (t n))) (map-total n t below)

    module _ (I J : V → Type 0) (wI : Within I U) (wJ : Within J U) where
      product_in : Within (Product S I J) U
      product_in x p = subst U (sym p.4) (K.mul_in p.0 p.1 (wI p.0 p.2) (wJ p.1 p.3))

      pub products_in : Within (Products S I J) U
      products_in x p = subst U (sym p.gives) (total_in p.size p.term (λ i l. product_in (p.term i) (p.each i l)))

      module _ (I' J' : V → Type 0) (gI : Goes I I') (gJ : Goes J J') where
        product_to : (x : V) → Product S I J x → Product S' I' J' (f x)
        product_to x p = (
          f p.0,
          f p.1,
          gI.into p.0 p.2,
          gJ.into p.1 p.3,
          ap f p.4 ∙ K.mul p.0 p.1 (wI p.0 p.2) (wJ p.1 p.3),
        )

        pub products_to : (x : V) → Products S I J x → Products S' I' J' (f x)
        products_to x p = record {
          size = p.size;
          term = λ i. f (p.term i);
          each = λ i l. product_to (p.term i) (p.each i l);
          gives = ap f p.gives ∙ map-total p.size p.term (λ i l. product_in (p.term i) (p.each i l));
        }

        -- a two-sided ideal
        pub ideal_to : IsIdeal S I J → IsIdeal S' I' J'
        ideal_to d =
            let uI = within_image gI wI in
            let uJ = within_image gJ wJ in
            record {
              inside = λ x j. pull gI x (d.inside (f x) (gJ.back x j));
              zero_in = pull gJ S'.zero (subst J (sym K'.zero) d.zero_in);
              add_in = λ x y i j. pull gJ (S'.add x y)
                  (subst J (sym (K'.add x y (uJ x i) (uJ y j))) (d.add_in (f x) (f y) (gJ.back x i) (gJ.back y j)));
              left = λ a x i j. pull gJ (S'.mul a x)
                  (subst J (sym (K'.mul a x (uI a i) (uJ x j))) (d.left (f a) (f x) (gI.back a i) (gJ.back x j)));
              right = λ a x i j. pull gJ (S'.mul x a)
                  (subst J (sym (K'.mul x a (uJ x j) (uI a i))) (d.right (f a) (f x) (gI.back a i) (gJ.back x j)));
            }

    pub order_to : (one : V) (I I' : V → Type 0) → Within I U → Goes I I' → IsOrder S one I → IsOrder S' (f one) I'
    order_to one I I' w g d =
        let v = within_image g w in
        record {
          one_in = g.into one d.one_in;
          zero_in = pull g S'.zero (subst I (sym K'.zero) d.zero_in);
          add_in = λ x y i j. pull g (S'.add x y)
              (subst I (sym (K'.add x y (v x i) (v y j))) (d.add_in (f x) (f y) (g.back x i) (g.back y j)));
          neg_in = λ x i. pull g (S'.neg x) (subst I (sym (K'.neg x (v x i))) (d.neg_in (f x) (g.back x i)));
          mul_in = λ x y i j. pull g (S'.mul x y)
              (subst I (sym (K'.mul x y (v x i) (v y j))) (d.mul_in (f x) (f y) (g.back x i) (g.back y j)));
        }

    pub left_order_to : (J J' : V → Type 0) → Within J U → Goes J J' → (a : V) → U a → LeftOrder S J a
        → LeftOrder S' J' (f a)
    left_order_to J J' w g a ua d x j =
        let e = K'.mul (f a) x (u a ua) (within_image g w x j) ∙ ap (λ t. S.mul t (f x)) (twice a) in
        pull g (S'.mul (f a) x) (subst J (sym e) (d (f x) (g.back x j)))

    module _ (J : V → Type 0) (w : Within J U) where
      pub power_in : (e : ℕ) → Within (Power S J e) U
      power_in zero = w
      power_in (suc e) = products_in (Power S J e) J (power_in e) w

module _ {V : Type 0} (f : V → V) (twice : (x : V) → f (f x) ≡ x) (U : V → Type 0) (u : (x : V) → U x → U (f x)) where
  module _ (S S' : RingOps V) (K : Keeps f twice U S S') (K' : Keeps f twice U S' S) (J J' : V → Type 0)
      (w : Within J U) (w' : Within J' U) (g : Goes f twice U J J') where
    pub powers_go : (e : ℕ) → Goes f twice U (Power S J e) (Power S' J' e)
    powers_go zero = g
    powers_go (suc e) =
        let r = powers_go e in
        let a = power_in f twice U u S S' K K' J w e in
        let b = power_in f twice U u S' S K' K J' w' e in
        record {
          into = products_to f twice U u S S' K K' (Power S J e) J a w (Power S' J' e) J' r g;
          back = products_to f twice U u S' S K' K (Power S' J' e) J' b w' (Power S J e) J (goes_back f twice U r)
              (goes_back f twice U g);
        }

  module _ {T T' : Type 0} (scale : T → V → V) (scale' : T' → V → V) (p : T) (q : T')
      (there : (x : V) → U x → f (scale p x) ≡ scale' q (f x)) where
    pub multiple_to : (S S' : RingOps V) (I I' : V → Type 0) → Within I U → Goes f twice U I I' → (x : V)
        → Multiple S scale p I x → Multiple S' scale' q I' (f x)
    multiple_to S S' I I' w g x m = (f m.0, g.into m.0 m.1, ap f m.2 ∙ there m.0 (w m.0 m.1))

  module _ {T T' : Type 0} (scale : T → V → V) (scale' : T' → V → V) (p : T) (q : T')
      (there : (x : V) → U x → f (scale p x) ≡ scale' q (f x))
      (back : (x : V) → U x → f (scale' q x) ≡ scale p (f x)) (S S' : RingOps V) (K : Keeps f twice U S S')
      (K' : Keeps f twice U S' S) (I I' J J' : V → Type 0) (wI : Within I U) (wI' : Within I' U)
      (gI : Goes f twice U I I') (gJ : Goes f twice U J J') where
    pub radical_to : Radical S scale p I J → Radical S' scale' q I' J'
    radical_to r =
        let wJ : Within J U = λ x j. (let d = r.ideal in wI x (d.inside x j)) in
        let wJ' : Within J' U = within_image f twice U u S S' K K' gJ wJ in
        let m : (x : V) → Multiple S scale p I x → Multiple S' scale' q I' (f x) =
        multiple_to scale scale' p q there S S' I I' wI gI in
        let n : (x : V) → Multiple S' scale' q I' x → Multiple S scale p I (f x) =
        multiple_to scale' scale q p back S' S I' I wI' (goes_back f twice U gI) in
        record {
          ideal = ideal_to f twice U u S S' K K' I J wI wJ I' J' gI gJ r.ideal;
          over = λ x h. pull f twice U gJ x (r.over (f x) (n x h));
          exponent = r.exponent;
          falls = λ x h. subst (Multiple S' scale' q I') (twice x)
              (m (f x) (r.falls (f x) (let P = powers_go S S' K K' J J' wJ wJ' gJ r.exponent in P.back x h)));
          largest = λ t e d o l x h.
              let c : V → Bool = λ y. t (f y) in
              let gT : Goes f twice U (Test t) (Test c) = goes f twice U (Test t) in
              let wT : Within (Test t) U = λ y k. wI' y (d.inside y k) in
              let wC : Within (Test c) U = within_image f twice U u S' S K' K gT wT in
              pull f twice U gJ x (r.largest c e
              (ideal_to f twice U u S' S K' K I' (Test t) wI' wT I (Test c) (goes_back f twice U gI) gT d)
              (λ y k. o (f y) (m y k))
              (λ y k. subst (Multiple S scale p I) (twice y)
              (n (f y) (l (f y) (let P = powers_go S' S K' K (Test t) (Test c) wT wC gT e in P.back y k))))
              (f x) (gT.into x h));
        }

    -- the quotient by J is simple
    pub simple_to : Within J U → SimpleQuotient S I J → SimpleQuotient S' I' J'
    simple_to wJ r = record {
      proper = λ w. r.proper (λ x i. push f twice U gJ x (w (f x) (gI.into x i)));
      nothing_between = λ t d o.
          let c : V → Bool = λ y. t (f y) in
          let gT : Goes f twice U (Test t) (Test c) = goes f twice U (Test t) in
          let wT : Within (Test t) U = λ y k. wI' y (d.inside y k) in
          ⊎_elim
          (λ (w : Within (Test c) J). inl (λ x h. pull f twice U gJ x (w (f x) (gT.into x h))))
          (λ (w : Within I (Test c)). inr (λ x i. push f twice U gT x (w (f x) (gI.back x i))))
          (r.nothing_between c (ideal_to f twice U u S' S K' K I' (Test t) wI' wT I (Test c)
          (goes_back f twice U gI) gT d) (λ x j. o (f x) (gJ.into x j)));
    }
