-- The coordinates of products in a basis of rows over one denominator, by an inverse of the rows over another.
use Rattle.std.specs.Prelude.{◌≡◌, ◌≢◌, ◌<◌, ℕ, [], ◌∷◌, cond, nat_eq}
use Rattle.std.proofs.Common.{refl, sym, ◌∙◌, ap, ap₂, ⊎_elim}
use Rattle.std.proofs.lemmas.Bool.{cases_eq}
use Rattle.theory_rings.specs.Ring.{FieldOn}
use Rattle.theory_rings.specs.Ops.{Ops, IsElem, FieldLaws}
use Rattle.theory_rings.specs.Elements.{Elem, Elem-path, elements}
use Rattle.theory_rings.specs.Sum.{sum_of}
use Rattle.theory_rings.proofs.Rings.Elements.{sum_of_congr, sum_of-elem}
use Rattle.theory_rings.proofs.Rings.Fields.{mul-inv, mul_left_cancel, field_mul-ne-zero}
use Rattle.theory_rings.proofs.Rings.Solver.{◌⊠◌, by_sorted, v0, v1, v2, v3, v4, var, ring4}
use Rattle.theory_tables.proofs.Rows.Sums.{mul-sum_of, sum_of-mul, sum_of_comm, sum_of-delta_mul, sums_assoc}
use Rattle.theory_tables.proofs.Rows.Terms.{cond_yes, cond_no, mul-zero, zero-mul}
use Rattle.spl_order.specs.Coordinates.{row_products, scaled_coordinate}

-- ---- products of rows

module _ {E : Type 0} (o : Ops E) (L : FieldLaws o) (n : ℕ) (x z : ℕ → ℕ → E) (c : ℕ → ℕ → ℕ → E)
    (hx : (i j : ℕ) → IsElem o (x i j)) (hz : (i j : ℕ) → IsElem o (z i j)) (hc : (i j l : ℕ) → IsElem o (c i j l)) where
  abbrev G : FieldOn (Elem o)
  G = elements o L

  abbrev inner : ℕ → ℕ → ℕ → E
  inner i b t = sum_of o n (λ a. o.mul (x i a) (c a b t))

  inner-elem : (i b t : ℕ) → IsElem o (inner i b t)
  inner-elem i b t = sum_of-elem o L n (λ a. o.mul (x i a) (c a b t))
      (λ a _. L.mul-elem (x i a) (c a b t) (hx i a) (hc a b t))

  pub row_products-elem : (i j t : ℕ) → IsElem o (row_products o n x z c i j t)
  row_products-elem i j t = sum_of-elem o L n (λ b. o.mul (z j b) (inner i b t))
      (λ b _. L.mul-elem (z j b) (inner i b t) (hz j b) (inner-elem i b t))

  -- with factors
  module _ (p q r : Elem o) where
    abbrev factor : E
    factor = o.mul (o.mul p.0 q.0) r.0

    left_term : (i j t a b : ℕ)
        → o.mul (o.mul (o.mul (x i a) p.0) (o.mul (z j b) q.0)) (o.mul (c a b t) r.0)
        ≡ o.mul (o.mul (z j b) (o.mul (x i a) (c a b t))) factor
    left_term i j t a b = ap (λ (z : Elem o). z.0)
        (by_sorted G.cring ((x i a, hx i a) ∷ p ∷ (z j b, hz j b) ∷ q ∷ (c a b t, hc a b t) ∷ r ∷ [])
        (((v0 ⊠ v1) ⊠ (v2 ⊠ v3)) ⊠ (v4 ⊠ var 5)) ((v2 ⊠ (v0 ⊠ v4)) ⊠ ((v1 ⊠ v3) ⊠ var 5)) refl)

    pub tuple_products : (i j t : ℕ)
        → sum_of o n (λ a. sum_of o n (λ b.
        o.mul (o.mul (o.mul (x i a) p.0) (o.mul (z j b) q.0)) (o.mul (c a b t) r.0)))
        ≡ o.mul (row_products o n x z c i j t) factor
    tuple_products i j t =
        let e : E = factor in
        let he : IsElem o e = L.mul-elem (o.mul p.0 q.0) r.0 (L.mul-elem p.0 q.0 p.1 q.1) r.1 in
        let f : ℕ → ℕ → E = λ a b. o.mul (z j b) (o.mul (x i a) (c a b t)) in
        let hf : (a b : ℕ) → IsElem o (f a b) = λ a b. L.mul-elem (z j b) (o.mul (x i a) (c a b t)) (hz j b)
        (L.mul-elem (x i a) (c a b t) (hx i a) (hc a b t)) in
        sum_of_congr o n
        (λ a. sum_of o n (λ b. o.mul (o.mul (o.mul (x i a) p.0) (o.mul (z j b) q.0)) (o.mul (c a b t) r.0)))
        (λ a. o.mul (sum_of o n (λ b. f a b)) e)
        (λ a _. sum_of_congr o n
        (λ b. o.mul (o.mul (o.mul (x i a) p.0) (o.mul (z j b) q.0)) (o.mul (c a b t) r.0)) (λ b. o.mul (f a b) e)
        (λ b _. left_term i j t a b) ∙ sym (sum_of-mul o L n e (λ b. f a b) he (λ b. hf a b)))
        ∙ sym (sum_of-mul o L n e (λ a. sum_of o n (λ b. f a b)) he
        (λ a. sum_of-elem o L n (λ b. f a b) (λ b _. hf a b)))
        ∙ ap (λ y. o.mul y e) (sum_of_comm o L n n f hf
        ∙ sum_of_congr o n (λ b. sum_of o n (λ a. f a b)) (λ b. o.mul (z j b) (inner i b t))
        (λ b _. sym (mul-sum_of o L n (z j b) (λ a. o.mul (x i a) (c a b t)) (hz j b)
        (λ a. L.mul-elem (x i a) (c a b t) (hx i a) (hc a b t)))))

-- ---- combinations by a row times an inverse

module _ {E : Type 0} (o : Ops E) (L : FieldLaws o) (n : ℕ) (y v : ℕ → ℕ → E) (s : E)
    (hy : (i j : ℕ) → IsElem o (y i j)) (hv : (i j : ℕ) → IsElem o (v i j)) (hs : IsElem o s)
    (left : (i j : ℕ) → i < n → j < n → sum_of o n (λ l. o.mul (y i l) (v l j)) ≡ cond (nat_eq j i) s o.zero)
    (u : ℕ → E) (hu : (t : ℕ) → IsElem o (u t)) where
  abbrev R : FieldOn (Elem o)
  R = elements o L

  abbrev row_coordinate : ℕ → E
  row_coordinate l = sum_of o n (λ t. o.mul (u t) (y t l))

  pub row_coordinate-elem : (l : ℕ) → IsElem o (row_coordinate l)
  row_coordinate-elem l = sum_of-elem o L n (λ t. o.mul (u t) (y t l))
      (λ t _. L.mul-elem (u t) (y t l) (hu t) (hy t l))

  diagonal : (t : ℕ) → t < n → sum_of o n (λ q. o.mul (u q) (cond (nat_eq t q) s o.zero)) ≡ o.mul (u t) s
  diagonal t t_in =
      sum_of_congr o n (λ q. o.mul (u q) (cond (nat_eq t q) s o.zero))
      (λ q. o.mul (cond (nat_eq q t) o.one o.zero) (o.mul (u q) s))
      (λ q _. ⊎_elim
      (λ (h : q ≡ t). ap (o.mul (u q)) (cond_yes t q s o.zero (sym h))
      ∙ sym (ap (λ z. o.mul z (o.mul (u q) s)) (cond_yes q t o.one o.zero h)
      ∙ L.one-mul (o.mul (u q) s) (L.mul-elem (u q) s (hu q) hs)))
      (λ (h : q ≡ t → ⊥). ap (o.mul (u q)) (cond_no t q s o.zero (λ z. h (sym z))) ∙ mul-zero o L (u q) (hu q)
      ∙ sym (ap (λ z. o.mul z (o.mul (u q) s)) (cond_no q t o.one o.zero h)
      ∙ zero-mul o L (o.mul (u q) s) (L.mul-elem (u q) s (hu q) hs)))
      (cases_eq q t))
      ∙ sum_of-delta_mul o L n t (λ q. o.mul (u q) s) (λ q. L.mul-elem (u q) s (hu q) hs) t_in

  -- with factors
  module _ (a d : Elem o) (e : E) (product_is : o.mul s (o.mul a.0 d.0) ≡ e) where
    right_term : (w z : Elem o) → R.◌⊗◌ (R.◌⊗◌ w a) (R.◌⊗◌ z d) ≡ R.◌⊗◌ (R.◌⊗◌ w z) (R.◌⊗◌ a d)
    right_term w z = ring4 R.cring (λ w i z d. ((w ⊠ i) ⊠ (z ⊠ d), (w ⊠ z) ⊠ (i ⊠ d))) refl w a z d

    pub row_combination : (t : ℕ) → t < n
        → sum_of o n (λ l. o.mul (o.mul (row_coordinate l) a.0) (o.mul (v l t) d.0)) ≡ o.mul (u t) e
    row_combination t t_in =
        let q : Elem o = R.◌⊗◌ a d in
        let W = row_coordinate in
        let hW = row_coordinate-elem in
        sum_of_congr o n (λ l. o.mul (o.mul (W l) a.0) (o.mul (v l t) d.0)) (λ l. o.mul (o.mul (W l) (v l t)) q.0)
        (λ l _. ap (λ (z : Elem o). z.0) (right_term (W l, hW l) (v l t, hv l t)))
        ∙ sym (sum_of-mul o L n q.0 (λ l. o.mul (W l) (v l t)) q.1 (λ l. L.mul-elem (W l) (v l t) (hW l) (hv l t)))
        ∙ ap (λ z. o.mul z q.0) (sums_assoc o L n n u y (λ l. v l t) hu hy (λ l. hv l t)
        ∙ sum_of_congr o n (λ p. o.mul (u p) (sum_of o n (λ l. o.mul (y p l) (v l t))))
        (λ p. o.mul (u p) (cond (nat_eq t p) s o.zero)) (λ p p_in. ap (o.mul (u p)) (left p t p_in t_in))
        ∙ diagonal t t_in)
        ∙ L.mul_assoc (u t) s q.0 (hu t) hs q.1
        ∙ ap (o.mul (u t)) product_is

-- ---- both

module _ {E : Type 0} (o : Ops E) (L : FieldLaws o) (n : ℕ) (x y : ℕ → ℕ → E) (c : ℕ → ℕ → ℕ → E) (g d s : E)
    (hx : (i j : ℕ) → IsElem o (x i j)) (hy : (i j : ℕ) → IsElem o (y i j)) (hc : (i j l : ℕ) → IsElem o (c i j l))
    (hg : IsElem o g) (hd : IsElem o d) (hs : IsElem o s)
    (ng : g ≢ o.zero) (nd : d ≢ o.zero) (ns : s ≢ o.zero)
    (left : (i j : ℕ) → i < n → j < n
    → sum_of o n (λ l. o.mul (y i l) (x l j)) ≡ cond (nat_eq j i) s o.zero) where
  abbrev F : FieldOn (Elem o)
  F = elements o L

  -- the products of the rows i and j
  abbrev products : ℕ → ℕ → ℕ → E
  products = row_products o n x x c

  -- times the inverse
  abbrev scaled : ℕ → ℕ → ℕ → E
  scaled = scaled_coordinate o n x y c

  abbrev pub scale : E
  scale = o.mul (o.mul g d) s

  abbrev pub coordinate : ℕ → ℕ → ℕ → E
  coordinate i j l = o.mul (scaled i j l) (o.inv scale)

  products-elem : (i j t : ℕ) → IsElem o (products i j t)
  products-elem = row_products-elem o L n x x c hx hx hc

  pub scaled-elem : (i j l : ℕ) → IsElem o (scaled i j l)
  scaled-elem i j = row_coordinate-elem o L n y x s hy hx hs left (products i j) (products-elem i j)

  scale-elem : IsElem o scale
  scale-elem = L.mul-elem (o.mul g d) s (L.mul-elem g d hg hd) hs

  pub coordinate-elem : (i j l : ℕ) → IsElem o (coordinate i j l)
  coordinate-elem i j l = L.mul-elem (scaled i j l) (o.inv scale) (scaled-elem i j l)
      (L.inv-elem scale scale-elem)

  -- ---- the factors

  abbrev eg : Elem o
  eg = (g, hg)

  abbrev ed : Elem o
  ed = (d, hd)

  abbrev es : Elem o
  es = (s, hs)

  abbrev dg : Elem o
  dg = F.inv eg

  abbrev dd : Elem o
  dd = F.inv ed

  abbrev D : Elem o
  D = F.◌⊗◌ (F.◌⊗◌ eg ed) es

  ne : (a : Elem o) → a.0 ≢ o.zero → a ≢ F.zero
  ne a h e = h (ap (λ (z : Elem o). z.0) e)

  D-ne : D ≢ F.zero
  D-ne = field_mul-ne-zero F (F.◌⊗◌ eg ed) es (field_mul-ne-zero F eg ed (ne eg ng) (ne ed nd)) (ne es ns)

  pub scale_nonzero : scale ≢ o.zero
  scale_nonzero z = D-ne (Elem-path o D F.zero z)

  -- the factor of the products of the tuples
  abbrev e : Elem o
  e = F.◌⊗◌ (F.◌⊗◌ dd dd) dg

  -- and that of the combinations
  coordinate_factor : F.◌⊗◌ es (F.◌⊗◌ (F.inv D) dd) ≡ e
  coordinate_factor = mul_left_cancel F D (F.◌⊗◌ es (F.◌⊗◌ (F.inv D) dd)) e D-ne
      (by_sorted F.cring (D ∷ es ∷ F.inv D ∷ dd ∷ []) (v0 ⊠ (v1 ⊠ (v2 ⊠ v3))) ((v0 ⊠ v2) ⊠ (v1 ⊠ v3)) refl
      ∙ ap (λ z. F.◌⊗◌ z (F.◌⊗◌ es dd)) (mul-inv F D D-ne)
      ∙ F.one-mul (F.◌⊗◌ es dd)
      ∙ sym (by_sorted F.cring (eg ∷ ed ∷ es ∷ dd ∷ dg ∷ [])
      (((v0 ⊠ v1) ⊠ v2) ⊠ ((v3 ⊠ v3) ⊠ v4)) ((v0 ⊠ v4) ⊠ ((v1 ⊠ v3) ⊠ (v2 ⊠ v3))) refl
      ∙ ap₂ (λ u v. F.◌⊗◌ u (F.◌⊗◌ v (F.◌⊗◌ es dd))) (mul-inv F eg (ne eg ng)) (mul-inv F ed (ne ed nd))
      ∙ F.one-mul (F.◌⊗◌ F.one (F.◌⊗◌ es dd)) ∙ F.one-mul (F.◌⊗◌ es dd)))

  combinations : (i j t : ℕ) → t < n
      → sum_of o n (λ l. o.mul (coordinate i j l) (o.mul (x l t) dd.0)) ≡ o.mul (products i j t) e.0
  combinations i j = row_combination o L n y x s hy hx hs left (products i j) (products-elem i j) (F.inv D) dd e.0
      (ap (λ (z : Elem o). z.0) coordinate_factor)

  -- the combination of the tuples by the coordinates is the product
  pub coordinates_combine : (i j t : ℕ) → t < n
      → sum_of o n (λ a. sum_of o n (λ b.
      o.mul (o.mul (o.mul (x i a) (o.inv d)) (o.mul (x j b) (o.inv d))) (o.mul (c a b t) (o.inv g))))
      ≡ sum_of o n (λ l. o.mul (coordinate i j l) (o.mul (x l t) (o.inv d)))
  coordinates_combine i j t t_in = tuple_products o L n x x c hx hx hc dd dd dg i j t ∙ sym (combinations i j t t_in)
