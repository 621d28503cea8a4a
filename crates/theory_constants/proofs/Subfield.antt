-- Algebras by structure constants over a field contained in another.
use Rattle.std.specs.Prelude.{◌≡◌, ◌<◌, ℕ, zero, suc, ◌+◌, ◌*◌, ◌==◌, Bool, true, false, List, cond}
use Rattle.std.proofs.Common.{refl, sym, ◌∙◌, ap, ap₂, ⊎_elim}
use Rattle.theory_rings.specs.Ring.{FieldOn}
use Rattle.theory_rings.specs.Ops.{Ops, IsElem, FieldLaws}
use Rattle.theory_rings.specs.Elements.{Elem, Elem-path, elements}
use Rattle.theory_rings.specs.Sum.{sum_of, at}
use Rattle.theory_rings.proofs.Sums.Lists.{table_congr}
use Rattle.theory_rings.proofs.Rings.Elements.{at-elem, sum_of-elem, sum_of_congr}
use Rattle.theory_rings.proofs.Rings.Solver.{◌⊞◌, minus, ring2}
use Rattle.theory_rings.proofs.Rings.ZeroTests.{eq_zero_or}
use Rattle.theory_spaces.specs.Tuples.{IsTuple, basis, constant, product}
use Rattle.theory_spaces.proofs.Matrices.PairIndex.{pair-lt}
use Rattle.theory_spaces.proofs.Tuples.Tuples.{at-table, IsTuple-table, IsTuple-ext}
use Rattle.theory_spaces.proofs.Tuples.TupleProducts.{IsTuple-product, IsTuple-basis}
use Rattle.theory_tables.specs.Structure.{Structure, IsOver}
use Rattle.theory_tables.proofs.Rows.Terms.{mul-zero}
use Rattle.theory_constants.specs.Subfield.{IsFieldMap, images, extended, KeepsByExtension, ExtensionLaw}

module _ {E R : Type 0} (o : Ops E) (L : FieldLaws o) (r : Ops R) (N : FieldLaws r) (f : E → R)
    (m : IsFieldMap o r f) where
  pub map-sum_of : (n : ℕ) (g : ℕ → E) → ((i : ℕ) → IsElem o (g i)) → f (sum_of o n g) ≡ sum_of r n (λ i. f (g i))
  map-sum_of zero g h = m.map-zero
  map-sum_of (suc n) g h = m.map-add (sum_of o n g) (g n) (sum_of-elem o L n g (λ i _. h i)) (h n)
      ∙ ap (λ x. r.add x (f (g n))) (map-sum_of n g h)

  -- an element that becomes 0 is 0
  zero_of_map : (x : E) → IsElem o x → f x ≡ r.zero → x ≡ o.zero
  zero_of_map x hx e = ⊎_elim
      (λ z. ap (λ (y : Elem o). y.0) z)
      (λ d. absurd (N.one-nonzero (sym (ap f (L.inv-mul x hx (λ z. d (Elem-path o (x, hx) (elements o L).zero z)))
      ∙ m.map-one)
      ∙ m.map-mul (o.inv x) x (L.inv-elem x hx) hx ∙ ap (r.mul (f (o.inv x))) e
      ∙ mul-zero r N (f (o.inv x)) (m.map-elem (o.inv x) (L.inv-elem x hx)))))
      (eq_zero_or (elements o L).zero_test (x, hx))

  pub map-injective : (x y : E) → IsElem o x → IsElem o y → f x ≡ f y → x ≡ y
  map-injective x y hx hy e =
      let F : FieldOn (Elem o) = elements o L in
      let hn = L.neg-elem y hy in
      let gone : o.add x (o.neg y) ≡ o.zero = zero_of_map (o.add x (o.neg y)) (L.add-elem x (o.neg y) hx hn)
      (m.map-add x (o.neg y) hx hn ∙ ap (λ z. r.add z (f (o.neg y))) e ∙ sym (m.map-add y (o.neg y) hy hn)
      ∙ ap f (L.add_comm y (o.neg y) hy hn ∙ L.neg-add y hy) ∙ m.map-zero) in
      ap (λ (z : Elem o). z.0) (ring2 F.cring (λ a b. (a, a ⊞ minus b ⊞ b)) refl (x, hx) (y, hy))
      ∙ ap (λ z. o.add z y) gone ∙ L.zero-add y hy

  module _ (n : ℕ) where
    pub images-tuple : (a : List E) → IsTuple o n a → IsTuple r n (images o r f n a)
    images-tuple a ha =
        IsTuple-table r n (λ k. f (at o a k)) (λ k _. m.map-elem (at o a k) (at-elem o L a ha.of_elements k))

    pub images-at : (a : List E) (k : ℕ) → k < n → at r (images o r f n a) k ≡ f (at o a k)
    images-at a k l = at-table r n (λ k. f (at o a k)) k l

    images-injective : (a b : List E) → IsTuple o n a → IsTuple o n b → images o r f n a ≡ images o r f n b → a ≡ b
    images-injective a b ha hb e = IsTuple-ext o n a b ha hb (λ k l.
        map-injective (at o a k) (at o b k) (at-elem o L a ha.of_elements k) (at-elem o L b hb.of_elements k)
        (sym (images-at a k l) ∙ ap (λ v. at r v k) e ∙ images-at b k l))

    images-basis : (i : ℕ) → images o r f n (basis o n i) ≡ basis r n i
    images-basis i = table_congr n (λ k. f (at o (basis o n i) k)) (λ k. cond (k == i) r.one r.zero) (λ k l.
        ap f (at-table o n (λ k. cond (k == i) o.one o.zero) k l) ∙ go (k == i))
      where
        go : (b : Bool) → f (cond b o.one o.zero) ≡ cond b r.one r.zero
        go true = m.map-one
        go false = m.map-zero

  module _ (A : Structure E) (over : IsOver o A) where
    abbrev n : ℕ
    n = A.dim

    abbrev cs : List E
    cs = A.constants

    abbrev ds : List R
    ds = images o r f (n * n * n) cs

    abbrev B : Structure R
    B = extended o r f A

    abbrev p : List E → List E → List E
    p a b = product o n cs a b

    abbrev q : List R → List R → List R
    q a b = product r n ds a b

    abbrev image : List E → List R
    image a = images o r f n a

    product-tuple : (a b : List E) → IsTuple o n a → IsTuple o n b → IsTuple o n (p a b)
    product-tuple = IsTuple-product o L n cs over.of_elements

    basis-tuple : (i : ℕ) → IsTuple o n (basis o n i)
    basis-tuple = IsTuple-basis o L n cs over.of_elements

    constant-elem : (i j k : ℕ) → IsElem o (constant o n cs i j k)
    constant-elem i j k = at-elem o L cs over.of_elements ((i * n + j) * n + k)

    constant-image : (i j k : ℕ) → i < n → j < n → k < n → constant r n ds i j k ≡ f (constant o n cs i j k)
    constant-image i j k hi hj hk = images-at (n * n * n) cs ((i * n + j) * n + k)
        (pair-lt (n * n) n (i * n + j) k (pair-lt n n i j hi hj) hk)

    product-images : (a b : List E) → IsTuple o n a → IsTuple o n b → q (image a) (image b) ≡ image (p a b)
    product-images a b ha hb =
        let x = at-elem o L a ha.of_elements in
        let y = at-elem o L b hb.of_elements in
        let g : ℕ → ℕ → ℕ → E = λ k i j. o.mul (o.mul (at o a i) (at o b j)) (constant o n cs i j k) in
        let h : ℕ → ℕ → ℕ → R = λ k i j.
        r.mul (r.mul (at r (image a) i) (at r (image b) j)) (constant r n ds i j k) in
        let ab : (i j : ℕ) → IsElem o (o.mul (at o a i) (at o b j)) =
        λ i j. L.mul-elem (at o a i) (at o b j) (x i) (y j) in
        let g_in : (k i j : ℕ) → IsElem o (g k i j) =
        λ k i j. L.mul-elem (o.mul (at o a i) (at o b j)) (constant o n cs i j k) (ab i j) (constant-elem i j k) in
        let G : ℕ → E = λ k. sum_of o n (λ i. sum_of o n (g k i)) in
        table_congr n (λ k. sum_of r n (λ i. sum_of r n (h k i))) (λ k. f (at o (p a b) k)) (λ k hk.
        sum_of_congr r n (λ i. sum_of r n (h k i)) (λ i. f (sum_of o n (g k i))) (λ i hi.
        sum_of_congr r n (h k i) (λ j. f (g k i j)) (λ j hj.
        ap₂ r.mul (ap₂ r.mul (images-at n a i hi) (images-at n b j hj)
        ∙ sym (m.map-mul (at o a i) (at o b j) (x i) (y j))) (constant-image i j k hi hj hk)
        ∙ sym (m.map-mul (o.mul (at o a i) (at o b j)) (constant o n cs i j k) (ab i j) (constant-elem i j k)))
        ∙ sym (map-sum_of n (g k i) (g_in k i)))
        ∙ sym (map-sum_of n (λ i. sum_of o n (g k i)) (λ i. sum_of-elem o L n (g k i) (λ j _. g_in k i j)))
        ∙ ap f (sym (at-table o n G k hk)))

    -- products with a basis element
    product-basis : (a : List E) → IsTuple o n a → (i : ℕ) → q (image a) (basis r n i) ≡ image (p a (basis o n i))
    product-basis a ha i = ap (q (image a)) (sym (images-basis n i)) ∙ product-images a (basis o n i) ha (basis-tuple i)

    basis-product : (a : List E) → IsTuple o n a → (i : ℕ) → q (basis r n i) (image a) ≡ image (p (basis o n i) a)
    basis-product a ha i = ap (λ v. q v (image a)) (sym (images-basis n i))
        ∙ product-images (basis o n i) a (basis-tuple i) ha

    basis-basis : (i j : ℕ) → q (basis r n i) (basis r n j) ≡ image (p (basis o n i) (basis o n j))
    basis-basis i j = ap (q (basis r n i)) (sym (images-basis n j)) ∙ basis-product (basis o n j) (basis-tuple j) i

    keeps : KeepsByExtension o r f A
    keeps = record {
      over = images-tuple (n * n * n) cs over;
      product = product-images;
      triple = λ i j k.
          let x = basis o n i in
          let y = basis o n j in
          let z = basis o n k in
          let xy = product-tuple x y (basis-tuple i) (basis-tuple j) in
          let yz = product-tuple y z (basis-tuple j) (basis-tuple k) in
          let left : q (q (basis r n i) (basis r n j)) (basis r n k) ≡ image (p (p x y) z) =
          ap (λ v. q v (basis r n k)) (basis-basis i j) ∙ product-basis (p x y) xy k in
          let right : q (basis r n i) (q (basis r n j) (basis r n k)) ≡ image (p x (p y z)) =
          ap (q (basis r n i)) (basis-basis j k) ∙ basis-product (p y z) yz i in (
            (λ e. left ∙ ap image e ∙ sym right),
            (λ e. images-injective n (p (p x y) z) (p x (p y z)) (product-tuple (p x y) z xy (basis-tuple k))
                (product-tuple x (p y z) (basis-tuple i) yz) (sym left ∙ e ∙ right)),
          );
      identity = λ e he. (
        (λ h. record {
          tuple = images-tuple n e he;
          one-mul = λ i hi. product-basis e he i ∙ ap image (h.one-mul i hi) ∙ images-basis n i;
          mul-one = λ i hi. basis-product e he i ∙ ap image (h.mul-one i hi) ∙ images-basis n i;
        }),
        (λ h. record {
          tuple = he;
          one-mul = λ i hi. images-injective n (p e (basis o n i)) (basis o n i)
              (product-tuple e (basis o n i) he (basis-tuple i)) (basis-tuple i)
              (sym (product-basis e he i) ∙ h.one-mul i hi ∙ sym (images-basis n i));
          mul-one = λ i hi. images-injective n (p (basis o n i) e) (basis o n i)
              (product-tuple (basis o n i) e (basis-tuple i) he) (basis-tuple i)
              (sym (basis-product e he i) ∙ h.mul-one i hi ∙ sym (images-basis n i));
        }),
      );
      central = λ a ha. (
        (λ h. record {
          tuple = images-tuple n a ha;
          commutes = λ i hi. product-basis a ha i ∙ ap image (h.commutes i hi) ∙ sym (basis-product a ha i);
        }),
        (λ h. record {
          tuple = ha;
          commutes = λ i hi. images-injective n (p a (basis o n i)) (p (basis o n i) a)
              (product-tuple a (basis o n i) ha (basis-tuple i)) (product-tuple (basis o n i) a (basis-tuple i) ha)
              (sym (product-basis a ha i) ∙ h.commutes i hi ∙ basis-product a ha i);
        }),
      );
    }

module _ {E R : Type 0} (o : Ops E) (L : FieldLaws o) (r : Ops R) (N : FieldLaws r) (f : E → R) (A : Structure E) where
  pub extension_law : ExtensionLaw o r f A
  extension_law m over = keeps o L r N f m A over
