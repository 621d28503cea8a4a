-- An automorphism of the field that is its own inverse carries an algebra to that with the images of its constants.
use Rattle.std.specs.Prelude.{◌≡◌, ℕ, ◌+◌, ◌*◌, List}
use Rattle.std.specs.List.{All}
use Rattle.std.proofs.Common.{sym, ◌∙◌, ap, subst}
use Rattle.theory_rings.specs.Ops.{Ops, IsElem, FieldLaws}
use Rattle.theory_rings.specs.Sum.{sum_of, at}
use Rattle.theory_rings.proofs.Rings.Elements.{at-elem, sum_of-elem, sum_of_congr}
use Rattle.theory_spaces.specs.Tuples.{IsTuple, constant}
use Rattle.theory_spaces.proofs.Tuples.Tuples.{IsTuple-table}
use Rattle.theory_spaces.proofs.Tuples.TupleProducts.{IsTuple-product, IsTuple-basis}
use Rattle.theory_tables.specs.Structure.{Structure, IsOver, IsElement, IsAssociative, product_of, basis_of}
use Rattle.theory_tables.specs.Algebras.{IsIdentity, IsCentral}
use Rattle.theory_tables.specs.Traces.{trace, InTraceRadical, IsNondegenerate}
use Rattle.theory_swaps.specs.Involutions.{IsInvolution, image, image_structure}
use Rattle.theory_swaps.specs.CarriedAlgebras.{CarriesAlgebra, InvolutionsCarryAlgebras}
use Rattle.theory_swaps.proofs.MappedTuples.{image_twice, structure_twice, at-image, tuple-image}
use Rattle.theory_swaps.proofs.MappedTuples.{s-zero, s-sum, image-zero, image-basis, image-product}

module _ {E : Type 0} (o : Ops E) (L : FieldLaws o) (s : E → E) (I : IsInvolution o s) where
  abbrev im : List E → List E
  im = image s

  -- from the images back
  back : (S : Structure E → List E → Type 0) (A : Structure E) (a : List E)
      → S (image_structure s (image_structure s A)) (im (im a)) → S A a
  back S A a x = subst (λ B. S B a) (structure_twice o L s I A)
      (subst (S (image_structure s (image_structure s A))) (image_twice o L s I a) x)

  module _ (A : Structure E) (h : IsOver o A) where
    abbrev n : ℕ
    n = A.dim

    abbrev B : Structure E
    B = image_structure s A

    pub over : IsOver o B
    over = tuple-image o L s I (n * n * n) A.constants h

    abbrev e : ℕ → List E
    e = basis_of o A

    e-tuple : (i : ℕ) → IsTuple o n (e i)
    e-tuple i = IsTuple-basis o L n A.constants h.of_elements i

    mul-tuple : (a b : List E) → IsElement o A a → IsElement o A b → IsElement o A (product_of o A a b)
    mul-tuple a b ha hb = IsTuple-product o L n A.constants h.of_elements a b ha hb

    pub product : (a b : List E) → All (IsElem o) a → All (IsElem o) b
        → im (product_of o A a b) ≡ product_of o B (im a) (im b)
    product a b ha hb = image-product o L s I n A.constants a b h.of_elements ha hb

    -- with a basis element
    left : (a : List E) (i : ℕ) → All (IsElem o) a → im (product_of o A a (e i)) ≡ product_of o B (im a) (e i)
    left a i ha = product a (e i) ha (e-tuple i).of_elements ∙ ap (product_of o B (im a)) (image-basis o L s I n i)

    right : (a : List E) (i : ℕ) → All (IsElem o) a → im (product_of o A (e i) a) ≡ product_of o B (e i) (im a)
    right a i ha = product (e i) a (e-tuple i).of_elements ha
        ∙ ap (λ x. product_of o B x (im a)) (image-basis o L s I n i)

    both : (i j : ℕ) → im (product_of o A (e i) (e j)) ≡ product_of o B (e i) (e j)
    both i j = left (e i) j (e-tuple i).of_elements ∙ ap (λ x. product_of o B x (e j)) (image-basis o L s I n i)

    associative : IsAssociative o A → IsAssociative o B
    associative a i j k li lj lk =
        let ij = product_of o A (e i) (e j) in
        let jk = product_of o A (e j) (e k) in
        ap (λ x. product_of o B x (e k)) (sym (both i j))
        ∙ sym (left ij k (mul-tuple (e i) (e j) (e-tuple i) (e-tuple j)).of_elements)
        ∙ ap im (a i j k li lj lk)
        ∙ right jk i (mul-tuple (e j) (e k) (e-tuple j) (e-tuple k)).of_elements
        ∙ ap (product_of o B (e i)) (both j k)

    identity : (a : List E) → IsIdentity o A a → IsIdentity o B (im a)
    identity a d = record {
      tuple = tuple-image o L s I n a d.tuple;
      one-mul = λ i l. sym (left a i d.tuple.of_elements) ∙ ap im (d.one-mul i l) ∙ image-basis o L s I n i;
      mul-one = λ i l. sym (right a i d.tuple.of_elements) ∙ ap im (d.mul-one i l) ∙ image-basis o L s I n i;
    }

    central : (a : List E) → IsCentral o A a → IsCentral o B (im a)
    central a c = record {
      tuple = tuple-image o L s I n a c.tuple;
      commutes = λ i l.
          sym (left a i c.tuple.of_elements) ∙ ap im (c.commutes i l) ∙ right a i c.tuple.of_elements;
    }

    -- products of lists of elements are tuples, and traces are elements
    pub product-elements : (a b : List E) → All (IsElem o) a → All (IsElem o) b → IsElement o A (product_of o A a b)
    product-elements a b ha hb =
        let c : ℕ → ℕ → ℕ → E = constant o n A.constants in
        let t : ℕ → ℕ → ℕ → E = λ k i j. o.mul (o.mul (at o a i) (at o b j)) (c i j k) in
        IsTuple-table o n (λ k. sum_of o n (λ i. sum_of o n (t k i))) (λ k _.
        sum_of-elem o L n (λ i. sum_of o n (t k i)) (λ i _. sum_of-elem o L n (t k i) (λ j _.
        L.mul-elem (o.mul (at o a i) (at o b j)) (c i j k)
        (L.mul-elem (at o a i) (at o b j) (at-elem o L a ha i) (at-elem o L b hb j))
        (at-elem o L A.constants h.of_elements ((i * n + j) * n + k)))))

    pub trace-elem : (a : List E) → IsElement o A a → IsElem o (trace o A a)
    trace-elem a ha =
        let p : ℕ → List E = λ j. product_of o A a (e j) in
        sum_of-elem o L n (λ j. at o (p j) j)
        (λ j _. at-elem o L (p j) (mul-tuple a (e j) ha (e-tuple j)).of_elements j)

    pub trace-image : (a : List E) → IsElement o A a → s (trace o A a) ≡ trace o B (im a)
    trace-image a ha =
        let p : ℕ → List E = λ j. product_of o A a (e j) in
        s-sum o L s I n (λ j. at o (p j) j)
        (λ j _. at-elem o L (p j) (mul-tuple a (e j) ha (e-tuple j)).of_elements j)
        ∙ sum_of_congr o n (λ j. s (at o (p j) j)) (λ j. at o (product_of o B (im a) (e j)) j) (λ j _.
        sym (at-image o L s I (p j) j) ∙ ap (λ x. at o x j) (left a j ha.of_elements))

    radical : (a : List E) → InTraceRadical o A a → InTraceRadical o B (im a)
    radical a r = record {
      tuple = tuple-image o L s I n a r.tuple;
      orthogonal = λ b t.
          let b' = im b in
          let t' = tuple-image o L s I n b t in
          ap (λ x. trace o B (product_of o B (im a) x)) (sym (image_twice o L s I b))
          ∙ ap (trace o B) (sym (product a b' r.tuple.of_elements t'.of_elements))
          ∙ sym (trace-image (product_of o A a b') (mul-tuple a b' r.tuple t')) ∙ ap s (r.orthogonal b' t')
          ∙ s-zero o L s I;
    }

  nondegenerate : (A : Structure E) → IsOver o A → IsNondegenerate o A → IsNondegenerate o (image_structure s A)
  nondegenerate A h f a r =
      let B = image_structure s A in
      sym (image_twice o L s I a)
      ∙ ap im (f (im a) (subst (λ X. InTraceRadical o X (im a)) (structure_twice o L s I A)
      (radical B (over A h) a r)))
      ∙ image-zero o L s I A.dim

  pub carries_algebra : (A : Structure E) → IsOver o A → CarriesAlgebra o s A
  carries_algebra A h =
      let B = image_structure s A in
      let hB = over A h in
      record {
        over = hB;
        product = λ a b ha hb. product A h a b ha.of_elements hb.of_elements;
        trace = trace-image A h;
        associative = (associative A h, λ a. back (λ X _. IsAssociative o X) A A.constants (associative B hB a));
        identity = λ a. (identity A h a, λ d. back (λ X x. IsIdentity o X x) A a (identity B hB (im a) d));
        central = λ a. (central A h a, λ d. back (λ X x. IsCentral o X x) A a (central B hB (im a) d));
        trace_form =
            (nondegenerate A h, λ a. back (λ X _. IsNondegenerate o X) A A.constants (nondegenerate B hB a));
      }

pub involutions_carry_algebras : {E : Type 0} (o : Ops E) (L : FieldLaws o) (s : E → E) → InvolutionsCarryAlgebras o s
involutions_carry_algebras o L s I A h = carries_algebra o L s I A h
