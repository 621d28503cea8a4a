-- An automorphism of the field that is its own inverse carries lattices of tuples to those of the images.
use Rattle.std.specs.Prelude.{◌≡◌, ℕ, ◌<◌, ◌≤◌, Bool, true, false, List, [], length, get_or, cond, eqb}
use Rattle.std.specs.List.{All}
use Rattle.std.proofs.Common.{sym, ◌∙◌, ap, ap₂, subst, ⊎_elim}
use Rattle.std.proofs.Math.ListN.{get_or-map}
use Rattle.std.proofs.lemmas.List.{length-map, get_or_past}
use Rattle.std.proofs.lemmas.Bool.{cases_lt}
use Rattle.std.proofs.lemmas.List.Elements.{All-nil, All-map}
use Rattle.theory_rings.specs.Ops.{Ops, IsElem, FieldLaws}
use Rattle.theory_rings.specs.Sum.{sum_of, at}
use Rattle.theory_rings.proofs.Rings.Elements.{at-elem, sum_of_congr}
use Rattle.theory_spaces.specs.Sets.{Within}
use Rattle.theory_spaces.specs.Tuples.{IsTuple}
use Rattle.theory_tables.specs.Matrix.{entry, IsMatrix}
use Rattle.theory_tables.specs.Structure.{Structure, IsOver, IsElement, product_of, tuple_ops}
use Rattle.theory_tables.specs.Traces.{trace}
use Rattle.theory_bases.specs.TupleLattices.{TupleLattice, SameTupleLattice, AreIndependentTuples, SpanOrder}
use Rattle.theory_bases.specs.TupleLattices.{AreTraceDual, IsTraceDualOfItself, trace_of_product}
use Rattle.theory_swaps.specs.Involutions.{IsInvolution, AreImages, image, images, image_structure}
use Rattle.theory_swaps.specs.CarriedLattices.{CarriesLattices, CarriesOrders}
use Rattle.theory_swaps.specs.CarriedLattices.{InvolutionsCarryLattices, InvolutionsCarryOrders}
use Rattle.theory_swaps.proofs.MappedTuples.{image_twice, images_twice, structure_twice, at-image}
use Rattle.theory_swaps.proofs.MappedTuples.{tuple-image, s-zero, s-sum}
use Rattle.theory_swaps.proofs.CarriedAlgebras.{over, product, product-elements, trace-elem, trace-image}
use Rattle.theory_swaps.proofs.CarriedAlgebras.{carries_algebra}
use Rattle.theory_swaps.proofs.CarriedSets.{keeps, keeps_back}
use Rattle.theory_swaps.proofs.MappedSets.{Goes, order_to}

pub images_are_symmetric : {E : Type 0} (o : Ops E) (s : E → E) → IsInvolution o s → (P Q : E → Type 0)
    → AreImages o s P Q → AreImages o s Q P
images_are_symmetric o s I P Q h a e =
    let r = h (s a) (I.elem a e) in (
      λ q. r.1 (subst Q (sym (I.twice a)) q),
      λ p. subst Q (I.twice a) (r.0 p),
    )

module _ {E : Type 0} (o : Ops E) (L : FieldLaws o) (s : E → E) (I : IsInvolution o s) where
  abbrev im : List E → List E
  im = image s

  abbrev ims : List (List E) → List (List E)
  ims = images s

  module _ (w : ℕ) where
    pub matrix-images : (rows : List (List E)) → IsMatrix o w rows → IsMatrix o w (ims rows)
    matrix-images rows h = All-map (IsTuple o w) im rows (λ k d l. tuple-image o L s I w (get_or rows k d) (h k d l))

    row-over : (rows : List (List E)) → IsMatrix o w rows → (i : ℕ) → All (IsElem o) (get_or rows i [])
    row-over rows h i = ⊎_elim
        (λ (l : i < length rows). let t = h i [] l in t.of_elements)
        (λ (l : length rows ≤ i).
        subst (All (IsElem o)) (sym (get_or_past rows i [] l)) (All-nil (IsElem o)))
        (cases_lt i (length rows))

    entry-elem : (rows : List (List E)) → IsMatrix o w rows → (i j : ℕ) → IsElem o (entry o rows i j)
    entry-elem rows h i j = at-elem o L (get_or rows i []) (row-over rows h i) j

    entry-images : (rows : List (List E)) (i j : ℕ) → entry o (ims rows) i j ≡ s (entry o rows i j)
    entry-images rows i j = ap (λ r. at o r j) (get_or-map im rows i []) ∙ at-image o L s I (get_or rows i []) j

    -- the image of a combination is that of the images
    sum-images : (rows : List (List E)) → IsMatrix o w rows → (c : List E) → All (IsElem o) c → (j : ℕ)
        → s (sum_of o (length rows) (λ i. o.mul (at o c i) (entry o rows i j)))
        ≡ sum_of o (length (ims rows)) (λ i. o.mul (at o (im c) i) (entry o (ims rows) i j))
    sum-images rows h c hc j =
        let t : ℕ → E = λ i. o.mul (at o c i) (entry o rows i j) in
        let u : ℕ → E = λ i. o.mul (at o (im c) i) (entry o (ims rows) i j) in
        s-sum o L s I (length rows) t
        (λ i _. L.mul-elem (at o c i) (entry o rows i j) (at-elem o L c hc i) (entry-elem rows h i j))
        ∙ sum_of_congr o (length rows) (λ i. s (t i)) u (λ i _.
        I.mul (at o c i) (entry o rows i j) (at-elem o L c hc i) (entry-elem rows h i j)
        ∙ ap₂ o.mul (sym (at-image o L s I c i)) (sym (entry-images rows i j)))
        ∙ ap (λ n. sum_of o n u) (sym (length-map rows im))

    weights-tuple : (rows : List (List E)) (c : List E) → IsTuple o (length rows) c
        → IsTuple o (length (ims rows)) (im c)
    weights-tuple rows c h = subst (λ n. IsTuple o n (im c)) (sym (length-map rows im))
        (tuple-image o L s I (length rows) c h)

    pub lattice_to : (P Q : E → Type 0) → AreImages o s P Q → (rows : List (List E)) → IsMatrix o w rows → (v : List E)
        → TupleLattice o P w rows v → TupleLattice o Q w (ims rows) (im v)
    lattice_to P Q a rows h v m = (
      tuple-image o L s I w v m.0,
      record {
        weights = im m.1.weights;
        tuple = weights-tuple rows m.1.weights m.1.tuple;
        allowed = All-map Q s m.1.weights (λ k d l.
            let x = get_or m.1.weights k d in
            (a x (m.1.tuple.of_elements k d l)).0 (m.1.allowed k d l));
        combines = λ j l. at-image o L s I v j ∙ ap s (m.1.combines j l)
            ∙ sum-images rows h m.1.weights m.1.tuple.of_elements j;
      },
    )

    pub lattice_back : (P Q : E → Type 0) → AreImages o s P Q → (rows : List (List E)) → IsMatrix o w rows
        → (v : List E) → TupleLattice o Q w (ims rows) (im v) → TupleLattice o P w rows v
    lattice_back P Q a rows h v m = subst (λ x. TupleLattice o P w rows x) (image_twice o L s I v)
        (subst (λ r. TupleLattice o P w r (im (im v))) (images_twice o L s I rows)
        (lattice_to Q P (images_are_symmetric o s I P Q a) (ims rows) (matrix-images rows h) (im v) m))

    -- a member of the lattice of the images is the image of a member
    pub lattice_from : (P Q : E → Type 0) → AreImages o s P Q → (rows : List (List E)) → IsMatrix o w rows
        → (v : List E) → TupleLattice o Q w (ims rows) v → TupleLattice o P w rows (im v)
    lattice_from P Q a rows h v m = lattice_back P Q a rows h (im v)
        (subst (TupleLattice o Q w (ims rows)) (sym (image_twice o L s I v)) m)

    pub lattice_of : (P Q : E → Type 0) → AreImages o s P Q → (rows : List (List E)) → IsMatrix o w rows
        → (v : List E) → TupleLattice o P w rows (im v) → TupleLattice o Q w (ims rows) v
    lattice_of P Q a rows h v m = subst (TupleLattice o Q w (ims rows)) (image_twice o L s I v)
        (lattice_to P Q a rows h (im v) m)

    within_to : (P Q : E → Type 0) → AreImages o s P Q → (a b : List (List E)) → IsMatrix o w a → IsMatrix o w b
        → Within (TupleLattice o P w a) (TupleLattice o P w b)
        → Within (TupleLattice o Q w (ims a)) (TupleLattice o Q w (ims b))
    within_to P Q i a b ha hb f v m = lattice_of P Q i b hb v (f (im v) (lattice_from P Q i a ha v m))

    same_to : (P Q : E → Type 0) → AreImages o s P Q → (a b : List (List E)) → IsMatrix o w a → IsMatrix o w b
        → SameTupleLattice o P w a b → SameTupleLattice o Q w (ims a) (ims b)
    same_to P Q i a b ha hb e = (within_to P Q i a b ha hb e.0, within_to P Q i b a hb ha e.1)

    pub independent_to : (rows : List (List E)) → AreIndependentTuples o w rows → AreIndependentTuples o w (ims rows)
    independent_to rows d =
        let h' = matrix-images rows d.shape in
        record {
          count = length-map rows im ∙ d.count;
          shape = h';
          independent = λ c t z i l.
              let c' = im c in
              let t' : IsTuple o (length rows) c' =
              subst (λ n. IsTuple o n c') (length-map rows im) (tuple-image o L s I (length (ims rows)) c t) in
              let e : at o c' i ≡ o.zero = d.independent c' t' (λ j k.
              ap (λ r. sum_of o (length r) (λ i. o.mul (at o c' i) (entry o r i j))) (sym (images_twice o L s I rows))
              ∙ sym (sum-images (ims rows) h' c t.of_elements j) ∙ ap s (z j k) ∙ s-zero o L s I)
              i (subst (λ n. i < n) (length-map rows im) l) in
              sym (I.twice (at o c i)) ∙ ap s (sym (at-image o L s I c i) ∙ e) ∙ s-zero o L s I;
        }

    pub carries_lattices : (P Q : E → Type 0) → AreImages o s P Q → CarriesLattices o s P Q w
    carries_lattices P Q i =
        let j = images_are_symmetric o s I P Q i in
        record {
          lattice = λ rows h v. (lattice_to P Q i rows h v, lattice_back P Q i rows h v);
          same = λ a b ha hb. (
            same_to P Q i a b ha hb,
            λ e. subst (λ x. SameTupleLattice o P w x b) (images_twice o L s I a)
                (subst (SameTupleLattice o P w (ims (ims a))) (images_twice o L s I b)
                (same_to Q P j (ims a) (ims b) (matrix-images a ha) (matrix-images b hb) e)),
          );
          independent = λ rows. (
            independent_to rows,
            λ d. subst (AreIndependentTuples o w) (images_twice o L s I rows) (independent_to (ims rows) d),
          );
        }

  module _ (A : Structure E) (h : IsOver o A) where
    abbrev n : ℕ
    n = A.dim

    abbrev B : Structure E
    B = image_structure s A

    module _ (P Q : E → Type 0) (a : AreImages o s P Q) where
      lattice_goes : (rows : List (List E)) → IsMatrix o n rows
          → Goes im (image_twice o L s I) (IsElement o A) (TupleLattice o P n rows) (TupleLattice o Q n (ims rows))
      lattice_goes rows m = record { into = lattice_to n P Q a rows m; back = lattice_from n P Q a rows m }

      order_goes : (rows : List (List E)) → SpanOrder o A P rows → SpanOrder o B Q (ims rows)
      order_goes rows d =
          let c = carries_algebra o L s I A h in
          record {
            basis = independent_to n rows d.basis;
            one = im d.one;
            is_one = (c.identity d.one).0 d.is_one;
            order = order_to im (image_twice o L s I) (IsElement o A) (tuple-image o L s I n) (tuple_ops o A)
                (tuple_ops o B) (keeps o L s I A h) (keeps_back o L s I A h) d.one (TupleLattice o P n rows)
                (TupleLattice o Q n (ims rows)) (λ x m. m.0) (lattice_goes rows (let b = d.basis in b.shape)) d.order;
          }

      -- the trace of a product
      form-image : (x y : List E) → All (IsElem o) x → All (IsElem o) y
          → trace_of_product o B (im x) (im y) ≡ s (trace_of_product o A x y)
      form-image x y hx hy = ap (trace o B) (sym (product o L s I A h x y hx hy))
          ∙ sym (trace-image o L s I A h (product_of o A x y) (product-elements o L s I A h x y hx hy))

      form-elem : (x y : List E) → All (IsElem o) x → All (IsElem o) y → IsElem o (trace_of_product o A x y)
      form-elem x y hx hy = let p = product-elements o L s I A h x y hx hy in
          trace-elem o L s I A h (product_of o A x y) p

      dual_goes : (b d : List (List E)) → IsMatrix o n b → IsMatrix o n d → AreTraceDual o A b d
          → AreTraceDual o B (ims b) (ims d)
      dual_goes b d hb hd e = record {
        pairing = λ i j li lj.
            let x = get_or b i [] in
            let y = get_or d j [] in
            ap₂ (trace_of_product o B) (get_or-map im b i []) (get_or-map im d j [])
            ∙ form-image x y (row-over n b hb i) (row-over n d hd j) ∙ ap s (e.pairing i j li lj) ∙ go (eqb i j);
      }
        where
          go : (c : Bool) → s (cond c o.one o.zero) ≡ cond c o.one o.zero
          go true = I.one
          go false = s-zero o L s I

      own_goes : (rows : List (List E)) → IsMatrix o n rows → IsTraceDualOfItself o A P rows
          → IsTraceDualOfItself o B Q (ims rows)
      own_goes rows m d = record {
        into = λ x t f. lattice_of n P Q a rows m x (d.into (im x) (tuple-image o L s I n x t) (λ y k.
            let e = f (im y) (lattice_to n P Q a rows m y k) in
            let tx = tuple-image o L s I n x t in
            (a (trace_of_product o A y (im x)) (form-elem y (im x) k.0.of_elements tx.of_elements)).1
            (subst Q (ap (trace_of_product o B (im y)) (sym (image_twice o L s I x))
            ∙ form-image y (im x) k.0.of_elements tx.of_elements) e)));
        back = λ x k y l.
            let u = lattice_from n P Q a rows m x k in
            let v = lattice_from n P Q a rows m y l in
            subst Q (sym (form-image (im y) (im x) v.0.of_elements u.0.of_elements)
            ∙ ap₂ (trace_of_product o B) (image_twice o L s I y) (image_twice o L s I x))
            ((a (trace_of_product o A (im y) (im x)) (form-elem (im y) (im x) v.0.of_elements u.0.of_elements)).0
            (d.back (im x) u (im y) v));
      }

  pub carries_orders : (A : Structure E) → IsOver o A → (P Q : E → Type 0) → AreImages o s P Q
      → CarriesOrders o s P Q A
  carries_orders A h P Q i =
      let B = image_structure s A in
      let hB = over o L s I A h in
      let j = images_are_symmetric o s I P Q i in
      record {
        order = λ rows. (
          order_goes A h P Q i rows,
          λ d. subst (λ X. SpanOrder o X P rows) (structure_twice o L s I A)
              (subst (SpanOrder o (image_structure s B) P) (images_twice o L s I rows)
              (order_goes B hB Q P j (ims rows) d)),
        );
        dual = λ b d hb hd. (
          dual_goes A h P Q i b d hb hd,
          λ e. subst (λ X. AreTraceDual o X b d) (structure_twice o L s I A)
              (subst (λ x. AreTraceDual o (image_structure s B) x d) (images_twice o L s I b)
              (subst (AreTraceDual o (image_structure s B) (ims (ims b))) (images_twice o L s I d)
              (dual_goes B hB Q P j (ims b) (ims d) (matrix-images A.dim b hb) (matrix-images A.dim d hd) e))),
        );
        own_dual = λ rows m. (
          own_goes A h P Q i rows m,
          λ d. subst (λ X. IsTraceDualOfItself o X P rows) (structure_twice o L s I A)
              (subst (IsTraceDualOfItself o (image_structure s B) P) (images_twice o L s I rows)
              (own_goes B hB Q P j (ims rows) (matrix-images A.dim rows m) d)),
        );
      }

module _ {E : Type 0} (o : Ops E) (L : FieldLaws o) (s : E → E) (P Q : E → Type 0) where
  pub involutions_carry_lattices : InvolutionsCarryLattices o s P Q
  involutions_carry_lattices I a w = carries_lattices o L s I w P Q a

  pub involutions_carry_orders : InvolutionsCarryOrders o s P Q
  involutions_carry_orders I a A h = carries_orders o L s I A h P Q a
