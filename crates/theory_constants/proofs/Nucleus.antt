-- The middle nucleus: closed under sums, multiples and products, told on the basis.
use Rattle.std.specs.Prelude.{◌≡◌, ◌⊎◌, ◌<◌, ℕ, zero, suc, List, [], length, get_or}
use Rattle.std.proofs.Common.{sym, ◌∙◌, ap, ap₂, subst, arith, ⊎_elim}
use Rattle.theory_rings.specs.Ring.{RingOn}
use Rattle.theory_rings.specs.Ops.{Ops, IsElem, FieldLaws}
use Rattle.theory_rings.specs.Elements.{elements}
use Rattle.theory_rings.proofs.Rings.Elements.{at-elem}
use Rattle.theory_spaces.specs.Module.{ModuleOn}
use Rattle.theory_spaces.specs.Linear.{InSpan, IsSubmodule}
use Rattle.theory_spaces.specs.Space.{ProductOn}
use Rattle.theory_spaces.specs.Tuples.{IsTuple, Tuple, tuple_zero, tuple_add, tuple_scale, basis, product}
use Rattle.theory_spaces.proofs.Linear.Modules.{linear_ext, linear_comp, map-zero, span_in}
use Rattle.theory_spaces.proofs.Tuples.Tables.{unit, in_units, product_left, product_right}
use Rattle.theory_spaces.proofs.Tuples.Tuples.{IsTuple-table, Tuple-path, tuples, tuple_space, tuples-zero}
use Rattle.theory_spaces.proofs.Tuples.Tuples.{tuples-add, tuples-scale, unit-basis}
use Rattle.theory_spaces.proofs.Tuples.TupleProducts.{IsTuple-product, IsTuple-basis, scale-product, product-scale}
use Rattle.theory_spaces.proofs.Tuples.TupleProducts.{product-add, add-product, tuple_product, tuple_product-list}
use Rattle.theory_tables.specs.Matrix.{IsMatrix}
use Rattle.theory_tables.specs.Structure.{Structure, IsOver, IsAssociative}
use Rattle.theory_tables.specs.Algebras.{SpansAll}
use Rattle.theory_tables.proofs.Algebras.Bridge.{as_tuple, IsTuple-of, row, row-is, to_span}
use Rattle.theory_constants.specs.Nucleus.{IsMiddleNuclear, IsProductOfEarlier, NucleusFacts, NucleusLaw}

-- what associates in the middle of the vectors of a spanning family does so everywhere
module _ {K V : Type 0} {R : RingOn K} (M : ModuleOn R V) (P : ProductOn M) (n : ℕ) (v : ℕ → V)
    (spans : (x : V) → InSpan M n v x) (g : V) where
  infixl 70 ◌⊗◌
  open P use {◌⊗◌}

  pub middle_of_basis : ((i k : ℕ) → i < n → k < n → v i ⊗ g ⊗ v k ≡ v i ⊗ (g ⊗ v k))
      → (x y : V) → x ⊗ g ⊗ y ≡ x ⊗ (g ⊗ y)
  middle_of_basis h x y =
      linear_ext M M (λ x. x ⊗ g ⊗ y) (λ x. x ⊗ (g ⊗ y))
      (linear_comp M M M (λ w. w ⊗ y) (λ x. x ⊗ g) (product_right M P y) (product_right M P g))
      (product_right M P (g ⊗ y)) n v last x (spans x)
    where
      last : (i : ℕ) → i < n → v i ⊗ g ⊗ y ≡ v i ⊗ (g ⊗ y)
      last i a = linear_ext M M (λ y. v i ⊗ g ⊗ y) (λ y. v i ⊗ (g ⊗ y)) (product_left M P (v i ⊗ g))
          (linear_comp M M M (λ w. v i ⊗ w) (λ y. g ⊗ y) (product_left M P (v i)) (product_left M P g)) n v
          (λ k c. h i k a c) y (spans y)

module _ {E : Type 0} (o : Ops E) (L : FieldLaws o) (A : Structure E) (over : IsOver o A) where
  abbrev n : ℕ
  n = A.dim

  abbrev cs : List E
  cs = A.constants

  abbrev p : List E → List E → List E
  p a b = product o n cs a b

  abbrev Nuclear : List E → Type 0
  Nuclear g = IsMiddleNuclear o A g

  product-tuple : (a b : List E) → IsTuple o n a → IsTuple o n b → IsTuple o n (p a b)
  product-tuple = IsTuple-product o L n cs over.of_elements

  basis-tuple : (i : ℕ) → IsTuple o n (basis o n i)
  basis-tuple = IsTuple-basis o L n cs over.of_elements

  nuclear-add : (g h : List E) → Nuclear g → Nuclear h → Nuclear (tuple_add o n g h)
  nuclear-add g h mg mh = record {
    tuple = IsTuple-table o n (λ k. o.add (get_or g k o.zero) (get_or h k o.zero)) (λ k _.
        L.add-elem (get_or g k o.zero) (get_or h k o.zero) (at-elem o L g mg.tuple.of_elements k)
        (at-elem o L h mh.tuple.of_elements k));
    associates = λ x y hx hy.
        let c = over.of_elements in
        let tg = mg.tuple in
        let th = mh.tuple in
        ap (λ z. p z y) (product-add o L n cs c x g h hx tg th)
        ∙ add-product o L n cs c (p x g) (p x h) y (product-tuple x g hx tg) (product-tuple x h hx th) hy
        ∙ ap₂ (tuple_add o n) (mg.associates x y hx hy) (mh.associates x y hx hy)
        ∙ sym (ap (p x) (add-product o L n cs c g h y tg th hy)
        ∙ product-add o L n cs c x (p g y) (p h y) hx (product-tuple g y tg hy) (product-tuple h y th hy));
  }

  nuclear-scale : (c : E) (g : List E) → IsElem o c → Nuclear g → Nuclear (tuple_scale o n c g)
  nuclear-scale c g hc mg = record {
    tuple = IsTuple-table o n (λ k. o.mul c (get_or g k o.zero)) (λ k _.
        L.mul-elem c (get_or g k o.zero) hc (at-elem o L g mg.tuple.of_elements k));
    associates = λ x y hx hy.
        let d = over.of_elements in
        let tg = mg.tuple in
        ap (λ z. p z y) (product-scale o L n cs d c x g hc hx tg)
        ∙ scale-product o L n cs d c (p x g) y hc (product-tuple x g hx tg) hy
        ∙ ap (tuple_scale o n c) (mg.associates x y hx hy)
        ∙ sym (ap (p x) (scale-product o L n cs d c g y hc tg hy)
        ∙ product-scale o L n cs d c x (p g y) hc hx (product-tuple g y tg hy));
  }

  nuclear-product : (g h : List E) → Nuclear g → Nuclear h → Nuclear (p g h)
  nuclear-product g h mg mh = record {
    tuple = product-tuple g h mg.tuple mh.tuple;
    associates = λ x y hx hy.
        ap (λ z. p z y) (sym (mg.associates x h hx mh.tuple))
        ∙ mh.associates (p x g) y (product-tuple x g hx mg.tuple) hy
        ∙ mg.associates x (p h y) hx (product-tuple h y mh.tuple hy)
        ∙ ap (p x) (sym (mh.associates g y mg.tuple hy));
  }

  abbrev M : ModuleOn (elements o L).ring (Tuple o n)
  M = tuples o L n

  abbrev P : ProductOn M
  P = tuple_product o L n cs over.of_elements

  mul-list : (x y : Tuple o n) → (P.◌⊗◌ x y).0 ≡ p x.0 y.0
  mul-list = tuple_product-list o L n cs over.of_elements

  left-list : (x y z : Tuple o n) → (P.◌⊗◌ (P.◌⊗◌ x y) z).0 ≡ p (p x.0 y.0) z.0
  left-list x y z = mul-list (P.◌⊗◌ x y) z ∙ ap (λ t. p t z.0) (mul-list x y)

  right-list : (x y z : Tuple o n) → (P.◌⊗◌ x (P.◌⊗◌ y z)).0 ≡ p x.0 (p y.0 z.0)
  right-list x y z = mul-list x (P.◌⊗◌ y z) ∙ ap (p x.0) (mul-list y z)

  abbrev e : ℕ → Tuple o n
  e i = unit M n (tuple_space o L n) i

  e-list : (i : ℕ) → (e i).0 ≡ basis o n i
  e-list i = unit-basis o L n i

  nuclear_of_basis : (g : List E) → IsTuple o n g
      → ((i k : ℕ) → i < n → k < n → p (p (basis o n i) g) (basis o n k) ≡ p (basis o n i) (p g (basis o n k)))
      → Nuclear g
  nuclear_of_basis g hg h =
      let G = as_tuple o L n g hg in
      record {
        tuple = hg;
        associates = λ x y hx hy.
            let X = as_tuple o L n x hx in
            let Y = as_tuple o L n y hy in
            sym (left-list X G Y)
            ∙ ap (λ (t : Tuple o n). t.0) (middle_of_basis M P n e (in_units M n (tuple_space o L n)) G (λ i k a b.
            Tuple-path o L n (P.◌⊗◌ (P.◌⊗◌ (e i) G) (e k)) (P.◌⊗◌ (e i) (P.◌⊗◌ G (e k)))
            (left-list (e i) G (e k) ∙ ap₂ (λ s t. p (p s g) t) (e-list i) (e-list k) ∙ h i k a b
            ∙ sym (right-list (e i) G (e k) ∙ ap₂ (λ s t. p s (p g t)) (e-list i) (e-list k)))) X Y)
            ∙ right-list X G Y;
      }

  nuclear-zero : Nuclear (tuple_zero o n)
  nuclear-zero =
      let S : List E → Type 0 = Nuclear in
      let Z = M.zero in
      subst S (tuples-zero o L n) (record {
        tuple = IsTuple-of o L n Z;
        associates = λ x y hx hy.
            let X = as_tuple o L n x hx in
            let Y = as_tuple o L n y hy in
            sym (left-list X Z Y) ∙ ap (λ (t : Tuple o n). t.0) (zero-middle X Y) ∙ right-list X Z Y;
      })
    where
      zero-middle : (X Y : Tuple o n) → P.◌⊗◌ (P.◌⊗◌ X M.zero) Y ≡ P.◌⊗◌ X (P.◌⊗◌ M.zero Y)
      zero-middle X Y =
          ap (λ t. P.◌⊗◌ t Y) (map-zero M M (λ y. P.◌⊗◌ X y) (product_left M P X))
          ∙ map-zero M M (λ x. P.◌⊗◌ x Y) (product_right M P Y)
          ∙ sym (ap (P.◌⊗◌ X) (map-zero M M (λ x. P.◌⊗◌ x Y) (product_right M P Y))
          ∙ map-zero M M (λ y. P.◌⊗◌ X y) (product_left M P X))

  nuclear_submodule : IsSubmodule M (λ x. Nuclear x.0)
  nuclear_submodule =
      let S : List E → Type 0 = Nuclear in
      record {
        zero-in = subst S (sym (tuples-zero o L n)) nuclear-zero;
        add-in = λ x y hx hy. subst S (sym (tuples-add o L n x y)) (nuclear-add x.0 y.0 hx hy);
        scale-in = λ c x hx. subst S (sym (tuples-scale o L n c x)) (nuclear-scale c.0 x.0 c.1 hx);
      }

  -- a list of tuples, each nuclear or the product of two before it
  module _ (vs : List (List E)) (shape : IsMatrix o n vs)
      (each : (r : ℕ) → r < length vs → Nuclear (get_or vs r []) ⊎ IsProductOfEarlier o A vs r) where
    below : (m r : ℕ) → r < m → r < length vs → Nuclear (get_or vs r [])
    below zero r l h = absurd (omega arith)
    below (suc m) r l h = go (below m) (each r h)
      where
        go : ((s : ℕ) → s < m → s < length vs → Nuclear (get_or vs s []))
            → Nuclear (get_or vs r []) ⊎ IsProductOfEarlier o A vs r → Nuclear (get_or vs r [])
        go before c = ⊎_elim (λ x. x) (λ (t : IsProductOfEarlier o A vs r).
            let S : List E → Type 0 = Nuclear in
            let a = t.left_before in
            let b = t.right_before in
            subst S (sym t.is_product) (nuclear-product (get_or vs t.left []) (get_or vs t.right [])
            (before t.left (omega (arith, a, l)) (omega (arith, a, h)))
            (before t.right (omega (arith, b, l)) (omega (arith, b, h))))) c

    generated : SpansAll o A vs → IsAssociative o A
    generated spans i j k hi hj hk =
        let S : List E → Type 0 = Nuclear in
        let J = as_tuple o L n (basis o n j) (basis-tuple j) in
        let nuclear : Nuclear (basis o n j) = span_in M (λ x. Nuclear x.0) nuclear_submodule (length vs)
        (row o L n vs shape)
        (λ r h. subst S (sym (row-is o L n vs shape r h)) (below (length vs) r h h)) J
        (to_span o L n vs shape J (spans (basis o n j) (basis-tuple j))) in
        nuclear.associates (basis o n i) (basis o n k) (basis-tuple i) (basis-tuple k)

  facts : NucleusFacts o A
  facts = record {
    zero_in = nuclear-zero;
    add_in = nuclear-add;
    scale_in = nuclear-scale;
    product_in = nuclear-product;
    of_basis = λ j _ h. nuclear_of_basis (basis o n j) (basis-tuple j) h;
    at_basis = λ j h i k. h.associates (basis o n i) (basis o n k) (basis-tuple i) (basis-tuple k);
    generated = λ vs shape spans each. generated vs shape each spans;
  }

module _ {E : Type 0} (o : Ops E) (L : FieldLaws o) (A : Structure E) where
  pub nucleus_law : NucleusLaw o A
  nucleus_law over = facts o L A over
