-- The quotient by an ideal: a matrix whose kernel is an ideal keeps products, if the constants of the quotient are the
-- images of the products of lifts; what the quotient keeps.
use Rattle.std.specs.Prelude.{◌≡◌, ◌<◌, ℕ, List, [], length, get_or}
use Rattle.std.specs.List.{All}
use Rattle.std.proofs.Common.{sym, ◌∙◌, ap, ap₂}
use Rattle.theory_rings.specs.Ring.{FieldOn}
use Rattle.theory_rings.specs.Ops.{Ops, IsElem, FieldLaws}
use Rattle.theory_rings.specs.Elements.{Elem, elements}
use Rattle.theory_spaces.specs.Module.{ModuleOn}
use Rattle.theory_spaces.specs.Linear.{comb, InSpan}
use Rattle.theory_spaces.specs.Space.{ProductOn}
use Rattle.theory_spaces.specs.Tuples.{IsTuple, Tuple, basis, product}
use Rattle.theory_spaces.proofs.Linear.Modules.{map-comb, comb_congr_right}
use Rattle.theory_spaces.proofs.Tuples.Tables.{unit, in_units}
use Rattle.theory_spaces.proofs.Tuples.Tuples.{Tuple-path, tuples, tuple_space, tuples-zero, unit-basis}
use Rattle.theory_spaces.proofs.Tuples.TupleProducts.{tuple_product, tuple_product-list, product_assoc, IsTuple-product}
use Rattle.theory_spaces.proofs.Tuples.TupleProducts.{one-product, product-one}
use Rattle.theory_tables.specs.Matrix.{IsMatrix, image}
use Rattle.theory_tables.specs.Subspace.{Combinations, SpansKernel}
use Rattle.theory_tables.specs.Structure.{Structure, IsOver, IsElement}
use Rattle.theory_tables.specs.Algebras.{SpansIdeal}
use Rattle.theory_tables.specs.Quotient.{IsQuotient, QuotientKeeps, QuotientLaw}
use Rattle.theory_tables.proofs.Algebras.Bridge.{as_tuple, IsTuple-of, row, row-is}
use Rattle.theory_tables.proofs.Algebras.ProductMaps.{keeps_products}
use Rattle.theory_tables.proofs.Algebras.MatrixMaps.{map_by, map_by_linear, map_by-is, image-is, IsTuple-image}
use Rattle.theory_tables.proofs.Algebras.MatrixMaps.{killed-zero, zero-killed}

-- the images of the lifts are the unit tuples, so they span
module _ {E : Type 0} (o : Ops E) (L : FieldLaws o) (m n : ℕ) (project lifts : List (List E))
    (shape : IsMatrix o m project) (lifts_shape : IsMatrix o m lifts) (height : length lifts ≡ n)
    (lifted : (i : ℕ) → i < n → image o n m project (get_or lifts i []) ≡ basis o n i) where
  abbrev K : FieldOn (Elem o)
  K = elements o L

  abbrev M : ModuleOn K.ring (Tuple o m)
  M = tuples o L m

  abbrev N : ModuleOn K.ring (Tuple o n)
  N = tuples o L n

  abbrev pub f : Tuple o m → Tuple o n
  f = map_by o L n m project shape

  abbrev pub lift_row : ℕ → Tuple o m
  lift_row = row o L m lifts lifts_shape

  in_lifts : (i : ℕ) → i < n → i < length lifts
  in_lifts i i_in = rw height i_in

  pub map-lift_row : (i : ℕ) → i < n → (f (lift_row i)).0 ≡ basis o n i
  map-lift_row i i_in = map_by-is o L n m project shape (lift_row i)
      ∙ ap (image o n m project) (row-is o L m lifts lifts_shape i (in_lifts i i_in)) ∙ lifted i i_in

  pub reaches : (y : Tuple o n) → InSpan N n (λ i. f (lift_row i)) y
  reaches y =
      let u = unit N n (tuple_space o L n) in
      let s = in_units N n (tuple_space o L n) y in
      record {
        weights = s.weights;
        combines = s.combines ∙ comb_congr_right N n s.weights u (λ i. f (lift_row i)) (λ i i_in.
            Tuple-path o L n (u i) (f (lift_row i)) (unit-basis o L n i ∙ sym (map-lift_row i i_in)));
      }

  pub onto : (b : List E) → IsTuple o n b → (a : List E) × IsTuple o m a × (image o n m project a ≡ b)
  onto b b_in =
      let y = as_tuple o L n b b_in in
      let s = reaches y in
      let x = comb M n s.weights lift_row in (
        x.0,
        IsTuple-of o L m x,
        sym (map_by-is o L n m project shape x)
            ∙ ap (λ (z : Tuple o n). z.0) (map-comb M N f (map_by_linear o L n m project shape) n s.weights lift_row
            ∙ sym s.combines),
      )

  -- where the kernel is an ideal and the products of the lifts are kept, so are all
  module _ (A : List E) (B : List E) (A_elems : All (IsElem o) A) (B_elems : All (IsElem o) B) (ideal : List (List E))
      (is_ideal : SpansIdeal o (record { dim = m; constants = A }) ideal) (kernel : SpansKernel o n m project ideal)
      (agrees : (i j : ℕ) → i < n → j < n
      → image o n m project (product o m A (get_or lifts i []) (get_or lifts j [])) ≡ product o n B (basis o n i)
      (basis o n j)) where
    abbrev P : ProductOn M
    P = tuple_product o L m A A_elems

    abbrev Q : ProductOn N
    Q = tuple_product o L n B B_elems

    -- what is sent to 0 is in the ideal, and the other way round
    to_ideal : (x : Tuple o m) → f x ≡ N.zero → Combinations o m ideal x.0
    to_ideal x e = (
      IsTuple-of o L m x,
      (kernel x.0 (IsTuple-of o L m x)).1 (zero-killed o L n m project shape x.0
          (sym (map_by-is o L n m project shape x) ∙ ap (λ (z : Tuple o n). z.0) e ∙ tuples-zero o L n)),
    )

    from_ideal : (x : Tuple o m) (a : List E) → x.0 ≡ a → Combinations o m ideal a → f x ≡ N.zero
    from_ideal x a e h = Tuple-path o L n (f x) N.zero (map_by-is o L n m project shape x
        ∙ ap (image o n m project) e
        ∙ killed-zero o L n m project shape a h.0 ((kernel a h.0).0 h.1) ∙ sym (tuples-zero o L n))

    lifts_agree : (i j : ℕ) → i < n → j < n
        → f (P.◌⊗◌ (lift_row i) (lift_row j)) ≡ Q.◌⊗◌ (f (lift_row i)) (f (lift_row j))
    lifts_agree i j i_in j_in =
        let z = P.◌⊗◌ (lift_row i) (lift_row j) in
        Tuple-path o L n (f z) (Q.◌⊗◌ (f (lift_row i)) (f (lift_row j)))
        (map_by-is o L n m project shape z
        ∙ ap (image o n m project) (tuple_product-list o L m A A_elems (lift_row i) (lift_row j)
        ∙ ap₂ (product o m A) (row-is o L m lifts lifts_shape i (in_lifts i i_in))
        (row-is o L m lifts lifts_shape j (in_lifts j j_in)))
        ∙ agrees i j i_in j_in ∙ ap₂ (product o n B) (sym (map-lift_row i i_in)) (sym (map-lift_row j j_in))
        ∙ sym (tuple_product-list o L n B B_elems (f (lift_row i)) (f (lift_row j))))

    pub image_product : (a b : List E) → IsTuple o m a → IsTuple o m b
        → image o n m project (product o m A a b) ≡ product o n B (image o n m project a) (image o n m project b)
    image_product a b a_in b_in =
        let x = as_tuple o L m a a_in in
        let y = as_tuple o L m b b_in in
        let z = P.◌⊗◌ x y in
        ap (image o n m project) (sym (tuple_product-list o L m A A_elems x y))
        ∙ sym (map_by-is o L n m project shape z)
        ∙ ap (λ (t : Tuple o n). t.0) (keeps_products M N P Q f (map_by_linear o L n m project shape) n lift_row reaches
        (λ x y e. from_ideal (P.◌⊗◌ y x) (product o m A y.0 x.0) (tuple_product-list o L m A A_elems y x)
        (is_ideal.ideal.left y.0 x.0 (IsTuple-of o L m y) (to_ideal x e)))
        (λ x y e. from_ideal (P.◌⊗◌ x y) (product o m A x.0 y.0) (tuple_product-list o L m A A_elems x y)
        (is_ideal.ideal.right y.0 x.0 (IsTuple-of o L m y) (to_ideal x e)))
        lifts_agree x y)
        ∙ tuple_product-list o L n B B_elems (f x) (f y)
        ∙ ap₂ (product o n B) (image-is o L n m project shape a a_in) (image-is o L n m project shape b b_in)

module _ {E : Type 0} (o : Ops E) (L : FieldLaws o) (A : Structure E) (over : IsOver o A) (ideal : List (List E))
    (B : Structure E) (project lifts : List (List E)) (q : IsQuotient o A ideal B project lifts) where
  abbrev p : List E → List E
  p = image o B.dim A.dim project

  abbrev lift : ℕ → List E
  lift i = get_or lifts i []

  lift_in : (i : ℕ) → i < B.dim → IsElement o A (lift i)
  lift_in i i_in = q.lifts_shape i [] (rw q.lifts_height i_in)

  pub quotient_keeps : QuotientKeeps o A ideal B project
  quotient_keeps = record {
    associative = λ assoc i j k i_in j_in k_in.
        let a = lift i in
        let b = lift j in
        let c = lift k in
        let ha = lift_in i i_in in
        let hb = lift_in j j_in in
        let hc = lift_in k k_in in
        let m = A.dim in
        let cs = A.constants in
        let n = B.dim in
        let ds = B.constants in
        let tuple = IsTuple-product o L m cs over.of_elements in
        sym (q.products (product o m cs a b) c (tuple a b ha hb) hc
        ∙ ap₂ (product o n ds) (q.products a b ha hb ∙ ap₂ (product o n ds) (q.lifted i i_in) (q.lifted j j_in))
        (q.lifted k k_in))
        ∙ ap p (product_assoc o L m cs over.of_elements assoc a b c ha hb hc)
        ∙ q.products a (product o m cs b c) ha (tuple b c hb hc)
        ∙ ap₂ (product o n ds) (q.lifted i i_in)
        (q.products b c hb hc ∙ ap₂ (product o n ds) (q.lifted j j_in) (q.lifted k k_in));
    identity = λ one h. record {
      tuple = IsTuple-image o L B.dim A.dim project q.project_shape one h.tuple;
      one-mul = λ i i_in.
          let a = lift i in
          let ha = lift_in i i_in in
          ap (product o B.dim B.constants (p one)) (sym (q.lifted i i_in)) ∙ sym (q.products one a h.tuple ha)
          ∙ ap p (one-product o L A.dim A.constants over.of_elements one h a ha) ∙ q.lifted i i_in;
      mul-one = λ i i_in.
          let a = lift i in
          let ha = lift_in i i_in in
          ap (λ x. product o B.dim B.constants x (p one)) (sym (q.lifted i i_in)) ∙ sym (q.products a one ha h.tuple)
          ∙ ap p (product-one o L A.dim A.constants over.of_elements one h a ha) ∙ q.lifted i i_in;
    };
    onto = onto o L A.dim B.dim project lifts q.project_shape q.lifts_shape q.lifts_height q.lifted;
  }

pub quotient_law : {E : Type 0} (o : Ops E) → FieldLaws o → (A : Structure E) (ideal : List (List E))
    → QuotientLaw o A ideal
quotient_law o L A ideal over B project lifts q = quotient_keeps o L A over ideal B project lifts q
