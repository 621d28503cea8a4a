-- Combinations of tuples that are a two-sided ideal: it is enough that the products of the tuples with the basis
-- elements from both sides are such combinations.
use Rattle.std.specs.Prelude.{◌≡◌, ◌<◌, ℕ, List, [], length, get_or}
use Rattle.std.specs.List.{All}
use Rattle.std.proofs.Common.{sym, ◌∙◌, ap₂, subst}
use Rattle.theory_rings.specs.Ring.{FieldOn}
use Rattle.theory_rings.specs.Ops.{Ops, IsElem, FieldLaws}
use Rattle.theory_rings.specs.Elements.{Elem, elements}
use Rattle.theory_spaces.specs.Module.{ModuleOn}
use Rattle.theory_spaces.specs.Linear.{InSpan, Basis}
use Rattle.theory_spaces.specs.Space.{ProductOn}
use Rattle.theory_spaces.specs.Tuples.{Tuple, tuple_zero, tuple_add, basis, product}
use Rattle.theory_spaces.proofs.Linear.Modules.{InSpan-zero, InSpan-add}
use Rattle.theory_spaces.proofs.Forms.ProductTraces.{by_left_linear, by_right_linear}
use Rattle.theory_spaces.proofs.Tuples.Tables.{space_basis}
use Rattle.theory_spaces.proofs.Tuples.Tuples.{tuples, tuple_space, tuples-zero, tuples-add, unit-basis}
use Rattle.theory_spaces.proofs.Tuples.TupleProducts.{tuple_product, tuple_product-list, IsTuple-basis}
use Rattle.theory_tables.specs.Matrix.{IsMatrix}
use Rattle.theory_tables.specs.Subspace as rows_of
use Rattle.theory_tables.specs.Subspace.{Combinations}
use Rattle.theory_tables.specs.Structure.{Structure}
use Rattle.theory_tables.specs.Conditions.{IsClosedFromLeft, IsClosedFromRight}
use Rattle.theory_tables.specs.Algebras.{SpansIdeal}
use Rattle.theory_tables.specs.Laws.{IdealByBasis}
use Rattle.theory_tables.proofs.Rows.Spans.{InSpan-member}
use Rattle.theory_tables.proofs.Algebras.Bridge.{as_tuple, IsTuple-of, row, row-is, to_span, from_span, map_span}

module _ {E : Type 0} (o : Ops E) (L : FieldLaws o) (A : Structure E) (constants : All (IsElem o) A.constants)
    (rows : List (List E)) where
  infixl 70 ◌⊗◌
  abbrev m : ℕ
  m = A.dim

  abbrev cs : List E
  cs = A.constants

  abbrev K : FieldOn (Elem o)
  K = elements o L

  abbrev M : ModuleOn K.ring (Tuple o m)
  M = tuples o L m

  abbrev P : ProductOn M
  P = tuple_product o L m cs constants

  open P use {◌⊗◌}

  abbrev B : Basis M m
  B = space_basis M m (tuple_space o L m)

  abbrev n : ℕ
  n = length rows

  product-is : (x y : Tuple o m) → (x ⊗ y).0 ≡ product o m cs x.0 y.0
  product-is = tuple_product-list o L m cs constants

  vec-is : (j : ℕ) → (B.vec j).0 ≡ basis o m j
  vec-is j = unit-basis o L m j

  in_basis : (x : Tuple o m) → InSpan M m B.vec x
  in_basis x = record { weights = B.coord x; combines = B.expand x }

  module _ (shape : IsMatrix o m rows) where
    abbrev v : ℕ → Tuple o m
    v = row o L m rows shape

    abbrev In : Tuple o m → Type 0
    In = InSpan M n v

    -- a product of a basis element and a row, as lists and as tuples
    in_at : (x : Tuple o m) (a : List E) → x.0 ≡ a → rows_of.InSpan o m rows a → In x
    in_at x a e h = to_span o L m rows shape x (let T : List E → Type 0 = rows_of.InSpan o m rows in subst T (sym e) h)

    combination_at : (x : Tuple o m) (a : List E) → x.0 ≡ a → In x → Combinations o m rows a
    combination_at x a e h = subst (Combinations o m rows) e (IsTuple-of o L m x, from_span o L m rows shape x h)

    left_in : IsClosedFromLeft o A rows → (x y : Tuple o m) → In y → In (x ⊗ y)
    left_in h x y y_in = map_span M M (λ z. x ⊗ z) (by_left_linear K.cring M P m B x) n v y y_in n v (λ r r_in.
        map_span M M (λ z. z ⊗ v r) (by_right_linear K.cring M P m B (v r)) m B.vec x (in_basis x) n v (λ i i_in.
        in_at (B.vec i ⊗ v r) (product o m cs (basis o m i) (get_or rows r []))
        (product-is (B.vec i) (v r) ∙ ap₂ (product o m cs) (vec-is i) (row-is o L m rows shape r r_in))
        (h i r i_in r_in)))

    right_in : IsClosedFromRight o A rows → (x y : Tuple o m) → In y → In (y ⊗ x)
    right_in h x y y_in = map_span M M (λ z. z ⊗ x) (by_right_linear K.cring M P m B x) n v y y_in n v (λ r r_in.
        map_span M M (λ z. v r ⊗ z) (by_left_linear K.cring M P m B (v r)) m B.vec x (in_basis x) n v (λ i i_in.
        in_at (v r ⊗ B.vec i) (product o m cs (get_or rows r []) (basis o m i))
        (product-is (v r) (B.vec i) ∙ ap₂ (product o m cs) (row-is o L m rows shape r r_in) (vec-is i))
        (h i r i_in r_in)))

    pub spans_ideal : IsClosedFromLeft o A rows → IsClosedFromRight o A rows → SpansIdeal o A rows
    spans_ideal left right =
        let tuple = as_tuple o L m in
        let to = to_span o L m rows shape in
        record {
          shape = shape;
          ideal = record {
            inside = λ a h. h.0;
            zero_in = combination_at M.zero (tuple_zero o m) (tuples-zero o L m) (InSpan-zero M n v);
            add_in = λ a b ha hb.
                let x = tuple a ha.0 in
                let y = tuple b hb.0 in
                combination_at (M.◌⊕◌ x y) (tuple_add o m a b) (tuples-add o L m x y)
                (InSpan-add M n v x y (to x ha.1) (to y hb.1));
            left = λ a b ha hb.
                let x = tuple a ha in
                let y = tuple b hb.0 in
                combination_at (x ⊗ y) (product o m cs a b) (product-is x y) (left_in left x y (to y hb.1));
            right = λ a b ha hb.
                let x = tuple a ha in
                let y = tuple b hb.0 in
                combination_at (y ⊗ x) (product o m cs b a) (product-is y x) (right_in right x y (to y hb.1));
          };
        }

  -- an ideal holds the products of the tuples with the basis elements
  module _ (h : SpansIdeal o A rows) where
    member : (r : ℕ) → r < n → Combinations o m rows (get_or rows r [])
    member r r_in = (h.shape r [] r_in, InSpan-member o L m rows h.shape r r_in)

    pub closed_from_left : IsClosedFromLeft o A rows
    closed_from_left i r _ r_in =
        (h.ideal.left (basis o m i) (get_or rows r []) (IsTuple-basis o L m cs constants i) (member r r_in)).1

    pub closed_from_right : IsClosedFromRight o A rows
    closed_from_right i r _ r_in =
        (h.ideal.right (basis o m i) (get_or rows r []) (IsTuple-basis o L m cs constants i) (member r r_in)).1

pub ideal_by_basis : {E : Type 0} (o : Ops E) → FieldLaws o → (A : Structure E) → IdealByBasis o A
ideal_by_basis o L A over rows shape =
    let g = over.of_elements in (
      λ h. (closed_from_left o L A g rows h, closed_from_right o L A g rows h),
      λ k. spans_ideal o L A g rows shape k.0 k.1,
    )
