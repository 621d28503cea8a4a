-- The steps to a generated ideal: products of rows with basis elements are added until nothing new comes.
use Rattle.std.specs.Prelude.{◌≡◌, ℕ, ◌+◌, ◌<◌, ◌≤◌, List, [], ◌∷◌, ◌++◌, length, get_or, All}
use Rattle.std.proofs.Common.{refl, sym, subst, arith, below_more, length-append}
use Rattle.std.proofs.lemmas.List.{get_or_append_left, get_or_push}
use Rattle.theory_rings.specs.Ops.{Ops, IsElem, FieldLaws}
use Rattle.theory_spaces.specs.Tuples.{IsTuple, product, basis}
use Rattle.theory_spaces.proofs.Tuples.TupleProducts.{IsTuple-product, IsTuple-basis}
use Rattle.theory_tables.specs.Matrix.{IsMatrix}
use Rattle.theory_tables.specs.Subspace.{InSpan, SameSpan, IsReducedBasis}
use Rattle.theory_tables.proofs.Rows.Sums.{All_step}
use Rattle.theory_tables.proofs.Rows.Spans.{InSpan-member, InSpan_trans, rows_in, grow_at}
use Rattle.theory_tables.specs.Structure.{Structure}
use Rattle.theory_tables.proofs.Algebras.SpannedIdeals.{spans_ideal}
use Rattle.spl_algebra.specs.Multiples.{RowsIn, AddsMultiples, HoldsMultiples, IsBetween}
use Rattle.spl_algebra.specs.Subspaces.{GeneratesIdeal}
use Rattle.spl_algebra.proofs.Inclusions.{dimension_mono, same_of_dimension}

module _ {E : Type 0} (o : Ops E) (L : FieldLaws o) (m : ℕ) where
  -- what was a combination of the rows is one of more rows, and so is the new row
  pub InSpan-push : (rows : List (List E)) (x v : List E) → IsMatrix o m (rows ++ x ∷ []) → InSpan o m rows v
      → InSpan o m (rows ++ x ∷ []) v
  InSpan-push rows x v shape h = InSpan_trans o L m rows (rows ++ x ∷ []) v shape
      (λ i i_in.
      let i_in' : i < length (rows ++ x ∷ []) = omega (arith, length-append rows (x ∷ [])) in
      subst (InSpan o m (rows ++ x ∷ [])) (get_or_append_left rows (x ∷ []) [] i i_in)
      (InSpan-member o L m (rows ++ x ∷ []) shape i i_in'))
      h

  pub InSpan-last : (rows : List (List E)) (x : List E) → IsMatrix o m (rows ++ x ∷ []) → InSpan o m (rows ++ x ∷ []) x
  InSpan-last rows x shape =
      let last : length rows < length (rows ++ x ∷ []) = omega (arith, length-append rows (x ∷ [])) in
      subst (InSpan o m (rows ++ x ∷ [])) (get_or_push rows x [] (length rows) refl)
      (InSpan-member o L m (rows ++ x ∷ []) shape (length rows) last)

  pub RowsIn-push : (rows other : List (List E)) (x : List E) → RowsIn o m rows other → InSpan o m other x
      → RowsIn o m (rows ++ x ∷ []) other
  RowsIn-push rows other x h k r r_in =
      grow_at (λ _ row. InSpan o m other row) [] (length rows) rows (rows ++ x ∷ []) x refl h k refl r
      (omega (arith, length-append rows (x ∷ [])))

  RowsIn_trans : (a b c : List (List E)) → IsMatrix o m c → RowsIn o m a b → RowsIn o m b c → RowsIn o m a c
  RowsIn_trans a b c shape h k r r_in = InSpan_trans o L m b c (get_or a r []) shape k (h r r_in)

  module _ (cs : List E) (constants : All (IsElem o) cs) where
    abbrev A : Structure E
    A = record { dim = m; constants = cs }

    pub AddsMultiples-none : (row : List E) (rows : List (List E)) → IsMatrix o m rows
        → AddsMultiples o m cs 0 row rows rows
    AddsMultiples-none row rows shape = record {
      shape = shape;
      keeps = InSpan-member o L m rows shape;
      left = λ i l. absurd (omega arith);
      right = λ i l. absurd (omega arith);
      only = λ other ideal h k. h;
    }

    -- the products with one more basis element
    pub AddsMultiples-push : (n : ℕ) (row : List E) (old new more : List (List E)) (left right : List E) → n < m
        → IsTuple o m row
        → AddsMultiples o m cs n row old new → left ≡ product o m cs (basis o m n) row
        → right ≡ product o m cs row (basis o m n)
        → more ≡ (new ++ left ∷ []) ++ right ∷ [] → AddsMultiples o m cs (n + 1) row old more
    AddsMultiples-push n row old new more left right n_in tuple a left_is right_is more_is =
        let first = new ++ left ∷ [] in
        let left_tuple : IsTuple o m left =
        subst (IsTuple o m) (sym left_is)
        (IsTuple-product o L m cs constants (basis o m n) row (IsTuple-basis o L m cs constants n) tuple) in
        let right_tuple : IsTuple o m right =
        subst (IsTuple o m) (sym right_is)
        (IsTuple-product o L m cs constants row (basis o m n) tuple (IsTuple-basis o L m cs constants n)) in
        let shape : IsMatrix o m first = All_step (IsTuple o m) new first left a.shape left_tuple refl in
        let shape2 : IsMatrix o m (first ++ right ∷ []) =
        All_step (IsTuple o m) first (first ++ right ∷ []) right shape right_tuple refl in
        let lift : (v : List E) → InSpan o m new v
        → InSpan o m (first ++ right ∷ []) v = λ v h.
        InSpan-push first right v shape2 (InSpan-push new left v shape h) in
        let P : List (List E) → Type 0 = λ rows. AddsMultiples o m cs (n + 1) row old rows in
        subst P (sym more_is) (record {
          shape = shape2;
          keeps = λ r r_in. lift (get_or old r []) (a.keeps r r_in);
          left = below_more (λ i. InSpan o m (first ++ right ∷ []) (product o m cs (basis o m i) row)) n
              (λ i l. lift (product o m cs (basis o m i) row) (a.left i l))
              (subst (InSpan o m (first ++ right ∷ [])) left_is
              (InSpan-push first right left shape2 (InSpan-last new left shape)));
          right = below_more (λ i. InSpan o m (first ++ right ∷ []) (product o m cs row (basis o m i))) n
              (λ i l. lift (product o m cs row (basis o m i)) (a.right i l))
              (subst (InSpan o m (first ++ right ∷ [])) right_is (InSpan-last first right shape2));
          only = λ other ideal h k. RowsIn-push first other right
              (RowsIn-push new other left (a.only other ideal h k)
              (subst (InSpan o m other) (sym left_is)
              (ideal.ideal.left (basis o m n) row (IsTuple-basis o L m cs constants n) (tuple, k)).1))
              (subst (InSpan o m other) (sym right_is)
              (ideal.ideal.right (basis o m n) row (IsTuple-basis o L m cs constants n) (tuple, k)).1);
        })

    pub HoldsMultiples-none : (rows more : List (List E)) → IsMatrix o m rows → more ≡ rows
        → HoldsMultiples o m cs 0 rows more
    HoldsMultiples-none rows more shape e =
        let P : List (List E) → Type 0 = λ x. HoldsMultiples o m cs 0 rows x in
        subst P (sym e) (record {
          shape = shape;
          keeps = InSpan-member o L m rows shape;
          left = λ i r h l. absurd (omega arith);
          right = λ i r h l. absurd (omega arith);
          only = λ other ideal h. h;
        })

    -- the products of one more row
    pub HoldsMultiples-more : (n : ℕ) (rows old new : List (List E)) → n < length rows
        → HoldsMultiples o m cs n rows old
        → AddsMultiples o m cs m (get_or rows n []) old new → HoldsMultiples o m cs (n + 1) rows new
    HoldsMultiples-more n rows old new n_in h a =
        let lift : (v : List E) → InSpan o m old v
        → InSpan o m new v = λ v. InSpan_trans o L m old new v a.shape a.keeps in
        record {
          shape = a.shape;
          keeps = λ r r_in. lift (get_or rows r []) (h.keeps r r_in);
          left = λ i r i_in. below_more (λ r. InSpan o m new (product o m cs (basis o m i) (get_or rows r []))) n
              (λ r l. lift (product o m cs (basis o m i) (get_or rows r [])) (h.left i r i_in l)) (a.left i i_in) r;
          right = λ i r i_in. below_more (λ r. InSpan o m new (product o m cs (get_or rows r []) (basis o m i))) n
              (λ r l. lift (product o m cs (get_or rows r []) (basis o m i)) (h.right i r i_in l)) (a.right i i_in) r;
          only = λ other ideal k. a.only other ideal (h.only other ideal k) (k n n_in);
        }

    -- the same of other rows with the same span
    pub HoldsMultiples-same : (n : ℕ) (rows made new : List (List E)) → n ≤ length rows → IsMatrix o m rows
        → IsMatrix o m new → SameSpan o m new made
        → HoldsMultiples o m cs n rows made → HoldsMultiples o m cs n rows new
    HoldsMultiples-same n rows made new n_le shape new_shape same h =
        let tuple : (r : ℕ) → r < length rows → IsTuple o m (get_or rows r []) = λ r r_in. shape r [] r_in in
        record {
          shape = new_shape;
          keeps = λ r r_in. (same (get_or rows r []) (tuple r r_in)).1 (h.keeps r r_in);
          left = λ i r i_in r_in. (same (product o m cs (basis o m i) (get_or rows r []))
              (IsTuple-product o L m cs constants (basis o m i) (get_or rows r [])
              (IsTuple-basis o L m cs constants i) (tuple r (omega arith)))).1 (h.left i r i_in r_in);
          right = λ i r i_in r_in. (same (product o m cs (get_or rows r []) (basis o m i))
              (IsTuple-product o L m cs constants (get_or rows r []) (basis o m i) (tuple r (omega arith))
              (IsTuple-basis o L m cs constants i))).1 (h.right i r i_in r_in);
          only = λ other ideal k.
              RowsIn_trans new made other ideal.shape (rows_in o L m new made new_shape same) (h.only other ideal k);
        }

    pub IsBetween-self : (by rows : List (List E)) → IsReducedBasis o m by → rows ≡ by → IsBetween o m cs by rows
    IsBetween-self by rows x e =
        subst (IsBetween o m cs by) (sym e)
        (record { basis = x; holds = InSpan-member o L m by x.shape; least = λ other ideal h. h })

    pub IsBetween-more : (by rows next : List (List E)) → IsBetween o m cs by rows → IsReducedBasis o m next
        → HoldsMultiples o m cs (length rows) rows next → IsBetween o m cs by next
    IsBetween-more by rows next b x h = record {
      basis = x;
      holds = RowsIn_trans by rows next x.shape b.holds h.keeps;
      least = λ other ideal k. h.only other ideal (b.least other ideal k);
    }

    -- where the dimension doesn't grow, nothing new has come
    pub generates : (by rows next : List (List E)) → IsMatrix o m by → IsBetween o m cs by rows
        → IsReducedBasis o m next → HoldsMultiples o m cs (length rows) rows next
        → length next ≤ length rows → GeneratesIdeal o A by rows
    generates by rows next shape b x h short =
        let long : length rows ≡ length next = omega (arith, dimension_mono o L m rows next b.basis x h.keeps) in
        let same : rows ≡ next = same_of_dimension o L m rows next b.basis x h.keeps long in
        record {
          ideal = spans_ideal o L A constants rows b.basis.shape
              (λ i r i_in r_in. back same (product o m cs (basis o m i) (get_or rows r [])) (h.left i r i_in r_in))
              (λ i r i_in r_in. back same (product o m cs (get_or rows r []) (basis o m i)) (h.right i r i_in r_in));
          holds = λ v _. InSpan_trans o L m by rows v b.basis.shape b.holds;
          least = λ other ideal k v _. InSpan_trans o L m rows other v ideal.shape
              (b.least other ideal (λ r r_in.
              k (get_or by r []) (shape r [] r_in) (InSpan-member o L m by shape r r_in)));
        }
      where
        back : {a c : List (List E)} → a ≡ c → (v : List E) → InSpan o m c v → InSpan o m a v
        back e v k = rw e k
