-- The map from tuples to matrices that a splitting gives: linear, one-to-one and onto, and it keeps products. So the
-- table is associative and has an identity, and its algebra is isomorphic to that of all n by n matrices.
use Rattle.std.specs.Prelude.{◌≡◌, ℕ, ◌<◌, ◌≤◌, List, [], length, get_or}
use Rattle.std.specs.List.{All}
use Rattle.std.proofs.Common.{refl, sym, ◌∙◌, ap, ap₂, subst, ⊎_elim}
use Rattle.std.proofs.lemmas.Bool.{cases_lt}
use Rattle.std.proofs.lemmas.List.{get_or_past}
use Rattle.theory_rings.specs.Ring.{RingOn, FieldOn}
use Rattle.theory_rings.specs.Ops.{Ops, IsElem, FieldLaws}
use Rattle.theory_rings.specs.Elements.{Elem, Elem-path, elements}
use Rattle.theory_rings.specs.Sum.{sum, sum_of, table, at}
use Rattle.theory_rings.proofs.Rings.Fields.{field_set}
use Rattle.theory_rings.proofs.Rings.Elements.{sum_of-elements}
use Rattle.theory_rings.proofs.Sums.Sums.{sum_congr, sum-add, mul-sum}
use Rattle.theory_rings.proofs.Sums.Lists.{length-table}
use Rattle.theory_spaces.specs.Module.{ModuleOn, AlgebraOn, module_of}
use Rattle.theory_spaces.specs.Linear.{IsLinear}
use Rattle.theory_spaces.specs.Matrix.{Matrix, Mat, delta, mat_mul}
use Rattle.theory_spaces.specs.Space.{SpaceOn}
use Rattle.theory_spaces.specs.AlgebraMap.{IsAlgebraIso}
use Rattle.theory_spaces.specs.Tuples.{Tuple, basis, product}
use Rattle.theory_spaces.proofs.Linear.Modules.{linear_ext, linear_comp, left_linear, right_linear}
use Rattle.theory_spaces.proofs.Matrices.Matrices.{sum-delta_mul, delta_comm, mat, mat-entry, Mat-ext}
use Rattle.theory_spaces.proofs.Matrices.MatrixAlgebra.{matrix_algebra}
use Rattle.theory_spaces.proofs.Algebras.Isomorphisms.{map-one_of_surjective}
use Rattle.theory_spaces.proofs.Tuples.Tables.{unit, coord-unit, in_units, table_mul, coord-unit_mul, product_left}
use Rattle.theory_spaces.proofs.Tuples.Tables.{product_right}
use Rattle.theory_spaces.proofs.Tuples.Tuples.{IsTuple-is_tuple, is_tuple-IsTuple, Tuple-path, entry, tuples}
use Rattle.theory_spaces.proofs.Tuples.Tuples.{tuple_space}
use Rattle.theory_spaces.proofs.Tuples.TupleProducts.{element_constant, tuple_product, tuple_product-list}
use Rattle.theory_spaces.proofs.Tuples.TupleProducts.{IsTuple-basis, tuple_algebra}
use Rattle.theory_tables.specs.Matrix.{entry as at_entry}
use Rattle.theory_tables.specs.Structure.{Structure, IsAssociative}
use Rattle.theory_tables.specs.Conditions.{map_entry}
use Rattle.theory_tables.specs.Algebras.{IsIdentity}
use Rattle.theory_tables.proofs.Rows.Sums.{entry-elem, table_matrix, entry_table}
use Rattle.theory_tables.specs.Split.{IsSquare, IsCombination, IsSplitBy}

-- the combination of n matrices
abbrev mat_comb : {K : Type 0} → RingOn K → ℕ → (ℕ → K) → (ℕ → Matrix K) → Matrix K
mat_comb R n c m r s = sum R.monoid n (λ k. R.◌⊗◌ (c k) (m k r s))

-- entries of square matrices are elements, and of those past the end of the list too
pub map_entry-elem : {E : Type 0} (o : Ops E) (L : FieldLaws o) (n : ℕ) (maps : List (List (List E)))
    → All (IsSquare o n) maps
    → (k r s : ℕ) → IsElem o (map_entry o maps k r s)
map_entry-elem {E} o L n maps square k r s = ⊎_elim
    (λ (low : k < length maps). entry-elem o L n (get_or maps k []) (square k [] low).shape r s)
    (λ (high : length maps ≤ k).
    subst (λ (x : List (List E)). IsElem o (at_entry o x r s)) (sym (get_or_past maps k [] high)) L.zero-elem)
    (cases_lt k (length maps))

module _ {E : Type 0} (o : Ops E) (L : FieldLaws o) (A : Structure E) (constants : All (IsElem o) A.constants) (n : ℕ)
    (maps : List (List (List E)))
    (P : IsSplitBy o A n maps) where
  abbrev m : ℕ
  m = A.dim

  abbrev cs : List E
  cs = A.constants

  abbrev K : FieldOn (Elem o)
  K = elements o L

  abbrev M : ModuleOn K.ring (Tuple o m)
  M = tuples o L m

  abbrev S : SpaceOn M m
  S = tuple_space o L m

  abbrev pub B : AlgebraOn K.ring (Mat K.ring n)
  B = matrix_algebra K.cring (field_set K) n

  abbrev mul : Tuple o m → Tuple o m → Tuple o m
  mul a b = table_mul K.cring M m S (element_constant o L m cs constants) a b

  abbrev pub phi : ℕ → Matrix (Elem o)
  phi k r s = (map_entry o maps k r s, map_entry-elem o L n maps P.square k r s)

  -- the combination of the maps by a tuple
  unfoldable pub rep : Tuple o m → Mat K.ring n
  rep a = mat K.ring (field_set K) n (mat_comb K.ring m (entry o L m a) phi)

  rep-entry : (a : Tuple o m) (r s : ℕ) → r < n → s < n → (rep a).0 r s ≡ mat_comb K.ring m (entry o L m a) phi r s
  unfolding rep
  rep-entry a r s hr hs = mat-entry K.ring (field_set K) n (mat_comb K.ring m (entry o L m a) phi) r s hr hs

  rep-ext : (a : Tuple o m) (y : Mat K.ring n)
      → ((r s : ℕ) → r < n → s < n → mat_comb K.ring m (entry o L m a) phi r s ≡ y.0 r s) → rep a ≡ y
  rep-ext a y h = Mat-ext K.ring (field_set K) n (rep a) y (λ r s hr hs. rep-entry a r s hr hs ∙ h r s hr hs)

  rep_linear : IsLinear M (module_of B) rep
  unfolding tuple_space
  rep_linear = record {
    map-add = λ a b. rep-ext (M.◌⊕◌ a b) (B.◌⊕◌ (rep a) (rep b)) (λ r s hr hs.
        sum_congr K.monoid m (λ k. K.◌⊗◌ (entry o L m (M.◌⊕◌ a b) k) (phi k r s))
        (λ k. K.◌⊕◌ (K.◌⊗◌ (entry o L m a k) (phi k r s)) (K.◌⊗◌ (entry o L m b k) (phi k r s)))
        (λ k l. ap (λ x. K.◌⊗◌ x (phi k r s)) (S.coord-add a b k l)
        ∙ K.add-mul (entry o L m a k) (entry o L m b k) (phi k r s))
        ∙ sum-add K.monoid m (λ k. K.◌⊗◌ (entry o L m a k) (phi k r s)) (λ k. K.◌⊗◌ (entry o L m b k) (phi k r s))
        ∙ sym (ap₂ K.◌⊕◌ (rep-entry a r s hr hs) (rep-entry b r s hr hs)));
    map-scale = λ c a. rep-ext (M.◌•◌ c a) (B.◌•◌ c (rep a)) (λ r s hr hs.
        sum_congr K.monoid m (λ k. K.◌⊗◌ (entry o L m (M.◌•◌ c a) k) (phi k r s))
        (λ k. K.◌⊗◌ c (K.◌⊗◌ (entry o L m a k) (phi k r s)))
        (λ k l. ap (λ x. K.◌⊗◌ x (phi k r s)) (S.coord-scale c a k l) ∙ K.mul_assoc c (entry o L m a k) (phi k r s))
        ∙ sym (mul-sum K.ring m c (λ k. K.◌⊗◌ (entry o L m a k) (phi k r s)))
        ∙ sym (ap (K.◌⊗◌ c) (rep-entry a r s hr hs)));
  }

  abbrev e : ℕ → Tuple o m
  e i = unit M m S i

  rep-unit : (i r s : ℕ) → i < m → r < n → s < n → (rep (e i)).0 r s ≡ phi i r s
  unfolding tuple_space
  rep-unit i r s l hr hs = rep-entry (e i) r s hr hs
      ∙ sum_congr K.monoid m (λ k. K.◌⊗◌ (entry o L m (e i) k) (phi k r s)) (λ k. K.◌⊗◌ (delta K.ring i k) (phi k r s))
      (λ k h. ap (λ x. K.◌⊗◌ x (phi k r s)) (coord-unit M m S i k h ∙ delta_comm K.ring k i))
      ∙ sum-delta_mul K.ring m (λ k. phi k r s) i l

  -- the maps multiply as the constants say
  phi-mul : (i j r s : ℕ) → i < m → j < m → r < n → s < n
      → mat_mul K.ring n (phi i) (phi j) r s ≡ mat_comb K.ring m (element_constant o L m cs constants i j) phi r s
  phi-mul i j r s hi hj hr hs =
      let f : ℕ → Elem o = λ t. K.◌⊗◌ (phi i r t) (phi j t s) in
      let g : ℕ → Elem o = λ k. K.◌⊗◌ (element_constant o L m cs constants i j k) (phi k r s) in
      Elem-path o (sum K.monoid n f) (sum K.monoid m g)
      (sym (sum_of-elements o L n f) ∙ P.multiplies i j r s hi hj hr hs ∙ sum_of-elements o L m g)

  rep-unit_mul : (i j : ℕ) → i < m → j < m → rep (mul (e i) (e j)) ≡ B.◌⊗◌ (rep (e i)) (rep (e j))
  unfolding tuple_space
  rep-unit_mul i j hi hj = rep-ext (mul (e i) (e j)) (B.◌⊗◌ (rep (e i)) (rep (e j))) (λ r s hr hs.
      sum_congr K.monoid m (λ k. K.◌⊗◌ (entry o L m (mul (e i) (e j)) k) (phi k r s))
      (λ k. K.◌⊗◌ (element_constant o L m cs constants i j k) (phi k r s))
      (λ k l. ap (λ x. K.◌⊗◌ x (phi k r s))
      (coord-unit_mul K.cring M m S (element_constant o L m cs constants) i j k hi hj l))
      ∙ sym (sum_congr K.monoid n (λ t. K.◌⊗◌ ((rep (e i)).0 r t) ((rep (e j)).0 t s))
      (λ t. K.◌⊗◌ (phi i r t) (phi j t s))
      (λ t l. ap₂ K.◌⊗◌ (rep-unit i r t hi hr l) (rep-unit j t s hj l hs))
      ∙ phi-mul i j r s hi hj hr hs))

  rep-mul : (a b : Tuple o m) → rep (mul a b) ≡ B.◌⊗◌ (rep a) (rep b)
  rep-mul a b = outer
    where
      inner : (i : ℕ) → i < m → rep (mul (e i) b) ≡ B.◌⊗◌ (rep (e i)) (rep b)
      inner i hi = linear_ext M (module_of B) (λ y. rep (mul (e i) y)) (λ y. B.◌⊗◌ (rep (e i)) (rep y))
          (linear_comp M M (module_of B) rep (λ y. mul (e i) y) rep_linear
          (product_left M (tuple_product o L m cs constants) (e i)))
          (linear_comp M (module_of B) (module_of B) (λ y. B.◌⊗◌ (rep (e i)) y) rep
          (left_linear B (rep (e i))) rep_linear)
          m e (λ j hj. rep-unit_mul i j hi hj) b (in_units M m S b)

      outer : rep (mul a b) ≡ B.◌⊗◌ (rep a) (rep b)
      outer = linear_ext M (module_of B) (λ x. rep (mul x b)) (λ x. B.◌⊗◌ (rep x) (rep b))
          (linear_comp M M (module_of B) rep (λ x. mul x b) rep_linear
          (product_right M (tuple_product o L m cs constants) b))
          (linear_comp M (module_of B) (module_of B) (λ x. B.◌⊗◌ x (rep b)) rep (right_linear B (rep b)) rep_linear)
          m e inner a (in_units M m S a)

  -- a matrix as a list of its rows
  abbrev list_of : Mat K.ring n → List (List E)
  list_of y = table n (λ r. table n (λ s. (y.0 r s).0))

  list_of-square : (y : Mat K.ring n) → IsSquare o n (list_of y)
  list_of-square y = record {
    shape = table_matrix o L n n (λ r s. (y.0 r s).0) (λ r s. (y.0 r s).1);
    height =
        length-table n (λ r. table n (λ s. (y.0 r s).0));
  }

  rep-list : (a : Tuple o m) (r s : ℕ) → r < n → s < n
      → ((rep a).0 r s).0 ≡ sum_of o m (λ k. o.mul (at o a.0 k) (map_entry o maps k r s))
  rep-list a r s hr hs = ap (λ (x : Elem o). x.0) (rep-entry a r s hr hs)
      ∙ sym (sum_of-elements o L m (λ k. K.◌⊗◌ (entry o L m a k) (phi k r s)))

  combines : (a : Tuple o m) (y : Mat K.ring n) → rep a ≡ y → IsCombination o m n maps a.0 (list_of y)
  combines a y h r s hr hs = entry_table o L n n (λ r s. (y.0 r s).0) r s hr hs
      ∙ ap (λ (z : Mat K.ring n). (z.0 r s).0) (sym h) ∙ rep-list a r s hr hs

  rep_injective : (a b : Tuple o m) → rep a ≡ rep b → a ≡ b
  rep_injective a b h =
      Tuple-path o L m a b (P.once (list_of (rep b)) a.0 b.0 (list_of-square (rep b)) (is_tuple-IsTuple o m a.0 a.1)
      (is_tuple-IsTuple o m b.0 b.1)
      (combines a (rep b) h) (combines b (rep b) refl))

  rep_surjective : (y : Mat K.ring n) → (a : Tuple o m) × (rep a ≡ y)
  rep_surjective y =
      let c = P.onto (list_of y) (list_of-square y) in
      let a : Tuple o m = (c.0, IsTuple-is_tuple o m c.0 c.1) in (
        a,
        Mat-ext K.ring (field_set K) n (rep a) y (λ r s hr hs. Elem-path o ((rep a).0 r s) (y.0 r s)
            (rep-list a r s hr hs ∙ sym (c.2 r s hr hs) ∙ entry_table o L n n (λ r s. (y.0 r s).0) r s hr hs)),
      )

  -- so the products of tuples are associative, and there is an identity
  mul_assoc : (x y z : Tuple o m) → mul (mul x y) z ≡ mul x (mul y z)
  mul_assoc x y z = rep_injective (mul (mul x y) z) (mul x (mul y z))
      (rep-mul (mul x y) z ∙ ap (λ t. B.◌⊗◌ t (rep z)) (rep-mul x y) ∙ B.mul_assoc (rep x) (rep y) (rep z)
      ∙ sym (rep-mul x (mul y z) ∙ ap (B.◌⊗◌ (rep x)) (rep-mul y z)))

  pub split_one : Tuple o m
  split_one = (rep_surjective B.one).0

  rep-one : rep split_one ≡ B.one
  unfolding split_one
  rep-one = (rep_surjective B.one).1

  abbrev b : ℕ → Tuple o m
  b i = (basis o m i, IsTuple-is_tuple o m (basis o m i) (IsTuple-basis o L m cs constants i))

  list-mul : (x y : Tuple o m) → (mul x y).0 ≡ product o m cs x.0 y.0
  list-mul x y = tuple_product-list o L m cs constants x y

  pub split_associative : IsAssociative o A
  split_associative i j k _ _ _ =
      sym (list-mul (mul (b i) (b j)) (b k) ∙ ap (λ t. product o m cs t (basis o m k)) (list-mul (b i) (b j)))
      ∙ ap (λ (t : Tuple o m). t.0) (mul_assoc (b i) (b j) (b k))
      ∙ list-mul (b i) (mul (b j) (b k)) ∙ ap (λ t. product o m cs (basis o m i) t) (list-mul (b j) (b k))

  pub split_one_is : IsIdentity o A split_one.0
  split_one_is = record {
    tuple = is_tuple-IsTuple o m split_one.0 split_one.1;
    one-mul = λ i _. sym (list-mul split_one (b i)) ∙ ap (λ (t : Tuple o m). t.0)
        (rep_injective (mul split_one (b i)) (b i)
        (rep-mul split_one (b i) ∙ ap (λ t. B.◌⊗◌ t (rep (b i))) rep-one ∙ B.one-mul (rep (b i))));
    mul-one = λ i _. sym (list-mul (b i) split_one) ∙ ap (λ (t : Tuple o m). t.0)
        (rep_injective (mul (b i) split_one) (b i)
        (rep-mul (b i) split_one ∙ ap (λ t. B.◌⊗◌ (rep (b i)) t) rep-one ∙ B.mul-one (rep (b i))));
  }

  -- the algebra of the table
  abbrev pub split_algebra : AlgebraOn K.ring (Tuple o m)
  split_algebra = tuple_algebra o L m cs constants split_one.0 split_one_is split_associative

  pub split_isomorphism : IsAlgebraIso split_algebra B rep
  unfolding tuple_algebra
  split_isomorphism = record {
    hom = record {
      map-one = map-one_of_surjective split_algebra B rep rep-mul rep_surjective;
      map-add = rep_linear.map-add;
      map-mul = rep-mul;
      map-scale = rep_linear.map-scale;
    };
    injective = rep_injective;
    surjective = rep_surjective;
  }
