-- The table of quaternions has a ramified place where p is a uniformizer and b is no square modulo p.
use Rattle.std.specs.Prelude.{◌≡◌, ℕ, zero, suc, ◌<◌, IsTrue, List, [], ◌∷◌, get_or}
use Rattle.std.specs.List.{All}
use Rattle.std.proofs.Common.{refl, sym, ap, arith}
use Rattle.std.proofs.lemmas.List.Elements.{All-nil, All-cons}
use mathlib.Core.Equiv.{Iso}
use Rattle.theory_rings.specs.Ring.{FieldOn}
use Rattle.theory_rings.specs.Ops.{Ops, IsElem, FieldLaws}
use Rattle.theory_rings.specs.Elements.{Elem, Elem-path, elements}
use Rattle.theory_rings.specs.Sum.{at}
use Rattle.theory_rings.proofs.Rings.Elements.{at-elem}
use Rattle.theory_rings.proofs.Rings.Solver.{Ex, var, v0, v1, v2, v3, v4, nil, unit, ◌⊞◌, ◌⊠◌, minus, by_sorted}
use Rattle.theory_spaces.specs.Module.{ModuleOn, AlgebraOn}
use Rattle.theory_spaces.specs.Valuation.{ValuationOn}
use Rattle.theory_spaces.specs.Tuples.{IsTuple, Tuple, product}
use Rattle.theory_spaces.proofs.Tuples.Tuples.{IsTuple-ext, IsTuple-is_tuple, is_tuple-IsTuple, Tuple-path, tuples}
use Rattle.theory_spaces.proofs.Tuples.Tuples.{tuples-zero, tuples-add, tuples-neg, tuples-scale}
use Rattle.theory_orders.specs.Uniformizer.{UniformizerOn}
use Rattle.theory_tables.specs.Ramified.{AreTuples, RamifiedTable}
use Rattle.theory_tables.proofs.Split.CarriedTables.{carried_ramified}
use Rattle.theory_places.specs.Quaternions.{tuple4, quaternion_structure, quaternion_order, quaternion_radical}
use Rattle.theory_places.proofs.QuaternionAlgebra.{ap₄, quaternions, order_vectors, radical_vectors}
use Rattle.theory_places.proofs.Quaternions.{NoSquareModulo, ramified_quaternions}

-- the entry of a product, by a row of constants for each item of the first factor
abbrev row_ex : Ex → Ex → Ex → Ex → Ex → Ex
row_ex x c0 c1 c2 c3 = nil ⊞ x ⊠ v4 ⊠ c0 ⊞ x ⊠ var 5 ⊠ c1 ⊞ x ⊠ var 6 ⊠ c2 ⊞ x ⊠ var 7 ⊠ c3

abbrev entry_ex : Ex → Ex → Ex → Ex → Ex
entry_ex r0 r1 r2 r3 = nil ⊞ r0 ⊞ r1 ⊞ r2 ⊞ r3

abbrev pe : Ex
pe = var 8

abbrev be : Ex
be = var 9

module _ {E : Type 0} (o : Ops E) (L : FieldLaws o) (Z : ValuationOn (elements o L)) (p q : Elem o)
    (U : UniformizerOn (elements o L) Z p q) (strict : IsTrue (Z.integral q) → ⊥)
    (b : Elem o) (b_in : IsTrue (Z.integral b)) (no_square : NoSquareModulo (elements o L) Z q b) where
  abbrev K : FieldOn (Elem o)
  K = elements o L

  abbrev X : Type 0
  X = Elem o × Elem o × Elem o × Elem o

  abbrev A : AlgebraOn K.ring X
  A = quaternions K p b

  abbrev M : ModuleOn K.ring (Tuple o 4)
  M = tuples o L 4

  abbrev cs : List E
  cs = (quaternion_structure o p.0 b.0).constants

  abbrev elem_four : Elem o → Elem o → Elem o → Elem o → X
  elem_four a b c d = (a, b, c, d)

  four-elem : (x : X) (rest : List E) → All (IsElem o) rest → All (IsElem o) (x.0.0 ∷ x.1.0 ∷ x.2.0 ∷ x.3.0 ∷ rest)
  four-elem x rest h =
      All-cons (IsElem o) x.0.0 (x.1.0 ∷ x.2.0 ∷ x.3.0 ∷ rest) x.0.1
      (All-cons (IsElem o) x.1.0 (x.2.0 ∷ x.3.0 ∷ rest) x.1.1
      (All-cons (IsElem o) x.2.0 (x.3.0 ∷ rest) x.2.1 (All-cons (IsElem o) x.3.0 rest x.3.1 h)))

  -- rows of four, one before the other
  rows_of : List X → List E
  rows_of [] = []
  rows_of (x ∷ xs) = x.0.0 ∷ x.1.0 ∷ x.2.0 ∷ x.3.0 ∷ rows_of xs

  rows-elem : (xs : List X) → All (IsElem o) (rows_of xs)
  unfolding rows_of
  rows-elem [] = All-nil (IsElem o)
  rows-elem (x ∷ xs) = four-elem x (rows_of xs) (rows-elem xs)

  constants : All (IsElem o) cs
  unfolding rows_of
  constants =
      let u = K.one in
      let z = K.zero in
      let one : Elem o → X = λ a. (a, z, z, z) in
      let i : Elem o → X = λ a. (z, a, z, z) in
      let j : Elem o → X = λ a. (z, z, a, z) in
      let k : Elem o → X = λ a. (z, z, z, a) in
      rows-elem (one u ∷ i u ∷ j u ∷ k u ∷ i u ∷ one p ∷ k u ∷ j p ∷ j u ∷ k (K.neg u) ∷ one b ∷ i (K.neg b)
      ∷ k u ∷ j (K.neg p) ∷ i b ∷ one (K.neg (K.◌⊗◌ p b)) ∷ [])

  abbrev list4 : X → List E
  list4 x = tuple4 o x.0.0 x.1.0 x.2.0 x.3.0

  four-tuple : (x : X) → IsTuple o 4 (list4 x)
  four-tuple x = record { right_length = refl; of_elements = four-elem x [] (All-nil (IsElem o)) }

  abbrev g : X → Tuple o 4
  g x = (list4 x, IsTuple-is_tuple o 4 (list4 x) (four-tuple x))

  abbrev items : Tuple o 4 → X
  items v = let h = (is_tuple-IsTuple o 4 v.0 v.1).of_elements in (
    (at o v.0 0, at-elem o L v.0 h 0),
    (at o v.0 1, at-elem o L v.0 h 1),
    (at o v.0 2, at-elem o L v.0 h 2),
    (at o v.0 3, at-elem o L v.0 h 3),
  )

  bijection : Iso X (Tuple o 4)
  bijection = record {
    fun = g;
    inv = items;
    rinv = λ v. Tuple-path o L 4 (g (items v)) v
        (IsTuple-ext o 4 (g (items v)).0 v.0 (four-tuple (items v)) (is_tuple-IsTuple o 4 v.0 v.1) (same v));
    linv = λ x. ap₄ elem_four (Elem-path o (items (g x)).0 x.0 refl) (Elem-path o (items (g x)).1 x.1 refl)
        (Elem-path o (items (g x)).2 x.2 refl) (Elem-path o (items (g x)).3 x.3 refl);
  }
    where
      same : (v : Tuple o 4) (k : ℕ) → k < 4 → at o (g (items v)).0 k ≡ at o v.0 k
      same v zero l = refl
      same v (suc zero) l = refl
      same v (suc (suc zero)) l = refl
      same v (suc (suc (suc zero))) l = refl
      same v (suc (suc (suc (suc k)))) l = absurd (omega arith)

  four_product : (x y : X) → (g (A.◌⊗◌ x y)).0 ≡ product o 4 cs (g x).0 (g y).0
  four_product x y =
      let env = x.0 ∷ x.1 ∷ x.2 ∷ x.3 ∷ y.0 ∷ y.1 ∷ y.2 ∷ y.3 ∷ p ∷ b ∷ [] in
      let val : Elem o → E = λ c. c.0 in
      ap₄ (tuple4 o)
      (ap val (by_sorted K.cring env
      (v0 ⊠ v4 ⊞ pe ⊠ (v1 ⊠ var 5) ⊞ be ⊠ (v2 ⊠ var 6) ⊞ minus (pe ⊠ (be ⊠ (v3 ⊠ var 7))))
      (entry_ex (row_ex v0 unit nil nil nil) (row_ex v1 nil pe nil nil) (row_ex v2 nil nil be nil)
      (row_ex v3 nil nil nil (minus (pe ⊠ be)))) refl))
      (ap val (by_sorted K.cring env
      (v0 ⊠ var 5 ⊞ v1 ⊠ v4 ⊞ be ⊠ (v3 ⊠ var 6) ⊞ minus (be ⊠ (v2 ⊠ var 7)))
      (entry_ex (row_ex v0 nil unit nil nil) (row_ex v1 unit nil nil nil) (row_ex v2 nil nil nil (minus be))
      (row_ex v3 nil nil be nil)) refl))
      (ap val (by_sorted K.cring env
      (v0 ⊠ var 6 ⊞ v2 ⊠ v4 ⊞ pe ⊠ (v1 ⊠ var 7) ⊞ minus (pe ⊠ (v3 ⊠ var 5)))
      (entry_ex (row_ex v0 nil nil unit nil) (row_ex v1 nil nil nil pe) (row_ex v2 unit nil nil nil)
      (row_ex v3 nil (minus pe) nil nil)) refl))
      (ap val (by_sorted K.cring env
      (v0 ⊠ var 7 ⊞ v3 ⊠ v4 ⊞ v1 ⊠ var 6 ⊞ minus (v2 ⊠ var 5))
      (entry_ex (row_ex v0 nil nil nil unit) (row_ex v1 nil nil unit nil) (row_ex v2 nil (minus unit) nil nil)
      (row_ex v3 unit nil nil nil)) refl))

  rows : (x : ℕ → X) → AreTuples o L (quaternion_structure o p.0 b.0)
      ((g (x 0)).0 ∷ (g (x 1)).0 ∷ (g (x 2)).0 ∷ (g (x 3)).0 ∷ []) (λ i. g (x i))
  rows x = record { count = refl; item = item }
    where
      item : (i : ℕ) → i < 4 → (g (x i)).0 ≡ get_or ((g (x 0)).0 ∷ (g (x 1)).0 ∷ (g (x 2)).0 ∷ (g (x 3)).0 ∷ []) i []
      item zero l = refl
      item (suc zero) l = refl
      item (suc (suc zero)) l = refl
      item (suc (suc (suc zero))) l = refl
      item (suc (suc (suc (suc i)))) l = absurd (omega arith)

  pub ramified_quaternion_table
      : RamifiedTable o L (quaternion_structure o p.0 b.0) Z p (quaternion_order o) (quaternion_radical o p.0)
  unfolding bijection
  ramified_quaternion_table =
      let v = order_vectors K p b in
      let w = radical_vectors K p b in
      let path = λ (v w : Tuple o 4). Tuple-path o L 4 v w in
      carried_ramified o L (quaternion_structure o p.0 b.0) constants A bijection (record {
        zero-is = path (g A.zero) M.zero (sym (tuples-zero o L 4));
        add-is = λ x y. path (g (A.◌⊕◌ x y)) (M.◌⊕◌ (g x) (g y)) (sym (tuples-add o L 4 (g x) (g y)));
        neg-is = λ x. path (g (A.neg x)) (M.neg (g x)) (sym (tuples-neg o L 4 (g x)));
        scale-is = λ c x. path (g (A.◌•◌ c x)) (M.◌•◌ c (g x)) (sym (tuples-scale o L 4 c (g x)));
        product-is = four_product;
      }) Z p v w (quaternion_order o) (quaternion_radical o p.0) (rows v) (rows w)
      (ramified_quaternions K Z p q U strict b b_in no_square)
