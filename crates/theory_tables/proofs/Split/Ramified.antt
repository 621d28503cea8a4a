-- With no notion on lists: a claim is that of theory_orders on the algebra of the table. It excludes a splitting, and
-- the field with a square root of p has one, carried from pairs to tuples by univalence.
use Rattle.std.specs.Prelude.{◌≡◌, ℕ, zero, suc, ◌<◌, ◌≤◌, ◌*◌, IsTrue, List, [], ◌∷◌, ◌++◌, get_or}
use Rattle.std.specs.List.{All}
use Rattle.std.proofs.Common.{refl, sym, ◌∙◌, ap, ap₂, arith}
use Rattle.std.proofs.lemmas.List.Elements.{All-nil, All-cons}
use mathlib.Core.Equiv.{Iso}
use Rattle.theory_rings.specs.Ring.{FieldOn}
use Rattle.theory_rings.specs.Ops.{Ops, IsElem, FieldLaws}
use Rattle.theory_rings.specs.Elements.{Elem, Elem-path, elements}
use Rattle.theory_rings.specs.Sum.{at}
use Rattle.theory_rings.proofs.Rings.Elements.{at-elem}
use Rattle.theory_rings.proofs.Rings.Fields.{field_set}
use Rattle.theory_rings.proofs.Rings.Solver.{v0, v1, v2, v3, v4, nil, unit, ◌⊞◌, ◌⊠◌, by_sorted}
use Rattle.theory_spaces.specs.Module.{ModuleOn, AlgebraOn, module_of}
use Rattle.theory_spaces.specs.Valuation.{ValuationOn}
use Rattle.theory_spaces.specs.AlgebraMap.{IsAlgebraIso}
use Rattle.theory_spaces.specs.Tuples.{IsTuple, Tuple, product, IsTableAlgebra}
use Rattle.theory_spaces.proofs.Algebras.Isomorphisms.{map-one_of_surjective}
use Rattle.theory_spaces.proofs.Matrices.MatrixAlgebra.{matrix_algebra_is}
use Rattle.theory_spaces.proofs.Tuples.Tables.{space_basis}
use Rattle.theory_spaces.proofs.Tuples.Tuples.{IsTuple-ext, IsTuple-is_tuple, is_tuple-IsTuple, Tuple-path, tuples}
use Rattle.theory_spaces.proofs.Tuples.Tuples.{tuples-zero, tuples-add, tuples-neg, tuples-scale}
use Rattle.theory_orders.specs.Uniformizer.{UniformizerOn}
use Rattle.theory_orders.proofs.Splitting.Example.{root_algebra, order_vectors, radical_vectors, ramified_example}
use Rattle.theory_orders.proofs.Splitting.Ramified.{not_isomorphic}
use Rattle.theory_orders.proofs.Splitting.TableClaims.{table_space}
use Rattle.theory_tables.specs.Structure.{Structure, IsOver}
use Rattle.theory_tables.specs.Ramified.{AreTuples, RamifiedTable}
use Rattle.theory_tables.specs.Split.{IsSplit}
use Rattle.theory_tables.specs.Claims.{SplitClaim}
use Rattle.theory_tables.proofs.Split.SplitClaims.{split_claim_splits}
use Rattle.theory_tables.specs.Examples.{pair, root_structure, root_order, root_radical}
use Rattle.theory_tables.proofs.Algebras.Bridge.{algebra_is}
use Rattle.theory_tables.proofs.Split.Splittings.{split_one, split_one_is, split_associative, split_algebra, rep}
use Rattle.theory_tables.proofs.Split.Splittings.{split_isomorphism, B}
use Rattle.theory_tables.proofs.Split.CarriedTables.{carried_ramified}

-- each algebra of a split table is isomorphic to that of the matrices
module _ {E : Type 0} (o : Ops E) (L : FieldLaws o) (Y : Structure E) (constants : All (IsElem o) Y.constants) (n : ℕ)
    (S : IsSplit o Y n)
    (A : AlgebraOn (elements o L).ring (Tuple o Y.dim)) (T : IsTableAlgebra o L Y.dim Y.constants A) where
  isomorphism : IsAlgebraIso A (B o L Y constants n S.maps S.by) (rep o L Y constants n S.maps S.by)
  isomorphism =
      let C = split_algebra o L Y constants n S.maps S.by in
      let U = algebra_is o L Y constants (split_associative o L Y constants n S.maps S.by)
      (split_one o L Y constants n S.maps S.by).0 (split_one_is o L Y constants n S.maps S.by) in
      let f = rep o L Y constants n S.maps S.by in
      let i = split_isomorphism o L Y constants n S.maps S.by in
      let mul : (x y : Tuple o Y.dim) → f (A.◌⊗◌ x y) ≡ _ = λ x y.
      ap f (Tuple-path o L Y.dim (A.◌⊗◌ x y) (C.◌⊗◌ x y) (T.product-is x y ∙ sym (U.product-is x y)))
      ∙ i.hom.map-mul x y in
      record {
        hom = record {
          map-one = map-one_of_surjective A (B o L Y constants n S.maps S.by) f mul i.surjective;
          map-add = λ x y. ap f (Tuple-path o L Y.dim (A.◌⊕◌ x y) (C.◌⊕◌ x y) (T.add-is x y ∙ sym (U.add-is x y)))
              ∙ i.hom.map-add x y;
          map-mul = mul;
          map-scale = λ c x. ap f (Tuple-path o L Y.dim (A.◌•◌ c x) (C.◌•◌ c x) (T.scale-is c x ∙ sym (U.scale-is c x)))
              ∙ i.hom.map-scale c x;
        };
        injective = i.injective;
        surjective = i.surjective;
      }

-- a table with a ramified place is not split
pub ramified_excludes_split : {E : Type 0} (o : Ops E) (L : FieldLaws o) (Z : ValuationOn (elements o L))
    (p q : Elem o) → UniformizerOn (elements o L) Z p q
    → (A : Structure E) (os js : List (List E)) → IsOver o A → RamifiedTable o L A Z p os js
    → (n : ℕ) → 1 ≤ n → IsSplit o A n → ⊥
ramified_excludes_split o L Z p q U A os js t D n positive S =
    let h = t.of_elements in
    let K = elements o L in
    not_isomorphic K D.algebra A.dim
    (space_basis (module_of D.algebra) A.dim
    (table_space o L A.dim A.constants D.algebra D.is_table)) Z p D.order D.radical D.ramified
    q U n positive (B o L A h n S.maps S.by) (matrix_algebra_is K.cring (field_set K) n)
    (rep o L A h n S.maps S.by)
    (isomorphism o L A h n S D.algebra D.is_table)

-- nor is it by a claim with n² matrices
pub ramified_excludes_split_claim : {E : Type 0} (o : Ops E) (L : FieldLaws o) (Z : ValuationOn (elements o L))
    (p q : Elem o) → UniformizerOn (elements o L) Z p q
    → (A : Structure E) (os js : List (List E)) → IsOver o A → RamifiedTable o L A Z p os js
    → (n : ℕ) (maps : List (List (List E))) (units : List (List E)) → 1 ≤ n → A.dim ≡ n * n
    → SplitClaim o A n maps units → ⊥
ramified_excludes_split_claim o L Z p q U A os js t D n maps units positive size S =
    ramified_excludes_split o L Z p q U A os js t D n positive
    (record { maps = maps; by = split_claim_splits o L A n maps units size S })

module _ {E : Type 0} (o : Ops E) (L : FieldLaws o) (Z : ValuationOn (elements o L)) (p q : Elem o)
    (U : UniformizerOn (elements o L) Z p q)
    (strict : IsTrue (Z.integral q) → ⊥) where
  abbrev K : FieldOn (Elem o)
  K = elements o L

  abbrev X : Type 0
  X = Elem o × Elem o

  abbrev A : AlgebraOn K.ring X
  A = root_algebra K Z p q U strict

  abbrev M : ModuleOn K.ring (Tuple o 2)
  M = tuples o L 2

  abbrev cs : List E
  cs = (root_structure o p.0).constants

  abbrev elem_pair : Elem o → Elem o → X
  elem_pair a b = (a, b)

  pair-elem : (x : X) (rest : List E) → All (IsElem o) rest → All (IsElem o) (x.0.0 ∷ (x.1.0 ∷ rest))
  pair-elem x rest h = All-cons (IsElem o) x.0.0 (x.1.0 ∷ rest) x.0.1 (All-cons (IsElem o) x.1.0 rest x.1.1 h)

  constants : All (IsElem o) cs
  constants =
      let u = K.one in
      let z = K.zero in
      let last = pair p.0 o.zero in
      let third = pair o.zero o.one ++ last in
      pair-elem (u, z) (pair o.zero o.one ++ third)
      (pair-elem (z, u) third (pair-elem (z, u) last (pair-elem (p, z) [] (All-nil (IsElem o)))))

  pair-tuple : (x : X) → IsTuple o 2 (pair x.0.0 x.1.0)
  pair-tuple x = record { right_length = refl; of_elements = pair-elem x [] (All-nil (IsElem o)) }

  abbrev g : X → Tuple o 2
  g x = (pair x.0.0 x.1.0, IsTuple-is_tuple o 2 (pair x.0.0 x.1.0) (pair-tuple x))

  abbrev items : Tuple o 2 → X
  items v = let h = (is_tuple-IsTuple o 2 v.0 v.1).of_elements in
      ((at o v.0 0, at-elem o L v.0 h 0), (at o v.0 1, at-elem o L v.0 h 1))

  bijection : Iso X (Tuple o 2)
  bijection = record {
    fun = g;
    inv = items;
    rinv = λ v. Tuple-path o L 2 (g (items v)) v
        (IsTuple-ext o 2 (g (items v)).0 v.0 (pair-tuple (items v)) (is_tuple-IsTuple o 2 v.0 v.1) (same v));
    linv = λ x. ap₂ elem_pair (Elem-path o (items (g x)).0 x.0 refl) (Elem-path o (items (g x)).1 x.1 refl);
  }
    where
      same : (v : Tuple o 2) (k : ℕ) → k < 2 → at o (g (items v)).0 k ≡ at o v.0 k
      same v zero l = refl
      same v (suc zero) l = refl
      same v (suc (suc k)) l = absurd (omega arith)

  pair_product : (x y : X) → (g (A.◌⊗◌ x y)).0 ≡ product o 2 cs (g x).0 (g y).0
  pair_product x y =
      let env = x.0 ∷ (x.1 ∷ (y.0 ∷ (y.1 ∷ (p ∷ [])))) in
      ap₂ pair
      (ap (λ (c : Elem o). c.0) (by_sorted K.cring env (v0 ⊠ v2 ⊞ v4 ⊠ (v1 ⊠ v3))
      (nil ⊞ (nil ⊞ v0 ⊠ v2 ⊠ unit ⊞ v0 ⊠ v3 ⊠ nil) ⊞ (nil ⊞ v1 ⊠ v2 ⊠ nil ⊞ v1 ⊠ v3 ⊠ v4)) refl))
      (ap (λ (c : Elem o). c.0) (by_sorted K.cring env (v0 ⊠ v3 ⊞ v1 ⊠ v2)
      (nil ⊞ (nil ⊞ v0 ⊠ v2 ⊠ nil ⊞ v0 ⊠ v3 ⊠ unit) ⊞ (nil ⊞ v1 ⊠ v2 ⊠ unit ⊞ v1 ⊠ v3 ⊠ nil)) refl))

  rows : (x : ℕ → X) → AreTuples o L (root_structure o p.0) ((g (x 0)).0 ∷ ((g (x 1)).0 ∷ [])) (λ i. g (x i))
  rows x = record { count = refl; item = item }
    where
      item : (i : ℕ) → i < 2 → (g (x i)).0 ≡ get_or ((g (x 0)).0 ∷ ((g (x 1)).0 ∷ [])) i []
      item zero l = refl
      item (suc zero) l = refl
      item (suc (suc i)) l = absurd (omega arith)

  pub ramified_table : RamifiedTable o L (root_structure o p.0) Z p (root_order o p.0) (root_radical o p.0)
  unfolding bijection
  ramified_table =
      let v = order_vectors K Z p q U strict in
      let w = radical_vectors K Z p q U strict in
      let path = λ (v w : Tuple o 2). Tuple-path o L 2 v w in
      carried_ramified o L (root_structure o p.0) constants A bijection (record {
        zero-is = path (g A.zero) M.zero (sym (tuples-zero o L 2));
        add-is = λ x y. path (g (A.◌⊕◌ x y)) (M.◌⊕◌ (g x) (g y)) (sym (tuples-add o L 2 (g x) (g y)));
        neg-is = λ x. path (g (A.neg x)) (M.neg (g x)) (sym (tuples-neg o L 2 (g x)));
        scale-is = λ c x. path (g (A.◌•◌ c x)) (M.◌•◌ c (g x)) (sym (tuples-scale o L 2 c (g x)));
        product-is = pair_product;
      }) Z p v w (root_order o p.0) (root_radical o p.0) (rows v) (rows w) (ramified_example K Z p q U strict)
