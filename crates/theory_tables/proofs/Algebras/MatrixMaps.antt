-- A matrix as a linear map of tuples.
use Rattle.std.specs.Prelude.{◌≡◌, ◌<◌, ℕ, List}
use Rattle.std.proofs.Common.{refl, sym, ◌∙◌, ap, ap₂}
use Rattle.theory_rings.specs.Ring.{FieldOn}
use Rattle.theory_rings.specs.Ops.{Ops, FieldLaws}
use Rattle.theory_rings.specs.Elements.{Elem, elements}
use Rattle.theory_rings.specs.Sum.{sum, sum_of, at}
use Rattle.theory_rings.proofs.Sums.Sums.{sum_congr, sum-add, mul-sum}
use Rattle.theory_rings.proofs.Sums.Lists.{table_congr}
use Rattle.theory_rings.proofs.Rings.Elements.{sum_of-elements}
use Rattle.theory_rings.proofs.Rings.Solver.{◌⊠◌, ring3}
use Rattle.theory_spaces.specs.Module.{ModuleOn}
use Rattle.theory_spaces.specs.Linear.{IsLinear}
use Rattle.theory_spaces.specs.Space.{SpaceOn}
use Rattle.theory_spaces.specs.Tuples.{IsTuple, Tuple, tuple_zero}
use Rattle.theory_spaces.proofs.Tuples.Tuples.{at-table, tuples, tuple_space}
use Rattle.theory_tables.specs.Matrix.{entry, IsMatrix, image}
use Rattle.theory_tables.specs.Subspace.{IsKilled}
use Rattle.theory_tables.proofs.Rows.Sums.{entry-elem}
use Rattle.theory_tables.proofs.Algebras.Bridge.{as_tuple, IsTuple-of}

module _ {E : Type 0} (o : Ops E) (L : FieldLaws o) (n m : ℕ) (rows : List (List E)) (shape : IsMatrix o m rows) where
  abbrev K : FieldOn (Elem o)
  K = elements o L

  abbrev M : ModuleOn K.ring (Tuple o m)
  M = tuples o L m

  abbrev N : ModuleOn K.ring (Tuple o n)
  N = tuples o L n

  abbrev S : SpaceOn M m
  S = tuple_space o L m

  abbrev T : SpaceOn N n
  T = tuple_space o L n

  abbrev factor : ℕ → ℕ → Elem o
  factor i k = (entry o rows i k, entry-elem o L m rows shape i k)

  abbrev item : Tuple o m → ℕ → Elem o
  item x i = sum K.monoid m (λ k. K.◌⊗◌ (factor i k) (S.coord x k))

  unfoldable pub map_by : Tuple o m → Tuple o n
  map_by x = T.make (item x)

  map_by-coord : (x : Tuple o m) (i : ℕ) → i < n → T.coord (map_by x) i ≡ item x i
  unfolding map_by
  map_by-coord x i l = T.coord-make (item x) i l

  item-add : (x y : Tuple o m) (i : ℕ) → item (M.◌⊕◌ x y) i ≡ K.◌⊕◌ (item x i) (item y i)
  item-add x y i =
      let term = λ (z : Tuple o m) (k : ℕ). K.◌⊗◌ (factor i k) (S.coord z k) in
      sum_congr K.monoid m (term (M.◌⊕◌ x y)) (λ k. K.◌⊕◌ (term x k) (term y k))
      (λ k l. ap (K.◌⊗◌ (factor i k)) (S.coord-add x y k l) ∙ K.mul-add (factor i k) (S.coord x k) (S.coord y k))
      ∙ sum-add K.monoid m (term x) (term y)

  item-scale : (a : Elem o) (x : Tuple o m) (i : ℕ) → item (M.◌•◌ a x) i ≡ K.◌⊗◌ a (item x i)
  item-scale a x i =
      let term = λ (z : Tuple o m) (k : ℕ). K.◌⊗◌ (factor i k) (S.coord z k) in
      sum_congr K.monoid m (term (M.◌•◌ a x)) (λ k. K.◌⊗◌ a (term x k))
      (λ k l. ap (K.◌⊗◌ (factor i k)) (S.coord-scale a x k l)
      ∙ ring3 K.cring (λ b a y. (b ⊠ (a ⊠ y), a ⊠ (b ⊠ y))) refl (factor i k) a (S.coord x k))
      ∙ sym (mul-sum K.ring m a (term x))

  pub map_by_linear : IsLinear M N map_by
  map_by_linear = record {
    map-add = λ x y. T.ext (map_by (M.◌⊕◌ x y)) (N.◌⊕◌ (map_by x) (map_by y)) (λ i l.
        map_by-coord (M.◌⊕◌ x y) i l ∙ item-add x y i
        ∙ ap₂ K.◌⊕◌ (sym (map_by-coord x i l)) (sym (map_by-coord y i l))
        ∙ sym (T.coord-add (map_by x) (map_by y) i l));
    map-scale = λ a x. T.ext (map_by (M.◌•◌ a x)) (N.◌•◌ a (map_by x)) (λ i l.
        map_by-coord (M.◌•◌ a x) i l ∙ item-scale a x i ∙ ap (K.◌⊗◌ a) (sym (map_by-coord x i l))
        ∙ sym (T.coord-scale a (map_by x) i l));
  }

  pub map_by-is : (x : Tuple o m) → (map_by x).0 ≡ image o n m rows x.0
  unfolding map_by tuple_space
  map_by-is x = table_congr n (λ i. (item x i).0) (λ i. sum_of o m (λ k. o.mul (entry o rows i k) (at o x.0 k)))
      (λ i _. sym (sum_of-elements o L m (λ k. K.◌⊗◌ (factor i k) (S.coord x k))))

  -- the image of a list that is a tuple
  pub image-is : (v : List E) (h : IsTuple o m v) → (map_by (as_tuple o L m v h)).0 ≡ image o n m rows v
  image-is v h = map_by-is (as_tuple o L m v h)

  pub IsTuple-image : (v : List E) → IsTuple o m v → IsTuple o n (image o n m rows v)
  IsTuple-image v h = rw (← (image-is v h)) (IsTuple-of o L n (map_by (as_tuple o L m v h)))

  -- 0 is the image of what the matrix sends to 0
  pub killed-zero : (v : List E) → IsTuple o m v → IsKilled o n m rows v → image o n m rows v ≡ tuple_zero o n
  killed-zero v h k = table_congr n (λ i. sum_of o m (λ j. o.mul (entry o rows i j) (at o v j))) (λ _. o.zero) k

  pub zero-killed : (v : List E) → image o n m rows v ≡ tuple_zero o n → IsKilled o n m rows v
  zero-killed v e i i_in =
      sym (at-table o n (λ i. sum_of o m (λ j. o.mul (entry o rows i j) (at o v j))) i i_in)
      ∙ ap (λ xs. at o xs i) e ∙ at-table o n (λ _. o.zero) i i_in
