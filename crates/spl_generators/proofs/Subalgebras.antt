-- What lies in the subalgebra that basis elements generate: combinations of what does, products, and more where there
-- is one more of them.
use Rattle.std.specs.Prelude.{◌≡◌, ◌<◌, ◌≤◌, ◌+◌, ℕ, List, [], ◌∷◌, ◌++◌, length, get_or}
use Rattle.std.proofs.Common.{refl, sym, ◌∙◌, ap, subst, arith, length-append, ⊎_elim}
use Rattle.std.proofs.lemmas.Bool.{cases_lt}
use Rattle.std.proofs.lemmas.List.{get_or_push, get_or_default}
use Rattle.std.proofs.Math.ListN.{get_or-append}
use Rattle.theory_rings.specs.Ops.{Ops, FieldLaws}
use Rattle.theory_rings.specs.Elements.{elements}
use Rattle.theory_spaces.specs.Module.{ModuleOn}
use Rattle.theory_spaces.specs.Linear.{IsSubmodule}
use Rattle.theory_spaces.specs.Tuples.{IsTuple, Tuple}
use Rattle.theory_spaces.proofs.Linear.Modules.{span_in}
use Rattle.theory_spaces.proofs.Tuples.Tuples.{tuples, tuples-zero, tuples-add, tuples-scale}
use Rattle.theory_tables.specs.Matrix.{IsMatrix}
use Rattle.theory_tables.specs.Subspace.{InSpan, SameSpan}
use Rattle.theory_tables.specs.Structure.{Structure, basis_of, product_of}
use Rattle.theory_tables.proofs.Algebras.Bridge.{as_tuple, row, row-is, to_span}
use Rattle.theory_tables.proofs.Rows.Spans.{InSpan-member}
use Rattle.theory_tables.proofs.Rows.Sums.{All_step}
use Rattle.theory_constants.specs.Generated.{InSubalgebra, generator_in, zero_in, add_in, scale_in, mul_in}
use Rattle.spl_generators.specs.Generated.{AreGenerated}

module _ {E : Type 0} (o : Ops E) (L : FieldLaws o) (A : Structure E) where
  abbrev n : ℕ
  n = A.dim

  abbrev M : ModuleOn (elements o L).ring (Tuple o n)
  M = tuples o L n

  submodule : (by : List ℕ) → IsSubmodule M (λ x. InSubalgebra o A by x.0)
  submodule by =
      let S : List E → Type 0 = InSubalgebra o A by in
      record {
        zero-in = subst S (sym (tuples-zero o L n)) zero_in;
        add-in = λ x y hx hy. subst S (sym (tuples-add o L n x y)) (add_in x.0 y.0 hx hy);
        scale-in = λ c x hx. subst S (sym (tuples-scale o L n c x)) (scale_in c.0 x.0 c.1 hx);
      }

  -- combinations of rows of the subalgebra
  pub combination_in : (by : List ℕ) (rows : List (List E)) → AreGenerated o A by rows → (v : List E)
      → IsTuple o n v → InSpan o n rows v → InSubalgebra o A by v
  combination_in by rows h v hv s =
      let S : List E → Type 0 = InSubalgebra o A by in
      span_in M (λ x. InSubalgebra o A by x.0) (submodule by) (length rows) (row o L n rows h.shape)
      (λ i l. subst S (sym (row-is o L n rows h.shape i l)) (h.each i [] l)) (as_tuple o L n v hv)
      (to_span o L n rows h.shape (as_tuple o L n v hv) s)

  -- rows with the same span
  pub same_span : (by : List ℕ) (rows other : List (List E)) → AreGenerated o A by rows → IsMatrix o n other
      → SameSpan o n other rows → AreGenerated o A by other
  same_span by rows other h shape same = record {
    shape = shape;
    each = λ i d l.
        let S : List E → Type 0 = InSubalgebra o A by in
        let v = get_or other i d in
        let hv : IsTuple o n v = shape i d l in
        combination_in by rows h v hv ((same v hv).0 (
        let P : List E → Type 0 = InSpan o n other in
        subst P (get_or_default other i [] d l) (InSpan-member o L n other shape i l)));
  }

  -- one more row
  pub one_more : (by : List ℕ) (before after : List (List E)) (v : List E) → AreGenerated o A by before
      → IsTuple o n v → InSubalgebra o A by v → after ≡ before ++ v ∷ [] → AreGenerated o A by after
  one_more by before after v h hv s e = record {
    shape = All_step (IsTuple o n) before after v h.shape hv e;
    each = All_step (InSubalgebra o A by) before after v h.each s e;
  }

  pub none : (by : List ℕ) (rows : List (List E)) → rows ≡ [] → AreGenerated o A by rows
  none by rows e =
      let l : length rows ≡ 0 = ap length e in
      record { shape = λ i d h. absurd (omega arith); each = λ i d h. absurd (omega arith) }

  -- the product of a row and a generator
  pub product_in : (by : List ℕ) (s : ℕ) (v w u : List E) → s < length by → InSubalgebra o A by v
      → w ≡ basis_of o A (get_or by s 0) → u ≡ product_of o A v w → InSubalgebra o A by u
  product_in by s v w u l h e f =
      let S : List E → Type 0 = InSubalgebra o A by in
      subst S (sym (f ∙ ap (product_of o A v) e)) (mul_in v (basis_of o A (get_or by s 0)) h (generator_in s l))

  -- where there is one generator more
  module _ (by more : List ℕ) (j : ℕ) (e : more ≡ by ++ j ∷ []) where
    longer : length more ≡ length by + 1
    longer = ap length e ∙ length-append by (j ∷ [])

    old : (s : ℕ) → s < length by → get_or more s 0 ≡ get_or by s 0
    old s l = ap (λ xs. get_or xs s 0) e ∙ get_or-append by (j ∷ []) 0 s l

    last : get_or more (length by) 0 ≡ j
    last = ap (λ xs. get_or xs (length by) 0) e ∙ get_or_push by j 0 (length by) refl

    pub new_in : InSubalgebra o A more (basis_of o A j)
    new_in = let S : ℕ → Type 0 = λ i. InSubalgebra o A more (basis_of o A i) in
        subst S last (generator_in (length by) (omega (arith, longer)))

    pub still_in : (v : List E) → InSubalgebra o A by v → InSubalgebra o A more v
    still_in _ (generator_in s l) = let S : ℕ → Type 0 = λ i. InSubalgebra o A more (basis_of o A i) in
        subst S (old s l) (generator_in s (omega (arith, longer)))
    still_in _ zero_in = zero_in
    still_in _ (add_in a b ha hb) = add_in a b (still_in a ha) (still_in b hb)
    still_in _ (scale_in c a hc ha) = scale_in c a hc (still_in a ha)
    still_in _ (mul_in a b ha hb) = mul_in a b (still_in a ha) (still_in b hb)

    pub still_generated : (rows : List (List E)) → AreGenerated o A by rows → AreGenerated o A more rows
    still_generated rows h = record {
      shape = h.shape;
      each = λ i d l. still_in (get_or rows i d) (h.each i d l);
    }

    pub still_within : ((s : ℕ) → s < length by → get_or by s 0 < n) → j < n
        → (s : ℕ) → s < length more → get_or more s 0 < n
    still_within h j_in s l = ⊎_elim
        (λ (b : s < length by). let q = old s b in let p = h s b in omega arith)
        (λ (b : length by ≤ s). let q : s ≡ length by = omega (arith, longer) in
        let P : ℕ → Type 0 = λ t. get_or more t 0 < n in
        subst P (sym q) (omega (arith, last)))
        (cases_lt s (length by))
