-- The chain of ideals by lifted traces on tuples: the ideals that rows span, the first one as the kernel of the trace
-- form, each next one as a kernel, and the last one.
use Rattle.std.specs.Prelude.{◌≡◌, ℕ, zero, suc, ◌*◌, ◌^◌, ◌<◌, ◌↔◌, List, length}
use Rattle.std.proofs.Math.Nat.{pow-zero, pow-suc}
use Rattle.std.proofs.Common.{sym, ◌∙◌, ap, ap₂, subst, arith}
use Rattle.theory_rings.specs.Ring.{FieldOn}
use Rattle.theory_rings.specs.Ops.{Ops, FieldLaws}
use Rattle.theory_rings.specs.Elements.{Elem, Elem-path, elements}
use Rattle.theory_rings.specs.Prime.{IsPrime}
use Rattle.theory_rings.specs.Power.{power}
use Rattle.theory_rings.specs.Sum.{sum, sum_of, at}
use Rattle.theory_rings.proofs.Rings.Elements.{at-elem, sum_of-elements, sum_of_congr}
use Rattle.theory_rings.proofs.Powers.FrobeniusMap.{frobenius_iterate-sum}
use Rattle.theory_rings.proofs.Powers.Powers.{power-mul, power-zero}
use Rattle.theory_rings.proofs.Rings.RingLaws.{zero-mul}
use Rattle.theory_rings.proofs.Sums.Sums.{sum_congr, sum_eq_zero, sum-add, mul-sum, map-sum}
use Rattle.theory_rings.proofs.Rings.Homomorphisms.{map-zero}
use Rattle.theory_spaces.specs.Module.{AlgebraOn, module_of}
use Rattle.theory_spaces.specs.Linear.{comb, Basis, InSpan}
use Rattle.theory_spaces.specs.Sets as sets
use Rattle.theory_spaces.proofs.Tuples.Tuples.{Tuple-path}
use Rattle.theory_spaces.proofs.Tuples.TupleProducts.{tuple_algebra}
use Rattle.theory_spaces.proofs.Linear.Modules.{scale-zero, map-comb, right_linear}
use Rattle.theory_spaces.proofs.Matrices.Matrices.{mat_mul-delta}
use Rattle.theory_spaces.specs.Matrix.{Matrix, mat_trace}
use Rattle.theory_spaces.specs.Algebra.{trace}
use Rattle.theory_spaces.specs.Tuples.{IsTuple, Tuple, tuple_zero, tuple_add, basis, product}
use Rattle.theory_radical.specs.Ideal as ideals
use Rattle.theory_radical.specs.LiftRing.{LiftRingOn}
use Rattle.theory_radical.specs.Chain.{Chain, Vanishes, IsLift, trace_power, mat_power}
use Rattle.theory_radical.specs.Congruence.{MultipleOf}
use Rattle.theory_radical.proofs.Lifts.LiftRings.{down_multiple}
use Rattle.theory_radical.proofs.Chain.AlgebraChain as AlgebraChain
use Rattle.theory_radical.specs.Functional.{TraceResidue, ResidueOnChain}
use Rattle.theory_radical.proofs.Chain.AlgebraChain.{chain_ideal, in_chain, chain_in, in-scale}
use Rattle.theory_radical.proofs.Chain.ChainEnd.{chain_stops, chain_end}
use Rattle.theory_radical.proofs.Chain.NextIdeal.{linear_equations}
use Rattle.theory_radical.proofs.Chain.TraceResidues.{residue_on_chain}
use Rattle.theory_radical.proofs.Words.Orbits.{pow_pos}
use Rattle.theory_tables.specs.Matrix.{IsMatrix, entry}
use Rattle.theory_tables.specs.Subspace as rows_of
use Rattle.theory_tables.specs.Subspace.{Combinations}
use Rattle.theory_tables.specs.Structure.{Structure, IsAssociative, tuple_ops}
use Rattle.theory_tables.specs.Algebras.{IsIdentity, SpansIdeal}
use Rattle.theory_tables.specs.Traces.{PowerVanishes, trace_matrix, trace as list_trace}
use Rattle.theory_tables.proofs.Algebras.Bridge.{as_tuple, IsTuple-of, algebra, algebra_is, table_basis, one-is, row}
use Rattle.theory_tables.proofs.Algebras.Bridge.{coord-is, vec-is, trace-is, row-at}
use Rattle.theory_tables.proofs.Algebras.TraceRadical.{trace_radical}
use Rattle.theory_tables.proofs.Rows.Spans.{InSpan-member}
use Rattle.theory_tables.proofs.Algebras.Bridge.{to_span, row-is, to_ideal, ideal_row, list_span}
use Rattle.theory_tables.proofs.Algebras.Powers.{nilpotent_by_powers}
use Rattle.theory_tables.specs.Structure as structures
use Rattle.theory_chains.specs.Radical.{SpansRadical}
use Rattle.theory_chains.specs.Members.{SpansMember, MembersByRows}

module _ {E : Type 0} (o : Ops E) (L : FieldLaws o) (T : Structure E) (over : structures.IsOver o T)
    (assoc : IsAssociative o T) (one : List E) (is_one : IsIdentity o T one)
    {W : Type 0} {p n : ℕ} (prime : IsPrime p) (lift : LiftRingOn (elements o L) p n W) where
  abbrev K : FieldOn (Elem o)
  K = elements o L

  abbrev m : ℕ
  m = T.dim

  abbrev cs : List E
  cs = T.constants

  abbrev A : AlgebraOn K.ring (Tuple o m)
  A = algebra o L T over.of_elements assoc one is_one

  abbrev B : Basis (module_of A) m
  B = table_basis o L T over.of_elements assoc one is_one

  abbrev I : ℕ → Tuple o m → Type 0
  I i = Chain lift A m B i

  abbrev tuple : (a : List E) → IsTuple o m a → Tuple o m
  tuple = as_tuple o L m

  -- the rows span member i of the chain
  abbrev Spans : ℕ → List (List E) → Type 0
  Spans = SpansMember o L T over assoc one is_one lift

  abbrev mul-is : (x y : Tuple o m) → (A.◌⊗◌ x y).0 ≡ product o m cs x.0 y.0
  mul-is = let h = algebra_is o L T over.of_elements assoc one is_one in h.product-is

  abbrev add-is : (x y : Tuple o m) → (A.◌⊕◌ x y).0 ≡ tuple_add o m x.0 y.0
  add-is = let h = algebra_is o L T over.of_elements assoc one is_one in h.add-is

  abbrev zero-is : A.zero.0 ≡ tuple_zero o m
  zero-is = let h = algebra_is o L T over.of_elements assoc one is_one in h.zero-is

  -- such rows span an ideal
  module _ (i : ℕ) (rows : List (List E)) (h : Spans i rows) where
    J : List E → Type 0
    J = Combinations o m rows

    member : (x : Tuple o m) (a : List E) → x.0 ≡ a → I i x → Combinations o m rows a
    member x a e g = subst (Combinations o m rows) e (IsTuple-of o L m x, h.spans x g)

    within : (a : List E) (g : Combinations o m rows a) → I i (tuple a g.0)
    within a g = h.inside (tuple a g.0) g.1

    pub member_ideal : SpansIdeal o T rows
    member_ideal =
        let C = chain_ideal prime lift A m B i in
        record {
          shape = h.shape;
          ideal = record {
            inside = λ a g. g.0;
            zero_in = member A.zero (tuple_zero o m) zero-is C.zero_in;
            add_in = λ a b ga gb. member (A.◌⊕◌ (tuple a ga.0) (tuple b gb.0)) (tuple_add o m a b)
                (add-is (tuple a ga.0) (tuple b gb.0))
                (C.add_in (tuple a ga.0) (tuple b gb.0) (within a ga) (within b gb));
            left = λ a x ga gx. member (A.◌⊗◌ (tuple a ga) (tuple x gx.0)) (product o m cs a x)
                (mul-is (tuple a ga) (tuple x gx.0)) (C.left (tuple a ga) (tuple x gx.0) tt (within x gx));
            right = λ a x ga gx. member (A.◌⊗◌ (tuple x gx.0) (tuple a ga)) (product o m cs x a)
                (mul-is (tuple x gx.0) (tuple a ga)) (C.right (tuple a ga) (tuple x gx.0) tt (within x gx));
          };
        }

  -- products of members, as tuples and as lists
  product-is : (x : ℕ → Tuple o m) (e : ℕ)
      → (ideals.product A.ring x e).0 ≡ sets.product (tuple_ops o T) one (λ i. (x i).0) e
  product-is x zero = one-is o L T over.of_elements assoc one is_one
  product-is x (suc e) = mul-is (x e) (ideals.product A.ring x e) ∙ ap (product o m cs (x e).0) (product-is x e)

  vanish_of_lists : (J : List E → Type 0) (P : Tuple o m → Type 0) → ((x : Tuple o m) → P x → J x.0) → (e : ℕ)
      → sets.ProductsVanish (tuple_ops o T) one J e → ideals.ProductsVanish A.ring P e
  vanish_of_lists J P to e h x hx = Tuple-path o L m (ideals.product A.ring x e) A.zero
      (product-is x e ∙ h (λ i. (x i).0) (λ i. to (x i) (hx i)) ∙ sym zero-is)

  lists_vanish : (J : List E → Type 0) (P : Tuple o m → Type 0) → ((a : List E) → J a → IsTuple o m a)
      → ((a : List E) (t : IsTuple o m a) → J a → P (tuple a t)) → (e : ℕ)
      → ideals.ProductsVanish A.ring P e → sets.ProductsVanish (tuple_ops o T) one J e
  lists_vanish J P inside to e h a ha =
      let x : ℕ → Tuple o m = λ i. tuple (a i) (inside (a i) (ha i)) in
      sym (product-is x e) ∙ ap (λ (y : Tuple o m). y.0) (h x (λ i. to (a i) (inside (a i) (ha i)) (ha i))) ∙ zero-is

  abbrev by_powers : (rows : List (List E)) → SpansIdeal o T rows
      → sets.IsNilpotentIdeal (tuple_ops o T) one (IsTuple o m) (Combinations o m rows) ↔ PowerVanishes o T rows
  by_powers rows ideal = let h = nilpotent_by_powers o L T over assoc one is_one rows ideal in h.nilpotent

  span_of_list : (rows : List (List E)) (shape : IsMatrix o m rows) (x : Tuple o m) → rows_of.InSpan o m rows x.0
      → InSpan (module_of A) (length rows) (row o L m rows shape) x
  unfolding tuple_algebra
  span_of_list rows shape x h = to_span o L m rows shape x h

  -- a nilpotent ideal of the table lies in the largest one of the algebra
  in_largest : (P : Tuple o m → Type 0) → ideals.IsLargestNilpotentIdeal A P → (other : List (List E))
      → SpansIdeal o T other → PowerVanishes o T other → (a : List E) (g : Combinations o m other a) → P (tuple a g.0)
  in_largest P h other ideal power a g =
      let r = ideal_row o L T over.of_elements assoc one is_one other ideal in
      let k = length other in
      let nil = (by_powers other ideal).1 power in
      let J : Tuple o m → Type 0 = InSpan (module_of A) k r in
      h.largest k r
      (record {
        ideal = to_ideal o L T over.of_elements assoc one is_one other ideal;
        exponent = nil.exponent;
        vanishes = vanish_of_lists (Combinations o m other) J
            (λ x s. (IsTuple-of o L m x, list_span o L T over.of_elements assoc one is_one other ideal x s))
            nil.exponent nil.vanishes;
      })
      (tuple a g.0) (span_of_list other ideal.shape (tuple a g.0) g.1)

  -- rows that span a member which is the largest nilpotent ideal
  radical_of : (i : ℕ) (rows : List (List E)) → Spans i rows → PowerVanishes o T rows
      → ideals.IsLargestNilpotentIdeal A (I i) → SpansRadical o T rows
  radical_of i rows h power largest = record {
    ideal = member_ideal i rows h;
    nilpotent = power;
    largest = λ other ideal p a g. (g.0, h.spans (tuple a g.0) (in_largest (I i) largest other ideal p a g));
  }

  -- the chain may stop at a member that is nilpotent
  pub radical_of_nilpotent : (i : ℕ) (rows : List (List E)) → Spans i rows → PowerVanishes o T rows
      → SpansRadical o T rows
  radical_of_nilpotent i rows h power =
      let ideal = member_ideal i rows h in
      let nil = (by_powers rows ideal).1 power in
      radical_of i rows h power (chain_stops prime lift A m B i (record {
        ideal = chain_ideal prime lift A m B i;
        exponent = nil.exponent;
        vanishes = vanish_of_lists (Combinations o m rows) (I i) (λ x g. (IsTuple-of o L m x, h.spans x g))
            nil.exponent nil.vanishes;
      }))

  -- and it ends in the radical
  pub radical_of_last : m < p ^ n → (rows : List (List E)) → Spans n rows → SpansRadical o T rows
  radical_of_last enough rows h =
      let largest = chain_end prime lift A m B enough in
      let nil = largest.nilpotent in
      let ideal = member_ideal n rows h in
      radical_of n rows h
      ((by_powers rows ideal).0 (record {
        ideal = ideal.ideal;
        exponent = nil.exponent;
        vanishes = lists_vanish (Combinations o m rows) (I n) (λ a g. g.0) (λ a t g. h.inside (tuple a t) g.1)
            nil.exponent nil.vanishes;
      }))
      largest

  -- ---- the next member

  module _ (i : ℕ) (below : i < n) where
    abbrev R : ResidueOnChain lift A m B i
    R = residue_on_chain prime lift A m B i below

    abbrev C : ideals.IsIdeal A.ring (I i)
    C = chain_ideal prime lift A m B i

    abbrev q : ℕ
    q = p ^ i

    scale_in : (c : Elem o) (x : Tuple o m) → I i x → I i (A.◌•◌ c x)
    scale_in c x h = chain_in prime lift A m B i (A.◌•◌ c x)
        (in-scale prime lift A m B i c x (in_chain prime lift A m B i x h))

    -- residues of combinations
    residue_scale : (c : Elem o) (x : Tuple o m) (r : Elem o) → I i x → TraceResidue lift A m B i x r
        → TraceResidue lift A m B i (A.◌•◌ c x) (K.◌⊗◌ (power K.ring c q) r)
    residue_scale c x r h t =
        let s = scale_in c x h in
        subst (TraceResidue lift A m B i (A.◌•◌ c x))
        (R.map-scale c x h s ∙ ap (K.◌⊗◌ (power K.ring c q)) (R.unique x h r t)) (R.is_residue (A.◌•◌ c x) s)

    residue_add : (x y : Tuple o m) (r s : Elem o) → I i x → I i y → TraceResidue lift A m B i x r
        → TraceResidue lift A m B i y s → TraceResidue lift A m B i (A.◌⊕◌ x y) (K.◌⊕◌ r s)
    residue_add x y r s h g t u =
        let k = C.add_in x y h g in
        subst (TraceResidue lift A m B i (A.◌⊕◌ x y))
        (R.map-add x y h g k ∙ ap₂ K.◌⊕◌ (R.unique x h r t) (R.unique y g s u)) (R.is_residue (A.◌⊕◌ x y) k)

    residue_zero : TraceResidue lift A m B i A.zero K.zero
    residue_zero =
        let e : A.◌•◌ K.zero A.zero ≡ A.zero = scale-zero (module_of A) K.zero in
        let h = C.zero_in in
        let s = scale_in K.zero A.zero h in
        subst (λ x. TraceResidue lift A m B i x K.zero) e
        (subst (TraceResidue lift A m B i (A.◌•◌ K.zero A.zero))
        (R.map-scale K.zero A.zero h s
        ∙ ap (λ x. K.◌⊗◌ x (R.residue A.zero h)) (power-zero K.ring q (pow_pos p prime i))
        ∙ zero-mul K.ring (R.residue A.zero h))
        (R.is_residue (A.◌•◌ K.zero A.zero) s))

    comb_member : (k : ℕ) (c : ℕ → Elem o) (v : ℕ → Tuple o m) → ((s : ℕ) → s < k → I i (v s))
        → I i (comb (module_of A) k c v)
    comb_member zero c v h = C.zero_in
    comb_member (suc k) c v h = C.add_in (comb (module_of A) k c v) (A.◌•◌ (c k) (v k))
        (comb_member k c v (λ s l. h s (omega arith))) (scale_in (c k) (v k) (h k (omega arith)))

    residue_comb : (k : ℕ) (c : ℕ → Elem o) (v : ℕ → Tuple o m) (r : ℕ → Elem o) → ((s : ℕ) → s < k → I i (v s))
        → ((s : ℕ) → s < k → TraceResidue lift A m B i (v s) (r s))
        → TraceResidue lift A m B i (comb (module_of A) k c v)
        (sum K.monoid k (λ s. K.◌⊗◌ (power K.ring (c s) q) (r s)))
    residue_comb zero c v r h t = residue_zero
    residue_comb (suc k) c v r h t = residue_add (comb (module_of A) k c v) (A.◌•◌ (c k) (v k))
        (sum K.monoid k (λ s. K.◌⊗◌ (power K.ring (c s) q) (r s))) (K.◌⊗◌ (power K.ring (c k) q) (r k))
        (comb_member k c v (λ s l. h s (omega arith))) (scale_in (c k) (v k) (h k (omega arith)))
        (residue_comb k c v r (λ s l. h s (omega arith)) (λ s l. t s (omega arith)))
        (residue_scale (c k) (v k) (r k) (h k (omega arith)) (t k (omega arith)))

    -- a linear map whose powers are the residues at the rows of a spanning family has them everywhere
    module _ (f : Tuple o m → Elem o) (linear : (k : ℕ) (c : ℕ → Elem o) (v : ℕ → Tuple o m)
        → f (comb (module_of A) k c v) ≡ sum K.monoid k (λ s. K.◌⊗◌ (c s) (f (v s)))) where
      module _ (k : ℕ) (v : ℕ → Tuple o m) (members : (s : ℕ) → s < k → I i (v s))
          (spans : (x : Tuple o m) → I i x → InSpan (module_of A) k v x)
          (at_rows : (s : ℕ) → s < k → TraceResidue lift A m B i (v s) (power K.ring (f (v s)) q)) where
        everywhere : (x : Tuple o m) → I i x → TraceResidue lift A m B i x (power K.ring (f x) q)
        everywhere x h =
            let s = spans x h in
            let c = s.weights in
            let t = residue_comb k c v (λ s. power K.ring (f (v s)) q) members at_rows in
            subst (λ y. TraceResidue lift A m B i y (power K.ring (f y) q)) (sym s.combines)
            (subst (TraceResidue lift A m B i (comb (module_of A) k c v))
            (sum_congr K.monoid k (λ s. K.◌⊗◌ (power K.ring (c s) q) (power K.ring (f (v s)) q))
            (λ s. power K.ring (K.◌⊗◌ (c s) (f (v s))) q)
            (λ s _. sym (power-mul K.ring (c s) (f (v s)) (K.mul_comm (c s) (f (v s))) q))
            ∙ sym (frobenius_iterate-sum K.cring p prime lift.is_lift.characteristic i k
            (λ s. K.◌⊗◌ (c s) (f (v s))))
            ∙ ap (λ y. power K.ring y q) (sym (linear k c v)))
            t)

        -- so the next member is where it is 0 at the products with the basis
        pub next_member : (x : Tuple o m) → I i x
            → I (suc i) x ↔ ((j : ℕ) → j < m → f (A.◌⊗◌ x (B.vec j)) ≡ K.zero)
        next_member x h =
            let e : comb (module_of A) 1 (λ _. K.one) (λ _. x) ≡ x = A.zero-add (A.◌•◌ K.one x) ∙ A.one-scale x in
            let single : (j : ℕ) → sum K.monoid 1 (λ s. K.◌⊗◌ K.one (f (A.◌⊗◌ x (B.vec j)))) ≡ f (A.◌⊗◌ x (B.vec j)) =
            λ j. K.zero-add (K.◌⊗◌ K.one (f (A.◌⊗◌ x (B.vec j)))) ∙ K.one-mul (f (A.◌⊗◌ x (B.vec j))) in
            let l = linear_equations prime lift A m B i below 1 (λ _. x) (λ _ _. h)
            (λ s j. f (A.◌⊗◌ x (B.vec j)))
            (λ s j _ _. everywhere (A.◌⊗◌ x (B.vec j)) (C.right (B.vec j) x tt h)) (λ _. K.one) in (
              λ g j lj. sym (single j) ∙ l.0 (subst (I (suc i)) (sym e) g) j lj,
              λ z. subst (I (suc i)) e (l.1 (λ j lj. single j ∙ z j lj)),
            )

  -- ---- a functional by a tuple

  module _ (w : List E) (w_tuple : IsTuple o m w) where
    abbrev weight : ℕ → Elem o
    weight j = (at o w j, at-elem o L w w_tuple.of_elements j)

    -- the sum of the products of the items
    pub functional : Tuple o m → Elem o
    functional x = sum K.monoid m (λ j. K.◌⊗◌ (B.coord x j) (weight j))

    functional-zero : functional A.zero ≡ K.zero
    unfolding functional
    functional-zero = sum_eq_zero K.monoid m (λ j. K.◌⊗◌ (B.coord A.zero j) (weight j))
        (λ j _. ap (λ c. K.◌⊗◌ c (weight j)) (B.coord-zero j) ∙ zero-mul K.ring (weight j))

    functional-add : (x y : Tuple o m) → functional (A.◌⊕◌ x y) ≡ K.◌⊕◌ (functional x) (functional y)
    unfolding functional
    functional-add x y =
        sum_congr K.monoid m (λ j. K.◌⊗◌ (B.coord (A.◌⊕◌ x y) j) (weight j))
        (λ j. K.◌⊕◌ (K.◌⊗◌ (B.coord x j) (weight j)) (K.◌⊗◌ (B.coord y j) (weight j)))
        (λ j _. ap (λ c. K.◌⊗◌ c (weight j)) (B.coord-add x y j) ∙ K.add-mul (B.coord x j) (B.coord y j) (weight j))
        ∙ sum-add K.monoid m (λ j. K.◌⊗◌ (B.coord x j) (weight j)) (λ j. K.◌⊗◌ (B.coord y j) (weight j))

    functional-scale : (c : Elem o) (x : Tuple o m) → functional (A.◌•◌ c x) ≡ K.◌⊗◌ c (functional x)
    unfolding functional
    functional-scale c x =
        sum_congr K.monoid m (λ j. K.◌⊗◌ (B.coord (A.◌•◌ c x) j) (weight j))
        (λ j. K.◌⊗◌ c (K.◌⊗◌ (B.coord x j) (weight j)))
        (λ j _. ap (λ d. K.◌⊗◌ d (weight j)) (B.coord-scale c x j) ∙ K.mul_assoc c (B.coord x j) (weight j))
        ∙ sym (mul-sum K.ring m c (λ j. K.◌⊗◌ (B.coord x j) (weight j)))

    pub functional-comb : (k : ℕ) (c : ℕ → Elem o) (v : ℕ → Tuple o m)
        → functional (comb (module_of A) k c v) ≡ sum K.monoid k (λ s. K.◌⊗◌ (c s) (functional (v s)))
    functional-comb zero c v = functional-zero
    functional-comb (suc k) c v = functional-add (comb (module_of A) k c v) (A.◌•◌ (c k) (v k))
        ∙ ap₂ K.◌⊕◌ (functional-comb k c v) (functional-scale (c k) (v k))

    pub functional-value : (x : Tuple o m) → (functional x).0 ≡ sum_of o m (λ j. o.mul (at o x.0 j) (at o w j))
    unfolding functional
    functional-value x = sym (sum_of-elements o L m (λ j. K.◌⊗◌ (B.coord x j) (weight j)))
        ∙ sum_of_congr o m (λ j. o.mul (B.coord x j).0 (at o w j)) (λ j. o.mul (at o x.0 j) (at o w j))
        (λ j l. ap (λ c. o.mul c (at o w j)) (coord-is o L T over.of_elements assoc one is_one x j l))

    -- its value at a product with a basis element
    functional-product : (x : Tuple o m) (j : ℕ) → functional (A.◌⊗◌ x (B.vec j))
        ≡ sum K.monoid m (λ i. K.◌⊗◌ (B.coord x i) (functional (A.◌⊗◌ (B.vec i) (B.vec j))))
    functional-product x j = ap (λ y. functional (A.◌⊗◌ y (B.vec j))) (B.expand x)
        ∙ ap functional (map-comb (module_of A) (module_of A) (λ y. A.◌⊗◌ y (B.vec j)) (right_linear A (B.vec j)) m
        (B.coord x) B.vec)
        ∙ functional-comb m (B.coord x) (λ i. A.◌⊗◌ (B.vec i) (B.vec j))

    -- the entries of the form: row j has the values at b_i·b_j
    module _ (form : List (List E)) (entries : (i j : ℕ) → i < m → j < m
        → entry o form j i ≡ sum_of o m
        (λ k. o.mul (at o w k) (at o (product o m cs (basis o m i) (basis o m j)) k))) where
      form-entry : (i j : ℕ) → i < m → j < m → entry o form j i ≡ (functional (A.◌⊗◌ (B.vec i) (B.vec j))).0
      form-entry i j li lj = entries i j li lj
          ∙ sum_of_congr o m (λ k. o.mul (at o w k) (at o (product o m cs (basis o m i) (basis o m j)) k))
          (λ k. o.mul (at o (A.◌⊗◌ (B.vec i) (B.vec j)).0 k) (at o w k))
          (λ k _. ap (λ xs. o.mul (at o w k) (at o xs k)) (sym (mul-is (B.vec i) (B.vec j)
          ∙ ap₂ (product o m cs) (vec-is o L T over.of_elements assoc one is_one i)
          (vec-is o L T over.of_elements assoc one is_one j)))
          ∙ L.mul_comm (at o w k) (at o (A.◌⊗◌ (B.vec i) (B.vec j)).0 k) (at-elem o L w w_tuple.of_elements k)
          (at-elem o L (A.◌⊗◌ (B.vec i) (B.vec j)).0 (IsTuple-of o L m (A.◌⊗◌ (B.vec i) (B.vec j))).of_elements k))
          ∙ sym (functional-value (A.◌⊗◌ (B.vec i) (B.vec j)))

      killed-is : (x : Tuple o m) (j : ℕ) → j < m → sum_of o m (λ i. o.mul (entry o form j i) (at o x.0 i))
          ≡ (functional (A.◌⊗◌ x (B.vec j))).0
      killed-is x j lj =
          let y : ℕ → Elem o = λ i. functional (A.◌⊗◌ (B.vec i) (B.vec j)) in
          sum_of_congr o m (λ i. o.mul (entry o form j i) (at o x.0 i)) (λ i. o.mul (B.coord x i).0 (y i).0)
          (λ i li. ap₂ o.mul (form-entry i j li lj) (sym (coord-is o L T over.of_elements assoc one is_one x i li))
          ∙ L.mul_comm (y i).0 (B.coord x i).0 (y i).1 (B.coord x i).1)
          ∙ sum_of-elements o L m (λ i. K.◌⊗◌ (B.coord x i) (y i))
          ∙ ap (λ (c : Elem o). c.0) (sym (functional-product x j))

      -- rows of member i, on which the functional is a root of the residues: the next member is where the form is 0
      module _ (i : ℕ) (below : i < n) (rows : List (List E)) (h : Spans i rows)
          (values : (s : ℕ) → s < length rows
          → TraceResidue lift A m B i (row o L m rows h.shape s)
          (power K.ring (functional (row o L m rows h.shape s)) (p ^ i))) where
        row_member : (s : ℕ) → s < length rows → I i (row o L m rows h.shape s)
        row_member s l = h.inside (row o L m rows h.shape s)
            (let P : List E → Type 0 = rows_of.InSpan o m rows in
            subst P (sym (row-is o L m rows h.shape s l)) (InSpan-member o L m rows h.shape s l))

        next_is : (x : Tuple o m) → I i x
            → I (suc i) x ↔ ((j : ℕ) → j < m → functional (A.◌⊗◌ x (B.vec j)) ≡ K.zero)
        next_is = next_member i below functional functional-comb (length rows) (row o L m rows h.shape) row_member
            (λ x g. span_of_list rows h.shape x (h.spans x g)) values

        pub next_rows : (kernel new : List (List E)) → rows_of.SpansKernel o m m form kernel
            → rows_of.SpansMeet o m new rows kernel → IsMatrix o m new → Spans (suc i) new
        next_rows kernel new is_kernel is_meet shape = record {
          shape = shape;
          inside = λ x s.
              let both = (is_meet x.0 (IsTuple-of o L m x)).0 s in
              let killed = (is_kernel x.0 (IsTuple-of o L m x)).0 both.1 in
              (next_is x (h.inside x both.0)).1 (λ j lj. Elem-path o (functional (A.◌⊗◌ x (B.vec j))) K.zero
              (sym (killed-is x j lj) ∙ killed j lj));
          spans = λ x g. (is_meet x.0 (IsTuple-of o L m x)).1 (
            h.spans x g.0,
            (is_kernel x.0 (IsTuple-of o L m x)).1 (λ j lj. killed-is x j lj
                ∙ ap (λ (c : Elem o). c.0) ((next_is x g.0).0 g j lj)),
          );
        }

  -- ---- the first member

  lift_power : (N : Matrix W) → trace_power lift A m B 0 N ≡ mat_trace lift.ring.ring m N
  lift_power N = ap (λ k. mat_trace lift.ring.ring m (mat_power lift.ring.ring m N k)) (pow-zero p)
      ∙ sum_congr lift.ring.monoid m (λ i. mat_power lift.ring.ring m N 1 i i) (λ i. N i i)
      (λ i l. mat_mul-delta lift.ring.ring m N i i l)

  down_trace : (y : Tuple o m) (N : Matrix W) → IsLift lift A m B y N
      → lift.down (trace_power lift A m B 0 N) ≡ trace A m B y
  down_trace y N h = ap lift.down (lift_power N)
      ∙ map-sum lift.ring.monoid K.monoid lift.down
      (let g = lift.is_lift.homomorphism in map-zero lift.ring.ring K.ring lift.down g)
      (let g = lift.is_lift.homomorphism in g.map-add) m (λ i. N i i)
      ∙ sum_congr K.monoid m (λ i. lift.down (N i i)) (λ i. B.coord (A.◌⊗◌ y (B.vec i)) i) (λ i l. h i i l l)

  one_power : p ^ 1 ≡ p
  one_power = pow-suc p 0 ∙ ap (λ k. k * p) (pow-zero p) ∙ (let e : 1 * p ≡ p = omega arith in e)

  vanishes_zero : (y : Tuple o m) → Vanishes lift A m B 0 y → trace A m B y ≡ K.zero
  vanishes_zero y v =
      let N = AlgebraChain.lift prime lift A m B y in
      let g = AlgebraChain.lift_is_lift prime lift A m B y in
      sym (down_trace y N.0 g)
      ∙ down_multiple K.cring lift.ring p n lift.down lift.is_lift (trace_power lift A m B 0 N.0)
      (subst (λ k. MultipleOf lift.ring.monoid k (trace_power lift A m B 0 N.0)) one_power (v N.0 g))

  zero_vanishes : (y : Tuple o m) → trace A m B y ≡ K.zero → Vanishes lift A m B 0 y
  zero_vanishes y e N g = subst (λ k. MultipleOf lift.ring.monoid k (trace_power lift A m B 0 N)) (sym one_power)
      (lift.is_lift.kernel (trace_power lift A m B 0 N) (down_trace y N g ∙ e))

  pub first_rows : (rows : List (List E)) → IsMatrix o m rows
      → rows_of.SpansKernel o m m (trace_matrix o T) rows → Spans 1 rows
  first_rows rows shape kernel =
      let R = trace_radical o L T over assoc in
      record {
        shape = shape;
        inside = λ x s.
            let t = IsTuple-of o L m x in
            let r = (R.kernel x.0 t).1 ((kernel x.0 t).0 s) in (
              tt,
              λ c. zero_vanishes (A.◌⊗◌ x c) (Elem-path o (trace A m B (A.◌⊗◌ x c)) K.zero
                  (trace-is o L T over.of_elements assoc one is_one (A.◌⊗◌ x c) ∙ ap (list_trace o T) (mul-is x c)
                  ∙ r.orthogonal c.0 (IsTuple-of o L m c))),
            );
        spans = λ x g.
            let t = IsTuple-of o L m x in
            (kernel x.0 t).1 ((R.kernel x.0 t).0 (record {
              tuple = t;
              orthogonal = λ b b_tuple.
                  let c = tuple b b_tuple in
                  sym (trace-is o L T over.of_elements assoc one is_one (A.◌⊗◌ x c)
                  ∙ ap (list_trace o T) (mul-is x c))
                  ∙ ap (λ (y : Elem o). y.0) (vanishes_zero (A.◌⊗◌ x c) (g.1 c));
            }));
      }

  -- the members by rows
  pub members_by_rows : MembersByRows o L T over assoc one is_one lift
  members_by_rows = record {
    first = first_rows;
    next = λ i below rows h w w_tuple roots form is_form kernel new is_kernel is_meet shape.
        next_rows w w_tuple form is_form i below rows h
        (λ s l.
        let r = row o L m rows h.shape s in
        let y = roots s l in
        let e : y.0 ≡ functional w w_tuple r = Elem-path o y.0 (functional w w_tuple r)
        (y.1 ∙ sum_of_congr o m (λ j. o.mul (entry o rows s j) (at o w j)) (λ j. o.mul (at o r.0 j) (at o w j))
        (λ j lj. ap (λ x. o.mul x (at o w j)) (sym (row-at o L m rows h.shape s j lj)))
        ∙ sym (functional-value w w_tuple r)) in
        subst (λ z. TraceResidue lift A m B i r (power K.ring z (p ^ i))) e y.2)
        kernel new is_kernel is_meet shape;
    stop = radical_of_nilpotent;
    last = radical_of_last;
  }
