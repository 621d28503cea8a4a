-- A list refined by the values of a central element.
use Rattle.std.specs.Prelude.{◌≡◌, ◌⊎◌, ◌+◌, ◌*◌, ◌<◌, ◌≤◌, ℕ, List, length}
use Rattle.std.proofs.Common.{subst, inl, inr, ⊎_elim, arith}
use Rattle.std.proofs.lemmas.Bool.{cases_lt}
use Rattle.theory_rings.specs.Ops.{Ops, IsElem, FieldLaws}
use Rattle.theory_rings.specs.Power.{power_of}
use Rattle.theory_spaces.specs.Tuples.{IsTuple, tuple_scale}
use Rattle.theory_tables.specs.Subspace.{Rows}
use Rattle.theory_tables.specs.Structure.{Structure}
use Rattle.theory_tables.specs.Algebras.{IsIdentity, IsCentral}
use Rattle.spl_blocks.specs.Blocks.{IsUnital}
use Rattle.spl_blocks.specs.Splits.{AreSplit, Refines, AreScalars, AreKept, IsSumOf, IsMultiples, AreValues}
use Rattle.spl_blocks.specs.Splits.{less_multiple}
use Rattle.spl_blocks.specs.Splits.{HasValuedTraces, AreTracesScalars, trace_in, trace_of_multiple}
use Rattle.spl_blocks.proofs.Tables.{tuple, of_tuple, one_of, from_is_central}
use Rattle.spl_blocks.proofs.SplitLists.{less, less-is, kept_split, kept_scalars}
use Rattle.spl_blocks.proofs.SumLists.{sums_split, sums_refine_left, sums_refine_right}
use Rattle.spl_blocks.proofs.KeptSteps.{scalars_finer}

module _ {E : Type 0} (o : Ops E) (L : FieldLaws o) (T : Structure E) (u : IsUnital o T) where
  module _ (one : List E) (is_one : IsIdentity o T one) (t : List E) (central : IsCentral o T t) where
    module _ (constants : List E) (values : AreValues o T one t constants) (parts : List (Rows E))
        (k : AreKept o T (length constants) (IsMultiples o T one t constants) parts) where
      pub parts_split : AreSplit o T parts
      parts_split = kept_split o L T u one t (one_of o L T u one is_one) central.tuple
          (from_is_central o L T u (tuple o L T u t central.tuple) central)
          constants values parts k

      pub parts_scalars : AreScalars o T one t parts
      parts_scalars = kept_scalars o L T u one t (one_of o L T u one is_one) central.tuple
          (from_is_central o L T u (tuple o L T u t central.tuple) central)
          constants values parts k

  module _ (items parts : List (Rows E)) (split : AreSplit o T items) (other : AreSplit o T parts) where
    module _ (r : List (Rows E)) (k : AreKept o T (length items * length parts) (IsSumOf o T items parts) r) where
      pub sums_are_split : AreSplit o T r
      sums_are_split = sums_split o L T u items parts split other r k

      pub sums_finer : Refines o T r items
      sums_finer = sums_refine_left o L T u items parts split other r k

      sums_right : Refines o T r parts
      sums_right = sums_refine_right o L T u items parts split other r k

  less_tuple : (one : List E) → IsIdentity o T one → (t : List E) → IsCentral o T t → (c : E) → IsElem o c
      → IsTuple o T.dim (less_multiple o T one t c)
  less_tuple one is_one t central c hc = subst (IsTuple o T.dim)
      (less-is o L T u one (one_of o L T u one is_one) (tuple o L T u t central.tuple) (c, hc))
      (of_tuple o L T u (less o L T u (tuple o L T u t central.tuple) (c, hc)))

  pub sums_scalars : (one : List E) → IsIdentity o T one → (t : List E) → IsCentral o T t
      → (items parts : List (Rows E))
      → AreSplit o T items → AreSplit o T parts → AreScalars o T one t parts → (r : List (Rows E))
      → AreKept o T (length items * length parts) (IsSumOf o T items parts) r → AreScalars o T one t r
  sums_scalars one is_one t central items parts split other h r k =
      scalars_finer o T one t r parts (sums_right items parts split other r k) (less_tuple one is_one t central) h

  -- one more trace
  pub traces_step : (one : List E) (x : E) (q d n i : ℕ) (z y : List E) (constants : List E) (old new : List (Rows E))
      → IsIdentity o T one → HasValuedTraces o T one constants x q d z → y ≡ tuple_scale o T.dim (power_of o x i) z
      → Refines o T new old → (n ≤ length old → n ≤ length new) → i < d
      → (n ≤ length old) ⊎ AreTracesScalars o T one x q d z i old
      → (n ≤ length new) ⊎ AreScalars o T one (trace_in o T q d y) new
      → (n ≤ length new) ⊎ AreTracesScalars o T one x q d z (i + 1) new
  traces_step one x q d n i z y constants old new is_one h e finer full id before now = ⊎_elim
      (λ (big : n ≤ length old). inl (full big))
      (λ (sc : AreTracesScalars o T one x q d z i old). ⊎_elim
      (λ (big : n ≤ length new). inl big)
      (λ (t : AreScalars o T one (trace_in o T q d y) new). inr (λ j lj. ⊎_elim
      (λ (l : j < i). scalars_finer o T one (trace_of_multiple o T x q d z j) new old finer
      (λ c hc. let k = h.central j (omega (arith, l, id)) in
      less_tuple one is_one (trace_of_multiple o T x q d z j) k c hc)
      (sc j l))
      (λ (l : i ≤ j). let same : i ≡ j = omega (arith, l, lj) in
      subst (λ a. AreScalars o T one (trace_of_multiple o T x q d z a) new) same
      (subst (λ v. AreScalars o T one (trace_in o T q d v) new) e t))
      (cases_lt j i)))
      now)
      before

  -- one more solution
  pub solutions_step : (one : List E) (x : E) (q d n t : ℕ) (z : ℕ → List E) (constants : List E)
      (old new : List (Rows E))
      → IsIdentity o T one → ((a : ℕ) → a < t + 1 → HasValuedTraces o T one constants x q d (z a))
      → Refines o T new old → (n ≤ length old → n ≤ length new)
      → (n ≤ length old) ⊎ ((a : ℕ) → a < t → AreTracesScalars o T one x q d (z a) d old)
      → (n ≤ length new) ⊎ AreTracesScalars o T one x q d (z t) d new
      → (n ≤ length new) ⊎ ((a : ℕ) → a < t + 1 → AreTracesScalars o T one x q d (z a) d new)
  solutions_step one x q d n t z constants old new is_one h finer full before now = ⊎_elim
      (λ (big : n ≤ length old). inl (full big))
      (λ (sc : (a : ℕ) → a < t → AreTracesScalars o T one x q d (z a) d old). ⊎_elim
      (λ (big : n ≤ length new). inl big)
      (λ (s : AreTracesScalars o T one x q d (z t) d new). inr (λ a la. ⊎_elim
      (λ (l : a < t). λ j lj. scalars_finer o T one (trace_of_multiple o T x q d (z a) j) new old finer
      (λ c hc. let w = h a la in less_tuple one is_one (trace_of_multiple o T x q d (z a) j) (w.central j lj) c hc)
      (sc a l j lj))
      (λ (l : t ≤ a). let same : t ≡ a = omega (arith, l, la) in
      subst (λ b. AreTracesScalars o T one x q d (z b) d new) same s)
      (cases_lt a t)))
      now)
      before
