-- The steps of the loops that keep the subspaces among candidates that are not everything; and scalars modulo finer
-- lists.
use Rattle.std.specs.Prelude.{◌≡◌, ◌⊎◌, ◌+◌, ◌*◌, ◌/◌, ◌%◌, ◌<◌, ◌≤◌, ◌++◌, ℕ, suc, List, [], ◌∷◌, length, get_or}
use Rattle.std.proofs.Common.{refl, sym, ◌∙◌, ap, subst, inl, inr, ⊎_elim, arith, length-append}
use Rattle.std.proofs.lemmas.Bool.{cases_lt}
use Rattle.std.proofs.lemmas.List.{get_or_append_left, get_or_push, get_or_default}
use Rattle.std.proofs.lemmas.Nat.{div-mul-add}
use Rattle.std.proofs.Math.Nat.{mul-add-mod_self_right, mod-eq_of_lt}
use Rattle.theory_rings.specs.Ops.{Ops, IsElem}
use Rattle.theory_spaces.specs.Families.{push}
use Rattle.theory_spaces.proofs.Linear.Families.{push-below, push-at}
use Rattle.theory_spaces.specs.Tuples.{IsTuple}
use Rattle.theory_tables.specs.Subspace.{Rows, IsSubspace, SpansSum}
use Rattle.theory_tables.specs.Structure.{Structure}
use Rattle.spl_blocks.specs.Blocks.{rows_at}
use Rattle.spl_blocks.specs.Splits.{AreKept, item, Refines, AreScalars, less_multiple, IsProperIdeal, IsSumOf}

module _ {E : Type 0} (o : Ops E) (T : Structure E) where
  abbrev none : Rows E
  none = record { width = T.dim; rows = [] }

  module _ (Is : ℕ → Rows E → Type 0) where
    pub kept_none : (n : ℕ) → n ≡ 0 → (list : List (Rows E)) → list ≡ [] → AreKept o T n Is list
    kept_none n z list e = subst (AreKept o T n Is) (sym e) (record {
      origin = λ k. k;
      within = λ k l. absurd (omega (arith, l));
      ordered = λ k j l g. absurd (omega (arith, g));
      candidate = λ k l. absurd (omega (arith, l));
      smaller = λ k l. absurd (omega (arith, l));
      others = λ r l. absurd (omega (arith, l, z));
    })

    kept_same : (n : ℕ) (old new : List (Rows E)) (s : Rows E) → AreKept o T n Is old → Is n s → T.dim ≤ length s.rows
        → new ≡ old → AreKept o T (n + 1) Is new
    kept_same n old new s k is large e = subst (AreKept o T (n + 1) Is) (sym e) (record {
      origin = k.origin;
      within = λ j l. let h = k.within j l in omega arith;
      ordered = k.ordered;
      candidate = k.candidate;
      smaller = k.smaller;
      others = λ r l. ⊎_elim
          (λ (g : r < n). k.others r g)
          (λ (g : n ≤ r). let q : n ≡ r = omega arith in inr (s, subst (λ a. Is a s) q is, large))
          (cases_lt r n);
    })

    module _ (n : ℕ) (old new : List (Rows E)) (s : Rows E) (k : AreKept o T n Is old) (is : Is n s)
        (small : length s.rows < T.dim) (e : new ≡ old ++ s ∷ []) where
      abbrev j : ℕ
      j = length old

      long : length new ≡ suc j
      long = ap length e ∙ length-append old (s ∷ []) ∙ (let h : j + 1 ≡ suc j = omega arith in h)

      before : (i : ℕ) → i < j → item o T new i ≡ item o T old i
      before i l = ap (λ xs. get_or xs i none) e ∙ get_or_append_left old (s ∷ []) none i l

      last : item o T new j ≡ s
      last = ap (λ xs. get_or xs j none) e ∙ get_or_push old s none j refl

      origin : ℕ → ℕ
      origin = push j n k.origin

      origin-before : (i : ℕ) → i < j → origin i ≡ k.origin i
      unfolding origin
      origin-before i l = push-below j n k.origin i l

      origin-last : origin j ≡ n
      unfolding origin
      origin-last = push-at j n k.origin

      by_place : (P : ℕ → Type 0) → ((i : ℕ) → i < j → P i) → P j → (i : ℕ) → i < length new → P i
      by_place P low high i l = ⊎_elim
          (λ (g : i < j). low i g)
          (λ (g : j ≤ i). let q : j ≡ i = omega (arith, l, long, g) in subst P q high)
          (cases_lt i j)

      kept_more : AreKept o T (n + 1) Is new
      kept_more = record {
        origin = origin;
        within = by_place (λ i. origin i < n + 1)
            (λ i l. let h = k.within i l in let q = origin-before i l in omega arith)
            (let q = origin-last in omega arith);
        ordered = λ a b l g. ⊎_elim
            (λ (low : b < j).
            let la : a < j = omega arith in
            let h = k.ordered a b l low in
            let qa = origin-before a la in
            let qb = origin-before b low in
            omega arith)
            (λ (high : j ≤ b).
            let q : j ≡ b = omega (arith, g, long, high) in
            let la : a < j = omega arith in
            let h = k.within a la in
            let qa = origin-before a la in
            let qb : origin b ≡ n = ap origin (sym q) ∙ origin-last in
            omega arith)
            (cases_lt b j);
        candidate = by_place (λ i. Is (origin i) (item o T new i))
            (λ i l. subst (Is (origin i)) (sym (before i l))
            (subst (λ r. Is r (item o T old i)) (sym (origin-before i l)) (k.candidate i l)))
            (subst (Is (origin j)) (sym last) (subst (λ r. Is r s) (sym origin-last) is));
        smaller = by_place (λ i. length (rows_at o T new i) < T.dim)
            (λ i l. subst (λ (t : Rows E). length t.rows < T.dim) (sym (before i l)) (k.smaller i l))
            (subst (λ (t : Rows E). length t.rows < T.dim) (sym last) small);
        others = λ r l. ⊎_elim
            (λ (g : r < n). ⊎_elim
            (λ (p : (i : ℕ) × (i < length old) × (k.origin i ≡ r)).
            inl (p.0, omega (arith, p.1, long), origin-before p.0 p.1 ∙ p.2))
            inr
            (k.others r g))
            (λ (g : n ≤ r). let q : n ≡ r = omega arith in inl (j, omega (arith, long), origin-last ∙ q))
            (cases_lt r n);
      }

    pub kept_step : (n : ℕ) (old new : List (Rows E)) (s : Rows E) → AreKept o T n Is old → Is n s
        → ((length s.rows < T.dim) × (new ≡ old ++ s ∷ [])) ⊎ ((T.dim ≤ length s.rows) × (new ≡ old))
        → AreKept o T (n + 1) Is new
    kept_step n old new s k is h = ⊎_elim
        (λ (p : (length s.rows < T.dim) × (new ≡ old ++ s ∷ [])). kept_more n old new s k is p.0 p.1)
        (λ (p : (T.dim ≤ length s.rows) × (new ≡ old)). kept_same n old new s k is p.0 p.1)
        h

    pub kept_step_by : (n w : ℕ) → w ≡ T.dim → (old new : List (Rows E)) (s : Rows E) → AreKept o T n Is old → Is n s
        → ((length s.rows < w) × (new ≡ old ++ s ∷ [])) ⊎ ((w ≤ length s.rows) × (new ≡ old))
        → AreKept o T (n + 1) Is new
    kept_step_by n w dim old new s k is h = kept_step n old new s k is
        (subst (λ d. ((length s.rows < d) × (new ≡ old ++ s ∷ [])) ⊎ ((d ≤ length s.rows) × (new ≡ old))) dim h)

  pub item_at : (list : List (Rows E)) (i : ℕ) (x : Rows E) → i < length list → x ≡ get_or list i x
      → x ≡ item o T list i
  item_at list i x l e = e ∙ get_or_default list i x none l

  pub proper_subspace : (list : List (Rows E)) (i : ℕ) (x : Rows E) → x ≡ item o T list i
      → IsProperIdeal o T (item o T list i) → IsSubspace o x
  proper_subspace list i x e h = subst (IsSubspace o) (sym e) h.basis

  pub proper_width : (list : List (Rows E)) (i : ℕ) (x : Rows E) → x ≡ item o T list i
      → IsProperIdeal o T (item o T list i) → x.width ≡ T.dim
  proper_width list i x e h = ap (λ (y : Rows E). y.width) e ∙ h.width

  pub sum_candidate : (left right : List (Rows E)) (i j : ℕ) → j < length right → (x y s : Rows E) → x ≡ item o T left i
      → y ≡ item o T right j → x.width ≡ T.dim → IsSubspace o s → s.width ≡ x.width
      → SpansSum o x.width s.rows x.rows y.rows → IsSumOf o T left right (i * length right + j) s
  sum_candidate left right i j lj x y s ex ey wx basis width members =
      let lb = length right in
      let row : i ≡ (i * lb + j) / lb = sym (div-mul-add i lb j lj) in
      let column : j ≡ (i * lb + j) % lb = sym (mul-add-mod_self_right i lb j ∙ mod-eq_of_lt lj) in
      record {
        basis = basis;
        width = width ∙ wx;
        members = subst (λ (a : List (List E)). SpansSum o T.dim s.rows a (rows_at o T right ((i * lb + j) % lb)))
            (ap (λ (v : Rows E). v.rows) (ex ∙ ap (item o T left) row))
            (subst (λ (b : List (List E)). SpansSum o T.dim s.rows x.rows b)
            (ap (λ (v : Rows E). v.rows) (ey ∙ ap (item o T right) column))
            (subst (λ w. SpansSum o w s.rows x.rows y.rows) wx members));
      }

  -- a scalar modulo the items of a list is one modulo those of a finer one
  pub scalars_finer : (one t : List E) (fine coarse : List (Rows E)) → Refines o T fine coarse
      → ((c : E) → IsElem o c → IsTuple o T.dim (less_multiple o T one t c))
      → AreScalars o T one t coarse → AreScalars o T one t fine
  scalars_finer one t fine coarse f tuple h i l =
      let p = f i l in
      let c = h p.0 p.1 in
      (c.0, c.1, p.2 (less_multiple o T one t c.0) (tuple c.0 c.1) c.2)

  pub finer_self : (list : List (Rows E)) → Refines o T list list
  finer_self list i l = (i, l, λ v tv h. h)

  pub finer_trans : (a b c : List (Rows E)) → Refines o T a b → Refines o T b c → Refines o T a c
  finer_trans a b c f g i l =
      let p = f i l in
      let q = g p.0 p.1 in
      (q.0, q.1, λ v tv h. p.2 v tv (q.2 v tv h))
