-- Rows over a Euclidean degree can be reduced: as long as two rows lead at one place, one of them gives way to a lower
-- row of the same span.
use Rattle.std.specs.Prelude.{◌≡◌, ℕ, zero, suc, ◌+◌, ◌*◌, ◌<◌, ◌≤◌, cond, eqb, ℤ, pos, negsuc, ◌+ℤ◌, ◌-ℤ◌, ◌≤ℤ◌, ◌<ℤ◌}
use Rattle.std.specs.Prelude.{◌⊎◌}
use Rattle.std.proofs.Common.{refl, sym, ◌∙◌, ap, ap₂, subst, arith, ⊎_elim, inl, inr, mul-le-mul_right, add-mul}
use Rattle.std.proofs.lemmas.Int.{ints}
use Rattle.std.proofs.lemmas.Bool.{cases_lt, cases_eq, eq-eqb, ne_eqb}
use Rattle.std.proofs.Math.Path.{fun_ext}
use Rattle.theory_rings.specs.Ring.{RingOn}
use Rattle.theory_rings.specs.Sum.{sum}
use Rattle.theory_rings.specs.Naturals.{nat_monoid}
use Rattle.theory_rings.proofs.Rings.RingLaws.{add-zero, neg-mul}
use Rattle.theory_rings.proofs.Sums.Bump.{bump, bump-apart}
use Rattle.theory_rings.proofs.Sums.Sums.{sum_congr, sum_take_out}
use Rattle.theory_spaces.specs.Module.{ModuleOn}
use Rattle.theory_spaces.specs.Linear.{InSpan}
use Rattle.theory_spaces.specs.Functions.{functions}
use Rattle.theory_spaces.proofs.Linear.Modules.{InSpan-add, InSpan-scale, InSpan_trans, InSpan-member}
use Rattle.theory_lattices.specs.Degree.{DegreeOn, DegreeBelow, HasDegree, IsEuclidean}
use Rattle.theory_lattices.specs.ReducedRows.{LeadsAt, Lead, WeakPopov, SameSpan, less_multiple}
use Rattle.theory_lattices.proofs.Degree.Degrees.{cases_int, not_below_of_degree}
use Rattle.theory_lattices.proofs.Rows.ReductionStep.{lead_of, step_lower}

-- Rows of polynomials can be reduced: as long as two rows lead at one place, one of them gives way to a lower row of
-- the same lattice.

abbrev pub nat : ℤ → ℕ
nat (pos n) = n
nat (negsuc n) = 0

-- v with x in the place of the vector at k
abbrev pub put : {V : Type 0} → ℕ → V → (ℕ → V) → ℕ → V
put k x v i = cond (eqb i k) x (v i)

put-at : {V : Type 0} (k : ℕ) (x : V) (v : ℕ → V) → put k x v k ≡ x
put-at k x v = ap (λ b. cond b x (v k)) (eq-eqb k k refl)

put-else : {V : Type 0} (k : ℕ) (x : V) (v : ℕ → V) (i : ℕ) → (i ≡ k → ⊥) → put k x v i ≡ v i
put-else k x v i d = ap (λ b. cond b x (v i)) (ne_eqb i k d)

key_smaller : (w a p b r : ℕ) → r < w → (a < b) ⊎ ((a ≤ b) × (r < p)) → a * w + r + 1 < b * w + p + 1
key_smaller w a p b r l (inl h) = let g : suc a * w ≤ b * w = mul-le-mul_right w h in let e = add-mul a 1 w in
    omega arith
key_smaller w a p b r l (inr h) = let h0 = h.0 in let h1 = h.1 in let g : a * w ≤ b * w = mul-le-mul_right w h0 in
    omega arith

module _ {K : Type 0} {R : RingOn K} (W : DegreeOn R) (euclid : IsEuclidean W) (w : ℕ) where
  open euclid use {natural, cancel}

  abbrev M : ModuleOn R (ℕ → K)
  M = functions R

  abbrev Z : (ℕ → K) → Type 0
  Z row = (j : ℕ) → j < w → row j ≡ R.zero

  pub key_at : (row : ℕ → K) → Lead W w row ⊎ Z row → ℕ
  key_at row (inl h) = nat h.degree * w + h.place + 1
  key_at row (inr z) = 0

  -- how high a row leads
  pub key : (ℕ → K) → ℕ
  key row = key_at row (lead_of W w row)

  pub lead_unique : (row : ℕ → K) (a b : Lead W w row) → (a.degree ≡ b.degree) × (a.place ≡ b.place)
  lead_unique row a b =
      let l : b.degree ≤ℤ a.degree = not_higher row a b in
      let g : a.degree ≤ℤ b.degree = not_higher row b a in
      let e : a.degree ≡ b.degree = omega (arith, ints) in (
        e,
        between a.place b.place
            (λ h. not_below_of_degree W b.degree a.degree (row b.place) g b.leads.reaches
            (a.leads.after b.place b.leads.inside h))
            (λ h. not_below_of_degree W a.degree b.degree (row a.place) l a.leads.reaches
            (b.leads.after a.place a.leads.inside h)),
      )
    where
      not_higher : (row : ℕ → K) (a b : Lead W w row) → b.degree ≤ℤ a.degree
      not_higher row a b = ⊎_elim
          (λ (h : a.degree <ℤ b.degree).
          absurd (not_below_of_degree W b.degree (a.degree +ℤ pos 1) (row b.place)
          (omega (arith, ints)) b.leads.reaches (a.leads.within b.place b.leads.inside)))
          (λ (h : b.degree ≤ℤ a.degree). h) (cases_int a.degree b.degree)

      between : (x y : ℕ) → (x < y → ⊥) → (y < x → ⊥) → x ≡ y
      between x y f g = ⊎_elim (λ (h : x < y). absurd (f h))
          (λ (h : y ≤ x). ⊎_elim (λ (q : y < x). absurd (g q)) (λ (q : x ≤ y). omega arith) (cases_lt y x))
          (cases_lt x y)

  pub key_is : (row : ℕ → K) (h : Lead W w row) → key row ≡ nat h.degree * w + h.place + 1
  unfolding key key_at
  key_is row h = go (lead_of W w row)
    where
      go : (s : Lead W w row ⊎ Z row) → key_at row s ≡ nat h.degree * w + h.place + 1
      go (inl a) = let u = lead_unique row a h in ap₂ (λ d p. nat d * w + p + 1) u.0 u.1
      go (inr z) = absurd (h.leads.reaches.nonzero (z h.place h.leads.inside))

  pub key_zero : (row : ℕ → K) → Z row → key row ≡ 0
  unfolding key key_at
  key_zero row z = go (lead_of W w row)
    where
      go : (s : Lead W w row ⊎ Z row) → key_at row s ≡ 0
      go (inl h) = absurd (h.leads.reaches.nonzero (z h.place h.leads.inside))
      go (inr z) = refl

  -- two rows that lead at one place, the first of no greater degree
  pub record Conflict (low high : ℕ → K) : Type 0 where
    pub a : Lead W w low
    pub b : Lead W w high
    pub place : a.place ≡ b.place
    pub degree : a.degree ≤ℤ b.degree

  -- the row that takes the place of the higher one
  pub record Lower (low high : ℕ → K) : Type 0 where
    pub factor : K
    pub smaller : key (less_multiple R high factor low) < key high

  nat_le : (d e : ℤ) → pos 0 ≤ℤ d → d ≤ℤ e → nat d ≤ nat e
  nat_le (pos n) (pos m) h g = omega (arith, ints)
  nat_le (pos n) (negsuc m) h g = absurd (omega (arith, ints))
  nat_le (negsuc n) e h g = absurd (omega (arith, ints))

  nat_lt : (d e : ℤ) → pos 0 ≤ℤ d → d <ℤ e → nat d < nat e
  nat_lt (pos n) (pos m) h g = omega (arith, ints)
  nat_lt (pos n) (negsuc m) h g = absurd (omega (arith, ints))
  nat_lt (negsuc n) e h g = absurd (omega (arith, ints))

  pub lower : (low high : ℕ → K) → Conflict low high → Lower low high
  lower low high c =
      let p = c.b.place in
      let Q : ℕ → Type 0 = λ t. LeadsAt W w low c.a.degree t in
      let low_leads : LeadsAt W w low c.a.degree p = subst Q c.place c.a.leads in
      let x = c.b.leads.reaches in
      let y = low_leads.reaches in
      let dx = x.degree in
      let dy = y.degree in
      let cd = c.degree in
      let m = cancel (high p) (low p) x.nonzero y.nonzero (omega (arith, ints)) in
      let D : ℤ → Type 0 = λ t. HasDegree W t m.0 in
      let e1 : W.deg (high p) -ℤ W.deg (low p) ≡ c.b.degree -ℤ c.a.degree = omega (arith, ints) in
      let U : ℤ → Type 0 = λ t. DegreeBelow W t (less_multiple R high m.0 low p) in
      let new = less_multiple R high m.0 low in
      let step = step_lower W w high low c.b.degree c.a.degree p m.0 c.b.leads low_leads (subst D e1 m.1)
      (subst U dx m.2) in
      record {
        factor = m.0;
        smaller = ⊎_elim
            (λ (h : Lead W w new). rw (key_is new h, key_is high c.b)
            (let hx = h.leads.reaches in let n0 = natural (new h.place) hx.nonzero in let hd = hx.degree in
            let n1 : pos 0 ≤ℤ h.degree = omega (arith, ints) in
            key_smaller w (nat h.degree) p (nat c.b.degree) h.place h.leads.inside
            (⊎_elim (λ (l : h.degree <ℤ c.b.degree). inl (nat_lt h.degree c.b.degree n1 l))
            (λ (l : (h.degree ≤ℤ c.b.degree) × (h.place < p)). inr (nat_le h.degree c.b.degree n1 l.0, l.1)) (step h))))
            (λ (z : Z new). rw (key_zero new z, key_is high c.b) (omega arith))
            (lead_of W w new);
      }

  NoConflict : (ℕ → K) → (ℕ → K) → Type 0
  NoConflict x y = (a : Lead W w x) (b : Lead W w y) → a.place ≡ b.place → ⊥

  conflict_or : (x y : ℕ → K) → (Conflict x y ⊎ Conflict y x) ⊎ NoConflict x y
  unfolding NoConflict
  conflict_or x y = go (lead_of W w x) (lead_of W w y)
    where
      go : Lead W w x ⊎ Z x → Lead W w y ⊎ Z y → (Conflict x y ⊎ Conflict y x)
          ⊎ ((a : Lead W w x) (b : Lead W w y) → a.place ≡ b.place → ⊥)
      go (inr z) t = inr (λ a b e. a.leads.reaches.nonzero (z a.place a.leads.inside))
      go (inl a) (inr z) = inr (λ a b e. b.leads.reaches.nonzero (z b.place b.leads.inside))
      go (inl a) (inl b) = ⊎_elim
          (λ (e : a.place ≡ b.place). inl (⊎_elim
          (λ (l : b.degree <ℤ a.degree). inr (record { a = b; b = a; place = sym e; degree = omega (arith, ints) }))
          (λ (l : a.degree ≤ℤ b.degree). inl (record { a = a; b = b; place = e; degree = l }))
          (cases_int b.degree a.degree)))
          (λ (d : a.place ≡ b.place → ⊥).
          inr (λ a' b' e. d (let u = lead_unique x a a' in let v = lead_unique y b b' in u.1 ∙ e ∙ sym v.1)))
          (cases_eq a.place b.place)

  record Pair (n : ℕ) (rows : ℕ → ℕ → K) : Type 0 where
    pub i : ℕ
    pub k : ℕ
    pub i_in : i < n
    pub k_in : k < n
    pub two : i ≡ k → ⊥
    pub conflict : Conflict (rows i) (rows k)

  -- the first place that yields P, or Q at all
  first : (n : ℕ) (P : Type 0) (Q : ℕ → Type 0) → ((i : ℕ) → i < n → P ⊎ Q i) → P ⊎ ((i : ℕ) → i < n → Q i)
  first zero P Q h = inr (λ i l. absurd (omega arith))
  first (suc n) P Q h = ⊎_elim (λ (p : P). inl p)
      (λ (f : (i : ℕ) → i < n → Q i).
      ⊎_elim (λ (p : P). inl p)
      (λ (q : Q n). inr (λ i l.
      ⊎_elim (λ (a : i < n). f i a) (λ (a : n ≤ i). let e : n ≡ i = omega arith in subst Q e q) (cases_lt i n)))
      (h n (omega arith)))
      (first n P Q (λ i l. h i (omega arith)))

  pair_or : (n : ℕ) (rows : ℕ → ℕ → K) → Pair n rows ⊎ WeakPopov W n w rows
  unfolding NoConflict
  pair_or n rows = ⊎_elim (λ (p : Pair n rows). inl p)
      (λ (f : (i : ℕ) → i < n → (k : ℕ) → k < n → (i ≡ k → ⊥) → NoConflict (rows i) (rows k)). inr
      (record { differ = λ i k l g d. f i l k g d }))
      (first n (Pair n rows) (λ i. (k : ℕ) → k < n → (i ≡ k → ⊥) → NoConflict (rows i) (rows k)) (λ i l.
      first n (Pair n rows) (λ k. (i ≡ k → ⊥) → NoConflict (rows i) (rows k)) (λ k g. ⊎_elim
      (λ (e : i ≡ k). inr (λ d. absurd (d e)))
      (λ (d : i ≡ k → ⊥). ⊎_elim
      (λ (c : Conflict (rows i) (rows k) ⊎ Conflict (rows k) (rows i)). inl (⊎_elim
      (λ (x : Conflict (rows i) (rows k)). record { i = i; k = k; i_in = l; k_in = g; two = d; conflict = x })
      (λ (x : Conflict (rows k) (rows i)). record {
        i = k;
        k = i;
        i_in = g;
        k_in = l;
        two = λ e. d (sym e);
        conflict =
            x;
      }) c))
      (λ (x : NoConflict (rows i) (rows k)). inr (λ _. x)) (conflict_or (rows i) (rows k)))
      (cases_eq i k))))

  pub replaced_span : (n i k : ℕ) (rows : ℕ → ℕ → K) (m : K) → i < n → k < n → (i ≡ k → ⊥)
      → SameSpan R n rows (put k (less_multiple R (rows k) m (rows i)) rows)
  replaced_span n i k rows m li lk d =
      let x = less_multiple R (rows k) m (rows i) in
      let new = put k x rows in
      let In : (ℕ → K) → Type 0 = λ r. InSpan M n rows r in
      let In' : (ℕ → K) → Type 0 = λ r. InSpan M n new r in
      let e1 : M.◌⊕◌ (rows k) (M.◌•◌ (R.neg m) (rows i)) ≡ x =
      fun_ext (λ j. ap (R.◌⊕◌ (rows k j)) (neg-mul R m (rows i j))) in
      let e2 : M.◌⊕◌ x (M.◌•◌ m (rows i)) ≡ rows k =
      fun_ext (λ j. R.add_assoc (rows k j) (R.neg (R.◌⊗◌ m (rows i j))) (R.◌⊗◌ m (rows i j))
      ∙ ap (R.◌⊕◌ (rows k j)) (R.neg-add (R.◌⊗◌ m (rows i j))) ∙ add-zero R.monoid (rows k j)) in
      let other : InSpan M n new (rows i) = subst In' (put-else k x rows i d) (InSpan-member M n i new li) in
      let own : InSpan M n new x = subst In' (put-at k x rows) (InSpan-member M n k new lk) in
      record {
        into = λ j l. ⊎_elim
            (λ (e : j ≡ k). let Q : ℕ
            → Type 0 = λ t. InSpan M n rows (new t) in subst Q (sym e) (subst In (sym (put-at k x rows))
            (subst In e1 (InSpan-add M n rows (rows k) (M.◌•◌ (R.neg m) (rows i)) (InSpan-member M n k rows lk)
            (InSpan-scale M n rows (R.neg m) (rows i) (InSpan-member M n i rows li))))))
            (λ (g : j ≡ k → ⊥). subst In (sym (put-else k x rows j g)) (InSpan-member M n j rows l)) (cases_eq j k);
        back = λ j l. ⊎_elim
            (λ (e : j ≡ k). let Q : ℕ → Type 0 = λ t. InSpan M n new (rows t) in subst Q (sym e)
            (subst In' e2 (InSpan-add M n new x (M.◌•◌ m (rows i)) own (InSpan-scale M n new m (rows i) other))))
            (λ (g : j ≡ k → ⊥). subst In' (put-else k x rows j g) (InSpan-member M n j new l)) (cases_eq j k);
      }

  pub total : ℕ → (ℕ → ℕ → K) → ℕ
  total n rows = sum nat_monoid n (λ i. key (rows i))

  pub total-put : (n k : ℕ) (x : ℕ → K) (rows : ℕ → ℕ → K) → k < n
      → total n (put k x rows) + key (rows k) ≡ total n rows + key x
  unfolding total
  total-put zero k x rows l = absurd (omega arith)
  total-put (suc n) k x rows l =
      let a = sum_take_out nat_monoid n k (λ i. key (put k x rows i)) l in
      let b = sum_take_out nat_monoid n k (λ i. key (rows i)) l in
      let c = sum_congr nat_monoid n (λ i. key (put k x rows (bump k i))) (λ i. key (rows (bump k i)))
      (λ i g. ap key (put-else k x rows (bump k i) (bump-apart k i))) in
      let d = ap key (put-at k x rows) in
      omega arith

  one_step : (n : ℕ) (rows : ℕ → ℕ → K) → Pair n rows → (new : ℕ → ℕ → K) × SameSpan R n rows new
      × (total n new < total n rows)
  one_step n rows p =
      let l = lower (rows p.i) (rows p.k) p.conflict in
      let x = less_multiple R (rows p.k) l.factor (rows p.i) in (
        put p.k x rows,
        replaced_span n p.i p.k rows l.factor p.i_in p.k_in p.two,
        (let t = total-put n p.k x rows p.k_in in let s = l.smaller in omega arith),
      )

  abbrev pub Reduction : ℕ → (ℕ → ℕ → K) → Type 0
  Reduction n rows = (new : ℕ → ℕ → K) × SameSpan R n rows new × WeakPopov W n w new

  done : (n : ℕ) (rows : ℕ → ℕ → K) → WeakPopov W n w rows → Reduction n rows
  done n rows a = (
    rows,
    record { into = λ i l. InSpan-member M n i rows l; back = λ i l. InSpan-member M n i rows l },
    a,
  )

  after_step : (n : ℕ) (rows mid : ℕ → ℕ → K) → SameSpan R n rows mid → Reduction n mid → Reduction n rows
  after_step n rows mid s r = (
    r.0,
    record {
      into = λ i l. InSpan_trans M n n mid rows (r.0 i) s.into (r.1.into i l);
      back = λ i l. InSpan_trans M n n mid r.0 (rows i) r.1.back (s.back i l);
    },
    r.2,
  )

  -- rows can be reduced
  pub reduced_rows : (fuel n : ℕ) (rows : ℕ → ℕ → K) → total n rows ≤ fuel → Reduction n rows
  reduced_rows zero n rows h = ⊎_elim
      (λ (p : Pair n rows). let s = one_step n rows p in let l = s.2 in absurd (omega arith))
      (λ (a : WeakPopov W n w rows). done n rows a) (pair_or n rows)
  reduced_rows (suc fuel) n rows h = ⊎_elim
      (λ (p : Pair n rows). let s = one_step n rows p in
      after_step n rows s.0 s.1 (reduced_rows fuel n s.0 (let l = s.2 in omega arith)))
      (λ (a : WeakPopov W n w rows). done n rows a) (pair_or n rows)

  pub reduction : (n : ℕ) (rows : ℕ → ℕ → K) → Reduction n rows
  reduction n rows = reduced_rows (total n rows) n rows (omega arith)
