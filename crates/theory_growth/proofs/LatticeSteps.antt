-- Sets closed under sums and integral multiples, each properly within the next, between a lattice of n vectors and what
-- a power p^s carries into it: they rise in at most n·s steps. (For each coordinate l and each e below s it is noted
-- whether a member with zeros before l has q^(e+1) at l; one of these notes changes with each step.)
use Rattle.std.specs.Prelude.{◌≡◌, ◌<◌, ◌≤◌, ◌+◌, ◌-◌, ◌*◌, ◌/◌, ◌%◌, ℕ, zero, suc, ◌⊎◌}
use Rattle.std.proofs.Common.{refl, sym, ◌∙◌, ap, ap₂, subst, arith, inl, inr, ⊎_elim}
use Rattle.std.proofs.lemmas.Bool.{cases_lt}
use Rattle.std.proofs.lemmas.Nat.{div-mul-add, mod-mul-add}
use Rattle.theory_rings.specs.Ring.{FieldOn}
use Rattle.theory_rings.specs.Power.{power}
use Rattle.theory_rings.proofs.Rings.RingLaws.{mul-zero, add-zero, add-neg, neg-mul}
use Rattle.theory_rings.proofs.Rings.Solver.{◌⊠◌, ring5}
use Rattle.theory_rings.proofs.Powers.Powers.{power-mul, power-one}
use Rattle.theory_rings.proofs.Numbers.Pigeonhole.{surjective_of_injective}
use Rattle.theory_spaces.specs.Module.{ModuleOn}
use Rattle.theory_spaces.specs.Linear.{Basis}
use Rattle.theory_spaces.specs.Valuation.{ValuationOn}
use Rattle.theory_spaces.specs.Sets.{Within}
use Rattle.theory_spaces.proofs.Linear.Families.{choose_each, below_suc}
use Rattle.theory_spaces.proofs.Linear.Modules.{comb_zero, zero-scale}
use Rattle.theory_spaces.proofs.Matrices.Matrices.{delta-same, delta-other}
use Rattle.theory_spaces.proofs.Matrices.PairIndex.{pair-lt}
use Rattle.theory_orders.specs.Uniformizer.{IsIntegral, IsUnit, UniformizerOn}
use Rattle.theory_orders.proofs.Splitting.Composition.{NotNot}
use Rattle.theory_residue.proofs.ResidueAlgebra.{coord-vec}

-- finitely many facts that cannot be refuted cannot be refuted together
none_refuted : (k : ℕ) (Q : ℕ → Type 0) → ((i : ℕ) → i < k → NotNot (Q i)) → NotNot ((i : ℕ) → i < k → Q i)
none_refuted zero Q h stop = stop (λ i l. absurd (omega arith))
none_refuted (suc k) Q h stop = none_refuted k Q (λ i l. h i (omega arith)) (λ f.
    h k (omega arith) (λ c. stop (below_suc k Q f c)))

module _ {K V : Type 0} (F : FieldOn K) (Z : ValuationOn F) (p q : K) (U : UniformizerOn F Z p q)
    (M : ModuleOn F.ring V) (n : ℕ) (B : Basis M n) where
  infixl 65 ◌⊕◌
  infixl 70 ◌⊗◌
  infixl 70 ◌•◌
  open M use {◌⊕◌, ◌•◌}
  open F use {◌⊗◌}

  abbrev In : K → Type 0
  In = IsIntegral F Z

  -- what p^s makes integral is integral, or a unit times a power of q of exponent 1 to s
  split : (s : ℕ) (c : K) → In (power F.ring p s ⊗ c)
      → In c ⊎ ((e : ℕ) × (e < s) × (u : K) × In u × IsUnit F Z u × (c ≡ u ⊗ power F.ring q (suc e)))
  split zero c h = inl (subst In (F.one-mul c) h)
  split (suc s) c h =
      let P = power F.ring p s in
      let Q = power F.ring q s in
      let u = (p ⊗ P) ⊗ c in
      let qp : q ⊗ p ≡ F.one = F.mul_comm q p ∙ U.pq in
      ⊎_elim
      (λ (m : In (q ⊗ u)). ⊎_elim
      (λ (i : In c). inl i)
      (λ (r : (e : ℕ) × (e < s) × (u : K) × In u × IsUnit F Z u × (c ≡ u ⊗ power F.ring q (suc e))).
      let l = r.1 in inr (r.0, omega arith, r.2, r.3, r.4, r.5))
      (split s c (subst In (ring4' q p P c ∙ ap (λ x. x ⊗ (P ⊗ c)) qp ∙ F.one-mul (P ⊗ c)) m)))
      (λ (w : IsUnit F Z u). inr (
        s,
        omega arith,
        u,
        h,
        w,
        sym (ring5 F.cring (λ p P c q Q. (((p ⊠ P) ⊠ c) ⊠ (q ⊠ Q), ((p ⊠ q) ⊠ (P ⊠ Q)) ⊠ c)) refl p P c q Q
            ∙ ap₂ (λ x y. (x ⊗ y) ⊗ c) U.pq
            (sym (power-mul F.ring p q (F.mul_comm p q) s) ∙ ap (λ x. power F.ring x s) U.pq ∙ power-one F.ring s)
            ∙ ap (λ x. x ⊗ c) (F.one-mul F.one) ∙ F.one-mul c),
      ))
      (U.multiple_or_unit u h)
    where
      ring4' : (q p P c : K) → q ⊗ ((p ⊗ P) ⊗ c) ≡ (q ⊗ p) ⊗ (P ⊗ c)
      ring4' q p P c = ap (F.◌⊗◌ q) (F.mul_assoc p P c) ∙ sym (F.mul_assoc q p (P ⊗ c))

  -- sets that rise from a lattice, and that p^s carries into it
  pub record RisingSets (k s : ℕ) (C : ℕ → V → Type 0) : Type 0 where
    pub zero_in : (i : ℕ) → i < suc k → C i M.zero
    pub add_in : (i : ℕ) → i < suc k → (x y : V) → C i x → C i y → C i (x ⊕ y)
    pub scale_in : (i : ℕ) → i < suc k → (a : K) (x : V) → In a → C i x → C i (a • x)
    pub holds : (j : ℕ) → j < n → C 0 (B.vec j)
    pub rises : (i : ℕ) → i < k → Within (C i) (C (suc i))
    pub reach : (i : ℕ) → i < k → (x : V) → C (suc i) x → (l : ℕ) → l < n → In (power F.ring p s ⊗ B.coord x l)
    pub step : (i : ℕ) → i < k → (x : V) × C (suc i) x × (C i x → ⊥)

  module _ (k s : ℕ) (C : ℕ → V → Type 0) (R : RisingSets k s C) where
    -- a member of C i with zeros before l and q^(e+1) there
    abbrev Has : ℕ → ℕ → ℕ → Type 0
    Has i l e = (x : V) × C i x × ((j : ℕ) → j < l → B.coord x j ≡ F.zero) × (B.coord x l ≡ power F.ring q (suc e))

    higher : (d i : ℕ) → i + d < suc k → Within (C i) (C (i + d))
    higher zero i l x h = let e : i ≡ i + zero = omega arith in subst (λ j. C j x) e h
    higher (suc d) i l x h =
        let e : suc (i + d) ≡ i + suc d = omega arith in
        subst (λ j. C j x) e (R.rises (i + d) (omega arith) x (higher d i (omega arith) x h))

    from_first : (i : ℕ) → i < suc k → Within (C 0) (C i)
    from_first i l x h = let e : 0 + i ≡ i = omega arith in subst (λ j. C j x) e (higher i 0 (omega arith) x h)

    -- x less c times y
    less : V → K → V → V
    less x c y = x ⊕ F.neg c • y

    coord-less : (x y : V) (c : K) (j : ℕ) → B.coord (less x c y) j ≡ F.◌⊕◌ (B.coord x j) (F.neg (c ⊗ B.coord y j))
    unfolding less
    coord-less x y c j = B.coord-add x (F.neg c • y) j
        ∙ ap (F.◌⊕◌ (B.coord x j)) (B.coord-scale (F.neg c) y j ∙ neg-mul F.ring c (B.coord y j))

    back : (x y : V) (c : K) → less x c y ⊕ c • y ≡ x
    unfolding less
    back x y c = M.add_assoc x (F.neg c • y) (c • y)
        ∙ ap (λ z. x ⊕ z) (sym (M.add-scale (F.neg c) c y) ∙ ap (λ a. a • y) (F.neg-add c) ∙ zero-scale M y)
        ∙ add-zero M.monoid x

    -- where no note changes, nothing is new
    module _ (i : ℕ) (i_in : i < k) (none : (l e : ℕ) → l < n → e < s → Has (suc i) l e → NotNot (Has i l e)) where
      zeros : (x y : V) (c : K) (l : ℕ) → ((j : ℕ) → j < l → B.coord x j ≡ F.zero)
          → ((j : ℕ) → j < l → B.coord y j ≡ F.zero) → B.coord x l ≡ c ⊗ B.coord y l
          → (j : ℕ) → j < suc l → B.coord (less x c y) j ≡ F.zero
      zeros x y c l hx hy e = below_suc l (λ j. B.coord (less x c y) j ≡ F.zero)
          (λ j g. coord-less x y c j ∙ ap₂ (λ a b. F.◌⊕◌ a (F.neg (c ⊗ b))) (hx j g) (hy j g)
          ∙ ap (λ a. F.◌⊕◌ F.zero (F.neg a)) (mul-zero F.ring c) ∙ add-neg F.additive F.zero)
          (coord-less x y c l ∙ ap (λ a. F.◌⊕◌ a (F.neg (c ⊗ B.coord y l))) e ∙ add-neg F.additive (c ⊗ B.coord y l))

      minus_in : (x y : V) (c : K) → In c → C (suc i) x → C (suc i) y → C (suc i) (less x c y)
      unfolding less
      minus_in x y c hc hx hy = R.add_in (suc i) (omega arith) x (F.neg c • y) hx
          (R.scale_in (suc i) (omega arith) (F.neg c) y (Z.neg_in c hc) hy)

      all_in : (d l : ℕ) → l + d ≡ n → (x : V) → C (suc i) x → ((j : ℕ) → j < l → B.coord x j ≡ F.zero)
          → NotNot (C i x)
      all_in zero l e x hx z stop =
          stop (subst (C i) (sym (B.expand x ∙ comb_zero M n (B.coord x) B.vec (λ j g. z j (omega arith))))
          (R.zero_in i (omega arith)))
      all_in (suc d) l e x hx z stop =
          let l_in : l < n = omega arith in
          let c = B.coord x l in
          let next = λ (y : V) (u : K) (hu : In u) (hy : C i y) (zy : (j : ℕ) → j < l → B.coord y j ≡ F.zero)
          (at : c ≡ u ⊗ B.coord y l).
          all_in d (suc l) (omega arith) (less x u y) (minus_in x y u hu hx (R.rises i i_in y hy))
          (zeros x y u l z zy at)
          (λ m. stop (subst (C i) (back x y u) (R.add_in i (omega arith) (less x u y) (u • y) m
          (R.scale_in i (omega arith) u y hu hy)))) in
          ⊎_elim
          (λ (h : In c). next (B.vec l) c h (from_first i (omega arith) (B.vec l) (R.holds l l_in))
          (λ j g. coord-vec M n B l j l_in (omega arith) ∙ delta-other F.ring l j (λ q. omega arith))
          (sym (ap (F.◌⊗◌ c) (coord-vec M n B l l l_in l_in ∙ delta-same F.ring l) ∙ F.mul-one c)))
          (λ (r : (e : ℕ) × (e < s) × (u : K) × In u × IsUnit F Z u × (c ≡ u ⊗ power F.ring q (suc e))).
          let u = r.2 in
          let v = F.inv u in
          let y = v • x in
          let has : Has (suc i) l r.0 = (
            y,
            R.scale_in (suc i) (omega arith) v x r.4.1 hx,
            λ j g. B.coord-scale v x j ∙ ap (F.◌⊗◌ v) (z j g) ∙ mul-zero F.ring v,
            B.coord-scale v x l ∙ ap (F.◌⊗◌ v) r.5 ∙ sym (F.mul_assoc v u (power F.ring q (suc r.0)))
                ∙ ap (λ a. a ⊗ power F.ring q (suc r.0)) (F.inv-mul u r.4.0) ∙ F.one-mul (power F.ring q (suc r.0)),
          ) in
          none l r.0 l_in r.1 has (λ y. next y.0 u r.3 y.1 y.2 (r.5 ∙ ap (F.◌⊗◌ u) (sym y.3))))
          (split s c (R.reach i i_in x hx l l_in))

    -- note t, with l and e as the digits of t in base s
    abbrev Note : ℕ → ℕ → Type 0
    Note i t = Has i (t / s) (t % s)

    -- it changes at step i
    abbrev Changes : ℕ → ℕ → Type 0
    Changes i t = (t < n * s) × Note (suc i) t × (Note i t → ⊥)

    some_change : (i : ℕ) → i < k → NotNot ((t : ℕ) × Changes i t)
    some_change i i_in stop =
        let w = R.step i i_in in
        none_refuted n (λ l. (e : ℕ) → e < s → Has (suc i) l e → NotNot (Has i l e))
        (λ l l_in no. no (λ e e_in has out.
        let f = div-mul-add l s e e_in in
        let g = mod-mul-add l s e e_in in
        stop (
          l * s + e,
          (
            pair-lt n s l e l_in e_in,
            subst (λ x. Has (suc i) x ((l * s + e) % s)) (sym f) (subst (λ x. Has (suc i) l x) (sym g) has),
            λ h. out (subst (λ x. Has i l x) g (subst (λ x. Has i x ((l * s + e) % s)) f h)),
          ),
        )))
        (λ none. all_in i i_in (λ l e l_in e_in. none l l_in e e_in) n 0 (omega arith) w.0 w.1
        (λ j g. absurd (omega arith)) w.2)

    -- a note that changed stays
    stays : (i j t : ℕ) → i < j → j < k → Changes i t → Changes j t → ⊥
    stays i j t l g c c' =
        let h = c.1 in
        let e : suc i + (j - suc i) ≡ j = omega arith in
        c'.2 (h.0, subst (λ j. C j h.0) e (higher (j - suc i) (suc i) (omega arith) h.0 h.1), h.2, h.3)

    pub at_most : k ≤ n * s
    at_most = ⊎_elim
        (λ (l : n * s < k). absurd (none_refuted k (λ i. (t : ℕ) × Changes i t) some_change (λ f.
        let c = choose_each k (λ i t. Changes i t) 0 f in
        let N = n * s in
        let t = c.0 in
        let h = c.1 in
        let one : (a b : ℕ) → a < suc N → b < suc N → t a ≡ t b → a ≡ b = λ a b la lb e. ⊎_elim
        (λ (g : a < b). absurd (stays a b (t b) g (omega arith)
        (subst (Changes a) e (h a (omega arith))) (h b (omega arith))))
        (λ (g : b ≤ a). ⊎_elim
        (λ (g' : b < a). absurd (stays b a (t a) g' (omega arith)
        (subst (Changes b) (sym e) (h b (omega arith))) (h a (omega arith))))
        (λ (g' : a ≤ b). let r : a ≡ b = omega arith in r)
        (cases_lt b a))
        (cases_lt a b) in
        let r = surjective_of_injective (suc N) t
        (λ a la. let u = (h a (omega arith)).0 in omega arith) one N (omega arith) in
        let ra = r.1 in
        let u = (h r.0 (omega arith)).0 in
        let w = r.2 in omega arith)))
        (λ (l : k ≤ n * s). l)
        (cases_lt (n * s) k)
