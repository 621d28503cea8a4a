-- Each matrix over a field comes, by turning products round, from one whose rows are independent in a corner: from 0,
-- where it is nilpotent, and from the unit of the corner, where it is idempotent.
use Rattle.std.specs.Prelude.{◌≡◌, ℕ, zero, suc, ◌<◌, ◌≤◌, Bool, true, false, cond, ◌⊎◌, ltb, ◌&&◌}
use Rattle.std.proofs.Common.{refl, sym, ◌∙◌, ap, ap₂, subst, arith, inl, inr, ⊎_elim}
use Rattle.std.proofs.lemmas.Bool.{cases_lt, cases_eq, lt-ltb, le-ltb}
use Rattle.theory_rings.specs.Ring.{RingOn, FieldOn}
use Rattle.theory_rings.specs.Sum.{sum}
use Rattle.theory_rings.specs.Power.{power}
use Rattle.theory_rings.proofs.Rings.RingLaws.{mul-zero, zero-mul, mul-neg, neg-mul, neg_neg, neg_unique, add-neg}
use Rattle.theory_rings.proofs.Rings.Fields.{field_set, inv_mul_cancel_left}
use Rattle.theory_rings.proofs.Rings.ZeroTests.{eq_of_sub_eq_zero}
use Rattle.theory_rings.proofs.Sums.Bump.{bump, unbump, bump-unbump, unbump-lt}
use Rattle.theory_rings.proofs.Sums.Sums.{sum_congr, sum_eq_zero, sum-add, sum-neg, sum_take_out, mul-sum}
use Rattle.theory_rings.proofs.Powers.Powers.{power_first, power_last}
use Rattle.theory_spaces.specs.Matrix.{Matrix, mat_mul, delta, Within, Mat}
use Rattle.theory_spaces.proofs.Linear.Families.{put_at, put_at-here, put_at-bump}
use Rattle.theory_spaces.proofs.Linear.Decide.{Related, Free, decide}
use Rattle.theory_spaces.proofs.Matrices.Matrices.{Mat-path, mat_times, matrices, clip_within, sum-delta_mul}
use Rattle.theory_radical.proofs.Chain.RingChains.{Turned, done, step}
use Rattle.theory_radical.proofs.Words.PowersOfSums.{power-mul_suc}
use Rattle.theory_radical.proofs.Nilpotent.MatrixCorners.{sum_front, corner, corner_product, corner-mul, product_within}

module _ {K : Type 0} (F : FieldOn K) (n : ℕ) where
  infixl 65 ◌⊕◌
  infixl 70 ◌⊗◌
  open F use {ring, additive, monoid, ◌⊕◌, ◌⊗◌, neg}

  abbrev set : IsSet K
  set = field_set F

  abbrev pub MF : RingOn (Mat ring n)
  MF = matrices ring set n

  -- f in its first r rows and s columns, and else 0
  abbrev cut : ℕ → ℕ → Matrix K → Matrix K
  cut r s f i j = cond (ltb i r && ltb j s) (f i j) F.zero

  cut-in : (r s : ℕ) (f : Matrix K) (i j : ℕ) → i < r → j < s → cut r s f i j ≡ f i j
  cut-in r s f i j a b = ap₂ (λ x y. cond (x && y) (f i j) F.zero) (lt-ltb i r a) (lt-ltb j s b)

  cut-row : (r s : ℕ) (f : Matrix K) (i j : ℕ) → r ≤ i → cut r s f i j ≡ F.zero
  cut-row r s f i j a = ap (λ x. cond (x && ltb j s) (f i j) F.zero) (le-ltb i r a)

  cut-column : (r s : ℕ) (f : Matrix K) (i j : ℕ) → s ≤ j → cut r s f i j ≡ F.zero
  cut-column r s f i j a = ap (λ y. cond (ltb i r && y) (f i j) F.zero) (le-ltb j s a) ∙ none (ltb i r)
    where
      none : (b : Bool) → cond (b && false) (f i j) F.zero ≡ F.zero
      none true = refl
      none false = refl

  cut_within : (r s : ℕ) (f : Matrix K) → r ≤ n → s ≤ n → Within ring n (cut r s f)
  cut_within r s f a b i j d =
      ⊎_elim (λ (l : n ≤ i). cut-row r s f i j (omega arith)) (λ (l : n ≤ j). cut-column r s f i j (omega arith)) d

  -- M is a product A·B of which B·A stands in the corner of size r
  record Smaller (r : ℕ) (M : Mat ring n) : Type 0 where
    pub left : Mat ring n
    pub right : Mat ring n
    pub product : M ≡ mat_times ring set n left right
    pub within : Within ring r (mat_mul ring n right.0 left.0)

  -- where the rows in the corner of size r + 1 are dependent, one of them is taken out
  module _ (r : ℕ) (fits : suc r ≤ n) (M : Mat ring n) (inside : Within ring (suc r) M.0)
      (rel : Related F (suc r) (suc r) M.0) where
    abbrev j : ℕ
    j = rel.nontrivial.place

    -- the weights, with −1 at j
    abbrev c : ℕ → K
    c i = neg (F.inv (rel.weights j)) ⊗ rel.weights i

    row_j : (k : ℕ) → k < suc r → M.0 j k ≡ sum monoid r (λ l. c (bump j l) ⊗ M.0 (bump j l) k)
    row_j k g =
        let v = rel.weights j in
        let u = F.inv v in
        let others = sum monoid r (λ l. rel.weights (bump j l) ⊗ M.0 (bump j l) k) in
        let e1 : v ⊗ M.0 j k ⊕ others ≡ F.zero =
        sym (sum_take_out monoid r j (λ i. rel.weights i ⊗ M.0 i k) rel.nontrivial.within) ∙ rel.vanishes k g in
        let e2 : others ≡ neg (v ⊗ M.0 j k) = neg_unique additive (v ⊗ M.0 j k) others e1 in
        sym (sum_congr monoid r (λ l. c (bump j l) ⊗ M.0 (bump j l) k)
        (λ l. neg u ⊗ (rel.weights (bump j l) ⊗ M.0 (bump j l) k))
        (λ l _. F.mul_assoc (neg u) (rel.weights (bump j l)) (M.0 (bump j l) k))
        ∙ sym (mul-sum ring r (neg u) (λ l. rel.weights (bump j l) ⊗ M.0 (bump j l) k))
        ∙ ap (λ x. neg u ⊗ x) e2
        ∙ neg-mul ring u (neg (v ⊗ M.0 j k)) ∙ ap neg (mul-neg ring u (v ⊗ M.0 j k))
        ∙ neg_neg additive (u ⊗ (v ⊗ M.0 j k))
        ∙ inv_mul_cancel_left F v (M.0 j k) rel.nontrivial.nonzero)

    -- row i by the rows but j
    abbrev A : Matrix K
    A i l = put_at j (c (bump j l)) (λ i. delta ring i l) i

    abbrev B : Matrix K
    B l k = M.0 (bump j l) k

    entry : (i k : ℕ) → i < suc r → k < suc r → M.0 i k ≡ sum monoid r (λ l. A i l ⊗ B l k)
    entry i k a b = ⊎_elim
        (λ (e : i ≡ j). ap (λ x. M.0 x k) e ∙ row_j k b
        ∙ sum_congr monoid r (λ l. c (bump j l) ⊗ B l k) (λ l. A i l ⊗ B l k)
        (λ l _. ap (λ x. x ⊗ B l k) (sym (ap (λ x. A x l) e ∙ put_at-here j (c (bump j l)) (λ i. delta ring i l)))))
        (λ (d : i ≡ j → ⊥).
        let u = unbump j i in
        let back : bump j u ≡ i = bump-unbump j i d in
        sym (sum_congr monoid r (λ l. A i l ⊗ B l k) (λ l. delta ring u l ⊗ B l k)
        (λ l _. ap (λ x. x ⊗ B l k) (ap (λ x. A x l) (sym back) ∙ put_at-bump j (c (bump j l)) (λ i. delta ring i l) u))
        ∙ sum-delta_mul ring r (λ l. B l k) u (unbump-lt r j i rel.nontrivial.within a d) ∙ ap (λ x. M.0 x k) back))
        (cases_eq i j)

    abbrev L : Matrix K
    L = cut (suc r) r A

    abbrev N : Matrix K
    N = cut r (suc r) B

    inner : (i k : ℕ) → i < suc r → k < suc r → M.0 i k ≡ mat_mul ring n L N i k
    inner i k a b = entry i k a b ∙ sym (
        sum_front ring set n r (omega arith) (λ l. L i l ⊗ N l k)
        (λ l g. ap (λ x. x ⊗ N l k) (cut-column (suc r) r A i l g) ∙ zero-mul ring (N l k))
        ∙ sum_congr monoid r (λ l. L i l ⊗ N l k) (λ l. A i l ⊗ B l k)
        (λ l g. ap₂ (λ x y. x ⊗ y) (cut-in (suc r) r A i l a g) (cut-in r (suc r) B l k g b)))

    outer : (i k : ℕ) → (suc r ≤ i) ⊎ (suc r ≤ k) → M.0 i k ≡ mat_mul ring n L N i k
    outer i k d = inside i k d ∙ sym (sum_eq_zero monoid n (λ l. L i l ⊗ N l k) (λ l g. ⊎_elim
        (λ (t : suc r ≤ i). ap (λ x. x ⊗ N l k) (cut-row (suc r) r A i l t) ∙ zero-mul ring (N l k))
        (λ (t : suc r ≤ k). ap (λ x. L i l ⊗ x) (cut-column r (suc r) B l k t) ∙ mul-zero ring (L i l)) d))

    smaller : Smaller r M
    smaller = record {
      left = (L, cut_within (suc r) r A fits (omega arith));
      right = (N, cut_within r (suc r) B (omega arith) fits);
      product = Mat-path ring set n M
          (mat_times ring set n (L, cut_within (suc r) r A fits (omega arith))
          (N, cut_within r (suc r) B (omega arith) fits)) (λ i k. ⊎_elim
          (λ (a : i < suc r). ⊎_elim (λ (b : k < suc r). inner i k a b) (λ (b : suc r ≤ k). outer i k (inr b))
          (cases_lt k (suc r)))
          (λ (a : suc r ≤ i). outer i k (inl a)) (cases_lt i (suc r)));
      within = λ i k d. sum_eq_zero monoid n (λ l. N i l ⊗ L l k) (λ l g. ⊎_elim
          (λ (t : r ≤ i). ap (λ x. x ⊗ L l k) (cut-row r (suc r) B i l t) ∙ zero-mul ring (L l k))
          (λ (t : r ≤ k). ap (λ x. N i l ⊗ x) (cut-column (suc r) r A l k t) ∙ mul-zero ring (N i l)) d);
    }

  -- a matrix whose rows are independent in the corner of size rank, from which M comes
  pub record Core (M : Mat ring n) : Type 0 where
    pub rank : ℕ
    pub fits : rank ≤ n
    pub matrix : Mat ring n
    pub within : Within ring rank matrix.0
    pub free : Free F rank rank matrix.0
    pub turned : Turned MF matrix M

  core_from : (r : ℕ) → r ≤ n → (M : Mat ring n) → Within ring r M.0 → Core M
  core_from zero l M h =
      record {
        rank = zero;
        fits = l;
        matrix = M;
        within = h;
        free =
            record { only_zero = λ c k i g. absurd (omega arith) };
        turned = done;
      }
  core_from (suc r) l M h = ⊎_elim
      (λ (q : Related F (suc r) (suc r) M.0).
      let s = smaller r l M h q in
      let k = core_from r (omega arith) (mat_times ring set n s.right s.left) s.within in
      record {
        rank = k.rank;
        fits = k.fits;
        matrix = k.matrix;
        within = k.within;
        free = k.free;
        turned =
            step s.left s.right s.product k.turned;
      })
      (λ (f : Free F (suc r) (suc r) M.0). record {
        rank = suc r;
        fits = l;
        matrix = M;
        within = h;
        free = f;
        turned =
            done;
      })
      (decide F (suc r) (suc r) M.0)

  pub core : (M : Mat ring n) → Core M
  core M = core_from n (omega arith) M M.1

  module _ (r : ℕ) (l : r ≤ n) (M : Mat ring n) (h : Within ring r M.0) (free : Free F r r M.0) where
    -- a matrix with independent rows can be cancelled
    core_cancel : (A D : Mat ring n) → Within ring r A.0 → Within ring r D.0 → MF.◌⊗◌ A M ≡ MF.◌⊗◌ D M → A ≡ D
    core_cancel A D ha hd e = Mat-path ring set n A D (λ i j. ⊎_elim
        (λ (g : j < r). eq_of_sub_eq_zero additive (A.0 i j) (D.0 i j)
        (free.only_zero (λ l. A.0 i l ⊕ neg (D.0 i l)) (λ k _. kills i k) j g))
        (λ (g : r ≤ j). ha i j (inr g) ∙ sym (hd i j (inr g))) (cases_lt j r))
      where
        kills : (i k : ℕ) → sum monoid r (λ l. (A.0 i l ⊕ neg (D.0 i l)) ⊗ M.0 l k) ≡ F.zero
        kills i k =
            let x = sum monoid r (λ l. A.0 i l ⊗ M.0 l k) in
            let y = sum monoid r (λ l. D.0 i l ⊗ M.0 l k) in
            let q : x ≡ y = sym (corner_product ring set n r l A M ha i k) ∙ ap (λ (m : Mat ring n). m.0 i k) e
            ∙ corner_product ring set n r l D M hd i k in
            sum_congr monoid r (λ l. (A.0 i l ⊕ neg (D.0 i l)) ⊗ M.0 l k)
            (λ l. A.0 i l ⊗ M.0 l k ⊕ neg (D.0 i l ⊗ M.0 l k))
            (λ l _. F.add-mul (A.0 i l) (neg (D.0 i l)) (M.0 l k)
            ∙ ap (λ z. A.0 i l ⊗ M.0 l k ⊕ z) (neg-mul ring (D.0 i l) (M.0 l k)))
            ∙ sum-add monoid r (λ l. A.0 i l ⊗ M.0 l k) (λ l. neg (D.0 i l ⊗ M.0 l k))
            ∙ ap (λ z. x ⊕ z) (sum-neg additive r (λ l. D.0 i l ⊗ M.0 l k)) ∙ ap (λ z. z ⊕ neg y) q ∙ add-neg additive y

    power_within : (k : ℕ) → Within ring r (power MF M (suc k)).0
    power_within zero = λ i j d. ap (λ (m : Mat ring n). m.0 i j) (power_first MF M) ∙ h i j d
    power_within (suc k) = product_within ring set n r l M (power MF M (suc k)) h (power_within k)

    -- a nilpotent core is 0
    core_nilpotent : (k : ℕ) → power MF M (suc k) ≡ MF.zero → M ≡ MF.zero
    core_nilpotent zero e = sym (power_first MF M) ∙ e
    core_nilpotent (suc k) e = core_nilpotent k
        (core_cancel (power MF M (suc k)) MF.zero (power_within k) (λ i j d. refl)
        (sym (power_last MF M (suc k)) ∙ e ∙ sym (zero-mul MF M)))

    -- a core of which two powers are one is the unit of the corner
    core_idempotent : (k : ℕ) → power MF M (suc (suc k)) ≡ power MF M (suc k) → M ≡ corner ring set n r l
    core_idempotent zero e = core_cancel M (corner ring set n r l) h (clip_within ring set r (delta ring))
        (ap (λ x. MF.◌⊗◌ M x) (sym (power_first MF M)) ∙ e ∙ power_first MF M ∙ sym (corner-mul ring set n r l M h))
    core_idempotent (suc k) e = core_idempotent k
        (core_cancel (power MF M (suc (suc k))) (power MF M (suc k)) (power_within (suc k)) (power_within k)
        (sym (power_last MF M (suc (suc k))) ∙ e ∙ power_last MF M (suc k)))

-- what turning products round keeps
module _ {K : Type 0} (R : RingOn K) where
  infixl 70 ◌⊗◌
  open R use {◌⊗◌}

  nilpotent_forth : (y x : K) → Turned R y x → (k : ℕ) → power R x k ≡ R.zero → (m : ℕ) × (power R y m ≡ R.zero)
  nilpotent_forth y x done k e = (k, e)
  nilpotent_forth y x (step a b q t) k e = nilpotent_forth y (b ⊗ a) t (suc k)
      (power-mul_suc R a b k ∙ ap (λ z. b ⊗ (z ⊗ a)) (ap (λ z. power R z k) (sym q) ∙ e)
      ∙ ap (λ z. b ⊗ z) (zero-mul R a) ∙ mul-zero R b)

  nilpotent_back : (y x : K) → Turned R y x → (k : ℕ) → power R y k ≡ R.zero → (m : ℕ) × (power R x m ≡ R.zero)
  nilpotent_back y x done k e = (k, e)
  nilpotent_back y x (step a b q t) k e =
      let h = nilpotent_back y (b ⊗ a) t k e in (
        suc h.0,
        ap (λ z. power R z (suc h.0)) q ∙ power-mul_suc R b a h.0 ∙ ap (λ z. a ⊗ (z ⊗ b)) h.1
            ∙ ap (λ z. a ⊗ z) (zero-mul R b) ∙ mul-zero R a,
      )

  still_forth : (y x : K) → Turned R y x → (k : ℕ) → power R x (suc (suc k)) ≡ power R x (suc k) → (m : ℕ)
      × (power R y (suc (suc m)) ≡ power R y (suc m))
  still_forth y x done k e = (k, e)
  still_forth y x (step a b q t) k e = still_forth y (b ⊗ a) t (suc k)
      (power-mul_suc R a b (suc (suc k))
      ∙ ap (λ z. b ⊗ (z ⊗ a)) (ap (λ z. power R z (suc (suc k))) (sym q) ∙ e ∙ ap (λ z. power R z (suc k)) q)
      ∙ sym (power-mul_suc R a b (suc k)))

  pub power-idempotent : (e : K) → e ⊗ e ≡ e → (k : ℕ) → power R e (suc k) ≡ e
  power-idempotent e h zero = power_first R e
  power-idempotent e h (suc k) = ap (λ z. e ⊗ z) (power-idempotent e h k) ∙ h

module _ {K : Type 0} (F : FieldOn K) (n : ℕ) where
  abbrev R : RingOn (Mat F.ring n)
  R = MF F n

  abbrev unit : (r : ℕ) → r ≤ n → Mat F.ring n
  unit = corner F.ring (field_set F) n

  -- a nilpotent matrix comes from 0
  pub nilpotent_turned : (x : Mat F.ring n) (k : ℕ) → power R x k ≡ R.zero → Turned R R.zero x
  nilpotent_turned x k e =
      let c = core F n x in
      let h = nilpotent_forth R c.matrix x c.turned k e in
      let q : power R c.matrix (suc h.0) ≡ R.zero = ap (λ z. R.◌⊗◌ c.matrix z) h.1 ∙ mul-zero R c.matrix in
      subst (λ y. Turned R y x) (core_nilpotent F n c.rank c.fits c.matrix c.within c.free h.0 q) c.turned

  -- x comes from the unit of a corner, and is 0 where the corner is empty
  pub record FromCorner (x : Mat F.ring n) : Type 0 where
    pub rank : ℕ
    pub fits : rank ≤ n
    pub turned : Turned R (unit rank fits) x
    pub none : rank ≡ 0 → x ≡ R.zero

  -- an idempotent matrix comes from the unit of a corner
  pub idempotent_turned : (x : Mat F.ring n) → R.◌⊗◌ x x ≡ x → FromCorner x
  idempotent_turned x e =
      let c = core F n x in
      let h = still_forth R c.matrix x c.turned 0 (power-idempotent R x e 1 ∙ sym (power-idempotent R x e 0)) in
      let q : c.matrix ≡ unit c.rank c.fits = core_idempotent F n c.rank c.fits c.matrix c.within c.free h.0 h.1 in
      let t : Turned R (unit c.rank c.fits) x = subst (λ y. Turned R y x) q c.turned in
      record {
        rank = c.rank;
        fits = c.fits;
        turned = t;
        none = λ l.
            let z : power R (unit c.rank c.fits) 1 ≡ R.zero = power_first R (unit c.rank c.fits)
            ∙ Mat-path F.ring (field_set F) n (unit c.rank c.fits) R.zero
            (λ i j. clip_within F.ring (field_set F) c.rank (delta F.ring) i j (inl (omega arith))) in
            let b = nilpotent_back R (unit c.rank c.fits) x t 1 z in
            sym (power-idempotent R x e b.0) ∙ ap (λ z. R.◌⊗◌ x z) b.1 ∙ mul-zero R x;
      }
