-- Lattices over a valuation ring: finitely many vectors span with integral weights what some independent ones span.
use Rattle.std.specs.Prelude.{◌≡◌, ℕ, zero, suc, ◌<◌, ◌≤◌, IsTrue, ◌⊎◌}
use Rattle.std.proofs.Common.{sym, ◌∙◌, ap, ap₂, subst, arith, inl, inr, ⊎_elim}
use Rattle.std.proofs.lemmas.Bool.{cases_eq, cases_lt}
use Rattle.theory_rings.specs.Ring.{FieldOn}
use Rattle.theory_rings.proofs.Rings.RingLaws.{add-zero, add-neg, mul-zero, zero-mul, neg-mul, eq_zero_of_mul-unit}
use Rattle.theory_rings.proofs.Rings.Fields.{mul-inv, inv_mul_cancel_left, inv_mul_cancel_right}
use Rattle.theory_rings.proofs.Sums.Bump.{unbump, bump-unbump, unbump-lt, bump, bump-lt}
use Rattle.theory_rings.proofs.Sums.Sums.{sum_eq_zero}
use Rattle.theory_rings.proofs.Rings.ZeroTests.{eq_zero_or}
use Rattle.theory_spaces.specs.Module.{ModuleOn}
use Rattle.theory_spaces.specs.Linear.{comb, Coords}
use Rattle.theory_spaces.specs.Lattice.{LatticeOver}
use Rattle.theory_spaces.specs.Valuation.{ValuationOn, IsIntegral, Integer, LatticeBasis}
use Rattle.theory_spaces.proofs.Linear.Families.{push, push-below, push-at, below_suc}
use Rattle.theory_spaces.proofs.Linear.Modules.{zero-scale, comb-push}
use Rattle.theory_spaces.proofs.Linear.LatticeSpans.{lattice-add, lattice-scale, lattice-push, lattice-push_at}
use Rattle.theory_spaces.proofs.Linear.LatticeSpans.{lattice_trans, lattice-member}
use Rattle.theory_spaces.proofs.Linear.Spaces.{coord-comb}

module _ {K : Type 0} (F : FieldOn K) (W : ValuationOn F) where
  -- an entry that divides all others
  pub record Divides (n : ℕ) (f : ℕ → K) : Type 0 where
    pub place : ℕ
    pub within : place < n
    pub nonzero : f place ≡ F.zero → ⊥
    pub divides : (i : ℕ) → i < n → IsTrue (W.integral (F.◌⊗◌ (f i) (F.inv (f place))))

  move : (a b : K) → a ≡ b → IsTrue (W.integral a) → IsTrue (W.integral b)
  move a b e h = let P : K → Type 0 = λ x. IsTrue (W.integral x) in subst P e h

  inv-inv_mul : (a b : K) → (a ≡ F.zero → ⊥) → (b ≡ F.zero → ⊥) → F.inv (F.◌⊗◌ a (F.inv b)) ≡ F.◌⊗◌ b (F.inv a)
  inv-inv_mul a b na nb =
      let x = F.◌⊗◌ a (F.inv b) in
      let y = F.◌⊗◌ b (F.inv a) in
      let xb : F.◌⊗◌ x b ≡ a = inv_mul_cancel_right F a b nb in
      let nx : x ≡ F.zero → ⊥ = λ e. na (sym xb ∙ ap (λ z. F.◌⊗◌ z b) e ∙ zero-mul F.ring b) in
      let xy : F.◌⊗◌ x y ≡ F.one = sym (F.mul_assoc x b (F.inv a)) ∙ ap (λ z. F.◌⊗◌ z (F.inv a)) xb ∙ mul-inv F a na in
      sym (F.mul-one (F.inv x)) ∙ ap (λ z. F.◌⊗◌ (F.inv x) z) (sym xy) ∙ inv_mul_cancel_left F x y nx

  pub least : (n : ℕ) (f : ℕ → K) → Divides n f ⊎ ((i : ℕ) → i < n → f i ≡ F.zero)
  least zero f = inr (λ i l. absurd (omega arith))
  least (suc n) f = ⊎_elim (with_pivot)
      (λ z. ⊎_elim (λ e. inr (all_zero z e)) (λ d. inl (first z d)) (eq_zero_or F.zero_test (f n))) (least n f)
    where
      all_zero : ((i : ℕ) → i < n → f i ≡ F.zero) → f n ≡ F.zero → (i : ℕ) → i < suc n → f i ≡ F.zero
      all_zero z e = below_suc n (λ i. f i ≡ F.zero) z e

      first : ((i : ℕ) → i < n → f i ≡ F.zero) → (f n ≡ F.zero → ⊥) → Divides (suc n) f
      first z d = record {
        place = n;
        within = omega arith;
        nonzero = d;
        divides = λ i l. ⊎_elim
            (λ (g : i < n). move F.zero (F.◌⊗◌ (f i) (F.inv (f n)))
            (sym (ap (λ x. F.◌⊗◌ x (F.inv (f n))) (z i g) ∙ zero-mul F.ring (F.inv (f n)))) W.zero_in)
            (λ (g : n ≤ i). let q : i ≡ n = omega arith in
            move F.one (F.◌⊗◌ (f i) (F.inv (f n)))
            (sym (ap (λ x. F.◌⊗◌ x (F.inv (f n))) (ap f q) ∙ mul-inv F (f n) d)) W.one_in) (cases_lt i n);
      }

      keep : (p : Divides n f) → IsTrue (W.integral (F.◌⊗◌ (f n) (F.inv (f p.place)))) → Divides (suc n) f
      keep p h = record {
        place = p.place;
        within = (let w = p.within in omega arith);
        nonzero = p.nonzero;
        divides = λ i l. ⊎_elim (λ (g : i < n). p.divides i g)
            (λ (g : n ≤ i). let q : n ≡ i = omega arith in
            move (F.◌⊗◌ (f n) (F.inv (f p.place))) (F.◌⊗◌ (f i) (F.inv (f p.place)))
            (ap (λ k. F.◌⊗◌ (f k) (F.inv (f p.place))) q) h) (cases_lt i n);
      }

      replace : (p : Divides n f) → (f n ≡ F.zero → ⊥) → IsTrue (W.integral (F.◌⊗◌ (f p.place) (F.inv (f n))))
          → Divides (suc n) f
      replace p d h = record {
        place = n;
        within = omega arith;
        nonzero = d;
        divides = λ i l. ⊎_elim
            (λ (g : i < n).
            move (F.◌⊗◌ (F.◌⊗◌ (f i) (F.inv (f p.place))) (F.◌⊗◌ (f p.place) (F.inv (f n)))) (F.◌⊗◌ (f i) (F.inv (f n)))
            (F.mul_assoc (f i) (F.inv (f p.place)) (F.◌⊗◌ (f p.place) (F.inv (f n)))
            ∙ ap (λ x. F.◌⊗◌ (f i) x) (inv_mul_cancel_left F (f p.place) (F.inv (f n)) p.nonzero))
            (W.mul_in (F.◌⊗◌ (f i) (F.inv (f p.place))) (F.◌⊗◌ (f p.place) (F.inv (f n))) (p.divides i g) h))
            (λ (g : n ≤ i). let q : i ≡ n = omega arith in
            move F.one (F.◌⊗◌ (f i) (F.inv (f n)))
            (sym (ap (λ x. F.◌⊗◌ x (F.inv (f n))) (ap f q) ∙ mul-inv F (f n) d)) W.one_in) (cases_lt i n);
      }

      with_pivot : Divides n f → Divides (suc n) f ⊎ ((i : ℕ) → i < suc n → f i ≡ F.zero)
      with_pivot p = ⊎_elim
          (λ (e : f n ≡ F.zero).
          inl (keep p (move F.zero (F.◌⊗◌ (f n) (F.inv (f p.place)))
          (sym (ap (λ x. F.◌⊗◌ x (F.inv (f p.place))) e ∙ zero-mul F.ring (F.inv (f p.place)))) W.zero_in)))
          (λ (d : f n ≡ F.zero → ⊥). ⊎_elim
          (λ (h : IsTrue (W.integral (F.◌⊗◌ (f n) (F.inv (f p.place))))). inl (keep p h))
          (λ (h : IsTrue (W.integral (F.inv (F.◌⊗◌ (f n) (F.inv (f p.place)))))). inl
          (replace p d (move (F.inv (F.◌⊗◌ (f n) (F.inv (f p.place)))) (F.◌⊗◌ (f p.place) (F.inv (f n)))
          (inv-inv_mul (f n) (f p.place) d p.nonzero) h)))
          (W.total (F.◌⊗◌ (f n) (F.inv (f p.place)))))
          (eq_zero_or F.zero_test (f n))

module _ {K V : Type 0} (F : FieldOn K) (W : ValuationOn F) (M : ModuleOn F.ring V) (m : ℕ) (C : Coords M m) where
  infixl 65 ◌⊕◌
  infixl 70 ◌•◌
  open M use {additive, monoid, ◌⊕◌, ◌•◌}

  abbrev L : ℕ → (ℕ → V) → V → Type 0
  L = LatticeOver M (IsIntegral F W)

  -- no coordinate from k on
  abbrev pub Short : ℕ → V → Type 0
  Short k x = (j : ℕ) → k ≤ j → j < m → C.coord x j ≡ F.zero

  short-span : (k n : ℕ) (v : ℕ → V) → ((i : ℕ) → i < n → Short k (v i)) → (x : V) → L n v x → Short k x
  short-span k n v h x s j a b =
      ap (λ y. C.coord y j) s.combines ∙ coord-comb M m C n s.weights v j
      ∙ sum_eq_zero F.monoid n (λ i. F.◌⊗◌ (s.weights i) (C.coord (v i) j))
      (λ i l. ap (λ x. F.◌⊗◌ (s.weights i) x) (h i l j a b) ∙ mul-zero F.ring (s.weights i))

  module _ (k n : ℕ) (v : ℕ → V) (short : (i : ℕ) → i < suc n → Short (suc k) (v i)) (low : k < m)
      (p : Divides F W (suc n) (λ i. C.coord (v i) k)) where
    abbrev q : ℕ
    q = p.place

    factor_at : (i : ℕ) → (i < n) ⊎ (n ≤ i) → Integer F W
    factor_at i (inl l) = (
      F.neg (F.◌⊗◌ (C.coord (v (bump q i)) k) (F.inv (C.coord (v q) k))),
      W.neg_in (F.◌⊗◌ (C.coord (v (bump q i)) k) (F.inv (C.coord (v q) k))) (p.divides (bump q i) (bump-lt q i n l)),
    )
    factor_at i (inr l) = (F.zero, W.zero_in)

    factor : ℕ → Integer F W
    factor i = factor_at i (cases_lt i n)

    -- v q taken away from the others
    reduced : ℕ → V
    reduced i = v (bump q i) ⊕ (factor i).0 • v q

    reduced-zero : (i : ℕ) (d : (i < n) ⊎ (n ≤ i)) → i < n
        → F.◌⊕◌ (C.coord (v (bump q i)) k) (F.◌⊗◌ (factor_at i d).0 (C.coord (v q) k)) ≡ F.zero
    unfolding factor_at
    reduced-zero i (inl l) g =
        let a = C.coord (v (bump q i)) k in
        let b = C.coord (v q) k in
        ap (λ z. F.◌⊕◌ a z) (neg-mul F.ring (F.◌⊗◌ a (F.inv b)) b ∙ ap F.neg (inv_mul_cancel_right F a b p.nonzero))
        ∙ add-neg F.additive a
    reduced-zero i (inr l) g = absurd (omega arith)

    reduced-short : (i : ℕ) → i < n → Short k (reduced i)
    unfolding reduced factor
    reduced-short i l j a b =
        C.coord-add (v (bump q i)) ((factor i).0 • v q) j
        ∙ ap (λ z. F.◌⊕◌ (C.coord (v (bump q i)) j) z) (C.coord-scale (factor i).0 (v q) j)
        ∙ ⊎_elim
        (λ (g : k < j). ap₂ (λ x y. F.◌⊕◌ x (F.◌⊗◌ (factor i).0 y)) (short (bump q i) (bump-lt q i n l) j g b)
        (short q p.within j g b)
        ∙ ap (λ z. F.◌⊕◌ F.zero z) (mul-zero F.ring (factor i).0) ∙ F.zero-add F.zero)
        (λ (g : j ≤ k). let e : j ≡ k = omega arith in rw e (reduced-zero i (cases_lt i n) l))
        (cases_lt k j)

    extended : LatticeBasis F W M n reduced → LatticeBasis F W M (suc n) v
    unfolding reduced
    extended B =
        let r = B.rank in
        let u = push r (v q) B.vec in
        let at_end : L (suc r) u (v q) = lattice-push_at F W M r (v q) B.vec in
        let others : (j : ℕ) → j < n → L (suc r) u (v (bump q j)) = λ j l.
        let x = v (bump q j) in
        let y = (factor j).0 • v q in
        let e : reduced j ⊕ (F.neg (factor j).0) • v q ≡ x =
        M.add_assoc x y ((F.neg (factor j).0) • v q)
        ∙ ap (λ z. x ⊕ z) (sym (M.add-scale (factor j).0 (F.neg (factor j).0) (v q))
        ∙ ap (λ a. a • v q) (add-neg F.additive (factor j).0) ∙ zero-scale M (v q))
        ∙ add-zero monoid x in
        let P : V → Type 0 = λ z. L (suc r) u z in
        subst P e (lattice-add F W M (suc r) u (reduced j) ((F.neg (factor j).0) • v q)
        (lattice-push F W M r (v q) B.vec (reduced j) (B.spans j l))
        (lattice-scale F W M (suc r) u (F.neg (factor j).0, W.neg_in (factor j).0 (factor j).1) (v q) at_end)) in
        let from_v : (i : ℕ) → i < n → L (suc n) v (reduced i) = λ i l.
        lattice-add F W M (suc n) v (v (bump q i)) ((factor i).0 • v q)
        (lattice-member F W M (suc n) (bump q i) v (bump-lt q i n l))
        (lattice-scale F W M (suc n) v (factor i) (v q) (lattice-member F W M (suc n) q v p.within)) in
        record {
          rank = suc r;
          vec = u;
          independent = record {
            only_zero = λ c e i l.
                let e1 : comb M r c B.vec ⊕ c r • v q ≡ M.zero = sym (comb-push M r c (v q) B.vec) ∙ e in
                let flat : C.coord (comb M r c B.vec) k ≡ F.zero =
                coord-comb M m C r c B.vec k ∙ sum_eq_zero F.monoid r (λ j. F.◌⊗◌ (c j) (C.coord (B.vec j) k))
                (λ j g. ap (λ x. F.◌⊗◌ (c j) x)
                (short-span k n reduced reduced-short (B.vec j) (B.within j g) k (omega arith) low)
                ∙ mul-zero F.ring (c j)) in
                let e2 : F.◌⊗◌ (c r) (C.coord (v q) k) ≡ F.zero =
                sym (C.coord-add (comb M r c B.vec) (c r • v q) k ∙ ap₂ F.◌⊕◌ flat (C.coord-scale (c r) (v q) k)
                ∙ F.zero-add (F.◌⊗◌ (c r) (C.coord (v q) k)))
                ∙ ap (λ y. C.coord y k) e1 ∙ C.coord-zero k in
                let e3 : c r ≡ F.zero =
                eq_zero_of_mul-unit F.ring (c r) (C.coord (v q) k) (F.inv (C.coord (v q) k))
                (mul-inv F (C.coord (v q) k) p.nonzero) e2 in
                let e4 : comb M r c B.vec ≡ M.zero =
                sym (add-zero monoid (comb M r c B.vec))
                ∙ ap (λ y. comb M r c B.vec ⊕ y) (sym (ap (λ a. a • v q) e3 ∙ zero-scale M (v q))) ∙ e1 in
                below_suc r (λ i. c i ≡ F.zero) (B.independent.only_zero c e4) e3 i l;
          };
          spans = λ i l. ⊎_elim
              (λ (e : q ≡ i). let P : ℕ → Type 0 = λ j. L (suc r) u (v j) in subst P e at_end)
              (λ (d : q ≡ i → ⊥). let P : ℕ
              → Type 0 = λ j. L (suc r) u (v j) in
              subst P (bump-unbump q i (λ x. d (sym x)))
              (others (unbump q i) (unbump-lt n q i p.within l (λ x. d (sym x)))))
              (cases_eq q i);
          within = λ j l. ⊎_elim
              (λ (g : j < r). let P : V → Type 0 = λ z. L (suc n) v z in
              subst P (sym (push-below r (v q) B.vec j g))
              (lattice_trans F W M n (suc n) reduced v (B.vec j) from_v (B.within j g)))
              (λ (g : r ≤ j). let w : r ≡ j = omega arith in let P : V → Type 0 = λ z. L (suc n) v z in
              subst P (sym (ap u (sym w) ∙ push-at r (v q) B.vec)) (lattice-member F W M (suc n) q v p.within))
              (cases_lt j r);
        }

  empty : (n : ℕ) (v : ℕ → V) → ((i : ℕ) → i < n → v i ≡ M.zero) → LatticeBasis F W M n v
  empty n v z = record {
    rank = zero;
    vec = v;
    independent = record { only_zero = λ c e i l. absurd (omega arith) };
    spans = λ i l. record { weights = λ j. F.zero; passes = λ j _. W.zero_in; combines = z i l };
    within = λ j l. absurd (omega arith);
  }

  basis_below : (k : ℕ) → k ≤ m → (n : ℕ) (v : ℕ → V) → ((i : ℕ) → i < n → Short k (v i)) → LatticeBasis F W M n v
  basis_below zero l n v h = empty n v (λ i g. C.faithful (v i) (λ j b. h i g j (omega arith) b))
  basis_below (suc k) l zero v h = empty zero v (λ i g. absurd (omega arith))
  basis_below (suc k) l (suc n) v h = ⊎_elim
      (λ (p : Divides F W (suc n) (λ i. C.coord (v i) k)).
      extended k n v h (omega arith) p
      (basis_below k (omega arith) n (reduced k n v h (omega arith) p) (reduced-short k n v h (omega arith) p)))
      (λ (z : (i : ℕ) → i < suc n → C.coord (v i) k ≡ F.zero).
      basis_below k (omega arith) (suc n) v
      (λ i g j a b. ⊎_elim (λ (c : k < j). h i g j c b)
      (λ (c : j ≤ k). let e : j ≡ k = omega arith in ap (C.coord (v i)) e ∙ z i g) (cases_lt k j)))
      (least F W (suc n) (λ i. C.coord (v i) k))

  -- what finitely many vectors span over the integers has a basis
  pub lattice_basis : (n : ℕ) (v : ℕ → V) → LatticeBasis F W M n v
  lattice_basis n v = basis_below m (omega arith) n v (λ i g j a b. absurd (omega arith))
