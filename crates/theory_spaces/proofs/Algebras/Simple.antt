-- An algebra with a nondegenerate trace form and no more than the multiples of one in its centre is central simple.
use Rattle.std.specs.Prelude.{◌≡◌, ℕ, ◌<◌, ◌≤◌, ◌⊎◌}
use Rattle.std.proofs.Common.{refl, sym, ◌∙◌, ap, ap₂, subst, arith, inl, inr, ⊎_elim}
use Rattle.std.proofs.lemmas.Bool.{cases_lt}
use Rattle.theory_rings.specs.Ring.{FieldOn}
use Rattle.theory_rings.specs.Sum.{sum}
use Rattle.theory_rings.proofs.Rings.RingLaws.{add-zero, add-neg, mul-zero, zero-mul, neg_unique}
use Rattle.theory_rings.proofs.Sums.Sums.{sum_congr, sum_eq_zero, mul-sum}
use Rattle.theory_rings.proofs.Rings.Solver.{◌⊞◌, ◌⊠◌, minus, ring2, words3}
use Rattle.theory_rings.proofs.Rings.Fields.{inv_mul_cancel_left}
use Rattle.theory_rings.proofs.Rings.ZeroTests.{eq_zero_or, eq_of_sub_eq_zero}
use Rattle.theory_spaces.specs.Module.{ModuleOn, AlgebraOn, module_of}
use Rattle.theory_spaces.specs.Linear.{comb, InSpan, Independent, Basis}
use Rattle.theory_spaces.specs.Algebra.{Central, CentralSimple, Nondegenerate, trace}
use Rattle.theory_spaces.proofs.Linear.Families.{push, push-below, push-at}
use Rattle.theory_spaces.proofs.Linear.Modules.{left_linear, right_linear, zero-scale, InSpan-add, InSpan-neg}
use Rattle.theory_spaces.proofs.Linear.Modules.{InSpan-scale, InSpan_trans, InSpan-member, map-comb}
use Rattle.theory_spaces.proofs.Linear.Decide.{Free}
use Rattle.theory_spaces.proofs.Linear.Dimension.{dependent}
use Rattle.theory_spaces.proofs.Linear.Spaces.{coords_of, span_basis}
use Rattle.theory_spaces.proofs.Forms.Traces.{trace-add, trace-neg, trace-comb, trace-nilpotent}

module _ {K : Type 0} (F : FieldOn K) where
  infixl 65 ◌⊕◌
  infixl 70 ◌⊗◌
  open F use {ring, additive, monoid, ◌⊕◌, ◌⊗◌, neg}

  pub record Solution (k : ℕ) (a : ℕ → ℕ → K) (b : ℕ → K) : Type 0 where
    pub weights : ℕ → K
    pub solves : (j : ℕ) → j < k → sum monoid k (λ i. weights i ⊗ a i j) ≡ b j

  -- k free rows of length k reach every row
  pub solve_free : (k : ℕ) (a : ℕ → ℕ → K) → Free F k k a → (b : ℕ → K) → Solution k a b
  solve_free k a f b =
      let r = dependent F k (push k b a) in
      let c = r.weights in
      let parts : (j : ℕ) → j < k → sum monoid k (λ i. c i ⊗ a i j) ⊕ c k ⊗ b j ≡ F.zero = λ j l.
      sym (ap₂ (λ x y. x ⊕ y)
      (sum_congr monoid k (λ i. c i ⊗ push k b a i j) (λ i. c i ⊗ a i j)
      (λ i g. ap (λ (w : ℕ → K). c i ⊗ w j) (push-below k b a i g)))
      (ap (λ (w : ℕ → K). c k ⊗ w j) (push-at k b a))) ∙ r.vanishes j l in
      let nonzero : c k ≡ F.zero → ⊥ = λ z.
      let all : (i : ℕ) → i < k → c i ≡ F.zero = f.only_zero c (λ j l.
      sym (add-zero monoid (sum monoid k (λ i. c i ⊗ a i j)))
      ∙ ap (λ x. sum monoid k (λ i. c i ⊗ a i j) ⊕ x) (sym (ap (λ x. x ⊗ b j) z ∙ zero-mul ring (b j)))
      ∙ parts j l) in
      let p = r.nontrivial in
      p.nonzero (⊎_elim (λ (l : p.place < k). all p.place l)
      (λ (l : k ≤ p.place). let w = p.within in let q : p.place ≡ k = omega arith in ap c q ∙ z)
      (cases_lt p.place k)) in
      let d = F.inv (c k) in
      record {
        weights = λ i. neg d ⊗ c i;
        solves = λ j l.
            let s = sum monoid k (λ i. c i ⊗ a i j) in
            sum_congr monoid k (λ i. neg d ⊗ c i ⊗ a i j) (λ i. neg d ⊗ (c i ⊗ a i j))
            (λ i _. F.mul_assoc (neg d) (c i) (a i j))
            ∙ sym (mul-sum ring k (neg d) (λ i. c i ⊗ a i j))
            ∙ (let e : c k ⊗ b j ≡ neg s = neg_unique additive s (c k ⊗ b j) (parts j l) in
            ring2 F.cring (λ x y. (minus x ⊠ y, x ⊠ minus y)) refl d s ∙ ap (λ y. d ⊗ y) (sym e)
            ∙ inv_mul_cancel_left F (c k) (b j) nonzero);
      }

module _ {K V : Type 0} (F : FieldOn K) (A : AlgebraOn F.ring V) (m : ℕ) (B : Basis (module_of A) m) where
  infixl 65 ◌⊕◌
  infixl 70 ◌⊗◌
  open A use {◌⊕◌, ◌⊗◌, neg}

  abbrev M : ModuleOn F.ring V
  M = module_of A

  abbrev t : V → K
  t = trace A m B

  t-neg : (x : V) → t (neg x) ≡ F.neg (t x)
  t-neg = trace-neg F.cring A m B

  t-comb : (n : ℕ) (c : ℕ → K) (v : ℕ → V) → t (comb M n c v) ≡ sum F.monoid n (λ i. F.◌⊗◌ (c i) (t (v i)))
  t-comb = trace-comb F.cring A m B

  square_zero : (z : V) → z ⊗ z ≡ A.zero → t z ≡ F.zero
  square_zero z e = trace-nilpotent F A m B z (record { exponent = 2; vanishes = ap (λ x. z ⊗ x) (A.mul-one z) ∙ e })

  -- an ideal with independent vectors that span it
  module _ (non : Nondegenerate A m B) (k : ℕ) (u : ℕ → V) (ind : Independent M k u)
      (on_left : (y : V) → InSpan M k u y → (x : V) → InSpan M k u (x ⊗ y))
      (on_right : (y : V) → InSpan M k u y → (x : V) → InSpan M k u (y ⊗ x)) where
    abbrev In : V → Type 0
    In y = InSpan M k u y

    -- what is orthogonal to the u is orthogonal to the ideal
    orthogonal : (y : V) → ((j : ℕ) → j < k → t (y ⊗ u j) ≡ F.zero) → (x : V) → In x → t (y ⊗ x) ≡ F.zero
    orthogonal y h x s =
        ap (λ z. t (y ⊗ z)) s.combines ∙ ap t (map-comb M M (λ x. y ⊗ x) (left_linear A y) k s.weights u)
        ∙ t-comb k s.weights (λ j. y ⊗ u j)
        ∙ sum_eq_zero F.monoid k (λ j. F.◌⊗◌ (s.weights j) (t (y ⊗ u j)))
        (λ j l. ap (λ a. F.◌⊗◌ (s.weights j) a) (h j l) ∙ mul-zero F.ring (s.weights j))

    -- the trace form is nondegenerate on the ideal
    meets_zero : (y : V) → In y → ((x : V) → In x → t (y ⊗ x) ≡ F.zero) → y ≡ A.zero
    meets_zero y iy o = non.only_zero y (λ c.
        let z = y ⊗ c in
        let iz : In z = on_right y iy c in
        square_zero z (non.only_zero (z ⊗ z) (λ w.
        ap t (A.mul_assoc z z w ∙ A.mul_assoc y c (z ⊗ w)) ∙ o (c ⊗ (z ⊗ w)) (on_left (z ⊗ w) (on_right z iz w) c))))

    gram_free : Free F k k (λ i j. t (u i ⊗ u j))
    gram_free = record {
      only_zero = λ c h. ind.only_zero c
          (meets_zero (comb M k c u) (record { weights = c; combines = refl })
          (orthogonal (comb M k c u) (λ j l.
          ap t (map-comb M M (λ x. x ⊗ u j) (right_linear A (u j)) k c u) ∙ t-comb k c (λ i. u i ⊗ u j) ∙ h j l)));
    }

    abbrev solution : Solution F k (λ i j. t (u i ⊗ u j)) (λ j. t (u j))
    solution = solve_free F k (λ i j. t (u i ⊗ u j)) gram_free (λ j. t (u j))

    -- the unit of the ideal
    abbrev e : V
    e = comb M k solution.weights u

    e-in : In e
    e-in = record { weights = solution.weights; combines = refl }

    e-basis : (j : ℕ) → j < k → t (e ⊗ u j) ≡ t (u j)
    e-basis j l = ap t (map-comb M M (λ x. x ⊗ u j) (right_linear A (u j)) k solution.weights u)
        ∙ t-comb k solution.weights (λ i. u i ⊗ u j) ∙ solution.solves j l

    minus-mul : (x y z : V) → t ((x ⊕ neg y) ⊗ z) ≡ F.◌⊕◌ (t (x ⊗ z)) (F.neg (t (y ⊗ z)))
    minus-mul x y z =
        ap t (words3 A.ring (λ x y z. ((x ⊞ minus y) ⊠ z, x ⊠ z ⊞ minus (y ⊠ z))) refl x y z)
        ∙ trace-add F.cring A m B (x ⊗ z) (neg (y ⊗ z)) ∙ ap (λ a. F.◌⊕◌ (t (x ⊗ z)) a) (t-neg (y ⊗ z))

    same_of_trace : (x y : V) → In x → In y → ((z : V) → In z → t (x ⊗ z) ≡ t (y ⊗ z)) → x ≡ y
    same_of_trace x y ix iy h = eq_of_sub_eq_zero A.additive x y (meets_zero (x ⊕ neg y)
        (InSpan-add M k u x (neg y) ix (InSpan-neg M k u y iy))
        (λ z iz. minus-mul x y z ∙ ap (λ a. F.◌⊕◌ a (F.neg (t (y ⊗ z)))) (h z iz) ∙ add-neg F.additive (t (y ⊗ z))))

    e-trace : (x : V) → In x → t (e ⊗ x) ≡ t x
    e-trace x s =
        ap (λ z. t (e ⊗ z)) s.combines ∙ ap t (map-comb M M (λ x. e ⊗ x) (left_linear A e) k s.weights u)
        ∙ t-comb k s.weights (λ j. e ⊗ u j)
        ∙ sum_congr F.monoid k (λ j. F.◌⊗◌ (s.weights j) (t (e ⊗ u j))) (λ j. F.◌⊗◌ (s.weights j) (t (u j)))
        (λ j l. ap (λ a. F.◌⊗◌ (s.weights j) a) (e-basis j l))
        ∙ sym (t-comb k s.weights u) ∙ ap t (sym s.combines)

    e-left : (y : V) → In y → e ⊗ y ≡ y
    e-left y iy = same_of_trace (e ⊗ y) y (on_left y iy e) iy
        (λ z iz. ap t (A.mul_assoc e y z) ∙ e-trace (y ⊗ z) (on_right y iy z))

    e-right : (y : V) → In y → y ⊗ e ≡ y
    e-right y iy = same_of_trace (y ⊗ e) y (on_right y iy e) iy
        (λ z iz. ap t (A.mul_assoc y e z ∙ ap (λ w. y ⊗ w) (e-left z iz)))

    e-central : (x : V) → e ⊗ x ≡ x ⊗ e
    e-central x = sym (e-right (e ⊗ x) (on_right e e-in x)) ∙ A.mul_assoc e x e ∙ e-left (x ⊗ e) (on_left e e-in x)

    all_or_nothing : Central A → ((y : V) → In y → y ≡ A.zero) ⊎ ((x : V) → In x)
    all_or_nothing ct =
        let a = ct.multiple e e-central in
        ⊎_elim
        (λ (z : a.0 ≡ F.zero).
        inl (λ y iy. sym (e-left y iy) ∙ ap (λ w. w ⊗ y) (a.1 ∙ ap (λ b. A.◌•◌ b A.one) z ∙ zero-scale M A.one)
        ∙ zero-mul A.ring y))
        (λ (d : a.0 ≡ F.zero → ⊥). inr (λ x.
        let q : A.◌•◌ (F.inv a.0) (e ⊗ x) ≡ x =
        ap (λ w. A.◌•◌ (F.inv a.0) (w ⊗ x)) a.1
        ∙ ap (λ w. A.◌•◌ (F.inv a.0) w) (A.scale-left a.0 A.one x ∙ ap (λ w. A.◌•◌ a.0 w) (A.one-mul x))
        ∙ sym (A.mul-scale (F.inv a.0) a.0 x) ∙ ap (λ b. A.◌•◌ b x) (F.inv-mul a.0 d) ∙ A.one-scale x in
        let P : V → Type 0 = In in subst P q (InSpan-scale M k u (F.inv a.0) (e ⊗ x) (on_right e e-in x))))
        (eq_zero_or F.zero_test a.0)

  -- centre K and a nondegenerate trace form make the algebra central simple
  pub central_simple : Nondegenerate A m B → Central A → CentralSimple A
  central_simple non ct = record {
    central = ct;
    simple = λ n g ideal.
        let r = span_basis F M m (coords_of M m B) n g in
        let w = r.1 in
        let size = r.0 in
        let up : (x : V) → InSpan M n g x → InSpan M size w.vec x = w.spans in
        let back : (x : V) → InSpan M size w.vec x → InSpan M n g x = λ x. InSpan_trans M size n w.vec g x w.inside in
        let on_left : (y : V) → InSpan M size w.vec y → (x : V) → InSpan M size w.vec (x ⊗ y) =
        λ y iy x. up (x ⊗ y) (ideal.left x y tt (back y iy)) in
        let on_right : (y : V) → InSpan M size w.vec y → (x : V) → InSpan M size w.vec (y ⊗ x) =
        λ y iy x. up (y ⊗ x) (ideal.right x y tt (back y iy)) in
        ⊎_elim
        (λ (z : (y : V) → InSpan M size w.vec y → y ≡ A.zero). inl
        (λ i l. z (g i) (up (g i) (InSpan-member M n i g l))))
        (λ (s : (x : V) → InSpan M size w.vec x). inr (λ x. back x (s x)))
        (all_or_nothing non size w.vec w.independent on_left on_right ct);
  }
